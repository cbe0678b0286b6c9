-- A call that comes in: it is cleared, or joined to one that is placed.
use Rattle.std.proofs.Common.{◌≡◌, ℕ, ◌⊎◌, inl, inr, Bool, true, false, if◌then◌else◌, ◌&&◌, ◌==◌, List, [], ◌∷◌, Option, Some, None, is_some, refl, sym, ap, subst, ◌∙◌, true≢false, option_map}
use Rattle.std.specs.Prelude.{slice_get}
use Rattle.std.proofs.lemmas.Option.{none-some, same_Some}
use Rattle.std.proofs.lemmas.Bool.{eqb-true, eq-eqb}
use Rattle.link_timers.specs.declared.role.Role.{Role}
use Rattle.link_timers.specs.declared.role.Role.TheVariants.{Dte, Dce}
use Rattle.packet_codec.specs.Diagnostic.{no_information}
use Rattle.data_transfer.specs.Packets.{CallParts}
use Rattle.data_transfer.specs.Packets.Note.{Incoming}
use Rattle.packet_channel.specs.Channel.{ChannelState, Channel, may_accept, waits_for_call, had_call, is_ready, is_free, placing}
use Rattle.packet_channel.specs.Channel.ChannelState.{Ready, OwnWaiting, FarWaiting, Transfer, Collision, OwnClear}
use Rattle.packet_channel.specs.Channel.Request.{Clearing}
use Rattle.packet_layer.specs.Layer.{Layer, Phase, channel_of, channel_given}
use Rattle.packet_laws.proofs.Call.Saying.{and_parts}
use Rattle.packet_laws.proofs.Line.Outcomes.{free_is, given_ready}
use Rattle.address_routes.specs.Routes.{RouteMap, line_for}
use Rattle.switch_joins.specs.Direction.{new_direction}
use Rattle.switch_joins.specs.declared.channels.SwitchChannel.{SwitchChannel}
use Rattle.switch_joins.specs.Joins.{Joined}
use Rattle.switch_lines.specs.Lines.{SwitchLine, same_place, joined_at, with_joined, ask, is_trunk}
use Rattle.switch_lines.specs.Switch.{Answer, answer, answer_by, answer_on, answer_free, answered, forwarded}
use Rattle.switch_lines.specs.Switch.{place_call, with_join, heed, has_any, route_from}
use Rattle.switch_lines.specs.Switch.Answer.{Clears, Joins}
use Rattle.switch_laws.specs.Leg.{Leg, stepped}
use Rattle.switch_laws.specs.World.{World, Shown, shown_as, shown_on, shown_at, layers_of, world_after, leg_after, placed_if, is_channel}
use Rattle.switch_laws.specs.World.Act.{Asks, Calls}
use Rattle.switch_laws.specs.Joined.{WaitsFor, IsPair, IsJoinedAt, IsSwitch, Becomes}
use Rattle.switch_laws.specs.Joined.IsPair.{connected, waiting}
use Rattle.switch_laws.proofs.Lists.{map_changed, get_map}
use Rattle.switch_laws.proofs.Places.{joined_here, place_after}
use Rattle.switch_laws.specs.Steps.{acts_of_all}
use Rattle.switch_laws.specs.EventSteps.{answered_steps, heed_steps}
use Rattle.switch_laws.proofs.Frame.{Touches, touches_then, touches_turned, touches_asked, touches_joined, reached_there, frame, apart_turned}
use Rattle.switch_joins.proofs.Apart.{decided, place_is}
use Rattle.switch_lines.proofs.Places.{joined_asked, joined_kept, joined_apart}

-- ---- a joined channel has a call

pub accepts_call : (role : Role) (s : ChannelState) → may_accept role s ≡ true → had_call s ≡ true
accepts_call Dte Ready e = absurd (true≢false (sym e))
accepts_call Dce Ready e = absurd (true≢false (sym e))
accepts_call Dte OwnClear e = absurd (true≢false (sym e))
accepts_call Dce OwnClear e = absurd (true≢false (sym e))
accepts_call role OwnWaiting e = refl
accepts_call role FarWaiting e = refl
accepts_call role Transfer e = refl
accepts_call role Collision e = refl

pub waits_call : (role : Role) (s : ChannelState) → waits_for_call role s ≡ true → had_call s ≡ true
waits_call Dte Ready e = absurd (true≢false (sym e))
waits_call Dce Ready e = absurd (true≢false (sym e))
waits_call Dte OwnClear e = absurd (true≢false (sym e))
waits_call Dce OwnClear e = absurd (true≢false (sym e))
waits_call role OwnWaiting e = refl
waits_call role FarWaiting e = refl
waits_call role Transfer e = refl
waits_call role Collision e = refl

waiting_call : (b : Bool) (g h : Leg) → WaitsFor b g h → had_call g.channel.state ≡ true
waiting_call true g h i = accepts_call g.role g.channel.state i.can_accept
waiting_call false g h i = waits_call g.role g.channel.state i.waits

pub pair_call : (g h : Leg) (j k : Joined) → IsPair g h j k → had_call g.channel.state ≡ true
pair_call g h j k (connected i) = ap (λ (s : ChannelState). had_call s) i.there.holds.near_call
pair_call g h j k (waiting a b i) = waiting_call j.came_in g h i

pub ready_no_call : (s : ChannelState) → is_ready s ≡ true → had_call s ≡ true → ⊥
ready_no_call Ready r e = true≢false (sym e)
ready_no_call OwnWaiting r e = true≢false (sym r)
ready_no_call FarWaiting r e = true≢false (sym r)
ready_no_call Transfer r e = true≢false (sym r)
ready_no_call Collision r e = true≢false (sym r)
ready_no_call OwnClear r e = true≢false (sym r)

-- a channel in p1 is not joined
pub ready_not_joined : (ls : List SwitchLine) (w : World) (x : SwitchChannel) → IsSwitch ls w → is_ready (w x).channel.state ≡ true → joined_at ls x ≡ None
ready_not_joined ls w x i r = by_joined (joined_at ls x) refl
  where
    by_joined : (o : Option Joined) → joined_at ls x ≡ o → joined_at ls x ≡ None
    by_joined None e = e
    by_joined (Some j) e =
        let k = i.joined x j e in
        absurd (elim k.pair [
          | inl h ↦ ready_no_call (w x).channel.state r (pair_call (w x) (w j.other) j k.other h)
          | inr h ↦ elim h [ inl y ↦ y | inr y ↦ y ]
        ])

-- ---- cleared

pub clears_call : (cause : ℕ) (p : SwitchChannel) (ls : List SwitchLine) (w : World) → IsSwitch ls w → joined_at ls p ≡ None → Becomes (Asks p (Clearing cause no_information) ∷ []) ls w (ask p (Clearing cause no_information) ls)
clears_call cause p ls w i none =
    let r = Clearing cause no_information in
    let t = touches_asked p p r ls w tt in
    record {
      world = world_after (Asks p r) (layers_of ls) w;
      reached = t.reached;
      right = frame 0 0 [] [] p p ls (ask p r ls) w _ i t
          (λ j e. absurd (none-some j (sym none ∙ e))) (λ j e. absurd (none-some j (sym none ∙ e)))
          (λ j e. absurd (none-some j (sym (joined_asked p r p ls ∙ none) ∙ e))) (λ j e. absurd (none-some j (sym (joined_asked p r p ls ∙ none) ∙ e)))
          (λ x a b f. f);
    }

-- ---- placed

pub record IsFreePlace (ls : List SwitchLine) (q : SwitchChannel) : Type 0 where
  pub line : SwitchLine
  pub there : slice_get ls q.line ≡ Some line
  pub given : channel_given line.end.layer line.end.layer.phase ≡ Some q.channel

pub layer_there : (ls : List SwitchLine) (q : SwitchChannel) (f : IsFreePlace ls q) → slice_get (layers_of ls) q.line ≡ Some f.line.end.layer
layer_there ls q f = get_map (λ l. l.end.layer) ls q.line ∙ ap (λ (o : Option SwitchLine). option_map (λ l. l.end.layer) o) f.there

placed_leg : (q : SwitchChannel) (parts : CallParts) (ls : List SwitchLine) (w : World) → IsFreePlace ls q
    → world_after (Calls q.line parts) (layers_of ls) w q ≡ stepped (placing parts (w q).channel) (w q).epoch (w q)
placed_leg q parts ls w f =
    ap (λ (b : Bool). if b then leg_after (Calls q.line parts) (slice_get (layers_of ls) q.line) q.channel (w q) else w q) (eq-eqb q.line q.line refl)
    ∙ (ap (λ (o : Option Layer). leg_after (Calls q.line parts) o q.channel (w q)) (layer_there ls q f)
    ∙ (ap (λ (o : Option ℕ). placed_if (is_channel o q.channel) parts (w q)) f.given
    ∙ ap (λ (b : Bool). placed_if b parts (w q)) (eq-eqb q.channel q.channel refl)))

placed_apart : (q : SwitchChannel) (parts : CallParts) (ls : List SwitchLine) (w : World) → IsFreePlace ls q → (x : SwitchChannel) → same_place x q ≡ false
    → world_after (Calls q.line parts) (layers_of ls) w x ≡ w x
placed_apart q parts ls w f x e = by_line (decided (x.line == q.line))
  where
    by_line : ((x.line == q.line) ≡ true) ⊎ ((x.line == q.line) ≡ false) → world_after (Calls q.line parts) (layers_of ls) w x ≡ w x
    by_line (inl t) =
        let other : (x.channel == q.channel) ≡ false = sym (ap (λ (b : Bool). b && (x.channel == q.channel)) t) ∙ e in
        ap (λ (b : Bool). if b then leg_after (Calls q.line parts) (slice_get (layers_of ls) x.line) x.channel (w x) else w x) t
        ∙ (ap (λ (k : ℕ). leg_after (Calls q.line parts) (slice_get (layers_of ls) k) x.channel (w x)) (eqb-true x.line q.line t)
        ∙ (ap (λ (o : Option Layer). leg_after (Calls q.line parts) o x.channel (w x)) (layer_there ls q f)
        ∙ (ap (λ (o : Option ℕ). placed_if (is_channel o x.channel) parts (w x)) f.given
        ∙ ap (λ (b : Bool). placed_if b parts (w x)) other)))
    by_line (inr t) = ap (λ (b : Bool). if b then leg_after (Calls q.line parts) (slice_get (layers_of ls) x.line) x.channel (w x) else w x) t

pub joins_call : (p q : SwitchChannel) (parts : CallParts) (ls : List SwitchLine) (w : World) → IsSwitch ls w → joined_at ls p ≡ None → is_some (shown_at (layers_of ls) p) ≡ true
    → may_accept (w p).role (w p).channel.state ≡ true → IsFreePlace ls q → Becomes (Calls q.line parts ∷ []) ls w (with_join p q (place_call q.line parts ls))
joins_call p q parts ls w i none p_there accepts f = record {
  world = v;
  reached = t.reached;
  right = frame 0 0 [] [] p q ls ms w v i t (λ j e. absurd (none-some j (sym none ∙ e))) (λ j e. absurd (none-some j (sym q_none ∙ e)))
      (λ j e. subst (λ (y : Joined). IsJoinedAt 0 [] ms v p y) (same_Some _ j (sym here ∙ e)) at_p)
      (λ j e. subst (λ (y : Joined). IsJoinedAt 0 [] ms v q y) (same_Some _ j (sym there ∙ e)) at_q)
      (λ x a b g. g);
}
  where
    jp : Joined
    jp = record { other = q; came_in = true; kept = new_direction }

    jq : Joined
    jq = record { other = p; came_in = false; kept = new_direction }

    v : World
    v = world_after (Calls q.line parts) (layers_of ls) w

    free : (ch : Channel) × ((channel_of f.line.end.layer q.channel ≡ Some ch) × (is_free ch ≡ true))
    free = free_is f.line.end.layer.role f.line.end.layer.channels q.channel (given_ready f.line.end.layer f.line.end.layer.phase q.channel f.given).1

    q_shown : shown_at (layers_of ls) q ≡ Some (record { role = f.line.end.layer.role; flow = f.line.end.layer.flow; channel = free.0 })
    q_shown = ap (λ (o : Option Layer). shown_on o q.channel) (layer_there ls q f) ∙ ap (λ (o : Option Channel). shown_as f.line.end.layer o) free.1.0

    q_there : is_some (shown_at (layers_of ls) q) ≡ true
    q_there = ap (λ (o : Option Shown). is_some o) q_shown

    q_ready : is_ready (w q).channel.state ≡ true
    q_ready = ap (λ (s : Shown). is_ready s.channel.state) (sym (i.world q _ q_shown).shown) ∙ (and_parts (is_ready free.0.state) _ free.1.1).0

    q_none : joined_at ls q ≡ None
    q_none = ready_not_joined ls w q i q_ready

    apart : same_place p q ≡ false
    apart = by_same (decided (same_place p q))
      where
        by_same : (same_place p q ≡ true) ⊎ (same_place p q ≡ false) → same_place p q ≡ false
        by_same (inl t) =
            absurd (ready_no_call (w p).channel.state (ap (λ (x : SwitchChannel). is_ready (w x).channel.state) (place_is p q t) ∙ q_ready) (accepts_call (w p).role (w p).channel.state accepts))
        by_same (inr e) = e

    l1 : List SwitchLine
    l1 = place_call q.line parts ls

    l2 : List SwitchLine
    l2 = with_joined p (Some jp) l1

    ms : List SwitchLine
    ms = with_joined q (Some jq) l2

    t1 : Touches (Calls q.line parts ∷ []) q p ls w l1 v
    t1 = record {
      reached = record { may = (tt, tt); layers = map_changed (λ l. l.end.layer) _ _ q.line ls (λ l. refl); legs = refl };
      joined = λ x a b. joined_kept q.line x.line x.channel _ ls (λ l. refl);
      legs = λ x a b. placed_apart q parts ls w f x a;
      places = λ x. place_after q.line _ ls x (λ l. refl);
    }

    t2 : Touches (Calls q.line parts ∷ []) p q ls w l2 v
    t2 = touches_then p q ls l1 l2 w v v (touches_turned q p ls l1 w v t1) (touches_joined p q (Some jp) l1 v)

    t : Touches (Calls q.line parts ∷ []) p q ls w ms v
    t = touches_then p q ls l2 ms w v v t2 (touches_turned q p l2 ms v v (touches_joined q p (Some jq) l2 v))

    here : joined_at ms p ≡ Some jp
    here = joined_apart q (Some jq) p l2 apart ∙ joined_here p (Some jp) l1 (t1.places p ∙ i.places p p_there)

    there : joined_at ms q ≡ Some jq
    there = joined_here q (Some jq) l2 (t2.places q ∙ i.places q q_there)

    pair : IsPair (v p) (v q) jp jq
    pair = waiting refl refl (record {
      can_accept = ap (λ (g : Leg). may_accept g.role g.channel.state) (placed_apart q parts ls w f p apart) ∙ accepts;
      waits = ap (λ (g : Leg). waits_for_call g.role g.channel.state) (placed_leg q parts ls w f);
    })

    at_p : IsJoinedAt 0 [] ms v p jp
    at_p = record { there = reached_there ls ms w v t.reached p ∙ p_there; apart = apart; other = jq; joined = there; back = refl; one_came_in = refl; pair = inl pair }

    at_q : IsJoinedAt 0 [] ms v q jq
    at_q = record {
      there = reached_there ls ms w v t.reached q ∙ q_there;
      apart = apart_turned p q apart;
      other = jp;
      joined = here;
      back = refl;
      one_came_in = refl;
      pair = inl (waiting refl refl (record {
        can_accept = ap (λ (g : Leg). may_accept g.role g.channel.state) (placed_apart q parts ls w f p apart) ∙ accepts;
        waits = ap (λ (g : Leg). waits_for_call g.role g.channel.state) (placed_leg q parts ls w f);
      }));
    }

-- ---- answered

abbrev pub IsAnswer : List SwitchLine → Answer → Type 0
IsAnswer ls (Clears cause) = Unit {0}
IsAnswer ls (Joins q) = IsFreePlace ls q

answer_free_is : (ls : List SwitchLine) (n : ℕ) (l : SwitchLine) (o : Option ℕ) → slice_get ls n ≡ Some l → channel_given l.end.layer l.end.layer.phase ≡ o → IsAnswer ls (answer_free n l.end.layer.phase o)
answer_free_is ls n l None e g = tt
answer_free_is ls n l (Some c) e g = record { line = l; there = e; given = g }

answer_on_is : (ls : List SwitchLine) (n : ℕ) (o : Option SwitchLine) → slice_get ls n ≡ o → IsAnswer ls (answer_on n o)
answer_on_is ls n None e = tt
answer_on_is ls n (Some l) e = answer_free_is ls n l _ e refl

pub answer_by_is : (ls : List SwitchLine) (o : Option ℕ) → IsAnswer ls (answer_by ls o)
answer_by_is ls None = tt
answer_by_is ls (Some n) = answer_on_is ls n _ refl

pub answer_if : (b : Bool) (ls : List SwitchLine) (cause : ℕ) (a : Answer) → IsAnswer ls a → IsAnswer ls (if b then Clears cause else a)
answer_if true ls cause a i = tt
answer_if false ls cause a i = i

answers : (a : Answer) (p : SwitchChannel) (parts : CallParts) (ls : List SwitchLine) (w : World) → IsAnswer ls a → IsSwitch ls w → joined_at ls p ≡ None → is_some (shown_at (layers_of ls) p) ≡ true
    → may_accept (w p).role (w p).channel.state ≡ true → Becomes (acts_of_all (answered_steps a p parts ls) ls) ls w (answered a p parts ls)
answers (Clears cause) p parts ls w f i none there accepts = clears_call cause p ls w i none
answers (Joins q) p parts ls w f i none there accepts = joins_call p q (forwarded ls p.line parts) ls w i none there accepts f

pub incoming_right : (routes : RouteMap) (n c : ℕ) (parts : CallParts) (ls : List SwitchLine) (w : World) → IsSwitch ls w → joined_at ls (record { line = n; channel = c }) ≡ None
    → is_some (shown_at (layers_of ls) (record { line = n; channel = c })) ≡ true
    → may_accept (w (record { line = n; channel = c })).role (w (record { line = n; channel = c })).channel.state ≡ true → Becomes (acts_of_all (heed_steps routes n (Incoming c parts) ls) ls) ls w (heed routes n (Incoming c parts) ls)
incoming_right routes n c parts ls w i none there accepts =
    answers (answer routes ls n parts) (record { line = n; channel = c }) parts ls w (answer_if (has_any parts.facilities) ls _ _ (answer_by_is ls (route_from n ls (line_for routes parts.called)))) i none there accepts

-- ---- by the routes

joins_same : (q r : SwitchChannel) → ◌≡◌ {A = Answer} (Joins q) (Joins r) → q ≡ r
joins_same q r e = cc

free_line : (n : ℕ) (phase : Phase) (o : Option ℕ) (q : SwitchChannel) → answer_free n phase o ≡ Joins q → n ≡ q.line
free_line n phase None q e = absurd cc
free_line n phase (Some c) q e = ap (λ (x : SwitchChannel). x.line) (joins_same _ q e)

on_line : (n : ℕ) (o : Option SwitchLine) (q : SwitchChannel) → answer_on n o ≡ Joins q → n ≡ q.line
on_line n None q e = absurd cc
on_line n (Some l) q e = free_line n l.end.layer.phase (channel_given l.end.layer l.end.layer.phase) q e

by_line : (ls : List SwitchLine) (o : Option ℕ) (q : SwitchChannel) → answer_by ls o ≡ Joins q → o ≡ Some q.line
by_line ls None q e = absurd cc
by_line ls (Some n) q e = ap (λ (k : ℕ). Some k) (on_line n (slice_get ls n) q e)

with_facility : (b : Bool) (cause : ℕ) (ls : List SwitchLine) (o : Option ℕ) (q : SwitchChannel) → (if b then Clears cause else answer_by ls o) ≡ Joins q → o ≡ Some q.line
with_facility true cause ls o q e = absurd cc
with_facility false cause ls o q e = by_line ls o q e

-- the route of a call that came on line n is that of its address, and does not lead back over a trunk
record IsOnward (n : ℕ) (ls : List SwitchLine) (o : Option ℕ) (k : ℕ) : Type 0 where
  route : o ≡ Some k
  onward : ((k == n) && is_trunk (slice_get ls n)) ≡ false

onward : (n : ℕ) (ls : List SwitchLine) (o : Option ℕ) (k : ℕ) → route_from n ls o ≡ Some k → IsOnward n ls o k
onward n ls None k e = absurd (none-some k e)
onward n ls (Some to) k e = by_trunk ((to == n) && is_trunk (slice_get ls n)) refl e
  where
    by_trunk : (b : Bool) → ((to == n) && is_trunk (slice_get ls n)) ≡ b → (if b then None else Some to) ≡ Some k → IsOnward n ls (Some to) k
    by_trunk true is f = absurd (none-some k f)
    by_trunk false is f = record { route = f; onward = subst (λ (x : ℕ). ((x == n) && is_trunk (slice_get ls n)) ≡ false) (same_Some to k f) is }

answered_onward : (routes : RouteMap) (ls : List SwitchLine) (n : ℕ) (parts : CallParts) (q : SwitchChannel) → answer routes ls n parts ≡ Joins q → IsOnward n ls (line_for routes parts.called) q.line
answered_onward routes ls n parts q e =
    onward n ls (line_for routes parts.called) q.line (with_facility (has_any parts.facilities) _ ls (route_from n ls (line_for routes parts.called)) q e)

pub joins_by_route : (routes : RouteMap) (ls : List SwitchLine) (n : ℕ) (parts : CallParts) (q : SwitchChannel) → answer routes ls n parts ≡ Joins q → line_for routes parts.called ≡ Some q.line
joins_by_route routes ls n parts q e = (answered_onward routes ls n parts q e).route

pub not_back : (routes : RouteMap) (ls : List SwitchLine) (n : ℕ) (parts : CallParts) (q : SwitchChannel) → answer routes ls n parts ≡ Joins q → q.line ≡ n → is_trunk (slice_get ls n) ≡ false
not_back routes ls n parts q e same =
    ap (λ (b : Bool). b && is_trunk (slice_get ls n)) (sym (eq-eqb q.line n same)) ∙ (answered_onward routes ls n parts q e).onward
