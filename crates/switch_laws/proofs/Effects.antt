-- Whatever a packet layer is told by its line: once its notes are heeded, all joins are right again.
use Rattle.std.proofs.Common.{◌≡◌, ℕ, zero, suc, ◌+◌, ◌⊎◌, inl, inr, Bool, true, false, cond, if◌then◌else◌, ◌&&◌, ◌==◌, List, [], ◌∷◌, ◌++◌, Option, Some, None, is_some, refl, sym, ap, subst, ◌∙◌, true≢false, arith}
use Rattle.std.specs.Prelude.{slice_get}
use Rattle.std.proofs.lemmas.Option.{none-some, same_Some}
use Rattle.std.proofs.lemmas.Bool.{eqb-true, eq-eqb}
use Rattle.packet_codec.specs.ClearCause as clear_cause
use Rattle.packet_codec.specs.Diagnostic.{no_information}
use Rattle.data_transfer.specs.Packets.{Body, Packet, Received, Note, Reason}
use Rattle.data_transfer.specs.Packets.Body.{Restart, RestartConfirmation}
use Rattle.data_transfer.specs.Packets.Received.{Whole, Unknown, Faulty}
use Rattle.data_transfer.specs.Packets.Note.{Closed}
use Rattle.data_transfer.specs.Packets.Reason.{LinkLost, FarRestart, LocalFault}
use Rattle.data_transfer.specs.Traffic.{Heard, hears}
use Rattle.packet_channel.specs.Channel.{ChannelState, Channel, Step, received, unreadable, clear_error, had_call, in_transfer, owing}
use Rattle.packet_channel.specs.Channel.ChannelState.{Ready, OwnWaiting, FarWaiting, Transfer, Collision, OwnClear}
use Rattle.packet_layer.specs.Layer.{Layer, Phase, Timer, nth_channel, channel_of, closing_notes, on_found, on_channel, on_timer, expired, restart_packet, unread, runs}
use Rattle.packet_layer.specs.Layer.Phase.{NoSession, OwnRestart, PacketReady}
use Rattle.packet_layer.specs.Layer.Timer.{RestartTimer, CallTimer, ResetTimer, ClearTimer}
use Rattle.packet_laws.specs.History.{Epoch}
use Rattle.address_routes.specs.Routes.{RouteMap}
use Rattle.switch_joins.specs.Direction.{Direction}
use Rattle.switch_joins.specs.declared.channels.SwitchChannel.{SwitchChannel}
use Rattle.switch_joins.specs.Joins.{Joined}
use Rattle.switch_lines.specs.Lines.{SwitchLine, same_place, joined_at}
use Rattle.switch_lines.specs.Switch.{heed}
use Rattle.switch_laws.specs.Leg.{Leg, stepped, heard, misheard, heard_epoch}
use Rattle.switch_laws.specs.Join.{IsJoin}
use Rattle.switch_laws.specs.Join as join
use Rattle.switch_laws.specs.World.{World, Shown, shown_of, shown_as, shown_on, shown_at, layers_of, Act, MayHappen, world_after, leg_after, line_of, closed, restarted, came_in, ran_out, cleared_if}
use Rattle.switch_laws.specs.World.Act.{Comes, Expires, GoesUp, GoesDown}
use Rattle.switch_laws.specs.Joined.{IsPair, IsOver, IsSwitchBefore, IsSwitch, Reached, HasActed, IsTold, notes_made, has_place}
use Rattle.switch_laws.proofs.Places.{some_there}
use Rattle.switch_laws.proofs.Layers.{seen, opened_shown}
use Rattle.switch_laws.specs.EventSteps.{heed_steps, heed_all_steps}
use Rattle.switch_laws.proofs.Leading.{heed_leads}
use Rattle.switch_laws.proofs.Frame.{Touches, pair_turned, same_pair, frame, reached_none, reached_then, reached_there, reached_world}
use Rattle.switch_laws.proofs.Hearing.{hears_right, mishears_right}
use Rattle.switch_laws.proofs.NotesOfJoined.{closes}
use Rattle.switch_laws.proofs.Outcomes.{AreOf, Outcome, received_outcome, received_notes, unreadable_outcome, unreadable_notes}
use Rattle.switch_laws.proofs.Outcomes.Outcome.{ends}
use Rattle.switch_laws.proofs.Arriving.{StepCalls, received_calls, unreadable_calls, cleared_calls}
use Rattle.switch_laws.proofs.SettingUp.{pair_call}
use Rattle.switch_laws.proofs.JoinsAfterNotes.{at, always, Came, comes, becomes_then, becomes_by, Heeded, After}
use Rattle.switch_joins.proofs.Apart.{decided}

-- ---- the effect of an act on its layer

-- a step of channel d
pub record IsStep (d : ℕ) (st : Shown → Step) (e : Leg → Epoch) : Type 0 where
  pub notes_of_it : (s : Shown) → AreOf d s.role (st s).channel.state (st s).notes
  pub outcome : (s : Shown) → had_call s.channel.state ≡ true → Outcome d s.role s.channel (st s)
  pub goes : (g h : Leg) (there back : Direction) → (st (shown_of g)).channel.state ≡ Transfer → IsJoin (record { a = h; b = g; there = there; back = back })
      → IsJoin (join.all_told (st (shown_of g)).notes (record { a = h; b = stepped (st (shown_of g)) (e g) g; there = there; back = back }))
  pub epoch : (g : Leg) → e g ≡ g.epoch ⊎ (in_transfer g.channel.state ≡ true)
  pub calls : (n : ℕ) (s : Shown) → StepCalls n d s.channel (st s)

pub data Effect (f : ℕ → Leg → Leg) (l : Layer) (notes : List Note) : Type 0 where
  nothing : notes ≡ [] → ((c : ℕ) (g : Leg) → f c g ≡ g) → Effect f l notes
  closes_all : (reason : Reason) → notes ≡ closing_notes 1 reason l.channels → ((c : ℕ) (g : Leg) → f c g ≡ closed g) → Effect f l notes
  on_one : (d : ℕ) (st : Shown → Step) (e : Leg → Epoch) → IsStep d st e → ((c : ℕ) (g : Leg) → (c == d) ≡ false → f c g ≡ g)
      → ((g : Leg) → f d g ≡ stepped (st (shown_of g)) (e g) g) → (channel_of l d ≡ None → notes ≡ [])
      → ((ch : Channel) → channel_of l d ≡ Some ch → notes ≡ (st (seen l ch)).notes) → Effect f l notes

-- ---- the three steps

epoch_kept : (s : ChannelState) (rs : Bool) (h : Heard) (e : Epoch) → heard_epoch s rs h e ≡ e ⊎ (in_transfer s ≡ true)
epoch_kept Ready rs h e = inl refl
epoch_kept OwnWaiting rs h e = inl refl
epoch_kept FarWaiting rs h e = inl refl
epoch_kept Transfer rs h e = inr refl
epoch_kept Collision rs h e = inl refl
epoch_kept OwnClear rs h e = inl refl

hears_step : (d : ℕ) (p : Body)
    → IsStep d (λ s. received s.role s.flow d s.channel p) (λ g. heard_epoch g.channel.state g.channel.resetting (hears g.flow g.channel.traffic p) g.epoch)
hears_step d p = record {
  notes_of_it = λ s. received_notes s.role s.flow d p s.channel;
  outcome = λ s. received_outcome s.role s.flow d p s.channel;
  goes = λ g h there back state i. hears_right d p (record { a = h; b = g; there = there; back = back }) state i;
  epoch = λ g. epoch_kept g.channel.state g.channel.resetting (hears g.flow g.channel.traffic p) g.epoch;
  calls = λ n s. received_calls n s.role s.flow d p s.channel;
}

mishears_step : (d : ℕ) (unknown : Bool) → IsStep d (λ s. unreadable s.role d unknown s.channel) (λ g. g.epoch)
mishears_step d unknown = record {
  notes_of_it = λ s. unreadable_notes s.role d unknown s.channel;
  outcome = λ s. unreadable_outcome s.role d unknown s.channel;
  goes = λ g h there back state i. mishears_right d unknown (record { a = h; b = g; there = there; back = back }) state i;
  epoch = λ g. inl refl;
  calls = λ n s. unreadable_calls n s.role d unknown s.channel;
}

clear_not_transfer : {X : Type 0} → OwnClear ≡ Transfer → X
clear_not_transfer e = absurd (true≢false (sym (ap (λ (s : ChannelState). in_transfer s) e)))

clears_step : (d : ℕ) → IsStep d (λ s. clear_error s.role d no_information true s.channel) (λ g. g.epoch)
clears_step d = record {
  notes_of_it = λ s. (refl, tt);
  outcome = λ s e. ends _ _ _ _ refl;
  goes = λ g h there back state i. clear_not_transfer state;
  epoch = λ g. inl refl;
  calls = λ n s. cleared_calls n d s.channel _ refl;
}

if_apart : (b : Bool) (g h : Leg) → b ≡ false → (if b then h else g) ≡ g
if_apart b g h e = ap (λ (x : Bool). if x then h else g) e

if_here : (d : ℕ) (g h : Leg) → (if d == d then h else g) ≡ h
if_here d g h = ap (λ (x : Bool). if x then h else g) (eq-eqb d d refl)

found_none : (l : Layer) (d : ℕ) (step : Channel → Step) → l.notes ≡ [] → channel_of l d ≡ None → (on_found l d step (channel_of l d)).notes ≡ []
found_none l d step none e = ap (λ (o : Option Channel). (on_found l d step o).notes) e ∙ none

found_some : (l : Layer) (d : ℕ) (step : Channel → Step) (ch : Channel) → l.notes ≡ [] → channel_of l d ≡ Some ch → (on_found l d step (channel_of l d)).notes ≡ (step ch).notes
found_some l d step ch none e = ap (λ (o : Option Channel). (on_found l d step o).notes) e ∙ ap (λ (ns : List Note). ns ++ (step ch).notes) none

-- ---- packets

restart_effect : (n : ℕ) (p : Packet) (l : Layer) → (p.channel == 0) ≡ true → l.phase ≡ PacketReady → Effect (λ c g. leg_after (Comes n (Whole p)) (Some l) c g) l (restart_packet PacketReady p.body (unread l)).notes
restart_effect n p l z ready = by_body p.body refl
  where
    leg : (b : Body) → p.body ≡ b → (c : ℕ) (g : Leg) → leg_after (Comes n (Whole p)) (Some l) c g ≡ came_in PacketReady (Whole (record { channel = 0; body = b })) c g
    leg b e c g =
        ap (λ (ph : Phase). came_in ph (Whole p) c g) ready
        ∙ (ap (λ (x : Bool). if x then restarted p.body g else if c == p.channel then heard c p.body g else g) z ∙ ap (λ (x : Body). restarted x g) e)

    by_body : (b : Body) → p.body ≡ b → Effect (λ c g. leg_after (Comes n (Whole p)) (Some l) c g) l (restart_packet PacketReady b (unread l)).notes
    by_body (Restart cause diagnostic) e = closes_all FarRestart refl (leg (Restart cause diagnostic) e)
    by_body RestartConfirmation e = closes_all LocalFault refl (leg RestartConfirmation e)
    by_body b e = nothing refl (leg b e)

hears_effect : (n : ℕ) (p : Packet) (l : Layer) → (p.channel == 0) ≡ false → l.phase ≡ PacketReady
    → Effect (λ c g. leg_after (Comes n (Whole p)) (Some l) c g) l (on_found (unread l) p.channel (λ ch. received l.role l.flow p.channel ch p.body) (channel_of (unread l) p.channel)).notes
hears_effect n p l z ready =
    on_one p.channel _ _ (hears_step p.channel p.body) (λ c g f. leg c g ∙ if_apart (c == p.channel) g _ f) (λ g. leg p.channel g ∙ if_here p.channel g _)
    (λ e. found_none (unread l) p.channel (λ x. received l.role l.flow p.channel x p.body) refl e) (λ ch e. found_some (unread l) p.channel (λ x. received l.role l.flow p.channel x p.body) ch refl e)
  where
    leg : (c : ℕ) (g : Leg) → leg_after (Comes n (Whole p)) (Some l) c g ≡ (if c == p.channel then heard c p.body g else g)
    leg c g =
        ap (λ (ph : Phase). came_in ph (Whole p) c g) ready ∙ ap (λ (x : Bool). if x then restarted p.body g else if c == p.channel then heard c p.body g else g) z

mishears_effect : (n d : ℕ) (unknown : Bool) (r : Received) (l : Layer) → ((c : ℕ) (g : Leg) → leg_after (Comes n r) (Some l) c g ≡ (if c == d then misheard c unknown g else g))
    → Effect (λ c g. leg_after (Comes n r) (Some l) c g) l (on_found (unread l) d (λ ch. unreadable l.role d unknown ch) (channel_of (unread l) d)).notes
mishears_effect n d unknown r l leg =
    on_one d _ _ (mishears_step d unknown) (λ c g f. leg c g ∙ if_apart (c == d) g _ f) (λ g. leg d g ∙ if_here d g _)
    (λ e. found_none (unread l) d (λ x. unreadable l.role d unknown x) refl e) (λ ch e. found_some (unread l) d (λ x. unreadable l.role d unknown x) ch refl e)

own_restart_notes : (b : Body) (l : Layer) → (restart_packet OwnRestart b (unread l)).notes ≡ []
own_restart_notes (Restart cause diagnostic) l = refl
own_restart_notes RestartConfirmation l = refl
own_restart_notes _ l = refl

by_test : (b : Bool) (x y : Layer) (a : Act) (l : Layer) → (b ≡ true → Effect (λ c g. leg_after a (Some l) c g) l x.notes)
    → (b ≡ false → Effect (λ c g. leg_after a (Some l) c g) l y.notes) → Effect (λ c g. leg_after a (Some l) c g) l (cond b x y).notes
by_test true x y a l f g = f refl
by_test false x y a l f g = g refl

whole_effect : (phase : Phase) (n : ℕ) (p : Packet) (l : Layer) → l.phase ≡ phase
    → Effect (λ c g. leg_after (Comes n (Whole p)) (Some l) c g) l (cond (p.channel == 0) (restart_packet phase p.body (unread l)) (on_channel phase (unread l) p.channel (λ ch. received l.role l.flow p.channel ch p.body))).notes
whole_effect PacketReady n p l e = by_test (p.channel == 0) _ _ (Comes n (Whole p)) l (λ z. restart_effect n p l z e) (λ z. hears_effect n p l z e)
whole_effect OwnRestart n p l e =
    by_test (p.channel == 0) _ _ (Comes n (Whole p)) l (λ z. nothing (own_restart_notes p.body l) (λ c g. ap (λ (ph : Phase). came_in ph (Whole p) c g) e))
    (λ z. nothing refl (λ c g. ap (λ (ph : Phase). came_in ph (Whole p) c g) e))
whole_effect NoSession n p l e =
    by_test (p.channel == 0) _ _ (Comes n (Whole p)) l (λ z. nothing refl (λ c g. ap (λ (ph : Phase). came_in ph (Whole p) c g) e)) (λ z. nothing refl (λ c g. ap (λ (ph : Phase). came_in ph (Whole p) c g) e))

unknown_effect : (phase : Phase) (n d : ℕ) (l : Layer) → l.phase ≡ phase → Effect (λ c g. leg_after (Comes n (Unknown d)) (Some l) c g) l (on_channel phase (unread l) d (λ ch. unreadable l.role d true ch)).notes
unknown_effect PacketReady n d l e = mishears_effect n d true (Unknown d) l (λ c g. ap (λ (ph : Phase). came_in ph (Unknown d) c g) e)
unknown_effect OwnRestart n d l e = nothing refl (λ c g. ap (λ (ph : Phase). came_in ph (Unknown d) c g) e)
unknown_effect NoSession n d l e = nothing refl (λ c g. ap (λ (ph : Phase). came_in ph (Unknown d) c g) e)

faulty_effect : (phase : Phase) (n d : ℕ) (l : Layer) → l.phase ≡ phase → Effect (λ c g. leg_after (Comes n (Faulty d)) (Some l) c g) l (on_channel phase (unread l) d (λ ch. unreadable l.role d false ch)).notes
faulty_effect PacketReady n d l e = mishears_effect n d false (Faulty d) l (λ c g. ap (λ (ph : Phase). came_in ph (Faulty d) c g) e)
faulty_effect OwnRestart n d l e = nothing refl (λ c g. ap (λ (ph : Phase). came_in ph (Faulty d) c g) e)
faulty_effect NoSession n d l e = nothing refl (λ c g. ap (λ (ph : Phase). came_in ph (Faulty d) c g) e)

-- ---- timers

clears_effect : (n d : ℕ) (t : Timer) (l : Layer) → ((c : ℕ) (g : Leg) → leg_after (Expires n t) (Some l) c g ≡ cleared_if (c == d) c g)
    → Effect (λ c g. leg_after (Expires n t) (Some l) c g) l (on_found (unread l) d (λ ch. clear_error l.role d no_information true ch) (channel_of (unread l) d)).notes
clears_effect n d t l leg =
    on_one d _ _ (clears_step d) (λ c g f. leg c g ∙ if_apart (c == d) g _ f) (λ g. leg d g ∙ if_here d g _)
    (λ e. found_none (unread l) d (λ x. clear_error l.role d no_information true x) refl e) (λ ch e. found_some (unread l) d (λ x. clear_error l.role d no_information true x) ch refl e)

ran_leg : (n : ℕ) (t : Timer) (l : Layer) → runs l t ≡ true → (c : ℕ) (g : Leg) → leg_after (Expires n t) (Some l) c g ≡ ran_out t c g
ran_leg n t l e c g = ap (λ (b : Bool). if b then ran_out t c g else g) e

expired_effect : (n : ℕ) (t : Timer) (l : Layer) → runs l t ≡ true → Effect (λ c g. leg_after (Expires n t) (Some l) c g) l (expired (unread l) t).notes
expired_effect n RestartTimer l e = nothing refl (ran_leg n RestartTimer l e)
expired_effect n (CallTimer d) l e = clears_effect n d (CallTimer d) l (ran_leg n (CallTimer d) l e)
expired_effect n (ResetTimer d) l e = clears_effect n d (ResetTimer d) l (ran_leg n (ResetTimer d) l e)
expired_effect n (ClearTimer d) l e = closes_all LocalFault refl (ran_leg n (ClearTimer d) l e)

expires_effect : (n : ℕ) (t : Timer) (l : Layer) → Effect (λ c g. leg_after (Expires n t) (Some l) c g) l (on_timer (unread l) t).notes
expires_effect n t l =
    by_test (runs l t) _ _ (Expires n t) l (λ e. expired_effect n t l e) (λ e. nothing refl (λ c g. ap (λ (b : Bool). if b then ran_out t c g else g) e))

pub effect : (a : Act) (l : Layer) → IsTold a → Effect (λ c g. leg_after a (Some l) c g) l (notes_made a (Some l))
effect (Comes n (Whole p)) l m = whole_effect l.phase n p l refl
effect (Comes n (Unknown d)) l m = unknown_effect l.phase n d l refl
effect (Comes n (Faulty d)) l m = faulty_effect l.phase n d l refl
effect (Expires n t) l m = expires_effect n t l
effect (GoesUp n) l m = closes_all LinkLost refl (λ c g. refl)
effect (GoesDown n) l m = closes_all LinkLost refl (λ c g. refl)
effect a l m = absurd m

-- ---- nothing happened at any joined channel

pub steady : {acts : List Act} (ls ms : List SwitchLine) (w v : World) → IsSwitch ls w → Reached acts ls w ms v → ((x : SwitchChannel) → joined_at ms x ≡ joined_at ls x) → ((x : SwitchChannel) → has_place ms x ≡ has_place ls x)
    → ((x : SwitchChannel) → v x ≡ w x) → IsSwitch ms v
steady ls ms w v i r joined places legs = record {
  world = reached_world ls ms w v r i.world;
  places = λ x e. places x ∙ i.places x (sym (reached_there ls ms w v r x) ∙ e);
  joined = λ x j e.
      let k = i.joined x j (sym (joined x) ∙ e) in
      record {
        there = reached_there ls ms w v r x ∙ k.there;
        apart = k.apart;
        other = k.other;
        joined = joined j.other ∙ k.joined;
        back = k.back;
        one_came_in = k.one_came_in;
        pair = elim k.pair [ inl h ↦ inl (same_pair x j.other w v j k.other (legs x) (legs j.other) h) | inr h ↦ inr h ];
      };
}

-- ---- the leg of a place after an act

pub leg_elsewhere : (a : Act) (ys : List Layer) (w : World) (x : SwitchChannel) → (x.line == line_of a) ≡ false → world_after a ys w x ≡ w x
leg_elsewhere a ys w x e = ap (λ (b : Bool). if b then leg_after a (slice_get ys x.line) x.channel (w x) else w x) e

pub leg_on_line : (a : Act) (ys : List Layer) (w : World) (x : SwitchChannel) (o : Option Layer) → (x.line == line_of a) ≡ true → slice_get ys (line_of a) ≡ o → world_after a ys w x ≡ leg_after a o x.channel (w x)
leg_on_line a ys w x o t e =
    ap (λ (b : Bool). if b then leg_after a (slice_get ys x.line) x.channel (w x) else w x) t
    ∙ ap (λ (y : Option Layer). leg_after a y x.channel (w x)) (ap (λ (k : ℕ). slice_get ys k) (eqb-true x.line (line_of a) t) ∙ e)

-- ---- all calls of the line close

over_notes : (n c i : ℕ) (reason : Reason) (chs : List Channel) (ch : Channel) → slice_get chs i ≡ Some ch → had_call ch.state ≡ true → IsOver n (closing_notes c reason chs) (at n (c + i))
over_notes n c i reason [] ch e h = absurd (none-some ch e)
over_notes n c zero reason (x ∷ xs) ch e h =
    let same : x ≡ ch = same_Some x ch e in
    let had : had_call x.state ≡ true = ap (λ (y : Channel). had_call y.state) same ∙ h in
    let here : c + 0 ≡ c = omega arith in
    subst (λ (b : Bool). IsOver n (cond b (Closed c clear_cause.out_of_order no_information reason ∷ closing_notes (suc c) reason xs) (closing_notes (suc c) reason xs)) (at n (c + 0))) (sym had) (inl (ap (λ (k : ℕ). at n k) here))
over_notes n c (suc i) reason (x ∷ xs) ch e h = by_call (had_call x.state) (let same : suc c + i ≡ c + suc i = omega arith in subst (λ (k : ℕ). IsOver n (closing_notes (suc c) reason xs) (at n k)) same (over_notes n (suc c) i reason xs ch e h))
  where
    by_call : (b : Bool) → IsOver n (closing_notes (suc c) reason xs) (at n (c + suc i))
        → IsOver n (cond b (Closed c clear_cause.out_of_order no_information reason ∷ closing_notes (suc c) reason xs) (closing_notes (suc c) reason xs)) (at n (c + suc i))
    by_call true rest = inr rest
    by_call false rest = rest

over_channel : (n c : ℕ) (reason : Reason) (chs : List Channel) (ch : Channel) → nth_channel chs c ≡ Some ch → had_call ch.state ≡ true → IsOver n (closing_notes 1 reason chs) (at n c)
over_channel n zero reason chs ch e h = absurd (none-some ch e)
over_channel n (suc i) reason chs ch e h = let same : 1 + i ≡ suc i = omega arith in subst (λ (k : ℕ). IsOver n (closing_notes 1 reason chs) (at n k)) same (over_notes n 1 i reason chs ch e h)

closings : (routes : RouteMap) (n c : ℕ) (reason : Reason) (chs : List Channel) (ls : List SwitchLine) (w : World) → IsSwitchBefore n (closing_notes c reason chs) ls w
    → Heeded routes n (closing_notes c reason chs) ls w
closings routes n c reason [] ls w i = record { world = w; reached = reached_none ls w; right = always n ls w i }
closings routes n c reason (x ∷ xs) ls w i = by_call (had_call x.state) (λ ms v h. closings routes n (suc c) reason xs ms v h) i
  where
    by_call : (b : Bool) → ((ms : List SwitchLine) (v : World) → IsSwitchBefore n (closing_notes (suc c) reason xs) ms v → Heeded routes n (closing_notes (suc c) reason xs) ms v)
        → IsSwitchBefore n (cond b (Closed c clear_cause.out_of_order no_information reason ∷ closing_notes (suc c) reason xs) (closing_notes (suc c) reason xs)) ls w
        → Heeded routes n (cond b (Closed c clear_cause.out_of_order no_information reason ∷ closing_notes (suc c) reason xs) (closing_notes (suc c) reason xs)) ls w
    by_call true onward i =
        let e = closes n c clear_cause.out_of_order no_information reason (closing_notes (suc c) reason xs) ls w i in
        let first = Closed c clear_cause.out_of_order no_information reason in
        becomes_by (heed_steps routes n first ls) (heed_all_steps routes n (closing_notes (suc c) reason xs) (heed routes n first ls)) ls (heed routes n first ls) _ w e.world
        (heed_leads routes n first ls) e.reached (onward _ e.world e.right)
    by_call false onward i = onward ls w i

-- ---- any effect

pub channel_shown : (l : Layer) (o : Option Channel) (s : Shown) → shown_as l o ≡ Some s → (ch : Channel) × ((o ≡ Some ch) × (seen l ch ≡ s))
channel_shown l None s e = absurd (none-some s e)
channel_shown l (Some ch) s e = (ch, (refl, same_Some _ s e))

-- what happened at line n, before its notes are heeded: its legs moved, and those of no other line
pub record Happened (acts : List Act) (n : ℕ) (f : ℕ → Leg → Leg) (ls ms : List SwitchLine) (w v : World) : Type 0 where
  pub reached : Reached acts ls w ms v
  pub joined : (x : SwitchChannel) → joined_at ms x ≡ joined_at ls x
  pub places : (x : SwitchChannel) → has_place ms x ≡ has_place ls x
  pub here : (x : SwitchChannel) → (x.line == n) ≡ true → v x ≡ f x.channel (w x)
  pub elsewhere : (x : SwitchChannel) → (x.line == n) ≡ false → v x ≡ w x

pub effect_right : {acts : List Act} (routes : RouteMap) (n : ℕ) (f : ℕ → Leg → Leg) (l : Layer) (ls ms : List SwitchLine) (w v : World) (notes : List Note) → Effect f l notes → slice_get (layers_of ls) n ≡ Some l
    → Happened acts n f ls ms w v → IsSwitch ls w → After acts routes n notes ls w ms
effect_right {acts} routes n f l ls ms w v notes eff got h i = by_effect eff
  where
    reached : Reached acts ls w ms v
    reached = h.reached

    here : (x : SwitchChannel) → (x.line == n) ≡ true → v x ≡ f x.channel (w x)
    here = h.here

    shown_here : (x : SwitchChannel) (s : Shown) → (x.line == n) ≡ true → shown_at (layers_of ls) x ≡ Some s → shown_as l (channel_of l x.channel) ≡ Some s
    shown_here x s t e = sym (ap (λ (o : Option Layer). shown_on o x.channel) (ap (λ (k : ℕ). slice_get (layers_of ls) k) (eqb-true x.line n t) ∙ got)) ∙ e

    all_close : (reason : Reason) → ((c : ℕ) (g : Leg) → f c g ≡ closed g) → IsSwitchBefore n (closing_notes 1 reason l.channels) ms v
    all_close reason legs = record {
      world = reached_world ls ms w v reached i.world;
      places = λ x e. h.places x ∙ i.places x (sym (reached_there ls ms w v reached x) ∙ e);
      joined = λ x j e.
          let k = i.joined x j (sym (h.joined x) ∙ e) in
          record {
            there = reached_there ls ms w v reached x ∙ k.there;
            apart = k.apart;
            other = k.other;
            joined = h.joined j.other ∙ k.joined;
            back = k.back;
            one_came_in = k.one_came_in;
            pair = elim k.pair [
              | inl p ↦ now x j k.other p k.there (i.joined j.other k.other k.joined).there (pair_turned (w x) (w j.other) j k.other k.one_came_in p) (decided (x.line == n)) (decided (j.other.line == n))
              | inr p ↦ elim p [ inl y ↦ absurd y | inr y ↦ absurd y ]
            ];
          };
    }
      where
        over : (x : SwitchChannel) → is_some (shown_at (layers_of ls) x) ≡ true → had_call (w x).channel.state ≡ true → (x.line == n) ≡ true → IsOver n (closing_notes 1 reason l.channels) x
        over x there call t =
            let s = some_there (shown_at (layers_of ls) x) there in
            let c = channel_shown l (channel_of l x.channel) s.0 (shown_here x s.0 t s.1) in
            let had : had_call c.0.state ≡ true = ap (λ (y : Shown). had_call y.channel.state) (c.1.1 ∙ (i.world x s.0 s.1).shown) ∙ call in
            subst (λ (k : ℕ). IsOver n (closing_notes 1 reason l.channels) (record { line = k; channel = x.channel })) (sym (eqb-true x.line n t)) (over_channel n x.channel reason l.channels c.0 c.1.0 had)

        now : (x : SwitchChannel) (j k : Joined) → IsPair (w x) (w j.other) j k → is_some (shown_at (layers_of ls) x) ≡ true → is_some (shown_at (layers_of ls) j.other) ≡ true → IsPair (w j.other) (w x) k j
            → ((x.line == n) ≡ true) ⊎ ((x.line == n) ≡ false) → ((j.other.line == n) ≡ true) ⊎ ((j.other.line == n) ≡ false)
            → IsPair (v x) (v j.other) j k ⊎ (IsOver n (closing_notes 1 reason l.channels) x ⊎ IsOver n (closing_notes 1 reason l.channels) j.other)
        now x j k p there other q (inl t) u = inr (inl (over x there (pair_call (w x) (w j.other) j k p) t))
        now x j k p there other q (inr no_) (inl t) = inr (inr (over j.other other (pair_call (w j.other) (w x) k j q) t))
        now x j k p there other q (inr no_) (inr nor) = inl (same_pair x j.other w v j k (h.elsewhere x no_) (h.elsewhere j.other nor) p)

    -- a step of one channel
    touches : (d : ℕ) → ((c : ℕ) (g : Leg) → (c == d) ≡ false → f c g ≡ g) → (q : SwitchChannel) → Touches acts (at n d) q ls w ms v
    touches d apart q = record {
      reached = reached;
      joined = λ x e f. h.joined x;
      legs = λ x e f. by_line x e (decided (x.line == n));
      places = h.places;
    }
      where
        by_line : (x : SwitchChannel) → same_place x (at n d) ≡ false → ((x.line == n) ≡ true) ⊎ ((x.line == n) ≡ false) → v x ≡ w x
        by_line x e (inl t) = here x t ∙ apart x.channel (w x) (sym (ap (λ (b : Bool). b && (x.channel == d)) t) ∙ e)
        by_line x e (inr no_) = h.elsewhere x no_

    there_at : (d : ℕ) (ch : Channel) → channel_of l d ≡ Some ch → shown_at (layers_of ls) (at n d) ≡ Some (seen l ch)
    there_at d ch e = ap (λ (o : Option Layer). shown_on o d) got ∙ ap (λ (o : Option Channel). shown_as l o) e

    not_there : (d : ℕ) → channel_of l d ≡ None → shown_at (layers_of ls) (at n d) ≡ None
    not_there d e = ap (λ (o : Option Layer). shown_on o d) got ∙ ap (λ (o : Option Channel). shown_as l o) e

    one_step : (d : ℕ) (st : Shown → Step) (e : Leg → Epoch) → IsStep d st e → ((c : ℕ) (g : Leg) → (c == d) ≡ false → f c g ≡ g)
        → ((g : Leg) → f d g ≡ stepped (st (shown_of g)) (e g) g) → (o : Option Channel) → channel_of l d ≡ o → (o ≡ None → notes ≡ [])
        → ((ch : Channel) → o ≡ Some ch → notes ≡ (st (seen l ch)).notes) → After acts routes n notes ls w ms
    one_step d st e is apart leg None fd empty some =
        subst (λ (ns : List Note). After acts routes n ns ls w ms) (sym (empty refl)) (record {
          world = v;
          reached = reached_then ls ms ms w v v reached (reached_none ms v);
          right = frame 0 0 [] [] (at n d) (at n d) ls ms w v i (touches d apart (at n d)) (λ j g. none j g) (λ j g. none j g) (λ j g. none j (sym (h.joined (at n d)) ∙ g)) (λ j g. none j (sym (h.joined (at n d)) ∙ g)) (λ x y z g. g);
        })
      where
        none : {X : Type 0} → (j : Joined) → joined_at ls (at n d) ≡ Some j → X
        none j g = absurd (true≢false (sym (i.joined (at n d) j g).there ∙ ap (λ (o : Option Shown). is_some o) (not_there d fd)))
    one_step d st e is apart leg (Some ch) fd empty some =
        subst (λ (ns : List Note). After acts routes n ns ls w ms) (sym (some ch refl ∙ ap (λ (s : Shown). (st s).notes) agree))
        (comes routes n d ls ms w v (st (shown_of (w (at n d)))) (e (w (at n d))) (is.epoch (w (at n d))) came i)
      where
        p : SwitchChannel
        p = at n d

        agree : seen l ch ≡ shown_of (w p)
        agree = (i.world p (seen l ch) (there_at d ch fd)).shown

        leg_is : v p ≡ stepped (st (shown_of (w p))) (e (w p)) (w p)
        leg_is = here p (eq-eqb n n refl) ∙ leg (w p)

        after : shown_of (v p) ≡ record (shown_of (w p)) { channel = owing (st (shown_of (w p))) }
        after = ap (λ (g : Leg). shown_of g) leg_is ∙ opened_shown (st (shown_of (w p))).owes _

        came : Came acts n d ls w (st (shown_of (w p))) (e (w p)) ms v
        came = record {
          touches = touches d apart;
          joined = h.joined;
          there = ap (λ (o : Option Shown). is_some o) (there_at d ch fd);
          leg = leg_is;
          same_role = ap (λ (s : Shown). s.role) after;
          state = ap (λ (s : Shown). s.channel.state) after;
          notes_of_it = is.notes_of_it (shown_of (w p));
          outcome = is.outcome (shown_of (w p));
          goes = λ g t b state j.
              subst (λ (x : Leg). IsJoin (join.all_told (st (shown_of (w p))).notes (record { a = g; b = x; there = t; back = b }))) (sym leg_is) (is.goes (w p) g t b state j);
        }

    by_effect : Effect f l notes → After acts routes n notes ls w ms
    by_effect (nothing none legs) =
        subst (λ (ns : List Note). After acts routes n ns ls w ms) (sym none) (record {
          world = v;
          reached = reached_then ls ms ms w v v reached (reached_none ms v);
          right = steady ls ms w v i reached h.joined h.places (λ x. by_line x (decided (x.line == n)));
        })
      where
        by_line : (x : SwitchChannel) → ((x.line == n) ≡ true) ⊎ ((x.line == n) ≡ false) → v x ≡ w x
        by_line x (inl t) = here x t ∙ legs x.channel (w x)
        by_line x (inr no_) = h.elsewhere x no_
    by_effect (closes_all reason is legs) =
        subst (λ (ns : List Note). After acts routes n ns ls w ms) (sym is) (becomes_then ls ms _ w v reached (closings routes n 1 reason l.channels ms v (all_close reason legs)))
    by_effect (on_one d st e is apart leg empty some) = one_step d st e is apart leg (channel_of l d) refl empty some

-- ---- one act

act_happened : (a : Act) (l : Layer) (ls ms : List SwitchLine) (w : World) → MayHappen a → slice_get (layers_of ls) (line_of a) ≡ Some l → HasActed a ls ms
    → Happened (a ∷ []) (line_of a) (λ c g. leg_after a (Some l) c g) ls ms w (world_after a (layers_of ls) w)
act_happened a l ls ms w may got h = record {
  reached = record { may = (may, tt); layers = h.layers; legs = refl };
  joined = h.joined;
  places = h.places;
  here = λ x t. leg_on_line a (layers_of ls) w x (Some l) t got;
  elsewhere = λ x e. leg_elsewhere a (layers_of ls) w x e;
}

may_happen : (a : Act) → IsTold a → MayHappen a
may_happen (Comes n r) m = m
may_happen (Expires n t) m = tt
may_happen (GoesUp n) m = tt
may_happen (GoesDown n) m = tt
may_happen a m = absurd m

pub heeds_right : (routes : RouteMap) (a : Act) (l : Layer) (ls ms : List SwitchLine) (w : World) → IsTold a → slice_get (layers_of ls) (line_of a) ≡ Some l → HasActed a ls ms → IsSwitch ls w
    → After (a ∷ []) routes (line_of a) (notes_made a (Some l)) ls w ms
heeds_right routes a l ls ms w m got h i =
    effect_right routes (line_of a) _ l ls ms w _ (notes_made a (Some l)) (effect a l m) got (act_happened a l ls ms w (may_happen a m) got h) i
