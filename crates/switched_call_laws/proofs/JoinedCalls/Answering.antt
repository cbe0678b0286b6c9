-- Notes of a channel that is not joined: a call that comes in is cleared, or joined to one that is placed.
use Rattle.std.specs.Prelude.{◌≡◌, ℕ, ◌⊎◌, Bool, true, false, not, if◌then◌else◌, List, [], ◌∷◌, ◌++◌, length, slice_get, Option, Some, None, is_some}
use Rattle.std.proofs.Common.{inl, inr, refl, sym, ap, ap₂, subst, ◌∙◌, true≢false, append-nil}
use Rattle.std.proofs.lemmas.Option.{none-some, same_Some}
use Rattle.std.proofs.lemmas.Bool.{eq-eqb}
use Rattle.link_timers.specs.declared.role.Role.{Role}
use Rattle.link_timers.specs.declared.role.Role.TheVariants.{Dce}
use Rattle.packet_codec.specs.Diagnostic.{no_information}
use Rattle.data_transfer.specs.Packets.{CallParts, Note}
use Rattle.data_transfer.specs.Packets.Note.{Incoming, Connected, Closed, WasReset, InterruptConfirmed, Covered}
use Rattle.packet_channel.specs.Channel.{ChannelState, Channel, had_call, is_ready, is_free}
use Rattle.packet_channel.specs.Channel.Request.{Clearing}
use Rattle.packet_layer.specs.Layer.{Layer, channel_of, channel_given}
use Rattle.packet_laws.specs.Readable.{Every}
use Rattle.packet_laws.proofs.Call.Saying.{and_parts}
use Rattle.packet_laws.proofs.Line.Outcomes.{free_is, given_ready}
use Rattle.address_routes.specs.Routes.{RouteMap, line_for}
use Rattle.call_records.specs.Book.{Book, slot_at}
use Rattle.call_records.specs.Carried.{placed_on}
use Rattle.record_laws.proofs.Books.Basics.{get_before, get_last}
use Rattle.switch_joins.specs.Direction.{new_direction}
use Rattle.switch_joins.specs.declared.channels.SwitchChannel.{SwitchChannel}
use Rattle.switch_joins.specs.Joins.{Joined}
use Rattle.switch_lines.specs.Lines.{SwitchLine, same_place, joined_at, with_joined, ask}
use Rattle.switch_lines.specs.Relay.{told, told_of}
use Rattle.switch_lines.specs.Switch.{Answer, answer, route_from, answered, forwarded, place_call, heed, heed_all, has_any}
use Rattle.switch_lines.specs.Switch.Answer.{Clears, Joins}
use Rattle.switch_laws.specs.Leg.{Leg}
use Rattle.switch_laws.specs.World.{Act, layers_of, shown_at, shown_on, shown_as}
use Rattle.switch_laws.specs.Joined.{has_place}
use Rattle.switch_laws.specs.Steps.{Step}
use Rattle.switch_laws.specs.Steps.Step.{Asks, Places, Keeps}
use Rattle.switch_laws.specs.EventSteps.{told_steps, answered_steps, heed_steps, heed_all_steps}
use Rattle.switch_laws.proofs.JoinsAfterNotes.{at}
use Rattle.switch_laws.proofs.Outcomes.{AreOf}
use Rattle.switch_laws.proofs.Places.{joined_here, place_after, place_joined}
use Rattle.switch_laws.proofs.SettingUp.{IsFreePlace, IsAnswer, layer_there, answer_by_is, answer_if, joins_by_route, not_back, ready_no_call}
use Rattle.switched_call_laws.specs.SwitchRecords.Records.{call_on, leg_if, Has}
use Rattle.switched_call_laws.specs.SwitchRecords.Written.{Books, writes_at}
use Rattle.switched_call_laws.proofs.SwitchRecords.Cells.{Touches, touches_none, touches_new}
use Rattle.switched_call_laws.proofs.SwitchRecords.Heads.{places_opens}
use Rattle.switched_call_laws.specs.JoinedCalls.Calls.{JoinedCall, present_at, numbered, made_call, books_by, Stands, StandsOrEnded, AreCalls}
use Rattle.switched_call_laws.proofs.JoinedCalls.Steady.{shape, Stay, Paired, Mutual, HavePlaces, books_rest, every_map, calls_same, one_stays, stands_stay}
use Rattle.switched_call_laws.proofs.JoinedCalls.Walking.{Leads, Beside, Walked, walked_quiet}
use Rattle.switched_call_laws.proofs.SwitchRecords.Calming.{addresses}
use Rattle.switched_call_laws.proofs.JoinedCalls.Following.{CameIn, KeptQuietly, KeptJoining, And, steps_keep}
use Rattle.switch_laws.specs.Pairs.{IsNoted}
use Rattle.switched_call_laws.proofs.JoinedCalls.Closing.{if_apart, TouchesAt, clear_touches, touched_slot}
use Rattle.switch_joins.proofs.Apart.{decided, place_is}
use Rattle.switch_lines.proofs.Places.{joined_kept, joined_asked, joined_apart}

-- ---- a joined channel has a present record, and so has one with a call

pub joined_present : (ls : List SwitchLine) (bs : Books) (cs : List JoinedCall) (x : SwitchChannel) (i : Joined) → AreCalls ls bs cs → Mutual ls → joined_at ls x ≡ Some i → (m : ℕ) × (present_at x bs ≡ Some m)
joined_present ls bs cs x i a m e = by_side i.came_in refl
  where
    k : Paired ls x i
    k = m x i e

    by_side : (v : Bool) → i.came_in ≡ v → (n : ℕ) × (present_at x bs ≡ Some n)
    by_side true f = let c = a.all x i e f in (c.1.came_in, ap (λ (y : SwitchChannel). present_at y bs) (sym c.4) ∙ c.3.near_present)
    by_side false f =
        let c = a.all i.other k.far k.joined (k.one_came_in ∙ ap not f) in
        let is : c.3.join ≡ k.far = same_Some c.3.join k.far (sym c.3.joined ∙ (ap (λ (y : SwitchChannel). joined_at ls y) c.4 ∙ k.joined)) in
        let far : c.1.far ≡ x = sym c.3.other ∙ (ap (λ (j : Joined). j.other) is ∙ k.back) in
        (c.1.placed, ap (λ (y : SwitchChannel). present_at y bs) (sym far) ∙ c.3.far_present)

-- the channel of a layer, with its call
pub record Seen (ls : List SwitchLine) (bs : Books) (legs : ℕ → Leg) (x : SwitchChannel) : Type 0 where
  pub layer : Layer
  pub there : slice_get (layers_of ls) x.line ≡ Some layer
  pub channel : Channel
  pub found : channel_of layer x.channel ≡ Some channel
  pub has : Has Dce x.channel (leg_if (had_call channel.state) (legs x.channel)) (bs x.line)

pub seen_at : (ls : List SwitchLine) (bs : Books) (x : SwitchChannel) (b : Beside ls bs) → is_some (shown_at (layers_of ls) x) ≡ true → Seen ls bs (λ c. b.legs (record { line = x.line; channel = c })) x
seen_at ls bs x b e = by_layer (slice_get (layers_of ls) x.line) refl
  where
    by_channel : (l : Layer) (o : Option Channel) → slice_get (layers_of ls) x.line ≡ Some l → channel_of l x.channel ≡ o → Seen ls bs (λ c. b.legs (record { line = x.line; channel = c })) x
    by_channel l None f g = absurd (true≢false (sym e ∙ (ap (λ (y : Option Layer). is_some (shown_on y x.channel)) f ∙ ap (λ (o : Option Channel). is_some (shown_as l o)) g)))
    by_channel l (Some ch) f g = record {
      layer = l;
      there = f;
      channel = ch;
      found = g;
      has = subst (λ (o : Option Channel). Has Dce x.channel (call_on o (b.legs x)) (bs x.line)) g ((b.records x.line l f).has x.channel);
    }

    by_layer : (o : Option Layer) → slice_get (layers_of ls) x.line ≡ o → Seen ls bs (λ c. b.legs (record { line = x.line; channel = c })) x
    by_layer None f = absurd (true≢false (sym e ∙ ap (λ (y : Option Layer). is_some (shown_on y x.channel)) f))
    by_layer (Some l) f = by_channel l (channel_of l x.channel) f refl

pub record_call : (v : Bool) (c m : ℕ) (g : Leg) (b : Book) → (slot_at Dce c b).present ≡ Some m → Has Dce c (leg_if v g) b → v ≡ true
record_call true c m g b e h = refl
record_call false c m g b e h = absurd (none-some m (sym h ∙ e))

-- ---- a free channel

free_channel_of : (ls : List SwitchLine) (q : SwitchChannel) (f : IsFreePlace ls q) → (ch : Channel) × ((channel_of f.line.end.layer q.channel ≡ Some ch) × (is_free ch ≡ true))
free_channel_of ls q f = free_is f.line.end.layer.role f.line.end.layer.channels q.channel (given_ready f.line.end.layer f.line.end.layer.phase q.channel f.given).1

free_there : (ls : List SwitchLine) (q : SwitchChannel) → IsFreePlace ls q → is_some (shown_at (layers_of ls) q) ≡ true
free_there ls q f =
    ap (λ (o : Option Layer). is_some (shown_on o q.channel)) (layer_there ls q f) ∙ ap (λ (o : Option Channel). is_some (shown_as f.line.end.layer o)) (free_channel_of ls q f).1.0

free_absent : (ls : List SwitchLine) (bs : Books) (q : SwitchChannel) (m : ℕ) → IsFreePlace ls q → Beside ls bs → present_at q bs ≡ Some m → ⊥
free_absent ls bs q m f b e =
    let s = seen_at ls bs q b (free_there ls q f) in
    let ch = free_channel_of ls q f in
    let same : s.layer ≡ f.line.end.layer = same_Some s.layer f.line.end.layer (sym s.there ∙ layer_there ls q f) in
    let is : s.channel ≡ ch.0 = same_Some s.channel ch.0 (sym s.found ∙ (ap (λ (l : Layer). channel_of l q.channel) same ∙ ch.1.0)) in
    ready_no_call s.channel.state (ap (λ (c : Channel). is_ready c.state) is ∙ (and_parts (is_ready ch.0.state) _ ch.1.1).0) (record_call (had_call s.channel.state) q.channel m (b.legs q) (bs q.line) e s.has)

-- ---- placed

placed_line : (q : SwitchChannel) (parts : CallParts) (o : Option Layer) (b : Book) → ((l : Layer) → o ≡ Some l → channel_given l l.phase ≡ Some q.channel) → Touches Dce q.channel b (writes_at (Act.Calls q.line parts) o b)
placed_line q parts None b g = touches_none Dce q.channel b
placed_line q parts (Some l) b g = subst (λ (o : Option ℕ). Touches Dce q.channel b (placed_on Dce o parts b)) (sym (g l refl)) (touches_new Dce q.channel _ _ b refl)

given_at : (ls : List SwitchLine) (q : SwitchChannel) (f : IsFreePlace ls q) (l : Layer) → slice_get (layers_of ls) q.line ≡ Some l → channel_given l l.phase ≡ Some q.channel
given_at ls q f l e = let same : l ≡ f.line.end.layer = same_Some l f.line.end.layer (sym e ∙ layer_there ls q f) in ap (λ (y : Layer). channel_given y y.phase) same ∙ f.given

placed_touches_at : (q : SwitchChannel) (parts : CallParts) (ls : List SwitchLine) (bs : Books) → IsFreePlace ls q → TouchesAt q bs (books_by (Places q.line parts) ls bs)
placed_touches_at q parts ls bs f = record {
  line =
      subst (λ (v : Bool). Touches Dce q.channel (bs q.line) (if v then writes_at (Act.Calls q.line parts) (slice_get (layers_of ls) q.line) (bs q.line) else bs q.line)) (sym (eq-eqb q.line q.line refl))
      (placed_line q parts (slice_get (layers_of ls) q.line) (bs q.line) (λ l e. given_at ls q f l e));
  others = λ k ne. if_apart k q.line _ (bs k) ne;
}

placed_present : (q : SwitchChannel) (parts : CallParts) (ls : List SwitchLine) (bs : Books) → IsFreePlace ls q → Beside ls bs → present_at q (books_by (Places q.line parts) ls bs) ≡ Some (length (bs q.line).records)
placed_present q parts ls bs f b =
    let l = f.line.end.layer in
    let s = (b.records q.line l (layer_there ls q f)).slots q.channel (ap (λ (o : Option Channel). is_some o) (free_channel_of ls q f).1.0) in
    ap (λ (v : Bool). (slot_at Dce q.channel (if v then writes_at (Act.Calls q.line parts) (slice_get (layers_of ls) q.line) (bs q.line) else bs q.line)).present) (eq-eqb q.line q.line refl)
    ∙ (ap (λ (o : Option Layer). (slot_at Dce q.channel (writes_at (Act.Calls q.line parts) o (bs q.line))).present) (layer_there ls q f)
    ∙ (ap (λ (o : Option ℕ). (slot_at Dce q.channel (placed_on Dce o parts (bs q.line))).present) f.given ∙ (places_opens q.channel parts (bs q.line) s).present))

-- ---- a call that comes in

every_last : {X : Type 0} (P : X → Type 0) (xs : List X) (x : X) → Every P xs → P x → Every P (xs ++ x ∷ [])
every_last P [] x e p = (p, tt)
every_last P (y ∷ xs) x e p = (e.0, every_last P xs x e.1 p)

cleared : (cause : ℕ) (p : SwitchChannel) (ls : List SwitchLine) (bs : Books) (cs : List JoinedCall) → Mutual ls → joined_at ls p ≡ None → AreCalls ls bs cs
    → AreCalls (ask p (Clearing cause no_information) ls) (books_by (Asks p (Clearing cause no_information)) ls bs) cs
cleared cause p ls bs cs m none a =
    let r = Clearing cause no_information in
    calls_same ls (ask p r ls) bs (books_by (Asks p r) ls bs) cs m (record {
      joins = λ x. ap shape (joined_asked p r x ls);
      slots = λ x j e. touched_slot p x bs (books_by (Asks p r) ls bs) (not_here x j e) (clear_touches cause no_information p ls bs);
      rests = λ k n rec s. books_rest (Act.Asks p r ∷ []) (layers_of ls) bs k n rec s;
    }) a
  where
    not_here : (x : SwitchChannel) (j : Joined) → joined_at ls x ≡ Some j → same_place x p ≡ false
    not_here x j e = by_test (decided (same_place x p))
      where
        by_test : (same_place x p ≡ true) ⊎ (same_place x p ≡ false) → same_place x p ≡ false
        by_test (inl t) = absurd (none-some j (sym none ∙ (ap (λ (y : SwitchChannel). joined_at ls y) (sym (place_is x p t)) ∙ e)))
        by_test (inr f) = f

module _ (p q : SwitchChannel) (parts : CallParts) (ls : List SwitchLine) (bs : Books) (b : Beside ls bs) (none : joined_at ls p ≡ None) (number : ℕ) (p_present : present_at p bs ≡ Some number) (f : IsFreePlace ls q) where
  abbrev jp : Joined
  jp = record { other = q; came_in = true; kept = new_direction }

  abbrev jq : Joined
  jq = record { other = p; came_in = false; kept = new_direction }

  abbrev l1 : List SwitchLine
  l1 = place_call q.line parts ls

  abbrev l2 : List SwitchLine
  l2 = with_joined p (Some jp) l1

  abbrev ms : List SwitchLine
  ms = with_joined q (Some jq) l2

  abbrev bs' : Books
  bs' = books_by (Places q.line parts) ls bs

  abbrev made : JoinedCall
  made = record { near = p; far = q; came_in = number; placed = length (bs q.line).records }

  touches : TouchesAt q bs bs'
  touches = placed_touches_at q parts ls bs f

  apart : same_place p q ≡ false
  apart = by_test (decided (same_place p q))
    where
      by_test : (same_place p q ≡ true) ⊎ (same_place p q ≡ false) → same_place p q ≡ false
      by_test (inl t) = absurd (free_absent ls bs q number f b (ap (λ (y : SwitchChannel). present_at y bs) (sym (place_is p q t)) ∙ p_present))
      by_test (inr g) = g

  kept1 : (x : SwitchChannel) → joined_at l1 x ≡ joined_at ls x
  kept1 x = joined_kept q.line x.line x.channel _ ls (λ l. refl)

  near_now : present_at p bs' ≡ Some number
  near_now = touched_slot q p bs bs' apart touches ∙ p_present

  far_now : present_at q bs' ≡ Some (length (bs q.line).records)
  far_now = placed_present q parts ls bs f b

  made_is : made_call (joined_at l1 p) p jp bs' ≡ made ∷ []
  made_is =
      ap (λ (o : Option Joined). made_call o p jp bs') (kept1 p ∙ none)
      ∙ (ap (λ (o : Option ℕ). numbered p q o (present_at q bs')) near_now ∙ ap (λ (o : Option ℕ). numbered p q (Some number) o) far_now)

  none_made : made_call (joined_at l2 q) q jq bs' ≡ []
  none_made = by_joined (joined_at l2 q)
    where
      by_joined : (o : Option Joined) → made_call o q jq bs' ≡ []
      by_joined None = refl
      by_joined (Some i) = refl

  pub joins_lead : Leads (Places q.line parts ∷ Keeps p (Some jp) ∷ Keeps q (Some jq) ∷ []) ls bs ms bs' (made ∷ [])
  joins_lead = record { lines = refl; books = refl; calls = ap₂ (λ (xs ys : List JoinedCall). xs ++ (ys ++ [])) made_is none_made }

  -- the calls that were joined before stay, and this one stands

  module _ (cs : List JoinedCall) (m : Mutual ls) (a : AreCalls ls bs cs) (p_there : is_some (shown_at (layers_of ls) p) ≡ true) (places : (x : SwitchChannel) → is_some (shown_at (layers_of ls) x) ≡ true → has_place ls x ≡ true) where
    q_none : joined_at ls q ≡ None
    q_none = by_joined (joined_at ls q) refl
      where
        by_joined : (o : Option Joined) → joined_at ls q ≡ o → joined_at ls q ≡ None
        by_joined None e = e
        by_joined (Some i) e = let k = joined_present ls bs cs q i a m e in absurd (free_absent ls bs q k.0 f b k.1)

    here : joined_at ms p ≡ Some jp
    here = joined_apart q (Some jq) p l2 apart ∙ joined_here p (Some jp) l1 (place_after q.line _ ls p (λ l. refl) ∙ places p p_there)

    there : joined_at ms q ≡ Some jq
    there = joined_here q (Some jq) l2 (place_joined p (Some jp) l1 q ∙ (place_after q.line _ ls q (λ l. refl) ∙ places q (free_there ls q f)))

    else_ : (x : SwitchChannel) → same_place x p ≡ false → same_place x q ≡ false → joined_at ms x ≡ joined_at ls x
    else_ x g h = joined_apart q (Some jq) x l2 h ∙ (joined_apart p (Some jp) x l1 g ∙ kept1 x)

    not_at : (y x : SwitchChannel) (j : Joined) → joined_at ls y ≡ None → joined_at ls x ≡ Some j → same_place x y ≡ false
    not_at y x j gone e = by_test (decided (same_place x y))
      where
        by_test : (same_place x y ≡ true) ⊎ (same_place x y ≡ false) → same_place x y ≡ false
        by_test (inl t) = absurd (none-some j (sym gone ∙ (ap (λ (z : SwitchChannel). joined_at ls z) (sym (place_is x y t)) ∙ e)))
        by_test (inr g) = g

    stay : Stay ls ms bs bs'
    stay = record {
      joins = λ x j e. (j, (else_ x (not_at p x j none e) (not_at q x j q_none e) ∙ e, refl));
      slots = λ x j e. touched_slot q x bs bs' (not_at q x j q_none e) touches;
      rests = λ k n r s. books_rest (Act.Calls q.line parts ∷ []) (layers_of ls) bs k n r s;
    }

    stands : Stands ms bs' made
    stands = record { join = jp; joined = here; other = refl; came_in_here = refl; near_present = near_now; far_present = far_now }

    calls_then : AreCalls ms bs' (cs ++ made ∷ [])
    calls_then = record {
      each = every_last (StandsOrEnded ms bs') cs made (every_map (StandsOrEnded ls bs) (StandsOrEnded ms bs') cs (λ c s. one_stays ls ms bs bs' c m stay s) a.each) (inl stands);
      all = λ x j e came. by_place x j e came (decided (same_place x p)) (decided (same_place x q));
    }
      where
        by_place : (x : SwitchChannel) (j : Joined) → joined_at ms x ≡ Some j → j.came_in ≡ true → (same_place x p ≡ true) ⊎ (same_place x p ≡ false) → (same_place x q ≡ true) ⊎ (same_place x q ≡ false)
            → (i : ℕ) × (c : JoinedCall) × (slice_get (cs ++ made ∷ []) i ≡ Some c) × Stands ms bs' c × (c.near ≡ x)
        by_place x j e came (inl t) v = (length cs, made, get_last cs made, stands, sym (place_is x p t))
        by_place x j e came (inr g) (inl t) =
            let is : jq ≡ j = same_Some jq j (sym there ∙ (ap (λ (y : SwitchChannel). joined_at ms y) (sym (place_is x q t)) ∙ e)) in
            absurd (true≢false (sym came ∙ ap (λ (i : Joined). i.came_in) (sym is)))
        by_place x j e came (inr g) (inr h) =
            let c = a.all x j (sym (else_ x g h) ∙ e) came in
            (c.0, c.1, get_before cs (made ∷ []) c.0 c.1 c.2, stands_stay ls ms bs bs' c.1 m stay c.3, c.4)

-- ---- answered

module _ (routes : RouteMap) (given : List (Option (List ℕ))) (R : Books → List JoinedCall → Type 0) (keeps : KeptQuietly R) (joins : KeptJoining routes given R) where
  clears_walk : (cause : ℕ) (p : SwitchChannel) (ls : List SwitchLine) (bs : Books) (cs : List JoinedCall) → Mutual ls → joined_at ls p ≡ None → AreCalls ls bs cs → R bs cs
      → Walked (And AreCalls R) (Asks p (Clearing cause no_information) ∷ []) ls bs cs (ask p (Clearing cause no_information) ls)
  clears_walk cause p ls bs cs m none a r =
      let ss : List Step = Asks p (Clearing cause no_information) ∷ [] in
      walked_quiet (And AreCalls R) ss ls bs cs (ask p (Clearing cause no_information) ls) refl refl (cleared cause p ls bs cs m none a, steps_keep R keeps ss ls bs cs (tt, tt) r)

  answers_walk : (v : Answer) (p : SwitchChannel) (parts : CallParts) (ls : List SwitchLine) (bs : Books) (cs : List JoinedCall) → answer routes ls p.line parts ≡ v → IsAnswer ls v → Mutual ls → Beside ls bs → HavePlaces ls → AreCalls ls bs cs → joined_at ls p ≡ None
      → is_some (shown_at (layers_of ls) p) ≡ true → CameIn p parts bs → addresses ls ≡ given → R bs cs → Walked (And AreCalls R) (answered_steps v p parts ls) ls bs cs (answered v p parts ls)
  answers_walk (Clears cause) p parts ls bs cs is f m b places a none was came same r = clears_walk cause p ls bs cs m none a r
  answers_walk (Joins q) p parts ls bs cs is f m b places a none was came same r =
      let to = forwarded ls p.line parts in
      record {
        after = books_by (Places q.line to) ls bs;
        new = record { near = p; far = q; came_in = came.number; placed = length (bs q.line).records } ∷ [];
        leads = joins_lead p q to ls bs b none came.number came.present f;
        holds = (
          calls_then p q to ls bs b none came.number came.present f cs m a was places,
          joins p q parts ls bs cs (record {
            calls = a;
            beside = b;
            came_in = came;
            not_joined = none;
            free = f;
            routed = joins_by_route routes ls p.line parts q is;
            not_back = λ back. not_back routes ls p.line parts q is back;
            apart = apart p q to ls bs b none came.number came.present f;
            lines = same;
            there = was;
          }) r,
        );
      }

  pub incoming_walk : (n c : ℕ) (parts : CallParts) (ls : List SwitchLine) (bs : Books) (cs : List JoinedCall) → Mutual ls → Beside ls bs → HavePlaces ls → AreCalls ls bs cs → joined_at ls (at n c) ≡ None
      → is_some (shown_at (layers_of ls) (at n c)) ≡ true → CameIn (at n c) parts bs → addresses ls ≡ given → R bs cs → Walked (And AreCalls R) (heed_steps routes n (Incoming c parts) ls) ls bs cs (heed routes n (Incoming c parts) ls)
  incoming_walk n c parts ls bs cs m b places a none there came same r =
      answers_walk (answer routes ls n parts) (at n c) parts ls bs cs refl (answer_if (has_any parts.facilities) ls _ _ (answer_by_is ls (route_from n ls (line_for routes parts.called)))) m b places a none there came same r

  -- ---- all notes of a channel that is not joined

  -- lines and books as they are while such notes are heeded
  pub record Alone (n c : ℕ) (ns : List Note) (ls : List SwitchLine) (bs : Books) (cs : List JoinedCall) : Type 0 where
    pub pairs : Mutual ls
    pub beside : Beside ls bs
    pub places : HavePlaces ls
    pub calls : AreCalls ls bs cs
    pub none : joined_at ls (at n c) ≡ None
    pub there : is_some (shown_at (layers_of ls) (at n c)) ≡ true
    pub came : (parts : CallParts) → IsNoted ns c parts → CameIn (at n c) parts bs
    pub lines : addresses ls ≡ given
    pub kept : R bs cs

  later : (n c : ℕ) (x : Note) (ns : List Note) (ls : List SwitchLine) (bs : Books) (cs : List JoinedCall) → Alone n c (x ∷ ns) ls bs cs → Alone n c ns ls bs cs
  later n c x ns ls bs cs i = record { pairs = i.pairs; beside = i.beside; places = i.places; calls = i.calls; none = i.none; there = i.there; came = λ parts h. i.came parts (inr h); lines = i.lines; kept = i.kept }

  untold : (note : Note) (n c d : ℕ) (ns : List Note) (ls : List SwitchLine) (bs : Books) (cs : List JoinedCall) → d ≡ c → joined_at ls (at n c) ≡ None
      → Walked (And AreCalls R) (heed_all_steps routes n ns ls) ls bs cs (heed_all routes n ns ls)
      → Walked (And AreCalls R) (told_steps (joined_at ls (at n d)) note (at n d) ls ++ heed_all_steps routes n ns (told note (at n d) ls)) ls bs cs (heed_all routes n ns (told note (at n d) ls))
  untold note n c d ns ls bs cs e none h =
      subst (λ (o : Option Joined). Walked (And AreCalls R) (told_steps o note (at n d) ls ++ heed_all_steps routes n ns (told_of o note (at n d) ls)) ls bs cs (heed_all routes n ns (told_of o note (at n d) ls)))
      (sym (ap (λ (k : ℕ). joined_at ls (at n k)) e ∙ none)) h

  pub alone_walk : (n c : ℕ) (role : Role) (s : ChannelState) (ns : List Note) (ls : List SwitchLine) (bs : Books) (cs : List JoinedCall) → AreOf c role s ns → Alone n c ns ls bs cs
      → Walked (And AreCalls R) (heed_all_steps routes n ns ls) ls bs cs (heed_all routes n ns ls)
  alone_walk n c role s [] ls bs cs of i = walked_quiet (And AreCalls R) [] ls bs cs ls refl refl (i.calls, i.kept)
  alone_walk n c role s (Incoming d parts ∷ ns) ls bs cs of i =
      subst (λ (more : List Note). Walked (And AreCalls R) (heed_steps routes n (Incoming d parts) ls ++ heed_all_steps routes n more (heed routes n (Incoming d parts) ls)) ls bs cs (heed_all routes n more (heed routes n (Incoming d parts) ls))) (sym of.1.1)
      (subst (λ (ss : List Step). Walked (And AreCalls R) ss ls bs cs (heed routes n (Incoming d parts) ls)) (sym (append-nil (heed_steps routes n (Incoming d parts) ls)))
      (subst (λ (k : ℕ). Walked (And AreCalls R) (heed_steps routes n (Incoming k parts) ls) ls bs cs (heed routes n (Incoming k parts) ls)) (sym of.0)
      (incoming_walk n c parts ls bs cs i.pairs i.beside i.places i.calls i.none i.there (i.came parts (inl (ap (λ (k : ℕ). Incoming k parts) of.0))) i.lines i.kept)))
  alone_walk n c role s (Connected d ∷ ns) ls bs cs of i = untold (Connected d) n c d ns ls bs cs of.0 i.none (alone_walk n c role s ns ls bs cs of.1 (later n c (Connected d) ns ls bs cs i))
  alone_walk n c role s (Closed d cause diagnostic reason ∷ ns) ls bs cs of i =
      untold (Closed d cause diagnostic reason) n c d ns ls bs cs of.0 i.none (alone_walk n c role s ns ls bs cs of.1 (later n c (Closed d cause diagnostic reason) ns ls bs cs i))
  alone_walk n c role s (WasReset d cause diagnostic reason ∷ ns) ls bs cs of i =
      untold (WasReset d cause diagnostic reason) n c d ns ls bs cs of.0 i.none (alone_walk n c role s ns ls bs cs of.1 (later n c (WasReset d cause diagnostic reason) ns ls bs cs i))
  alone_walk n c role s (InterruptConfirmed d ∷ ns) ls bs cs of i =
      untold (InterruptConfirmed d) n c d ns ls bs cs of.0 i.none (alone_walk n c role s ns ls bs cs of.1 (later n c (InterruptConfirmed d) ns ls bs cs i))
  alone_walk n c role s (Covered d k ∷ ns) ls bs cs of i = untold (Covered d k) n c d ns ls bs cs of.0 i.none (alone_walk n c role s ns ls bs cs of.1 (later n c (Covered d k) ns ls bs cs i))
