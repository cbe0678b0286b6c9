-- A switch heeds notes that calls are over: the joins of these calls end with records that have what was handed on.
use Rattle.std.specs.Prelude.{◌≡◌, ℕ, ◌⊎◌, true, false, List, [], ◌∷◌, slice_get, Option, Some, None, is_some}
use Rattle.std.proofs.Common.{inl, inr, refl, sym, ap, subst, ◌∙◌, true≢false}
use Rattle.std.proofs.lemmas.Option.{none-some, same_Some}
use Rattle.data_transfer.specs.Packets.{CallParts, Note, Reason}
use Rattle.data_transfer.specs.Packets.Note.{Incoming, Connected, Closed, WasReset, InterruptConfirmed, Covered}
use Rattle.packet_channel.specs.Channel.{Request}
use Rattle.packet_channel.specs.Channel.Request.{Clearing}
use Rattle.packet_laws.specs.Readable.{Every}
use Rattle.address_routes.specs.Routes.{RouteMap}
use Rattle.call_records.specs.Records.{RecordValue}
use Rattle.joined_line.specs.Causes.{clear_cause, far_diagnostic}
use Rattle.switch_joins.specs.declared.channels.SwitchChannel.{SwitchChannel}
use Rattle.switch_joins.specs.Joins.{Joined}
use Rattle.switch_lines.specs.Lines.{SwitchLine, is_trunk, same_place, joined_at, with_joined, ask}
use Rattle.switch_lines.specs.Relay.{told_of}
use Rattle.switch_lines.specs.Switch.{heed, heed_all}
use Rattle.switch_laws.specs.World.{Act, layers_of, shown_at}
use Rattle.switch_laws.specs.Joined.{IsOver}
use Rattle.switch_laws.specs.Steps.Step.{Asks, Keeps}
use Rattle.switch_laws.specs.EventSteps.{told_steps, heed_steps, heed_all_steps}
use Rattle.switch_laws.proofs.JoinsAfterNotes.{at}
use Rattle.switch_laws.proofs.Lists.{same_as}
use Rattle.switch_laws.proofs.Places.{joined_here, joined_place, place_joined, place_after}
use Rattle.switched_call_laws.specs.SwitchRecords.Written.{Books}
use Rattle.switched_call_laws.specs.SwitchRecords.Relayed.{AreRelayed}
use Rattle.switched_call_laws.specs.JoinedCalls.Calls.{JoinedCall, present_at, books_by, Stands, HasEnded, AreCalls}
use Rattle.switched_call_laws.proofs.JoinedCalls.Steady.{Paired, Mutual, HavePlaces, books_rest, every_map, ended_same}
use Rattle.switched_call_laws.proofs.JoinedCalls.Walking.{Beside, beside_step, there_step, Walked, walked_then, walked_quiet}
use Rattle.switched_call_laws.proofs.JoinedCalls.Following.{CameIn, KeptQuietly, And, steps_keep}
use Rattle.switched_call_laws.proofs.JoinedCalls.Closing.{epochs_itself, relayed_same, Side, Held, RestsWith, side_stays, came_stays, side_clears, side_rests, records_at}
use Rattle.switch_joins.proofs.Apart.{decided, place_is}
use Rattle.switch_lines.proofs.Places.{joined_asked, joined_apart}

-- ---- the joined calls while notes of line n are still to be told

-- the join is there, and its records have what was handed on
pub record InHand (n : ℕ) (ns : List Note) (ls : List SwitchLine) (bs : Books) (c : JoinedCall) : Type 0 where
  pub near_record : RecordValue
  pub far_record : RecordValue
  pub relayed : AreRelayed near_record far_record
  pub join : Joined
  pub joined : joined_at ls c.near ≡ Some join
  pub other : join.other ≡ c.far
  pub came_in_here : join.came_in ≡ true
  pub near_side : Side n ns bs c.near c.came_in near_record
  pub far_side : Side n ns bs c.far c.placed far_record

pub record Marks (n : ℕ) (ns : List Note) (ls : List SwitchLine) (bs : Books) (cs : List JoinedCall) : Type 0 where
  pub pairs : Mutual ls
  pub places : HavePlaces ls
  pub beside : Beside ls bs
  pub each : Every (λ c. InHand n ns ls bs c ⊎ HasEnded bs c) cs
  pub all : (p : SwitchChannel) (j : Joined) → joined_at ls p ≡ Some j → j.came_in ≡ true
      → (i : ℕ) × (c : JoinedCall) × (slice_get cs i ≡ Some c) × InHand n ns ls bs c × (c.near ≡ p)

-- ---- one of them is over

fewer_held : (n : ℕ) (note : Note) (ns : List Note) (bs : Books) (x : SwitchChannel) (m : ℕ) → (IsOver n (note ∷ ns) x → IsOver n ns x) → (IsOver n ns x → IsOver n (note ∷ ns) x) → Held n (note ∷ ns) bs x m → Held n ns bs x m
fewer_held n note ns bs x m f g (inl h) = inl (f h.0, h.1)
fewer_held n note ns bs x m f g (inr h) = inr ((λ o. h.0 (g o)), h.1)

fewer_side : (n : ℕ) (note : Note) (ns : List Note) (bs : Books) (x : SwitchChannel) (m : ℕ) (it : RecordValue) → (IsOver n (note ∷ ns) x → IsOver n ns x) → (IsOver n ns x → IsOver n (note ∷ ns) x) → Side n (note ∷ ns) bs x m it → Side n ns bs x m it
fewer_side n note ns bs x m it f g s = record { there = s.there; held = fewer_held n note ns bs x m f g s.held }

module _ (n c cause diagnostic : ℕ) (reason : Reason) (ns : List Note) (ls : List SwitchLine) (bs : Books) (cs : List JoinedCall) (m : Marks n (Closed c cause diagnostic reason ∷ ns) ls bs cs)
    (j : Joined) (here : joined_at ls (at n c) ≡ Some j) where
  abbrev p : SwitchChannel
  p = at n c

  abbrev q : SwitchChannel
  q = j.other

  abbrev first : Note
  first = Closed c cause diagnostic reason

  abbrev r : Request
  r = Clearing (clear_cause (is_trunk (slice_get ls n)) reason cause) (far_diagnostic reason diagnostic)

  abbrev l1 : List SwitchLine
  l1 = with_joined p None ls

  abbrev l2 : List SwitchLine
  l2 = with_joined q None l1

  abbrev ms : List SwitchLine
  ms = ask q r l2

  abbrev bs' : Books
  bs' = books_by (Asks q r) l2 bs

  pair : Paired ls p j
  pair = m.pairs p j here

  beside2 : Beside l2 bs
  beside2 = beside_step (Keeps q None) l1 bs tt (beside_step (Keeps p None) ls bs tt m.beside)

  far_pair : Paired ls q pair.far
  far_pair = m.pairs q pair.far pair.joined

  q_there : is_some (shown_at (layers_of l2) q) ≡ true
  q_there = there_step (Keeps q None) l1 q ∙ (there_step (Keeps p None) ls q ∙ far_pair.there)

  joined_else : (x : SwitchChannel) → same_place x p ≡ false → same_place x q ≡ false → joined_at ms x ≡ joined_at ls x
  joined_else x a b = joined_asked q r x l2 ∙ (joined_apart q None x l1 b ∙ joined_apart p None x ls a)

  p_none : joined_at ms p ≡ None
  p_none = joined_asked q r p l2 ∙ (joined_apart q None p l1 pair.apart ∙ joined_here p None ls (joined_place ls p j here))

  q_none : joined_at ms q ≡ None
  q_none = joined_asked q r q l2 ∙ joined_here q None l1 (place_joined p None ls q ∙ joined_place ls q pair.far pair.joined)

  -- a channel that is joined after it
  record Other (x : SwitchChannel) (i : Joined) : Type 0 where
    pub was : joined_at ls x ≡ Some i
    pub not_p : same_place x p ≡ false
    pub not_q : same_place x q ≡ false

  not_none : (x y : SwitchChannel) (i : Joined) → joined_at ms y ≡ None → joined_at ms x ≡ Some i → same_place x y ≡ false
  not_none x y i none e = by_test (decided (same_place x y))
    where
      by_test : (same_place x y ≡ true) ⊎ (same_place x y ≡ false) → same_place x y ≡ false
      by_test (inl t) = absurd (none-some i (sym none ∙ (ap (λ (z : SwitchChannel). joined_at ms z) (sym (place_is x y t)) ∙ e)))
      by_test (inr f) = f

  still : (x : SwitchChannel) (i : Joined) → joined_at ms x ≡ Some i → Other x i
  still x i e =
      let a = not_none x p i p_none e in
      let b = not_none x q i q_none e in
      record { was = sym (joined_else x a b) ∙ e; not_p = a; not_q = b }

  -- the one that it is joined to is neither of the two
  other_not : (x : SwitchChannel) (i : Joined) → joined_at ls x ≡ Some i → same_place x p ≡ false → same_place x q ≡ false → (same_place i.other p ≡ false) × (same_place i.other q ≡ false)
  other_not x i e a b = (by_p (decided (same_place i.other p)), by_q (decided (same_place i.other q)))
    where
      k : Paired ls x i
      k = m.pairs x i e

      by_p : (same_place i.other p ≡ true) ⊎ (same_place i.other p ≡ false) → same_place i.other p ≡ false
      by_p (inr f) = f
      by_p (inl t) =
          let is : k.far ≡ j = same_Some k.far j (sym k.joined ∙ (ap (λ (y : SwitchChannel). joined_at ls y) (place_is i.other p t) ∙ here)) in
          absurd (true≢false (sym (same_as x q (sym k.back ∙ ap (λ (y : Joined). y.other) is)) ∙ b))

      by_q : (same_place i.other q ≡ true) ⊎ (same_place i.other q ≡ false) → same_place i.other q ≡ false
      by_q (inr f) = f
      by_q (inl t) =
          let is : k.far ≡ pair.far = same_Some k.far pair.far (sym k.joined ∙ (ap (λ (y : SwitchChannel). joined_at ls y) (place_is i.other q t) ∙ pair.joined)) in
          absurd (true≢false (sym (same_as x p (sym k.back ∙ (ap (λ (y : Joined). y.other) is ∙ pair.back))) ∙ a))

  mutual_then : Mutual ms
  mutual_then x i e =
      let o = still x i e in
      let k = m.pairs x i o.was in
      let z = other_not x i o.was o.not_p o.not_q in
      record {
        far = k.far;
        joined = joined_else i.other z.0 z.1 ∙ k.joined;
        back = k.back;
        apart = k.apart;
        one_came_in = k.one_came_in;
        there = there_step (Asks q r) l2 x ∙ (there_step (Keeps q None) l1 x ∙ (there_step (Keeps p None) ls x ∙ k.there));
      }

  over_else : (x : SwitchChannel) → same_place x p ≡ false → IsOver n (first ∷ ns) x → IsOver n ns x
  over_else x a (inl e) = absurd (true≢false (sym (same_as x (at n c) e) ∙ a))
  over_else x a (inr h) = h

  over_more : (x : SwitchChannel) → IsOver n ns x → IsOver n (first ∷ ns) x
  over_more x h = inr h

  over_p : (x : SwitchChannel) → x ≡ p → IsOver n (first ∷ ns) x
  over_p x e = inl e

  side_else : (x : SwitchChannel) (k : ℕ) (it : RecordValue) → same_place x p ≡ false → same_place x q ≡ false → Side n (first ∷ ns) bs x k it → Side n ns bs' x k it
  side_else x k it a b s =
      fewer_side n first ns bs' x k it (λ o. over_else x a o) (λ o. over_more x o)
      (side_stays n (first ∷ ns) (clear_cause (is_trunk (slice_get ls n)) reason cause) (far_diagnostic reason diagnostic) q x k it l2 bs b (records_at l2 bs q beside2 q_there).1.1.1.apart s)

  stays_in_hand : (d : JoinedCall) → same_place d.near p ≡ false → same_place d.near q ≡ false → InHand n (first ∷ ns) ls bs d → InHand n ns ms bs' d
  stays_in_hand d a b h =
      let z = other_not d.near h.join h.joined a b in
      record {
        near_record = h.near_record;
        far_record = h.far_record;
        relayed = h.relayed;
        join = h.join;
        joined = joined_else d.near a b ∙ h.joined;
        other = h.other;
        came_in_here = h.came_in_here;
        near_side = side_else d.near d.came_in h.near_record a b h.near_side;
        far_side = side_else d.far d.placed h.far_record (subst (λ (y : SwitchChannel). same_place y p ≡ false) h.other z.0) (subst (λ (y : SwitchChannel). same_place y q ≡ false) h.other z.1) h.far_side;
      }

  clears_side : (x : SwitchChannel) (k : ℕ) (it : RecordValue) → x ≡ q → Side n (first ∷ ns) bs x k it → RestsWith bs' x k it
  clears_side x k it e s =
      subst (λ (y : SwitchChannel). RestsWith bs' y k it) (sym e)
      (side_clears n (first ∷ ns) (clear_cause (is_trunk (slice_get ls n)) reason cause) (far_diagnostic reason diagnostic) q k it l2 bs beside2 q_there (subst (λ (y : SwitchChannel). Side n (first ∷ ns) bs y k it) e s))

  rests_side : (x : SwitchChannel) (k : ℕ) (it : RecordValue) → x ≡ p → Side n (first ∷ ns) bs x k it → RestsWith bs' x k it
  rests_side x k it e s = record { now = it; rests = side_rests n (first ∷ ns) (Act.Asks q r ∷ []) x k it l2 bs (over_p x e) s; epochs = epochs_itself it }

  ended_by : (d : JoinedCall) (near_it far_it : RecordValue) → AreRelayed near_it far_it → RestsWith bs' d.near d.came_in near_it → RestsWith bs' d.far d.placed far_it → HasEnded bs' d
  ended_by d near_it far_it rel a b = record { near_record = a.now; far_record = b.now; near_rests = a.rests; far_rests = b.rests; relayed = relayed_same near_it far_it a.now b.now a.epochs b.epochs rel }

  ends_here : (d : JoinedCall) → d.near ≡ p → InHand n (first ∷ ns) ls bs d → HasEnded bs' d
  ends_here d e h =
      let is : h.join ≡ j = same_Some h.join j (sym h.joined ∙ (ap (λ (y : SwitchChannel). joined_at ls y) e ∙ here)) in
      ended_by d h.near_record h.far_record h.relayed (rests_side d.near d.came_in h.near_record e h.near_side) (clears_side d.far d.placed h.far_record (sym h.other ∙ ap (λ (y : Joined). y.other) is) h.far_side)

  ends_there : (d : JoinedCall) → d.near ≡ q → InHand n (first ∷ ns) ls bs d → HasEnded bs' d
  ends_there d e h =
      let is : h.join ≡ pair.far = same_Some h.join pair.far (sym h.joined ∙ (ap (λ (y : SwitchChannel). joined_at ls y) e ∙ pair.joined)) in
      ended_by d h.near_record h.far_record h.relayed (clears_side d.near d.came_in h.near_record e h.near_side) (rests_side d.far d.placed h.far_record (sym h.other ∙ (ap (λ (y : Joined). y.other) is ∙ pair.back)) h.far_side)

  one_then : (d : JoinedCall) → InHand n (first ∷ ns) ls bs d ⊎ HasEnded bs d → InHand n ns ms bs' d ⊎ HasEnded bs' d
  one_then d (inr h) = inr (ended_same bs bs' d (λ k i rec s. books_rest (Act.Asks q r ∷ []) (layers_of l2) bs k i rec s) h)
  one_then d (inl h) = by_near (decided (same_place d.near p)) (decided (same_place d.near q))
    where
      by_near : (same_place d.near p ≡ true) ⊎ (same_place d.near p ≡ false) → (same_place d.near q ≡ true) ⊎ (same_place d.near q ≡ false) → InHand n ns ms bs' d ⊎ HasEnded bs' d
      by_near (inl t) v = inr (ends_here d (place_is d.near p t) h)
      by_near (inr f) (inl t) = inr (ends_there d (place_is d.near q t) h)
      by_near (inr f) (inr g) = inl (stays_in_hand d f g h)

  marks_then : Marks n ns ms bs' cs
  marks_then = record {
    pairs = mutual_then;
    places = λ x e. place_after q.line _ l2 x (λ l. refl) ∙ (place_joined q None l1 x ∙ (place_joined p None ls x ∙ m.places x (sym (there_step (Asks q r) l2 x ∙ (there_step (Keeps q None) l1 x ∙ there_step (Keeps p None) ls x)) ∙ e)));
    beside = beside_step (Asks q r) l2 bs (tt, tt) beside2;
    each = every_map (λ d. InHand n (first ∷ ns) ls bs d ⊎ HasEnded bs d) (λ d. InHand n ns ms bs' d ⊎ HasEnded bs' d) cs one_then m.each;
    all = λ x i e came.
        let o = still x i e in
        let k = m.all x i o.was came in
        (k.0, k.1, k.2, stays_in_hand k.1 (subst (λ (y : SwitchChannel). same_place y p ≡ false) (sym k.4) o.not_p) (subst (λ (y : SwitchChannel). same_place y q ≡ false) (sym k.4) o.not_q) k.3, k.4);
  }

  -- a call that came in on the channel itself
  came_then : (parts : CallParts) → CameIn p parts bs → CameIn p parts bs'
  came_then parts i = came_stays (clear_cause (is_trunk (slice_get ls n)) reason cause) (far_diagnostic reason diagnostic) q p parts l2 bs pair.apart (records_at l2 bs q beside2 q_there).1.1.1.apart i

-- ---- one note

-- a note of a channel that is not joined
closed_alone : (n c cause diagnostic : ℕ) (reason : Reason) (ns : List Note) (ls : List SwitchLine) (bs : Books) (cs : List JoinedCall) → joined_at ls (at n c) ≡ None
    → Marks n (Closed c cause diagnostic reason ∷ ns) ls bs cs → Marks n ns ls bs cs
closed_alone n c cause diagnostic reason ns ls bs cs none m = record {
  pairs = m.pairs;
  places = m.places;
  beside = m.beside;
  each = every_map (λ d. InHand n (Closed c cause diagnostic reason ∷ ns) ls bs d ⊎ HasEnded bs d) (λ d. InHand n ns ls bs d ⊎ HasEnded bs d) cs (λ d h. elim h [ inl x ↦ inl (kept d x) | inr x ↦ inr x ]) m.each;
  all = λ x i e came. let k = m.all x i e came in (k.0, k.1, k.2, kept k.1 k.3, k.4);
}
  where
    apart : (x : SwitchChannel) (i : Joined) → joined_at ls x ≡ Some i → IsOver n (Closed c cause diagnostic reason ∷ ns) x → IsOver n ns x
    apart x i e (inl is) = absurd (none-some i (sym none ∙ (ap (λ (y : SwitchChannel). joined_at ls y) (sym is) ∙ e)))
    apart x i e (inr h) = h

    side : (x : SwitchChannel) (i : Joined) (k : ℕ) (it : RecordValue) → joined_at ls x ≡ Some i → Side n (Closed c cause diagnostic reason ∷ ns) bs x k it → Side n ns bs x k it
    side x i k it e s = fewer_side n (Closed c cause diagnostic reason) ns bs x k it (λ o. apart x i e o) (λ o. inr o) s

    kept : (d : JoinedCall) → InHand n (Closed c cause diagnostic reason ∷ ns) ls bs d → InHand n ns ls bs d
    kept d h =
        let k = m.pairs d.near h.join h.joined in
        record {
          near_record = h.near_record;
          far_record = h.far_record;
          relayed = h.relayed;
          join = h.join;
          joined = h.joined;
          other = h.other;
          came_in_here = h.came_in_here;
          near_side = side d.near h.join d.came_in h.near_record h.joined h.near_side;
          far_side = side d.far k.far d.placed h.far_record (ap (λ (y : SwitchChannel). joined_at ls y) (sym h.other) ∙ k.joined) h.far_side;
        }

-- what is kept where a note was heeded: the marks, and the present record of its own channel
pub record Told (n c : ℕ) (ns : List Note) (before : Books) (ls : List SwitchLine) (bs : Books) (cs : List JoinedCall) : Type 0 where
  pub marks : Marks n ns ls bs cs
  pub alone : joined_at ls (at n c) ≡ None
  pub came : (parts : CallParts) → CameIn (at n c) parts before → CameIn (at n c) parts bs

abbrev pub IsClosing : Note → Type 0
IsClosing (Closed c cause diagnostic reason) = Unit {0}
IsClosing note = ⊥

module _ (R : Books → List JoinedCall → Type 0) (keeps : KeptQuietly R) where
  closed_by : (o : Option Joined) (routes : RouteMap) (n c cause diagnostic : ℕ) (reason : Reason) (ns : List Note) (ls : List SwitchLine) (bs : Books) (cs : List JoinedCall) → joined_at ls (at n c) ≡ o
      → Marks n (Closed c cause diagnostic reason ∷ ns) ls bs cs → R bs cs
      → Walked (And (Told n c ns bs) R) (told_steps o (Closed c cause diagnostic reason) (at n c) ls) ls bs cs (told_of o (Closed c cause diagnostic reason) (at n c) ls)
  closed_by None routes n c cause diagnostic reason ns ls bs cs e m r =
      walked_quiet (And (Told n c ns bs) R) [] ls bs cs ls refl refl (record { marks = closed_alone n c cause diagnostic reason ns ls bs cs e m; alone = e; came = λ parts i. i }, r)
  closed_by (Some j) routes n c cause diagnostic reason ns ls bs cs e m r =
      let ss = told_steps (Some j) (Closed c cause diagnostic reason) (at n c) ls in
      walked_quiet (And (Told n c ns bs) R) ss ls bs cs (told_of (Some j) (Closed c cause diagnostic reason) (at n c) ls) refl refl
      (record { marks = marks_then n c cause diagnostic reason ns ls bs cs m j e; alone = p_none n c cause diagnostic reason ns ls bs cs m j e; came = came_then n c cause diagnostic reason ns ls bs cs m j e }, steps_keep R keeps ss ls bs cs (tt, (tt, (tt, tt))) r)

  pub closed_told : (routes : RouteMap) (n c cause diagnostic : ℕ) (reason : Reason) (ns : List Note) (ls : List SwitchLine) (bs : Books) (cs : List JoinedCall) → Marks n (Closed c cause diagnostic reason ∷ ns) ls bs cs → R bs cs
      → Walked (And (Told n c ns bs) R) (heed_steps routes n (Closed c cause diagnostic reason) ls) ls bs cs (heed routes n (Closed c cause diagnostic reason) ls)
  closed_told routes n c cause diagnostic reason ns ls bs cs m r = closed_by (joined_at ls (at n c)) routes n c cause diagnostic reason ns ls bs cs refl m r

  -- ---- all of them

  pub closings_told : (routes : RouteMap) (n : ℕ) (ns : List Note) (ls : List SwitchLine) (bs : Books) (cs : List JoinedCall) → Every IsClosing ns → Marks n ns ls bs cs → R bs cs
      → Walked (And (Marks n []) R) (heed_all_steps routes n ns ls) ls bs cs (heed_all routes n ns ls)
  closings_told routes n [] ls bs cs i m r = walked_quiet (And (Marks n []) R) [] ls bs cs ls refl refl (m, r)
  closings_told routes n (Closed c cause diagnostic reason ∷ ns) ls bs cs i m r =
      let first = Closed c cause diagnostic reason in
      walked_then (And (Told n c ns bs) R) (And (Marks n []) R) (heed_steps routes n first ls) (heed_all_steps routes n ns (heed routes n first ls)) ls (heed routes n first ls) _ bs cs
      (closed_told routes n c cause diagnostic reason ns ls bs cs m r) (λ after all t. closings_told routes n ns (heed routes n first ls) after all i.1 t.0.marks t.1)
  closings_told routes n (Incoming c parts ∷ ns) ls bs cs i m r = absurd i.0
  closings_told routes n (Connected c ∷ ns) ls bs cs i m r = absurd i.0
  closings_told routes n (WasReset c cause diagnostic reason ∷ ns) ls bs cs i m r = absurd i.0
  closings_told routes n (InterruptConfirmed c ∷ ns) ls bs cs i m r = absurd i.0
  closings_told routes n (Covered c k ∷ ns) ls bs cs i m r = absurd i.0

-- ---- none is left to be told

side_present : (n : ℕ) (bs : Books) (x : SwitchChannel) (m : ℕ) (it : RecordValue) → Side n [] bs x m it → present_at x bs ≡ Some m
side_present n bs x m it s = elim s.held [ inl h ↦ absurd h.0 | inr h ↦ h.1 ]

stands : (n : ℕ) (ls : List SwitchLine) (bs : Books) (c : JoinedCall) → InHand n [] ls bs c → Stands ls bs c
stands n ls bs c h = record {
  join = h.join;
  joined = h.joined;
  other = h.other;
  came_in_here = h.came_in_here;
  near_present = side_present n bs c.near c.came_in h.near_record h.near_side;
  far_present = side_present n bs c.far c.placed h.far_record h.far_side;
}

pub marks_calls : (n : ℕ) (ls : List SwitchLine) (bs : Books) (cs : List JoinedCall) → Marks n [] ls bs cs → AreCalls ls bs cs
marks_calls n ls bs cs m = record {
  each = every_map (λ c. InHand n [] ls bs c ⊎ HasEnded bs c) _ cs (λ c h. elim h [ inl x ↦ inl (stands n ls bs c x) | inr x ↦ inr x ]) m.each;
  all = λ p j e came. let k = m.all p j e came in (k.0, k.1, k.2, stands n ls bs k.1 k.3, k.4);
}
