-- Writes at an end with a user, in both registers, and at one of a switch, in the whole register alone.
use Rattle.std.proofs.Common.{◌≡◌, ℕ, zero, suc, Bool, true, false, List, [], ◌∷◌, ◌++◌, length, Option, Some, None, refl, sym, ap, ap₂, subst, ◌∙◌}
use Rattle.std.proofs.lemmas.Option.{none-some}
use Rattle.link_timers.specs.declared.role.Role.{Role}
use Rattle.link_timers.specs.Role.{other_of}
use Rattle.data_transfer.specs.Packets.{CallParts}
use Rattle.call_records.specs.Records.{RecordValue, new_record, with_closed}
use Rattle.call_records.specs.Book.{Book, Slot, side_of, slot_at, with_slot, with_record, changed, address_of, calling_from, places_from, comes, answers, closes}
use Rattle.call_records.specs.Closing.{closes_if, closes_present, closed_from, all_closed}
use Rattle.call_records.specs.Carried.{placed_on}
use Rattle.call_records.specs.Writes.{Write, all_written}
use Rattle.call_records.specs.Writes.Write.{Placed}
use Rattle.record_laws.specs.Registers.Seen.{IsNumbered}
use Rattle.record_laws.specs.CallPaths.World.{Origin, placing, coming, Join, Plan, PlacesNone, AllPlaceNone, all_traced, with_placed, calling_on}
use Rattle.record_laws.specs.CallPaths.Seen.{numbers, BeginsIf, shown, PresentIsSeen, CallerIsSeen, SlotIsSeen}
use Rattle.record_laws.specs.CallPaths.PathPromise.{address_at}
use Rattle.record_laws.specs.CallPaths.Seen.Way.{here}
use Rattle.record_laws.proofs.CallPaths.Growing.{Extends, more_begins_if, user_extends, switch_extends}
use Rattle.record_laws.proofs.CallPaths.Records.{IsMild, CallerIsThere}
use Rattle.record_laws.proofs.CallPaths.Steps.{Beside, IsRight, Leads, after, no_step, then, puts_both, puts_whole, changes_both, changes_whole, adds_both, adds_whole, newest, last_origin, last_made, pairs_both, pairs_whole}
use Rattle.record_laws.proofs.CallPaths.Inducing.{Property, Holds, Each, keeps, comes_at, writes_hold}

pub closing_mild : IsMild with_closed
closing_mild = record { blind = λ n k r. (refl, refl); beside = λ n a k p r. refl; path = λ r. refl; number = λ r. refl; node = λ r. refl; own = λ r. refl; far = λ r. refl; caller = λ r. refl }

-- on an address the caller's own is that one
calling_at : (address given : List ℕ) → address_of (calling_from address given) ≡ calling_on address (address_of given)
calling_at [] given = refl
calling_at (digit ∷ digits) given = refl

module _ (plan : Plan) (js : List Join) (line : ℕ) (role : Role) where
  slot_seen : (x : Beside) → IsRight plan js line x → (end : Role) (c : ℕ) → SlotIsSeen plan x.origins js line end (slot_at end c x.seen) (slot_at end c x.whole)
  slot_seen x h end c = (h.sides end).slot c

  no_caller : (os : List Origin) (u : Bool) → CallerIsSeen u plan os js None None
  no_caller os true = tt
  no_caller os false = refl

  no_present : (ns : List ℕ) (u : Bool) → PresentIsSeen u ns None None
  no_present ns true = tt
  no_present ns false = refl

  closed_slot : (os : List Origin) (s t : Slot) → SlotIsSeen plan os js line role s t
      → SlotIsSeen plan os js line role (record s { present = None; caller = None }) (record t { present = None; caller = None })
  closed_slot os s t h = record {
    present = no_present (numbers plan os) (plan.has_user line role);
    caller = no_caller os (plan.has_user line role);
    placed = h.placed;
    present_origin = λ m e. absurd (none-some m e);
    placed_origin = h.placed_origin;
  }

  caller_there : (x : Beside) → IsRight plan js line x → (c : ℕ) → CallerIsThere plan x.origins js (coming line role (slot_at (other_of role) c x.whole).placed)
  caller_there x h c n e = (slot_seen x h (other_of role) c).placed_origin n e

  -- ---- at an end with a user

  module _ (user : plan.has_user line role ≡ true) where
    abbrev Goes : Property
    Goes f s = (x : Beside) → IsRight plan js line x → Leads plan js line x (s x.whole x.origins) (f x.seen) (f x.whole)

    present_seen : (os : List Origin) (o p : Option ℕ) → PresentIsSeen (plan.has_user line role) (numbers plan os) o p → IsNumbered (numbers plan os) o p
    present_seen os o p h = subst (λ (u : Bool). PresentIsSeen u (numbers plan os) o p) user h

    as_present : (os : List Origin) (o p : Option ℕ) → IsNumbered (numbers plan os) o p → PresentIsSeen (plan.has_user line role) (numbers plan os) o p
    as_present os o p h = subst (λ (u : Bool). PresentIsSeen u (numbers plan os) o p) (sym user) h

    caller_seen : (os : List Origin) (o p : Option ℕ) → CallerIsSeen (plan.has_user line role) plan os js o p → BeginsIf plan os js o p
    caller_seen os o p h = subst (λ (u : Bool). CallerIsSeen u plan os js o p) user h

    as_caller : (os : List Origin) (o p : Option ℕ) → BeginsIf plan os js o p → CallerIsSeen (plan.has_user line role) plan os js o p
    as_caller os o p h = subst (λ (u : Bool). CallerIsSeen u plan os js o p) (sym user) h

    in_turn : (f g : Book → Book) (s t : Book → List Origin → List Origin) → Goes f s → Goes g t → Goes (λ b. g (f b)) (λ b os. t (f b) (s b os))
    in_turn f g s t a b x h =
        let first : Leads plan js line x (s x.whole x.origins) (f x.seen) (f x.whole) = a x h in
        let y : Beside = after plan js line x (s x.whole x.origins) (f x.seen) (f x.whole) first in
        then plan js line x (s x.whole x.origins) (f x.seen) (f x.whole) (t (f x.whole) (s x.whole x.origins)) (g (f x.seen)) (g (f x.whole)) first (b y first.is_right)

    changed_goes : (c : ℕ) (f : RecordValue → RecordValue) → IsMild f → Goes (changed role c f) keeps
    changed_goes c f mild x h =
        changes_both plan js line x f (slot_at role c x.seen).present (slot_at role c x.whole).present mild h
        (present_seen x.origins (slot_at role c x.seen).present (slot_at role c x.whole).present (slot_seen x h role c).present)

    closes_goes : (c : ℕ) → Goes (closes role c) keeps
    closes_goes c x h =
        let seen : Book = changed role c with_closed x.seen in
        let whole : Book = changed role c with_closed x.whole in
        let first : Leads plan js line x x.origins seen whole = changed_goes c with_closed closing_mild x h in
        then plan js line x x.origins seen whole x.origins (closes role c x.seen) (closes role c x.whole) first
        (puts_both plan js line (after plan js line x x.origins seen whole first) role c (record (slot_at role c x.seen) { present = None; caller = None })
        (record (slot_at role c x.whole) { present = None; caller = None }) first.is_right (closed_slot x.origins (slot_at role c x.seen) (slot_at role c x.whole) (slot_seen x h role c)))

    adds_and_puts : (x : Beside) (o : Origin) (r t : RecordValue) (k : Option ℕ) (c : ℕ) (s u : Slot) → IsRight plan js line x → plan.has_user o.line o.role ≡ true
        → CallerIsThere plan x.origins js o → r ≡ shown plan o (length x.seen.records) k [] t → BeginsIf plan x.origins js k t.caller → t.node ≡ plan.node o.line o.role → t.caller ≡ o.caller
        → SlotIsSeen plan (x.origins ++ o ∷ []) js line role s u
        → Leads plan js line x (x.origins ++ o ∷ []) (with_slot role c s (with_record r x.seen)) (with_slot role c u (with_record t x.whole))
    adds_and_puts x o r t k c s u h user_there caller is begins node name w =
        let first : Leads plan js line x (x.origins ++ o ∷ []) (with_record r x.seen) (with_record t x.whole) = adds_both plan js line x o r t k user_there caller is begins node name h in
        then plan js line x (x.origins ++ o ∷ []) (with_record r x.seen) (with_record t x.whole) (x.origins ++ o ∷ []) (with_slot role c s (with_record r x.seen)) (with_slot role c u (with_record t x.whole)) first
        (puts_both plan js line (after plan js line x (x.origins ++ o ∷ []) (with_record r x.seen) (with_record t x.whole) first) role c s u first.is_right w)

    same_node : (x : Beside) → IsRight plan js line x → (side_of role x.seen).node ≡ (side_of role x.whole).node
    same_node x h = (h.sides role).seen_node ∙ sym (h.sides role).whole_node

    -- of what the caller gives, the register has the address of the line
    own_placed : (x : Beside) (calling : List ℕ) → IsRight plan js line x
        → address_of (calling_from (side_of role x.seen).address calling)
        ≡ calling_on (address_at plan line role) (address_of (calling_from (side_of role x.whole).address calling))
    own_placed x calling h =
        ap (λ (a : List ℕ). address_of (calling_from a calling)) (h.sides role).seen_address ∙ calling_at (address_at plan line role) calling
        ∙ ap (λ (a : List ℕ). calling_on (address_at plan line role) (address_of (calling_from a calling))) (sym (h.sides role).whole_address)

    places_goes : (c : ℕ) (calling called : List ℕ) → Goes (places_from role c calling called) (λ b os. os ++ placing line role ∷ [])
    places_goes c calling called x h =
        let o : Origin = placing line role in
        let n : ℕ = length x.seen.records in
        let m : ℕ = length x.whole.records in
        adds_and_puts x o (new_record n (side_of role x.seen).node (address_of (calling_from (side_of role x.seen).address calling)) (address_of called) None)
        (new_record m (side_of role x.whole).node (address_of (calling_from (side_of role x.whole).address calling)) (address_of called) None) None c
        (record { present = Some n; placed = Some n; caller = None }) (record { present = Some m; placed = Some m; caller = None }) h user
        (λ k e. absurd (none-some k e))
        (ap₂ (λ (node : ℕ) (own : Option (List ℕ)). new_record n node own (address_of called) None) (same_node x h) (own_placed x calling h)) tt (h.sides role).whole_node refl
        (record {
          present = as_present (x.origins ++ o ∷ []) (Some n) (Some m) (newest plan js line x o user h);
          caller = no_caller (x.origins ++ o ∷ []) (plan.has_user line role);
          placed = record { first = m; numbered = newest plan js line x o user h; way = here };
          present_origin = last_made plan js line x role true None h;
          placed_origin = last_origin plan js line x o h;
        })

    comes_goes : (c : ℕ) (parts : CallParts) → Goes (comes role c parts) (comes_at line role c)
    comes_goes c parts x h =
        let seen_caller : Option ℕ = (slot_at (other_of role) c x.seen).placed in
        let whole_caller : Option ℕ = (slot_at (other_of role) c x.whole).placed in
        let o : Origin = coming line role whole_caller in
        let n : ℕ = length x.seen.records in
        let m : ℕ = length x.whole.records in
        let more : Extends plan x.origins js (x.origins ++ o ∷ []) js = user_extends plan x.origins js o user in
        adds_and_puts x o (new_record n (side_of role x.seen).node (address_of parts.called) (address_of parts.calling) seen_caller)
        (new_record m (side_of role x.whole).node (address_of parts.called) (address_of parts.calling) whole_caller) seen_caller c
        (record { present = Some n; placed = (slot_at role c x.seen).placed; caller = seen_caller })
        (record { present = Some m; placed = (slot_at role c x.whole).placed; caller = whole_caller }) h user
        (caller_there x h c) (ap (λ (node : ℕ). new_record n node (address_of parts.called) (address_of parts.calling) seen_caller) (same_node x h)) (slot_seen x h (other_of role) c).placed (h.sides role).whole_node refl
        (record {
          present = as_present (x.origins ++ o ∷ []) (Some n) (Some m) (newest plan js line x o user h);
          caller = as_caller (x.origins ++ o ∷ []) seen_caller whole_caller
              (more_begins_if plan x.origins js (x.origins ++ o ∷ []) js more seen_caller whole_caller (slot_seen x h (other_of role) c).placed);
          placed = more_begins_if plan x.origins js (x.origins ++ o ∷ []) js more (slot_at role c x.seen).placed (slot_at role c x.whole).placed (slot_seen x h role c).placed;
          present_origin = last_made plan js line x role false whole_caller h;
          placed_origin = λ k e. more.origins k (placing line role) ((slot_seen x h role c).placed_origin k e);
        })

    answers_goes : (c : ℕ) → Goes (answers role c) keeps
    answers_goes c x h =
        pairs_both plan js line x role (slot_at role c x.seen).caller (slot_at role c x.whole).caller (slot_at role c x.seen).present (slot_at role c x.whole).present user h
        (caller_seen x.origins (slot_at role c x.seen).caller (slot_at role c x.whole).caller (slot_seen x h role c).caller)
        (present_seen x.origins (slot_at role c x.seen).present (slot_at role c x.whole).present (slot_seen x h role c).present) (slot_seen x h role c).present_origin

    closes_if_goes : (o p : Option ℕ) (c : ℕ) (x : Beside) → IsRight plan js line x → IsNumbered (numbers plan x.origins) o p
        → Leads plan js line x x.origins (closes_if o role c x.seen) (closes_if p role c x.whole)
    closes_if_goes None None c x h w = no_step plan js line x h
    closes_if_goes (Some a) (Some m) c x h w = closes_goes c x h
    closes_if_goes None (Some m) c x h w = absurd w
    closes_if_goes (Some a) None c x h w = absurd w

    closes_present_goes : (c : ℕ) → Goes (closes_present role c) keeps
    closes_present_goes c x h =
        closes_if_goes (slot_at role c x.seen).present (slot_at role c x.whole).present c x h
        (present_seen x.origins (slot_at role c x.seen).present (slot_at role c x.whole).present (slot_seen x h role c).present)

    closed_from_goes : (count c : ℕ) → Goes (closed_from count c role) keeps
    closed_from_goes zero c x h = no_step plan js line x h
    closed_from_goes (suc count) c x h =
        in_turn (closes_present role c) (closed_from count (suc c) role) keeps keeps (closes_present_goes c) (closed_from_goes count (suc c)) x h

    all_closed_goes : Goes (all_closed role) keeps
    all_closed_goes x h =
        subst (λ (count : ℕ). Leads plan js line x x.origins (closed_from count 1 role x.seen) (all_closed role x.whole)) (sym (h.sides role).channels)
        (closed_from_goes (length (side_of role x.whole).slots) 1 x h)

    placed_goes : (o : Option ℕ) (parts : CallParts) → Unit {0} → Goes (placed_on role o parts) (λ b os. with_placed line role o os)
    placed_goes None parts may x h = no_step plan js line x h
    placed_goes (Some c) parts may x h = places_goes c parts.calling parts.called x h

    user_holds : Holds line role (λ write. Unit {0}) Goes
    user_holds = record {
      same = no_step plan js line;
      in_turn = in_turn;
      changes = changed_goes;
      comes_in = comes_goes;
      accepts = answers_goes;
      ends = closes_goes;
      ends_all = all_closed_goes;
      places = placed_goes;
    }

    each_may : (writes : List Write) → Each (λ write. Unit {0}) writes
    each_may [] = tt
    each_may (write ∷ writes) = (tt, each_may writes)

    pub user_writes : (writes : List Write) → Goes (all_written role writes) (all_traced line role writes)
    user_writes writes = writes_hold line role (λ write. Unit {0}) Goes user_holds writes (each_may writes)

  -- ---- at an end of a switch

  module _ (switch : plan.has_user line role ≡ false) where
    abbrev GoesAlone : Property
    GoesAlone f s = (x : Beside) → IsRight plan js line x → Leads plan js line x (s x.whole x.origins) x.seen (f x.whole)

    alone_in_turn : (f g : Book → Book) (s t : Book → List Origin → List Origin) → GoesAlone f s → GoesAlone g t → GoesAlone (λ b. g (f b)) (λ b os. t (f b) (s b os))
    alone_in_turn f g s t a b x h =
        let first : Leads plan js line x (s x.whole x.origins) x.seen (f x.whole) = a x h in
        let y : Beside = after plan js line x (s x.whole x.origins) x.seen (f x.whole) first in
        then plan js line x (s x.whole x.origins) x.seen (f x.whole) (t (f x.whole) (s x.whole x.origins)) x.seen (g (f x.whole)) first (b y first.is_right)

    changed_alone : (c : ℕ) (f : RecordValue → RecordValue) → IsMild f → GoesAlone (changed role c f) keeps
    changed_alone c f mild x h =
        changes_whole plan js line x role f (slot_at role c x.whole).present (slot_at role c x.whole).caller mild h switch (slot_seen x h role c).present_origin

    closed_alone : (os : List Origin) (s t : Slot) → SlotIsSeen plan os js line role s t → SlotIsSeen plan os js line role s (record t { present = None; caller = None })
    closed_alone os s t h = record {
      present = subst (λ (u : Bool). PresentIsSeen u (numbers plan os) s.present None) (sym switch) (subst (λ (u : Bool). PresentIsSeen u (numbers plan os) s.present t.present) switch h.present);
      caller = subst (λ (u : Bool). CallerIsSeen u plan os js s.caller None) (sym switch) (subst (λ (u : Bool). CallerIsSeen u plan os js s.caller t.caller) switch h.caller);
      placed = h.placed;
      present_origin = λ m e. absurd (none-some m e);
      placed_origin = h.placed_origin;
    }

    closes_alone : (c : ℕ) → GoesAlone (closes role c) keeps
    closes_alone c x h =
        let whole : Book = changed role c with_closed x.whole in
        let first : Leads plan js line x x.origins x.seen whole = changed_alone c with_closed closing_mild x h in
        then plan js line x x.origins x.seen whole x.origins x.seen (closes role c x.whole) first
        (puts_whole plan js line (after plan js line x x.origins x.seen whole first) role c
        (record (slot_at role c x.whole) { present = None; caller = None }) first.is_right (closed_alone x.origins (slot_at role c x.seen) (slot_at role c x.whole) (slot_seen x h role c)))

    comes_alone : (c : ℕ) (parts : CallParts) → GoesAlone (comes role c parts) (comes_at line role c)
    comes_alone c parts x h =
        let o : Origin = coming line role (slot_at (other_of role) c x.whole).placed in
        let m : ℕ = length x.whole.records in
        let more : Extends plan x.origins js (x.origins ++ o ∷ []) js = switch_extends plan x.origins js o switch in
        let t : RecordValue = new_record m (side_of role x.whole).node (address_of parts.called) (address_of parts.calling) (slot_at (other_of role) c x.whole).placed in
        let first : Leads plan js line x (x.origins ++ o ∷ []) x.seen (with_record t x.whole) = adds_whole plan js line x o t switch (caller_there x h c) (h.sides role).whole_node refl h in
        let s : Slot = slot_at role c x.seen in
        let u : Slot = record { present = Some m; placed = (slot_at role c x.whole).placed; caller = (slot_at (other_of role) c x.whole).placed } in
        then plan js line x (x.origins ++ o ∷ []) x.seen (with_record t x.whole) (x.origins ++ o ∷ []) x.seen (comes role c parts x.whole) first
        (puts_whole plan js line (after plan js line x (x.origins ++ o ∷ []) x.seen (with_record t x.whole) first) role c u first.is_right
        (record {
          present = subst (λ (z : Bool). PresentIsSeen z (numbers plan (x.origins ++ o ∷ [])) s.present (Some m)) (sym switch)
              (subst (λ (z : Bool). PresentIsSeen z (numbers plan x.origins) s.present (slot_at role c x.whole).present) switch (slot_seen x h role c).present);
          caller = subst (λ (z : Bool). CallerIsSeen z plan (x.origins ++ o ∷ []) js s.caller u.caller) (sym switch)
              (subst (λ (z : Bool). CallerIsSeen z plan x.origins js s.caller (slot_at role c x.whole).caller) switch (slot_seen x h role c).caller);
          placed = more_begins_if plan x.origins js (x.origins ++ o ∷ []) js more s.placed (slot_at role c x.whole).placed (slot_seen x h role c).placed;
          present_origin = last_made plan js line x role false (slot_at (other_of role) c x.whole).placed h;
          placed_origin = λ k e. more.origins k (placing line role) ((slot_seen x h role c).placed_origin k e);
        }))

    answers_alone : (c : ℕ) → GoesAlone (answers role c) keeps
    answers_alone c x h =
        pairs_whole plan js line x role (slot_at role c x.whole).caller (slot_at role c x.whole).present switch h (slot_seen x h role c).present_origin

    closes_if_alone : (p : Option ℕ) (c : ℕ) → GoesAlone (closes_if p role c) keeps
    closes_if_alone None c x h = no_step plan js line x h
    closes_if_alone (Some m) c x h = closes_alone c x h

    closed_from_alone : (count c : ℕ) → GoesAlone (closed_from count c role) keeps
    closed_from_alone zero c x h = no_step plan js line x h
    closed_from_alone (suc count) c x h =
        alone_in_turn (closes_present role c) (closed_from count (suc c) role) keeps keeps (λ y g. closes_if_alone (slot_at role c y.whole).present c y g)
        (closed_from_alone count (suc c)) x h

    placed_alone : (o : Option ℕ) (parts : CallParts) → PlacesNone (Placed o parts) → GoesAlone (placed_on role o parts) (λ b os. with_placed line role o os)
    placed_alone None parts may x h = no_step plan js line x h
    placed_alone (Some c) parts may x h = absurd may

    switch_holds : Holds line role PlacesNone GoesAlone
    switch_holds = record {
      same = no_step plan js line;
      in_turn = alone_in_turn;
      changes = changed_alone;
      comes_in = comes_alone;
      accepts = answers_alone;
      ends = closes_alone;
      ends_all = λ x h. closed_from_alone (length (side_of role x.whole).slots) 1 x h;
      places = placed_alone;
    }

    each_none : (writes : List Write) → AllPlaceNone writes → Each PlacesNone writes
    each_none [] may = tt
    each_none (write ∷ writes) may = (may.0, each_none writes may.1)

    pub switch_writes : (writes : List Write) → AllPlaceNone writes → GoesAlone (all_written role writes) (all_traced line role writes)
    switch_writes writes may = writes_hold line role PlacesNone GoesAlone switch_holds writes (each_none writes may)
