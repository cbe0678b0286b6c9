-- The register and the books of the lines, at the ends with users.
use Rattle.std.proofs.Common.{◌≡◌, ℕ, ◌<◌, Bool, true, false, List, length, Option, Some, None, refl, sym, ap, subst, ◌∙◌}
use Rattle.std.specs.Prelude.{slice_get, map}
use Rattle.std.proofs.lemmas.Option.{none-some, same_Some, slice_get_within}
use Rattle.link_timers.specs.declared.role.Role.{Role}
use Rattle.link_timers.specs.declared.role.Role.TheVariants.{Dte, Dce}
use Rattle.link_timers.specs.Role.{other_of}
use Rattle.call_records.specs.Records.{RecordValue, HopValue, PairValue}
use Rattle.call_records.specs.Book.{Book, slot_at}
use Rattle.call_records.specs.Register.{book_at}
use Rattle.record_laws.specs.Books.Headline.{HasCallee}
use Rattle.record_laws.proofs.Books.Basics.{get_there}
use Rattle.record_laws.proofs.Books.Placed.{pair_is}
use Rattle.record_laws.specs.Registers.Seen.{positions, IsNumbered, renumbered, LineIsSeen}
use Rattle.record_laws.proofs.Registers.Steps.{same_place}
use Rattle.record_laws.proofs.Registers.Positions.{is_place}
use Rattle.record_laws.proofs.Registers.Seeing.{line_within, present_seen, came_seen, OfLine, of_line}
use Rattle.record_laws.proofs.Registers.Promising.{Numbered, numbered, paired_seen}
use Rattle.record_laws.proofs.Registers.Having.{records_seen, callee_seen}
use Rattle.record_laws.specs.CallPaths.World.{Origin, placing, World, Plan}
use Rattle.record_laws.specs.CallPaths.Seen.{kind, numbers, Begins, BeginsIf, PresentIsSeen, CallerIsSeen, SlotIsSeen, Way, shown, RecordIsShown, PairCame, Seen}
use Rattle.record_laws.specs.CallPaths.Seen.Way.{here}
use Rattle.record_laws.specs.CallPaths.Lines.{LinesSeen, OriginsSeen}
use Rattle.record_laws.specs.CallPaths.Ends.{IsOf, IsOfPresent, EndIsSeen, IsOfUser, EndLaw, UserLaw, OpenLaw}
use Rattle.record_laws.proofs.CallPaths.Ways.{get_map, one_first, numbered_user}
use Rattle.record_laws.proofs.CallPaths.Promising.{PairFor, pair_for}
use Rattle.record_laws.proofs.CallPaths.Showing.{owned, present_shown, came_shown, paired_shown}
use Rattle.record_laws.proofs.CallPaths.Having.{StandsFor, stands_for, records_shown}

-- the register's record of one of a line's book
is_of : (plan : Plan) (o : Origin) (n m : ℕ) (k c : Option ℕ) (path : List HopValue) (value own r : RecordValue) → value ≡ renumbered m c own → r ≡ shown plan o n k path value → IsOf own r
is_of plan o n m k c path value own r e f =
    subst (λ (x : RecordValue). IsOf own x) (ap (λ (v : RecordValue). shown plan o n k path v) (sym e) ∙ sym f) refl

both_ends : (plan : Plan) (line : ℕ) (role : Role) → plan.has_user line role ≡ true → plan.has_user line (other_of role) ≡ true → (end : Role) → plan.has_user line end ≡ true
both_ends plan line Dte e f Dte = e
both_ends plan line Dte e f Dce = f
both_ends plan line Dce e f Dte = f
both_ends plan line Dce e f Dce = e

module _ (plan : Plan) (w : World) (s : Seen plan w) where
  -- ---- a call that a user placed

  record Beginning (o : Option ℕ) (b : ℕ) : Type 0 where
    pub number : ℕ
    pub is : o ≡ Some number
    pub begins : Begins plan w.origins w.joins number b

  beginning : (o p : Option ℕ) (b : ℕ) → p ≡ Some b → BeginsIf plan w.origins w.joins o p → Beginning o b
  beginning (Some n) (Some k) b e h = record { number = n; is = refl; begins = subst (λ (x : ℕ). Begins plan w.origins w.joins n x) (same_Some k b e) h }
  beginning None (Some k) b e h = absurd h
  beginning o None b e h = absurd (none-some b e)

  -- there is one beginning of all ways to a record
  one_begin : (n m a b : ℕ) → slice_get (numbers plan w.origins) n ≡ Some m → Begins plan w.origins w.joins a b → Way w.origins w.joins m b → a ≡ n
  one_begin n m a b at h way =
      let first : h.first ≡ m =
      one_first plan w.origins w.joins s.records.placed_once s.records.joined h.first b h.way m way (record { number = a; numbered = h.numbered }) (record { number = n; numbered = at }) in
      same_place 1 (map (kind plan) w.origins) a n m (h.numbered ∙ ap (λ (x : ℕ). Some x) first) at

  -- a way to a user's own record begins there
  same_begin : (n m a b : ℕ) → slice_get (numbers plan w.origins) n ≡ Some m → Begins plan w.origins w.joins a b → b ≡ m → a ≡ n
  same_begin n m a b at h e = one_begin n m a b at h (subst (λ (x : ℕ). Way w.origins w.joins m x) (sym e) here)

  module _ (line : ℕ) (role : Role) (less : line < length w.whole.lines) (user : (end : Role) → plan.has_user line end ≡ true) (channel : ℕ) where
    slot : (end : Role) → SlotIsSeen plan w.origins w.joins line end (slot_at end channel (book_at line w.register)) (slot_at end channel (book_at line w.whole))
    slot end = (s.sides line end less).slot channel

    present_of : (end : Role) → IsNumbered (numbers plan w.origins) (slot_at end channel (book_at line w.register)).present (slot_at end channel (book_at line w.whole)).present
    present_of end = subst (λ (u : Bool). PresentIsSeen u (numbers plan w.origins) (slot_at end channel (book_at line w.register)).present (slot_at end channel (book_at line w.whole)).present) (user end) (slot end).present

    caller_of : (end : Role) → BeginsIf plan w.origins w.joins (slot_at end channel (book_at line w.register)).caller (slot_at end channel (book_at line w.whole)).caller
    caller_of end = subst (λ (u : Bool). CallerIsSeen u plan w.origins w.joins (slot_at end channel (book_at line w.register)).caller (slot_at end channel (book_at line w.whole)).caller) (user end) (slot end).caller

    has_callee : HasCallee (book_at line w.whole) role channel → HasCallee (book_at line w.register) role channel
    has_callee h =
        let pair : PairValue = record { caller = h.caller; callee = h.callee } in
        let n : StandsFor (numbers plan w.origins) (slot_at role channel (book_at line w.register)).present h.caller = stands_for (numbers plan w.origins) (slot_at role channel (book_at line w.register)).present (slot_at role channel (book_at line w.whole)).present h.caller h.present (present_of role) in
        let c : PairCame plan w.origins s.kinds h.place pair = s.pairs.came h.place pair h.there in
        let placer : placing line role ≡ placing c.origin.line (other_of c.origin.role) =
        same_Some (placing line role) (placing c.origin.line (other_of c.origin.role)) (sym ((slot role).placed_origin h.caller h.placed) ∙ s.records.callers h.callee h.caller c.origin c.there c.came) in
        let line_is : c.origin.line ≡ line = ap (λ (o : Origin). o.line) (sym placer) in
        let p : PairFor plan w s h.place pair = pair_for plan w s h.place pair h.there c (ap (λ (k : ℕ). plan.has_user k c.origin.role) line_is ∙ user c.origin.role) in
        let held : Beginning (slot_at role channel (book_at line w.register)).placed h.caller = beginning (slot_at role channel (book_at line w.register)).placed (slot_at role channel (book_at line w.whole)).placed h.caller h.placed (slot role).placed in
        let caller_is : p.pair.caller ≡ n.number = same_begin n.number h.caller p.pair.caller h.caller n.there p.caller refl in
        record {
          caller = n.number;
          callee = p.pair.callee;
          present = n.is;
          placed = held.is ∙ ap (λ (k : ℕ). Some k) (same_begin n.number h.caller held.number h.caller n.there held.begins refl);
          place = p.place;
          there = p.there ∙ ap (λ (q : PairValue). Some q) (pair_is p.pair n.number p.pair.callee caller_is refl);
          far = λ a d came present.
              let a' = begun (slot_at (other_of role) channel (book_at line w.register)).caller (slot_at (other_of role) channel (book_at line w.whole)).caller a came (caller_of (other_of role)) in
              let d' : Numbered (numbers plan w.origins) (slot_at (other_of role) channel (book_at line w.whole)).present d = numbered (numbers plan w.origins) (slot_at (other_of role) channel (book_at line w.register)).present (slot_at (other_of role) channel (book_at line w.whole)).present d present (present_of (other_of role)) in
              let both = h.far a'.0 d'.number a'.1.0 d'.is in
              (same_begin n.number h.caller a a'.0 n.there a'.1.1 both.0, same_place 1 (map (kind plan) w.origins) d p.pair.callee h.callee (d'.there ∙ ap (λ (k : ℕ). Some k) both.1) p.callee);
        }
      where
        begun : (o p : Option ℕ) (a : ℕ) → o ≡ Some a → BeginsIf plan w.origins w.joins o p → (b : ℕ) × ((p ≡ Some b) × Begins plan w.origins w.joins a b)
        begun (Some n) (Some b) a e h = (b, (refl, subst (λ (x : ℕ). Begins plan w.origins w.joins x b) (same_Some n a e) h))
        begun (Some n) None a e h = absurd h
        begun None p a e h = absurd (none-some a e)

  -- ---- a call that a user placed, and that goes on from a switch

  -- if one on its way onward was accepted by a user, it is in a pair
  pub placed_along : (line : ℕ) (role : Role) (channel : ℕ) → line < length w.whole.lines → plan.has_user line role ≡ true → plan.has_user line (other_of role) ≡ false → (h : HasCallee (book_at line w.whole) role channel) → (far place callee : ℕ) → Way w.origins w.joins h.caller far
      → slice_get w.whole.pairs place ≡ Some (record { caller = far; callee = callee }) → (o : Origin) → slice_get w.origins callee ≡ Some o → plan.has_user o.line o.role ≡ true → HasCallee (book_at line w.register) role channel
  placed_along line role channel less user switch h far place callee way there o made accepts =
      let pair : PairValue = record { caller = far; callee = callee } in
      let slot : SlotIsSeen plan w.origins w.joins line role (slot_at role channel (book_at line w.register)) (slot_at role channel (book_at line w.whole)) = (s.sides line role less).slot channel in
      let present : IsNumbered (numbers plan w.origins) (slot_at role channel (book_at line w.register)).present (slot_at role channel (book_at line w.whole)).present = subst (λ (u : Bool). PresentIsSeen u (numbers plan w.origins) (slot_at role channel (book_at line w.register)).present (slot_at role channel (book_at line w.whole)).present) user slot.present in
      let n : StandsFor (numbers plan w.origins) (slot_at role channel (book_at line w.register)).present h.caller = stands_for (numbers plan w.origins) (slot_at role channel (book_at line w.register)).present (slot_at role channel (book_at line w.whole)).present h.caller h.present present in
      let held : Beginning (slot_at role channel (book_at line w.register)).placed h.caller = beginning (slot_at role channel (book_at line w.register)).placed (slot_at role channel (book_at line w.whole)).placed h.caller h.placed slot.placed in
      let c : PairCame plan w.origins s.kinds place pair = s.pairs.came place pair there in
      let its : c.origin ≡ o = same_Some c.origin o (sym c.there ∙ made) in
      let p : PairFor plan w s place pair = pair_for plan w s place pair there c (ap (λ (x : Origin). plan.has_user x.line x.role) its ∙ accepts) in
      record {
        caller = n.number;
        callee = p.pair.callee;
        present = n.is;
        placed = held.is ∙ ap (λ (k : ℕ). Some k) (same_begin n.number h.caller held.number h.caller n.there held.begins refl);
        place = p.place;
        there = p.there ∙ ap (λ (q : PairValue). Some q) (pair_is p.pair n.number p.pair.callee (one_begin n.number h.caller p.pair.caller far n.there p.caller way) refl);
        far = λ a d at_caller at_present. absurd (none-some a (sym (subst (λ (u : Bool). CallerIsSeen u plan w.origins w.joins (slot_at (other_of role) channel (book_at line w.register)).caller (slot_at (other_of role) channel (book_at line w.whole)).caller) switch ((s.sides line (other_of role) less).slot channel).caller) ∙ at_caller));
      }

module _ (plan : Plan) (w : World) (books : List Book) (traces : List (List Origin)) (s : Seen plan w) (l : LinesSeen w.whole w.origins books traces) where
  -- ---- records

  record_of_present : (line : ℕ) (b : Book) (role : Role) → slice_get books line ≡ Some b → line < length w.whole.lines → plan.has_user line role ≡ true → (channel n : ℕ) (r : RecordValue)
      → (slot_at role channel (book_at line w.register)).present ≡ Some n → slice_get w.register.records n ≡ Some r → IsOfPresent b role channel r
  record_of_present line b role at less user channel n r e there =
      let slot : SlotIsSeen plan w.origins w.joins line role (slot_at role channel (book_at line w.register)) (slot_at role channel (book_at line w.whole)) = (s.sides line role less).slot channel in
      let present : IsNumbered (numbers plan w.origins) (slot_at role channel (book_at line w.register)).present (slot_at role channel (book_at line w.whole)).present =
      subst (λ (u : Bool). PresentIsSeen u (numbers plan w.origins) (slot_at role channel (book_at line w.register)).present (slot_at role channel (book_at line w.whole)).present) user slot.present in
      let m : Numbered (numbers plan w.origins) (slot_at role channel (book_at line w.whole)).present n = numbered (numbers plan w.origins) (slot_at role channel (book_at line w.register)).present (slot_at role channel (book_at line w.whole)).present n e present in
      let k : RecordIsShown plan w.origins w.joins w.register.records w.whole.records n m.number = s.records.records n m.number m.there in
      let seen : LineIsSeen (positions line l.seen.owners) (positions line l.seen.pair_owners) b (book_at line w.whole) = l.seen.line line b at in
      let i : StandsFor (positions line l.seen.owners) (slot_at role channel b).present m.number = stands_for (positions line l.seen.owners) (slot_at role channel b).present (slot_at role channel (book_at line w.whole)).present m.number m.is ((seen.sides role).slot channel).present in
      let x = seen.records i.number m.number i.there in
      record {
        number = i.number;
        present = i.is;
        own = x.value;
        there = x.own_there;
        same = is_of plan k.origin n m.number k.caller x.caller k.path k.value x.value r (same_Some k.value (renumbered m.number x.caller x.value) (sym k.whole_there ∙ x.seen_there))
            (same_Some r (shown plan k.origin n k.caller k.path k.value) (sym there ∙ k.seen_there));
      }

  end_seen : (line : ℕ) (b : Book) (role : Role) → slice_get books line ≡ Some b → plan.has_user line role ≡ true → EndIsSeen plan line role b w.register
  end_seen line b role at user =
      let less : line < length w.whole.lines = line_within w.whole books line b at l.seen in
      let seen : LineIsSeen (positions line l.seen.owners) (positions line l.seen.pair_owners) b (book_at line w.whole) = l.seen.line line b at in
      let side = s.sides line role less in
      record {
        node = side.seen_node ∙ sym side.whole_node ∙ (seen.sides role).node;
        channels = side.channels ∙ (seen.sides role).channels;
        present = λ channel. present_shown plan w line role channel s less user ∙ present_seen w.whole books line b role channel at l.seen;
        came = λ channel. came_shown plan w line role channel s less user ∙ came_seen w.whole books line b role channel at l.seen;
        of_present = record_of_present line b role at less user;
        paired = λ channel h. paired_shown plan w line role channel s less user (paired_seen w.whole books line b role channel at l.seen h);
        placed = λ channel other h. has_callee plan w s line role less (both_ends plan line role user other) channel (callee_seen w.whole books line b role channel at l.seen h);
      }

  of_user : (n : ℕ) (r : RecordValue) → slice_get w.register.records n ≡ Some r → IsOfUser plan books r
  of_user n r at =
      let m = owned plan w n r s at in
      let k : RecordIsShown plan w.origins w.joins w.register.records w.whole.records n m.0 = m.2 in
      let o : OfLine books l.seen.owners m.0 k.value = of_line w.whole books l.seen m.0 k.value k.whole_there in
      let trace = get_there traces o.line (subst (λ (c : ℕ). o.line < c) (sym l.count) (slice_get_within books o.line o.book o.line_there)) in
      let t : OriginsSeen o.line l.seen.owners trace.0 w.origins = l.lines o.line trace.0 trace.1 in
      let same : r ≡ shown plan k.origin n k.caller k.path k.value = same_Some r (shown plan k.origin n k.caller k.path k.value) (sym at ∙ k.seen_there) in
      let line : o.line ≡ k.origin.line =
      same_Some o.line k.origin.line (sym (is_place o.line l.seen.owners o.place m.0 o.numbered) ∙ ap (λ (xs : List ℕ). slice_get xs m.0) t.owners_are
      ∙ get_map (λ (p : Origin). p.line) w.origins m.0 k.origin k.origin_there) in
      record {
        line = k.origin.line;
        role = k.origin.role;
        user = numbered_user plan w.origins n m.0 k.origin m.1 k.origin_there;
        node = ap (λ (x : RecordValue). x.node) same ∙ s.records.nodes m.0 k.origin k.value k.origin_there k.whole_there;
        line_book = o.book;
        line_there = ap (λ (j : ℕ). slice_get books j) (sym line) ∙ o.line_there;
        place = o.place;
        own = o.own;
        own_there = o.own_there;
        same = is_of plan k.origin n m.0 k.caller o.caller k.path k.value o.own r o.same same;
      }

pub ends_seen : EndLaw
ends_seen plan w books traces line b role s l at user = end_seen plan w books traces s l line b role at user

pub users_own : UserLaw
users_own plan w books traces n r s l at = of_user plan w books traces s l n r at

pub open_seen : OpenLaw
open_seen plan w books traces s l have = records_shown plan w s (records_seen w.whole books l.seen have)
