-- What the register has of a record and of a channel at a user's end.
use Rattle.std.proofs.Common.{◌≡◌, ℕ, ◌<◌, Bool, true, length, Option, Some, None, refl, ap, subst, ◌∙◌}
use Rattle.std.specs.Prelude.{slice_get, is_some, map}
use Rattle.std.proofs.lemmas.Option.{none-some, same_Some, slice_get_within}
use Rattle.link_timers.specs.declared.role.Role.{Role}
use Rattle.call_records.specs.Records.{PairValue}
use Rattle.call_records.specs.Book.{Slot, slot_at}
use Rattle.call_records.specs.Register.{book_at}
use Rattle.record_laws.specs.Books.Headline.{IsPaired}
use Rattle.record_laws.proofs.Books.Basics.{get_there}
use Rattle.record_laws.proofs.Books.Placed.{pair_is}
use Rattle.record_laws.specs.Registers.Seen.{IsNumbered}
use Rattle.record_laws.proofs.Registers.Steps.{same_place}
use Rattle.record_laws.specs.CallPaths.World.{World, Plan}
use Rattle.record_laws.specs.CallPaths.Seen.{kind, numbers, Begins, BeginsIf, PresentIsSeen, CallerIsSeen, SlotIsSeen, PairCame, Seen}
use Rattle.record_laws.specs.CallPaths.PathLaws.{OwnedLaw, PresentLaw, CameLaw, PairedLaw}
use Rattle.record_laws.proofs.CallPaths.Ways.{one_first, numbered_user}
use Rattle.record_laws.proofs.CallPaths.Promising.{pair_for}

pub owned : OwnedLaw
owned plan w n r s at =
    let less : n < length (numbers plan w.origins) = subst (λ (k : ℕ). n < k) s.records.seen_count (slice_get_within w.register.records n r at) in
    let m = get_there (numbers plan w.origins) n less in
    (m.0, m.1, s.records.records n m.0 m.1)

module _ (plan : Plan) (w : World) (line : ℕ) (role : Role) (c : ℕ) (s : Seen plan w) (less : line < length w.whole.lines) (user : plan.has_user line role ≡ true) where
  abbrev seen : Slot
  seen = slot_at role c (book_at line w.register)

  abbrev whole : Slot
  whole = slot_at role c (book_at line w.whole)

  slot : SlotIsSeen plan w.origins w.joins line role seen whole
  slot = (s.sides line role less).slot c

  present : IsNumbered (numbers plan w.origins) seen.present whole.present
  present = subst (λ (u : Bool). PresentIsSeen u (numbers plan w.origins) seen.present whole.present) user slot.present

  caller : BeginsIf plan w.origins w.joins seen.caller whole.caller
  caller = subst (λ (u : Bool). CallerIsSeen u plan w.origins w.joins seen.caller whole.caller) user slot.caller

  both_numbered : (o p : Option ℕ) → IsNumbered (numbers plan w.origins) o p → is_some o ≡ is_some p
  both_numbered None None h = refl
  both_numbered (Some n) (Some m) h = refl
  both_numbered None (Some m) h = absurd h
  both_numbered (Some n) None h = absurd h

  both_begin : (o p : Option ℕ) → BeginsIf plan w.origins w.joins o p → is_some o ≡ is_some p
  both_begin None None h = refl
  both_begin (Some n) (Some m) h = refl
  both_begin None (Some m) h = absurd h
  both_begin (Some n) None h = absurd h

  record Numbered (o : Option ℕ) (m : ℕ) : Type 0 where
    pub number : ℕ
    pub is : o ≡ Some number
    pub there : slice_get (numbers plan w.origins) number ≡ Some m

  numbered : (o p : Option ℕ) (m : ℕ) → p ≡ Some m → IsNumbered (numbers plan w.origins) o p → Numbered o m
  numbered (Some n) (Some k) m e h = record { number = n; is = refl; there = h ∙ e }
  numbered None (Some k) m e h = absurd h
  numbered o None m e h = absurd (none-some m e)

  record Beginning (o : Option ℕ) (b : ℕ) : Type 0 where
    pub number : ℕ
    pub is : o ≡ Some number
    pub begins : Begins plan w.origins w.joins number b

  beginning : (o p : Option ℕ) (b : ℕ) → p ≡ Some b → BeginsIf plan w.origins w.joins o p → Beginning o b
  beginning (Some n) (Some k) b e h = record { number = n; is = refl; begins = subst (λ (x : ℕ). Begins plan w.origins w.joins n x) (same_Some k b e) h }
  beginning None (Some k) b e h = absurd h
  beginning o None b e h = absurd (none-some b e)

  -- the pair that the register has for it
  paired : IsPaired whole w.whole.pairs → IsPaired seen w.register.pairs
  paired h =
      let pair : PairValue = record { caller = h.caller; callee = h.callee } in
      let callee : Numbered seen.present h.callee = numbered seen.present whole.present h.callee h.present present in
      let first : Beginning seen.caller h.caller = beginning seen.caller whole.caller h.caller h.came caller in
      let c : PairCame plan w.origins s.kinds h.place pair = s.pairs.came h.place pair h.there in
      let u : plan.has_user c.origin.line c.origin.role ≡ true = numbered_user plan w.origins callee.number h.callee c.origin callee.there c.there in
      let p = pair_for plan w s h.place pair h.there c u in
      let same_callee : p.pair.callee ≡ callee.number = same_place 1 (map (kind plan) w.origins) p.pair.callee callee.number h.callee p.callee callee.there in
      let begins : p.caller.first ≡ first.begins.first =
      one_first plan w.origins w.joins s.records.placed_once s.records.joined p.caller.first h.caller p.caller.way first.begins.first first.begins.way
      (record { number = p.pair.caller; numbered = p.caller.numbered }) (record { number = first.number; numbered = first.begins.numbered }) in
      let same_caller : p.pair.caller ≡ first.number =
      same_place 1 (map (kind plan) w.origins) p.pair.caller first.number first.begins.first (p.caller.numbered ∙ ap (λ (k : ℕ). Some k) begins) first.begins.numbered in
      record {
        caller = first.number;
        callee = callee.number;
        present = callee.is;
        came = first.is;
        place = p.place;
        there = p.there ∙ ap (λ (q : PairValue). Some q) (pair_is p.pair first.number callee.number same_caller same_callee);
      }

pub present_shown : PresentLaw
present_shown plan w line role c s less user =
    both_numbered plan w line role c s less user (slot_at role c (book_at line w.register)).present (slot_at role c (book_at line w.whole)).present (present plan w line role c s less user)

pub came_shown : CameLaw
came_shown plan w line role c s less user =
    both_begin plan w line role c s less user (slot_at role c (book_at line w.register)).caller (slot_at role c (book_at line w.whole)).caller (caller plan w line role c s less user)

pub paired_shown : PairedLaw
paired_shown plan w line role c s less user h = paired plan w line role c s less user h
