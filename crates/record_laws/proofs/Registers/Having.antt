-- Present and open records of the register, and the calls that an end placed, as in the books of the lines.
use Rattle.std.proofs.Common.{◌≡◌, ℕ, zero, suc, ◌<◌, false, List, length, Option, Some, None, refl, sym, ap, subst, ◌∙◌}
use Rattle.std.specs.Prelude.{slice_get}
use Rattle.std.proofs.lemmas.Option.{none-some, same_Some, slice_get_within}
use Rattle.link_timers.specs.declared.role.Role.{Role}
use Rattle.link_timers.specs.declared.role.Role.TheVariants.{Dte, Dce}
use Rattle.link_timers.specs.Role.{other_of}
use Rattle.call_records.specs.Records.{RecordValue, PairValue}
use Rattle.call_records.specs.Book.{Book, slot_at}
use Rattle.call_records.specs.Register.{Register, LineEnds, book_at, found_ends}
use Rattle.record_laws.specs.Books.Headline.{HaveRecords, IsOpenHere}
use Rattle.record_laws.specs.Books.Headline as line
use Rattle.record_laws.proofs.Books.Basics.{get_there}
use Rattle.record_laws.proofs.Books.Placed.{pair_is}
use Rattle.record_laws.specs.Registers.Seen.{positions, IsNumbered, SlotIsSeen, RecordIsSeen, PairIsSeen, LineIsSeen, Seen, renumbered}
use Rattle.record_laws.specs.Registers.RegisterPromise.{IsPresent, HasRecords}
use Rattle.record_laws.specs.Registers.RegisterLaws.{RecordsLaw, CalleeLaw}
use Rattle.record_laws.proofs.Registers.Positions.{is_place}
use Rattle.record_laws.proofs.Registers.Steps.{same_place}
use Rattle.record_laws.proofs.Registers.Seeing.{OfLine, of_line}
use Rattle.record_laws.proofs.Registers.Promising.{numbered}

-- ---- numbers

-- the number of the book that a number of the register stands for
record StandsFor (numbers : List ℕ) (own : Option ℕ) (n : ℕ) : Type 0 where
  pub number : ℕ
  pub is : own ≡ Some number
  pub there : slice_get numbers number ≡ Some n

stands_for : (numbers : List ℕ) (o p : Option ℕ) (n : ℕ) → p ≡ Some n → IsNumbered numbers o p → StandsFor numbers o n
stands_for numbers (Some i) (Some k) n e h = record { number = i; is = refl; there = h ∙ e }
stands_for numbers None (Some k) n e h = absurd h
stands_for numbers o None n e h = absurd (none-some n e)

-- ---- lines

-- where a channel has a present record, the line is there
no_line : (g : Register) (role : Role) (channel n : ℕ)
    → (slot_at role channel (record { records = g.records; pairs = g.pairs; dte = (found_ends None).dte; dce = (found_ends None).dce })).present ≡ Some n → ⊥
no_line g Dte zero n e = none-some n e
no_line g Dte (suc i) n e = none-some n e
no_line g Dce zero n e = none-some n e
no_line g Dce (suc i) n e = none-some n e

line_found : (g : Register) (role : Role) (channel n line : ℕ) (o : Option LineEnds) → slice_get g.lines line ≡ o
    → (slot_at role channel (record { records = g.records; pairs = g.pairs; dte = (found_ends o).dte; dce = (found_ends o).dce })).present ≡ Some n → line < length g.lines
line_found g role channel n line (Some ends) at e = slice_get_within g.lines line ends at
line_found g role channel n line None at e = absurd (no_line g role channel n e)

module _ (g : Register) (books : List Book) (w : Seen g books) where
  -- a present record of the register, in the book of its line
  record InLine (line : ℕ) (role : Role) (channel n : ℕ) : Type 0 where
    pub book : Book
    pub there : slice_get books line ≡ Some book
    pub number : ℕ
    pub present : (slot_at role channel book).present ≡ Some number
    pub numbered : slice_get (positions line w.owners) number ≡ Some n

  in_line : (line : ℕ) (role : Role) (channel n : ℕ) → (slot_at role channel (book_at line g)).present ≡ Some n → InLine line role channel n
  in_line line role channel n e =
      let less = line_found g role channel n line (slice_get g.lines line) refl e in
      let b = get_there books line (subst (λ (k : ℕ). line < k) w.lines less) in
      let slot : SlotIsSeen (positions line w.owners) (slot_at role channel b.0) (slot_at role channel (book_at line g)) = ((w.line line b.0 b.1).sides role).slot channel in
      let own = stands_for (positions line w.owners) (slot_at role channel b.0).present (slot_at role channel (book_at line g)).present n e slot.present in
      record { book = b.0; there = b.1; number = own.number; present = own.is; numbered = own.there }

  module _ (have : (line : ℕ) (b : Book) → slice_get books line ≡ Some b → HaveRecords b) where
    open_here : (line : ℕ) (role : Role) (channel n : ℕ) → (slot_at role channel (book_at line g)).present ≡ Some n → IsOpenHere (book_at line g) role n
    open_here line role channel n e =
        let o : InLine line role channel n = in_line line role channel n e in
        let h : IsOpenHere o.book role o.number = (have line o.book o.there).present role channel o.number o.present in
        let seen : RecordIsSeen (positions line w.owners) o.book.records g.records o.number n = (w.line line o.book o.there).records o.number n o.numbered in
        let same : seen.value ≡ h.value = same_Some seen.value h.value (sym seen.own_there ∙ h.there) in
        record {
          value = renumbered n seen.caller h.value;
          there = seen.seen_there ∙ ap (λ (r : RecordValue). Some (renumbered n seen.caller r)) same;
          node = h.node ∙ sym ((w.line line o.book o.there).sides role).node;
          is_open = h.is_open;
        }

    one_of_line : (line : ℕ) (a b : Role) (c d n : ℕ) → InLine line a c n → InLine line b d n → (a ≡ b) × (c ≡ d)
    one_of_line line a b c d n p q =
        let number : q.number ≡ p.number = same_place line w.owners q.number p.number n q.numbered p.numbered in
        let book_same : q.book ≡ p.book = same_Some q.book p.book (sym q.there ∙ p.there) in
        (have line p.book p.there).one_place a b c d p.number p.present
        (subst (λ (x : Book). (slot_at b d x).present ≡ Some p.number) book_same (q.present ∙ ap (λ (k : ℕ). Some k) number))

    one_place : (i j : ℕ) (a b : Role) (c d n : ℕ) → (slot_at a c (book_at i g)).present ≡ Some n → (slot_at b d (book_at j g)).present ≡ Some n → (i ≡ j) × ((a ≡ b) × (c ≡ d))
    one_place i j a b c d n e h =
        let p : InLine i a c n = in_line i a c n e in
        let q : InLine j b d n = in_line j b d n h in
        let line_same : i ≡ j = same_Some i j (sym (is_place i w.owners p.number n p.numbered) ∙ is_place j w.owners q.number n q.numbered) in
        (line_same, one_of_line i a b c d n p (subst (λ (k : ℕ). InLine k b d n) (sym line_same) q))

    are_present : (n : ℕ) (r : RecordValue) → slice_get g.records n ≡ Some r → r.closed ≡ false → IsPresent g n
    are_present n r at op =
        let o : OfLine books w.owners n r = of_line g books w n r at in
        let p : line.IsPresent o.book o.place = (have o.line o.book o.line_there).are_present o.place o.own o.own_there (ap (λ (x : RecordValue). x.closed) (sym o.same) ∙ op) in
        let slot : SlotIsSeen (positions o.line w.owners) (slot_at p.role p.channel o.book) (slot_at p.role p.channel (book_at o.line g)) = ((w.line o.line o.book o.line_there).sides p.role).slot p.channel in
        let s = numbered (positions o.line w.owners) (slot_at p.role p.channel o.book).present (slot_at p.role p.channel (book_at o.line g)).present o.place p.present slot.present in
        record {
          line = o.line;
          role = p.role;
          channel = p.channel;
          present = s.is ∙ sym s.there ∙ o.numbered;
        }

    has_records : HasRecords g
    has_records = record { present = open_here; one_place = one_place; are_present = are_present }

pub records_seen : RecordsLaw
records_seen g books w have = has_records g books w have

-- ---- a call that an end placed

pub callee_seen : CalleeLaw
callee_seen g books line b role channel at w h =
    let numbers : List ℕ = positions line w.owners in
    let seen : LineIsSeen numbers (positions line w.pair_owners) b (book_at line g) = w.line line b at in
    let slot : SlotIsSeen numbers (slot_at role channel b) (slot_at role channel (book_at line g)) = (seen.sides role).slot channel in
    let far : SlotIsSeen numbers (slot_at (other_of role) channel b) (slot_at (other_of role) channel (book_at line g)) = (seen.sides (other_of role)).slot channel in
    let caller = numbered numbers (slot_at role channel b).present (slot_at role channel (book_at line g)).present h.caller h.present slot.present in
    let placed = numbered numbers (slot_at role channel b).placed (slot_at role channel (book_at line g)).placed h.caller h.placed slot.placed in
    let place = get_there (positions line w.pair_owners) h.place (subst (λ (n : ℕ). h.place < n) seen.pair_count (slice_get_within b.pairs h.place (record { caller = h.caller; callee = h.callee }) h.there)) in
    let p : PairIsSeen numbers b.pairs g.pairs h.place place.0 = seen.pairs h.place place.0 place.1 in
    let own : record { caller = h.caller; callee = h.callee } ≡ p.own_pair = same_Some (record { caller = h.caller; callee = h.callee }) p.own_pair (sym h.there ∙ p.own_there) in
    let caller_is : p.seen_pair.caller ≡ caller.number =
    same_Some p.seen_pair.caller caller.number (sym p.caller ∙ ap (λ (q : PairValue). slice_get numbers q.caller) (sym own) ∙ caller.there) in
    let callee_there : slice_get numbers h.callee ≡ Some p.seen_pair.callee = ap (λ (q : PairValue). slice_get numbers q.callee) own ∙ p.callee in
    record {
      caller = caller.number;
      callee = p.seen_pair.callee;
      present = caller.is;
      placed = placed.is ∙ sym placed.there ∙ caller.there;
      place = place.0;
      there = p.seen_there ∙ ap (λ (q : PairValue). Some q) (pair_is p.seen_pair caller.number p.seen_pair.callee caller_is refl);
      far = λ a c ea ec.
          let oa = stands_for numbers (slot_at (other_of role) channel b).caller (slot_at (other_of role) channel (book_at line g)).caller a ea far.caller in
          let oc = stands_for numbers (slot_at (other_of role) channel b).present (slot_at (other_of role) channel (book_at line g)).present c ec far.present in
          let is = h.far oa.number oc.number oa.is oc.is in (
            same_Some a caller.number (sym oa.there ∙ ap (λ (k : ℕ). slice_get numbers k) is.0 ∙ caller.there),
            same_Some c p.seen_pair.callee (sym oc.there ∙ ap (λ (k : ℕ). slice_get numbers k) is.1 ∙ callee_there),
          );
    }
