-- Present and open records of the register, as of the whole one.
use Rattle.std.proofs.Common.{◌≡◌, ℕ, zero, suc, ◌<◌, Bool, true, false, List, length, Option, Some, None, refl, sym, ap, subst, ◌∙◌}
use Rattle.std.specs.Prelude.{slice_get, map}
use Rattle.std.proofs.lemmas.Option.{none-some, same_Some, slice_get_within}
use Rattle.link_timers.specs.declared.role.Role.{Role}
use Rattle.link_timers.specs.declared.role.Role.TheVariants.{Dte, Dce}
use Rattle.call_records.specs.Records.{RecordValue}
use Rattle.call_records.specs.Book.{slot_at}
use Rattle.call_records.specs.Register.{Register, LineEnds, book_at, found_ends}
use Rattle.record_laws.specs.Books.Headline.{IsOpenHere}
use Rattle.record_laws.specs.Registers.Seen.{IsNumbered}
use Rattle.record_laws.specs.Registers.RegisterPromise.{IsPresent, HasRecords}
use Rattle.record_laws.proofs.Registers.Promising.{Numbered, numbered}
use Rattle.record_laws.proofs.Registers.Steps.{same_place}
use Rattle.record_laws.specs.CallPaths.World.{World, Plan}
use Rattle.record_laws.specs.CallPaths.Seen.{kind, numbers, shown, RecordIsShown, PresentIsSeen, SlotIsSeen, Seen}
use Rattle.record_laws.specs.CallPaths.PathLaws.{RecordsLaw}
use Rattle.record_laws.proofs.CallPaths.Ways.{numbered_user}
use Rattle.record_laws.proofs.CallPaths.Showing.{owned}

-- ---- numbers and lines

pub record StandsFor (numbers : List ℕ) (o : Option ℕ) (m : ℕ) : Type 0 where
  pub number : ℕ
  pub is : o ≡ Some number
  pub there : slice_get numbers number ≡ Some m

pub stands_for : (numbers : List ℕ) (o p : Option ℕ) (m : ℕ) → p ≡ Some m → IsNumbered numbers o p → StandsFor numbers o m
stands_for numbers (Some i) (Some k) m e h = record { number = i; is = refl; there = h ∙ e }
stands_for numbers None (Some k) m e h = absurd h
stands_for numbers o None m e h = absurd (none-some m e)

-- where a channel has a present record, the line is there
no_line : (g : Register) (role : Role) (channel n : ℕ)
    → (slot_at role channel (record { records = g.records; pairs = g.pairs; dte = (found_ends None).dte; dce = (found_ends None).dce })).present ≡ Some n → ⊥
no_line g Dte zero n e = none-some n e
no_line g Dte (suc i) n e = none-some n e
no_line g Dce zero n e = none-some n e
no_line g Dce (suc i) n e = none-some n e

line_found : (g : Register) (role : Role) (channel n line : ℕ) (o : Option LineEnds) → slice_get g.lines line ≡ o
    → (slot_at role channel (record { records = g.records; pairs = g.pairs; dte = (found_ends o).dte; dce = (found_ends o).dce })).present ≡ Some n → line < length g.lines
line_found g role channel n line (Some ends) at e = slice_get_within g.lines line ends at
line_found g role channel n line None at e = absurd (no_line g role channel n e)

-- at a switch's end the register has none
user_present : (u : Bool) (ns : List ℕ) (seen whole : Option ℕ) (n : ℕ) → PresentIsSeen u ns seen whole → seen ≡ Some n → IsNumbered ns seen whole
user_present true ns seen whole n h e = h
user_present false ns seen whole n h e = absurd (none-some n (sym h ∙ e))

module _ (plan : Plan) (w : World) (s : Seen plan w) (have : HasRecords w.whole) where
  slot : (line : ℕ) (role : Role) (channel : ℕ) → line < length w.whole.lines → SlotIsSeen plan w.origins w.joins line role (slot_at role channel (book_at line w.register)) (slot_at role channel (book_at line w.whole))
  slot line role channel less = (s.sides line role less).slot channel

  -- a present record of the register, in the whole one
  record InWhole (line : ℕ) (role : Role) (channel n : ℕ) : Type 0 where
    pub there : line < length w.whole.lines
    pub number : ℕ
    pub present : (slot_at role channel (book_at line w.whole)).present ≡ Some number
    pub numbered : slice_get (numbers plan w.origins) n ≡ Some number

  in_whole : (line : ℕ) (role : Role) (channel n : ℕ) → (slot_at role channel (book_at line w.register)).present ≡ Some n → InWhole line role channel n
  in_whole line role channel n e =
      let less : line < length w.whole.lines = subst (λ (k : ℕ). line < k) s.lines (line_found w.register role channel n line (slice_get w.register.lines line) refl e) in
      let seen : Option ℕ = (slot_at role channel (book_at line w.register)).present in
      let whole : Option ℕ = (slot_at role channel (book_at line w.whole)).present in
      let m : Numbered (numbers plan w.origins) whole n = numbered (numbers plan w.origins) seen whole n e
      (user_present (plan.has_user line role) (numbers plan w.origins) seen whole n (slot line role channel less).present e) in
      record { there = less; number = m.number; present = m.is; numbered = m.there }

  open_here : (line : ℕ) (role : Role) (channel n : ℕ) → (slot_at role channel (book_at line w.register)).present ≡ Some n → IsOpenHere (book_at line w.register) role n
  open_here line role channel n e =
      let o : InWhole line role channel n = in_whole line role channel n e in
      let h : IsOpenHere (book_at line w.whole) role o.number = have.present line role channel o.number o.present in
      let r : RecordIsShown plan w.origins w.joins w.register.records w.whole.records n o.number = s.records.records n o.number o.numbered in
      let same : r.value ≡ h.value = same_Some r.value h.value (sym r.whole_there ∙ h.there) in
      let side = s.sides line role o.there in
      record {
        value = shown plan r.origin n r.caller r.path r.value;
        there = r.seen_there;
        node = ap (λ (x : RecordValue). x.node) same ∙ h.node ∙ side.whole_node ∙ sym side.seen_node;
        is_open = ap (λ (x : RecordValue). x.closed) same ∙ h.is_open;
      }

  one_place : (i j : ℕ) (a b : Role) (c d n : ℕ) → (slot_at a c (book_at i w.register)).present ≡ Some n → (slot_at b d (book_at j w.register)).present ≡ Some n → (i ≡ j) × ((a ≡ b) × (c ≡ d))
  one_place i j a b c d n e h =
      let p : InWhole i a c n = in_whole i a c n e in
      let q : InWhole j b d n = in_whole j b d n h in
      let number : q.number ≡ p.number = same_Some q.number p.number (sym q.numbered ∙ p.numbered) in
      have.one_place i j a b c d p.number p.present (q.present ∙ ap (λ (k : ℕ). Some k) number)

  are_present : (n : ℕ) (r : RecordValue) → slice_get w.register.records n ≡ Some r → r.closed ≡ false → IsPresent w.register n
  are_present n r at op =
      let m = owned plan w n r s at in
      let k : RecordIsShown plan w.origins w.joins w.register.records w.whole.records n m.0 = m.2 in
      let is_open : k.value.closed ≡ false = ap (λ (x : RecordValue). x.closed) (same_Some (shown plan k.origin n k.caller k.path k.value) r (sym k.seen_there ∙ at)) ∙ op in
      let p : IsPresent w.whole m.0 = have.are_present m.0 k.value k.whole_there is_open in
      let less : p.line < length w.whole.lines = line_found w.whole p.role p.channel m.0 p.line (slice_get w.whole.lines p.line) refl p.present in
      let here = slot p.line p.role p.channel less in
      let made = here.present_origin m.0 p.present in
      let user : plan.has_user p.line p.role ≡ true =
      numbered_user plan w.origins n m.0 (record { line = p.line; role = p.role; placed_here = made.placed_here; caller = (slot_at p.role p.channel (book_at p.line w.whole)).caller }) m.1 made.there in
      let seen : IsNumbered (numbers plan w.origins) (slot_at p.role p.channel (book_at p.line w.register)).present (slot_at p.role p.channel (book_at p.line w.whole)).present =
      subst (λ (u : Bool). PresentIsSeen u (numbers plan w.origins) (slot_at p.role p.channel (book_at p.line w.register)).present (slot_at p.role p.channel (book_at p.line w.whole)).present) user here.present in
      let own = stands_for (numbers plan w.origins) (slot_at p.role p.channel (book_at p.line w.register)).present (slot_at p.role p.channel (book_at p.line w.whole)).present m.0 p.present seen in
      let number : own.number ≡ n = same_place 1 (map (kind plan) w.origins) own.number n m.0 own.there m.1 in
      record { line = p.line; role = p.role; channel = p.channel; present = own.is ∙ ap (λ (k : ℕ). Some k) number }

  has_records : HasRecords w.register
  has_records = record { present = open_here; one_place = one_place; are_present = are_present }

pub records_shown : RecordsLaw
records_shown plan w s have = has_records plan w s have
