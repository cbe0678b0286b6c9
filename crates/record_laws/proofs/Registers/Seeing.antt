-- What the register has of all lines, after writes at one of them.
use Rattle.std.proofs.Common.{◌≡◌, ℕ, ◌<◌, List, length, set, Option, Some, None, refl, sym, ap, subst, ◌∙◌, inl, inr}
use Rattle.std.specs.Prelude.{slice_get, is_some}
use Rattle.std.proofs.lemmas.Option.{same_Some, slice_get_within}
use Rattle.std.proofs.lemmas.List.{set-set}
use Rattle.link_timers.specs.declared.role.Role.{Role}
use Rattle.link_timers.specs.declared.role.Role.TheVariants.{Dte, Dce}
use Rattle.call_records.specs.Records.{RecordValue}
use Rattle.call_records.specs.Book.{Book, side_of, slot_at}
use Rattle.call_records.specs.Writes.{written_by, all_written}
use Rattle.call_records.specs.Register.{Register, LineEnds, book_at, found_ends, with_book}
use Rattle.record_laws.proofs.Books.Basics.{get_there, get_set, set_here, set_elsewhere, length_set}
use Rattle.record_laws.specs.Registers.Seen.{positions, IsNumbered, renumbered, RecordIsSeen, PairIsSeen, SideIsSeen, LineIsSeen, AreLines, Seen}
use Rattle.record_laws.specs.Registers.RegisterLaws.{WriteLaw, InTurnLaw, PresentLaw, CameLaw, OwnedLaw}
use Rattle.record_laws.proofs.Registers.Positions.{IsNth, place_of}
use Rattle.record_laws.proofs.Registers.Steps.{Beside, IsRight, Leads}
use Rattle.record_laws.proofs.Registers.Writing.{writes_go}

-- ---- the register with a line's book

abbrev ends_of : Book → LineEnds
ends_of b = record { dte = b.dte; dce = b.dce }

pub book_there : (line : ℕ) (b : Book) (g : Register) → line < length g.lines → book_at line (with_book line b g) ≡ b
book_there line b g less =
    let old = get_there g.lines line less in
    ap (λ (o : Option LineEnds). (record { records = b.records; pairs = b.pairs; dte = (found_ends o).dte; dce = (found_ends o).dce }))
    (set_here g.lines line (ends_of b) old.0 old.1)

written_twice : (line : ℕ) (a b : Book) (g : Register) → with_book line b (with_book line a g) ≡ with_book line b g
written_twice line a b g =
    ap (λ (lines : List LineEnds). (record { records = b.records; pairs = b.pairs; lines = lines })) (set-set g.lines line (ends_of a) (ends_of b))

pub line_within : (g : Register) (books : List Book) (line : ℕ) (b : Book) → slice_get books line ≡ Some b → Seen g books → line < length g.lines
line_within g books line b at w = subst (λ (n : ℕ). line < n) (sym w.lines) (slice_get_within books line b at)

pub in_turn : InTurnLaw
in_turn g books line b role write writes at w =
    let first : Book = written_by role write (book_at line g) in
    ap (λ (x : Book). with_book line (all_written role writes x) g) (sym (book_there line first g (line_within g books line b at w)))
    ∙ sym (written_twice line first (all_written role writes (book_at line (with_book line first g))) g)

-- ---- the line itself, and any other

pub other_line : (numbers pair_numbers : List ℕ) (own seen seen' : Book) → LineIsSeen numbers pair_numbers own seen
    → ((i n : ℕ) → slice_get numbers i ≡ Some n → slice_get seen'.records n ≡ slice_get seen.records n)
    → ((i n : ℕ) → slice_get pair_numbers i ≡ Some n → slice_get seen'.pairs n ≡ slice_get seen.pairs n)
    → (seen'.dte ≡ seen.dte) → (seen'.dce ≡ seen.dce)
    → LineIsSeen numbers pair_numbers own seen'
other_line numbers pair_numbers own seen seen' h records pairs dte dce = record {
  count = h.count;
  records = λ i n at.
      let r : RecordIsSeen numbers own.records seen.records i n = h.records i n at in
      record { value = r.value; caller = r.caller; own_there = r.own_there; seen_there = records i n at ∙ r.seen_there; numbered = r.numbered };
  pair_count = h.pair_count;
  pairs = λ i n at.
      let p : PairIsSeen numbers own.pairs seen.pairs i n = h.pairs i n at in
      record {
        own_pair = p.own_pair;
        seen_pair = p.seen_pair;
        own_there = p.own_there;
        seen_there = pairs i n at ∙ p.seen_there;
        caller = p.caller;
        callee = p.callee;
      };
  sides = sides;
}
  where
    sides : (role : Role) → SideIsSeen numbers (side_of role own) (side_of role seen')
    sides Dte = subst (λ s. SideIsSeen numbers own.dte s) (sym dte) (h.sides Dte)
    sides Dce = subst (λ s. SideIsSeen numbers own.dce s) (sym dce) (h.sides Dce)

abbrev pub beside : (g : Register) (books : List Book) (line : ℕ) (b : Book) → Seen g books → Beside
beside g books line b w = record { owners = w.owners; pair_owners = w.pair_owners; own = b; seen = book_at line g }

pub is_beside : (g : Register) (books : List Book) (line : ℕ) (b : Book) (at : slice_get books line ≡ Some b) (w : Seen g books) → IsRight (length books) line (beside g books line b w)
is_beside g books line b at w = record {
  records_owned = w.records_owned;
  pairs_owned = w.pairs_owned;
  of_lines = w.of_lines;
  pairs_of_lines = w.pairs_of_lines;
  there = slice_get_within books line b at;
  line = w.line line b at;
}

unfoldable pub led_seen : (g : Register) (books : List Book) (line : ℕ) (b own seen : Book) → slice_get books line ≡ Some b → (w : Seen g books)
    → Leads (length books) line (beside g books line b w) own seen → Seen (with_book line seen g) (set books line own)
led_seen g books line b own seen at w a = record {
  owners = a.owners;
  pair_owners = a.pair_owners;
  records_owned = a.is_right.records_owned;
  pairs_owned = a.is_right.pairs_owned;
  of_lines = subst (λ (n : ℕ). AreLines n a.owners) (sym (length_set books line own)) a.is_right.of_lines;
  pairs_of_lines = subst (λ (n : ℕ). AreLines n a.pair_owners) (sym (length_set books line own)) a.is_right.pairs_of_lines;
  lines = length_set g.lines line (ends_of seen) ∙ w.lines ∙ sym (length_set books line own);
  line = λ k c there. elim (get_set books line own k c there) [
    | inl here ↦
        subst (λ (x : Book). LineIsSeen (positions k a.owners) (positions k a.pair_owners) x (book_at k (with_book line seen g))) (sym here.1)
        (subst (λ (j : ℕ). LineIsSeen (positions j a.owners) (positions j a.pair_owners) own (book_at j (with_book line seen g))) (sym here.0)
        (subst (λ (x : Book). LineIsSeen (positions line a.owners) (positions line a.pair_owners) own x) (sym (book_there line seen g (line_within g books line b at w)))
        a.is_right.line))
    | inr other ↦
        subst (λ (ns : List ℕ). LineIsSeen ns (positions k a.pair_owners) c (book_at k (with_book line seen g))) (sym (a.leaves.owners k other.0))
        (subst (λ (ns : List ℕ). LineIsSeen (positions k w.owners) ns c (book_at k (with_book line seen g))) (sym (a.leaves.pair_owners k other.0))
        (other_line (positions k w.owners) (positions k w.pair_owners) c (book_at k g) (book_at k (with_book line seen g)) (w.line k c other.1)
        (λ i n place. a.leaves.records k i n other.0 place) (λ i n place. a.leaves.pairs k i n other.0 place)
        (ap (λ (o : Option LineEnds). (found_ends o).dte) (set_elsewhere g.lines line k (ends_of seen) other.0))
        (ap (λ (o : Option LineEnds). (found_ends o).dce) (set_elsewhere g.lines line k (ends_of seen) other.0))))
  ];
}

pub writes_seen : WriteLaw
writes_seen g books line b role writes at w =
    led_seen g books line b (all_written role writes b) (all_written role writes (book_at line g)) at w
    (writes_go (length books) line role writes (beside g books line b w) (is_beside g books line b at w))

-- ---- records and channels

both_or_none : (numbers : List ℕ) (o p : Option ℕ) → IsNumbered numbers o p → is_some p ≡ is_some o
both_or_none numbers None None h = refl
both_or_none numbers (Some i) (Some n) h = refl
both_or_none numbers None (Some n) h = absurd h
both_or_none numbers (Some i) None h = absurd h

pub present_seen : PresentLaw
present_seen g books line b role channel at w =
    both_or_none (positions line w.owners) (slot_at role channel b).present (slot_at role channel (book_at line g)).present
    (((w.line line b at).sides role).slot channel).present

pub came_seen : CameLaw
came_seen g books line b role channel at w =
    both_or_none (positions line w.owners) (slot_at role channel b).caller (slot_at role channel (book_at line g)).caller
    (((w.line line b at).sides role).slot channel).caller

-- the line, and the record there, of which a record of the register is
pub record OfLine (books : List Book) (owners : List ℕ) (n : ℕ) (r : RecordValue) : Type 0 where
  pub line : ℕ
  pub book : Book
  pub line_there : slice_get books line ≡ Some book
  pub place : ℕ
  pub numbered : slice_get (positions line owners) place ≡ Some n
  pub own : RecordValue
  pub caller : Option ℕ
  pub own_there : slice_get book.records place ≡ Some own
  pub same : r ≡ renumbered n caller own

pub of_line : (g : Register) (books : List Book) (w : Seen g books) (n : ℕ) (r : RecordValue) → slice_get g.records n ≡ Some r → OfLine books w.owners n r
of_line g books w n r at =
    let less : n < length w.owners = subst (λ (k : ℕ). n < k) (sym w.records_owned) (slice_get_within g.records n r at) in
    let owner = get_there w.owners n less in
    let book = get_there books owner.0 (w.of_lines n owner.0 owner.1) in
    let place : IsNth (positions owner.0 w.owners) n = place_of owner.0 w.owners n owner.1 in
    let seen : RecordIsSeen (positions owner.0 w.owners) book.0.records g.records place.place n = (w.line owner.0 book.0 book.1).records place.place n place.there in
    record {
      line = owner.0;
      book = book.0;
      line_there = book.1;
      place = place.place;
      numbered = place.there;
      own = seen.value;
      caller = seen.caller;
      own_there = seen.own_there;
      same = same_Some r (renumbered n seen.caller seen.value) (sym at ∙ seen.seen_there);
    }

pub owned : OwnedLaw
owned g books n r w at =
    let o : OfLine books w.owners n r = of_line g books w n r at in
    (o.line, o.book, o.line_there, record { place = o.place; own = o.own; caller = o.caller; own_there = o.own_there; same = o.same })
