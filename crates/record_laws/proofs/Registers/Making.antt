-- The register as it is made, and the books of its lines.
use Rattle.std.proofs.Common.{◌≡◌, ℕ, zero, suc, ◌<◌, ◌≤◌, Bool, true, false, List, [], ◌∷◌, ◌++◌, length, set, map, replicate, Option, Some, None, refl, sym, ap, subst, ◌∙◌, inl, inr, arith}
use Rattle.std.specs.Prelude.{slice_get}
use Rattle.std.proofs.lemmas.Option.{none-some, slice_get_within}
use Rattle.std.proofs.lemmas.List.{set-set, append_assoc, append-nil}
use Rattle.link_timers.specs.declared.role.Role.{Role}
use Rattle.link_timers.specs.declared.role.Role.TheVariants.{Dte, Dce}
use Rattle.data_transfer.specs.Packets.Note.{Incoming}
use Rattle.packet_channel.specs.Channel.Request.{Accept}
use Rattle.call_records.specs.Records.{RecordValue, PairValue}
use Rattle.call_records.specs.Book.{Book, Slot, free_slot, found_slot, nth_slot, side_of, new_book, made_book}
use Rattle.call_records.specs.Writes.{Write, all_written}
use Rattle.call_records.specs.Writes.Write.{Placed, Told, Asked}
use Rattle.call_records.specs.Register.{Register, LineEnds, LinePlan, book_at, found_ends, all_written_at, planned_book, free_ends, no_parts, with_standing_call, with_free_line, with_line, with_lines, empty_register}
use Rattle.record_laws.proofs.Books.Basics.{get_there, get_pushed, get_before, get_last, set_here, length_pushed}
use Rattle.record_laws.specs.Registers.Seen.{positions, SlotIsSeen, SideIsSeen, LineIsSeen, AreLines, Seen}
use Rattle.record_laws.specs.Registers.RegisterLaws.{MadeLaw, HaveChannels, HaveNoAddress}
use Rattle.record_laws.proofs.Registers.Positions.{is_place}
use Rattle.record_laws.proofs.Registers.Seeing.{writes_seen, other_line}

-- ---- a line without a call

nth_free : (n i : ℕ) → found_slot (slice_get (replicate n free_slot) i) ≡ free_slot
nth_free zero i = refl
nth_free (suc n) zero = refl
nth_free (suc n) (suc i) = nth_free n i

slot_free : (n c : ℕ) → nth_slot (replicate n free_slot) c ≡ free_slot
slot_free n zero = refl
slot_free n (suc c) = nth_free n c

free_seen : (numbers : List ℕ) (n c : ℕ) → SlotIsSeen numbers (nth_slot (replicate n free_slot) c) (nth_slot (replicate n free_slot) c)
free_seen numbers n c = subst (λ (s : Slot). SlotIsSeen numbers s s) (sym (slot_free n c)) (record { present = tt; placed = tt; caller = tt })

side_free : (numbers : List ℕ) (node n : ℕ) (address : List ℕ) → address ≡ []
    → SideIsSeen numbers (record { node = node; address = []; slots = replicate n free_slot }) (record { node = node; address = address; slots = replicate n free_slot })
side_free numbers node n address none = record { node = refl; address = none; channels = refl; slot = λ c. free_seen numbers n c }

-- no place is that of a line that is not there
no_places : (count : ℕ) (owners : List ℕ) → AreLines count owners → positions count owners ≡ []
no_places count owners h = none_of (positions count owners) (λ i n at.
    let bad : count < count = h n count (is_place count owners i n at) in absurd (omega arith))
  where
    none_of : (ns : List ℕ) → ((i n : ℕ) → slice_get ns i ≡ Some n → ⊥) → ns ≡ []
    none_of [] g = refl
    none_of (n ∷ ns) g = absurd (g 0 n refl)

abbrev free_book : LinePlan → Book
free_book plan = new_book plan.dte_node plan.dce_node plan.channels

new_sides : (plan : LinePlan) → plan.address ≡ [] → (o : Option LineEnds) → o ≡ Some (free_ends plan) → (records : List RecordValue) (pairs : List PairValue) (role : Role)
    → SideIsSeen [] (side_of role (free_book plan)) (side_of role (record { records = records; pairs = pairs; dte = (found_ends o).dte; dce = (found_ends o).dce }))
new_sides plan none o e records pairs Dte = subst (λ (p : Option LineEnds). SideIsSeen [] (free_book plan).dte (found_ends p).dte) (sym e) (side_free [] plan.dte_node plan.channels plan.address none)
new_sides plan none o e records pairs Dce = subst (λ (p : Option LineEnds). SideIsSeen [] (free_book plan).dce (found_ends p).dce) (sym e) (side_free [] plan.dce_node plan.channels [] refl)

new_line_seen : (plan : LinePlan) → plan.address ≡ [] → (line : ℕ) (g : Register) → slice_get g.lines line ≡ Some (free_ends plan) → LineIsSeen [] [] (free_book plan) (book_at line g)
new_line_seen plan none line g e = record {
  count = refl;
  records = λ i n at. absurd (none-some n at);
  pair_count = refl;
  pairs = λ i n at. absurd (none-some n at);
  sides = new_sides plan none (slice_get g.lines line) e g.records g.pairs;
}

more_lines : (books : List Book) (b : Book) (owners : List ℕ) → AreLines (length books) owners → AreLines (length (books ++ b ∷ [])) owners
more_lines books b owners h n line at =
    let less : line < length books = h n line at in
    subst (λ (count : ℕ). line < count) (sym (length_pushed books b)) (omega arith)

free_line_seen : (plan : LinePlan) → plan.address ≡ [] → (g : Register) (books : List Book) → Seen g books → Seen (with_free_line plan g) (books ++ free_book plan ∷ [])
free_line_seen plan bare g books w = record {
  owners = w.owners;
  pair_owners = w.pair_owners;
  records_owned = w.records_owned;
  pairs_owned = w.pairs_owned;
  of_lines = more_lines books (free_book plan) w.owners w.of_lines;
  pairs_of_lines = more_lines books (free_book plan) w.pair_owners w.pairs_of_lines;
  lines = length_pushed g.lines (free_ends plan) ∙ ap suc w.lines ∙ sym (length_pushed books (free_book plan));
  line = λ j b at. elim (get_pushed books (free_book plan) j b at) [
    | inl before ↦
        let old = get_there g.lines j (subst (λ (n : ℕ). j < n) (sym w.lines) (slice_get_within books j b before)) in
        let same : slice_get (g.lines ++ free_ends plan ∷ []) j ≡ slice_get g.lines j = get_before g.lines (free_ends plan ∷ []) j old.0 old.1 ∙ sym old.1 in
        other_line (positions j w.owners) (positions j w.pair_owners) b (book_at j g) (book_at j (with_free_line plan g)) (w.line j b before)
        (λ i n there. refl) (λ i n there. refl) (ap (λ (o : Option LineEnds). (found_ends o).dte) same) (ap (λ (o : Option LineEnds). (found_ends o).dce) same)
    | inr last ↦
        let none : positions j w.owners ≡ [] = ap (λ (k : ℕ). positions k w.owners) last.0 ∙ no_places (length books) w.owners w.of_lines in
        let no_pairs : positions j w.pair_owners ≡ [] = ap (λ (k : ℕ). positions k w.pair_owners) last.0 ∙ no_places (length books) w.pair_owners w.pairs_of_lines in
        subst (λ (ns : List ℕ). LineIsSeen ns (positions j w.pair_owners) b (book_at j (with_free_line plan g))) (sym none)
        (subst (λ (ns : List ℕ). LineIsSeen [] ns b (book_at j (with_free_line plan g))) (sym no_pairs)
        (subst (λ (x : Book). LineIsSeen [] [] x (book_at j (with_free_line plan g))) (sym last.1)
        (new_line_seen plan bare j (with_free_line plan g)
        (ap (λ (k : ℕ). slice_get (g.lines ++ free_ends plan ∷ []) k) (last.0 ∙ sym w.lines) ∙ get_last g.lines (free_ends plan)))))
  ];
}

-- ---- a line on which a call stands

abbrev placing : List Write
placing = Placed (Some 1) no_parts ∷ []

abbrev answering : List Write
answering = Told (Incoming 1 no_parts ∷ []) ∷ Asked None 1 Accept None ∷ []

abbrev standing_of : Book → Book
standing_of b = all_written Dce answering (all_written Dte placing b)

set_last : {X : Type 0} (xs : List X) (x y : X) → set (xs ++ x ∷ []) (length xs) y ≡ xs ++ y ∷ []
set_last [] x y = refl
set_last {X} (z ∷ xs) x y = ap (λ (ys : List X). z ∷ ys) (set_last xs x y)

stands_seen : (plan : LinePlan) → plan.address ≡ [] → (g : Register) (books : List Book) → Seen g books
    → Seen (with_standing_call (length g.lines) (with_free_line plan g)) (books ++ standing_of (free_book plan) ∷ [])
stands_seen plan none g books w =
    let line : ℕ = length g.lines in
    let free : Register = with_free_line plan g in
    let all : List Book = books ++ free_book plan ∷ [] in
    let at : slice_get all line ≡ Some (free_book plan) = ap (λ (k : ℕ). slice_get all k) w.lines ∙ get_last books (free_book plan) in
    let placed : Book = all_written Dte placing (free_book plan) in
    let first : Seen (all_written_at line Dte placing free) (set all line placed) = writes_seen free all line (free_book plan) Dte placing at (free_line_seen plan none g books w) in
    let there : slice_get (set all line placed) line ≡ Some placed = set_here all line placed (free_book plan) at in
    let both = writes_seen (all_written_at line Dte placing free) (set all line placed) line placed Dce answering there first in
    subst (λ (bs : List Book). Seen (with_standing_call line free) bs)
    (set-set all line placed (all_written Dce answering placed)
    ∙ ap (λ (k : ℕ). set all k (all_written Dce answering placed)) w.lines ∙ set_last books (free_book plan) (all_written Dce answering placed)) both

-- ---- any line, and all of them

line_by : (standing : Bool) (dte_node dce_node channels : ℕ) (address : List ℕ) (g : Register) (books : List Book) → address ≡ [] → (standing ≡ true → 1 ≤ channels) → Seen g books
    → Seen (with_line (record { dte_node = dte_node; dce_node = dce_node; address = address; channels = channels; standing = standing }) g) (books ++ made_book dte_node dce_node channels standing ∷ [])
line_by false d e channels address g books none h w = free_line_seen (record { dte_node = d; dce_node = e; address = address; channels = channels; standing = false }) none g books w
line_by true d e zero address g books none h w =
    let bad : 1 ≤ 0 = h refl in absurd (omega arith)
line_by true d e (suc c) address g books none h w = stands_seen (record { dte_node = d; dce_node = e; address = address; channels = suc c; standing = true }) none g books w

lines_seen : (plans : List LinePlan) (g : Register) (books : List Book) → HaveChannels plans → HaveNoAddress plans → Seen g books → Seen (with_lines plans g) (books ++ map planned_book plans)
lines_seen [] g books h none w = subst (λ (bs : List Book). Seen g bs) (sym (append-nil books)) w
lines_seen (plan ∷ plans) g books h none w =
    subst (λ (bs : List Book). Seen (with_lines plans (with_line plan g)) bs) (append_assoc books (planned_book plan ∷ []) (map planned_book plans))
    (lines_seen plans (with_line plan g) (books ++ planned_book plan ∷ []) h.1 none.1 (line_by plan.standing plan.dte_node plan.dce_node plan.channels plan.address g books none.0 h.0 w))

none_seen : Seen empty_register []
none_seen = record {
  owners = [];
  pair_owners = [];
  records_owned = refl;
  pairs_owned = refl;
  of_lines = λ n line at. absurd (none-some line at);
  pairs_of_lines = λ n line at. absurd (none-some line at);
  lines = refl;
  line = λ j b at. absurd (none-some b at);
}

pub made_seen : MadeLaw
made_seen plans h none = lines_seen plans empty_register [] h none none_seen
