-- The book of a register is opened at a line: its ends go to their own line, and it gets those of the other one.
use Rattle.std.proofs.Common.{◌≡◌, ℕ, zero, suc, ◌<◌, ◌≤◌, true, arith, List, [], ◌∷◌, length, set, Option, Some, None, refl, sym, ap, ◌∙◌}
use Rattle.std.specs.Prelude.{slice_get, if◌then◌else◌, is_some}
use Rattle.std.specs.Option.{option_map}
use Rattle.std.proofs.lemmas.Option.{none-some, same_Some, slice_get-map}
use Rattle.std.proofs.lemmas.List.{set-set, map-set}
use Rattle.link_timers.specs.declared.role.Role.{Role}
use Rattle.link_timers.specs.declared.role.Role.TheVariants.{Dte, Dce}
use Rattle.call_records.specs.Records.{RecordValue, HopValue, PairValue, changed_at, with_hop}
use Rattle.call_records.specs.Book.{Book, side_of, with_change, made_book}
use Rattle.call_records.specs.Register.{Register, LineEnds, ChannelEnd, found_ends, with_book, holds, holder_at, goes_on, handed_on, made_register}
use Rattle.call_records.specs.BookView.{book_with}
use Rattle.call_records.specs.RegisterView.{ends_of, lines_of, ends_in, with_ends, register_with}
use Rattle.call_records.specs.declared.ends.Ends.{Ends}

-- ---- lists

set_there : {X : Type 0} (xs : List X) (n : ℕ) (x : X) → slice_get xs n ≡ Some x → set xs n x ≡ xs
set_there [] n x e = refl
set_there (y ∷ xs) zero x e = ap (λ z. z ∷ xs) (sym (same_Some y x e))
set_there (y ∷ xs) (suc n) x e = ap (λ zs. y ∷ zs) (set_there xs n x e)

set_beyond : {X : Type 0} (xs : List X) (n : ℕ) (x : X) → slice_get xs n ≡ None → set xs n x ≡ xs
set_beyond [] n x e = refl
set_beyond (y ∷ xs) zero x e = absurd (none-some y (sym e))
set_beyond (y ∷ xs) (suc n) x e = ap (λ zs. y ∷ zs) (set_beyond xs n x e)

within : {X : Type 0} (xs : List X) (n : ℕ) → n < length xs → (x : X) × (slice_get xs n ≡ Some x)
within [] n h = absurd (let no : ⊥ = omega (arith, h) in no)
within (x ∷ xs) zero h = (x, refl)
within (x ∷ xs) (suc n) h = within xs n (omega (arith, h))

pub none_beyond : {X : Type 0} (xs : List X) (n : ℕ) → (n < length xs → ⊥) → slice_get xs n ≡ None
none_beyond [] n h = refl
none_beyond (x ∷ xs) zero h = absurd (h (omega arith))
none_beyond (x ∷ xs) (suc n) h = none_beyond xs n (λ k. h (omega (arith, k)))

-- a line that is not there has no ends
pub no_ends : (lines : List Ends) (line : ℕ) (b : Book) → (line < length lines → ⊥) → b ≡ with_ends (slice_get (lines_of lines) line) b
no_ends lines line b beyond = let none = none_beyond lines line beyond in ap (λ o. with_ends o b) (sym (slice_get-map ends_of lines line ∙ ap (λ o. option_map ends_of o) none))

pub no_line : (lines : List Ends) (line : ℕ) (x : LineEnds) → (line < length lines → ⊥) → lines_of lines ≡ set (lines_of lines) line x
no_line lines line x beyond = sym (set_beyond (lines_of lines) line x (slice_get-map ends_of lines line ∙ ap (λ o. option_map ends_of o) (none_beyond lines line beyond)))

-- ---- the ends go to their own line

same_records : (o : Option LineEnds) (b : Book) (lines : List LineEnds) → register_with None (with_ends o b) lines ≡ register_with None b lines
same_records None b lines = refl
same_records (Some ends) b lines = refl

pub closed : (last : ℕ) (b b1 : Book) (lines lines1 : List LineEnds) → b1 ≡ with_ends (slice_get lines last) b → lines1 ≡ set lines last (ends_in b)
    → register_with None b1 lines1 ≡ register_with (Some last) b lines
closed last b b1 lines lines1 p q =
    ap (λ (x : Book). register_with None x lines1) p ∙ same_records (slice_get lines last) b lines1 ∙ ap (λ (ls : List LineEnds). register_with None b ls) q

-- ---- and those of the other one into the book

opened_so : (line : ℕ) (b : Book) (lines : List LineEnds) (o : Option LineEnds) → slice_get lines line ≡ o
    → register_with (Some line) (with_ends o b) (set lines line (ends_in b)) ≡ register_with None b lines
opened_so line b lines None e = ap (λ (ls : List LineEnds). register_with None b ls) (set-set lines line (ends_in b) (ends_in b) ∙ set_beyond lines line (ends_in b) e)
opened_so line b lines (Some ends) e = ap (λ (ls : List LineEnds). register_with None b ls) (set-set lines line (ends_in b) ends ∙ set_there lines line ends e)

pub opened : (line : ℕ) (b b1 : Book) (lines lines1 : List LineEnds) → b1 ≡ with_ends (slice_get lines line) b → lines1 ≡ set lines line (ends_in b)
    → register_with (Some line) b1 lines1 ≡ register_with None b lines
opened line b b1 lines lines1 p q =
    ap (λ (x : Book). register_with (Some line) x lines1) p ∙ ap (λ (ls : List LineEnds). register_with (Some line) (with_ends (slice_get lines line) b) ls) q
    ∙ opened_so line b lines (slice_get lines line) refl

-- ---- a line on which a call stands

-- the register of this book alone
abbrev pub alone : Book → Register
alone b = record { records = b.records; pairs = b.pairs; lines = ends_in b ∷ [] }

pub stands_alone : (dte_node dce_node channels : ℕ) → 1 ≤ channels
    → alone (made_book dte_node dce_node channels true)
    ≡ made_register (record { dte_node = dte_node; dce_node = dce_node; address = []; channels = channels; standing = true } ∷ [])
stands_alone dte_node dce_node zero h = absurd (let no : ⊥ = omega (arith, h) in no)
stands_alone dte_node dce_node (suc channels) h = refl

-- ---- a call goes on to another line

-- the records change, and the ends of a line are others
after_hop : (holder : Option ℕ) (hop : HopValue) (line : ℕ) (b : Book) (lines : List Ends) (new : Ends)
    → register_with None (with_change holder (with_hop hop) b) (lines_of (set lines line new))
    ≡ with_book line (with_change holder (with_hop hop) (book_with b.records b.pairs new)) (register_with None b (lines_of lines))
after_hop None hop line b lines new = ap (λ (ls : List LineEnds). register_with None b ls) (map-set ends_of lines line new)
after_hop (Some n) hop line b lines new = ap (λ (ls : List LineEnds). register_with None (record b { records = changed_at n (with_hop hop) b.records }) ls) (map-set ends_of lines line new)

-- the hop to a channel at these ends of its line
abbrev pub hop_to : ChannelEnd → Ends → HopValue
hop_to to ends = record { switch = (side_of to.role (book_with [] [] ends)).node; line = to.line; channel = to.channel }

same_hop : (to : ChannelEnd) (records : List RecordValue) (pairs : List PairValue) (ends : Ends)
    → hop_to to ends ≡ record { switch = (side_of to.role (book_with records pairs ends)).node; line = to.line; channel = to.channel }
same_hop to records pairs ends = ap (λ (n : ℕ). record { switch = n; line = to.line; channel = to.channel }) (by_role to.role) where
  by_role : (role : Role) → (side_of role (book_with [] [] ends)).node ≡ (side_of role (book_with records pairs ends)).node
  by_role Dte = refl
  by_role Dce = refl

pub handed : (from to : ChannelEnd) (b : Book) (lines : List Ends) (holder : Option ℕ) (old new : Ends) → slice_get lines to.line ≡ Some old
    → holder ≡ holder_at from (register_with None b (lines_of lines))
    → ((records : List RecordValue) (pairs : List PairValue) → book_with records pairs new ≡ holds to.role to.channel holder (book_with records pairs old))
    → register_with None (with_change holder (with_hop (hop_to to old)) b) (lines_of (set lines to.line new)) ≡ handed_on from to (register_with None b (lines_of lines))
handed from to b lines holder old new at h e =
    let g : Register = register_with None b (lines_of lines) in
    let there : slice_get (lines_of lines) to.line ≡ Some (ends_of old) = slice_get-map ends_of lines to.line ∙ ap (λ o. option_map ends_of o) at in
    after_hop holder (hop_to to old) to.line b lines new
    ∙ ap (λ (x : Book). with_book to.line (with_change holder (with_hop (hop_to to old)) x) g) (e b.records b.pairs)
    ∙ ap (λ (x : HopValue). with_book to.line (with_change holder (with_hop x) (holds to.role to.channel holder (book_with b.records b.pairs old))) g) (same_hop to b.records b.pairs old)
    ∙ ap (λ (o : Option ℕ). with_book to.line (goes_on to o (book_with b.records b.pairs old)) g) h
    ∙ ap (λ (o : Option LineEnds). if is_some o then with_book to.line (goes_on to (holder_at from g) (record { records = b.records; pairs = b.pairs; dte = (found_ends o).dte; dce = (found_ends o).dce })) g else g) (sym there)
