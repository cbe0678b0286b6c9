-- New records of a book: of a call that comes in, of one that is placed, and those of a book as it is made.
use Rattle.std.proofs.Common.{◌≡◌, ℕ, suc, ◌≤◌, List, [], ◌∷◌, ◌++◌, map, length, replicate, refl, ap, ◌∙◌, arith}
use Rattle.std.specs.Prelude.{Option, Some, None}
use Rattle.link_timers.specs.declared.role.Role.{Role}
use Rattle.link_timers.specs.declared.role.Role.TheVariants.{Dte, Dce}
use Rattle.link_timers.specs.Role.{other_of}
use Rattle.data_transfer.specs.Packets.{CallParts}
use Rattle.call_records.specs.Records.{RecordValue, PairValue, new_record}
use Rattle.call_records.specs.Book.{side_of, slot_at, with_slot, free_slot, address_of, calling_from, places, comes, new_book, standing_book}
use Rattle.call_records.specs.RecordView.{shown, pair_of}
use Rattle.call_records.specs.BookView.{book_with, book_of}
use Rattle.call_records.specs.declared.record.Record.{Record}
use Rattle.call_records.specs.declared.record.Pair.{Pair}
use Rattle.call_records.specs.declared.ends.Ends.{Ends}
use Rattle.call_records.specs.declared.book.Book.TheInside.{Inside}

pub some_address : (digits : List ℕ) → 1 ≤ length digits → Some digits ≡ address_of digits
some_address [] h = absurd (let no : ⊥ = omega arith in no)
some_address (d ∷ digits) h = refl

pub comes_is : (a : Inside) (role : Role) (channel : ℕ) (parts : CallParts) (records : List RecordValue) (ends : Ends) (number node : ℕ) (own far : Option (List ℕ)) (placed caller : Option ℕ)
    → number ≡ length (map shown a.records.items) → node ≡ (side_of role (book_of a)).node → own ≡ address_of parts.called → far ≡ address_of parts.calling
    → placed ≡ (slot_at role channel (book_of a)).placed → caller ≡ (slot_at (other_of role) channel (book_of a)).placed
    → records ≡ map shown a.records.items ++ new_record number node own far caller ∷ []
    → book_with records (map pair_of a.pairs.items) ends ≡ with_slot role channel (record { present = Some number; placed = placed; caller = caller }) (book_with records (map pair_of a.pairs.items) a.ends)
    → book_with records (map pair_of a.pairs.items) ends ≡ comes role channel parts (book_of a)
comes_is a role channel parts records ends number node own far placed caller n h o f p c r e =
    e ∙ rw (r, n, h, o, f, p, c) refl

none_given : (address : List ℕ) → address_of address ≡ address_of (calling_from address [])
none_given [] = refl
none_given (d ∷ digits) = refl

pub places_is : (a : Inside) (role : Role) (channel : ℕ) (called : List ℕ) (records : List RecordValue) (ends : Ends) (number node : ℕ) (own far : Option (List ℕ))
    → number ≡ length (map shown a.records.items) → node ≡ (side_of role (book_of a)).node → own ≡ address_of (side_of role (book_of a)).address → far ≡ address_of called
    → records ≡ map shown a.records.items ++ new_record number node own far None ∷ []
    → book_with records (map pair_of a.pairs.items) ends ≡ with_slot role channel (record { present = Some number; placed = Some number; caller = None }) (book_with records (map pair_of a.pairs.items) a.ends)
    → book_with records (map pair_of a.pairs.items) ends ≡ places role channel called (book_of a)
places_is a role channel called records ends number node own far n h o f r e =
    e ∙ rw (r, n, h, o, none_given (side_of role (book_of a)).address, f) refl

-- a call stands on channel 1
pub standing_is : (dte_node dce_node channels : ℕ) (first middle last : Ends) (records : List RecordValue) (pairs : List PairValue)
    → first.dte ≡ record { node = dte_node; address = []; slots = replicate channels free_slot } → first.dce ≡ record { node = dce_node; address = []; slots = replicate channels free_slot }
    → book_with records pairs middle ≡ with_slot Dte 1 (record { present = Some 0; placed = Some 0; caller = None }) (book_with records pairs first)
    → book_with records pairs last ≡ with_slot Dce 1 (record { present = Some 1; placed = None; caller = Some 0 }) (book_with records pairs middle)
    → records ≡ new_record 0 dte_node None None None ∷ new_record 1 dce_node None None (Some 0) ∷ [] → pairs ≡ record { caller = 0; callee = 1 } ∷ []
    → book_with records pairs last ≡ standing_book (new_book dte_node dce_node channels)
standing_is dte_node dce_node channels first middle last records pairs d e m l r p =
    l ∙ ap (λ b. with_slot Dce 1 (record { present = Some 1; placed = None; caller = Some 0 }) b) m ∙ rw (d, e, r, p) refl

pub free_is : (dte_node dce_node channels : ℕ) (ends : Ends) (records : List RecordValue) (pairs : List PairValue)
    → ends.dte ≡ record { node = dte_node; address = []; slots = replicate channels free_slot } → ends.dce ≡ record { node = dce_node; address = []; slots = replicate channels free_slot }
    → records ≡ [] → pairs ≡ [] → book_with records pairs ends ≡ new_book dte_node dce_node channels
free_is dte_node dce_node channels ends records pairs d e r p = rw (d, e, r, p) refl

pub shown_more : (old new : List Record) (r : Record) → new ≡ old ++ r ∷ [] → map shown new ≡ map shown old ++ shown r ∷ []
shown_more old new r e = ap (λ (rs : List Record). map shown rs) e ∙ appended old r where
  appended : (rs : List Record) (x : Record) → map shown (rs ++ x ∷ []) ≡ map shown rs ++ shown x ∷ []
  appended [] x = refl
  appended (y ∷ rs) x = ap (λ (l : List RecordValue). shown y ∷ l) (appended rs x)

pub shown_length : (rs : List Record) → length rs ≡ length (map shown rs)
shown_length [] = refl
shown_length (r ∷ rs) = ap suc (shown_length rs)

pub two_shown : (none one two : List Record) (a b : Record) (x y : RecordValue) → none ≡ [] → one ≡ none ++ a ∷ [] → two ≡ one ++ b ∷ [] → shown a ≡ x → shown b ≡ y → map shown two ≡ x ∷ y ∷ []
two_shown none one two a b x y n o t e f = rw (t, o, n, ← e, ← f) refl

pub one_pair : (none one : List Pair) (p : Pair) → none ≡ [] → one ≡ none ++ p ∷ [] → map pair_of one ≡ pair_of p ∷ []
one_pair none one p n o = rw (o, n) refl
