-- Free lines and their books.
use Rattle.std.proofs.Common.{◌≡◌, ℕ, zero, suc, false, List, [], ◌∷◌, ◌++◌, length, map, Some, refl, sym, ap, subst, ◌∙◌, true≢false, arith}
use Rattle.std.specs.Prelude.{slice_get}
use Rattle.std.proofs.lemmas.Option.{none-some, same_Some}
use Rattle.std.proofs.lemmas.List.{append_assoc, append-nil}
use Rattle.call_records.specs.Book.{Book}
use Rattle.call_records.specs.Register.{Register, LinePlan, LineEnds, free_ends, planned_book, with_lines, with_line, empty_register}
use Rattle.record_laws.specs.Registers.Seen as line
use Rattle.record_laws.specs.Registers.RegisterLaws.{HaveChannels, HaveNoAddress}
use Rattle.record_laws.proofs.Registers.Making.{made_seen}
use Rattle.record_laws.specs.CallPaths.World.{Origin, free_register, without_address}
use Rattle.record_laws.specs.CallPaths.Lines.{OriginsSeen, AreRecorded, free_book, MadeLinesLaw}

abbrev unstood : LinePlan → LinePlan
unstood plan = record plan { address = []; standing = false }

all_free : (plans : List LinePlan) (g : Register) → with_lines (map unstood plans) g ≡ record g { lines = g.lines ++ map free_ends (map without_address plans) }
all_free [] g = ap (λ (ls : List LineEnds). (record { records = g.records; pairs = g.pairs; lines = ls })) (sym (append-nil g.lines))
all_free (plan ∷ plans) g =
    all_free plans (with_line (unstood plan) g)
    ∙ ap (λ (ls : List LineEnds). (record { records = g.records; pairs = g.pairs; lines = ls })) (append_assoc g.lines (free_ends (without_address plan) ∷ []) (map free_ends (map without_address plans)))

books_free : (plans : List LinePlan) → map planned_book (map unstood plans) ≡ map free_book plans
books_free [] = refl
books_free (plan ∷ plans) = ap (λ (bs : List Book). free_book plan ∷ bs) (books_free plans)

no_channels : (plans : List LinePlan) → HaveChannels (map unstood plans)
no_channels [] = tt
no_channels (plan ∷ plans) = ((λ e. absurd (true≢false (sym e))), no_channels plans)

no_addresses : (plans : List LinePlan) → HaveNoAddress (map unstood plans)
no_addresses [] = tt
no_addresses (plan ∷ plans) = (refl, no_addresses plans)

free_seen : (plans : List LinePlan) → line.Seen (free_register (map without_address plans)) (map free_book plans)
free_seen plans =
    subst (λ (bs : List Book). line.Seen (free_register (map without_address plans)) bs) (books_free plans)
    (subst (λ (g : Register). line.Seen g (map planned_book (map unstood plans))) (all_free plans empty_register) (made_seen (map unstood plans) (no_channels plans) (no_addresses plans)))

none_of : (xs : List ℕ) → length xs ≡ 0 → xs ≡ []
none_of [] e = refl
none_of (x ∷ xs) e = absurd (omega arith)

length_map : {X Y : Type 0} (f : X → Y) (xs : List X) → length (map f xs) ≡ length xs
length_map f [] = refl
length_map f (x ∷ xs) = ap suc (length_map f xs)

empty_there : (plans : List LinePlan) (j : ℕ) (own : List Origin) → slice_get (map (λ (plan : LinePlan). []) plans) j ≡ Some own → [] ≡ own
empty_there [] j own at = absurd (none-some own at)
empty_there (plan ∷ plans) zero own at = same_Some [] own at
empty_there (plan ∷ plans) (suc j) own at = empty_there plans j own at

no_origins : (j : ℕ) (owners : List ℕ) → [] ≡ owners → OriginsSeen j owners [] []
no_origins j owners e =
    subst (λ (ns : List ℕ). OriginsSeen j ns [] []) e (record { owners_are = refl; count = refl; origins = λ i n at. absurd (none-some n at) })

book_empty : (plans : List LinePlan) (j : ℕ) (b : Book) → slice_get (map free_book plans) j ≡ Some b → AreRecorded [] b.records
book_empty [] j b at = absurd (none-some b at)
book_empty (plan ∷ plans) zero b at = subst (λ (c : Book). AreRecorded [] c.records) (same_Some (free_book plan) b at) refl
book_empty (plan ∷ plans) (suc j) b at = book_empty plans j b at

pub made_lines : MadeLinesLaw
made_lines plans =
    let seen : line.Seen (free_register (map without_address plans)) (map free_book plans) = free_seen plans in
    record {
      seen = seen;
      owned = refl;
      count = length_map (λ (plan : LinePlan). []) plans ∙ sym (length_map free_book plans);
      lines = λ j own at.
          subst (λ (t : List Origin). OriginsSeen j seen.owners t []) (empty_there plans j own at) (no_origins j seen.owners (sym (none_of seen.owners seen.records_owned)));
      recorded = λ j b own at trace.
          subst (λ (t : List Origin). AreRecorded t b.records) (empty_there plans j own trace) (book_empty plans j b at);
    }
