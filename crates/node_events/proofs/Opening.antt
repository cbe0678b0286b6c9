-- The register that is opened at a line.
use Rattle.std.proofs.Common.{◌≡◌, ℕ, List, Option, Some, Result, Ok, Err, sym, ap, ◌∙◌, subst, arith}
use Rattle.std.specs.Prelude.{OnOk}
use Rattle.std.proofs.lemmas.List.{set-set}
use Rattle.call_records.specs.Book.{Book}
use Rattle.call_records.specs.Register as spec
use Rattle.call_records.specs.Register.{LineEnds, book_at, with_book}
use Rattle.call_records.specs.RegisterView.{register_with, register_of, lines_of, ends_in, IsOpen}
use Rattle.call_records.specs.declared.register.Register.{Register}
use Rattle.node_events.specs.Users.{IsOpened}

-- the register with another book at the line where it is open
rewritten : (o : Option ℕ) (line : ℕ) (old new : Book) (lines : List LineEnds) → o ≡ Some line
    → register_with o new lines ≡ with_book line new (register_with o old lines)
rewritten o line old new lines is =
    let P : Option ℕ → Type 0 = λ x. register_with x new lines ≡ with_book line new (register_with x old lines) in
    subst P (sym is) (λ i. record { records = new.records; pairs = new.pairs; lines = sym (set-set lines line (ends_in old) (ends_in new)) i })

pub written_at : (g : Register) (line : ℕ) (old : spec.Register) (b : Book) → IsOpen line g → register_of g ≡ old
    → register_with g.open b (lines_of g.lines.items) ≡ with_book line b old
written_at g line old b at same =
    rewritten g.open line g.book.book b (lines_of g.lines.items) at.at ∙ ap (with_book line b) same

pub opened : {D E : Type 0} (r : Result D E) (line : ℕ) (old : spec.Register) (g : Register) → IsOpen line g → register_of g ≡ old → g.book.book ≡ book_at line old
    → OnOk r (g.book.room ≡ 8) → OnOk r (g.book.pairs ≡ 8) → OnOk r (IsOpened line old g)
opened (Ok d) line old g at same book room pairs = record {
  book = book;
  writes = (let many = room in omega (arith, many));
  pairs = (let many = pairs in omega (arith, many));
  written = λ b. written_at g line old b at same;
}
opened (Err e) line old g at same book room pairs = tt
