use Rattle.std.proofs.lemmas.Grind.{common_steps, elements}
use Rattle.std.proofs.Common.{Option, ℕ, Some, sym, ap, ◌∙◌, arith}
use Rattle.call_records.specs.Book.{Book}
use Rattle.call_records.specs.RegisterView.{lines_of, register_with}
use Rattle.call_records.proofs.Opening.{opened}
use Rattle.call_records.proofs.register.Register.exchange_to.Goals as goal

pub returns-clause-same : goal.returns-clause-same
returns-clause-same c =
    let s = c.close.new.self in
    ap (λ (b : Book). register_with (Some c.args.line) b (lines_of c.exchange.new.lines.items)) c.reserve.ensures.same
    ∙ opened c.args.line s.book.book c.exchange.new.book.book (lines_of s.lines.items)
    (lines_of c.exchange.new.lines.items) c.exchange.ensures.book c.exchange.ensures.lines
    ∙ ap (λ (o : Option ℕ). register_with o s.book.book (lines_of s.lines.items)) (sym c.close.ensures.closed)
    ∙ c.close.ensures.same

pub returns-clause-at : goal.returns-clause-at
returns-clause-at c = grind (arith, common_steps)

pub returns-clause-book : goal.returns-clause-book
returns-clause-book c = grind (arith, elements)

pub returns-clause-lines : goal.returns-clause-lines
returns-clause-lines c = grind (arith, common_steps)
