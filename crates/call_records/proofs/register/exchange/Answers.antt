use Rattle.std.proofs.Common.{set, arith, ap, ◌∙◌}
use Rattle.std.proofs.lemmas.List.{map-set}
use Rattle.call_records.specs.RegisterView.{ends_of, lines_of}
use Rattle.call_records.specs.declared.ends.Ends.{Ends}
use Rattle.call_records.proofs.Opening.{no_ends}
use Rattle.call_records.proofs.register.exchange.Goals as goal

pub returns-then-line-len-clause-lines : goal.returns-then-line-len-clause-lines
returns-then-line-len-clause-lines c =
    map-set ends_of c.args.lines.now.items c.args.line c.exchange_ends.new.ends
    ∙ ap (λ (e : Ends). set (lines_of c.args.lines.now.items) c.args.line (ends_of e)) c.exchange_ends.ensures.ends

pub returns-else-line-len-clause-book : goal.returns-else-line-len-clause-book
returns-else-line-len-clause-book c =
    no_ends c.args.lines.now.items c.args.line c.args.book.now.book
    (λ h. omega (arith, h, c.if-line-len.false, c.len.ensures, c.args.lines.now.ok))
