use Rattle.std.proofs.Common.{ℕ, Option, None, set, sym, ap, ap₂, ◌∙◌, arith}
use Rattle.call_records.specs.Records.{with_hop}
use Rattle.call_records.specs.Book.{Side, with_change}
use Rattle.call_records.specs.Room.{BookState}
use Rattle.call_records.specs.Register.{holder_at, handed_on}
use Rattle.call_records.specs.RegisterView.{end_of, lines_of, register_with}
use Rattle.call_records.specs.declared.ends.Ends.{Ends}
use Rattle.call_records.proofs.Growing.{found_at}
use Rattle.call_records.proofs.Opening.{hop_to, handed}
use Rattle.call_records.proofs.register.Register.hand_on.Goals as goal

pub returns-in-Some-clause-same : goal.returns-in-Some-clause-same
returns-in-Some-clause-same c =
    let s = c.close.new.self in
    let lines = s.lines.items in
    let old : Ends = c.index_mut-ends.result.now in
    let new : Ends = c.hold.new.self in
    ap (λ (o : Option ℕ). register_with o c.go_on.new.self.book (lines_of (set lines c.args.to.line new))) c.close.ensures.closed
    ∙ ap (λ (x : BookState). register_with None x.book (lines_of (set lines c.args.to.line new))) c.go_on.ensures
    ∙ ap₂ (λ (h : Option ℕ) (n : ℕ). register_with None (with_change h (with_hop (record { switch = n; line = c.args.to.line; channel = c.args.to.channel })) s.book.book) (lines_of (set lines c.args.to.line new)))
    (sym c.in-Some.is) (c.node-switch.ensures ∙ ap (λ (x : Side). x.node) (c.of.ensures _ _))
    ∙ handed (end_of c.args.from) (end_of c.args.to) s.book.book lines c.holder-holder.result old new
    (found_at lines c.args.to.line old (omega (arith, c.if-to-len.false, c.len.ensures, s.lines.ok)) c.index_mut-ends.ensures.value)
    (c.holder-holder.ensures ∙ ap (λ (o : Option ℕ). holder_at (end_of c.args.from) (register_with o s.book.book (lines_of lines))) c.close.ensures.closed)
    c.hold.ensures
    ∙ ap (handed_on (end_of c.args.from) (end_of c.args.to)) (ap (λ (o : Option ℕ). register_with o s.book.book (lines_of lines)) (sym c.close.ensures.closed) ∙ c.close.ensures.same)

pub returns-in_default-clause-same : goal.returns-in_default-clause-same
returns-in_default-clause-same c =
    let s = c.close.new.self in
    let lines = s.lines.items in
    let old : Ends = c.index_mut-ends.result.now in
    let new : Ends = c.hold.new.self in
    ap (λ (o : Option ℕ). register_with o s.book.book (lines_of (set lines c.args.to.line new))) c.close.ensures.closed
    ∙ ap (λ (h : Option ℕ). register_with None (with_change h (with_hop (hop_to (end_of c.args.to) old)) s.book.book) (lines_of (set lines c.args.to.line new))) (sym c.in_default.is)
    ∙ handed (end_of c.args.from) (end_of c.args.to) s.book.book lines c.holder-holder.result old new
    (found_at lines c.args.to.line old (omega (arith, c.if-to-len.false, c.len.ensures, s.lines.ok)) c.index_mut-ends.ensures.value)
    (c.holder-holder.ensures ∙ ap (λ (o : Option ℕ). holder_at (end_of c.args.from) (register_with o s.book.book (lines_of lines))) c.close.ensures.closed)
    c.hold.ensures
    ∙ ap (handed_on (end_of c.args.from) (end_of c.args.to)) (ap (λ (o : Option ℕ). register_with o s.book.book (lines_of lines)) (sym c.close.ensures.closed) ∙ c.close.ensures.same)
