use Rattle.std.proofs.Common.{ℕ, ap, sym, ◌∙◌, List}
use Rattle.switch_lines.specs.Lines.{SwitchLine}
use Rattle.switch_lines.specs.Alone.{relayed_alone}
use Rattle.switch_lines.specs.Touched.{members}
use Rattle.switch_lines.proofs.Legs.{next_line}
use Rattle.switch_lines.proofs.Members.{first_member, no_members}
use Rattle.switch_lines.proofs.lines.Lines.relay_lines.Goals as goal

pub loop-line-preserved : goal.loop-line-preserved
loop-line-preserved c =
    let s = c.loop-line.lines in
    let rest = c.take_first.new.self in
    let n = c.in-Some.line in
    let ls = c.loop-line.self in
    ap (λ (ms : List SwitchLine). relayed_alone (members rest) ms) c.relay_line.ensures
    ∙ next_line n (members rest) ls
    ∙ ap (λ (ns : List ℕ). relayed_alone ns ls) (first_member s rest n c.in-Some.ensures.first c.in-Some.ensures.within)
    ∙ c.loop-line.invariant

pub returns : goal.returns
returns c =
    ap (λ (ns : List ℕ). relayed_alone ns c.loop-line.self)
    (sym (no_members c.loop-line.lines c.in_default.ensures.first))
    ∙ c.loop-line.invariant
