use Rattle.std.proofs.Common.{◌+◌, ap, ◌∙◌, drop, List}
use Rattle.switch_lines.specs.Lines.{SwitchLine}
use Rattle.switch_lines.specs.Relay.{relayed_from, legs_of}
use Rattle.switch_lines.proofs.Legs.{one_line}
use Rattle.switch_lines.proofs.lines.Lines.relay_listed.Goals as goal

pub loop-line-preserved : goal.loop-line-preserved
loop-line-preserved c =
    let i = c.loop-line.line-index in
    ap (λ (ls : List SwitchLine). relayed_from (legs_of (drop (i + 1) c.args.lines.now) ls) ls) c.relay_line.ensures
    ∙ one_line i c.args.lines.now c.loop-line.self c.loop-line-test.true ∙ c.loop-line.invariant
