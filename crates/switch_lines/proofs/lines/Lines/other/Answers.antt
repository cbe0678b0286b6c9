use Rattle.std.proofs.Common.{◌∙◌, ap, subst, List}
use Rattle.switch_lines.specs.Lines.{SwitchLine}
use Rattle.switch_lines.specs.Pooled.{PooledLine, plain}
use Rattle.switch_lines.specs.Waiting.{other_at, NothingElseMoves}
use Rattle.switch_lines.proofs.Waiting.{both_there}
use Rattle.switch_lines.proofs.lines.Lines.other.Goals as goal

pub returns-clause-there : goal.returns-clause-there
returns-clause-there c =
    let s = c.self.inside.to_relay in
    let r = c.self.inside.refusing in
    let leg = c.args.leg in
    let moves = subst (λ (ls : List SwitchLine). NothingElseMoves s r ls) c.self.view_is c.self.invariant.moves in
    both_there s r c.args.self.now leg c.other_of.result
    (c.other_of.ensures ∙ ap (λ (ps : List PooledLine). other_at (plain ps) leg) c.deref.ensures.value
    ∙ ap (λ (ls : List SwitchLine). other_at ls leg) c.self.view_is)
    moves
