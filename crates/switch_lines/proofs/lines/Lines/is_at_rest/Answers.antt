use Rattle.std.proofs.Common.{ap, ◌∙◌}
use Rattle.std.specs.List.{list_all}
use Rattle.switch_lines.specs.Pooled.{PooledLine}
use Rattle.switch_lines.specs.Switch.{line_rests}
use Rattle.switch_lines.proofs.Pooled.{all_plain}
use Rattle.switch_lines.proofs.lines.Lines.is_at_rest.Goals as goal

pub returns : goal.returns
returns c =
    c.rest.ensures ∙ ap (list_all (λ (p : PooledLine). line_rests p.line)) c.deref.ensures.value
    ∙ all_plain line_rests c.self.inside.lines.items ∙ ap (list_all line_rests) c.self.view_is
