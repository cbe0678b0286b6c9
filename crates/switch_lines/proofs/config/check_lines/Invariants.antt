-- The lines so far may be made.
use Rattle.std.proofs.Common.{◌≡◌, ◌<◌, ℕ, Some}
use Rattle.std.specs.Prelude.{slice_get}
use Rattle.joined_line.specs.declared.config.SwitchLineConfig.{SwitchLineConfig}
use Rattle.switch_lines.specs.Making.{IsLineConfig}
use Rattle.switch_lines.proofs.config.check_lines.Given as goal

abbrev pub invariant-loop-line : goal.invariant-loop-line
invariant-loop-line l = (n : ℕ) → (c : SwitchLineConfig) → n < l.line-index → slice_get l.lines n ≡ Some c → IsLineConfig c
