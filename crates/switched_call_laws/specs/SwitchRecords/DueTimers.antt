-- How many timers of a switch are due.
use Rattle.std.specs.Prelude.{ℕ, ◌+◌, List, [], ◌∷◌}
use Rattle.node_laws.specs.LineRecords.Due.{due_count}
use Rattle.switch_lines.specs.Lines.{SwitchLine}
use Rattle.switch_lines.specs.Switch.{Switch}

-- how many timers of all lines run with no tick left
abbrev pub lines_due : List SwitchLine → ℕ
lines_due [] = 0
lines_due (l ∷ ls) = due_count l.end + lines_due ls

abbrev pub all_due_on : Switch → ℕ
all_due_on s = lines_due s.lines
