-- The lines so far are marked.
use Rattle.std.proofs.Common.{◌≡◌}
use Rattle.service_files.specs.Lines.{lines_marked}
use Rattle.service_files.proofs.line_rules.mark_lines.Given as goal

abbrev pub invariant-loop-number : goal.invariant-loop-number
invariant-loop-number l = l.marks ≡ lines_marked l.config l.file l.number l.initial.marks
