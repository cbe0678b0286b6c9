-- So many rounds are marked.
use Rattle.std.proofs.Common.{◌≡◌}
use Rattle.service_files.specs.Lines.{rounds_marked}
use Rattle.service_files.proofs.line_rules.mark_rounds.Given as goal

abbrev pub invariant-loop-round : goal.invariant-loop-round
invariant-loop-round l = l.marks ≡ rounds_marked l.config l.file l.round l.initial.marks
