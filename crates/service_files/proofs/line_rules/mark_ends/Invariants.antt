-- The ends of the tables so far are marked.
use Rattle.std.proofs.Common.{◌≡◌}
use Rattle.service_files.specs.Lines.{ends_marked}
use Rattle.service_files.proofs.line_rules.mark_ends.Given as goal

abbrev pub invariant-loop-place : goal.invariant-loop-place
invariant-loop-place l = l.marks ≡ ends_marked l.config l.file l.place l.initial.marks
