use Rattle.std.proofs.Common.{◌≡◌, length}
use Rattle.frame_lines.proofs.flying.Flying.new.Given as goal

-- so many places are made
abbrev pub invariant-loop-made : goal.invariant-loop-made
invariant-loop-made l = length l.places.items ≡ l.made
