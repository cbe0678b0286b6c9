-- The places so far.
use Rattle.std.proofs.Common.{◌≡◌, None, replicate}
use Rattle.switch_joins.proofs.joins.Joins.new.Given as goal

abbrev pub invariant-loop : goal.invariant-loop
invariant-loop l = l.places.items ≡ replicate l.counter None
