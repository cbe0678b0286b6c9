-- What is asked for so far, and by the rest, is what all of it asks for.
use Rattle.std.proofs.Common.{◌≡◌, length}
use Rattle.xot_codec.specs.Facilities.{asked_in, unasked}
use Rattle.xot_codec.proofs.facilities.asked_in.Given as goal

abbrev pub invariant-loop-rest : goal.invariant-loop-rest
invariant-loop-rest l = asked_in l.asked l.rest ≡ asked_in unasked l.facilities

abbrev pub decreases-loop-rest : goal.decreases-loop-rest
decreases-loop-rest l = length l.rest
