use Rattle.xot_gateway.proofs.calls.+highest_free.Given as goal

abbrev pub decreases-highest_free : goal.decreases-highest_free
decreases-highest_free l = l.below
