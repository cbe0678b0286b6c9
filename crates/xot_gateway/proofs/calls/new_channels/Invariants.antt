use Rattle.std.proofs.Common.{◌≡◌, replicate}
use Rattle.xot_gateway.specs.declared.states.ChannelState.TheVariants.{Ready}
use Rattle.xot_gateway.proofs.calls.new_channels.Given as goal

abbrev pub invariant-loop : goal.invariant-loop
invariant-loop l = l.channels.items ≡ replicate l.counter Ready
