use Rattle.std.proofs.Common.{◌≡◌, []}
use Rattle.std.specs.Prelude.{replicate}
use Rattle.packet_channel.specs.Channel.{closed_channel}
use Rattle.packet_layer.proofs.layer.closed_channels.Given as goal

abbrev pub invariant-loop : goal.invariant-loop
invariant-loop l = l.channels.items ≡ replicate l.counter (record { channel = closed_channel; held = [] })
