use Rattle.std.proofs.Common.{◌≡◌, None, take}
use Rattle.packet_layer.specs.Layer as machine
use Rattle.packet_layer.specs.Held.{plain}
use Rattle.packet_layer.proofs.layer.calls.lowest_free.Given as goal

abbrev pub invariant-loop-place : goal.invariant-loop-place
invariant-loop-place l = machine.lowest_free (take l.place (plain l.channels)) ≡ None
