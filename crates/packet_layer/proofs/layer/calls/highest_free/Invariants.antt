use Rattle.std.proofs.Common.{◌≡◌, ◌+◌, None, Some, take}
use Rattle.std.specs.Prelude.{MatchOption}
use Rattle.packet_layer.specs.Layer as machine
use Rattle.packet_layer.specs.Free.{IsFreeAt}
use Rattle.packet_layer.specs.Held.{plain}
use Rattle.packet_layer.proofs.layer.calls.highest_free.Given as goal

abbrev pub invariant-loop-place : goal.invariant-loop-place
invariant-loop-place l = MatchOption l.found (machine.highest_free (take l.place (plain l.channels)) ≡ None) (λ place. (machine.highest_free (take l.place (plain l.channels)) ≡ Some (place + 1)) × IsFreeAt (plain l.channels) place)
