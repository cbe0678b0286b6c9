use Rattle.service.specs.AllBridges.{AreOnOwnChannels}
use Rattle.service.proofs.bridges.Bridges.order.Given as goal

abbrev pub invariant-loop-place : goal.invariant-loop-place
invariant-loop-place l = AreOnOwnChannels l.initial.self.ports.items → AreOnOwnChannels l.self.ports.items
