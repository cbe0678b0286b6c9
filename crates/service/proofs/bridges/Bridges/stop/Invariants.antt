use Rattle.std.proofs.Common.{◌≡◌, length}
use Rattle.service.specs.AllBridges.{AreOnOwnChannels}
use Rattle.service.proofs.bridges.Bridges.stop.Given as goal

abbrev pub invariant-loop-place : goal.invariant-loop-place
invariant-loop-place l = record {
  count : length l.self.ports.items ≡ length l.initial.self.ports.items;
  own : AreOnOwnChannels l.initial.self.ports.items → AreOnOwnChannels l.self.ports.items;
}
