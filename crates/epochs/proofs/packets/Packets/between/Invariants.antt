use Rattle.std.proofs.Common.{◌≡◌, drop}
use Rattle.epochs.proofs.packets.Packets.between.Given as goal

abbrev pub invariant-loop : goal.invariant-loop
invariant-loop l = l.packets ≡ drop l.counter l.self.packets
