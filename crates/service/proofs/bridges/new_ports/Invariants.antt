use Rattle.service.specs.AllBridges.{HaveNoChannels}
use Rattle.service.proofs.bridges.new_ports.Given as goal

abbrev pub invariant-loop : goal.invariant-loop
invariant-loop l = HaveNoChannels l.ports.items
