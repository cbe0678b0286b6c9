use Rattle.std.proofs.Common.{◌≡◌, true}
use Rattle.service.specs.AllBridges.{WorksForAll}
use Rattle.service.proofs.service.Service.work.Given as goal

abbrev pub invariant-loop : goal.invariant-loop
invariant-loop g l = record {
  all : WorksForAll g.L.Line.service l.fn.self.places.items l.fn.self.lines true l.fn.self.exchange.net l.self.exchange.net l.fn.self.terminals.items l.self.terminals.items l.fn.self.bridges.ports.items l.self.bridges.ports.items;
  places : l.self.places ≡ l.fn.self.places;
  lines : l.self.lines ≡ l.fn.self.lines;
}
