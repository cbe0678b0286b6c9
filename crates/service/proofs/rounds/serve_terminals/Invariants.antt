use Rattle.service.specs.Serving.{ServesBelow}
use Rattle.service.proofs.rounds.serve_terminals.Given as goal

abbrev pub invariant-loop-port : goal.invariant-loop-port
invariant-loop-port g l = ServesBelow g.L.Line.service l.places l.port l.any l.fn.exchange.net l.exchange.net l.fn.terminals.items l.terminals.items
