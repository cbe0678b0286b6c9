use Rattle.std.proofs.Common.{true}
use Rattle.service.specs.Serving.{Serves, WishesKeys}
use Rattle.service.proofs.rounds.type_some.Given as goal

abbrev pub invariant-loop : goal.invariant-loop
invariant-loop g l =
    Serves g.L.Line.service l.at (WishesKeys l.at) true l.fn.exchange.net l.exchange.net l.fn.terminal l.terminal
