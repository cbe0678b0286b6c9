use Rattle.gateway_end.specs.GatewayEnd.{IsHeldBack, Pass}
use Rattle.gateway_end.proofs.end.GatewayEnd.pass_packets.Given as goal

-- packets passed, and one waits only if the link takes none
abbrev pub invariant-loop : goal.invariant-loop
invariant-loop l = record { pass : Pass l.fn.self l.self; held_back : IsHeldBack l.self }
