use Rattle.std.proofs.Common.{◌<◌, length, sym, refl, ◌∙◌, arith}
use Rattle.service.proofs.AllTerminals.{there_at}
use Rattle.service.proofs.EachBridge.{serves_none, serves_port}
use Rattle.service.proofs.exchange.Exchange.serve_bridge.Goals as goal

pub returns-in-None : goal.returns-in-None
returns-in-None g c = serves_none g.L.Line.service _ _ _

pub returns-in-Some-get_mut : goal.returns-in-Some-get_mut
returns-in-Some-get_mut g c =
    let ports = c.args.bridges.now.ports in
    let within : c.args.place < length ports.items = omega (arith, c.in-Some-get_mut.ensures.variant.0 refl, ports.ok.0) in
    serves_port g.L.Line.service c.in-Some.at c.args.place _ _ _ ports.items c.in-Some-get_mut.port.now _
    (sym c.channel.ensures ∙ c.in-Some.is)
    (there_at ports.items c.args.place _ _ within c.in-Some-get_mut.ensures.value)
    c.serve_call_at.ensures.carries c.serve_call_at.ensures.forgets
