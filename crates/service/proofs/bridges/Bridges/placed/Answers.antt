use Rattle.std.proofs.Common.{◌<◌, length, refl, arith}
use Rattle.service.proofs.AllTerminals.{there_at}
use Rattle.service.proofs.EachBridge.{places_none, places_port}
use Rattle.service.proofs.bridges.Bridges.placed.Goals as goal

pub returns-in-Some : goal.returns-in-Some
returns-in-Some c =
    let ports = c.leave_channel.new.self.ports in
    let within : c.args.place < length ports.items = omega (arith, c.in-Some.ensures.variant.0 refl, ports.ok.0) in
    places_port c.args.at _ ports.items c.args.place c.in-Some.port.now _ _ c.leave_channel.ensures
    (there_at ports.items c.args.place _ _ within c.in-Some.ensures.value) c.is_some.ensures c.placed.ensures refl refl

pub returns-in_default : goal.returns-in_default
returns-in_default c = places_none c.args.at _ _ c.leave_channel.ensures.through
