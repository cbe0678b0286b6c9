use Rattle.std.proofs.Common.{◌<◌, length, refl, arith}
use Rattle.service.proofs.EachBridge.{own_at}
use Rattle.service.proofs.bridges.Bridges.order.Goals as goal

pub returns-in-Some-clause-apart : goal.returns-in-Some-clause-apart
returns-in-Some-clause-apart c own =
    let ports = c.loop-place.self.ports in
    let within : c.loop-place.place < length ports.items = omega (arith, c.in_ok-bridge.ensures.variant.0 refl, ports.ok.0) in
    own_at ports.items c.loop-place.place c.in_ok-bridge.bridge.now _ _ within c.in_ok-bridge.ensures.value c.order_of.ensures.at
    (c.loop-place.invariant own)

pub loop-place-preserved : goal.loop-place-preserved
loop-place-preserved c own =
    let ports = c.loop-place.self.ports in
    let within : c.loop-place.place < length ports.items = omega (arith, c.in_ok-bridge.ensures.variant.0 refl, ports.ok.0) in
    own_at ports.items c.loop-place.place c.in_ok-bridge.bridge.now _ _ within c.in_ok-bridge.ensures.value c.order_of.ensures.at
    (c.loop-place.invariant own)
