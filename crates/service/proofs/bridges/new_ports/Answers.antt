use Rattle.std.proofs.Common.{List, sym, subst}
use Rattle.service.specs.declared.bridges.BridgePort.{BridgePort}
use Rattle.service.specs.AllBridges.{HaveNoChannels}
use Rattle.service.proofs.EachBridge.{none_more}
use Rattle.service.proofs.bridges.new_ports.Goals as goal

pub loop-preserved : goal.loop-preserved
loop-preserved c =
    subst (λ (ports : List BridgePort). HaveNoChannels ports) (sym c.in_ok-push.ensures.items)
    (none_more c.loop.ports.items c.in_ok-new.field-0 c.in_ok-new.ensures c.loop.invariant)
