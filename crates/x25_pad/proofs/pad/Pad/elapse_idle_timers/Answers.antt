-- One port more, and those that were settled are.
use Rattle.std.specs.Vec.{with_items}
use Rattle.std.proofs.Common.{◌≡◌, arith}
use Rattle.std.proofs.lemmas.Grind.{common_steps}
use Rattle.std.proofs.lemmas.List.Edits.{map_over_more}
use Rattle.pad_ports.specs.Ports.{elapsed}
use Rattle.x25_pad.proofs.Settling.{all_done, same_rest, elapsed_settled}
use Rattle.x25_pad.proofs.pad.Pad.elapse_idle_timers.Goals as goal

pub loop-port-preserved : goal.loop-port-preserved
loop-port-preserved c =
    rw (c.elapse.ensures, ← c.port-item.is)
    (map_over_more (elapsed c.args.ticks) c.deref_mut-port-items.result.now c.loop-port.port-items
    c.loop-port.port-index c.port-item.result (omega arith) c.loop-port.invariant c.port-item.is)

pub invariant_of-self : goal.invariant_of-self
invariant_of-self c =
    let whole : (with_items c.self.inside.ports c.loop-port.port-items).items ≡ c.loop-port.port-items = grind (arith, common_steps) in
    record {
      most = grind (arith, common_steps);
      rest = same_rest c.self.inside.touched _ _ whole
          (all_done c.self.inside.touched (elapsed c.args.ticks) c.deref_mut-port-items.result.now c.loop-port.port-items c.loop-port.port-index
          (elapsed_settled c.args.ticks) (omega (arith, c.loop-port-test.false)) c.loop-port.invariant
          (same_rest c.self.inside.touched _ _ c.deref_mut-port-items.ensures.value c.self.invariant.rest));
    }
