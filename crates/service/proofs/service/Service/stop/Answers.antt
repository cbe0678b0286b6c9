use Rattle.std.proofs.Common.{◌<◌, length, arith}
use Rattle.service.specs.Terminals.{ended}
use Rattle.service.proofs.AllTerminals.{there_at}
use Rattle.service.proofs.Ports.{change_more}
use Rattle.service.proofs.service.Service.stop.Goals as goal

pub loop-port-preserved : goal.loop-port-preserved
loop-port-preserved g c =
    let within : c.loop-port.port < length c.loop-port.self.terminals.items = omega arith in
    record {
      changed = change_more ended c.loop-port.port _ _ c.index_mut.result.now _ c.loop-port.invariant.changed
          (there_at c.loop-port.self.terminals.items c.loop-port.port _ _ within c.index_mut.ensures.value) c.end.ensures;
      network = c.loop-port.invariant.network;
    }
