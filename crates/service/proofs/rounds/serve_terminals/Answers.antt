use Rattle.std.proofs.Common.{◌<◌, length, arith, refl}
use Rattle.service.proofs.AllTerminals.{below_none, below_more, below_all, there_at}
use Rattle.service.proofs.rounds.serve_terminals.Goals as goal

pub loop-port-init : goal.loop-port-init
loop-port-init g c = below_none g.L.Line.service _ _ _

pub loop-port-preserved : goal.loop-port-preserved
loop-port-preserved g c =
    let within : c.loop-port.port < length c.loop-port.terminals.items = omega arith in
    let seat : c.loop-port.port < length c.args.places.now = omega (arith, within, c.loop-port.invariant.works.count, c.requires.seated) in
    below_more g.L.Line.service _ c.loop-port.port _ _ _ _ _ _ _ c.loop-port.terminals.items _ _ c.requires.apart c.loop-port.invariant c.serve_terminal-done.ensures
    (there_at c.args.places.now c.loop-port.port _ _ seat refl)
    (there_at c.loop-port.terminals.items c.loop-port.port c.index_mut.result.now _ within c.index_mut.ensures.value)

pub returns : goal.returns
returns g c = below_all g.L.Line.service _ c.loop-port.port _ _ _ _ _ _ (omega arith) c.loop-port.invariant
