use Rattle.std.proofs.Common.{List, length, sym, ap, ◌∙◌}
use Rattle.epochs.specs.Item.{DataPacket}
use Rattle.epochs.proofs.Written.{read_count}
use Rattle.epochs.proofs.packets.PacketsIter.len.Goals as goal

pub returns : goal.returns
returns c =
    sym (read_count c.self.inside.count c.self.inside.written.now c.self.invariant)
    ∙ ap (λ (ps : List DataPacket). length ps) c.self.view_is
