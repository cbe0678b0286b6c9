use Rattle.std.proofs.Common.{refl}
use Rattle.net_files.specs.Commands.{Check}
use Rattle.net_files.proofs.Kept.{with_other}
use Rattle.net_files.proofs.commands.Commands.add_check.Goals as goal

pub invariant_of-self-2 : goal.invariant_of-self-2
invariant_of-self-2 c =
    let i = c.self.inside in
    rw (c.push_reserved.ensures.items, c.in_ok-reserve.ensures.items)
    (with_other i.entries.items i.events.items i.octets.items Check refl refl c.self.invariant).0

pub returns : goal.returns
returns c =
    let i = c.self.inside in
    rw (c.push_reserved.ensures.items, c.in_ok-reserve.ensures.items, ← c.self.view_is)
    (with_other i.entries.items i.events.items i.octets.items Check refl refl c.self.invariant).1
