use Rattle.net_files.proofs.Kept.{with_event}
use Rattle.net_files.proofs.commands.Commands.add_event.Goals as goal

pub invariant_of-self-2 : goal.invariant_of-self-2
invariant_of-self-2 c =
    let i = c.self.inside in
    rw (c.push_reserved-2.ensures.items, c.push_reserved.ensures.items, c.in_ok-reserve.ensures.items, c.in_ok-reserve-2.ensures.items)
    (with_event i.entries.items i.events.items i.octets.items c.args.event c.self.invariant).0

pub returns : goal.returns
returns c =
    let i = c.self.inside in
    rw (c.push_reserved-2.ensures.items, c.push_reserved.ensures.items, c.in_ok-reserve.ensures.items, c.in_ok-reserve-2.ensures.items, ← c.self.view_is)
    (with_event i.entries.items i.events.items i.octets.items c.args.event c.self.invariant).1
