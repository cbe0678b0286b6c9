use Rattle.user_nodes.specs.NodeView.{node_of}
use Rattle.node_events.proofs.Writing.{called_hears, called_expires, called_relinks}
use Rattle.node_events.proofs.serving.call_at_line.Goals as goal

pub returns-in-Hears-clause-called : goal.returns-in-Hears-clause-called
returns-in-Hears-clause-called c =
    rw (c.in-Hears.is, c.on_frame.ensures)
    (called_hears c.args.role (node_of c.args.node.now) c.in-Hears.octets.now c.args.book.now c.requires.quiet c.requires.room.0 c.requires.room.1)

pub returns-in-Expires-clause-called : goal.returns-in-Expires-clause-called
returns-in-Expires-clause-called c =
    rw (c.in-Expires.is, c.on_timer.ensures.node)
    (called_expires c.args.role (node_of c.args.node.now) c.in-Expires.timer c.args.book.now c.requires.quiet c.requires.room.0 c.requires.room.1)

pub returns-in-Relinks-clause-called : goal.returns-in-Relinks-clause-called
returns-in-Relinks-clause-called c =
    rw (c.in-Relinks.is, c.relink.ensures)
    (called_relinks c.args.role (node_of c.args.node.now) c.args.book.now c.requires.quiet c.requires.room.0 c.requires.room.1)
