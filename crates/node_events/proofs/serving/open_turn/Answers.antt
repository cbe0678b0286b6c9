use Rattle.node_events.proofs.Opening.{opened}
use Rattle.node_events.proofs.serving.open_turn.Goals as goal

pub returns-clause-opened : goal.returns-clause-opened
returns-clause-opened c =
    opened c.open.result c.args.line _ c.open.new.self (c.open.ensures.at c.requires) c.open.ensures.same (c.open.ensures.book c.requires) c.open.ensures.room c.open.ensures.pairs
