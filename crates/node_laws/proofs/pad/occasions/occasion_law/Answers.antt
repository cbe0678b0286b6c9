-- The law of what a PAD says of itself.
use Rattle.node_laws.proofs.Pads.Holding.{occasions_grow, course_is, told_of_pad}
use Rattle.node_laws.proofs.pad.occasions.occasion_law.Goals as goal

pub returns : goal.returns
returns c = record { event = occasions_grow; course = course_is; of_pad = told_of_pad }
