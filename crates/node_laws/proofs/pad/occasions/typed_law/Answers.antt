-- The law of what was typed on each call.
use Rattle.node_laws.proofs.Pads.TypedSteps.{typed_so}
use Rattle.node_laws.proofs.pad.occasions.typed_law.Goals as goal

pub returns : goal.returns
returns c = typed_so
