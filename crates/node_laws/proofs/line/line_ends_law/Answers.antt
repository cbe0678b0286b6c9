use Rattle.node_laws.proofs.Lines.Holding.{act_steps, loses_joint, line_ends_hold}
use Rattle.node_laws.proofs.line.line_ends_law.Goals as goal

pub returns : goal.returns
returns c = record { law = line_ends_hold; acts = act_steps; losses = loses_joint }
