use Rattle.parted_laws.proofs.forget_law.Goals as goal
use Rattle.parted_laws.proofs.Restarts.{ends_forget, nodes_forget, switches_forget}

pub returns : goal.returns
returns c = record { ends = ends_forget; nodes = nodes_forget; switches = switches_forget }
