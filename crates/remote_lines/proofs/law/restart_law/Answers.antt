use Rattle.line_carriers.proofs.CutOffs.{cut_off_law}
use Rattle.remote_lines.proofs.Frames.{restarts}
use Rattle.remote_lines.proofs.law.restart_law.Goals as goal

pub returns : goal.returns
returns c = restarts cut_off_law
