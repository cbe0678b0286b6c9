use Rattle.net_player.proofs.Parts.{if_ok_as}
use Rattle.net_player.proofs.program.read_file.Goals as goal

pub returns-in-Ok-clause-size : goal.returns-in-Ok-clause-size
returns-in-Ok-clause-size g c = if_ok_as c.read_text.result (λ text left. left.0) c.read_text.ensures.left
