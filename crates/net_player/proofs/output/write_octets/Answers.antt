use Rattle.octet_streams.proofs.Written.{writes_as}
use Rattle.net_player.proofs.Parts.{told_short}
use Rattle.net_player.proofs.output.write_octets.Goals as goal

pub returns-in-Err-clause-refused : goal.returns-in-Err-clause-refused
returns-in-Err-clause-refused g c = writes_as (λ part short. told_short short) c.in-Err.ensures.refused
