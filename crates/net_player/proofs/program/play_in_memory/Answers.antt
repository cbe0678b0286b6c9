use Rattle.net_player.specs.Programs.PlayFails.{stopped}
use Rattle.octet_streams.proofs.Written.{on_ok_as}
use Rattle.net_player.proofs.Parts.{if_err_and}
use Rattle.net_player.proofs.Failing.{made_fails}
use Rattle.net_player.proofs.program.play_in_memory.Goals as goal

pub returns-in-Ok-clause-failed : goal.returns-in-Ok-clause-failed
returns-in-Ok-clause-failed g c =
    if_err_and c.play.result (λ fault is stops. stopped _ is c.in-Ok.ensures.ok stops) c.play.ensures.faults
    c.play.ensures.stops

pub returns-in-Err-clause-failed : goal.returns-in-Err-clause-failed
returns-in-Err-clause-failed g c =
    rw c.making_fault.ensures
    (made_fails _ c.in-Err.fault c.on_memory_lines.result c.on_memory_lines.ensures.served c.in-Err.is)

pub returns-in-Ok-clause-played : goal.returns-in-Ok-clause-played
returns-in-Ok-clause-played g c =
    on_ok_as c.play.result (λ writes. record {
      start = _;
      made = c.in-Ok.ensures.ok;
      ended = _;
      writes = writes;
    }) c.play.ensures.writes
