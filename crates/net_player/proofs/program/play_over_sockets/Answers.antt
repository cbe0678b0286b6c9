use Rattle.std.proofs.Common.{refl, inl, inr, arith}
use Rattle.std.proofs.lemmas.Result.{err_from_is_err_and}
use Rattle.net_player.specs.Programs.PlayFails.{no_memory, no_socket, stopped}
use Rattle.octet_streams.proofs.Written.{on_ok_as}
use Rattle.net_player.proofs.Parts.{if_err_and}
use Rattle.net_player.proofs.Failing.{made_fails}
use Rattle.net_player.proofs.program.play_over_sockets.Goals as goal

pub returns-in_err-lines-clause-failed : goal.returns-in_err-lines-clause-failed
returns-in_err-lines-clause-failed g c =
    let p = err_from_is_err_and c.from_residual.result c.from_residual.ensures.1 in
    rw (p.1, p.2) (elim c.in_err-lines.ensures.faults [
      | inl is ↦ rw is (no_memory refl)
      | inr is ↦ rw is.0 (no_socket refl (omega (arith, is.1, c.len.ensures, c.args.config.now.lines.ok.0)) refl)
    ])

pub returns-in-Ok-clause-failed : goal.returns-in-Ok-clause-failed
returns-in-Ok-clause-failed g c =
    if_err_and c.play.result (λ fault is stops. stopped _ is c.in-Ok.ensures.ok stops) c.play.ensures.faults
    c.play.ensures.stops

pub returns-in-Err-clause-failed : goal.returns-in-Err-clause-failed
returns-in-Err-clause-failed g c =
    rw c.making_fault.ensures
    (made_fails _ c.in-Err.fault c.new.result c.new.ensures.served c.in-Err.is)

pub returns-in-Ok-clause-played : goal.returns-in-Ok-clause-played
returns-in-Ok-clause-played g c =
    on_ok_as c.play.result (λ writes. record {
      start = _;
      made = c.in-Ok.ensures.ok;
      ended = _;
      writes = writes;
    }) c.play.ensures.writes
