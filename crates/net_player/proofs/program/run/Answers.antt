use Rattle.std.proofs.Common.{refl, None, Some}
use Rattle.std.proofs.lemmas.Result.{err_from_is_err_and}
use Rattle.net_player.specs.Programs.Fails.{words_unread, unplayed}
use Rattle.net_player.proofs.program.run.Goals as goal

pub returns-in_err-play_first-in-Ok-None-clause-failed : goal.returns-in_err-play_first-in-Ok-None-clause-failed
returns-in_err-play_first-in-Ok-None-clause-failed g c =
    let p = err_from_is_err_and c.from_residual.result c.from_residual.ensures.1 in
    rw (p.1, p.2) (unplayed None (rw c.in-Ok-None.field-0-is at c.in-Ok-None.ensures.asks)
    c.in_err-play_first-in-Ok-None.ensures.failed)

pub returns-in_err-play_files-in-Ok-Some-clause-failed : goal.returns-in_err-play_files-in-Ok-Some-clause-failed
returns-in_err-play_files-in-Ok-Some-clause-failed g c =
    let p = err_from_is_err_and c.from_residual-in_err-play_files-in-Ok-Some.result c.from_residual-in_err-play_files-in-Ok-Some.ensures.1 in
    rw (p.1, p.2) (unplayed (Some c.in-Ok-Some.invocation) (rw c.in-Ok-Some.field-0-is at c.in-Ok-Some.ensures.asks)
    c.in_err-play_files-in-Ok-Some.ensures.failed)

pub returns-in-Err-OutOfMemory-clause-failed : goal.returns-in-Err-OutOfMemory-clause-failed
returns-in-Err-OutOfMemory-clause-failed g c = words_unread refl
