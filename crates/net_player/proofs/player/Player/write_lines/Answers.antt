use Rattle.std.proofs.Common.{[]}
use Rattle.std.proofs.lemmas.Result.{err_from_is_err_and}
use Rattle.net_player.proofs.Parts.{told_front}
use Rattle.net_player.proofs.Turns.{appends_nothing}
use Rattle.octet_streams.proofs.Written.{writes_known}
use Rattle.net_player.proofs.player.Player.write_lines.Goals as goal

pub returns-in_err-add_answer-clause-stops : goal.returns-in_err-add_answer-clause-stops
returns-in_err-add_answer-clause-stops g c =
    let p = err_from_is_err_and c.from_residual.result c.from_residual.ensures.1 in
    rw (p.1, p.2) (writes_known [] (told_front [] _) (appends_nothing _))
