use Rattle.std.proofs.Common.{◌++◌, [], ◌∷◌, codes, decimal}
use Rattle.std.proofs.lemmas.Result.{err_from_is_err_and}
use Rattle.std.proofs.KnownBytes.{Appends-trans}
use Rattle.net_player.proofs.Parts.{told_before, told_behind, if_err_as}
use Rattle.octet_streams.proofs.Written.{on_ok_as, writes_as, writes_behind}
use Rattle.net_player.proofs.program.write_script_fault.Goals as goal

pub returns-in_err-write-clause-refused : goal.returns-in_err-write-clause-refused
returns-in_err-write-clause-refused g c =
    let p = err_from_is_err_and c.from_residual.result c.from_residual.ensures.1 in
    rw (p.1, p.2) (writes_as (λ part told. told_before (decimal c.args.line ++ 10 ∷ []) told) c.in_err-write.ensures.refused)

pub returns-in_err-write-2-clause-refused : goal.returns-in_err-write-2-clause-refused
returns-in_err-write-2-clause-refused g c =
    let p = err_from_is_err_and c.from_residual-in_err-write-2.result c.from_residual-in_err-write-2.ensures.1 in
    rw (p.1, p.2, ← c.format.ensures.text) (writes_behind (codes "fault 2 line ")
    (λ part told. told_behind (codes "fault 2 line ") (told_before (10 ∷ []) told))
    c.in_ok-write.ensures.writes c.in_err-write-2.ensures.refused)

pub returns-clause-writes : goal.returns-clause-writes
returns-clause-writes g c =
    on_ok_as c.write-3.result (λ ended. rw (← c.format.ensures.text) (Appends-trans _ _ _ (codes "fault 2 line ") _ c.in_ok-write.ensures.writes
    (Appends-trans _ _ _ c.format.result.now _ c.in_ok-write-2.ensures.writes ended))) c.write-3.ensures.writes

pub returns-clause-refused : goal.returns-clause-refused
returns-clause-refused g c =
    if_err_as c.write-3.result (λ fault ended. rw (← c.format.ensures.text) (writes_behind (codes "fault 2 line ")
    (λ part told. told_behind (codes "fault 2 line ") told)
    c.in_ok-write.ensures.writes (writes_behind c.format.result.now (λ part told. told_behind c.format.result.now told)
    c.in_ok-write-2.ensures.writes ended))) c.write-3.ensures.refused
