use Rattle.std.proofs.Common.{◌≡◌, ◌∙◌, ◌++◌, [], ◌∷◌, codes, decimal}
use Rattle.std.proofs.lemmas.Result.{err_from_is_err_and}
use Rattle.std.proofs.KnownBytes.{Appends-trans}
use Rattle.octet_streams.proofs.Written.{front_before, front_behind, short_is_front, writes_as, writes_behind}
use Rattle.octet_streams.proofs.Written.{on_err_as, on_ok_as}
use Rattle.trace_capture.proofs.program.write_line_fault.Goals as goal

pub returns-in_err-write_all-clause-front : goal.returns-in_err-write_all-clause-front
returns-in_err-write_all-clause-front g c =
    let p = err_from_is_err_and c.from_residual.result c.from_residual.ensures.1 in
    rw p.1 (writes_as (λ part told. front_before (decimal c.args.number ++ (codes " is no frame" ++ 10 ∷ [])) (short_is_front told))
    c.in_err-write_all.ensures.refused)

pub returns-in_err-write_all-2-clause-front : goal.returns-in_err-write_all-2-clause-front
returns-in_err-write_all-2-clause-front g c =
    let p = err_from_is_err_and c.from_residual-in_err-write_all-2.result c.from_residual-in_err-write_all-2.ensures.1 in
    let digits : c.as_bytes.result.now ≡ decimal c.args.number = c.as_bytes.ensures.value ∙ c.format.ensures.text in
    rw (p.1, ← digits) (writes_behind (codes "line ")
    (λ part told. front_behind (codes "line ") (front_before (codes " is no frame" ++ 10 ∷ []) (short_is_front told)))
    c.in_ok-write_all.ensures.writes c.in_err-write_all-2.ensures.refused)

pub returns-clause-writes : goal.returns-clause-writes
returns-clause-writes g c =
    let digits : c.as_bytes.result.now ≡ decimal c.args.number = c.as_bytes.ensures.value ∙ c.format.ensures.text in
    on_ok_as c.write_all-3.result (λ ended. rw (← digits) (Appends-trans _ _ _ (codes "line ") _ c.in_ok-write_all.ensures.writes
    (Appends-trans _ _ _ c.as_bytes.result.now _ c.in_ok-write_all-2.ensures.writes ended))) c.write_all-3.ensures.writes

pub returns-clause-front : goal.returns-clause-front
returns-clause-front g c =
    let digits : c.as_bytes.result.now ≡ decimal c.args.number = c.as_bytes.ensures.value ∙ c.format.ensures.text in
    on_err_as c.write_all-3.result (λ refused. rw (← digits) (writes_behind (codes "line ")
    (λ part told. front_behind (codes "line ") told) c.in_ok-write_all.ensures.writes
    (writes_behind c.as_bytes.result.now (λ part told. front_behind c.as_bytes.result.now told)
    c.in_ok-write_all-2.ensures.writes (writes_as (λ part told. short_is_front told) refused)))) c.write_all-3.ensures.refused
