use Rattle.std.proofs.Common.{refl}
use Rattle.std.proofs.lemmas.Result.{err_from_is_err_and}
use Rattle.trace_capture.specs.Converting.ConvertFails.{unread, no_capture}
use Rattle.trace_capture.proofs.Converting.{write_fails}
use Rattle.trace_capture.proofs.program.try_convert.Goals as goal

pub returns-in_err-text-clause-failed : goal.returns-in_err-text-clause-failed
returns-in_err-text-clause-failed g c =
    let p = err_from_is_err_and c.from_residual.result c.from_residual.ensures.1 in
    rw (p.1, p.2) (unread c.in_err-text.ensures.fault refl)

pub returns-in_err-capture-clause-failed : goal.returns-in_err-capture-clause-failed
returns-in_err-capture-clause-failed g c =
    let p = err_from_is_err_and c.from_residual-in_err-capture.result c.from_residual-in_err-capture.ensures.1 in
    rw (p.1, p.2) (no_capture c.in_ok-text.text.items c.in_ok-text.ensures.text
    (rw c.as_slice.ensures.value at c.in_err-capture.ensures.fault) refl)

pub returns-clause-failed : goal.returns-clause-failed
returns-clause-failed g c =
    write_fails _ _ _ c.in_ok-text.text.items c.in_ok-capture.capture.items c.write_capture.result c.in_ok-text.ensures.text
    (rw c.as_slice.ensures.value at c.in_ok-capture.ensures.ok) c.write_capture.ensures.fault
    (rw c.as_slice-2.ensures.value at c.write_capture.ensures.front)
