use Rattle.std.proofs.Common.{Err, ap, ◌∙◌}
use Rattle.trace_capture.proofs.Converting.{read_fault}
use Rattle.trace_capture.proofs.program.read_text.Goals as goal

pub returns-in-Err-clause-fault : goal.returns-in-Err-clause-fault
returns-in-Err-clause-fault g c =
    rw c.reading_fault.ensures
    (read_fault _ c.in-Err.fault (λ is. c.read_all.ensures.too_long (c.in-Err.is ∙ ap Err is)))
