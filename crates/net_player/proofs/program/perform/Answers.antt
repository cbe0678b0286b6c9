use Rattle.std.proofs.Common.{Ok, ap}
use Rattle.std.specs.Io.Buffered.{writer_buffer, writer_inner}
use Rattle.net_files.specs.declared.fault.ProgFault.TheVariants as fault_is
use Rattle.net_player.specs.Programs.EndsIn.{failed, unwritten}
use Rattle.net_player.proofs.Endings.{performs_emptied, performs_kept}
use Rattle.net_player.proofs.program.perform.Goals as goal

pub returns-in-Ok-true-clause-done : goal.returns-in-Ok-true-clause-done
returns-in-Ok-true-clause-done g c = λ is. (
  performs_emptied _ _ (g.W.Write.contents (writer_inner c.end_output.new.out)) (writer_buffer c.end_output.new.out)
      (c.in-Ok-true.ensures.played (ap Ok c.in-Ok-true.field-0-test)) c.end_output.ensures.kept (c.end_output.ensures.done is).0,
  (c.end_output.ensures.done is).1,
)

pub returns-in-Ok-true-clause-fault : goal.returns-in-Ok-true-clause-fault
returns-in-Ok-true-clause-fault g c = λ is. (
  fault_is.Write,
  unwritten (performs_kept _ _ _ (c.in-Ok-true.ensures.played (ap Ok c.in-Ok-true.field-0-test)) c.end_output.ensures.kept),
  c.end_output.ensures.refused is,
)

pub returns-in-Err-clause-fault : goal.returns-in-Err-clause-fault
returns-in-Err-clause-fault g c = λ is.
    (c.in-Err.fault, failed _ c.in-Err.ensures.failed c.flush.ensures.bytes, c.tell_fault.ensures.told)
