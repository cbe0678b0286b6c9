use Rattle.std.proofs.Common.{rules, ◌≢◌, Ok, Err, refl, ◌∙◌, ap}
use Rattle.std.proofs.lemmas.Result.{err_from_is_err_and}
use Rattle.net_events.specs.declared.answer.Answer.{Answer}
use Rattle.net_events.specs.declared.event.StepFault.TheVariants.{OutOfMemory}
use Rattle.net_player.specs.Stopping.StopsAt.{unhandled, untold}
use Rattle.net_player.proofs.Lent.{told, told_refusal, fewer_then, happened, did_not_happen}
use Rattle.octet_streams.proofs.Written.{writes_as, writes_nothing}
use Rattle.net_player.proofs.player.Player.play_event.Goals as goal

answered : (answer : Answer) → Ok answer ≢ Err OutOfMemory
answered answer same = cc

pub returns-in_ok-write_answer-in-Ok-clause-tells : goal.returns-in_ok-write_answer-in-Ok-clause-tells
returns-in_ok-write_answer-in-Ok-clause-tells g c = record {
  text = _;
  appended = c.in_ok-write_answer-in-Ok.ensures.writes;
  kind =
      told g.L.Line.service c.args.event.now c.args.net.now c.step.follows.lender-at-none c.step.result c.step.follows.holds-at-none
      c.args.self.now.names.now c.args.self.now.traces c.has_arrived.result c.in-Ok.answer c.in-Ok.is c.has_arrived.ensures;
}

pub returns-in_err-write_answer-in-Ok-clause-stops : goal.returns-in_err-write_answer-in-Ok-clause-stops
returns-in_err-write_answer-in-Ok-clause-stops g c =
    let p = err_from_is_err_and c.from_residual.result c.from_residual.ensures.1 in
    let happens =
    happened g.L.Line.service c.args.event.now c.args.net.now c.step.follows.lender-at-none c.step.result c.step.follows.holds-at-none
    c.in-Ok.answer c.in-Ok.is in
    rw (p.1, p.2) (writes_as (λ part told. untold (Ok c.in-Ok.answer.now) c.step.follows.lender-at-none happens (answered c.in-Ok.answer.now) told)
    c.in_err-write_answer-in-Ok.ensures.stops)

pub returns-in_ok-write-in-Err : goal.returns-in_ok-write-in-Err
returns-in_ok-write-in-Err g c =
    let memory : c.in-Err.fault ≢ OutOfMemory = search rules in
    record {
      tells = record {
        text = _;
        appended = c.in_ok-write-in-Err.ensures.writes;
        kind = rw c.refusal_text.ensures (told_refusal g.L.Line.service c.args.event.now c.args.net.now c.step.follows.lender-at-none c.step.result c.step.follows.holds-at-none
            c.args.self.now.names.now c.args.self.now.traces c.in-Err.fault c.in-Err.is memory);
      };
      fewer_due = fewer_then g.L.Line.service c.args.event.now c.args.net.now c.step.follows.lender-at-none c.step.result c.step.follows.holds-at-none c.in-Err.fault c.in-Err.is memory;
      stops = tt;
      faults = tt;
    }

pub returns-in_err-write-in-Err-clause-stops : goal.returns-in_err-write-in-Err-clause-stops
returns-in_err-write-in-Err-clause-stops g c =
    let p = err_from_is_err_and c.from_residual-in_err-write-in-Err.result c.from_residual-in_err-write-in-Err.ensures.1 in
    let other : Err c.in-Err.fault ≢ Err OutOfMemory = search rules in
    let happens =
    did_not_happen g.L.Line.service c.args.event.now c.args.net.now c.step.follows.lender-at-none c.step.result c.step.follows.holds-at-none
    c.in-Err.fault c.in-Err.is in
    rw (p.1, p.2) (writes_as (λ part told. untold (Err c.in-Err.fault) c.step.follows.lender-at-none happens other told)
    (rw c.refusal_text.ensures at c.in_err-write-in-Err.ensures.refused))

pub returns-in-Err-OutOfMemory-clause-stops : goal.returns-in-Err-OutOfMemory-clause-stops
returns-in-Err-OutOfMemory-clause-stops g c =
    let happens =
    did_not_happen g.L.Line.service c.args.event.now c.args.net.now c.step.follows.lender-at-none c.step.result c.step.follows.holds-at-none
    OutOfMemory (c.in-Err-OutOfMemory.is ∙ ap Err c.in-Err-OutOfMemory.field-0-is) in
    writes_nothing _ (unhandled c.step.follows.lender-at-none refl happens)
