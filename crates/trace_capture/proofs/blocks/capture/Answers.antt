use Rattle.std.proofs.Common.{◌≡◌, ◌∙◌, subst, sym, ap, Ok, IfSome, Result, Err, IfErr, List, ℕ}
use Rattle.std.specs.Option.{option_map}
use Rattle.trace_capture.specs.Trace.{frame_line}
use Rattle.trace_capture.proofs.Lines.{Reads, begins, passes, pushes, refuses, ends}
use Rattle.std.proofs.lemmas.Result.{err_from_is_err_and}
use Rattle.trace_capture.specs.declared.fault.TraceFault.{TraceFault}
use Rattle.trace_capture.specs.declared.fault.TraceFault.TheVariants.{OutOfMemory}
use Rattle.trace_capture.specs.Capture.{IsTraceFault}
use Rattle.trace_capture.specs.Capture.IsTraceFault.{no_memory}
use Rattle.trace_capture.proofs.blocks.capture.Goals as goal

pub loop-rest-init : goal.loop-rest-init
loop-rest-init c = begins _ _ c.in_ok-capture.ensures

pub loop-rest-preserved-in_ok-push_frame-in-Ok-Some : goal.loop-rest-preserved-in_ok-push_frame-in-Ok-Some
loop-rest-preserved-in_ok-push_frame-in-Ok-Some c = rw (c.cut.ensures.others)
    (pushes _ _ _ _ _ _ _ _ _ (subst (λ r. Reads c.args.text.now (option_map (λ others. others.now) r) c.loop-rest.number c.loop-rest.frames
    c.loop-rest.capture.items) c.in-Some.is c.loop-rest.invariant)
    (sym (subst (λ o. IfSome o (λ f. c.cut.result.0.now ≡ frame_line f.line.now f.direction f.octets))
    c.in-Ok-Some.field-0-is c.in-Ok-Some.ensures.frame) ∙ c.cut.ensures.line) c.in_ok-push_frame-in-Ok-Some.ensures)

pub loop-rest-preserved : goal.loop-rest-preserved
loop-rest-preserved c = rw (c.cut.ensures.others)
    (passes _ _ _ _ _ _ (subst (λ r. Reads c.args.text.now (option_map (λ others. others.now) r) c.loop-rest.number c.loop-rest.frames
    c.loop-rest.capture.items) c.in-Some.is c.loop-rest.invariant)
    c.cut.ensures.line (c.read_line.ensures.others (c.in-Ok-None.is ∙ ap Ok c.in-Ok-None.field-0-is)))

pub returns-clause-ok : goal.returns-clause-ok
returns-clause-ok c = ends _ _ _ _ (subst (λ r. Reads c.args.text.now (option_map (λ others. others.now) r) c.loop-rest.number c.loop-rest.frames
    c.loop-rest.capture.items) c.in_default.is c.loop-rest.invariant)

-- want of memory is no line's fault
wants_memory : {T : Type 0} (text : List ℕ) (r : Result T TraceFault) (fault : TraceFault) → r ≡ Err fault
    → fault ≡ OutOfMemory → IfErr r (IsTraceFault text)
wants_memory {T} text r fault is memory =
    let Is : Result T TraceFault → Type 0 = λ x. IfErr x (IsTraceFault text) in
    let IsFault : TraceFault → Type 0 = IsTraceFault text in
    subst Is (sym is) (subst IsFault (sym memory) no_memory)

pub returns-in_err-capture-clause-fault : goal.returns-in_err-capture-clause-fault
returns-in_err-capture-clause-fault c =
    let p = err_from_is_err_and c.from_residual.result c.from_residual.ensures.1 in
    wants_memory _ _ _ p.1 p.2

pub returns-in_err-push_frame-in-Ok-Some-clause-fault : goal.returns-in_err-push_frame-in-Ok-Some-clause-fault
returns-in_err-push_frame-in-Ok-Some-clause-fault c =
    let p = err_from_is_err_and c.from_residual-in_err-push_frame-in-Ok-Some.result c.from_residual-in_err-push_frame-in-Ok-Some.ensures.1 in
    wants_memory _ _ _ p.1 p.2

pub returns-in-Err-clause-fault : goal.returns-in-Err-clause-fault
returns-in-Err-clause-fault c =
    refuses _ _ _ _ _ _ (subst (λ r. Reads c.args.text.now (option_map (λ others. others.now) r) c.loop-rest.number c.loop-rest.frames
    c.loop-rest.capture.items) c.in-Some.is c.loop-rest.invariant) c.cut.ensures.line c.in-Err.ensures.fault c.in-Err.ensures.reads
