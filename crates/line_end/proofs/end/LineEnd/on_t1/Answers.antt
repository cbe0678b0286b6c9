use Rattle.lapb.specs.declared.note.Timing.{Timing}
use Rattle.line_end.specs.End.{End, runs_then, timed, expired, after_t1, t1_note}
use Rattle.std.proofs.Common.{◌≡◌, true, false, refl, ap, ◌∙◌, sym}
use Rattle.std.specs.Prelude.{ℕ, Bool, Option, Some, None, is_some, if◌then◌else◌}
use Rattle.lapb.specs.Machine as machine
use Rattle.lapb.specs.Out.{Out}
use Rattle.line_end.specs.Held.{LineEnd}
use Rattle.line_end.specs.EndView.{end_of}
use Rattle.line_end.proofs.Steps.{sends_on_t1}
use Rattle.line_end.proofs.Calls.{did-is, t1_expired-is, still_end, expiry_sends}
use Rattle.line_end.proofs.end.LineEnd.on_t1.Goals as goal

-- an expiry of T1 changes nothing and tells nothing if it does not run
stays : (e : End) → is_some e.t1 ≡ false → e ≡ after_t1 e
stays e none = sym (ap (λ (b : Bool). if b then expired e else e) none)

tells_nothing : (e : End) → is_some e.t1 ≡ false → None ≡ t1_note e
tells_nothing e none = sym (ap (λ (b : Bool). if b then Some (machine.on_t1 e.link).note else None) none)

pub invariant_of-self : goal.invariant_of-self
invariant_of-self c =
    let a = c.self.inside in
    let running : is_some a.t1 ≡ true = sym c.is_running.ensures ∙ c.if-not-is_running.false in
    still_end a c.on_t1.new.self c.set_timer.new.t1 c.take_timer.new.self
    c.self.invariant
    (rw c.on_t1.ensures.link (sends_on_t1 a.link.link).keeps) c.on_t1.ensures.tight
    (rw c.on_t1.ensures.link (t1_expired-is a.link.link a.out c.on_t1.new.out _ _ c.self.invariant.told c.on_t1.ensures.out
    (c.set_timer.ensures.runs ∙ ap (λ (change : Timing). runs_then change (is_some c.stop.new.self)) c.take_timer.ensures.timer)
    (ap is_some c.stop.ensures) (sym c.self.invariant.t1 ∙ running)))
    (ap (λ (o : Out). o.timer) c.take_timer.ensures.out)

pub returns-then-not-is_running-clause-end : goal.returns-then-not-is_running-clause-end
returns-then-not-is_running-clause-end c =
    stays c.args.self.now.end
    (ap (λ (x : LineEnd). is_some x.end.t1) (sym c.self.view_is) ∙ sym c.is_running.ensures ∙ c.if-not-is_running.true)

pub returns-then-not-is_running-clause-frames : goal.returns-then-not-is_running-clause-frames
returns-then-not-is_running-clause-frames c = expiry_sends c.args.self.now.end

pub returns-then-not-is_running-clause-note : goal.returns-then-not-is_running-clause-note
returns-then-not-is_running-clause-note c =
    tells_nothing c.args.self.now.end
    (ap (λ (x : LineEnd). is_some x.end.t1) (sym c.self.view_is) ∙ sym c.is_running.ensures ∙ c.if-not-is_running.true)

pub returns-clause-end : goal.returns-clause-end
returns-clause-end c =
    let a = c.self.inside in
    let step = machine.on_t1 a.link.link in
    let running : is_some a.t1 ≡ true = sym c.is_running.ensures ∙ c.if-not-is_running.false in
    let expires : after_t1 (end_of a) ≡ expired (end_of a) =
    ap (λ (b : Bool). if b then expired (end_of a) else end_of a) running in
    (λ i. record {
      link = c.on_t1.ensures.link i;
      t1 = c.set_timer.new.t1;
      frames = (ap (λ (o : Out). o.frames) c.take_timer.ensures.out) i;
    })
    ∙ did-is (record (end_of a) { t1 = None }) step a.out c.on_t1.new.out c.set_timer.new.t1
    c.self.invariant.told refl c.on_t1.ensures.out
    (c.set_timer.ensures.left ∙ ap (λ (change : Timing). timed change c.stop.new.self) c.take_timer.ensures.timer
    ∙ ap (λ (t : Option ℕ). timed c.on_t1.new.out.timer t) c.stop.ensures)
    ∙ sym expires
    ∙ ap (λ (x : LineEnd). after_t1 x.end) c.self.view_is

pub returns-clause-frames : goal.returns-clause-frames
returns-clause-frames c = expiry_sends c.args.self.now.end
