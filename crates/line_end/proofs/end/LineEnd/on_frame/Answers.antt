use Rattle.lapb.specs.declared.note.Timing.{Timing}
use Rattle.line_end.specs.End.{runs_then, timed}
use Rattle.std.proofs.Common.{refl}
use Rattle.std.proofs.Common.{◌≡◌, ap, ◌∙◌, sym, arith}
use Rattle.std.specs.Prelude.{is_some}
use Rattle.std.specs.Option.{option_copied}
use Rattle.lapb.specs.Octets.{on_octets}
use Rattle.lapb.specs.Out.{Out}
use Rattle.line_end.specs.Held.{LineEnd}
use Rattle.line_end.specs.End.{received}
use Rattle.line_end.specs.EndView.{end_of}
use Rattle.line_end.proofs.Steps.{Keeps, sends_on_octets}
use Rattle.line_end.proofs.Calls.{did-is, t1-is, still_end, accepted_long, packet-is, none_of, sends_up_to}
use Rattle.line_end.proofs.end.LineEnd.on_frame.Goals as goal
use Rattle.line_end.proofs.end.LineEnd.on_frame.Goals.{then-accepted, else-accepted}

pub invariant_of-self : goal.invariant_of-self
invariant_of-self c =
    let step = on_octets c.self.inside.link.link c.args.octets.now in
    still_end c.self.inside c.on_frame.new.self c.set_timer.new.t1 c.take_timer.new.self
    c.self.invariant
    (rw c.on_frame.ensures.link (sends_on_octets c.self.inside.link.link c.args.octets.now).keeps) c.on_frame.ensures.tight
    (rw c.on_frame.ensures.link (t1-is c.self.inside.link.link step c.self.inside.out c.on_frame.new.out _ _ c.self.invariant.told c.on_frame.ensures.out (c.set_timer.ensures.runs ∙ ap (λ (change : Timing). runs_then change (is_some c.self.inside.t1)) c.take_timer.ensures.timer) c.self.invariant.t1)) (ap (λ (o : Out). o.timer) c.take_timer.ensures.out)

pub returns-clause-end : goal.returns-clause-end
returns-clause-end c =
    let step = on_octets c.self.inside.link.link c.args.octets.now in
    (λ i. record {
      link = c.on_frame.ensures.link i;
      t1 = c.set_timer.new.t1;
      frames = (ap (λ (o : Out). o.frames) c.take_timer.ensures.out) i;
    })
    ∙ did-is (end_of c.self.inside) step c.self.inside.out c.on_frame.new.out c.set_timer.new.t1
    c.self.invariant.told refl c.on_frame.ensures.out
    (c.set_timer.ensures.left ∙ ap (λ (change : Timing). timed change c.self.inside.t1) c.take_timer.ensures.timer)
    ∙ ap (λ (e : LineEnd). received e.end c.args.octets.now) c.self.view_is

pub returns-clause-packet : goal.returns-clause-packet
returns-clause-packet c =
    let step = on_octets c.self.inside.link.link c.args.octets.now in
    let accepted : c.accepted.result ≡ is_some step.accepted = c.accepted.ensures ∙
    ap (λ (o : Out). o.accepted) c.take_timer.ensures.out ∙ ap (λ (o : Out). o.accepted) c.on_frame.ensures.out in
    let packet : option_copied c.if-accepted.result ≡ step.accepted =
    elim c.if-accepted.branch [
      | then-accepted w ↦
          ap option_copied w.result-is ∙ packet-is c.args.octets.now step.accepted w.get.result
          (accepted_long c.self.inside.link.link c.args.octets.now) c.on_frame.ensures.packet
          (sym accepted ∙ w.if-accepted.true)
          w.get.ensures.lookup.0
      | else-accepted w ↦ ap option_copied w.result-is ∙
          sym (none_of step.accepted (sym accepted ∙ w.if-accepted.false))
    ] in
    packet ∙ ap (λ (e : LineEnd). (on_octets e.end.link c.args.octets.now).accepted) c.self.view_is

pub returns-clause-frames : goal.returns-clause-frames
returns-clause-frames c = sends_up_to 1 c.args.self.now.end _ (sends_on_octets c.args.self.now.end.link c.args.octets.now).few

pub returns-clause-most : goal.returns-clause-most
returns-clause-most c =
    let keeps : Keeps c.self.inside.link.link c.on_frame.new.self.link =
    rw c.on_frame.ensures.link (sends_on_octets c.self.inside.link.link c.args.octets.now).keeps in
    omega (arith, keeps.queue, c.self.invariant.queue, keeps.k, c.on_frame.ensures.tight)

pub returns-clause-k : goal.returns-clause-k
returns-clause-k c =
    let keeps : Keeps c.self.inside.link.link c.on_frame.new.self.link =
    rw c.on_frame.ensures.link (sends_on_octets c.self.inside.link.link c.args.octets.now).keeps in
    keeps.k ∙ ap (λ (e : LineEnd). e.end.link.k) c.self.view_is

pub returns-clause-info : goal.returns-clause-info
returns-clause-info c =
    let keeps : Keeps c.self.inside.link.link c.on_frame.new.self.link =
    rw c.on_frame.ensures.link (sends_on_octets c.self.inside.link.link c.args.octets.now).keeps in
    keeps.info ∙ ap (λ (e : LineEnd). e.end.link.info) c.self.view_is
