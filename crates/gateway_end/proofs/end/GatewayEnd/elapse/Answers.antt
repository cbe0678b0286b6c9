use Rattle.std.proofs.Common.{◌∙◌, refl, ap, sym, subst}
use Rattle.std.specs.Prelude.{is_some}
use Rattle.link_timers.specs.Timers.{is_due}
use Rattle.lapb.specs.Machine.{on_t1}
use Rattle.line_end.specs.End as ends
use Rattle.line_end.specs.End.{End}
use Rattle.line_end.specs.Held.{LineEnd}
use Rattle.gateway_end.specs.EndView.{end_of}
use Rattle.gateway_end.specs.GatewayEnd.{Elapses, GatewayEnd}
use Rattle.gateway_end.specs.Waiting.{waiting_in}
use Rattle.gateway_end.proofs.Hearing.{elapsed_due, elapsed_quiet, told}
use Rattle.gateway_end.proofs.end.GatewayEnd.elapse.Goals as goal

pub returns-then-not-is_due : goal.returns-then-not-is_due
returns-then-not-is_due c =
    let a = c.self.inside in
    let line = ap (λ (x : LineEnd). x.end) c.elapse.ensures in
    let quiet = ap (λ (e : End). is_due e.t1) (sym line) ∙ sym c.is_due.ensures ∙ c.if-not-is_due.true in
    let after : GatewayEnd = record { line = c.elapse.new.self.end; calls = c.elapse-2.new.self; waiting = waiting_in a.next } in
    subst (λ (x : GatewayEnd). Elapses c.args.ticks x after) c.self.view_is
    (elapsed_quiet c.args.ticks (end_of a) after
    (record { connections = c.elapse-2.ensures.connections; others = c.elapse-2.ensures.others }) quiet line refl)

pub returns-in-Some : goal.returns-in-Some
returns-in-Some c =
    let a = c.self.inside in
    let line = ap (λ (x : LineEnd). x.end) c.elapse.ensures in
    let due = ap (λ (e : End). is_due e.t1) (sym line) ∙ sym c.is_due.ensures ∙ c.if-not-is_due.false in
    let note = told (is_some c.elapse.new.self.end.t1) c.in-Some.note (on_t1 c.elapse.new.self.end.link).note
    (sym c.in-Some.is ∙ c.on_t1.ensures.note) in
    let after : GatewayEnd = record { line = c.on_t1.new.self.end; calls = c.heed.new.calls; waiting = waiting_in c.heed.new.next } in
    subst (λ (x : GatewayEnd). Elapses c.args.ticks x after) c.self.view_is
    (elapsed_due c.args.ticks (end_of a) after c.elapse-2.new.self c.in-Some.note
    (record { connections = c.elapse-2.ensures.connections; others = c.elapse-2.ensures.others }) due c.heed.ensures.calls
    (note ∙ ap (λ (e : End). (on_t1 e.link).note) line)
    (c.on_t1.ensures.end ∙ ap (λ (e : End). ends.after_t1 e) line) c.heed.ensures.waiting)
