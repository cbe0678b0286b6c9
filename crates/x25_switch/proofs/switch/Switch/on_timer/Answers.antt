use Rattle.std.proofs.Common.{◌≡◌, ◌∙◌, ap, sym, subst, true, List}
use Rattle.std.specs.Prelude.{slice_get}
use Rattle.packet_end.specs.PacketEnd as end
use Rattle.switch_lines.specs.Lines.{SwitchLine}
use Rattle.switch_lines.specs.ByPlace.{AreRead}
use Rattle.switch_lines.specs.Switch.{Switch, timer_runs, on_timer}
use Rattle.switch_lines.proofs.Heeding.{begun_read, acted_read}
use Rattle.switch_laws.specs.Events.Event.{Expires}
use Rattle.x25_switch.specs.SwitchView.{switch_of}
use Rattle.x25_switch.proofs.Holding.{of_lines, holds_after, timer_is, timer_kept, TimerKept}
use Rattle.x25_switch.proofs.switch.Switch.on_timer.Goals as goal

pub on_timer-requires-clause-read : goal.on_timer-requires-clause-read
on_timer-requires-clause-read c =
    subst (λ (ls : List SwitchLine). AreRead ls) (sym c.begin.ensures) (begun_read c.self.inside.lines)

pub finish-requires : goal.finish-requires
finish-requires c = record {
  read =
      let read : AreRead c.begin.new.self = subst (λ (ls : List SwitchLine). AreRead ls) (sym c.begin.ensures) (begun_read c.self.inside.lines) in
      subst (λ (ls : List SwitchLine). AreRead ls) (sym c.on_timer.ensures)
      (acted_read c.self.inside.routes c.args.line (λ e. end.after_timer e c.args.id) c.begin.new.self read);
}

pub invariant_of-self : goal.invariant_of-self
invariant_of-self c =
    let is = timer_is c.args.line c.args.id c.self.inside.routes c.self.inside.lines c.begin.new.self c.on_timer.new.self c.finish.new.self c.self.invariant.legs (sym c.if-not-is_running.ensures) c.self.invariant.holds
    c.begin.ensures c.on_timer.ensures c.finish.ensures in
    let h = holds_after (Expires c.args.line c.args.id) (switch_of c.self.inside) (of_lines c.self.inside.routes c.finish.new.self) c.self.invariant.legs c.self.invariant.holds is in
    record { legs = h.legs; holds = h.holds }

pub returns-clause-switch : goal.returns-clause-switch
returns-clause-switch c =
    timer_is c.args.line c.args.id c.self.inside.routes c.self.inside.lines c.begin.new.self c.on_timer.new.self c.finish.new.self c.self.invariant.legs (sym c.if-not-is_running.ensures) c.self.invariant.holds
    c.begin.ensures c.on_timer.ensures c.finish.ensures
    ∙ ap (λ (s : Switch). on_timer c.args.line c.args.id s) c.self.view_is

-- what is promised of the event, once
kept : (c : goal.After-finish) → TimerKept c.args.line c.args.id c.args.self.now (of_lines c.self.inside.routes c.finish.new.self)
kept c =
    timer_kept c.args.line c.args.id (switch_of c.self.inside) (of_lines c.self.inside.routes c.finish.new.self) _ c.self.invariant.legs c.self.invariant.holds
    (timer_is c.args.line c.args.id c.self.inside.routes c.self.inside.lines c.begin.new.self c.on_timer.new.self c.finish.new.self c.self.invariant.legs (sym c.if-not-is_running.ensures) c.self.invariant.holds
    c.begin.ensures c.on_timer.ensures c.finish.ensures) c.self.view_is

pub returns-clause-others : goal.returns-clause-others
returns-clause-others c = (kept c).others

pub returns-clause-relayed : goal.returns-clause-relayed
returns-clause-relayed c = (kept c).relayed

pub returns-clause-nothing_kept_back : goal.returns-clause-nothing_kept_back
returns-clause-nothing_kept_back c =
    (kept c).nothing_kept_back
    (subst (λ (s : Switch). timer_runs (slice_get s.lines c.args.line) c.args.id ≡ true) c.self.view_is (sym c.if-not-is_running.ensures))

pub returns-clause-routes : goal.returns-clause-routes
returns-clause-routes c = (kept c).routes

pub returns-clause-legs : goal.returns-clause-legs
returns-clause-legs c = (kept c).legs

pub returns-clause-frames : goal.returns-clause-frames
returns-clause-frames c =
    (kept c).frames
    (subst (λ (s : Switch). timer_runs (slice_get s.lines c.args.line) c.args.id ≡ true) c.self.view_is (sym c.if-not-is_running.ensures))
