use Rattle.std.proofs.Common.{◌∙◌, ap, sym, subst, List}
use Rattle.std.specs.Prelude.{slice_get}
use Rattle.packet_end.specs.PacketEnd as end
use Rattle.switch_lines.specs.Lines.{SwitchLine}
use Rattle.switch_lines.specs.NewJoins.{joins_acted, new_joins}
use Rattle.switch_lines.specs.ByPlace.{AreRead}
use Rattle.switch_lines.specs.Switch.{Switch, on_frame}
use Rattle.switch_lines.proofs.Heeding.{begun_read, acted_read}
use Rattle.switch_laws.specs.Events.Event.{Arrives}
use Rattle.x25_switch.specs.SwitchView.{switch_of}
use Rattle.x25_switch.proofs.Holding.{of_lines, holds_after, frame_is, frame_kept, FrameKept}
use Rattle.switch_laws.proofs.NewJoins.{one_told}
use Rattle.x25_switch.proofs.switch.Switch.on_frame.Goals as goal

pub on_frame-joined-requires-clause-read : goal.on_frame-joined-requires-clause-read
on_frame-joined-requires-clause-read c =
    subst (λ (ls : List SwitchLine). AreRead ls) (sym c.begin.ensures) (begun_read c.self.inside.lines)

pub finish-requires : goal.finish-requires
finish-requires c = record {
  read =
      let read : AreRead c.begin.new.self = subst (λ (ls : List SwitchLine). AreRead ls) (sym c.begin.ensures) (begun_read c.self.inside.lines) in
      subst (λ (ls : List SwitchLine). AreRead ls) (sym c.on_frame-joined.ensures.lines)
      (acted_read c.self.inside.routes c.args.line (λ e. end.received e c.args.octets.now) c.begin.new.self read);
}

pub invariant_of-self : goal.invariant_of-self
invariant_of-self c =
    let is = frame_is c.args.line c.args.octets.now c.self.inside.routes c.self.inside.lines c.begin.new.self c.on_frame-joined.new.self c.finish.new.self c.self.invariant.legs c.self.invariant.holds
    c.begin.ensures c.on_frame-joined.ensures.lines c.finish.ensures in
    let h = holds_after (Arrives c.args.line c.args.octets.now) (switch_of c.self.inside) (of_lines c.self.inside.routes c.finish.new.self) c.self.invariant.legs c.self.invariant.holds is in
    record { legs = h.legs; holds = h.holds }

pub returns-clause-switch : goal.returns-clause-switch
returns-clause-switch c =
    frame_is c.args.line c.args.octets.now c.self.inside.routes c.self.inside.lines c.begin.new.self c.on_frame-joined.new.self c.finish.new.self c.self.invariant.legs c.self.invariant.holds
    c.begin.ensures c.on_frame-joined.ensures.lines c.finish.ensures
    ∙ ap (λ (s : Switch). on_frame c.args.line c.args.octets.now s) c.self.view_is

pub returns-clause-join : goal.returns-clause-join
returns-clause-join c =
    one_told c.args.line c.args.octets.now (switch_of c.self.inside)
    c.on_frame-joined.result
    (c.on_frame-joined.ensures.join
    ∙ ap (λ (ls : List SwitchLine). slice_get (joins_acted c.self.inside.routes c.args.line (λ e. end.received e c.args.octets.now) ls) 0) c.begin.ensures)
    ∙ ap (λ (s : Switch). new_joins c.args.line c.args.octets.now s) c.self.view_is

-- what is promised of the event, once
kept : (c : goal.After-finish) → FrameKept c.args.line c.args.octets.now c.args.self.now (of_lines c.self.inside.routes c.finish.new.self)
kept c =
    frame_kept c.args.line c.args.octets.now (switch_of c.self.inside) (of_lines c.self.inside.routes c.finish.new.self) _ c.self.invariant.legs c.self.invariant.holds
    (frame_is c.args.line c.args.octets.now c.self.inside.routes c.self.inside.lines c.begin.new.self c.on_frame-joined.new.self c.finish.new.self c.self.invariant.legs c.self.invariant.holds
    c.begin.ensures c.on_frame-joined.ensures.lines c.finish.ensures) c.self.view_is

pub returns-clause-others : goal.returns-clause-others
returns-clause-others c = (kept c).others

pub returns-clause-relayed : goal.returns-clause-relayed
returns-clause-relayed c = (kept c).relayed

pub returns-clause-nothing_kept_back : goal.returns-clause-nothing_kept_back
returns-clause-nothing_kept_back c = (kept c).nothing_kept_back

pub returns-clause-routes : goal.returns-clause-routes
returns-clause-routes c = (kept c).routes

pub returns-clause-legs : goal.returns-clause-legs
returns-clause-legs c = (kept c).legs

pub returns-clause-frames : goal.returns-clause-frames
returns-clause-frames c = (kept c).frames
