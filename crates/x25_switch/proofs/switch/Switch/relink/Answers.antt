use Rattle.std.proofs.Common.{◌∙◌, ◌<◌, ap, sym, subst, arith, length, List}
use Rattle.std.proofs.lemmas.List.{length-map}
use Rattle.packet_end.specs.PacketEnd.{relinked, begun as begin_end}
use Rattle.switch_lines.specs.Lines.{SwitchLine}
use Rattle.switch_lines.specs.ByPlace.{AreRead}
use Rattle.switch_lines.specs.Switch.{Switch, with_end, relink}
use Rattle.switch_lines.proofs.Heeding.{begun_read, acted_read}
use Rattle.switch_laws.specs.Events.Event.{SetsUp}
use Rattle.x25_switch.specs.SwitchView.{switch_of}
use Rattle.x25_switch.proofs.Holding.{of_lines, holds_after, relink_is, relink_kept, RelinkKept}
use Rattle.x25_switch.proofs.switch.Switch.relink.Goals as goal

pub relink-requires-clause-there : goal.relink-requires-clause-there
relink-requires-clause-there c =
    let there = subst (λ (s : Switch). c.args.line < length s.lines) (sym c.self.view_is) c.requires in
    let begun = ap (λ (ls : List SwitchLine). length ls) c.begin.ensures in
    let same = length-map c.self.inside.lines (with_end begin_end) in
    omega (arith, there, begun, same)

pub relink-requires-clause-read : goal.relink-requires-clause-read
relink-requires-clause-read c =
    subst (λ (ls : List SwitchLine). AreRead ls) (sym c.begin.ensures) (begun_read c.self.inside.lines)

pub finish-requires : goal.finish-requires
finish-requires c = record {
  read =
      let read : AreRead c.begin.new.self = subst (λ (ls : List SwitchLine). AreRead ls) (sym c.begin.ensures) (begun_read c.self.inside.lines) in
      subst (λ (ls : List SwitchLine). AreRead ls) (sym c.relink.ensures)
      (acted_read c.self.inside.routes c.args.line relinked c.begin.new.self read);
}

pub invariant_of-self : goal.invariant_of-self
invariant_of-self c =
    let is = relink_is c.args.line c.self.inside.routes c.self.inside.lines c.begin.new.self c.relink.new.self c.finish.new.self c.self.invariant.legs c.self.invariant.holds
    c.begin.ensures c.relink.ensures c.finish.ensures in
    let h = holds_after (SetsUp c.args.line) (switch_of c.self.inside) (of_lines c.self.inside.routes c.finish.new.self) c.self.invariant.legs c.self.invariant.holds is in
    record { legs = h.legs; holds = h.holds }

pub returns-clause-switch : goal.returns-clause-switch
returns-clause-switch c =
    relink_is c.args.line c.self.inside.routes c.self.inside.lines c.begin.new.self c.relink.new.self c.finish.new.self c.self.invariant.legs c.self.invariant.holds
    c.begin.ensures c.relink.ensures c.finish.ensures
    ∙ ap (λ (s : Switch). relink c.args.line s) c.self.view_is

-- what is promised of the event, once
kept : (c : goal.After-finish) → RelinkKept c.args.line c.args.self.now (of_lines c.self.inside.routes c.finish.new.self)
kept c =
    relink_kept c.args.line (switch_of c.self.inside) (of_lines c.self.inside.routes c.finish.new.self) _ c.self.invariant.legs c.self.invariant.holds
    (relink_is c.args.line c.self.inside.routes c.self.inside.lines c.begin.new.self c.relink.new.self c.finish.new.self c.self.invariant.legs c.self.invariant.holds
    c.begin.ensures c.relink.ensures c.finish.ensures) c.self.view_is

pub returns-clause-others : goal.returns-clause-others
returns-clause-others c = (kept c).others

pub returns-clause-relayed : goal.returns-clause-relayed
returns-clause-relayed c = (kept c).relayed

pub returns-clause-nothing_kept_back : goal.returns-clause-nothing_kept_back
returns-clause-nothing_kept_back c = (kept c).nothing_kept_back

pub returns-clause-routes : goal.returns-clause-routes
returns-clause-routes c = (kept c).routes

pub returns-clause-legs : goal.returns-clause-legs
returns-clause-legs c = (kept c).legs

pub returns-clause-frames : goal.returns-clause-frames
returns-clause-frames c = (kept c).frames
