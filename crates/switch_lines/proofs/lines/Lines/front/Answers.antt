use Rattle.std.proofs.Common.{ap, ◌∙◌}
use Rattle.std.specs.Prelude.{Option}
use Rattle.data_transfer.specs.TakenView.{maybe_front}
use Rattle.packet_layer.specs.Layer.{front_on}
use Rattle.packet_end.specs.PacketEnd.{PacketEnd}
use Rattle.switch_lines.specs.Lines.{SwitchLine, front_of_line}
use Rattle.switch_lines.proofs.Pooled.{one_seen, seen_within, serves_one}
use Rattle.switch_lines.proofs.lines.Lines.front.Goals as goal

pub front-requires : goal.front-requires
front-requires c =
    let within = seen_within c.self.inside.lines.items c.args.self.now c.args.leg.line c.self.view_is c.requires in
    c.deref.ensures.held c.self.inside.pool
    (serves_one c.self.inside.pool c.self.inside.lines.items c.args.leg.line c.index.result.now c.self.invariant.pooled
    within c.index.ensures).holds

pub returns : goal.returns
returns c =
    let within = seen_within c.self.inside.lines.items c.args.self.now c.args.leg.line c.self.view_is c.requires in
    c.front.ensures ∙ ap (λ (e : PacketEnd). maybe_front (front_on e.layer c.args.leg.channel)) c.deref.ensures.end
    ∙ ap (λ (o : Option SwitchLine). maybe_front (front_of_line o c.args.leg.channel))
    (one_seen c.self.inside.lines.items c.args.self.now c.args.leg.line c.index.result.now c.self.view_is within
    c.index.ensures)
