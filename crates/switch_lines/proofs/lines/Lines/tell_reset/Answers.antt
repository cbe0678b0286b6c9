use Rattle.std.proofs.Common.{ap, arith, length, List}
use Rattle.packet_channel.specs.Channel.Request.{Resetting}
use Rattle.switch_joins.specs.Direction.{new_direction}
use Rattle.switch_lines.specs.Lines.{SwitchLine}
use Rattle.switch_lines.proofs.Places.{asked_length, kept_length}
use Rattle.switch_lines.proofs.lines.Lines.tell_reset.Goals as goal

pub renew-requires : goal.renew-requires
renew-requires c =
    let same = ap (λ (ls : List SwitchLine). length ls) c.ask.ensures in
    let long = asked_length c.in-Some.other (Resetting c.far_reset_cause.result c.far_diagnostic.result) c.args.self.now in
    omega (arith, same, long, c.in-Some.ensures.there.0)

pub renew-requires-2 : goal.renew-requires-2
renew-requires-2 c =
    let same = ap (λ (ls : List SwitchLine). length ls) c.ask.ensures in
    let long = asked_length c.in-Some.other (Resetting c.far_reset_cause.result c.far_diagnostic.result) c.args.self.now in
    let same_too = ap (λ (ls : List SwitchLine). length ls) c.renew.ensures in
    let long_too = kept_length c.args.leg (λ v. new_direction) c.ask.new.self in
    omega (arith, same, long, same_too, long_too, c.in-Some.ensures.there.1)
