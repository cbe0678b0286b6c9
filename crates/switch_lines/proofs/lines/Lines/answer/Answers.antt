use Rattle.std.proofs.Common.{ap, arith, length, List}
use Rattle.packet_codec.specs.View.{call_view}
use Rattle.data_transfer.specs.Octets.{parts_of}
use Rattle.switch_lines.specs.Lines.{SwitchLine}
use Rattle.switch_lines.specs.Switch.{forwarded}
use Rattle.switch_lines.proofs.Places.{placed_length}
use Rattle.switch_lines.proofs.Heeding.{answer_there}
use Rattle.switch_lines.proofs.lines.Lines.answer.Goals as goal

pub join-requires-clause-caller : goal.join-requires-clause-caller
join-requires-clause-caller c =
    let same = ap (λ (ls : List SwitchLine). length ls) c.in-Ok.ensures.ok in
    let parts = parts_of (call_view c.args.call.now) in
    let long = placed_length c.in-Ok.other.line (forwarded c.args.self.now c.args.leg.line parts) c.args.self.now in
    omega (arith, same, long, c.requires.there)

pub join-requires-clause-callee : goal.join-requires-clause-callee
join-requires-clause-callee c =
    let same = ap (λ (ls : List SwitchLine). length ls) c.in-Ok.ensures.ok in
    let parts = parts_of (call_view c.args.call.now) in
    let long = placed_length c.in-Ok.other.line (forwarded c.args.self.now c.args.leg.line parts) c.args.self.now in
    omega (arith, same, long, answer_there c.args.routes.now c.args.leg.line parts c.args.self.now c.in-Ok.other c.in-Ok.ensures.answer)

pub ask-requires : goal.ask-requires
ask-requires c =
    let same = ap (λ (ls : List SwitchLine). length ls) c.in-Err.ensures.err in
    omega (arith, same, c.requires.there)
