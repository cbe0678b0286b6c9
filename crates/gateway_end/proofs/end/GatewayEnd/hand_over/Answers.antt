use Rattle.std.proofs.Common.{◌∙◌, [], ap, sym, subst}
use Rattle.lapb.specs.Machine.{Octets, can_offer}
use Rattle.line_end.specs.End.{End, offered}
use Rattle.gateway_end.specs.EndView.{end_of}
use Rattle.gateway_end.specs.GatewayEnd.{GatewayEnd, Pass}
use Rattle.gateway_end.specs.Waiting.{waiting_in}
use Rattle.gateway_end.proofs.Giving.{pass_packet, pass_same}
use Rattle.gateway_end.proofs.Owned.{room}
use Rattle.gateway_end.proofs.end.GatewayEnd.hand_over.Goals as goal

pub returns-in_default-clause-pass : goal.returns-in_default-clause-pass
returns-in_default-clause-pass c = pass_same c.args.self.now

pub returns-then-not-can_offer-clause-pass : goal.returns-then-not-can_offer-clause-pass
returns-then-not-can_offer-clause-pass c = pass_same c.args.self.now

pub offer-requires-clause-room : goal.offer-requires-clause-room
offer-requires-clause-room c = room c.self.inside c.self.invariant

pub returns-clause-pass : goal.returns-clause-pass
returns-clause-pass c =
    let a = c.self.inside in
    let may = ap can_offer (sym c.deref.ensures.link) ∙ sym c.can_offer.ensures ∙ c.if-not-can_offer.false in
    let line = c.offer.ensures.end ∙ ap (λ (packet : Octets). offered a.line.end packet) c.as_slice.ensures.value in
    subst (λ (x : GatewayEnd). Pass x (record { line = c.offer.new.self.end; calls = a.calls; waiting = [] })) c.self.view_is
    (subst (λ (e : End). Pass (end_of a) (record { line = e; calls = a.calls; waiting = [] })) (sym line)
    (pass_packet (end_of a) c.in-Some.packet.items (ap waiting_in c.in-Some.is) may))
