use Rattle.std.proofs.Common.{◌∙◌, [], ◌∷◌, refl, sym, subst}
use Rattle.gateway_end.specs.EndView.{end_of}
use Rattle.gateway_end.specs.GatewayEnd.{GatewayEnd, Pass}
use Rattle.gateway_end.specs.Waiting.{waiting_in}
use Rattle.gateway_end.proofs.Giving.{none_waits, pass_asked, pass_same}
use Rattle.gateway_end.proofs.end.GatewayEnd.ask.Goals as goal

pub returns-then-is_some : goal.returns-then-is_some
returns-then-is_some c = pass_same c.args.self.now

pub returns-in-Nothing : goal.returns-in-Nothing
returns-in-Nothing c =
    let a = c.self.inside in
    let none = none_waits a.next (sym c.is_some.ensures ∙ c.if-is_some.false) in
    let after : GatewayEnd = record { line = a.line.end; calls = c.next_packet.new.calls; waiting = waiting_in a.next } in
    subst (λ (x : GatewayEnd). Pass x after) c.self.view_is
    (pass_asked (end_of a) after [] none c.in-Nothing.ensures.gives refl none)

pub returns-in-Taken : goal.returns-in-Taken
returns-in-Taken c =
    let a = c.self.inside in
    let none = none_waits a.next (sym c.is_some.ensures ∙ c.if-is_some.false) in
    let after : GatewayEnd = record { line = a.line.end; calls = c.next_packet.new.calls; waiting = waiting_in a.next } in
    subst (λ (x : GatewayEnd). Pass x after) c.self.view_is
    (pass_asked (end_of a) after [] none c.in-Taken.ensures.gives refl none)

pub returns-in-Sends : goal.returns-in-Sends
returns-in-Sends c =
    let a = c.self.inside in
    let none = none_waits a.next (sym c.is_some.ensures ∙ c.if-is_some.false) in
    let packet = c.next_packet.new.packet.items in
    let after : GatewayEnd = record { line = a.line.end; calls = c.next_packet.new.calls; waiting = packet ∷ [] } in
    subst (λ (x : GatewayEnd). Pass x after) c.self.view_is
    (pass_asked (end_of a) after (packet ∷ []) none c.in-Sends.ensures.gives refl refl)
