use Rattle.std.proofs.Common.{◌≤◌, ◌∙◌, [], ◌∷◌, true, false, subst}
use Rattle.std.specs.Prelude.{length}
use Rattle.xot_gateway.specs.declared.line.XotLine.{XotLine}
use Rattle.xot_gateway.specs.Packets.{most_packet}
use Rattle.gateway_end.specs.Gives.{Gives, nothing, pays, served}
use Rattle.gateway_end.proofs.Giving.{gives_then, pays_line}
use Rattle.gateway_end.proofs.asking.next_packet.Goals as goal

pub returns-then-next_owed-clause-gives : goal.returns-then-next_owed-clause-gives
returns-then-next_owed-clause-gives c =
    pays [] c.args.calls.now c.next_owed.new.self true c.args.packet.now.items c.next_owed.new.out.items nothing
    c.if-next_owed.ensures.calls

pub returns-in-Sends-clause-gives : goal.returns-in-Sends-clause-gives
returns-in-Sends-clause-gives c =
    let owed : Gives c.args.calls.now [] c.next_owed.new.self =
    pays [] c.args.calls.now c.next_owed.new.self false c.args.packet.now.items c.next_owed.new.out.items nothing
    c.if-next_owed.ensures.calls in
    gives_then [] (c.serve_among.new.packet.items ∷ []) c.args.calls.now c.next_owed.new.self c.serve_among.new.calls owed
    c.in-Sends.ensures.gives

pub returns-in-Taken-clause-gives : goal.returns-in-Taken-clause-gives
returns-in-Taken-clause-gives c =
    let owed : Gives c.args.calls.now [] c.next_owed.new.self =
    pays [] c.args.calls.now c.next_owed.new.self false c.args.packet.now.items c.next_owed.new.out.items nothing
    c.if-next_owed.ensures.calls in
    let first : Gives c.args.calls.now [] c.serve_among.new.calls =
    gives_then [] [] c.args.calls.now c.next_owed.new.self c.serve_among.new.calls owed c.in-Taken.ensures.gives in
    rw (c.after_taken.ensures.packet c.serve_among-in-Taken.new.packet.items)
    (gives_then [] (served c.serve_among-in-Taken.result c.serve_among-in-Taken.new.packet.items) c.args.calls.now
    c.serve_among.new.calls c.serve_among-in-Taken.new.calls first c.serve_among-in-Taken.ensures.gives)

pub returns-in-Nothing-clause-gives : goal.returns-in-Nothing-clause-gives
returns-in-Nothing-clause-gives c =
    let owed : Gives c.args.calls.now [] c.next_owed.new.self =
    pays [] c.args.calls.now c.next_owed.new.self false c.args.packet.now.items c.next_owed.new.out.items nothing
    c.if-next_owed.ensures.calls in
    let first : Gives c.args.calls.now [] c.serve_among.new.calls =
    gives_then [] [] c.args.calls.now c.next_owed.new.self c.serve_among.new.calls owed c.in-Nothing.ensures.gives in
    gives_then [] (served c.serve_among-in-Nothing.result c.serve_among-in-Nothing.new.packet.items) c.args.calls.now
    c.serve_among.new.calls c.serve_among-in-Nothing.new.calls first c.serve_among-in-Nothing.ensures.gives

pub returns-in-Sends-clause-line : goal.returns-in-Sends-clause-line
returns-in-Sends-clause-line c =
    c.in-Sends.ensures.line
    ∙ pays_line false c.args.packet.now.items c.next_owed.new.out.items c.args.calls.now c.next_owed.new.self
    c.if-next_owed.ensures.calls

pub returns-in-Sends-clause-fits : goal.returns-in-Sends-clause-fits
returns-in-Sends-clause-fits c = λ is.
    subst (λ (line : XotLine). length c.serve_among.new.packet.items ≤ most_packet line)
    (pays_line false c.args.packet.now.items c.next_owed.new.out.items c.args.calls.now c.next_owed.new.self
    c.if-next_owed.ensures.calls)
    (c.in-Sends.ensures.fits is)

pub returns-in-Taken-clause-fits : goal.returns-in-Taken-clause-fits
returns-in-Taken-clause-fits c = λ is.
    subst (λ (line : XotLine). length c.serve_among-in-Taken.new.packet.items ≤ most_packet line)
    (c.in-Taken.ensures.line
    ∙ pays_line false c.args.packet.now.items c.next_owed.new.out.items c.args.calls.now c.next_owed.new.self
    c.if-next_owed.ensures.calls)
    (c.serve_among-in-Taken.ensures.fits (c.after_taken.ensures.sends is))

pub returns-in-Nothing-clause-fits : goal.returns-in-Nothing-clause-fits
returns-in-Nothing-clause-fits c = λ is.
    subst (λ (line : XotLine). length c.serve_among-in-Nothing.new.packet.items ≤ most_packet line)
    (c.in-Nothing.ensures.line
    ∙ pays_line false c.args.packet.now.items c.next_owed.new.out.items c.args.calls.now c.next_owed.new.self
    c.if-next_owed.ensures.calls)
    (c.serve_among-in-Nothing.ensures.fits is)
