use Rattle.std.proofs.Common.{ap, sym, subst, arith, ◌∙◌, List, length, Option, Some}
use Rattle.packet_channel.specs.Channel.Request.{Taking}
use Rattle.data_transfer.specs.TakenView.{taken_of}
use Rattle.data_transfer.specs.Traffic.{Taken as TakenValue}
use Rattle.switch_lines.specs.Lines.{SwitchLine}
use Rattle.switch_lines.specs.ByPlace.{MovesFront}
use Rattle.switch_lines.proofs.Places.{asked_length}
use Rattle.switch_lines.proofs.Relaying.{turned_on}
use Rattle.switch_lines.proofs.lines.Lines.move_turned.Goals as goal

pub turn-requires-clause-there : goal.turn-requires-clause-there
turn-requires-clause-there c =
    let same = ap (λ (ls : List SwitchLine). length ls) c.take.ensures.lines in
    let long = asked_length c.args.leg Taking c.args.self.now in
    omega (arith, same, long, c.requires.there)

pub turn-requires-clause-other : goal.turn-requires-clause-other
turn-requires-clause-other c =
    let same = ap (λ (ls : List SwitchLine). length ls) c.take.ensures.lines in
    let long = asked_length c.args.leg Taking c.args.self.now in
    omega (arith, same, long, c.requires.other)

pub ask-requires : goal.ask-requires
ask-requires c =
    let same = ap (λ (ls : List SwitchLine). length ls) c.take.ensures.lines in
    let long = asked_length c.args.leg Taking c.args.self.now in
    omega (arith, same, long, c.requires.other)

pub returns-in-Some-Data : goal.returns-in-Some-Data
returns-in-Some-Data c =
    let front = ap (λ x. Some (taken_of x)) (sym c.in-Some-Data.field-0-is) ∙ c.in-Some-Data.ensures.taken in
    subst (λ (o : Option TakenValue). MovesFront o c.args.leg c.args.other c.args.self.now c.turn.new.self) front (
      c.turn.ensures ∙ turned_on c.in-Some-Data.packet c.args.self.now c.take.new.self c.args.leg c.args.other c.in-Some-Data.ensures.lines,
      tt,
    )
