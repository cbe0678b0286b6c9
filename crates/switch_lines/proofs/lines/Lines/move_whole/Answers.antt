use Rattle.std.proofs.lemmas.Grind.{common_steps}
use Rattle.std.proofs.Common.{◌≤◌, ◌<◌, ◌∙◌, ℕ, Bool, [], ◌∷◌, ap, ap₂, length, set, List, Option, Some, refl, sym, subst, arith}
use Rattle.std.specs.Prelude.{◌+◌}
use Rattle.flow_window.specs.Pool.{weight}
use Rattle.data_transfer.specs.Held.{datum_in}
use Rattle.packet_channel.specs.Channel.Request.{Taking, Sending, Interrupting}
use Rattle.data_transfer.specs.TakenView.{taken_in, buffers_in}
use Rattle.data_transfer.specs.Traffic.{Taken as TakenValue}
use Rattle.packet_end.specs.PacketEnd.{asked}
use Rattle.switch_joins.specs.Direction.{carried}
use Rattle.switch_joins.proofs.ChannelSets.{not_of_join}
use Rattle.switch_joins.specs.Joins.{gathered_by}
use Rattle.switch_joins.specs.Turning.{all_made}
use Rattle.switch_lines.specs.Lines.{SwitchLine, ask, front_of_line, joined_at}
use Rattle.switch_lines.specs.ByPlace.{MovesFront, kept_at}
use Rattle.switch_lines.specs.Pooled.{plain}
use Rattle.switch_lines.specs.Switch.{with_end}
use Rattle.switch_lines.proofs.Pooled.{one_changed, one_seen, one_touched, seen_within, within_plain, handed_out, handed_in, none_in_hand, is_in_hand}
use Rattle.switch_lines.proofs.Touched.{count_kept, count_written}
use Rattle.switch_lines.specs.Waiting.{other_at}
use Rattle.switch_lines.proofs.Calmer.{request_apart, onward_calm}
use Rattle.switch_lines.proofs.Onward.{sends}
use Rattle.switch_lines.proofs.Places.{joined_asked}
use Rattle.switch_lines.proofs.Relaying.{whole_on}
use Rattle.switch_lines.proofs.Moving.{one_stirred, one_calm}
use Rattle.switch_lines.proofs.lines.Lines.move_whole.Goals as goal

pub invariant_of-self : goal.invariant_of-self
invariant_of-self c =
    let xs = c.self.inside.lines.items in
    let within = seen_within xs c.args.self.now c.args.leg.line c.self.view_is c.requires.there in
    let n = c.args.leg.line in
    let new = c.take_buf.new.self in
    record {
      most = count_kept xs n 64 new c.self.invariant.most;
      rest = one_touched c.self.inside.touched c.insert.new.self c.self.inside.untaken xs n new within c.insert.ensures
          c.self.invariant.rest;
      moves = one_stirred c.self.inside.to_relay c.insert_join.new.self c.self.inside.refusing
          (with_end (λ e. asked e c.args.leg.channel Taking)) xs xs n c.args.leg.channel (Some c.args.other)
          c.index_mut.result.now new within c.index_mut.ensures.value c.take_buf.ensures.line refl
          (sym c.requires.joined ∙ ap (λ (ls : List SwitchLine). other_at ls c.args.leg) (sym c.self.view_is))
          (not_of_join c.self.inside.to_relay c.insert_join.new.self c.args.leg (Some c.args.other) c.insert_join.ensures)
          (λ l d. refl)
          (λ l d small apart. (refl, request_apart l.end.layer c.args.leg.channel d Taking apart)) c.self.invariant.moves;
      pooled = none_in_hand c.self.inside.pool _ (handed_out c.self.inside.pool xs n c.index_mut.result.now new []
          c.self.invariant.pooled within c.index_mut.ensures.value
          (λ w. c.in-Some-Interrupt.ensures.held w
          ∙ ap (λ x. weight w new.held + weight w (buffers_in x)) c.in-Some-Interrupt.field-0-is)
          c.take_buf.ensures.claim c.take_buf.ensures.within);
    }

pub invariant_of-self-in-None : goal.invariant_of-self-in-None
invariant_of-self-in-None c =
    let xs = c.self.inside.lines.items in
    let within = seen_within xs c.args.self.now c.args.leg.line c.self.view_is c.requires.there in
    let n = c.args.leg.line in
    let new = c.take_buf.new.self in
    record {
      most = count_kept xs n 64 new c.self.invariant.most;
      rest = one_touched c.self.inside.touched c.insert.new.self c.self.inside.untaken xs n new within c.insert.ensures
          c.self.invariant.rest;
      moves = one_stirred c.self.inside.to_relay c.insert_join.new.self c.self.inside.refusing
          (with_end (λ e. asked e c.args.leg.channel Taking)) xs xs n c.args.leg.channel (Some c.args.other)
          c.index_mut.result.now new within c.index_mut.ensures.value c.take_buf.ensures.line refl
          (sym c.requires.joined ∙ ap (λ (ls : List SwitchLine). other_at ls c.args.leg) (sym c.self.view_is))
          (not_of_join c.self.inside.to_relay c.insert_join.new.self c.args.leg (Some c.args.other) c.insert_join.ensures)
          (λ l d. refl)
          (λ l d small apart. (refl, request_apart l.end.layer c.args.leg.channel d Taking apart)) c.self.invariant.moves;
      pooled = none_in_hand c.self.inside.pool _ (handed_out c.self.inside.pool xs n c.index_mut.result.now new []
          c.self.invariant.pooled within c.index_mut.ensures.value c.in-None.ensures.held
          c.take_buf.ensures.claim c.take_buf.ensures.within);
    }

pub send_packet-requires : goal.send_packet-requires
send_packet-requires c =
    let xs = c.self.inside.lines.items in
    let within = seen_within xs c.args.self.now c.args.leg.line c.self.view_is c.requires.there in
    let new = c.take_buf.new.self in
    is_in_hand c.self.inside.pool _ c.in-Some-Data.packet.buffer
    (handed_out c.self.inside.pool xs c.args.leg.line c.index_mut.result.now new (c.in-Some-Data.packet.buffer ∷ [])
    c.self.invariant.pooled within c.index_mut.ensures.value
    (λ w. c.in-Some-Data.ensures.held w
    ∙ ap (λ x. weight w new.held + weight w (buffers_in x)) c.in-Some-Data.field-0-is)
    c.take_buf.ensures.claim c.take_buf.ensures.within)

pub invariant_of-self-in-Some-Data : goal.invariant_of-self-in-Some-Data
invariant_of-self-in-Some-Data c =
    let xs = c.self.inside.lines.items in
    let within = seen_within xs c.args.self.now c.args.leg.line c.self.view_is c.requires.there in
    let n = c.args.leg.line in
    let m = c.args.other.line in
    let new = c.take_buf.new.self in
    let ys = set xs n new in
    let kept = count_written xs n new in
    let inside : c.args.other.line < length ys = omega (arith, kept, seen_within xs c.args.self.now c.args.other.line c.self.view_is c.requires.other) in
    record {
      most = count_kept ys m 64 c.send_packet.new.self (count_kept xs n 64 new c.self.invariant.most);
      rest = one_touched c.insert.new.self c.insert-in-Some-Data.new.self c.self.inside.untaken ys m c.send_packet.new.self inside
          c.insert-in-Some-Data.ensures
          (one_touched c.self.inside.touched c.insert.new.self c.self.inside.untaken xs n new within c.insert.ensures
          c.self.invariant.rest);
      moves = one_calm c.insert_join.new.self c.self.inside.refusing
          (with_end (λ e. asked e c.args.other.channel (Sending (datum_in c.in-Some-Data.packet)))) ys m
          c.index_mut-in-Some-Data.result.now c.send_packet.new.self inside c.index_mut-in-Some-Data.ensures.value
          c.send_packet.ensures.line
          (λ l d. (refl, onward_calm l.end.layer c.args.other.channel d (Sending (datum_in c.in-Some-Data.packet)) (sends (datum_in c.in-Some-Data.packet))))
          (one_stirred c.self.inside.to_relay c.insert_join.new.self c.self.inside.refusing
          (with_end (λ e. asked e c.args.leg.channel Taking)) xs xs n c.args.leg.channel (Some c.args.other)
          c.index_mut.result.now new within c.index_mut.ensures.value c.take_buf.ensures.line refl
          (sym c.requires.joined ∙ ap (λ (ls : List SwitchLine). other_at ls c.args.leg) (sym c.self.view_is))
          (not_of_join c.self.inside.to_relay c.insert_join.new.self c.args.leg (Some c.args.other) c.insert_join.ensures)
          (λ l d. refl)
          (λ l d small apart. (refl, request_apart l.end.layer c.args.leg.channel d Taking apart)) c.self.invariant.moves);
      pooled = handed_in c.self.inside.pool c.send_packet.new.pool ys m c.index_mut-in-Some-Data.result.now
          c.send_packet.new.self c.in-Some-Data.packet.buffer
          (handed_out c.self.inside.pool xs n c.index_mut.result.now new (c.in-Some-Data.packet.buffer ∷ [])
          c.self.invariant.pooled within c.index_mut.ensures.value
          (λ w. c.in-Some-Data.ensures.held w
          ∙ ap (λ x. weight w new.held + weight w (buffers_in x)) c.in-Some-Data.field-0-is)
          c.take_buf.ensures.claim c.take_buf.ensures.within)
          inside c.index_mut-in-Some-Data.ensures.value c.send_packet.ensures.pool c.send_packet.ensures.claim
          c.send_packet.ensures.within;
    }

pub returns-in-None : goal.returns-in-None
returns-in-None c =
    let xs = c.self.inside.lines.items in
    let within = seen_within xs c.args.self.now c.args.leg.line c.self.view_is c.requires.there in
    let n = c.args.leg.line in
    let seen = one_seen xs c.args.self.now n c.index_mut.result.now c.self.view_is within c.index_mut.ensures.value in
    let none = c.in-None.ensures.taken ∙ ap (λ (o : Option SwitchLine). front_of_line o c.args.leg.channel) seen in
    subst (λ (o : Option TakenValue). MovesFront o c.args.leg c.args.other c.args.self.now (plain (set xs n c.take_buf.new.self)))
    none tt

pub returns-in-Some-Interrupt : goal.returns-in-Some-Interrupt
returns-in-Some-Interrupt c =
    let xs = c.self.inside.lines.items in
    let within = seen_within xs c.args.self.now c.args.leg.line c.self.view_is c.requires.there in
    let n = c.args.leg.line in
    let q = c.args.other in
    let new = c.take_buf.new.self in
    let seen = one_seen xs c.args.self.now n c.index_mut.result.now c.self.view_is within c.index_mut.ensures.value in
    let taken = one_changed (with_end (λ e. asked e c.args.leg.channel Taking)) xs c.args.self.now n c.index_mut.result.now
    new c.self.view_is within c.index_mut.ensures.value c.take_buf.ensures.line in
    let i = c.in-Some-Interrupt.interrupt in
    let front = ap (λ x. Some (taken_in x)) (sym c.in-Some-Interrupt.field-0-is) ∙ c.in-Some-Interrupt.ensures.taken
    ∙ ap (λ (o : Option SwitchLine). front_of_line o c.args.leg.channel) seen in
    let asked_there = c.ask.ensures
    ∙ ap (λ (o : List ℕ). ask q (Interrupting o) (plain (set xs n new))) c.octets.ensures.value
    ∙ ap (λ (ls : List SwitchLine). ask q (Interrupting i) ls) taken in
    subst (λ (o : Option TakenValue). MovesFront o c.args.leg q c.args.self.now c.ask.new.self) front (
      asked_there,
      subst (λ (o : List ℕ). (1 ≤ length o) × (length o ≤ 32)) c.octets.ensures.value
          (c.octets.ensures.least, c.octets.ensures.most),
    )

pub returns-in-Some-Data : goal.returns-in-Some-Data
returns-in-Some-Data c =
    let xs = c.self.inside.lines.items in
    let within = seen_within xs c.args.self.now c.args.leg.line c.self.view_is c.requires.there in
    let n = c.args.leg.line in
    let q = c.args.other in
    let new = c.take_buf.new.self in
    let seen = one_seen xs c.args.self.now n c.index_mut.result.now c.self.view_is within c.index_mut.ensures.value in
    let taken = one_changed (with_end (λ e. asked e c.args.leg.channel Taking)) xs c.args.self.now n c.index_mut.result.now
    new c.self.view_is within c.index_mut.ensures.value c.take_buf.ensures.line in
    let p = c.in-Some-Data.packet in
    let d = datum_in p in
    let ys = set xs n new in
    let kept = count_written xs n new in
    let inside : c.args.other.line < length ys = omega (arith, kept, seen_within xs c.args.self.now c.args.other.line c.self.view_is c.requires.other) in
    let front = ap (λ x. Some (taken_in x)) (sym c.in-Some-Data.field-0-is) ∙ c.in-Some-Data.ensures.taken
    ∙ ap (λ (o : Option SwitchLine). front_of_line o c.args.leg.channel) seen in
    let sent = one_changed (with_end (λ e. asked e q.channel (Sending d))) ys (plain ys) q.line
    c.index_mut-in-Some-Data.result.now c.send_packet.new.self refl inside c.index_mut-in-Some-Data.ensures.value
    c.send_packet.ensures.line in
    let carried_on = c.pass.ensures d
    ∙ ap₂ (λ (b : Bool) (ls : List SwitchLine). kept_at c.args.leg (carried b (all_made (d ∷ []))) ls) c.delivery-delivery.ensures
    (sent ∙ ap (λ (ls : List SwitchLine). ask q (Sending d) ls) taken) in
    subst (λ (o : Option TakenValue). MovesFront o c.args.leg q c.args.self.now c.pass.new.self) front
    (carried_on ∙ whole_on d c.args.self.now c.args.leg q c.requires.whole c.requires.nothing, tt)

pub ask-requires : goal.ask-requires
ask-requires c =
    let xs = c.self.inside.lines.items in
    let n = c.args.leg.line in
    let m = c.args.other.line in
    let new = c.take_buf.new.self in
    let kept = count_written xs n new in
    within_plain (set xs n new) m (omega (arith, kept, seen_within xs c.args.self.now m c.self.view_is c.requires.other))

pub pass-requires-clause-there : goal.pass-requires-clause-there
pass-requires-clause-there c =
    let xs = c.self.inside.lines.items in
    let n = c.args.leg.line in
    let m = c.args.other.line in
    let ys = set xs n c.take_buf.new.self in
    let kept = count_written xs n c.take_buf.new.self in
    let kept_too = count_written ys m c.send_packet.new.self in
    within_plain (set ys m c.send_packet.new.self) n (omega (arith, kept, kept_too, seen_within xs c.args.self.now n c.self.view_is c.requires.there))

pub pass-requires-clause-nothing : goal.pass-requires-clause-nothing
pass-requires-clause-nothing c =
    let xs = c.self.inside.lines.items in
    let within = seen_within xs c.args.self.now c.args.leg.line c.self.view_is c.requires.there in
    let n = c.args.leg.line in
    let q = c.args.other in
    let new = c.take_buf.new.self in
    let taken = one_changed (with_end (λ e. asked e c.args.leg.channel Taking)) xs c.args.self.now n c.index_mut.result.now
    new c.self.view_is within c.index_mut.ensures.value c.take_buf.ensures.line in
    let d = datum_in c.in-Some-Data.packet in
    let ys = set xs n new in
    let kept = count_written xs n new in
    let inside : c.args.other.line < length ys = omega (arith, kept, seen_within xs c.args.self.now c.args.other.line c.self.view_is c.requires.other) in
    let sent = one_changed (with_end (λ e. asked e q.channel (Sending d))) ys (plain ys) q.line
    c.index_mut-in-Some-Data.result.now c.send_packet.new.self refl inside c.index_mut-in-Some-Data.ensures.value
    c.send_packet.ensures.line in
    ap (λ (ls : List SwitchLine). gathered_by (joined_at ls c.args.leg)) (sent ∙ ap (λ (ls : List SwitchLine). ask q (Sending d) ls) taken)
    ∙ ap gathered_by (joined_asked q (Sending d) c.args.leg (ask c.args.leg Taking c.args.self.now) ∙ joined_asked c.args.leg Taking c.args.leg c.args.self.now)
    ∙ c.requires.nothing

pub index_mut-requires : goal.index_mut-requires
index_mut-requires c = grind (arith, common_steps)

pub index_mut-requires-in-Some-Data : goal.index_mut-requires-in-Some-Data
index_mut-requires-in-Some-Data c = grind (arith, common_steps)

pub insert-requires-in-Some-Data : goal.insert-requires-in-Some-Data
insert-requires-in-Some-Data c = grind (arith, common_steps)
