use Rattle.std.proofs.Common.{◌∙◌, ap, arith, List, Option, set}
use Rattle.packet_end.specs.PacketEnd as end
use Rattle.switch_joins.proofs.ChannelSets.{not_of_join}
use Rattle.switch_lines.specs.Lines.{SwitchLine}
use Rattle.std.specs.Prelude.{slice_get}
use Rattle.switch_lines.specs.NewJoins.{joins_heeded}
use Rattle.switch_lines.specs.Switch.{notes_heeded, notes_of, with_end, quieted}
use Rattle.switch_lines.proofs.Pooled.{one_changed, one_seen, one_touched, seen_within, within_plain, pooled_set, serves_one}
use Rattle.switch_lines.proofs.Touched.{count_kept, count_written}
use Rattle.std.proofs.Common.{refl}
use Rattle.switch_lines.proofs.Calmer.{received_calm}
use Rattle.switch_lines.proofs.Moving.{one_stirred}
use Rattle.switch_lines.proofs.lines.Lines.on_frame.Goals as goal

pub returns-clause-lines : goal.returns-clause-lines
returns-clause-lines c =
    let within = seen_within c.self.inside.lines.items c.args.self.now c.args.line c.self.view_is c.requires.there in
    c.heed_line.ensures.lines
    ∙ ap (λ (ls : List SwitchLine). notes_heeded c.args.routes.now c.args.line ls)
    (one_changed (with_end (λ e. end.received (quieted e) c.args.octets.now)) c.self.inside.lines.items
    c.args.self.now c.args.line c.index_mut.result.now
    c.on_frame.new.self c.self.view_is within c.index_mut.ensures.value c.on_frame.ensures.line)

pub returns-clause-join : goal.returns-clause-join
returns-clause-join c =
    let within = seen_within c.self.inside.lines.items c.args.self.now c.args.line c.self.view_is c.requires.there in
    c.heed_line.ensures.join
    ∙ ap (λ (ls : List SwitchLine). slice_get (joins_heeded c.args.routes.now c.args.line ls) 0)
    (one_changed (with_end (λ e. end.received (quieted e) c.args.octets.now)) c.self.inside.lines.items
    c.args.self.now c.args.line c.index_mut.result.now
    c.on_frame.new.self c.self.view_is within c.index_mut.ensures.value c.on_frame.ensures.line)

pub invariant_of-self : goal.invariant_of-self
invariant_of-self c =
    let within = seen_within c.self.inside.lines.items c.args.self.now c.args.line c.self.view_is c.requires.there in
    let xs = c.self.inside.lines.items in
    record {
      most = count_kept xs c.args.line 64 c.on_frame.new.self c.self.invariant.most;
      rest = one_touched c.self.inside.touched c.insert.new.self c.self.inside.untaken xs c.args.line
          c.on_frame.new.self within c.insert.ensures c.self.invariant.rest;
      moves = one_stirred c.self.inside.to_relay c.insert_join.new.self c.self.inside.refusing
          (with_end (λ e. end.received (quieted e) c.args.octets.now)) xs c.deref.result.now
          c.args.line c.named_in-channel.result c.other_of.result c.index_mut.result.now c.on_frame.new.self
          within
          c.index_mut.ensures.value c.on_frame.ensures.line c.deref.ensures.value c.other_of.ensures
          (not_of_join c.self.inside.to_relay c.insert_join.new.self (record { line = c.args.line; channel = c.named_in-channel.result })
          c.other_of.result c.insert_join.ensures)
          (λ l d. refl)
          (λ l d small apart. (
            refl,
            received_calm l.end c.args.octets.now d (λ i. omega (arith, c.type_inv.octets i))
                (λ named. apart (c.named_in-channel.ensures d named small)),
          ))
          c.self.invariant.moves;
      pooled = pooled_set c.self.inside.pool c.on_frame.new.pool c.self.inside.lines.items c.args.line c.index_mut.result.now c.on_frame.new.self
          c.self.invariant.pooled within c.index_mut.ensures.value c.on_frame.ensures.pool c.on_frame.ensures.claim
          c.on_frame.ensures.within;
    }

pub on_frame-requires-clause-pool : goal.on_frame-requires-clause-pool
on_frame-requires-clause-pool c =
    let within = seen_within c.self.inside.lines.items c.args.self.now c.args.line c.self.view_is c.requires.there in
    serves_one c.self.inside.pool c.self.inside.lines.items c.args.line c.index_mut.result.now c.self.invariant.pooled within
    c.index_mut.ensures.value

pub on_frame-requires-clause-read : goal.on_frame-requires-clause-read
on_frame-requires-clause-read c =
    let within = seen_within c.self.inside.lines.items c.args.self.now c.args.line c.self.view_is c.requires.there in
    ap (λ (o : Option SwitchLine). notes_of o)
    (one_seen c.self.inside.lines.items c.args.self.now c.args.line c.index_mut.result.now c.self.view_is
    within c.index_mut.ensures.value)
    ∙ c.requires.read c.args.line

pub heed_line-requires : goal.heed_line-requires
heed_line-requires c =
    let xs = c.self.inside.lines.items in
    let new = c.on_frame.new.self in
    let kept = count_written xs c.args.line new in
    within_plain (set xs c.args.line new) c.args.line (omega (arith, kept, seen_within xs c.args.self.now c.args.line c.self.view_is c.requires.there))
