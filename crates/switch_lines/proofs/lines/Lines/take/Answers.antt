use Rattle.std.proofs.Common.{ap, ◌∙◌, refl, Option}
use Rattle.packet_channel.specs.Channel.Request.{Taking}
use Rattle.packet_end.specs.PacketEnd as end
use Rattle.switch_joins.proofs.ChannelSets.{not_of_join}
use Rattle.switch_lines.specs.Lines.{SwitchLine, front_of_line}
use Rattle.switch_lines.specs.Switch.{with_end}
use Rattle.switch_lines.proofs.Pooled.{seen_within, one_changed, one_seen, one_touched, pooled_set, serves_one}
use Rattle.switch_lines.proofs.Touched.{count_kept}
use Rattle.switch_lines.proofs.Calmer.{request_apart}
use Rattle.switch_lines.proofs.Moving.{one_stirred}
use Rattle.switch_lines.proofs.lines.Lines.take.Goals as goal

pub take-requires : goal.take-requires
take-requires c =
    let xs = c.self.inside.lines.items in
    serves_one c.self.inside.pool xs c.args.leg.line c.index_mut.result.now c.self.invariant.pooled
    (seen_within xs c.args.self.now c.args.leg.line c.self.view_is c.requires) c.index_mut.ensures.value

pub returns-clause-taken : goal.returns-clause-taken
returns-clause-taken c =
    let xs = c.self.inside.lines.items in
    let within = seen_within xs c.args.self.now c.args.leg.line c.self.view_is c.requires in
    c.take.ensures.taken
    ∙ ap (λ (o : Option SwitchLine). front_of_line o c.args.leg.channel)
    (one_seen xs c.args.self.now c.args.leg.line c.index_mut.result.now c.self.view_is within c.index_mut.ensures.value)

pub returns-clause-lines : goal.returns-clause-lines
returns-clause-lines c =
    let xs = c.self.inside.lines.items in
    let within = seen_within xs c.args.self.now c.args.leg.line c.self.view_is c.requires in
    one_changed (with_end (λ e. end.asked e c.args.leg.channel Taking)) xs c.args.self.now c.args.leg.line
    c.index_mut.result.now c.take.new.self c.self.view_is within c.index_mut.ensures.value c.take.ensures.line

pub invariant_of-self : goal.invariant_of-self
invariant_of-self c =
    let xs = c.self.inside.lines.items in
    let n = c.args.leg.line in
    let new = c.take.new.self in
    let within = seen_within xs c.args.self.now n c.self.view_is c.requires in
    record {
      most = count_kept xs n 64 new c.self.invariant.most;
      rest = one_touched c.self.inside.touched c.insert.new.self c.self.inside.untaken xs n new within c.insert.ensures c.self.invariant.rest;
      moves = one_stirred c.self.inside.to_relay c.insert_join.new.self c.self.inside.refusing
          (with_end (λ e. end.asked e c.args.leg.channel Taking)) xs c.deref.result.now
          n c.args.leg.channel c.other_of.result c.index_mut.result.now new within
          c.index_mut.ensures.value c.take.ensures.line c.deref.ensures.value c.other_of.ensures
          (not_of_join c.self.inside.to_relay c.insert_join.new.self c.args.leg c.other_of.result c.insert_join.ensures)
          (λ l d. refl)
          (λ l d small apart. (refl, request_apart l.end.layer c.args.leg.channel d Taking apart))
          c.self.invariant.moves;
      pooled = pooled_set c.self.inside.pool c.take.new.pool xs n c.index_mut.result.now new c.self.invariant.pooled within
          c.index_mut.ensures.value c.take.ensures.pool c.take.ensures.claim c.take.ensures.within;
    }
