use Rattle.packet_layer.specs.RequestView.{request_of}
use Rattle.packet_end.specs.PacketEnd as end
use Rattle.switch_joins.proofs.ChannelSets.{not_of_join}
use Rattle.switch_lines.specs.Switch.{with_end}
use Rattle.switch_lines.proofs.Pooled.{one_changed, seen_within, one_touched, pooled_set, serves_one}
use Rattle.switch_lines.proofs.Touched.{count_kept}
use Rattle.std.proofs.Common.{refl}
use Rattle.switch_lines.proofs.Calmer.{request_apart}
use Rattle.switch_lines.proofs.Moving.{one_stirred}
use Rattle.switch_lines.proofs.lines.Lines.ask.Goals as goal

pub returns : goal.returns
returns c =
    let within = seen_within c.self.inside.lines.items c.args.self.now c.args.leg.line c.self.view_is c.requires in
    one_changed (with_end (λ e. end.asked e c.args.leg.channel (request_of c.args.request.now)))
    c.self.inside.lines.items c.args.self.now c.args.leg.line
    c.index_mut.result.now c.ask.new.self c.self.view_is within c.index_mut.ensures.value c.ask.ensures.line

pub invariant_of-self : goal.invariant_of-self
invariant_of-self c =
    let within = seen_within c.self.inside.lines.items c.args.self.now c.args.leg.line c.self.view_is c.requires in
    let xs = c.self.inside.lines.items in
    record {
      most = count_kept xs c.args.leg.line 64 c.ask.new.self c.self.invariant.most;
      rest = one_touched c.self.inside.touched c.insert.new.self c.self.inside.untaken xs c.args.leg.line
          c.ask.new.self within c.insert.ensures c.self.invariant.rest;
      moves = one_stirred c.self.inside.to_relay c.insert_join.new.self c.self.inside.refusing
          (with_end (λ e. end.asked e c.args.leg.channel (request_of c.args.request.now))) xs c.deref.result.now
          c.args.leg.line c.args.leg.channel c.other_of.result c.index_mut.result.now c.ask.new.self within
          c.index_mut.ensures.value c.ask.ensures.line c.deref.ensures.value c.other_of.ensures
          (not_of_join c.self.inside.to_relay c.insert_join.new.self c.args.leg c.other_of.result c.insert_join.ensures)
          (λ l d. refl)
          (λ l d small apart. (refl, request_apart l.end.layer c.args.leg.channel d (request_of c.args.request.now) apart))
          c.self.invariant.moves;
      pooled = pooled_set c.self.inside.pool c.ask.new.pool c.self.inside.lines.items c.args.leg.line c.index_mut.result.now c.ask.new.self
          c.self.invariant.pooled within c.index_mut.ensures.value c.ask.ensures.pool c.ask.ensures.claim
          c.ask.ensures.within;
    }

pub ask-requires : goal.ask-requires
ask-requires c =
    let within = seen_within c.self.inside.lines.items c.args.self.now c.args.leg.line c.self.view_is c.requires in
    serves_one c.self.inside.pool c.self.inside.lines.items c.args.leg.line c.index_mut.result.now c.self.invariant.pooled within
    c.index_mut.ensures.value
