use Rattle.std.proofs.Common.{ap}
use Rattle.switch_joins.specs.Direction.{new_direction}
use Rattle.switch_joins.proofs.ChannelSets.{not_of_join}
use Rattle.switch_joins.proofs.Slots.{nth_apart}
use Rattle.switch_lines.specs.Lines.{SwitchLine}
use Rattle.joined_line.specs.OfLine.{kept_on}
use Rattle.switch_lines.proofs.Pooled.{one_changed, seen_within, joins_of_one, pooled_set, serves_one}
use Rattle.switch_lines.proofs.Touched.{count_kept}
use Rattle.switch_lines.proofs.Calmer.{same_layer}
use Rattle.switch_lines.proofs.Moving.{one_stirred}
use Rattle.switch_lines.proofs.Waiting.{leads, kept_other}
use Rattle.switch_lines.proofs.lines.Lines.renew.Goals as goal

pub returns : goal.returns
returns c =
    let within = seen_within c.self.inside.lines.items c.args.self.now c.args.leg.line c.self.view_is c.requires in
    one_changed (kept_on c.args.leg.channel (λ v. new_direction)) c.self.inside.lines.items c.args.self.now c.args.leg.line
    c.index_mut.result.now c.renew.new.self c.self.view_is within c.index_mut.ensures.value c.renew.ensures.line

pub invariant_of-self : goal.invariant_of-self
invariant_of-self c =
    let within = seen_within c.self.inside.lines.items c.args.self.now c.args.leg.line c.self.view_is c.requires in
    let xs = c.self.inside.lines.items in
    let n = c.args.leg.line in
    let new = c.renew.new.self in
    record {
      most = count_kept xs n 64 new c.self.invariant.most;
      rest = joins_of_one c.self.inside.touched c.self.inside.untaken xs n c.index_mut.result.now new within
          c.index_mut.ensures.value (ap (λ (l : SwitchLine). l.end) c.renew.ensures.line) c.self.invariant.rest;
      moves = one_stirred c.self.inside.to_relay c.insert_join.new.self c.self.inside.refusing
          (kept_on c.args.leg.channel (λ v. new_direction)) xs c.deref.result.now n c.args.leg.channel c.other_of.result
          c.index_mut.result.now new within c.index_mut.ensures.value c.renew.ensures.line c.deref.ensures.value c.other_of.ensures
          (not_of_join c.self.inside.to_relay c.insert_join.new.self c.args.leg c.other_of.result c.insert_join.ensures)
          (λ l d. kept_other (λ v. new_direction) l.joined c.args.leg.channel d)
          (λ l d small apart. (ap leads (nth_apart l.joined c.args.leg.channel d _ apart), same_layer l.end.layer d))
          c.self.invariant.moves;
      pooled = pooled_set c.self.inside.pool c.renew.new.pool xs n c.index_mut.result.now new c.self.invariant.pooled within
          c.index_mut.ensures.value c.renew.ensures.pool c.renew.ensures.claim c.renew.ensures.within;
    }

pub renew-requires : goal.renew-requires
renew-requires c =
    let within = seen_within c.self.inside.lines.items c.args.self.now c.args.leg.line c.self.view_is c.requires in
    serves_one c.self.inside.pool c.self.inside.lines.items c.args.leg.line c.index_mut.result.now c.self.invariant.pooled within
    c.index_mut.ensures.value
