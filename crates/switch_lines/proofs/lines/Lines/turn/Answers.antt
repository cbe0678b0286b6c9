use Rattle.std.proofs.lemmas.Grind.{common_steps}
use Rattle.std.proofs.Common.{◌<◌, List, length, map, set, ap, ap₂, refl, arith, ◌∙◌, Option, Bool}
use Rattle.std.specs.Prelude.{slice_get}
use Rattle.packet_channel.specs.Channel.Request.{Sending}
use Rattle.switch_joins.specs.Direction.{carried}
use Rattle.switch_joins.specs.Joins.{gathered_by, nth_joined}
use Rattle.switch_joins.specs.Turning.{Sizes, Gathered, Turn, turned}
use Rattle.switch_joins.proofs.ChannelSets.{not_of_join}
use Rattle.switch_joins.proofs.Slots.{nth_apart}
use Rattle.switch_joins.proofs.Turning.{turned_left}
use Rattle.switch_lines.specs.Lines.{Joined, SwitchLine, ask_all, joined_on, sizes_at}
use Rattle.joined_line.specs.OfLine.{asked_on, kept_on}
use Rattle.switch_lines.specs.ByPlace.{kept_at}
use Rattle.switch_lines.specs.Pooled.{PooledLine, plain}
use Rattle.switch_lines.proofs.Asking.{asks_changed, asked_joined, asked_calm}
use Rattle.switch_lines.proofs.Calmer.{same_layer}
use Rattle.switch_lines.proofs.Changing.{there}
use Rattle.switch_lines.proofs.Moving.{one_calm, one_stirred}
use Rattle.switch_lines.proofs.Onward.{all_sent}
use Rattle.switch_lines.proofs.Pooled.{one_changed, one_seen, one_touched, joins_of_one, seen_within, pooled_set, serves_one, fits_one, room_left, info_there}
use Rattle.switch_lines.proofs.Touched.{count_kept, count_written}
use Rattle.switch_lines.proofs.Waiting.{leads, kept_other}
use Rattle.switch_lines.proofs.lines.Lines.turn.Goals as goal

pub turned-turned-requires : goal.turned-turned-requires
turned-turned-requires c =
    let xs = c.self.inside.lines.items in
    c.joins-joins.ensures.held c.self.inside.pool
    (serves_one c.self.inside.pool xs c.args.leg.line c.index.result.now c.self.invariant.pooled
    (seen_within xs c.args.self.now c.args.leg.line c.self.view_is c.requires.there) c.index.ensures).holds

pub send_all-requires-clause-pool : goal.send_all-requires-clause-pool
send_all-requires-clause-pool c =
    let xs = c.self.inside.lines.items in
    serves_one c.self.inside.pool xs c.args.other.line c.index_mut.result.now c.self.invariant.pooled
    (seen_within xs c.args.self.now c.args.other.line c.self.view_is c.requires.other) c.index_mut.ensures.value

pub send_all-requires-clause-within : goal.send_all-requires-clause-within
send_all-requires-clause-within c =
    let xs = c.self.inside.lines.items in
    fits_one c.self.inside.pool xs c.args.other.line c.index_mut.result.now c.self.invariant.pooled
    (seen_within xs c.args.self.now c.args.other.line c.self.view_is c.requires.other) c.index_mut.ensures.value

pub carry-requires-clause-pool : goal.carry-requires-clause-pool
carry-requires-clause-pool c =
    let xs = c.self.inside.lines.items in
    let m = c.args.other.line in
    let n = c.args.leg.line in
    let new = c.send_all.new.self in
    let inside = seen_within xs c.args.self.now m c.self.view_is c.requires.other in
    let are = pooled_set c.self.inside.pool c.send_all.new.pool xs m c.index_mut.result.now new c.self.invariant.pooled inside
    c.index_mut.ensures.value c.send_all.ensures.pool c.send_all.ensures.claim c.send_all.ensures.within in
    let kept = count_written xs m new in
    let here : n < length (set xs m new) = omega (arith, kept, seen_within xs c.args.self.now n c.self.view_is c.requires.there) in
    serves_one c.send_all.new.pool (set xs m new) n c.index_mut-2.result.now are here c.index_mut-2.ensures.value

pub carry-requires-clause-room : goal.carry-requires-clause-room
carry-requires-clause-room c =
    let xs = c.self.inside.lines.items in
    let m = c.args.other.line in
    let n = c.args.leg.line in
    let new = c.send_all.new.self in
    let inside = seen_within xs c.args.self.now m c.self.view_is c.requires.other in
    let are = pooled_set c.self.inside.pool c.send_all.new.pool xs m c.index_mut.result.now new c.self.invariant.pooled inside
    c.index_mut.ensures.value c.send_all.ensures.pool c.send_all.ensures.claim c.send_all.ensures.within in
    let kept = count_written xs m new in
    let here : n < length (set xs m new) = omega (arith, kept, seen_within xs c.args.self.now n c.self.view_is c.requires.there) in
    room_left c.send_all.new.pool (set xs m new) n are here

pub carry-requires-clause-size : goal.carry-requires-clause-size
carry-requires-clause-size c =
    let xs = c.self.inside.lines.items in
    let m = c.args.other.line in
    let inside = seen_within xs c.args.self.now m c.self.view_is c.requires.other in
    let old = c.index_mut.result.now in
    let at = there xs m old inside c.index_mut.ensures.value in
    let fits = c.sizes_of-sizes.ensures.fits old (ap (λ (ps : List PooledLine). slice_get ps m) c.deref.ensures.value ∙ at) in
    let info = info_there c.self.inside.pool.size xs m old c.self.invariant.pooled.within at in
    let left = turned_left c.sizes_of-sizes.result (gathered_by (nth_joined c.joins-joins.result.now.joined c.args.leg.channel)) c.args.packet.now in
    let is = ap (λ (t : Turn). length t.left.octets) c.turned-turned.ensures in
    omega (arith, fits, info, left, is, c.send_all.ensures.pool.size)

pub invariant_of-self : goal.invariant_of-self
invariant_of-self c =
    let xs = c.self.inside.lines.items in
    let m = c.args.other.line in
    let n = c.args.leg.line in
    let new = c.send_all.new.self in
    let last = c.carry.new.self in
    let ys = set xs m new in
    let qs = map Sending c.turned-turned.result.made in
    let f = kept_on c.args.leg.channel (carried c.delivery.result c.turned-turned.result) in
    let inside = seen_within xs c.args.self.now m c.self.view_is c.requires.other in
    let kept = count_written xs m new in
    let here : n < length ys = omega (arith, kept, seen_within xs c.args.self.now n c.self.view_is c.requires.there) in
    record {
      most = count_kept ys n 64 last (count_kept xs m 64 new c.self.invariant.most);
      rest = joins_of_one c.insert.new.self c.self.inside.untaken ys n c.index_mut-2.result.now last here c.index_mut-2.ensures.value
          (ap (λ (l : SwitchLine). l.end) c.carry.ensures.line)
          (one_touched c.self.inside.touched c.insert.new.self c.self.inside.untaken xs m new inside c.insert.ensures c.self.invariant.rest);
      moves = one_stirred c.self.inside.to_relay c.insert_join.new.self c.self.inside.refusing f ys c.deref-2.result.now n c.args.leg.channel
          c.other_of.result c.index_mut-2.result.now last here c.index_mut-2.ensures.value c.carry.ensures.line c.deref-2.ensures.value c.other_of.ensures
          (not_of_join c.self.inside.to_relay c.insert_join.new.self c.args.leg c.other_of.result c.insert_join.ensures)
          (λ l d. kept_other (carried c.delivery.result c.turned-turned.result) l.joined c.args.leg.channel d)
          (λ l d small apart. (ap leads (nth_apart l.joined c.args.leg.channel d _ apart), same_layer l.end.layer d))
          (one_calm c.self.inside.to_relay c.self.inside.refusing (asked_on c.args.other.channel qs) xs m c.index_mut.result.now new inside
          c.index_mut.ensures.value c.send_all.ensures.line
          (λ l d. (ap (λ js. leads (nth_joined js d)) (asked_joined c.args.other.channel qs l), asked_calm c.args.other.channel qs l d (all_sent c.turned-turned.result.made)))
          c.self.invariant.moves);
      pooled = pooled_set c.send_all.new.pool c.carry.new.pool ys n c.index_mut-2.result.now last
          (pooled_set c.self.inside.pool c.send_all.new.pool xs m c.index_mut.result.now new c.self.invariant.pooled inside
          c.index_mut.ensures.value c.send_all.ensures.pool c.send_all.ensures.claim c.send_all.ensures.within)
          here c.index_mut-2.ensures.value c.carry.ensures.pool c.carry.ensures.claim c.carry.ensures.within;
    }

pub returns : goal.returns
returns c =
    let xs = c.self.inside.lines.items in
    let ls = c.args.self.now in
    let m = c.args.other.line in
    let n = c.args.leg.line in
    let new = c.send_all.new.self in
    let ys = set xs m new in
    let turn = c.turned-turned.result in
    let qs = map Sending turn.made in
    let inside = seen_within xs ls m c.self.view_is c.requires.other in
    let near = seen_within xs ls n c.self.view_is c.requires.there in
    let kept = count_written xs m new in
    let here : n < length ys = omega (arith, kept, near) in
    let sent = one_changed (asked_on c.args.other.channel qs) xs ls m c.index_mut.result.now new c.self.view_is inside c.index_mut.ensures.value c.send_all.ensures.line
    ∙ asks_changed c.args.other qs ls in
    let f = carried c.delivery.result turn in
    let seen = one_seen xs ls n c.index.result.now c.self.view_is near c.index.ensures in
    let sizes = c.sizes_of-sizes.ensures.sizes ∙ ap (λ (ps : List PooledLine). sizes_at (plain ps) c.args.leg c.args.other) c.deref.ensures.value
    ∙ ap (λ (xs : List SwitchLine). sizes_at xs c.args.leg c.args.other) c.self.view_is in
    let turns = c.turned-turned.ensures ∙ ap₂ (λ (s : Sizes) (g : Gathered). turned s g c.args.packet.now) sizes
    (ap (λ (js : List (Option Joined)). gathered_by (nth_joined js c.args.leg.channel)) c.joins-joins.ensures.joined
    ∙ ap (λ (o : Option SwitchLine). gathered_by (joined_on o c.args.leg.channel)) seen) in
    one_changed (kept_on c.args.leg.channel f) ys (plain ys) n c.index_mut-2.result.now c.carry.new.self refl here c.index_mut-2.ensures.value c.carry.ensures.line
    ∙ ap (λ (xs : List SwitchLine). kept_at c.args.leg f xs) sent
    ∙ ap₂ (λ (b : Bool) (t : Turn). kept_at c.args.leg (carried b t) (ask_all c.args.other (map Sending t.made) ls)) c.delivery.ensures turns

pub index-requires : goal.index-requires
index-requires c = grind (arith, common_steps)

pub index_mut-requires : goal.index_mut-requires
index_mut-requires c = grind (arith, common_steps)

pub index_mut-requires-2 : goal.index_mut-requires-2
index_mut-requires-2 c = grind (arith, common_steps)

pub insert-requires : goal.insert-requires
insert-requires c = grind (arith, common_steps)

pub sizes_of-sizes-requires-clause-other : goal.sizes_of-sizes-requires-clause-other
sizes_of-sizes-requires-clause-other c = grind (arith, common_steps)

pub sizes_of-sizes-requires-clause-there : goal.sizes_of-sizes-requires-clause-there
sizes_of-sizes-requires-clause-there c = grind (arith, common_steps)
