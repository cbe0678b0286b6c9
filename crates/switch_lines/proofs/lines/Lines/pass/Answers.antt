use Rattle.std.proofs.Common.{ap, sym, ◌∙◌, [], ◌∷◌, false, Option}
use Rattle.data_transfer.specs.Packets.{Datum}
use Rattle.switch_joins.specs.Direction.{carried}
use Rattle.switch_joins.specs.Joins.{gathered_by}
use Rattle.switch_joins.specs.Turning.{all_made}
use Rattle.switch_lines.specs.Lines.{SwitchLine, joined_on}
use Rattle.joined_line.specs.OfLine.{kept_on}
use Rattle.switch_lines.specs.Pooled.{PooledLine}
use Rattle.switch_lines.proofs.Pooled.{one_changed, seen_within, one_seen, joins_of_one, pooled_same}
use Rattle.switch_lines.proofs.Touched.{count_kept}
use Rattle.switch_lines.proofs.Calmer.{same_layer}
use Rattle.switch_lines.proofs.Moving.{one_calm_at}
use Rattle.switch_lines.proofs.Waiting.{kept_leads}
use Rattle.switch_lines.proofs.lines.Lines.pass.Goals as goal

-- all packets are the same to the direction
abbrev any_packet : Datum
any_packet = record { octets = []; more = false; qualified = false; delivery = false }

pub returns : goal.returns
returns c d =
    let within = seen_within c.self.inside.lines.items c.args.self.now c.args.leg.line c.self.view_is c.requires.there in
    one_changed (kept_on c.args.leg.channel (carried c.args.delivery (all_made (d ∷ [])))) c.self.inside.lines.items c.args.self.now c.args.leg.line
    c.index_mut.result.now c.pass.new.self c.self.view_is within c.index_mut.ensures.value (ap (λ (p : PooledLine). p.line) (c.pass.ensures d))

pub pass-requires : goal.pass-requires
pass-requires c =
    let within = seen_within c.self.inside.lines.items c.args.self.now c.args.leg.line c.self.view_is c.requires.there in
    let seen = one_seen c.self.inside.lines.items c.args.self.now c.args.leg.line c.index_mut.result.now c.self.view_is within c.index_mut.ensures.value in
    ap (λ (o : Option SwitchLine). gathered_by (joined_on o c.args.leg.channel)) seen ∙ c.requires.nothing

pub invariant_of-self : goal.invariant_of-self
invariant_of-self c =
    let within = seen_within c.self.inside.lines.items c.args.self.now c.args.leg.line c.self.view_is c.requires.there in
    let xs = c.self.inside.lines.items in
    let n = c.args.leg.line in
    let new = c.pass.new.self in
    let old = c.index_mut.result.now in
    let channel = c.args.leg.channel in
    let f = kept_on channel (carried c.args.delivery (all_made (any_packet ∷ []))) in
    let same = c.pass.ensures any_packet in
    let seen = one_seen xs c.args.self.now n old c.self.view_is within c.index_mut.ensures.value in
    let none = ap (λ (o : Option SwitchLine). gathered_by (joined_on o channel)) seen ∙ c.requires.nothing in
    record {
      most = count_kept xs n 64 new c.self.invariant.most;
      rest = joins_of_one c.self.inside.touched c.self.inside.untaken xs n old new within
          c.index_mut.ensures.value (ap (λ (p : PooledLine). p.line.end) same) c.self.invariant.rest;
      moves = one_calm_at c.self.inside.to_relay c.self.inside.refusing f xs n old new within
          c.index_mut.ensures.value (ap (λ (p : PooledLine). p.line) same)
          (λ d. (
            kept_leads (carried c.args.delivery (all_made (any_packet ∷ []))) old.line.joined channel d
                (λ j e. sym (sym (ap gathered_by e) ∙ none)),
            same_layer old.line.end.layer d,
          ))
          c.self.invariant.moves;
      pooled = pooled_same c.self.inside.pool f xs n old new c.self.invariant.pooled within c.index_mut.ensures.value same;
    }
