use Rattle.std.proofs.Common.{ap, refl}
use Rattle.switch_joins.specs.Direction.{covered_by}
use Rattle.joined_line.specs.OfLine.{kept_on}
use Rattle.switch_lines.specs.Pooled.{PooledLine}
use Rattle.switch_lines.proofs.Pooled.{one_changed, seen_within, joins_of_one, pooled_same}
use Rattle.switch_lines.proofs.Touched.{count_kept}
use Rattle.switch_lines.proofs.Calmer.{same_layer}
use Rattle.switch_lines.proofs.Moving.{one_calm}
use Rattle.switch_lines.proofs.Waiting.{kept_leads}
use Rattle.switch_lines.proofs.lines.Lines.cover.Goals as goal

pub returns : goal.returns
returns c =
    let within = seen_within c.self.inside.lines.items c.args.self.now c.args.leg.line c.self.view_is c.requires in
    one_changed (kept_on c.args.leg.channel (covered_by c.args.count)) c.self.inside.lines.items c.args.self.now c.args.leg.line
    c.index_mut.result.now c.cover.new.self c.self.view_is within c.index_mut.ensures.value (ap (λ (p : PooledLine). p.line) c.cover.ensures)

pub invariant_of-self : goal.invariant_of-self
invariant_of-self c =
    let within = seen_within c.self.inside.lines.items c.args.self.now c.args.leg.line c.self.view_is c.requires in
    let xs = c.self.inside.lines.items in
    let n = c.args.leg.line in
    let new = c.cover.new.self in
    let f = kept_on c.args.leg.channel (covered_by c.args.count) in
    record {
      most = count_kept xs n 64 new c.self.invariant.most;
      rest = joins_of_one c.self.inside.touched c.self.inside.untaken xs n c.index_mut.result.now new within
          c.index_mut.ensures.value (ap (λ (p : PooledLine). p.line.end) c.cover.ensures) c.self.invariant.rest;
      moves = one_calm c.self.inside.to_relay c.self.inside.refusing f xs n c.index_mut.result.now new within
          c.index_mut.ensures.value (ap (λ (p : PooledLine). p.line) c.cover.ensures)
          (λ l d. (kept_leads (covered_by c.args.count) l.joined c.args.leg.channel d (λ j e. refl), same_layer l.end.layer d))
          c.self.invariant.moves;
      pooled = pooled_same c.self.inside.pool f xs n c.index_mut.result.now new c.self.invariant.pooled within
          c.index_mut.ensures.value c.cover.ensures;
    }
