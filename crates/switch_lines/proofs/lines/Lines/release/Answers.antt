use Rattle.joined_line.specs.OfLine.{freed_on}
use Rattle.switch_lines.proofs.Pooled.{one_changed, seen_within, one_touched, pooled_set, serves_one}
use Rattle.switch_lines.proofs.Touched.{count_kept}
use Rattle.switch_lines.proofs.Moving.{one_calm}
use Rattle.switch_lines.proofs.Waiting.{freed_calm}
use Rattle.switch_lines.proofs.lines.Lines.release.Goals as goal

pub returns : goal.returns
returns c =
    let within = seen_within c.self.inside.lines.items c.args.self.now c.args.leg.line c.self.view_is c.requires in
    one_changed (freed_on c.args.leg.channel) c.self.inside.lines.items c.args.self.now c.args.leg.line
    c.index_mut.result.now c.release.new.self c.self.view_is within c.index_mut.ensures.value c.release.ensures.line

pub invariant_of-self : goal.invariant_of-self
invariant_of-self c =
    let within = seen_within c.self.inside.lines.items c.args.self.now c.args.leg.line c.self.view_is c.requires in
    let xs = c.self.inside.lines.items in
    record {
      most = count_kept xs c.args.leg.line 64 c.release.new.self c.self.invariant.most;
      rest = one_touched c.self.inside.touched c.insert.new.self c.self.inside.untaken xs c.args.leg.line
          c.release.new.self within c.insert.ensures c.self.invariant.rest;
      moves = one_calm c.self.inside.to_relay c.self.inside.refusing (freed_on c.args.leg.channel) xs c.args.leg.line c.index_mut.result.now
          c.release.new.self within c.index_mut.ensures.value c.release.ensures.line
          (λ l d. freed_calm c.args.leg.channel l d) c.self.invariant.moves;
      pooled = pooled_set c.self.inside.pool c.release.new.pool c.self.inside.lines.items c.args.leg.line c.index_mut.result.now c.release.new.self
          c.self.invariant.pooled within c.index_mut.ensures.value c.release.ensures.pool c.release.ensures.claim
          c.release.ensures.within;
    }

pub release-requires : goal.release-requires
release-requires c =
    let within = seen_within c.self.inside.lines.items c.args.self.now c.args.leg.line c.self.view_is c.requires in
    serves_one c.self.inside.pool c.self.inside.lines.items c.args.leg.line c.index_mut.result.now c.self.invariant.pooled within
    c.index_mut.ensures.value
