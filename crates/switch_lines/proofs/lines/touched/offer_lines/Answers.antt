use Rattle.std.proofs.Common.{◌≡◌, Bool, true, false, ◌&&◌, ◌||◌, ◌==◌, List, ◌∙◌, ap, get_or, sym, refl}
use Rattle.std.specs.Prelude.{slice_get}
use Rattle.packet_end.specs.PacketEnd.{all_offered}
use Rattle.number_set.specs.NumberSet.{has}
use Rattle.switch_lines.specs.Lines.{SwitchLine}
use Rattle.switch_lines.specs.Pooled.{plain}
use Rattle.switch_lines.specs.Switch.{with_end, may_offer}
use Rattle.switch_lines.specs.Touched.{changed_in, offers_on}
use Rattle.switch_lines.proofs.Pooled.{there_in, here, plain_get, get_plain, got_again, plain_set, pooled_set, serves_got}
use Rattle.switch_lines.proofs.Touched.{line_changed, none_changed, one_offered, none_offered}
use Rattle.switch_lines.proofs.lines.touched.offer_lines.Goals as goal

-- at the beginning none took one
none_yet : (b o : Bool) → b ≡ false → (b || o) ≡ o
none_yet b o e = ap (λ (c : Bool). c || o) e

no_more : (b c : Bool) → b ≡ (b || (false && c))
no_more true c = refl
no_more false c = refl

pub loop-line-init : goal.loop-line-init
loop-line-init c = record {
  there = c.requires.there;
  offering = λ n. none_yet (has c.new-offering.result n) (has c.args.which n && offers_on (slice_get (plain c.args.lines.now) n))
      (c.new-offering.ensures n);
  lines = refl;
  pooled = c.requires.pool;
}

pub loop-line-preserved-then-offer : goal.loop-line-preserved-then-offer
loop-line-preserved-then-offer c =
    let s = c.loop-line.which in
    let rest = c.take_first.new.self in
    let n = c.in-Some.line in
    let ps = c.loop-line.lines in
    let xs = plain ps in
    let new = c.offer.new.self.line in
    let first = c.in-Some.ensures.first in
    let i = c.loop-line.invariant in
    let inside = here s rest n ps first i.there in
    let is = plain_get ps n c.index-lines-line.result c.index-lines-line.is in
    let got = get_plain ps n c.index-lines-line.result in
    let written = plain_set ps n c.offer.new.self in
    record {
      there = there_in s rest n ps c.offer.new.self first i.there;
      pooled = pooled_set c.loop-line.pool c.offer.new.pool ps n (get_or ps n c.index-lines-line.result) c.offer.new.self
          i.pooled inside (got_again ps n c.index-lines-line.result inside) c.offer.ensures.pool c.offer.ensures.claim
          c.offer.ensures.within;
      offering = λ m.
          ap (λ (ls : List SwitchLine). has c.insert.new.self m || (has rest m && offers_on (slice_get ls m))) written
          ∙ (one_offered s rest n xs c.index-lines-line.result.line new c.offer.result (has c.loop-line.offering m)
          (has c.insert.new.self m) m first i.there (c.offer.ensures.offered ∙ ap may_offer got)
          (c.insert.ensures m ∙ ap (λ (b : Bool). has c.loop-line.offering m || (b && m == n)) (sym c.if-offer.true))
          ∙ i.offering m);
      lines = ap (λ (ls : List SwitchLine). changed_in rest (with_end all_offered) 0 ls) written
          ∙ line_changed s rest n (with_end all_offered) xs c.index-lines-line.result.line new first
          (i.there n first.there) is (c.offer.ensures.line ∙ ap (with_end all_offered) got) ∙ i.lines;
    }

pub loop-line-preserved : goal.loop-line-preserved
loop-line-preserved c =
    let s = c.loop-line.which in
    let rest = c.take_first.new.self in
    let n = c.in-Some.line in
    let ps = c.loop-line.lines in
    let xs = plain ps in
    let new = c.offer.new.self.line in
    let first = c.in-Some.ensures.first in
    let i = c.loop-line.invariant in
    let inside = here s rest n ps first i.there in
    let is = plain_get ps n c.index-lines-line.result c.index-lines-line.is in
    let got = get_plain ps n c.index-lines-line.result in
    let written = plain_set ps n c.offer.new.self in
    record {
      there = there_in s rest n ps c.offer.new.self first i.there;
      pooled = pooled_set c.loop-line.pool c.offer.new.pool ps n (get_or ps n c.index-lines-line.result) c.offer.new.self
          i.pooled inside (got_again ps n c.index-lines-line.result inside) c.offer.ensures.pool c.offer.ensures.claim
          c.offer.ensures.within;
      offering = λ m.
          ap (λ (ls : List SwitchLine). has c.loop-line.offering m || (has rest m && offers_on (slice_get ls m))) written
          ∙ (one_offered s rest n xs c.index-lines-line.result.line new c.offer.result (has c.loop-line.offering m)
          (has c.loop-line.offering m) m first i.there (c.offer.ensures.offered ∙ ap may_offer got)
          (no_more (has c.loop-line.offering m) (m == n)
          ∙ ap (λ (b : Bool). has c.loop-line.offering m || (b && m == n)) (sym c.if-offer.false))
          ∙ i.offering m);
      lines = ap (λ (ls : List SwitchLine). changed_in rest (with_end all_offered) 0 ls) written
          ∙ line_changed s rest n (with_end all_offered) xs c.index-lines-line.result.line new first
          (i.there n first.there) is (c.offer.ensures.line ∙ ap (with_end all_offered) got) ∙ i.lines;
    }

pub offer-requires : goal.offer-requires
offer-requires c =
    let i = c.loop-line.invariant in
    serves_got c.loop-line.pool c.loop-line.lines c.in-Some.line c.index-lines-line.result i.pooled
    (here c.loop-line.which c.take_first.new.self c.in-Some.line c.loop-line.lines c.in-Some.ensures.first i.there)

pub returns-clause-offering : goal.returns-clause-offering
returns-clause-offering c = λ n.
    none_offered c.loop-line.which n (has c.loop-line.offering n) (offers_on (slice_get (plain c.loop-line.lines) n))
    (c.in_default.ensures.first n)
    ∙ c.loop-line.invariant.offering n

pub returns-clause-lines : goal.returns-clause-lines
returns-clause-lines c =
    sym (none_changed c.loop-line.which (with_end all_offered) 0 (plain c.loop-line.lines) c.in_default.ensures.first)
    ∙ c.loop-line.invariant.lines
