use Rattle.std.proofs.lemmas.Grind.{common_steps}
use Rattle.std.proofs.Common.{◌≡◌, ◌∙◌, [], ◌∷◌, ◌++◌, ap, ap₂, length, map, nat_lt, true≢false, sym, arith}
use Rattle.std.proofs.lemmas.List.{map_more}
use Rattle.flow_window.specs.Pool.{Pool}
use Rattle.packet_end.proofs.Pools.{replicated}
use Rattle.switch_lines.specs.Pooled.{plain}
use Rattle.switch_lines.proofs.Changing.{there}
use Rattle.switch_lines.proofs.Left.{all_touched, few_made}
use Rattle.switch_lines.proofs.Making.{made_pooled, plain_made, pooled_made, all_taken}
use Rattle.switch_lines.proofs.Pooled.{plain_length}
use Rattle.std.proofs.Common.{List, subst}
use Rattle.switch_lines.specs.Lines.{SwitchLine}
use Rattle.switch_lines.specs.Waiting.{NothingElseMoves}
use Rattle.switch_lines.proofs.Moving.{made_moves}
use Rattle.switch_lines.proofs.lines.Lines.new.Goals as goal

pub invariant_of-result : goal.invariant_of-result
invariant_of-result c =
    let ys = c.loop-line.made.items in
    let i = c.loop-line.invariant in
    let long = plain_length ys in
    let count : c.len.result ≡ length (plain ys) = omega (arith, c.len.ensures, c.loop-line.made.ok, long) in
    let whole = i.made ∙ ap (map made_pooled) (all_taken c.args.lines.now c.loop-line.line-index (omega (arith, c.loop-line-test.false))) in
    record {
      most = few_made made_pooled c.loop-line.line-index 64 c.args.lines.now ys i.made c.requires.most;
      rest = all_touched c.first-touched.result c.new-2.result (plain ys) (λ n. c.first-touched.ensures n
          ∙ ap (λ k. nat_lt n k) count) (λ n is. absurd (true≢false (sym is ∙ c.new-2.ensures n)));
      moves = subst (λ (ls : List SwitchLine). NothingElseMoves c.new-3.result c.new-4.result ls)
          (sym (ap plain whole ∙ plain_made c.args.lines.now)) (made_moves c.new-3.result c.new-4.result c.args.lines.now);
      pooled = pooled_made c.loop-line.pool c.args.lines.now ys whole i.size (omega (arith, i.size, c.octets_for.ensures.value, c.octets_for.ensures.most)) i.places i.none;
    }

pub loop-line-init : goal.loop-line-init
loop-line-init c = record {
  made = c.new-made.ensures.items;
  size = ap (λ (x : Pool). x.size) c.in_ok-pool.ensures.map ∙ (c.from.ensures ∙ c.octets_for.ensures.value);
  places = ap (λ (x : Pool). length x.places) c.in_ok-pool.ensures.map ∙ replicated c.buffers_for.result _ ∙ c.buffers_for.ensures;
  none = c.in_ok-pool.ensures.weights;
}

pub new-requires-in-loop-line : goal.new-requires-in-loop-line
new-requires-in-loop-line c =
    (c.requires.each c.loop-line.line-index c.line-item.result
    (there c.args.lines.now c.loop-line.line-index c.line-item.result (omega arith) c.line-item.is)).params

pub loop-line-preserved : goal.loop-line-preserved
loop-line-preserved c =
    let i = c.loop-line.invariant in
    let change = c.in_ok-line.ensures.pool in
    record {
      made = c.in-Ok.ensures.items
          ∙ ap₂ (λ xs x. xs ++ x ∷ []) i.made (c.in_ok-line.ensures.line ∙ ap made_pooled c.line-item.is)
          ∙ sym (map_more made_pooled c.args.lines.now c.loop-line.line-index c.line-item.result (omega arith));
      size = change.size ∙ i.size;
      places = change.places ∙ i.places;
      none = λ w. let weights = change.weights w in let none = i.none w in omega (arith, weights, none);
    }

pub returns : goal.returns
returns c =
    ap plain (c.loop-line.invariant.made ∙ ap (map made_pooled) (all_taken c.args.lines.now c.loop-line.line-index
    (omega (arith, c.loop-line-test.false)))) ∙ plain_made c.args.lines.now

pub first-touched-requires : goal.first-touched-requires
first-touched-requires c = grind (arith, common_steps)
