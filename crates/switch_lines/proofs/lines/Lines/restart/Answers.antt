use Rattle.std.proofs.Common.{◌≡◌, ◌≤◌, ◌∙◌, ap, length, map, nat_lt, subst, sym, arith}
use Rattle.switch_lines.specs.Pooled.{plain, ArePooled}
use Rattle.switch_lines.specs.Switch.{without_joins}
use Rattle.switch_lines.specs.Touched.{AreThere, NothingElseIsLeft}
use Rattle.switch_lines.proofs.Ending.{written}
use Rattle.switch_lines.proofs.Left.{Lines, all_touched, count_map, written_back}
use Rattle.switch_lines.proofs.Pooled.{Pooled, plain_length, same_lines}
use Rattle.switch_lines.specs.Waiting.{NothingElseMoves}
use Rattle.switch_lines.proofs.Moving.{restarted_moves}
use Rattle.switch_lines.proofs.lines.Lines.restart.Goals as goal

pub restart_lines-requires : goal.restart_lines-requires
restart_lines-requires c =
    subst (λ (zs : Pooled). ArePooled c.self.inside.pool zs) (sym c.deref_mut.ensures.value) c.self.invariant.pooled

pub invariant_of-self : goal.invariant_of-self
invariant_of-self c =
    let xs = c.self.inside.lines.items in
    let ys = c.restart_lines.new.lines in
    let is = c.restart_lines.ensures.lines ∙ ap (λ (zs : Pooled). map without_joins (plain zs)) c.deref_mut.ensures.value in
    let same : length ys ≡ length xs =
    same_lines xs ys (ap (λ (zs : Lines). length zs) is ∙ count_map without_joins (plain xs)) in
    let long = plain_length ys in
    let before = plain_length xs in
    let count : c.len.result ≡ length (plain ys) = omega (arith, same, long, c.len.ensures) in
    let untaken : AreThere c.self.inside.untaken (plain ys) = λ n is. let within = c.self.invariant.rest.untaken_there n is in
    omega (arith, same, long, before, within) in
    let after = all_touched c.first-self-inside.result c.self.inside.untaken (plain ys) (λ n. c.first-self-inside.ensures n
    ∙ ap (λ k. nat_lt n k) count) untaken in
    record {
      most = written_back (λ (zs : Pooled). length zs ≤ 64) c.self.inside.lines.len xs ys same (omega arith)
          (omega (arith, same, c.self.invariant.most));
      rest = written_back (λ (zs : Pooled). NothingElseIsLeft c.first-self-inside.result c.self.inside.untaken (plain zs))
          c.self.inside.lines.len xs ys same (omega arith) after;
      moves = written_back (λ (zs : Pooled). NothingElseMoves c.self.inside.to_relay c.self.inside.refusing (plain zs)) c.self.inside.lines.len xs ys same
          (omega arith) (subst (λ (zs : Lines). NothingElseMoves c.self.inside.to_relay c.self.inside.refusing zs) (sym is) (restarted_moves c.self.inside.to_relay c.self.inside.refusing (plain xs)));
      pooled = written_back (λ (zs : Pooled). ArePooled c.restart_lines.new.pool zs) c.self.inside.lines.len xs ys same
          (omega arith) c.restart_lines.ensures.pool;
    }

pub returns : goal.returns
returns c =
    let xs = c.self.inside.lines.items in
    let ys = c.restart_lines.new.lines in
    let is = c.restart_lines.ensures.lines ∙ ap (λ (zs : Pooled). map without_joins (plain zs)) c.deref_mut.ensures.value in
    let same = same_lines xs ys (ap (λ (zs : Lines). length zs) is ∙ count_map without_joins (plain xs)) in
    ap plain (written c.self.inside.lines.len xs ys same (omega arith))
    ∙ is ∙ ap (λ (zs : Lines). map without_joins zs) c.self.view_is
