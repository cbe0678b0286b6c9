use Rattle.std.proofs.Common.{◌≤◌, ◌∙◌, ap, map, length, arith}
use Rattle.packet_end.specs.PacketEnd.{begun}
use Rattle.switch_lines.specs.Pooled.{plain, on_line, ArePooled}
use Rattle.switch_lines.specs.Switch.{with_end}
use Rattle.switch_lines.specs.Touched.{NothingElseIsLeft, changed_in}
use Rattle.switch_lines.proofs.Ending.{written}
use Rattle.switch_lines.proofs.Left.{Lines, begun_all, both_are_there, same_size, written_back}
use Rattle.switch_lines.proofs.Pooled.{Pooled, plain_changed, pooled_changed}
use Rattle.std.proofs.Common.{refl}
use Rattle.switch_lines.specs.Waiting.{NothingElseMoves}
use Rattle.switch_lines.proofs.Calmer.{same_layer}
use Rattle.switch_lines.proofs.Waiting.{some_kept}
use Rattle.switch_lines.proofs.lines.Lines.begin.Goals as goal

pub begin_lines-requires : goal.begin_lines-requires
begin_lines-requires c =
    let i = c.self.invariant.rest in
    both_are_there c.self.inside.touched c.self.inside.untaken c.with.result (plain c.self.inside.lines.items)
    (plain c.deref_mut.result.now) (ap plain c.deref_mut.ensures.value) c.with.ensures i.touched_there i.untaken_there

pub invariant_of-self : goal.invariant_of-self
invariant_of-self c =
    let xs = c.self.inside.lines.items in
    let ys = c.begin_lines.new.lines in
    let s = c.self.inside.touched in
    let v = c.new-self-inside.result in
    let w = c.with.result in
    let is = c.begin_lines.ensures ∙ ap (λ (zs : Pooled). changed_in w (on_line (with_end begun)) 0 zs)
    c.deref_mut.ensures.value in
    let plain_is = ap plain is ∙ plain_changed w (with_end begun) 0 xs in
    let same = same_size w (on_line (with_end begun)) xs ys is in
    let after = begun_all s c.self.inside.untaken v w (plain xs) (plain ys) c.with.ensures c.new-self-inside.ensures plain_is
    c.self.invariant.rest in
    record {
      most = written_back (λ (zs : Pooled). length zs ≤ 64) c.self.inside.lines.len xs ys same (omega arith)
          (omega (arith, same, c.self.invariant.most));
      rest = written_back (λ (zs : Pooled). NothingElseIsLeft s v (plain zs)) c.self.inside.lines.len xs ys same (omega arith)
          after.1;
      moves = written_back (λ (zs : Pooled). NothingElseMoves c.self.inside.to_relay c.self.inside.refusing (plain zs)) c.self.inside.lines.len xs ys same
          (omega arith) (some_kept c.self.inside.to_relay c.self.inside.refusing w (with_end begun) (plain xs) (plain ys) plain_is
          (λ l d. (refl, same_layer l.end.layer d)) c.self.invariant.moves);
      pooled = written_back (λ (zs : Pooled). ArePooled c.self.inside.pool zs) c.self.inside.lines.len xs ys same (omega arith)
          (pooled_changed c.self.inside.pool w (with_end begun) xs ys is c.self.invariant.pooled);
    }

pub returns : goal.returns
returns c =
    let xs = c.self.inside.lines.items in
    let ys = c.begin_lines.new.lines in
    let w = c.with.result in
    let is = c.begin_lines.ensures ∙ ap (λ (zs : Pooled). changed_in w (on_line (with_end begun)) 0 zs)
    c.deref_mut.ensures.value in
    let plain_is = ap plain is ∙ plain_changed w (with_end begun) 0 xs in
    let after = begun_all c.self.inside.touched c.self.inside.untaken c.new-self-inside.result w (plain xs) (plain ys)
    c.with.ensures c.new-self-inside.ensures plain_is c.self.invariant.rest in
    ap plain (written c.self.inside.lines.len xs ys (same_size w (on_line (with_end begun)) xs ys is) (omega arith))
    ∙ (after.0 ∙ ap (λ (zs : Lines). map (with_end begun) zs) c.self.view_is)
