use Rattle.std.proofs.Common.{◌≤◌, ◌∙◌, refl, ap, map, length, subst, sym, arith}
use Rattle.std.specs.List.{list_any}
use Rattle.packet_end.specs.PacketEnd.{settled}
use Rattle.switch_lines.specs.Pooled.{plain, on_line, ArePooled}
use Rattle.switch_lines.specs.Switch.{with_end, may_offer, to_relink}
use Rattle.switch_lines.specs.Touched.{NothingElseIsLeft, changed_in}
use Rattle.switch_lines.proofs.Ending.{written}
use Rattle.switch_lines.proofs.Left.{Lines, none_left, settled_all, touched_change, touched_are_there, both_are_there}
use Rattle.switch_lines.proofs.Left.{in_neither, same_size, written_back}
use Rattle.switch_lines.proofs.Pooled.{Pooled, plain_changed}
use Rattle.switch_lines.specs.Waiting.{NothingElseMoves}
use Rattle.switch_lines.proofs.Calmer.{same_layer}
use Rattle.switch_lines.proofs.Waiting.{some_kept}
use Rattle.switch_lines.proofs.lines.Lines.settle.Goals as goal

pub settle_lines-requires-clause-there : goal.settle_lines-requires-clause-there
settle_lines-requires-clause-there c =
    touched_are_there c.self.inside.touched c.self.inside.untaken (plain c.self.inside.lines.items)
    (plain c.deref_mut.result.now) (ap plain c.deref_mut.ensures.value) c.self.invariant.rest

pub settle_lines-requires-clause-pool : goal.settle_lines-requires-clause-pool
settle_lines-requires-clause-pool c =
    subst (λ (zs : Pooled). ArePooled c.self.inside.pool zs) (sym c.deref_mut.ensures.value) c.self.invariant.pooled

pub invariant_of-self : goal.invariant_of-self
invariant_of-self c =
    let xs = c.self.inside.lines.items in
    let ys = c.settle_lines.new.lines in
    let s = c.self.inside.touched in
    let t = c.new-self-inside.result in
    let v = c.with-self-inside.result in
    let is = c.settle_lines.ensures.lines ∙ ap (λ (zs : Pooled). changed_in s (on_line (with_end settled)) 0 zs)
    c.deref_mut.ensures.value in
    let plain_is = ap plain is ∙ plain_changed s (with_end settled) 0 xs in
    let same = same_size s (on_line (with_end settled)) xs ys is in
    let offers = ap (λ (zs : Lines). list_any may_offer zs) c.self.view_is ∙ c.requires.offered c.if-all_offered.true in
    let relinks = ap (λ (zs : Lines). to_relink zs) c.self.view_is ∙ c.requires.relinked in
    let after = none_left s t c.self.inside.untaken v (plain xs) (plain ys) plain_is c.new-self-inside.ensures c.with-self-inside.ensures
    c.settle_lines.ensures.timers offers relinks c.self.invariant.rest in
    record {
      most = written_back (λ (zs : Pooled). length zs ≤ 64) c.self.inside.lines.len xs ys same (omega arith)
          (omega (arith, same, c.self.invariant.most));
      rest = written_back (λ (zs : Pooled). NothingElseIsLeft t v (plain zs)) c.self.inside.lines.len xs ys same (omega arith)
          after;
      moves = written_back (λ (zs : Pooled). NothingElseMoves c.self.inside.to_relay c.self.inside.refusing (plain zs)) c.self.inside.lines.len xs ys same
          (omega arith) (some_kept c.self.inside.to_relay c.self.inside.refusing s (with_end settled) (plain xs) (plain ys) plain_is
          (λ l d. (refl, same_layer l.end.layer d)) c.self.invariant.moves);
      pooled = written_back (λ (zs : Pooled). ArePooled c.settle_lines.new.pool zs) c.self.inside.lines.len xs ys same
          (omega arith) c.settle_lines.ensures.pool;
    }

pub invariant_of-self-else-all_offered : goal.invariant_of-self-else-all_offered
invariant_of-self-else-all_offered c =
    let xs = c.self.inside.lines.items in
    let ys = c.settle_lines.new.lines in
    let s = c.self.inside.touched in
    let u = c.self.inside.untaken in
    let v = c.with-self-inside.result in
    let i = c.self.invariant.rest in
    let is = c.settle_lines.ensures.lines ∙ ap (λ (zs : Pooled). changed_in s (on_line (with_end settled)) 0 zs)
    c.deref_mut.ensures.value in
    let plain_is = ap plain is ∙ plain_changed s (with_end settled) 0 xs in
    let same = same_size s (on_line (with_end settled)) xs ys is in
    let within = both_are_there u s v (plain xs) (plain xs) refl c.with-self-inside.ensures i.untaken_there i.touched_there in
    let after = touched_change s u v (with_end settled) (plain xs) (plain ys) plain_is within (in_neither u s v c.with-self-inside.ensures) i
    in
    record {
      most = written_back (λ (zs : Pooled). length zs ≤ 64) c.self.inside.lines.len xs ys same (omega arith)
          (omega (arith, same, c.self.invariant.most));
      rest = written_back (λ (zs : Pooled). NothingElseIsLeft s v (plain zs)) c.self.inside.lines.len xs ys same (omega arith)
          after;
      moves = written_back (λ (zs : Pooled). NothingElseMoves c.self.inside.to_relay c.self.inside.refusing (plain zs)) c.self.inside.lines.len xs ys same
          (omega arith) (some_kept c.self.inside.to_relay c.self.inside.refusing s (with_end settled) (plain xs) (plain ys) plain_is
          (λ l d. (refl, same_layer l.end.layer d)) c.self.invariant.moves);
      pooled = written_back (λ (zs : Pooled). ArePooled c.settle_lines.new.pool zs) c.self.inside.lines.len xs ys same
          (omega arith) c.settle_lines.ensures.pool;
    }

pub returns-then-all_offered : goal.returns-then-all_offered
returns-then-all_offered c =
    let xs = c.self.inside.lines.items in
    let ys = c.settle_lines.new.lines in
    let s = c.self.inside.touched in
    let is = c.settle_lines.ensures.lines ∙ ap (λ (zs : Pooled). changed_in s (on_line (with_end settled)) 0 zs)
    c.deref_mut.ensures.value in
    let plain_is = ap plain is ∙ plain_changed s (with_end settled) 0 xs in
    ap plain (written c.self.inside.lines.len xs ys (same_size s (on_line (with_end settled)) xs ys is) (omega arith))
    ∙ (settled_all s c.self.inside.untaken (plain xs) (plain ys) plain_is c.self.invariant.rest
    ∙ ap (λ (zs : Lines). map (with_end settled) zs) c.self.view_is)

pub returns-else-all_offered : goal.returns-else-all_offered
returns-else-all_offered c =
    let xs = c.self.inside.lines.items in
    let ys = c.settle_lines.new.lines in
    let s = c.self.inside.touched in
    let is = c.settle_lines.ensures.lines ∙ ap (λ (zs : Pooled). changed_in s (on_line (with_end settled)) 0 zs)
    c.deref_mut.ensures.value in
    let plain_is = ap plain is ∙ plain_changed s (with_end settled) 0 xs in
    ap plain (written c.self.inside.lines.len xs ys (same_size s (on_line (with_end settled)) xs ys is) (omega arith))
    ∙ (settled_all s c.self.inside.untaken (plain xs) (plain ys) plain_is c.self.invariant.rest
    ∙ ap (λ (zs : Lines). map (with_end settled) zs) c.self.view_is)
