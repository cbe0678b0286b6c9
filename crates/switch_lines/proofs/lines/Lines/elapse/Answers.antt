-- One line more.
use Rattle.std.proofs.Common.{◌≡◌, ◌≤◌, ◌∙◌, ap, map, length, subst, sym, arith}
use Rattle.std.proofs.lemmas.List.Edits.{map_over_more}
use Rattle.packet_end.specs.PacketEnd.{elapsed}
use Rattle.switch_lines.specs.Lines.{SwitchLine}
use Rattle.switch_lines.specs.Pooled.{plain, on_line, ArePooled}
use Rattle.switch_lines.specs.Switch.{with_end}
use Rattle.switch_lines.specs.Touched.{NothingElseIsLeft}
use Rattle.switch_lines.proofs.Ending.{all_changed, written}
use Rattle.switch_lines.proofs.Settling.{settled_later}
use Rattle.switch_lines.proofs.Left.{Lines, all_stay, count_map, written_back}
use Rattle.switch_lines.proofs.Pooled.{Pooled, plain_map, pooled_map, same_lines}
use Rattle.std.proofs.Common.{refl}
use Rattle.switch_lines.specs.Waiting.{NothingElseMoves}
use Rattle.switch_lines.proofs.Calmer.{same_layer}
use Rattle.switch_lines.proofs.Waiting.{all_kept}
use Rattle.switch_lines.proofs.lines.Lines.elapse.Goals as goal

pub loop-line-preserved : goal.loop-line-preserved
loop-line-preserved c =
    rw (c.elapse.ensures, ← c.line-item.is)
    (map_over_more (on_line (with_end (λ e. elapsed e c.args.ticks))) c.deref_mut-line-items.result.now
    c.loop-line.line-items c.loop-line.line-index
    c.line-item.result (omega arith) c.loop-line.invariant c.line-item.is)

pub invariant_of-self : goal.invariant_of-self
invariant_of-self c =
    let xs = c.self.inside.lines.items in
    let ys = c.loop-line.line-items in
    let f : SwitchLine → SwitchLine = with_end (λ e. elapsed e c.args.ticks) in
    let is : ys ≡ map (on_line f) xs = all_changed (on_line f) c.loop-line.line-index c.deref_mut-line-items.result.now ys
    c.loop-line-test.false c.loop-line.invariant ∙ ap (λ (zs : Pooled). map (on_line f) zs)
    c.deref_mut-line-items.ensures.value in
    let plain_is : plain ys ≡ map f (plain xs) = ap plain is ∙ plain_map f xs in
    let same : length ys ≡ length xs = same_lines xs ys (ap (λ (zs : Lines). length zs) plain_is ∙ count_map f (plain xs)) in
    let after = all_stay c.self.inside.touched c.self.inside.untaken (plain xs) f (λ l h. settled_later c.args.ticks l h)
    (λ l h. record { frames = h.frames; notes = h.notes }) c.self.invariant.rest in
    record {
      most = written_back (λ (zs : Pooled). length zs ≤ 64) c.self.inside.lines.len xs ys same (omega arith)
          (omega (arith, same, c.self.invariant.most));
      rest = written_back (λ (zs : Pooled). NothingElseIsLeft c.self.inside.touched c.self.inside.untaken (plain zs))
          c.self.inside.lines.len xs ys same (omega arith)
          (subst (λ (zs : Lines). NothingElseIsLeft c.self.inside.touched c.self.inside.untaken zs) (sym plain_is) after);
      moves = written_back (λ (zs : Pooled). NothingElseMoves c.self.inside.to_relay c.self.inside.refusing (plain zs)) c.self.inside.lines.len xs ys same
          (omega arith) (all_kept c.self.inside.to_relay c.self.inside.refusing f (plain xs) (plain ys) plain_is (λ l d. (refl, same_layer l.end.layer d))
          c.self.invariant.moves);
      pooled = written_back (λ (zs : Pooled). ArePooled c.self.inside.pool zs) c.self.inside.lines.len xs ys same
          (omega arith) (pooled_map c.self.inside.pool f xs ys is c.self.invariant.pooled);
    }

pub returns : goal.returns
returns c =
    let xs = c.self.inside.lines.items in
    let ys = c.loop-line.line-items in
    let f : SwitchLine → SwitchLine = with_end (λ e. elapsed e c.args.ticks) in
    let is : ys ≡ map (on_line f) xs = all_changed (on_line f) c.loop-line.line-index c.deref_mut-line-items.result.now ys
    c.loop-line-test.false c.loop-line.invariant ∙ ap (λ (zs : Pooled). map (on_line f) zs)
    c.deref_mut-line-items.ensures.value in
    let plain_is : plain ys ≡ map f (plain xs) = ap plain is ∙ plain_map f xs in
    let same : length ys ≡ length xs = same_lines xs ys (ap (λ (zs : Lines). length zs) plain_is ∙ count_map f (plain xs)) in
    ap plain (written c.self.inside.lines.len xs ys same (omega arith))
    ∙ (plain_is ∙ ap (λ (zs : Lines). map f zs) c.self.view_is)
