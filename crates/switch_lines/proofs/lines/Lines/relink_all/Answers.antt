use Rattle.std.proofs.Common.{◌≡◌, ◌-◌, ◌+◌, ◌++◌, ◌∷◌, [], ◌∙◌, ap, sym, subst, arith, length, List, ℕ}
use Rattle.packet_end.specs.PacketEnd.{relinked}
use Rattle.switch_lines.specs.Lines.{SwitchLine}
use Rattle.switch_lines.specs.ByPlace.{AreRead}
use Rattle.switch_lines.specs.Switch.{all_relinked, relinks_of, to_relink}
use Rattle.switch_lines.proofs.Heeding.{acted_read}
use Rattle.switch_lines.proofs.Ending.{relinks_no_more, relinks_one, first_there, listed_one, listed_no_more}
use Rattle.switch_lines.proofs.Ending.{listed_all}
use Rattle.switch_lines.proofs.Pooled.{plain_length}
use Rattle.switch_lines.proofs.lines.Lines.relink_all.Goals as goal

pub loop-init : goal.loop-init
loop-init c =
    let same : length c.self.inside.lines.items ≡ length c.args.self.now =
    sym (plain_length c.self.inside.lines.items) ∙ ap (λ (ls : List SwitchLine). length ls) c.self.view_is in
    let whole : c.len-end.result - 0 ≡ c.len-end.result = omega arith in
    record {
      end = omega (arith, same, c.len-end.ensures);
      most = omega (arith, same, c.len-end.ensures, c.self.invariant.most);
      left = ap (λ (n : ℕ). all_relinked n c.args.routes.now c.args.self.now) whole;
      read = c.requires.read;
      room = omega (arith, c.requires.room);
      list = ap (λ (n : ℕ). c.args.concerned.now.items ++ relinks_of n (to_relink c.args.self.now) c.args.routes.now
          c.args.self.now) whole;
    }

pub loop-preserved : goal.loop-preserved
loop-preserved c =
    let routes = c.args.routes.now in
    record {
      end = c.loop.invariant.end;
      most = c.loop.invariant.most;
      left = ap (λ (ls : List SwitchLine). all_relinked (c.len-end.result - (c.loop.counter + 1)) routes ls)
          c.relink.ensures
          ∙ relinks_one c.len-end.result c.loop.counter routes c.loop.self c.in-Some.line c.loop-test.true
          c.in-Some.ensures
          ∙ c.loop.invariant.left;
      read = subst (λ (ls : List SwitchLine). AreRead ls) (sym c.relink.ensures)
          (acted_read routes c.in-Some.line relinked c.loop.self c.loop.invariant.read);
      room = omega (arith, c.loop.invariant.room, c.push.ensures.len);
      list = ap (λ (ns : List ℕ). ns ++ relinks_of (c.len-end.result - (c.loop.counter + 1))
          (to_relink c.relink.new.self) routes c.relink.new.self) c.push.ensures.items
          ∙ ap (λ (ls : List SwitchLine). (c.loop.concerned.items ++ c.in-Some.line ∷ []) ++ relinks_of
          (c.len-end.result - (c.loop.counter + 1)) (to_relink ls) routes ls) c.relink.ensures
          ∙ listed_one c.len-end.result c.loop.counter routes c.loop.self c.in-Some.line c.loop.concerned.items
          c.loop-test.true c.in-Some.ensures
          ∙ c.loop.invariant.list;
    }

pub push-requires : goal.push-requires
push-requires c = omega (arith, c.loop.invariant.room, c.loop.invariant.most, c.loop-test.true)

pub relink-requires : goal.relink-requires
relink-requires c = record {
  there = first_there c.loop.self c.in-Some.line c.in-Some.ensures;
  read = c.loop.invariant.read;
}

pub returns-in_default-clause-lines : goal.returns-in_default-clause-lines
returns-in_default-clause-lines c =
    relinks_no_more (c.len-end.result - c.loop.counter) c.args.routes.now c.loop.self (sym c.in_default.ensures)
    ∙ c.loop.invariant.left ∙ ap (λ (n : ℕ). all_relinked n c.args.routes.now c.args.self.now) c.loop.invariant.end

pub returns-in_default-clause-concerned : goal.returns-in_default-clause-concerned
returns-in_default-clause-concerned c =
    listed_no_more (c.len-end.result - c.loop.counter) c.args.routes.now c.loop.self c.loop.concerned.items
    (sym c.in_default.ensures)
    ∙ c.loop.invariant.list
    ∙ ap (λ (n : ℕ). c.args.concerned.now.items ++ relinks_of n (to_relink c.args.self.now) c.args.routes.now
    c.args.self.now) c.loop.invariant.end

pub returns-clause-lines : goal.returns-clause-lines
returns-clause-lines c =
    let over : c.len-end.result - c.loop.counter ≡ 0 = omega (arith, c.loop-test.false) in
    ap (λ (n : ℕ). all_relinked n c.args.routes.now c.loop.self) (sym over)
    ∙ c.loop.invariant.left ∙ ap (λ (n : ℕ). all_relinked n c.args.routes.now c.args.self.now) c.loop.invariant.end

pub returns-clause-concerned : goal.returns-clause-concerned
returns-clause-concerned c =
    listed_all (c.len-end.result - c.loop.counter) c.args.routes.now c.loop.self c.loop.concerned.items
    (omega (arith, c.loop-test.false))
    ∙ c.loop.invariant.list
    ∙ ap (λ (n : ℕ). c.args.concerned.now.items ++ relinks_of n (to_relink c.args.self.now) c.args.routes.now
    c.args.self.now) c.loop.invariant.end
