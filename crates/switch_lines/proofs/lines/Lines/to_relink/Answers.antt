use Rattle.std.proofs.Common.{◌≡◌, ◌∙◌, ap, sym, subst, arith, length, get_or}
use Rattle.packet_layer.specs.Layer.{Layer}
use Rattle.packet_end.specs.PacketEnd.{PacketEnd}
use Rattle.switch_lines.specs.Lines.{SwitchLine}
use Rattle.switch_lines.specs.Pooled.{plain}
use Rattle.switch_lines.specs.Switch.{to_relink}
use Rattle.switch_lines.specs.Touched.{AreThere}
use Rattle.switch_lines.proofs.Left.{Lines, relink_of_all}
use Rattle.switch_lines.proofs.Pooled.{plain_get, plain_length}
use Rattle.switch_lines.proofs.Touched.{first_to_relink, there_still, asks, asks_not, none_asking}
use Rattle.switch_lines.proofs.lines.Lines.to_relink.Goals as goal

pub loop-line-init : goal.loop-line-init
loop-line-init c =
    let s = c.self.inside.touched in
    record {
      there = subst (λ (ls : Lines). AreThere s ls) c.self.view_is c.self.invariant.rest.touched_there;
      first = subst (λ (ls : Lines). first_to_relink s 0 ls ≡ to_relink ls) c.self.view_is
          (relink_of_all s c.self.inside.untaken (plain c.self.inside.lines.items) c.self.invariant.rest);
    }

pub index-requires : goal.index-requires
index-requires c =
    let within = c.loop-line.invariant.there c.in-Some.line c.in-Some.ensures.first.there in
    let seen = ap (λ (ls : Lines). length ls) c.self.view_is in
    let long = plain_length c.self.inside.lines.items in
    omega (arith, within, seen, long)

pub returns-then-must_relink : goal.returns-then-must_relink
returns-then-must_relink c =
    let asks_it = c.must_relink.ensures ∙ ap (λ (l : Layer). l.relink) c.deref-in-Some.ensures
    ∙ ap (λ (e : PacketEnd). e.layer.relink) c.deref.ensures.end
    ∙ ap (λ (x : SwitchLine). x.end.layer.relink)
    (plain_get c.self.inside.lines.items c.in-Some.line c.index.result.now c.index.ensures)
    ∙ ap (λ (ls : Lines). (get_or ls c.in-Some.line c.index.result.now.line).end.layer.relink) c.self.view_is in
    sym (asks c.loop-line.which c.take_first.new.self c.in-Some.line c.args.self.now c.index.result.now.line
    c.must_relink.result c.in-Some.ensures.first c.loop-line.invariant.there asks_it c.if-must_relink.true)
    ∙ c.loop-line.invariant.first

pub loop-line-preserved : goal.loop-line-preserved
loop-line-preserved c =
    let first = c.in-Some.ensures.first in
    let asks_it = c.must_relink.ensures ∙ ap (λ (l : Layer). l.relink) c.deref-in-Some.ensures
    ∙ ap (λ (e : PacketEnd). e.layer.relink) c.deref.ensures.end
    ∙ ap (λ (x : SwitchLine). x.end.layer.relink)
    (plain_get c.self.inside.lines.items c.in-Some.line c.index.result.now c.index.ensures)
    ∙ ap (λ (ls : Lines). (get_or ls c.in-Some.line c.index.result.now.line).end.layer.relink) c.self.view_is in
    record {
      there = there_still c.loop-line.which c.take_first.new.self c.in-Some.line c.args.self.now first
          c.loop-line.invariant.there;
      first = asks_not c.loop-line.which c.take_first.new.self c.in-Some.line c.args.self.now c.index.result.now.line
          c.must_relink.result first c.loop-line.invariant.there asks_it c.if-must_relink.false
          ∙ c.loop-line.invariant.first;
    }

pub returns : goal.returns
returns c = sym (none_asking c.loop-line.which 0 c.args.self.now c.in_default.ensures.first)
    ∙ c.loop-line.invariant.first
