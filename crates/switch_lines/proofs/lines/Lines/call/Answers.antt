use Rattle.std.proofs.lemmas.Grind.{common_steps, elements}
use Rattle.std.proofs.Common.{arith, ap}
use Rattle.packet_codec.specs.View.{call_view}
use Rattle.data_transfer.specs.Octets.{parts_of}
use Rattle.packet_end.specs.PacketEnd as end
use Rattle.switch_lines.specs.Switch.{with_end}
use Rattle.switch_lines.specs.Pooled.{PooledLine}
use Rattle.switch_lines.proofs.Pooled.{one_changed, none_changed, one_touched, pooled_same}
use Rattle.switch_lines.proofs.Touched.{count_kept}
use Rattle.std.proofs.Common.{refl}
use Rattle.switch_lines.proofs.Calmer.{called_calm}
use Rattle.switch_lines.proofs.Moving.{one_calm}
use Rattle.switch_lines.proofs.lines.Lines.call.Goals as goal

pub returns-clause-lines : goal.returns-clause-lines
returns-clause-lines c =
    one_changed (with_end (λ e. end.called e (parts_of (call_view c.args.call.now)))) c.self.inside.lines.items
    c.args.self.now c.args.line
    c.index_mut.result.now c.call.new.self c.self.view_is (omega arith) c.index_mut.ensures.value (ap (λ (p : PooledLine). p.line) c.call.ensures.line)

pub returns-then-line-len-clause-lines : goal.returns-then-line-len-clause-lines
returns-then-line-len-clause-lines c =
    none_changed (with_end (λ e. end.called e (parts_of (call_view c.args.call.now)))) c.self.inside.lines.items
    c.args.self.now c.args.line
    c.self.view_is (omega arith)

pub invariant_of-self : goal.invariant_of-self
invariant_of-self c =
    let xs = c.self.inside.lines.items in
    record {
      most = count_kept xs c.args.line 64 c.call.new.self c.self.invariant.most;
      rest = one_touched c.self.inside.touched c.insert.new.self c.self.inside.untaken xs c.args.line c.call.new.self
          (omega arith) c.insert.ensures c.self.invariant.rest;
      moves = one_calm c.self.inside.to_relay c.self.inside.refusing (with_end (λ e. end.called e (parts_of (call_view c.args.call.now)))) xs c.args.line
          c.index_mut.result.now c.call.new.self (omega arith) c.index_mut.ensures.value
          (ap (λ (p : PooledLine). p.line) c.call.ensures.line)
          (λ l d. (refl, called_calm l.end.layer (parts_of (call_view c.args.call.now)) d)) c.self.invariant.moves;
      pooled = pooled_same c.self.inside.pool (with_end (λ e. end.called e (parts_of (call_view c.args.call.now)))) c.self.inside.lines.items c.args.line c.index_mut.result.now c.call.new.self
          c.self.invariant.pooled (omega arith) c.index_mut.ensures.value c.call.ensures.line;
    }

pub returns-clause-answer : goal.returns-clause-answer
returns-clause-answer c = grind (arith, elements)

pub returns-clause-err : goal.returns-clause-err
returns-clause-err c = grind (arith, common_steps)

pub returns-then-line-len-clause-answer : goal.returns-then-line-len-clause-answer
returns-then-line-len-clause-answer c = grind (arith, elements)
