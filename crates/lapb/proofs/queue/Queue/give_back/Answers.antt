use Rattle.std.proofs.Common.{◌+◌, length, drop, ap, ◌∙◌, arith, length-drop}
use Rattle.flow_window.proofs.Weights.{balances_then}
use Rattle.lapb.specs.Held.{Queue}
use Rattle.lapb.proofs.Queues.{around_length, packets_length, drop_more}
use Rattle.lapb.proofs.queue.Queue.give_back.Goals as goal

pub free_first-requires-clause-spent : goal.free_first-requires-clause-spent
free_first-requires-clause-spent c =
    let a = c.self.inside in
    let long = around_length a.places a.first (a.spent + a.len) c.self.invariant.taken in
    let packets = packets_length a.spent a.places a.first (a.spent + a.len) c.self.invariant.taken in
    let one = ap (λ (q : Queue). length q.packets) c.self.view_is in
    let other = ap (λ (q : Queue). length q.held) c.self.view_is in
    let same = ap (λ (q : Queue). length q.packets) c.loop.invariant.queue in
    let less = ap (λ (q : Queue). length q.held) c.loop.invariant.queue in
    let dropped = length-drop c.loop.counter c.args.self.now.held in
    omega (arith, long, packets, one, other, same, less, dropped, c.loop-test.true)

pub loop-preserved : goal.loop-preserved
loop-preserved c = record {
  queue = c.free_first.ensures.queue
      ∙ ap (λ (q : Queue). record { packets = q.packets; held = drop 1 q.held }) c.loop.invariant.queue
      ∙ ap (λ bs. record { packets = c.args.self.now.packets; held = bs }) (drop_more c.loop.counter
      c.args.self.now.held);
  pool = balances_then c.args.pool.now c.loop.pool c.free_first.new.pool c.args.self.now.held c.loop.self.held
      c.free_first.new.self.held c.loop.invariant.pool c.free_first.ensures.pool;
}
