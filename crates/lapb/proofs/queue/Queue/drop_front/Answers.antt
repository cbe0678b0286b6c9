use Rattle.std.proofs.Common.{◌≡◌, ℕ, ◌≤◌, ◌+◌, ◌-◌, length, drop, ap, subst, ◌∙◌, sym, arith}
use Rattle.std.proofs.lemmas.List.{drop-drop}
use Rattle.lapb.specs.Held.{Queue, contents, around, AreTaken}
use Rattle.lapb.specs.declared.queue.Queue.TheInside.{Inside}
use Rattle.lapb.specs.QueueView.{IsQueue, queue_of}
use Rattle.lapb.proofs.Queues.{packets_length}
use Rattle.lapb.proofs.queue.Queue.drop_front.Goals as goal

-- there are that many packets
within : (a : Inside) (q : Queue) (count : ℕ) → IsQueue a → queue_of a ≡ q → count ≤ length q.packets → count ≤ a.len
within a q count is view few =
    let long = packets_length a.spent a.places a.first (a.spent + a.len) is.taken in
    let same = ap (λ (q : Queue). length q.packets) view in
    omega (arith, long, same, few)

pub overflow_sub-self : goal.overflow_sub-self
overflow_sub-self c =
    let few = within c.self.inside c.args.self.now c.args.count c.self.invariant c.self.view_is c.requires in
    omega (arith, few, c.from-count.ensures)

pub invariant_of-self : goal.invariant_of-self
invariant_of-self c =
    let a = c.self.inside in
    let few = within a c.args.self.now c.args.count c.self.invariant c.self.view_is c.requires in
    let all : a.spent + a.len ≡ a.spent + c.from-count.result + (a.len - c.from-count.result) =
    omega (arith, few, c.from-count.ensures) in
    record {
      taken = subst (AreTaken a.places a.first) all c.self.invariant.taken;
      first = c.self.invariant.first;
      most = omega (arith, few, c.from-count.ensures, c.self.invariant.most);
    }

pub returns : goal.returns
returns c =
    let a = c.self.inside in
    let few = within a c.args.self.now c.args.count c.self.invariant c.self.view_is c.requires in
    let all : a.spent + c.from-count.result + (a.len - c.from-count.result) ≡ a.spent + a.len =
    omega (arith, few, c.from-count.ensures) in
    let held = ap (around a.places a.first) all in
    let packets = ap (λ bs. drop (a.spent + c.from-count.result) (contents bs)) held
    ∙ ap (λ n. drop (a.spent + n) (contents (around a.places a.first (a.spent + a.len)))) c.from-count.ensures
    ∙ sym (drop-drop c.args.count a.spent (contents (around a.places a.first (a.spent + a.len)))) in
    (λ i. record { packets = packets i; held = held i })
    ∙ ap (λ (q : Queue). record { packets = drop c.args.count q.packets; held = q.held }) c.self.view_is
