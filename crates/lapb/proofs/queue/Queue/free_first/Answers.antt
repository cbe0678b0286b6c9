use Rattle.std.proofs.Common.{◌≡◌, ◌≤◌, ◌<◌, ◌+◌, ◌-◌, ◌%◌, Some, None, Option, length, drop, ap, subst, ◌∙◌, sym, arith}
use Rattle.std.specs.Prelude.{slice_get, slice_set}
use Rattle.flow_window.specs.Pool.{Pool, Buffer}
use Rattle.flow_window.proofs.Weights.{held_in}
use Rattle.lapb.specs.Held.{Queue, contents, around, AreTaken}
use Rattle.lapb.specs.declared.queue.Queue.TheInside.{Inside}
use Rattle.lapb.specs.QueueView.{IsQueue, queue_of}
use Rattle.lapb.proofs.Queues.{around_length, packets_length, around_get, around_freed, taken_freed, packets_freed, first_weight}
use Rattle.lapb.proofs.queue.Queue.free_first.Goals as goal

-- a packet was given up
given_up : (a : Inside) (q : Queue) → IsQueue a → queue_of a ≡ q → length q.packets < length q.held → 1 ≤ a.spent
given_up a q is view fewer =
    let long = around_length a.places a.first (a.spent + a.len) is.taken in
    let packets = packets_length a.spent a.places a.first (a.spent + a.len) is.taken in
    let one = ap (λ (q : Queue). length q.packets) view in
    let other = ap (λ (q : Queue). length q.held) view in
    omega (arith, long, packets, one, other, fewer)

-- the first buffer
first_is : (a : Inside) (b : Buffer) (o : Option Buffer) → IsQueue a → 1 ≤ a.spent → slice_get a.places a.first ≡ Some o →
    o ≡ Some b → slice_get (around a.places a.first (a.spent + a.len)) 0 ≡ Some b
first_is a b o is some read same =
    let at : (a.first + 0) % 8 ≡ a.first = omega (arith, is.first) in
    around_get a.places a.first (a.spent + a.len) 0 b is.taken (omega (arith, some))
    (ap (slice_get a.places) at ∙ read ∙ ap (λ (o : Option Buffer). Some o) same)

pub free-requires : goal.free-requires
free-requires c =
    let a = c.self.inside in
    let some = given_up a c.args.self.now c.self.invariant c.self.view_is c.requires.spent in
    let first = first_is a c.in-Some.b _ c.self.invariant some c.take.ensures.value c.in-Some.is in
    held_in c.args.pool.now c.args.self.now.held 0 c.in-Some.b c.requires.holds
    (ap (λ (q : Queue). slice_get q.held 0) (sym c.self.view_is) ∙ first)

pub invariant_of-self : goal.invariant_of-self
invariant_of-self c =
    let a = c.self.inside in
    let some = given_up a c.args.self.now c.self.invariant c.self.view_is c.requires.spent in
    let less : a.spent + a.len - 1 ≡ a.spent - 1 + a.len = omega (arith, some) in
    record {
      taken = rw c.take.ensures.places (subst (AreTaken (slice_set a.places a.first None) ((a.first + 1) % 8)) less
          (taken_freed a.places a.first (a.spent + a.len) c.self.invariant.first
          c.self.invariant.most (omega (arith, some)) c.self.invariant.taken));
      first = omega arith;
      most = omega (arith, c.self.invariant.most);
    }

pub returns-clause-queue : goal.returns-clause-queue
returns-clause-queue c =
    let a = c.self.inside in
    let some = given_up a c.args.self.now c.self.invariant c.self.view_is c.requires.spent in
    let freed = around_freed a.places a.first (a.spent + a.len) c.self.invariant.first c.self.invariant.most
    (omega (arith, some)) c.self.invariant.taken in
    let less : a.spent - 1 + a.len ≡ a.spent + a.len - 1 = omega (arith, some) in
    let held = ap (λ places. around places ((a.first + 1) % 8) (a.spent - 1 + a.len)) c.take.ensures.places
    ∙ ap (around (slice_set a.places a.first None) ((a.first + 1) % 8)) less ∙ freed in
    let packets = ap (λ bs. drop (a.spent - 1) (contents bs)) held ∙
    packets_freed a.spent (around a.places a.first (a.spent + a.len)) some in
    (λ i. record { packets = packets i; held = held i })
    ∙ ap (λ (q : Queue). record { packets = q.packets; held = drop 1 q.held }) c.self.view_is

pub returns-clause-pool : goal.returns-clause-pool
returns-clause-pool c =
    let a = c.self.inside in
    let some = given_up a c.args.self.now c.self.invariant c.self.view_is c.requires.spent in
    let first = first_is a c.in-Some.b _ c.self.invariant some c.take.ensures.value c.in-Some.is in
    let freed = around_freed a.places a.first (a.spent + a.len) c.self.invariant.first c.self.invariant.most
    (omega (arith, some)) c.self.invariant.taken in
    let less : a.spent - 1 + a.len ≡ a.spent + a.len - 1 = omega (arith, some) in
    let held = ap (λ places. around places ((a.first + 1) % 8) (a.spent - 1 + a.len)) c.take.ensures.places
    ∙ ap (around (slice_set a.places a.first None) ((a.first + 1) % 8)) less ∙ freed in
    rw (held, ← c.self.view_is) (record {
      size = ap (λ (p : Pool). p.size) c.free.ensures.map;
      places = c.free.ensures.size;
      weights = λ w.
          let freed = c.free.ensures.weights w in
          let front = first_weight w (around a.places a.first (a.spent + a.len)) c.in-Some.b first in
          omega (arith, freed, front);
    })
