use Rattle.std.proofs.Common.{◌≡◌, ◌<◌, ◌+◌, ◌%◌, ◌∷◌, ◌++◌, [], Some, length, drop, ap, subst, ◌∙◌, arith}
use Rattle.std.specs.Prelude.{slice_set}
use Rattle.lapb.specs.Held.{Queue, contents, around, AreTaken}
use Rattle.lapb.proofs.Queues.{around_length, around_push, taken_push, packets_push}
use Rattle.lapb.proofs.queue.Queue.push.Goals as goal

pub invariant_of-self : goal.invariant_of-self
invariant_of-self c =
    let a = c.self.inside in
    let count = a.spent + a.len in
    let long = around_length a.places a.first count c.self.invariant.taken in
    let same = ap (λ (q : Queue). length q.held) c.self.view_is in
    let few : count < 7 = omega (arith, long, same, c.requires) in
    let at : (a.first + count) % 8 ≡ (a.first + a.spent + a.len) % 8 = omega arith in
    let next : count + 1 ≡ a.spent + (a.len + 1) = omega arith in
    let taken = taken_push a.places a.first count c.args.b (omega arith) (omega (arith, few)) c.self.invariant.taken in
    record {
      taken = subst (AreTaken (slice_set a.places ((a.first + a.spent + a.len) % 8) (Some c.args.b)) a.first)
          next
          (subst (λ j. AreTaken (slice_set a.places j (Some c.args.b)) a.first (count + 1)) at taken);
      first = c.self.invariant.first;
      most = omega (arith, few);
    }

pub returns : goal.returns
returns c =
    let a = c.self.inside in
    let count = a.spent + a.len in
    let long = around_length a.places a.first count c.self.invariant.taken in
    let at : (a.first + a.spent + a.len) % 8 ≡ (a.first + count) % 8 = omega arith in
    let next : a.spent + (a.len + 1) ≡ count + 1 = omega arith in
    let pushed = ap (λ j. around (slice_set a.places j (Some c.args.b)) a.first (a.spent + (a.len + 1))) at
    ∙ ap (around (slice_set a.places ((a.first + count) % 8) (Some c.args.b)) a.first) next
    ∙ around_push a.places a.first count c.args.b (omega arith) c.self.invariant.most in
    let packets = ap (λ bs. drop a.spent (contents bs)) pushed ∙
    packets_push a.spent (around a.places a.first count) c.args.b (omega (arith, long)) ∙
    ap (λ (q : Queue). q.packets ++ c.args.b.octets ∷ []) c.self.view_is in
    let held = pushed ∙ ap (λ (q : Queue). q.held ++ c.args.b ∷ []) c.self.view_is in
    λ i. record { packets = packets i; held = held i }
