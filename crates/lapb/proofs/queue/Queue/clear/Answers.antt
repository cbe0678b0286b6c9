use Rattle.std.proofs.Common.{◌≡◌, ◌+◌, drop, ap, ◌∙◌, arith}
use Rattle.lapb.specs.Held.{Queue, contents, around}
use Rattle.lapb.proofs.Queues.{around_length, none_left}
use Rattle.lapb.proofs.queue.Queue.clear.Goals as goal

pub returns : goal.returns
returns c =
    let a = c.self.inside in
    let spent = a.spent + a.len in
    let all : spent + 0 ≡ a.spent + a.len = omega arith in
    let long = around_length a.places a.first (a.spent + a.len) c.self.invariant.taken in
    let none = ap (λ n. drop spent (contents (around a.places a.first n))) all ∙
    none_left spent (around a.places a.first (a.spent + a.len)) (omega (arith, long)) in
    let held = ap (around a.places a.first) all ∙ ap (λ (q : Queue). q.held) c.self.view_is in
    λ i. record { packets = none i; held = held i }
