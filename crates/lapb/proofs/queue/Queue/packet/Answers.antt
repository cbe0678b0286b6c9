use Rattle.std.proofs.Common.{◌≡◌, ◌<◌, ◌+◌, ◌%◌, ℕ, List, Some, Option, length, get_or, ap, ◌∙◌, sym, arith}
use Rattle.std.specs.Prelude.{slice_get}
use Rattle.std.proofs.lemmas.Option.{slice_get-get_or}
use Rattle.flow_window.specs.Pool.{Buffer}
use Rattle.flow_window.proofs.Weights.{held_in}
use Rattle.lapb.specs.Held.{Queue, around}
use Rattle.lapb.proofs.Queues.{packets_length, never_empty, around_get, packet_get}
use Rattle.lapb.proofs.queue.Queue.packet.Goals as goal

-- what lies at the place
lies : (places : List (Option Buffer)) (first spent place from : ℕ) (read o : Option Buffer) → from ≡ place →
    read ≡ get_or places ((first + spent + from) % 8) read → length places ≡ 8 → read ≡ o →
    slice_get places ((first + (spent + place)) % 8) ≡ Some o
lies places first spent place from read o at is long same =
    let index : (first + (spent + place)) % 8 ≡ (first + spent + from) % 8 = omega (arith, at) in
    ap (slice_get places) index
    ∙ slice_get-get_or places ((first + spent + from) % 8) read (omega (arith, long))
    ∙ ap (λ (x : Option Buffer). Some x) (sym is ∙ same)

pub unreachable-requires : goal.unreachable-requires
unreachable-requires c =
    let a = c.self.inside in
    let same = ap (λ (q : Queue). length q.packets) c.self.view_is in
    let long = packets_length a.spent a.places a.first (a.spent + a.len) c.self.invariant.taken in
    let within : a.spent + c.args.place < (a.spent + a.len) = omega (arith, same, long, c.requires.place) in
    never_empty a.places a.first (a.spent + a.len) (a.spent + c.args.place) c.self.invariant.taken within
    (lies a.places a.first a.spent c.args.place c.from.result c.index-self-place.result _ c.from.ensures
    c.index-self-place.is (omega arith) (c.index-self-place.is ∙ c.in_default.is))

pub octets-requires : goal.octets-requires
octets-requires c =
    let a = c.self.inside in
    let same = ap (λ (q : Queue). length q.packets) c.self.view_is in
    let long = packets_length a.spent a.places a.first (a.spent + a.len) c.self.invariant.taken in
    let within : a.spent + c.args.place < (a.spent + a.len) = omega (arith, same, long, c.requires.place) in
    let there = around_get a.places a.first (a.spent + a.len) (a.spent + c.args.place) c.in-Some.b c.self.invariant.taken within
    (lies a.places a.first a.spent c.args.place c.from.result c.index-self-place.result _ c.from.ensures
    c.index-self-place.is (omega arith) (c.index-self-place.is ∙ c.in-Some.is)) in
    held_in c.args.pool.now c.args.self.now.held (a.spent + c.args.place) c.in-Some.b c.requires.holds
    (ap (λ (q : Queue). slice_get q.held (a.spent + c.args.place)) (sym c.self.view_is) ∙ there)

pub returns-clause-value : goal.returns-clause-value
returns-clause-value c =
    let a = c.self.inside in
    let same = ap (λ (q : Queue). length q.packets) c.self.view_is in
    let long = packets_length a.spent a.places a.first (a.spent + a.len) c.self.invariant.taken in
    let within : a.spent + c.args.place < (a.spent + a.len) = omega (arith, same, long, c.requires.place) in
    let there = around_get a.places a.first (a.spent + a.len) (a.spent + c.args.place) c.in-Some.b c.self.invariant.taken within
    (lies a.places a.first a.spent c.args.place c.from.result c.index-self-place.result _ c.from.ensures
    c.index-self-place.is (omega arith) (c.index-self-place.is ∙ c.in-Some.is)) in
    ap (λ (q : Queue). slice_get q.packets c.args.place) (sym c.self.view_is)
    ∙ packet_get a.spent c.args.place (around a.places a.first (a.spent + a.len)) c.in-Some.b there
    ∙ ap (λ (octets : List ℕ). Some octets) (sym c.octets.ensures.octets)
