use Rattle.std.proofs.Common.{◌≡◌, ℕ, ◌-◌, ◌≤◌, List, length, take, drop, ap, ◌∙◌, arith}
use Rattle.std.proofs.lemmas.List.{length-drop}
use Rattle.epochs.specs.Item.{DataPacket}
use Rattle.epochs.proofs.Written.{read_count, fewer_there, left_next}
use Rattle.epochs.proofs.packets.Packets.between.Goals as goal

pub loop-preserved : goal.loop-preserved
loop-preserved c =
    left_next c.args.self.now.packets c.loop.packets c.next.new.self c.loop.counter c.next.result c.loop.invariant c.next.ensures.steps

-- so many packets are left behind those that were passed over
enough : (c : goal.After-packets) → c.args.to - c.args.from ≤ c.packets.inside.count
enough c =
    let i = c.packets.inside in
    let ps = c.args.self.now.packets in
    let skipped : c.loop.counter ≡ c.args.from = omega arith in
    let left = ap (λ (l : List DataPacket). length l) (c.packets.view_is ∙ c.loop.invariant) in
    omega (arith, read_count i.count i.written.now c.packets.invariant, left, length-drop c.loop.counter ps, skipped, c.requires.end)

pub invariant_of-packets : goal.invariant_of-packets
invariant_of-packets c =
    let i = c.packets.inside in
    (fewer_there (c.args.to - c.args.from) i.count i.written.now (enough c) c.packets.invariant).0

pub returns : goal.returns
returns c =
    let i = c.packets.inside in
    let ps = c.args.self.now.packets in
    let skipped : c.loop.counter ≡ c.args.from = omega arith in
    (fewer_there (c.args.to - c.args.from) i.count i.written.now (enough c) c.packets.invariant).1
    ∙ ap (λ (l : List DataPacket). take (c.args.to - c.args.from) l) (c.packets.view_is ∙ c.loop.invariant ∙ ap (λ (k : ℕ). drop k ps) skipped)
