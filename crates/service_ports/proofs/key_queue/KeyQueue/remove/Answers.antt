use Rattle.std.proofs.Common.{rules, ◌≡◌, ap, arith, length, slice_get, None, Some}
use Rattle.std.proofs.lemmas.Option.{slice_get_within}
use Rattle.circular_buffer.specs.Buffer.{buffer}
use Rattle.service_ports.proofs.Counting.{removed_left, remove_none}
use Rattle.service_ports.proofs.key_queue.KeyQueue.remove.Goals as goal

pub invariant_of-self : goal.invariant_of-self
invariant_of-self c = (
  removed_left c.self.inside.keys.items c.pop_front.new.self.items c.args.place c.in-Some.key c.self.inside.counts
      c.remove.new.self c.self.invariant.0 (search rules) (search rules) c.remove.ensures,
  search rules,
)

pub returns-in_default : goal.returns-in_default
returns-in_default c =
    let none : slice_get c.args.self.now.items c.args.place ≡ None = search rules in
    ap (λ keys. buffer keys c.args.self.now.capacity) (remove_none c.args.self.now.items c.args.place none)

pub bring_forward-requires : goal.bring_forward-requires
bring_forward-requires c =
    let there : slice_get c.self.inside.keys.items c.args.place ≡ Some c.in-Some.key = search rules in
    let within = slice_get_within c.self.inside.keys.items c.args.place c.in-Some.key there in
    omega (arith, within, ap length c.make_contiguous.ensures.value)
