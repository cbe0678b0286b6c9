use Rattle.std.proofs.Common.{◌≡◌, ◌<◌, ◌+◌, length, set, Some, None, ap, ◌∙◌, sym, arith, length-set}
use Rattle.std.specs.Prelude.{slice_get}
use Rattle.std.proofs.lemmas.Option.{slice_get_within}
use Rattle.std.proofs.lemmas.List.Elements.{All-get_or, All-set}
use Rattle.flow_window.specs.Pool.{Pool, Buffer, pooled, weight_from}
use Rattle.flow_window.specs.Slot.{Slot, octets_in}
use Rattle.flow_window.specs.PoolView.{contents}
use Rattle.flow_window.proofs.Pools.{
  buffer,
  all_counted,
  listed_ones,
  last_spare,
  spare_popped,
  weight_put,
  contents_set,
  contents_length,
}
use Rattle.flow_window.proofs.pool.Pool.put.Goals as goal

pub returns-in_err-number-clause-full : goal.returns-in_err-number-clause-full
returns-in_err-number-clause-full c =
    let empty = c.in_err-number.ensures.cases.0 in
    let counted = all_counted 0 (contents c.self.inside.slots.items) in
    let spare = c.self.invariant.spare (λ _. 1) in
    let listed = listed_ones c.self.inside.spare.items in
    rw (c.from_residual.ensures, ← c.self.view_is) (omega (arith, empty, counted, spare, listed))

pub index_mut-slot-requires : goal.index_mut-slot-requires
index_mut-slot-requires c =
    let places = contents c.self.inside.slots.items in
    let empty = last_spare c.self.inside.spare.items c.pop.new.self.items c.in_ok-number.number places
    c.self.invariant.spare c.in_ok-number.ensures.items in
    let within = slice_get_within places c.in_ok-number.number None empty in
    let same = contents_length c.self.inside.slots.items in
    omega (arith, within, same)

pub fill-requires : goal.fill-requires
fill-requires c =
    let slot = c.index_mut-slot.result.now in
    let number = c.in_ok-number.number in
    let slots = c.self.inside.slots.items in
    let empty = last_spare c.self.inside.spare.items c.pop.new.self.items number (contents slots)
    c.self.invariant.spare c.in_ok-number.ensures.items in
    let within : number < length (contents slots) = slice_get_within (contents slots) number None empty in
    let same = contents_length slots in
    let least : number < length slots = omega (arith, within, same) in
    let sized = All-get_or (λ (s : Slot). s.size ≡ c.self.inside.size) slots number slot least
    c.self.invariant.sizes in
    let its : slot.size ≡ c.self.inside.size = ap (λ (s : Slot). s.size) c.index_mut-slot.ensures.value ∙ sized in
    let whole : c.self.inside.size ≡ c.args.self.now.size = ap (λ (p : Pool). p.size) c.self.view_is in
    omega (arith, its, whole, c.requires)

pub invariant_of-self-2 : goal.invariant_of-self-2
invariant_of-self-2 c =
    let slot = c.index_mut-slot.result.now in
    let number = c.in_ok-number.number in
    let slots = c.self.inside.slots.items in
    let places = contents slots in
    let octets = c.args.octets.now in
    let empty = last_spare c.self.inside.spare.items c.pop.new.self.items number places c.self.invariant.spare
    c.in_ok-number.ensures.items in
    let within : number < length places = slice_get_within places number None empty in
    let same = contents_length slots in
    let least : number < length slots = omega (arith, within, same) in
    let sized = All-get_or (λ (s : Slot). s.size ≡ c.self.inside.size) slots number slot least
    c.self.invariant.sizes in
    let its = ap (λ (s : Slot). s.size) c.fill.ensures ∙ ap (λ (s : Slot). s.size) c.index_mut-slot.ensures.value ∙
    sized in
    let written = contents_set slots number c.fill.new.self ∙
    ap (λ (s : Slot). set places number s.content) c.fill.ensures in
    let kept = length-set slots number c.fill.new.self in
    record {
      sizes = All-set (λ (s : Slot). s.size ≡ c.self.inside.size) slots number c.fill.new.self its
          c.self.invariant.sizes;
      spare = rw written (spare_popped c.self.inside.spare.items c.pop.new.self.items number places octets
          c.self.invariant.spare c.in_ok-number.ensures.items);
      room = omega (arith, kept, c.self.invariant.room, c.in_ok-number.ensures.capacity);
    }

pub returns-clause-put : goal.returns-clause-put
returns-clause-put c =
    let number = c.in_ok-number.number in
    let slots = c.self.inside.slots.items in
    let places = contents slots in
    let octets = c.args.octets.now in
    let empty = last_spare c.self.inside.spare.items c.pop.new.self.items number places c.self.invariant.spare
    c.in_ok-number.ensures.items in
    let given : c.of.result ≡ buffer number octets =
    c.of.ensures ∙ ap (λ (s : Slot). buffer number (octets_in s.content)) c.fill.ensures in
    let written = contents_set slots number c.fill.new.self ∙
    ap (λ (s : Slot). set places number s.content) c.fill.ensures ∙
    ap (λ (p : Pool). set p.places number (Some octets)) c.self.view_is ∙
    ap (λ (b : Buffer). set c.args.self.now.places b.number (Some octets)) (sym given) in (
      ap (λ (b : Buffer). b.octets) given,
      ap (λ (b : Buffer). slice_get c.args.self.now.places b.number) given ∙
          ap (λ (p : Pool). slice_get p.places number) (sym c.self.view_is) ∙ empty,
      (λ i. record { size = (ap (λ (p : Pool). p.size) c.self.view_is) i; places = written i }),
    )

pub returns-clause-weights : goal.returns-clause-weights
returns-clause-weights c w =
    let number = c.in_ok-number.number in
    let slots = c.self.inside.slots.items in
    let places = contents slots in
    let octets = c.args.octets.now in
    let empty = last_spare c.self.inside.spare.items c.pop.new.self.items number places c.self.invariant.spare
    c.in_ok-number.ensures.items in
    let given : c.of.result ≡ buffer number octets =
    c.of.ensures ∙ ap (λ (s : Slot). buffer number (octets_in s.content)) c.fill.ensures in
    let written = contents_set slots number c.fill.new.self ∙
    ap (λ (s : Slot). set places number s.content) c.fill.ensures in
    ap (weight_from w 0) written
    ∙ weight_put w 0 places number number octets (omega arith) empty
    ∙ ap (λ (p : Pool). pooled w p + w (buffer number octets)) c.self.view_is
    ∙ ap (λ (b : Buffer). pooled w c.args.self.now + w b) (sym given)
