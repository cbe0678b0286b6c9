use Rattle.std.proofs.Common.{◌≡◌, ◌<◌, ◌+◌, ℕ, [], ◌∷◌, ◌++◌, length, set, Option, List, Some, None, ap, ◌∙◌, sym, arith, rules, length-set}
use Rattle.std.specs.Prelude.{slice_get}
use Rattle.std.proofs.lemmas.Option.{slice_get_within}
use Rattle.std.proofs.lemmas.List.Elements.{All-get_or, All-set}
use Rattle.flow_window.specs.Pool.{Pool, pooled, weight_from}
use Rattle.flow_window.specs.Slot.{Slot}
use Rattle.flow_window.specs.PoolView.{contents}
use Rattle.flow_window.proofs.Pools.{buffer, spare_pushed, room_to_free, weight_free, contents_set, contents_length}
use Rattle.flow_window.proofs.pool.Pool.free.Goals as goal

pub invariant_of-self : goal.invariant_of-self
invariant_of-self c =
    let number = c.number-number.result in
    let slots = c.self.inside.slots.items in
    let places = contents slots in
    let octets = c.args.b.octets in
    let full : slice_get places number ≡ Some (Some octets) =
    ap (slice_get places) c.number-number.ensures ∙ ap (λ (p : Pool). slice_get p.places c.args.b.number)
    c.self.view_is ∙ c.requires in
    let within = slice_get_within places number (Some octets) full in
    let same = contents_length slots in
    let least : number < length slots = omega (arith, within, same) in
    let sized = All-get_or (λ (s : Slot). s.size ≡ c.self.inside.size) slots number c.index_mut.result.now least
    c.self.invariant.sizes in
    let its = ap (λ (s : Slot). s.size) c.empty.ensures ∙ ap (λ (s : Slot). s.size) c.index_mut.ensures.value ∙
    sized in
    let written = contents_set slots number c.empty.new.self ∙
    ap (λ (s : Slot). set places number s.content) c.empty.ensures in
    let kept = length-set slots number c.empty.new.self in
    let few = room_to_free c.self.inside.spare.items number places octets c.self.invariant.spare full in
    let room : length c.self.inside.spare.items < length slots = omega (arith, few, same) in
    let ok = c.push.ensures.succeeds (omega (arith, room, c.self.invariant.room)) in
    let pushed : c.push.new.self.items ≡ c.self.inside.spare.items ++ number ∷ [] = search (rules, c.push.ensures.items, ok) in
    record {
      sizes = All-set (λ (s : Slot). s.size ≡ c.self.inside.size) slots number c.empty.new.self its
          c.self.invariant.sizes;
      spare = rw (written, pushed) (spare_pushed c.self.inside.spare.items number places octets
          c.self.invariant.spare full);
      room = omega (arith, kept, c.self.invariant.room, c.push.ensures.capacity);
    }

pub returns-clause-map : goal.returns-clause-map
returns-clause-map c =
    let number = c.number-number.result in
    let slots = c.self.inside.slots.items in
    let places = contents slots in
    let none : Option (List ℕ) = None in
    let written = contents_set slots number c.empty.new.self ∙
    ap (λ (s : Slot). set places number s.content) c.empty.ensures ∙
    ap (λ (p : Pool). set p.places number none) c.self.view_is ∙
    ap (λ m. set c.args.self.now.places m none) c.number-number.ensures in
    λ i. record { size = (ap (λ (p : Pool). p.size) c.self.view_is) i; places = written i }

pub returns-clause-weights : goal.returns-clause-weights
returns-clause-weights c w =
    let number = c.number-number.result in
    let slots = c.self.inside.slots.items in
    let places = contents slots in
    let octets = c.args.b.octets in
    let full : slice_get places number ≡ Some (Some octets) =
    ap (slice_get places) c.number-number.ensures ∙ ap (λ (p : Pool). slice_get p.places c.args.b.number)
    c.self.view_is ∙ c.requires in
    let written = contents_set slots number c.empty.new.self ∙
    ap (λ (s : Slot). set places number s.content) c.empty.ensures in
    ap (λ m. weight_from w 0 (contents (set slots number c.empty.new.self)) + w (buffer m octets))
    (sym c.number-number.ensures)
    ∙ ap (λ ps. weight_from w 0 ps + w (buffer number octets)) written
    ∙ weight_free w 0 places number number octets (omega arith) full
    ∙ ap (pooled w) c.self.view_is
