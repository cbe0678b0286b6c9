-- The books of a network's lines have the lines' channels.
use Rattle.std.proofs.Common.{◌≡◌, ℕ, Bool, true, false, length, set, replicate, sym, ◌∙◌, subst}
use Rattle.std.proofs.lemmas.List.{length-replicate, length-set}
use Rattle.link_timers.specs.declared.role.Role.{Role}
use Rattle.link_timers.specs.declared.role.Role.TheVariants.{Dte, Dce}
use Rattle.call_records.specs.Book.{Book, Slot, side_of, free_slot, made_book}
use Rattle.user_nodes.specs.Node.{NodeState}
use Rattle.net_events.specs.NodeEvents.{NodeEvent, turn_of}
use Rattle.network_laws.proofs.Shapes.{EndsStay, writes_stay}
use Rattle.network_laws.proofs.Uniform.{IsUniform, uniform}

-- the ends of the line stay
pub ends_after : (event : NodeEvent) (role : Role) (n : NodeState) (b : Book) → EndsStay b (turn_of event role n b).book
ends_after event role n b =
    let u : IsUniform role (λ x. turn_of event role n x) = uniform event role n in
    subst (EndsStay b) (sym (u.written b)) (writes_stay role u.writes b)

-- at the making
free_slots : (channels : ℕ) → length (replicate channels free_slot) ≡ channels
free_slots channels = length-replicate channels free_slot

slots_with : (channels : ℕ) (z : Slot) → length (set (replicate channels free_slot) 0 z) ≡ channels
slots_with channels z = length-set (replicate channels free_slot) 0 z ∙ free_slots channels

pub channels_made : (dte_node dce_node channels : ℕ) (standing : Bool) (end : Role)
    → length (side_of end (made_book dte_node dce_node channels standing)).slots ≡ channels
channels_made dte_node dce_node channels true Dte = slots_with channels _
channels_made dte_node dce_node channels true Dce = slots_with channels _
channels_made dte_node dce_node channels false Dte = free_slots channels
channels_made dte_node dce_node channels false Dce = free_slots channels
