use Rattle.std.proofs.Common.{◌≡◌, position, List, ℕ, Some, refl, sym, ◌∙◌, subst}
use Rattle.service.specs.AllBridges.{IsHello, is_free_port}
use Rattle.service.proofs.AllTerminals.{there_at}
use Rattle.service.proofs.EachBridge.{rings_one, unless}
use Rattle.service.proofs.Keys.{found_within}
use Rattle.service.proofs.bridges.Bridges.ring.Goals as goal

pub returns : goal.returns
returns c =
    let mid = c.end_call.new.self.ports.items in
    let free : position is_free_port mid ≡ Some c.in-Some-free_port.free
    = unless _ _ _ (sym c.free_port.ensures ∙ c.in-Some-free_port.is) in
    rings_one c.args.at c.args.self.now.ports.items mid c.in-Some-free_port.free c.in-Some-service_of.place _ _ _
    c.index_mut-port.result.now _ c.end_call.ensures free
    (there_at mid c.in-Some-free_port.free _ _ (found_within is_free_port mid _ free) c.index_mut-port.ensures.value)
    (subst (λ (octets : List ℕ). IsHello octets) (sym c.as_slice.ensures.value) c.write_first.ensures) c.ring.ensures refl refl
