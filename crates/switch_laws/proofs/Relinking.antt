-- After an event no link has to be set up anew.
use Rattle.std.proofs.Common.{◌≡◌, ℕ, zero, suc, ◌*◌, List, length, None, refl, ◌∙◌}
use Rattle.std.specs.List.{list_any}
use Rattle.packet_end.specs.PacketEnd.{settled}
use Rattle.address_routes.specs.Routes.{RouteMap}
use Rattle.switch_lines.specs.Lines.{SwitchLine}
use Rattle.switch_lines.specs.Relay.{places_first, relayed_first}
use Rattle.switch_lines.specs.Switch.{to_relink, all_relinked, may_offer, offering_from, offered_from, rounds}
use Rattle.switch_lines.specs.Switch.{all_offered_on, lines_first, finished}
use Rattle.switch_lines.proofs.Relinking.{asks, from_asks, offered_asks, either_asks, ends_ask, same_asking}
use Rattle.switch_lines.proofs.Relinking.{all_relinked_end}

rounds_asks : (most : ℕ) (first : List ℕ) (ls : List SwitchLine) → asks (rounds most first ls) ≡ asks ls
rounds_asks zero first ls = from_asks (places_first first ls) ls
rounds_asks (suc most) first ls =
    let ms = relayed_first first ls in
    let next = offering_from 0 ms in
    let ks = offered_from (length ls) 0 ms in
    let relayed_ = from_asks (places_first first ls) ls in
    either_asks (list_any may_offer ms) (rounds most next ks) ms (asks ls) (rounds_asks most next ks
    ∙ (offered_asks (length ls) 0 ms ∙ relayed_)) relayed_

pub finished_end : (routes : RouteMap) (n : ℕ) (ls : List SwitchLine) → to_relink (finished routes n ls) ≡ None
finished_end routes n ls =
    let rs = all_relinked (length ls) routes ls in
    let ms = all_offered_on (lines_first n routes ls) rs in
    ends_ask settled ms (λ e. refl) ∙ (same_asking rs ms (rounds_asks (7 * length rs) (lines_first n routes ls) rs)
    ∙ all_relinked_end routes ls)
