-- No step of an event changes the address of a line, nor whether it is a trunk.
use Rattle.std.proofs.Common.{◌≡◌, ℕ, zero, suc, Bool, false, List, [], ◌∷◌, map, Option, Some, None, refl, sym, ap, ◌∙◌}
use Rattle.std.specs.Prelude.{slice_get, is_none}
use Rattle.packet_end.specs.PacketEnd.{PacketEnd}
use Rattle.switch_lines.specs.Lines.{SwitchLine, is_trunk, changed}
use Rattle.switch_lines.specs.Switch.{with_end, quieted}
use Rattle.switch_laws.specs.Steps.{does, Step, lines_after, lines_after_all}
use Rattle.switch_laws.specs.Steps.Step.{Asks, Places, Keeps, Happens, Offers, Begins, Settles, Elapses}
use Rattle.switch_laws.proofs.Lists.{map_unchanged}
use Rattle.switch_laws.proofs.Leading.{Leads}

abbrev pub addresses : List SwitchLine → List (Option (List ℕ))
addresses ls = map (λ l. l.address) ls

pub end_addresses : (f : PacketEnd → PacketEnd) (ls : List SwitchLine) → addresses (map (with_end f) ls) ≡ addresses ls
end_addresses f [] = refl
end_addresses f (l ∷ ls) = ap (λ (as_ : List (Option (List ℕ))). l.address ∷ as_) (end_addresses f ls)

pub one_addresses : (n : ℕ) (f : PacketEnd → PacketEnd) (ls : List SwitchLine) → addresses (changed n (with_end f) ls) ≡ addresses ls
one_addresses n f ls = map_unchanged (λ l. l.address) (with_end f) n ls (λ l. refl)

step_addresses : (s : Step) (ls : List SwitchLine) → addresses (lines_after s ls) ≡ addresses ls
step_addresses (Asks p q) ls = map_unchanged (λ l. l.address) _ p.line ls (λ l. refl)
step_addresses (Places n parts) ls = map_unchanged (λ l. l.address) _ n ls (λ l. refl)
step_addresses (Keeps p o) ls = map_unchanged (λ l. l.address) _ p.line ls (λ l. refl)
step_addresses (Happens n what) ls = one_addresses n _ (changed n (with_end (λ e. does what (quieted e))) ls) ∙ one_addresses n _ ls
step_addresses (Offers n) ls = one_addresses n _ ls
step_addresses Begins ls = end_addresses _ ls
step_addresses Settles ls = end_addresses _ ls
step_addresses (Elapses ticks) ls = end_addresses _ ls

steps_addresses : (steps : List Step) (ls : List SwitchLine) → addresses (lines_after_all steps ls) ≡ addresses ls
steps_addresses [] ls = refl
steps_addresses (s ∷ more) ls = steps_addresses more (lines_after s ls) ∙ step_addresses s ls

pub lead_addresses : (steps : List Step) (ls ms : List SwitchLine) → Leads steps ls ms → addresses ms ≡ addresses ls
lead_addresses steps ls ms e = ap (λ (ks : List SwitchLine). addresses ks) (sym e) ∙ steps_addresses steps ls

-- ---- so the trunks stay

abbrev trunk_of : Option (Option (List ℕ)) → Bool
trunk_of None = false
trunk_of (Some a) = is_none a

trunk_is : (ls : List SwitchLine) (n : ℕ) → is_trunk (slice_get ls n) ≡ trunk_of (slice_get (addresses ls) n)
trunk_is [] n = refl
trunk_is (l ∷ ls) zero = refl
trunk_is (l ∷ ls) (suc n) = trunk_is ls n

pub same_trunk : (ls ms : List SwitchLine) (n : ℕ) → addresses ms ≡ addresses ls → is_trunk (slice_get ms n) ≡ is_trunk (slice_get ls n)
same_trunk ls ms n e = trunk_is ms n ∙ (ap (λ (as_ : List (Option (List ℕ))). trunk_of (slice_get as_ n)) e ∙ sym (trunk_is ls n))
