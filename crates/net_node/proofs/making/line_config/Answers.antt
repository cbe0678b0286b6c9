use Rattle.std.proofs.Common.{◌≡◌, ℕ, ◌≤◌, length, List, [], ◌∷◌, Option, Some, None, refl, ap, ◌∙◌, arith}
use Rattle.packet_codec.specs.Digits.{digits_or_none}
use Rattle.call_records.specs.Book.{address_of}
use Rattle.net_config.specs.NetPlan.{NewLine}
use Rattle.net_config.specs.PlanView.{HasDigits}
use Rattle.net_node.proofs.making.line_config.Goals as goal

with_digits : (digits : List ℕ) → 1 ≤ length digits → Some digits ≡ address_of digits
with_digits [] least = absurd (omega (arith, least))
with_digits (digit ∷ digits) least = refl

same_address : (address : Option (List ℕ)) → HasDigits address → address ≡ address_of (digits_or_none address)
same_address None has = refl
same_address (Some digits) has = with_digits digits has

pub returns : goal.returns
returns c =
    let l = c.line.inside in
    let address = same_address l.address c.line.invariant ∙ ap (λ (x : NewLine). address_of x.address) c.line.view_is in
    λ i. record { params = (c.line.view_is i).params; role = c.role_on_line.ensures i; address = address i }
