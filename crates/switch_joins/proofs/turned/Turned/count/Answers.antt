use Rattle.std.proofs.Common.{◌+◌, ◌-◌, ◌/◌, ◌==◌, List, ℕ, length, if◌then◌else◌, sym, ap, ap₂, ◌∙◌}
use Rattle.switch_joins.specs.TurnedView.{rest_in}
use Rattle.switch_joins.specs.Turning.{Turn}
use Rattle.switch_joins.proofs.Pieces.{made_count}
use Rattle.switch_joins.proofs.turned.Turned.count.Goals as goal

pub returns : goal.returns
returns c =
    let a = c.self.inside in
    ap₂ (λ m n. m + n)
    (c.packets_of.ensures ∙ ap (λ (xs : List ℕ). if length xs == 0 then 0 else 1) c.as_slice.ensures.value)
    (c.pieces.ensures ∙ ap (λ n. if a.waits then 0 else (n - 1) / a.size + 1) c.len.ensures.value)
    ∙ sym (made_count (record { octets = a.first.items; qualified = a.first_qualified }) a.waits a.size (rest_in a))
    ∙ ap (λ (t : Turn). length t.made) c.self.view_is
