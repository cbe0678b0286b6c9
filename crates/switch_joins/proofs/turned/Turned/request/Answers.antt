use Rattle.std.proofs.Common.{◌≤◌, ◌<◌, ◌-◌, ◌*◌, ◌==◌, ℕ, List, length, drop, if◌then◌else◌, map, Some, sym, ap, ap₂, ◌∙◌, subst, arith}
use Rattle.std.specs.Prelude.{slice_get}
use Rattle.std.proofs.lemmas.List.{take_rest}
use Rattle.packet_channel.specs.Channel.{Request}
use Rattle.switch_joins.specs.TurnedView.{rest_in, piece}
use Rattle.switch_joins.specs.Turning.{Gathered, Turn}
use Rattle.switch_joins.proofs.Pieces.{rest_at, rest_there}
use Rattle.switch_joins.proofs.turned.Turned.request.Goals as goal

begins : (c : goal.After-as_slice-2) → (c.args.n - c.packets_of-before.result) * c.self.inside.size ≤ length c.as_slice-2.result.now
begins c =
    let a = c.self.inside in
    let first : Gathered = record { octets = a.first.items; qualified = a.first_qualified } in
    let before = c.packets_of-before.ensures ∙ ap (λ (xs : List ℕ). if length xs == 0 then 0 else 1) c.as_slice.ensures.value in
    rw (before, c.as_slice-2.ensures.value)
    (rest_there first a.waits a.size (rest_in a) c.args.n c.self.invariant.size (subst (λ m. m ≤ c.args.n) before c.if-n-before.false)
    (subst (λ (t : Turn). c.args.n < length t.made) (sym c.self.view_is) c.requires))

pub overflow_mul-rest : goal.overflow_mul-rest
overflow_mul-rest c = omega (arith, begins c, c.as_slice-2.type_inv.0)

pub slice_bounds-rest-count : goal.slice_bounds-rest-count
slice_bounds-rest-count c = begins c

pub slice_bounds-rest-start : goal.slice_bounds-rest-start
slice_bounds-rest-start c = begins c

pub returns : goal.returns
returns c =
    let a = c.self.inside in
    let first : Gathered = record { octets = a.first.items; qualified = a.first_qualified } in
    let before = c.packets_of-before.ensures ∙ ap (λ (xs : List ℕ). if length xs == 0 then 0 else 1) c.as_slice.ensures.value in
    ap (λ (t : Turn). slice_get (map Request.Sending t.made) c.args.n) (sym c.self.view_is)
    ∙ rest_at first a.waits a.size (rest_in a) c.args.n c.self.invariant.size (subst (λ m. m ≤ c.args.n) before c.if-n-before.false)
    (subst (λ (t : Turn). c.args.n < length t.made) (sym c.self.view_is) c.requires)
    ∙ sym (ap Some
    (c.first_piece.ensures
    ∙ ap (λ (xs : List ℕ). Request.Sending (piece a.size xs (rest_in a)))
    (take_rest c.as_slice-2.result.now ((c.args.n - c.packets_of-before.result) * a.size)
    ∙ ap₂ (λ m (xs : List ℕ). drop ((c.args.n - m) * a.size) xs) before c.as_slice-2.ensures.value)))
