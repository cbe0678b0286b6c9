use Rattle.std.proofs.Common.{◌≡◌, ℕ, ◌++◌, Bool, List, [], length, drop, if◌then◌else◌, sym, ap, ap₂, ◌∙◌}
use Rattle.std.proofs.lemmas.List.{append-nil, take_rest}
use Rattle.epochs.specs.Item.{DataPacket}
use Rattle.switch_joins.specs.Plan.{outline_of, plan_for, rest_of}
use Rattle.switch_joins.specs.Turning.{Gathered, turned}
use Rattle.switch_joins.proofs.Planning.{turned_as, rest_behind}
use Rattle.switch_joins.proofs.turned.Turned.new.Goals as goal
use Rattle.switch_joins.proofs.turned.Turned.new.Goals.{then-plan, else-plan}

pub returns : goal.returns
returns c =
    let g : Gathered = record { octets = c.args.gathered.now; qualified = c.args.qualified } in
    let d : DataPacket = record { octets = c.args.packet.now.octets; more = c.more.result; qualified = c.qualified.result; delivery = c.delivery.result } in
    let p = c.new-plan.result in
    let plan : p ≡ plan_for c.args.sizes (length g.octets) g.qualified (outline_of d) =
    c.new-plan.ensures.plan
    ∙ ap (λ n. plan_for c.args.sizes (length g.octets) g.qualified (record (outline_of d) { length = n })) (ap length c.octets.ensures.value) in
    let first : c.if-plan.first.now ≡ (if p.gathered_first then g.octets else []) = elim c.if-plan.branch [
      | then-plan w ↦ ap (λ b. b.now) w.first-is ∙ sym (ap (λ (b : Bool). if b then g.octets else []) w.if-plan.true)
      | else-plan w ↦ ap (λ b. b.now) w.first-is ∙ sym (ap (λ (b : Bool). if b then g.octets else []) w.if-plan.false)
    ] in
    let rest : c.together-rest.result.items ≡ (rest_of p.gathered_first g d).octets =
    c.together-rest.ensures
    ∙ ap₂ (λ (xs ys : List ℕ). xs ++ ys) (take_rest g.octets (length c.if-plan.first.now)) c.octets-2.ensures.value
    ∙ ap (λ (xs : List ℕ). drop (length xs) g.octets ++ d.octets) first
    ∙ rest_behind p.gathered_first g d in
    turned_as c.args.sizes p g d c.together.result.items c.together-rest.result.items plan (c.together.ensures ∙ append-nil c.if-plan.first.now ∙ first) rest
    ∙ ap (λ x. turned c.args.sizes g x) (λ i. record { octets = c.args.packet.now.octets; more = c.more.ensures i; qualified = c.qualified.ensures i; delivery = c.delivery.ensures i })
