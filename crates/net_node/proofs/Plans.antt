-- What a plan of a network says of a line and of the lines of a switch.
use Rattle.std.proofs.Common.{◌≡◌, ℕ, zero, suc, false, List, [], ◌∷◌, ◌++◌, length, Some, refl, sym, ap, ◌∙◌, subst, arith, inl, inr}
use Rattle.std.specs.Prelude.{◌⊎◌, slice_get, Option, None}
use Rattle.std.proofs.lemmas.Option.{same_Some, none-some}
use Rattle.link_timers.specs.declared.role.Role.TheVariants.{Dte, Dce}
use Rattle.packet_end.specs.Params.{AreParams}
use Rattle.switch_lines.specs.Making.{IsLineConfig}
use Rattle.joined_line.specs.declared.config.SwitchLineConfig.{SwitchLineConfig}
use Rattle.net_config.specs.NetPlan.{NewNode, NewSwitch, Planned, PlannedUser, PlannedSwitch, NewLine, NetPlan, IsNewDte}
use Rattle.net_config.specs.NetPlan.{IsEndPlan, IsKindOfLine, IsLinePlan, HasEndAt, IsSwitchPlan, IsPlan}
use Rattle.net_events.specs.Opening.{line_config, found_config, own_configs}
use Rattle.net_node.specs.Making.{CanMakeLines}
use Rattle.net_events.proofs.Lists.{at_index, within}

-- ---- what is planned for a place

abbrev IsPlannedUser : Planned → Type 0
IsPlannedUser (PlannedUser n) = Unit {0}
IsPlannedUser (PlannedSwitch n) = ⊥

pub never_both : (a : NewNode) (b : NewSwitch) → Some (PlannedUser a) ≡ Some (PlannedSwitch b) → ⊥
never_both a b e = subst (λ (x : Planned). IsPlannedUser x) (same_Some (PlannedUser a) (PlannedSwitch b) e) tt

abbrev switch_or : NewSwitch → Planned → NewSwitch
switch_or other (PlannedUser n) = other
switch_or other (PlannedSwitch n) = n

pub same_new_switch : (a b : NewSwitch) → Some (PlannedSwitch a) ≡ Some (PlannedSwitch b) → a ≡ b
same_new_switch a b e = ap (switch_or a) (same_Some (PlannedSwitch a) (PlannedSwitch b) e)

-- ---- a line

-- it has no address or no call stands on it
standing_or_address : (l : NewLine) (dte dce : Planned) → IsKindOfLine l dte dce → (l.address ≡ []) ⊎ (l.params.standing ≡ false)
standing_or_address l (PlannedUser dte) (PlannedUser dce) kind = inl kind.1
standing_or_address l (PlannedUser dte) (PlannedSwitch dce) kind = inr kind.2
standing_or_address l (PlannedSwitch dte) (PlannedSwitch dce) kind = inl kind.0
standing_or_address l (PlannedSwitch dte) (PlannedUser dce) kind = absurd kind

pub free_or_unaddressed : (plan : NetPlan) (line : ℕ) (l : NewLine) → IsPlan plan → slice_get plan.lines line ≡ Some l
    → (l.address ≡ []) ⊎ (l.params.standing ≡ false)
free_or_unaddressed plan line l is at =
    let p = is.lines line l at in standing_or_address l p.dte p.dce p.kind

-- no call stands on a line of a switch
free_at_dte : (l : NewLine) (n : NewSwitch) (dce : Planned) → IsKindOfLine l (PlannedSwitch n) dce → l.params.standing ≡ false
free_at_dte l n (PlannedUser dce) kind = absurd kind
free_at_dte l n (PlannedSwitch dce) kind = kind.2

free_at_dce : (l : NewLine) (n : NewSwitch) (dte : Planned) → IsKindOfLine l dte (PlannedSwitch n) → l.params.standing ≡ false
free_at_dce l n (PlannedUser dte) kind = kind.2
free_at_dce l n (PlannedSwitch dte) kind = kind.2

-- a node with users that is the DTE of its line may be made
made_at_dte : (l : NewLine) (n : NewNode) (dce : Planned) → IsKindOfLine l (PlannedUser n) dce → IsNewDte n.as_dte l.params
made_at_dte l n (PlannedUser dce) kind = kind.0
made_at_dte l n (PlannedSwitch dce) kind = kind.0

-- the node at an end of a line is the one of its place
pub node_of_end : (plan : NetPlan) (at place : ℕ) (p q : Planned) → slice_get plan.nodes at ≡ Some p → at ≡ place
    → slice_get plan.nodes place ≡ Some q → p ≡ q
node_of_end plan at place p q there same at_place =
    same_Some p q (sym there ∙ ap (λ i. slice_get plan.nodes i) same ∙ at_place)

pub dte_made : (plan : NetPlan) (place : ℕ) (n : NewNode) (line : NewLine) → IsPlan plan → slice_get plan.nodes place ≡ Some (PlannedUser n)
    → slice_get plan.lines n.line ≡ Some line → n.role ≡ Dte → IsNewDte n.as_dte line.params
dte_made plan place n line h at line_at is =
    subst (λ (l : NewLine). IsNewDte n.as_dte l.params) (same_Some e.line_is line (sym e.there ∙ line_at)) (by e.at_end)
  where
    e : HasEndAt plan.lines place n.line
    e = h.nodes place (PlannedUser n) at

    p : IsLinePlan plan.nodes n.line e.line_is
    p = h.lines n.line e.line_is e.there

    by : (e.line_is.dte ≡ place) ⊎ (e.line_is.dce ≡ place) → IsNewDte n.as_dte e.line_is.params
    by (inl w) =
        let same : p.dte ≡ PlannedUser n = node_of_end plan e.line_is.dte place p.dte (PlannedUser n) p.dte_there w at in
        made_at_dte e.line_is n p.dce (subst (λ (x : Planned). IsKindOfLine e.line_is x p.dce) same p.kind)
    by (inr w) =
        let same : p.dce ≡ PlannedUser n = node_of_end plan e.line_is.dce place p.dce (PlannedUser n) p.dce_there w at in
        let stands : IsEndPlan n.line Dce (PlannedUser n) = subst (IsEndPlan n.line Dce) same p.dce_stands in
        let never : Dte ≡ Dce = sym is ∙ stands.1 in
        absurd (cc)

-- ---- the lines of a switch

-- an own line of the switch of a place
pub record OwnLine (plan : NetPlan) (line : ℕ) : Type 0 where
  pub line_is : NewLine
  pub there : slice_get plan.lines line ≡ Some line_is
  pub free : line_is.params.standing ≡ false
  pub params : AreParams line_is.params

pub own_line_of : (plan : NetPlan) (place : ℕ) (n : NewSwitch) → IsPlan plan → slice_get plan.nodes place ≡ Some (PlannedSwitch n)
    → (at line : ℕ) → slice_get n.lines at ≡ Some line → OwnLine plan line
own_line_of plan place n is there at line own =
    record { line_is = e.line_is; there = e.there; free = free e.at_end; params = p.params }
  where
    e : HasEndAt plan.lines place line
    e = let stands : IsSwitchPlan plan.lines place n = is.nodes place (PlannedSwitch n) there in stands.each at line own

    p : IsLinePlan plan.nodes line e.line_is
    p = is.lines line e.line_is e.there

    free : (e.line_is.dte ≡ place) ⊎ (e.line_is.dce ≡ place) → e.line_is.params.standing ≡ false
    free (inl w) =
        free_at_dte e.line_is n p.dce
        (subst (λ (x : Planned). IsKindOfLine e.line_is x p.dce) (node_of_end plan e.line_is.dte place p.dte (PlannedSwitch n) p.dte_there w there) p.kind)
    free (inr w) =
        free_at_dce e.line_is n p.dte
        (subst (IsKindOfLine e.line_is p.dte) (node_of_end plan e.line_is.dce place p.dce (PlannedSwitch n) p.dce_there w there) p.kind)

-- ---- how they are made

found_push : (place : ℕ) (o : Option NewLine) (xs ys : List SwitchLineConfig) → found_config place o (xs ++ ys) ≡ found_config place o xs ++ ys
found_push place None xs ys = refl
found_push place (Some l) xs ys = refl

pub configs_more : (place : ℕ) (own : List ℕ) (line : ℕ) (lines : List NewLine) (l : NewLine) → slice_get lines line ≡ Some l
    → own_configs place (own ++ line ∷ []) lines ≡ own_configs place own lines ++ line_config place l ∷ []
configs_more place [] line lines l e = ap (λ o. found_config place o []) e
configs_more place (x ∷ own) line lines l e =
    ap (found_config place (slice_get lines x)) (configs_more place own line lines l e)
    ∙ found_push place (slice_get lines x) (own_configs place own lines) (line_config place l ∷ [])

pub configs_count : (place : ℕ) (own : List ℕ) (lines : List NewLine) → ((at line : ℕ) → slice_get own at ≡ Some line → (l : NewLine) × (slice_get lines line ≡ Some l))
    → length (own_configs place own lines) ≡ length own
configs_count place [] lines h = refl
configs_count place (x ∷ own) lines h =
    let first = h 0 x refl in
    ap (λ o. length (found_config place o (own_configs place own lines))) first.1
    ∙ ap suc (configs_count place own lines (λ at line e. h (suc at) line e))

pub config_at : (place : ℕ) (own : List ℕ) (lines : List NewLine) → ((at line : ℕ) → slice_get own at ≡ Some line → (l : NewLine) × (slice_get lines line ≡ Some l))
    → (at line : ℕ) (l : NewLine) → slice_get own at ≡ Some line → slice_get lines line ≡ Some l
    → slice_get (own_configs place own lines) at ≡ Some (line_config place l)
config_at place [] lines h at line l e f = absurd (none-some line e)
config_at place (x ∷ own) lines h zero line l e f =
    let same : x ≡ line = same_Some x line e in
    ap (λ o. slice_get (found_config place o (own_configs place own lines)) 0) (ap (slice_get lines) same ∙ f)
config_at place (x ∷ own) lines h (suc at) line l e f =
    let first = h 0 x refl in
    ap (λ o. slice_get (found_config place o (own_configs place own lines)) (suc at)) first.1
    ∙ config_at place own lines (λ k m g. h (suc k) m g) at line l e f

pub own_there : (plan : NetPlan) (place : ℕ) (n : NewSwitch) → IsPlan plan → slice_get plan.nodes place ≡ Some (PlannedSwitch n)
    → (at line : ℕ) → slice_get n.lines at ≡ Some line → (l : NewLine) × (slice_get plan.lines line ≡ Some l)
own_there plan place n is there at line own = let o = own_line_of plan place n is there at line own in (o.line_is, o.there)

-- a switch that is planned can be made
pub can_make : (plan : NetPlan) (place : ℕ) (n : NewSwitch) → IsPlan plan → slice_get plan.nodes place ≡ Some (PlannedSwitch n)
    → CanMakeLines place n.lines plan.lines
can_make plan place n is there = record {
  config = record {
    least = (let least = stands.least in omega (arith, least, count));
    most = (let most = stands.most in omega (arith, most, count));
    each = λ at c e. each at c e;
  };
  each = λ at line own.
      let o = own_line_of plan place n is there at line own in within plan.lines line o.line_is o.there;
}
  where
    stands : IsSwitchPlan plan.lines place n
    stands = is.nodes place (PlannedSwitch n) there

    count : length (own_configs place n.lines plan.lines) ≡ length n.lines
    count = configs_count place n.lines plan.lines (own_there plan place n is there)

    each : (at : ℕ) (c : SwitchLineConfig) → slice_get (own_configs place n.lines plan.lines) at ≡ Some c → IsLineConfig c
    each at c e =
        let h = within (own_configs place n.lines plan.lines) at c e in
        let k = at_index n.lines at (let same = count in omega (arith, h, same)) in
        let o = own_line_of plan place n is there at k.0 k.1 in
        let same : line_config place o.line_is ≡ c
        = same_Some (line_config place o.line_is) c (sym (config_at place n.lines plan.lines (own_there plan place n is there) at k.0 o.line_is k.1 o.there) ∙ e) in
        subst (λ (x : SwitchLineConfig). IsLineConfig x) same (record { params = o.params; not_standing = o.free })
