-- Nodes with users and switches: in a plan without a switch both nodes of each line have users. No node is both, and at
-- a place is one node.
use Rattle.std.proofs.Common.{◌≡◌, ◌≢◌, ℕ, List, [], Some, ap, ◌∙◌, subst}
use Rattle.std.specs.Prelude.{slice_get}
use Rattle.std.proofs.lemmas.Option.{same_Some}
use Rattle.link_timers.specs.declared.role.Role.TheVariants.{Dte, Dce}
use Rattle.packet_end.specs.Params.{AreParams}
use Rattle.net_events.specs.Network.{PlacedNode, PlacedSwitch, NetNode, User, Switching}
use Rattle.net_config.specs.NetPlan.{NewNode, Planned, PlannedUser, PlannedSwitch, NewLine, NetPlan, IsNewDte, IsEndPlan}
use Rattle.net_config.specs.NetPlan.{IsKindOfLine, IsPlan, AreUsers}

pub record UserLine (nodes : List Planned) (line : ℕ) (l : NewLine) : Type 0 where
  pub dte : NewNode
  pub dce : NewNode
  pub dte_there : slice_get nodes l.dte ≡ Some (PlannedUser dte)
  pub dce_there : slice_get nodes l.dce ≡ Some (PlannedUser dce)
  pub dte_line : dte.line ≡ line
  pub dce_line : dce.line ≡ line
  pub dte_role : dte.role ≡ Dte
  pub dce_role : dce.role ≡ Dce
  pub dte_made : IsNewDte dte.as_dte l.params
  pub no_address : l.address ≡ []
  pub apart : l.dte ≢ l.dce
  pub params : AreParams l.params

pub user_line : (plan : NetPlan) (line : ℕ) (l : NewLine) → IsPlan plan → AreUsers plan.nodes → slice_get plan.lines line ≡ Some l → UserLine plan.nodes line l
user_line plan line l is users at =
    let p = is.lines line l at in
    let dte = users l.dte p.dte p.dte_there in
    let dce = users l.dce p.dce p.dce_there in
    let at_dte : IsEndPlan line Dte (PlannedUser dte.0) = subst (IsEndPlan line Dte) dte.1 p.dte_stands in
    let at_dce : IsEndPlan line Dce (PlannedUser dce.0) = subst (IsEndPlan line Dce) dce.1 p.dce_stands in
    let from_user : IsKindOfLine l (PlannedUser dte.0) p.dce
    = subst (λ (x : Planned). IsKindOfLine l x p.dce) dte.1 p.kind in
    let kind : IsKindOfLine l (PlannedUser dte.0) (PlannedUser dce.0)
    = subst (IsKindOfLine l (PlannedUser dte.0)) dce.1 from_user in
    record {
      dte = dte.0;
      dce = dce.0;
      dte_there = p.dte_there ∙ ap Some dte.1;
      dce_there = p.dce_there ∙ ap Some dce.1;
      dte_line = at_dte.0;
      dce_line = at_dce.0;
      dte_role = at_dte.1;
      dce_role = at_dce.1;
      dte_made = kind.0;
      no_address = kind.1;
      apart = p.apart;
      params = p.params;
    }

abbrev planned_or : NewNode → Planned → NewNode
planned_or other (PlannedUser n) = n
planned_or other (PlannedSwitch n) = other

pub same_planned : (a b : NewNode) → Some (PlannedUser a) ≡ Some (PlannedUser b) → a ≡ b
same_planned a b e = ap (planned_or a) (same_Some (PlannedUser a) (PlannedUser b) e)

-- ---- nodes

abbrev user_or : PlacedNode → NetNode → PlacedNode
user_or other (User n) = n
user_or other (Switching n) = other

pub user_is : (a b : PlacedNode) → User a ≡ User b → a ≡ b
user_is a b e = ap (user_or a) e

pub same_user : (a b : PlacedNode) → Some (User a) ≡ Some (User b) → a ≡ b
same_user a b e = user_is a b (same_Some (User a) (User b) e)

switch_or : PlacedSwitch → NetNode → PlacedSwitch
switch_or other (User n) = other
switch_or other (Switching n) = n

pub switch_is : (a b : PlacedSwitch) → Switching a ≡ Switching b → a ≡ b
unfolding switch_or
switch_is a b e = ap (switch_or a) e

pub same_switch : (a b : PlacedSwitch) → Some (Switching a) ≡ Some (Switching b) → a ≡ b
same_switch a b e = switch_is a b (same_Some (Switching a) (Switching b) e)

abbrev IsUser : NetNode → Type 0
IsUser (User n) = Unit {0}
IsUser (Switching n) = ⊥

pub not_switch : (a : PlacedNode) (b : PlacedSwitch) → User a ≡ Switching b → ⊥
not_switch a b e = subst (λ (x : NetNode). IsUser x) e tt

pub not_both : (a : PlacedNode) (b : PlacedSwitch) → Some (User a) ≡ Some (Switching b) → ⊥
not_both a b e = not_switch a b (same_Some (User a) (Switching b) e)
