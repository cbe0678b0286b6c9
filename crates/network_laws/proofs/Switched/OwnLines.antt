-- The own lines of a switch of a network, and its roles on them.
use Rattle.std.proofs.Common.{◌≡◌, ◌≢◌, ℕ, zero, suc, ◌<◌, ◌==◌, if◌then◌else◌, false, true≢false, List, [], ◌∷◌, length, Option, Some, refl, sym, ap, ◌∙◌, subst, inl, inr}
use Rattle.std.specs.Prelude.{◌⊎◌, slice_get}
use Rattle.std.proofs.lemmas.Option.{none-some, same_Some, slice_get_within}
use Rattle.std.proofs.lemmas.Bool.{ne_eqb}
use Rattle.link_timers.specs.declared.role.Role.{Role}
use Rattle.link_timers.specs.declared.role.Role.TheVariants.{Dte, Dce}
use Rattle.link_timers.specs.Role.{other_of}
use Rattle.record_laws.proofs.Books.Basics.{get_there, number_is, eq_true, by_true, by_false}
use Rattle.user_nodes.specs.Node.{NodeState}
use Rattle.record_laws.specs.CallPaths.World.{Plan}
use Rattle.switched_call_laws.specs.SwitchPaths.Sight.{Switched, Switches, found_line, network_line, role_at}
use Rattle.switched_call_laws.specs.SwitchPaths.Network.{IsOther, IsPlanned}
use Rattle.net_events.specs.Network.{PlacedSwitch, NetNode, User, Switching, NetLine, Network, place_at, own_role, StandsAtLines}
use Rattle.network_laws.specs.Switched.Plans.{IsPlanOf}
use Rattle.network_laws.specs.Switched.IsSwitched.{IsEndOf, EndStands}

-- ---- which lines are its own

-- an own line of a switch is this line of the network, or none is
pub own_or_none : (lines : List ℕ) (line : ℕ) → ((own : ℕ) × (slice_get lines own ≡ Some line)) ⊎ ((own : ℕ) → slice_get lines own ≡ Some line → ⊥)
own_or_none [] line = inr (λ own e. none-some line e)
own_or_none (x ∷ xs) line = elim (number_is x line) [
  | inl e ↦ inl (0, ap (λ (n : ℕ). Some n) e)
  | inr ne ↦ elim (own_or_none xs line) [
    | inl own ↦ inl (suc own.0, own.1)
    | inr none ↦ inr (none_of ne none)
  ]
]
  where
    none_of : (x ≡ line → ⊥) → ((own : ℕ) → slice_get xs own ≡ Some line → ⊥) → (own : ℕ) → slice_get (x ∷ xs) own ≡ Some line → ⊥
    none_of ne none zero e = ne (same_Some x line e)
    none_of ne none (suc own) e = none own e

pub line_named : (at : List ℕ) (own line : ℕ) → slice_get at own ≡ Some line → network_line at own ≡ line
line_named at own line e = ap (λ (o : Option ℕ). found_line o) e

-- a line that none of the own lines is
pub none_other : (lines : List ℕ) (line : ℕ) → ((own : ℕ) → slice_get lines own ≡ Some line → ⊥) → IsOther lines line
none_other lines line none k less e =
    let x = get_there lines k less in
    none k (x.1 ∙ ap (λ (m : ℕ). Some m) (sym (ap found_line x.1) ∙ e))

-- what stands at a switch's end of a line is on an own line
pub own_of_switch : (nodes : List NetNode) (line place : ℕ) (x : NodeState) (m : PlacedSwitch) → EndStands nodes line place x → slice_get nodes place ≡ Some (Switching m)
    → (own : ℕ) × (slice_get m.lines own ≡ Some line)
own_of_switch nodes line place x m h there =
    let is : h.node ≡ Switching m = same_Some h.node (Switching m) (sym h.there ∙ there) in
    let end : IsEndOf (Switching m) line x = subst (λ (n : NetNode). IsEndOf n line x) is h.end in
    (end.0, end.2)

-- where the plan has no user at an end, a switch stands there
pub switch_there : (plan : Plan) (s : Network) → IsPlanOf s plan → (line : ℕ) (l : NetLine) (role : Role) {x : NodeState} → slice_get s.lines line ≡ Some l → EndStands s.nodes line (place_at role l) x
    → plan.has_user line role ≡ false → (m : PlacedSwitch) × (slice_get s.nodes (place_at role l) ≡ Some (Switching m))
switch_there plan s is line l role at h switch = by h.node h.there
  where
    by : (n : NetNode) → slice_get s.nodes (place_at role l) ≡ Some n → (m : PlacedSwitch) × (slice_get s.nodes (place_at role l) ≡ Some (Switching m))
    by (User u) there = absurd (true≢false (sym (is.user line l role (User u) at there) ∙ switch))
    by (Switching m) there = (m, there)

-- ---- roles

pub same_role : (l : NetLine) → l.dte ≢ l.dce → (a b : Role) → place_at a l ≡ place_at b l → a ≡ b
same_role l apart Dte Dte e = refl
same_role l apart Dce Dce e = refl
same_role l apart Dte Dce e = absurd (apart e)
same_role l apart Dce Dte e = absurd (apart (sym e))

pub other_role_is : (a b : Role) → a ≢ b → other_of a ≡ b
other_role_is Dte Dte ne = absurd (ne refl)
other_role_is Dte Dce ne = refl
other_role_is Dce Dte ne = refl
other_role_is Dce Dce ne = absurd (ne refl)

-- the role that the laws of paths know is that of its end
pub role_of_own : (s : Network) (plan : Plan) → IsPlanOf s plan → (place : ℕ) (m : PlacedSwitch) (x : Switched) (own_lines : List ℕ)
    → IsPlanned plan place own_lines (role_at x) x.switch → own_lines ≡ m.lines → StandsAtLines s.lines place m → ((line : ℕ) (l : NetLine) → slice_get s.lines line ≡ Some l → l.dte ≢ l.dce)
    → (own line : ℕ) (l : NetLine) → slice_get m.lines own ≡ Some line → slice_get s.lines line ≡ Some l → role_at x own ≡ own_role m.switch own
role_of_own s plan plan_is place m x own_lines planned are st apart own line l own_is at =
    let less : own < length own_lines = subst (λ (ls : List ℕ). own < length ls) (sym are) (slice_get_within m.lines own line own_is) in
    let named : network_line own_lines own ≡ line = ap (λ (ls : List ℕ). network_line ls own) are ∙ line_named m.lines own line own_is in
    let e = st.each own line own_is in
    let r : Role = role_at x own in
    same_role l (apart line l at) r (own_role m.switch own)
    (sym (plan_is.node line l r at) ∙ ap (λ (k : ℕ). plan.node k r) (sym named) ∙ planned.placed own less
    ∙ sym e.at_end ∙ ap (λ (v : NetLine). place_at (own_role m.switch own) v) (same_Some e.line_is l (sym e.there ∙ at)))

-- ---- switches by place

pub if_here : (place k : ℕ) (y : Switched) (xs : Switches) → place ≡ k → (if place == k then Some y else xs place) ≡ Some y
if_here place k y xs e = by_true (place == k) (Some y) (xs place) (eq_true place k e)

pub if_there : (place k : ℕ) (y : Switched) (xs : Switches) → place ≢ k → (if place == k then Some y else xs place) ≡ xs place
if_there place k y xs ne = by_false (place == k) (Some y) (xs place) (ne_eqb place k ne)
