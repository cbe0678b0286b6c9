-- The plan of a network of switches, in the terms of the laws of paths, and the own lines of a switch that is made.
use Rattle.std.proofs.Common.{◌≡◌, ℕ, zero, suc, ◌+◌, ◌⊎◌, Bool, true, false, List, [], ◌∷◌, length, map, Option, Some, None, refl, sym, ap, ◌∙◌, subst, arith, inl, inr, true≢false, ◌<◌, ◌≤◌, ◌≢◌}
use Rattle.std.specs.Prelude.{slice_get, option_and_then, ◌==◌, IsTrue}
use Rattle.std.specs.List.{Contains}
use Rattle.std.proofs.lemmas.Bool.{ne_eqb}
use Rattle.std.proofs.lemmas.Option.{same_Some, none-some, slice_get_within}
use Rattle.link_timers.specs.declared.role.Role.{Role}
use Rattle.link_timers.specs.declared.role.Role.TheVariants.{Dte, Dce}
use Rattle.packet_codec.specs.Address.{MayBeDigits, are_decimal}
use Rattle.address_routes.specs.Routes.{line_for}
use Rattle.packet_codec.specs.Digits.{digits_or_none}
use Rattle.call_records.specs.Book.{address_of}
use Rattle.record_laws.proofs.Books.Basics.{get_there, eq_true, by_true, by_false}
use Rattle.joined_line.specs.declared.config.SwitchLineConfig.{SwitchLineConfig}
use Rattle.switch_lines.specs.Making.{IsConfig, IsLineConfig}
use Rattle.record_laws.specs.CallPaths.World.{Plan, AreAddressed, AreBetween}
use Rattle.record_laws.specs.CallPaths.Tree.{IsTree}
use Rattle.net_config.specs.NetPlan.{NewSwitch, Planned, PlannedUser, PlannedSwitch, NewLine, NetPlan, IsKindOfLine, IsLinePlan, HasEndAt, IsSwitchPlan, IsPlan}
use Rattle.net_config.specs.NetPlan.{switch_places}
use Rattle.net_events.specs.Opening.{role_on_line, line_config, found_config, own_configs, line_plan}

-- ---- the plan

-- of a line that is not there beyond so many places
abbrev pub end_place : (places : ℕ) → Option NewLine → Role → ℕ
end_place places None role = places
end_place places (Some l) Dte = l.dte
end_place places (Some l) Dce = l.dce

abbrev pub is_user : Option Planned → Bool
is_user None = true
is_user (Some (PlannedUser n)) = true
is_user (Some (PlannedSwitch n)) = false

abbrev pub end_is_user : List Planned → Option NewLine → Role → Bool
end_is_user nodes None role = true
end_is_user nodes (Some l) Dte = is_user (slice_get nodes l.dte)
end_is_user nodes (Some l) Dce = is_user (slice_get nodes l.dce)

abbrev pub address_on : Option NewLine → List ℕ
address_on None = []
address_on (Some l) = l.address

abbrev pub goes_on : Option Planned → Option (List ℕ) → Option ℕ
goes_on None called = None
goes_on (Some (PlannedUser n)) called = None
goes_on (Some (PlannedSwitch n)) called = option_and_then (λ own. slice_get n.lines own) (line_for n.routes (digits_or_none called))

abbrev pub plan_of : NetPlan → Plan
plan_of plan = record {
  node = λ line role. end_place (length plan.nodes) (slice_get plan.lines line) role;
  has_user = λ line role. end_is_user plan.nodes (slice_get plan.lines line) role;
  address = λ line. address_on (slice_get plan.lines line);
  route = λ place called. goes_on (slice_get plan.nodes place) called;
}

pub digits_of : (called : List ℕ) → digits_or_none (address_of called) ≡ called
digits_of [] = refl
digits_of (digit ∷ digits) = refl

-- ---- the two ends of a line

-- where the DTE is a switch or the DCE has users there is no address
no_address : (plan : NetPlan) → IsPlan plan → (line : ℕ) (l : NewLine) → slice_get plan.lines line ≡ Some l
    → (is_user (slice_get plan.nodes l.dte) ≡ false) ⊎ (is_user (slice_get plan.nodes l.dce) ≡ true) → l.address ≡ []
no_address plan is line l there e = let p : IsLinePlan plan.nodes line l = is.lines line l there in by p.dte p.dce p.dte_there p.dce_there p.kind e
  where
    by : (dte dce : Planned) → slice_get plan.nodes l.dte ≡ Some dte → slice_get plan.nodes l.dce ≡ Some dce → IsKindOfLine l dte dce
        → (is_user (slice_get plan.nodes l.dte) ≡ false) ⊎ (is_user (slice_get plan.nodes l.dce) ≡ true) → l.address ≡ []
    by (PlannedUser dte) (PlannedUser dce) at_dte at_dce kind e = kind.1
    by (PlannedUser dte) (PlannedSwitch dce) at_dte at_dce kind (inl e) = absurd (true≢false (sym (ap is_user at_dte) ∙ e))
    by (PlannedUser dte) (PlannedSwitch dce) at_dte at_dce kind (inr e) = absurd (true≢false (sym e ∙ ap is_user at_dce))
    by (PlannedSwitch dte) (PlannedSwitch dce) at_dte at_dce kind e = kind.0
    by (PlannedSwitch dte) (PlannedUser dce) at_dte at_dce kind e = absurd kind

pub are_addressed : (plan : NetPlan) → IsPlan plan → AreAddressed (plan_of plan)
are_addressed plan is line e = by (slice_get plan.lines line) refl e
  where
    by : (o : Option NewLine) → slice_get plan.lines line ≡ o → (end_is_user plan.nodes o Dte ≡ false) ⊎ (end_is_user plan.nodes o Dce ≡ true) → address_on o ≡ []
    by None there e = refl
    by (Some l) there e = no_address plan is line l there e

-- ---- the switches are a tree

-- a line of which a switch is the DTE is a trunk
record IsUpward (plan : NetPlan) (line : ℕ) (l : NewLine) : Type 0 where
  below : NewSwitch
  there : slice_get plan.nodes l.dte ≡ Some (PlannedSwitch below)
  rises : l.dce < l.dte

upward : (plan : NetPlan) → IsPlan plan → (line : ℕ) (l : NewLine) → slice_get plan.lines line ≡ Some l → is_user (slice_get plan.nodes l.dte) ≡ false → IsUpward plan line l
upward plan is line l there e = let p : IsLinePlan plan.nodes line l = is.lines line l there in by p.dte p.dce p.dte_there p.kind
  where
    by : (dte dce : Planned) → slice_get plan.nodes l.dte ≡ Some dte → IsKindOfLine l dte dce → IsUpward plan line l
    by (PlannedUser dte) dce at kind = absurd (true≢false (sym (ap is_user at) ∙ e))
    by (PlannedSwitch dte) (PlannedSwitch dce) at kind = record { below = dte; there = at; rises = kind.1 }
    by (PlannedSwitch dte) (PlannedUser dce) at kind = absurd kind

-- a line of which an end is without users is there
pub line_there : (plan : NetPlan) (line : ℕ) (role : Role) → end_is_user plan.nodes (slice_get plan.lines line) role ≡ false → (l : NewLine) × (slice_get plan.lines line ≡ Some l)
line_there plan line role e = by (slice_get plan.lines line) refl e
  where
    by : (o : Option NewLine) → slice_get plan.lines line ≡ o → end_is_user plan.nodes o role ≡ false → (l : NewLine) × (slice_get plan.lines line ≡ Some l)
    by None there off = absurd (true≢false off)
    by (Some l) there off = (l, there)

-- a node that is no user is a switch
pub switch_there : (nodes : List Planned) (place : ℕ) → is_user (slice_get nodes place) ≡ false → (n : NewSwitch) × (slice_get nodes place ≡ Some (PlannedSwitch n))
switch_there nodes place e = by (slice_get nodes place) refl e
  where
    by : (o : Option Planned) → slice_get nodes place ≡ o → is_user o ≡ false → (n : NewSwitch) × (slice_get nodes place ≡ Some (PlannedSwitch n))
    by None there off = absurd (true≢false off)
    by (Some (PlannedUser n)) there off = absurd (true≢false off)
    by (Some (PlannedSwitch n)) there off = (n, there)

-- the place of a switch is one of theirs
among_places : (nodes : List Planned) (first place : ℕ) (n : NewSwitch) → slice_get nodes place ≡ Some (PlannedSwitch n) → Contains {X = ℕ} (switch_places first nodes) (first + place)
among_places [] first place n at = absurd (none-some (PlannedSwitch n) at)
among_places (PlannedSwitch m ∷ nodes) first zero n at = (0, omega arith, omega arith)
among_places (PlannedUser m ∷ nodes) first zero n at = absurd (let bad : PlannedUser m ≡ PlannedSwitch n = same_Some (PlannedUser m) (PlannedSwitch n) at in cc)
among_places (PlannedUser m ∷ nodes) first (suc place) n at =
    let next : suc first + place ≡ first + suc place = omega arith in
    subst (λ (k : ℕ). Contains {X = ℕ} (switch_places (suc first) nodes) k) next (among_places nodes (suc first) place n at)
among_places (PlannedSwitch m ∷ nodes) first (suc place) n at =
    let next : suc first + place ≡ first + suc place = omega arith in
    let h = subst (λ (k : ℕ). Contains {X = ℕ} (switch_places (suc first) nodes) k) next (among_places nodes (suc first) place n at) in
    (suc h.0, (let less = h.1 in omega arith), h.2)

pub is_tree : (plan : NetPlan) → IsPlan plan → IsTree (plan_of plan) (switch_places 0 plan.nodes)
is_tree plan is = record {
  few = is.few_switches;
  at_switch = λ line role e.
      let l = line_there plan line role e in
      at_switch line role l.0 l.1 (sym (ap (λ (o : Option NewLine). end_is_user plan.nodes o role) l.1) ∙ e);
  rises = λ line t.
      let l = line_there plan line Dte t.dte in
      let u = upward plan is line l.0 l.1 (sym (ap (λ (o : Option NewLine). end_is_user plan.nodes o Dte) l.1) ∙ t.dte) in
      subst (λ (o : Option NewLine). end_place (length plan.nodes) o Dce < end_place (length plan.nodes) o Dte) (sym l.1) u.rises;
  one_up = λ line other t u e.
      let k = line_there plan line Dte t.dte in
      let l = line_there plan other Dte u.dte in
      let below = upward plan is line k.0 k.1 (sym (ap (λ (o : Option NewLine). end_is_user plan.nodes o Dte) k.1) ∙ t.dte) in
      is.one_up line other k.0 l.0 below.below k.1 l.1 below.there
      (sym (ap (λ (o : Option NewLine). end_place (length plan.nodes) o Dte) k.1) ∙ e ∙ ap (λ (o : Option NewLine). end_place (length plan.nodes) o Dte) l.1);
}
  where
    among : (place : ℕ) → is_user (slice_get plan.nodes place) ≡ false → Contains {X = ℕ} (switch_places 0 plan.nodes) place
    among place off =
        let n = switch_there plan.nodes place off in
        let same : 0 + place ≡ place = omega arith in
        subst (λ (k : ℕ). Contains {X = ℕ} (switch_places 0 plan.nodes) k) same (among_places plan.nodes 0 place n.0 n.1)

    at_switch : (line : ℕ) (role : Role) (l : NewLine) → slice_get plan.lines line ≡ Some l → end_is_user plan.nodes (Some l) role ≡ false
        → Contains {X = ℕ} (switch_places 0 plan.nodes) (end_place (length plan.nodes) (slice_get plan.lines line) role)
    at_switch line Dte l there off = subst (λ (o : Option NewLine). Contains {X = ℕ} (switch_places 0 plan.nodes) (end_place (length plan.nodes) o Dte)) (sym there) (among l.dte off)
    at_switch line Dce l there off = subst (λ (o : Option NewLine). Contains {X = ℕ} (switch_places 0 plan.nodes) (end_place (length plan.nodes) o Dce)) (sym there) (among l.dce off)

-- ---- a line of a switch

-- the switch of this place is at the end of its role
pub record OwnLine (plan : NetPlan) (place line : ℕ) : Type 0 where
  pub l : NewLine
  pub there : slice_get plan.lines line ≡ Some l
  pub at_end : end_place (length plan.nodes) (Some l) (role_on_line place l) ≡ place
  pub is : IsLinePlan plan.nodes line l
  pub digits : MayBeDigits l.address
  pub free : l.params.standing ≡ false

pub dce_role : (place : ℕ) (l : NewLine) → l.dce ≡ place → role_on_line place l ≡ Dce
dce_role place l e = by_true (l.dce == place) Dce Dte (eq_true l.dce place e)

pub dte_role : (place : ℕ) (l : NewLine) → l.dte ≢ l.dce → l.dte ≡ place → role_on_line place l ≡ Dte
dte_role place l apart e = by_false (l.dce == place) Dce Dte (ne_eqb l.dce place (λ same. apart (e ∙ sym same)))

abbrev WithLine : NewLine → Type 0
WithLine l = MayBeDigits l.address × (l.params.standing ≡ false)

no_digits : (l : NewLine) → l.address ≡ [] → l.params.standing ≡ false → WithLine l
no_digits l none free = (
  (let few : 0 ≤ 15 = omega arith in subst (λ (xs : List ℕ). length xs ≤ 15) (sym none) few, subst (λ (xs : List ℕ). IsTrue (are_decimal xs)) (sym none) refl),
  free,
)

-- a line of which an end is without users has one, or none, and no call stands there
line_with_switches : (plan : NetPlan) → IsPlan plan → (line : ℕ) (l : NewLine) → slice_get plan.lines line ≡ Some l
    → (is_user (slice_get plan.nodes l.dte) ≡ false) ⊎ (is_user (slice_get plan.nodes l.dce) ≡ false) → WithLine l
line_with_switches plan is line l there e = let p : IsLinePlan plan.nodes line l = is.lines line l there in by p.dte p.dce p.dte_there p.dce_there p.kind e
  where
    by : (dte dce : Planned) → slice_get plan.nodes l.dte ≡ Some dte → slice_get plan.nodes l.dce ≡ Some dce → IsKindOfLine l dte dce
        → (is_user (slice_get plan.nodes l.dte) ≡ false) ⊎ (is_user (slice_get plan.nodes l.dce) ≡ false) → WithLine l
    by (PlannedUser dte) (PlannedUser dce) at_dte at_dce kind (inl e) = absurd (true≢false (sym (ap is_user at_dte) ∙ e))
    by (PlannedUser dte) (PlannedUser dce) at_dte at_dce kind (inr e) = absurd (true≢false (sym (ap is_user at_dce) ∙ e))
    by (PlannedUser dte) (PlannedSwitch dce) at_dte at_dce kind e = ((kind.1.1, kind.1.2), kind.2)
    by (PlannedSwitch dte) (PlannedSwitch dce) at_dte at_dce kind e = no_digits l kind.0 kind.2
    by (PlannedSwitch dte) (PlannedUser dce) at_dte at_dce kind e = absurd kind

pub own_line : (plan : NetPlan) (place : ℕ) (n : NewSwitch) → IsPlan plan → slice_get plan.nodes place ≡ Some (PlannedSwitch n)
    → (own line : ℕ) → slice_get n.lines own ≡ Some line → OwnLine plan place line
own_line plan place n is at own line own_at = by h.at_end
  where
    h : HasEndAt plan.lines place line
    h = (is.nodes place (PlannedSwitch n) at).each own line own_at

    l : NewLine
    l = h.line_is

    p : IsLinePlan plan.nodes line l
    p = is.lines line l h.there

    -- at the end of this role
    found : (role : Role) → role_on_line place l ≡ role → end_place (length plan.nodes) (Some l) role ≡ place → WithLine l → OwnLine plan place line
    found role same e w = record {
      l = l;
      there = h.there;
      at_end = ap (λ (r : Role). end_place (length plan.nodes) (Some l) r) same ∙ e;
      is = p;
      digits = w.0;
      free = w.1;
    }

    by : (l.dte ≡ place) ⊎ (l.dce ≡ place) → OwnLine plan place line
    by (inl e) = found Dte (dte_role place l p.apart e) e
        (line_with_switches plan is line l h.there (inl (ap is_user (ap (λ k. slice_get plan.nodes k) e ∙ at))))
    by (inr e) = found Dce (dce_role place l e) e
        (line_with_switches plan is line l h.there (inr (ap is_user (ap (λ k. slice_get plan.nodes k) e ∙ at))))

-- ---- the lines that it is made of

-- each own line is a line of the network
abbrev AllThere : (own : List ℕ) → List NewLine → Type 0
AllThere own lines = (k line : ℕ) → slice_get own k ≡ Some line → (l : NewLine) × (slice_get lines line ≡ Some l)

configs_at : (place : ℕ) (own : List ℕ) (lines : List NewLine) → AllThere own lines → (k line : ℕ) (l : NewLine) → slice_get own k ≡ Some line → slice_get lines line ≡ Some l
    → slice_get (own_configs place own lines) k ≡ Some (line_config place l)
configs_at place [] lines all k line l at there = absurd (none-some line at)
configs_at place (x ∷ own) lines all zero line l at there =
    ap (λ o. slice_get (found_config place o (own_configs place own lines)) 0) (ap (λ i. slice_get lines i) (same_Some x line at) ∙ there)
configs_at place (x ∷ own) lines all (suc k) line l at there =
    let f = all 0 x refl in
    ap (λ o. slice_get (found_config place o (own_configs place own lines)) (suc k)) f.1
    ∙ configs_at place own lines (λ j m e. all (suc j) m e) k line l at there

configs_count : (place : ℕ) (own : List ℕ) (lines : List NewLine) → AllThere own lines → length (own_configs place own lines) ≡ length own
configs_count place [] lines all = refl
configs_count place (x ∷ own) lines all =
    let f = all 0 x refl in
    ap (λ o. length (found_config place o (own_configs place own lines))) f.1 ∙ ap suc (configs_count place own lines (λ j m e. all (suc j) m e))

-- the own lines of this switch
pub record Configs (plan : NetPlan) (place : ℕ) (n : NewSwitch) : Type 0 where
  pub count : length (own_configs place n.lines plan.lines) ≡ length n.lines
  pub each : (own line : ℕ) (at : slice_get n.lines own ≡ Some line) → (o : OwnLine plan place line) × (slice_get (own_configs place n.lines plan.lines) own ≡ Some (line_config place o.l))
  pub back : (own : ℕ) (c : SwitchLineConfig) → slice_get (own_configs place n.lines plan.lines) own ≡ Some c
      → (line : ℕ) × (o : OwnLine plan place line) × (slice_get n.lines own ≡ Some line) × (c ≡ line_config place o.l)

pub configs : (plan : NetPlan) (place : ℕ) (n : NewSwitch) → IsPlan plan → slice_get plan.nodes place ≡ Some (PlannedSwitch n) → Configs plan place n
configs plan place n is at = record {
  count = count;
  each = each;
  back = λ own c got.
      let x = get_there n.lines own (let within = slice_get_within (own_configs place n.lines plan.lines) own c got in let many = count in omega arith) in
      let e = each own x.0 x.1 in
      (x.0, e.0, x.1, same_Some c (line_config place e.0.l) (sym got ∙ e.1));
}
  where
    all : AllThere n.lines plan.lines
    all k line own_at = let o = own_line plan place n is at k line own_at in (o.l, o.there)

    count : length (own_configs place n.lines plan.lines) ≡ length n.lines
    count = configs_count place n.lines plan.lines all

    each : (own line : ℕ) → slice_get n.lines own ≡ Some line → (o : OwnLine plan place line) × (slice_get (own_configs place n.lines plan.lines) own ≡ Some (line_config place o.l))
    each own line own_at =
        let o = own_line plan place n is at own line own_at in (o, configs_at place n.lines plan.lines all own line o.l own_at o.there)

pub is_config : (plan : NetPlan) (place : ℕ) (n : NewSwitch) → IsPlan plan → slice_get plan.nodes place ≡ Some (PlannedSwitch n) → IsConfig (own_configs place n.lines plan.lines)
is_config plan place n is at =
    let sw : IsSwitchPlan plan.lines place n = is.nodes place (PlannedSwitch n) at in
    let c : Configs plan place n = configs plan place n is at in
    record {
      least = (let few = sw.least in let many = c.count in omega arith);
      most = (let few = sw.most in let many = c.count in omega arith);
      each = λ k x got.
          let b = c.back k x got in
          subst IsLineConfig (sym b.3) (record { params = b.1.is.params; not_standing = b.1.free });
    }

-- ---- the lines are between the nodes of the plan

pub are_between : (plan : NetPlan) (first : ℕ) (lines : List NewLine)
    → ((j : ℕ) (l : NewLine) → slice_get lines j ≡ Some l → slice_get plan.lines (first + j) ≡ Some l)
    → AreBetween (plan_of plan) first (map line_plan lines)
are_between plan first [] all = tt
are_between plan first (l ∷ lines) all =
    let zero_more : first ≡ first + 0 = omega arith in
    let here : slice_get plan.lines first ≡ Some l = ap (λ k. slice_get plan.lines k) zero_more ∙ all 0 l refl in (
      ap (λ o. end_place (length plan.nodes) o Dte) (sym here),
      (
        ap (λ o. end_place (length plan.nodes) o Dce) (sym here),
        (
          ap address_on (sym here),
          are_between plan (suc first) lines (λ j m at.
              let next : suc first + j ≡ first + suc j = omega arith in ap (λ k. slice_get plan.lines k) next ∙ all (suc j) m at),
        ),
      ),
    )
