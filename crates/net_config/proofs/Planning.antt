-- A network that is served can be made as it is planned.
use Rattle.std.proofs.Common.{◌≡◌, ◌≢◌, ℕ, zero, suc, ◌+◌, ◌≤◌, arith, Ok, Err, inl, inr, Bool, true, false, cond, not, ◌==◌, ◌&&◌, ◌||◌, List, length, [], ◌∷◌, map, Some, refl, sym, ap, subst, ◌∙◌, true≢false}
use Rattle.std.proofs.lemmas.List.{length-map}
use Rattle.std.specs.Prelude.{slice_get, option_map, string_bytes, nat_le, nat_lt, is_ok}
use Rattle.std.specs.List.{list_any, filter}
use Rattle.std.proofs.lemmas.Option.{none-some, same_Some, slice_get-map}
use Rattle.std.proofs.lemmas.Bool.{cases_Bool, ltb-true, ltb-false, eqb-true, and_parts, or_cases, or_left, or_right, false_from_ne_true}
use Rattle.std.proofs.lemmas.Map.Keys.{any_passes_from_place}
use Rattle.link_timers.specs.declared.role.Role.{Role}
use Rattle.link_timers.specs.declared.role.Role.TheVariants.{Dte, Dce}
use Rattle.packet_codec.specs.Address.{AreDigits, address_of, are_digits, digit_values}
use Rattle.packet_codec.specs.declared.address.AddressFault.TheVariants.{Empty, TooLong, NotADigit}
use Rattle.packet_codec.proofs.Addresses.{AreDigits-digit_values}
use Rattle.packet_end.specs.declared.params.EndParams.{EndParams}
use Rattle.net_config.specs.NetPlan.{NewDte, NewPad, NewHost, Planned, PlannedUser, PlannedSwitch, NewLine}
use Rattle.net_config.specs.NetPlan.{IsNewDte, IsEndPlan, IsKindOfLine, IsLinePlan, HasEndAt, IsSwitchPlan, IsNodePlan}
use Rattle.net_config.specs.NetPlan.{switch_places}
use Rattle.net_config.specs.Served.{same_text, is_named, has_dte, has_end, place_of, is_switch, is_pad}
use Rattle.net_config.specs.Served.{is_dce_named, is_switch_named, is_pad_named, is_from_switch, is_at_switch}
use Rattle.net_config.specs.Served.{leads_back, is_address, may_stand, is_served, is_from, is_kind_served}
use Rattle.net_config.specs.Plan.{role_of, initial_params, new_user, lines_from, new_switch, planned_as, planned_node}
use Rattle.net_config.specs.Plan.{digits_in, end_params, new_line, plan_of, StandsAlone, PlanLaw}
use Rattle.net_config.specs.declared.config.Config.{Config}
use Rattle.net_config.specs.declared.config.NodeConfig.{NodeConfig}
use Rattle.net_config.specs.declared.config.NodeKind.{NodeKind}
use Rattle.net_config.specs.declared.config.NodeKind.TheVariants as node_kind
use Rattle.net_config.specs.declared.config.TerminalsConfig.{TerminalsConfig}
use Rattle.net_config.specs.declared.config.LineConfig.{LineConfig}
use Rattle.net_config.proofs.Counting.{any_there, one_there, place_is, same_place}
use Rattle.net_config.proofs.Naming.{same_so, so_same, has_users, LineIsServed, within_params, served_node, served_line}
use Rattle.net_config.proofs.Naming.{one_line, some_lines, few_switches, from_so, node_place, line_place}
use Rattle.net_config.proofs.Own.{Ends, line_ends, lines_count, lines_apart, line_found}

-- ---- elements of a list that was mapped

pub record Mapped {A B : Type 0} (f : A → B) (xs : List A) (i : ℕ) (y : B) : Type 0 where
  pub item : A
  pub there : slice_get xs i ≡ Some item
  pub value : f item ≡ y

mapped_there : {A B : Type 0} (f : A → B) (xs : List A) (i : ℕ) (y : B) → slice_get (map f xs) i ≡ Some y
    → Mapped f xs i y
mapped_there f [] i y e = absurd (none-some y e)
mapped_there f (x ∷ xs) zero y e = record { item = x; there = refl; value = same_Some (f x) y e }
mapped_there f (x ∷ xs) (suc i) y e =
    let m = mapped_there f xs i y e in
    record { item = m.item; there = m.there; value = m.value }

there_mapped : {A B : Type 0} (f : A → B) (xs : List A) (i : ℕ) (x : A) → slice_get xs i ≡ Some x
    → slice_get (map f xs) i ≡ Some (f x)
there_mapped f xs i x e = slice_get-map f xs i ∙ ap (option_map f) e

-- ---- what a node is planned as

-- a PAD that is served has 1 to 16 terminals
pad_made : (p : TerminalsConfig) → is_kind_served (node_kind.Pad p) ≡ true → (line : EndParams) → line.flow.size ≡ 128
    → IsNewDte (NewPad (initial_params p) p.terminals) line
pad_made p served line size =
    let parts = and_parts (is_from 1 16 p.terminals && nat_le p.speed 255) _ served in
    let terminals = from_so 1 16 p.terminals (and_parts (is_from 1 16 p.terminals) (nat_le p.speed 255) parts.0).0 in
    (terminals.least, terminals.most, size)

-- one with users
pub record UserAs (c : Config) (name : List ℕ) (k : NodeKind) : Type 0 where
  pub dte : NewDte
  pub made : (line : EndParams) → (is_pad k ≡ true → line.flow.size ≡ 128) → IsNewDte dte line
  pub as_user : planned_as c name k ≡ PlannedUser (new_user c.lines.items name dte)

user_as : (c : Config) (name : List ℕ) (k : NodeKind) → not (is_switch k) ≡ true → is_kind_served k ≡ true
    → UserAs c name k
user_as c name (node_kind.Pad p) users served =
    record { dte = NewPad (initial_params p) p.terminals; made = λ line size. pad_made p served line (size refl); as_user = refl }
user_as c name node_kind.Host users served = record { dte = NewHost; made = λ line size. tt; as_user = refl }
user_as c name node_kind.Switch users served = absurd (true≢false (sym users))

-- a switch
switch_as : (c : Config) (name : List ℕ) (k : NodeKind) → is_switch k ≡ true
    → planned_as c name k ≡ PlannedSwitch (new_switch c name)
switch_as c name (node_kind.Pad p) h = absurd (true≢false (sym h))
switch_as c name node_kind.Host h = absurd (true≢false (sym h))
switch_as c name node_kind.Switch h = refl

-- ---- how many are planned as switches

counted : (c : Config) (name : List ℕ) (k : NodeKind) (first : ℕ) (nodes : List Planned) (n : NodeConfig)
    (kept : List NodeConfig) → length (switch_places (suc first) nodes) ≡ length kept
    → length (switch_places first (planned_as c name k ∷ nodes)) ≡ length (cond (is_switch k) (n ∷ kept) kept)
counted c name (node_kind.Pad p) first nodes n kept h = h
counted c name node_kind.Host first nodes n kept h = h
counted c name node_kind.Switch first nodes n kept h = ap suc h

switches_counted : (c : Config) (first : ℕ) (nodes : List NodeConfig)
    → length (switch_places first (map (planned_node c) nodes)) ≡ length (filter (λ n. is_switch n.kind) nodes)
switches_counted c first [] = refl
switches_counted c first (n ∷ nodes) =
    counted c (string_bytes n.name) n.kind first (map (planned_node c) nodes) n (filter (λ m. is_switch m.kind) nodes)
    (switches_counted c (suc first) nodes)

-- ---- a line and the nodes at its ends

-- a node of the name, and its place
pub record NodeOf (c : Config) (name : List ℕ) : Type 0 where
  pub place : ℕ
  pub node : NodeConfig
  pub there : slice_get c.nodes.items place ≡ Some node
  pub name_is : string_bytes node.name ≡ name

dte_of : (c : Config) (l : LineConfig) → LineIsServed c l → NodeOf c (string_bytes l.dte)
dte_of c l h =
    let p = any_there (is_named (string_bytes l.dte)) c.nodes.items h.dte in
    record {
      place = p.place;
      node = p.item;
      there = p.there;
      name_is = same_so (string_bytes p.item.name) (string_bytes l.dte) p.passes;
    }

dce_of : (c : Config) (l : LineConfig) → LineIsServed c l → NodeOf c (string_bytes l.dce)
dce_of c l h =
    let p = any_there (is_dce_named (string_bytes l.dce)) c.nodes.items h.dce in
    let named = (and_parts (is_named (string_bytes l.dce) p.item) (not (is_pad p.item.kind)) p.passes).0 in
    record {
      place = p.place;
      node = p.item;
      there = p.there;
      name_is = same_so (string_bytes p.item.name) (string_bytes l.dce) named;
    }

-- any two of the same name are the same
same_node : (c : Config) → is_served c ≡ true → (name : List ℕ) (d e : NodeOf c name) → d.node ≡ e.node
same_node c served name d e =
    let place : d.place ≡ e.place
    = sym (node_place c served name d.place d.node d.there d.name_is)
    ∙ node_place c served name e.place e.node e.there e.name_is in
    same_Some d.node e.node (sym d.there ∙ ap (slice_get c.nodes.items) place ∙ e.there)

-- the node that a line names stands in the plan where the line says
planned_at : (c : Config) → is_served c ≡ true → (name : List ℕ) (d : NodeOf c name)
    → slice_get (plan_of c).nodes (place_of (is_named name) c.nodes.items) ≡ Some (planned_node c d.node)
planned_at c served name d =
    subst (λ i. slice_get (plan_of c).nodes i ≡ Some (planned_node c d.node))
    (sym (node_place c served name d.place d.node d.there d.name_is))
    (there_mapped (planned_node c) c.nodes.items d.place d.node d.there)

has_own_dte : (l : LineConfig) (name : List ℕ) → name ≡ string_bytes l.dte → has_dte name l ≡ true
has_own_dte l name e = so_same (string_bytes l.dte) name (sym e)

dte_ends : (l : LineConfig) (name : List ℕ) → name ≡ string_bytes l.dte → has_end name l ≡ true
dte_ends l name e = or_left (has_dte name l) (same_text (string_bytes l.dce) name) (has_own_dte l name e)

dce_ends : (l : LineConfig) (name : List ℕ) → name ≡ string_bytes l.dce → has_end name l ≡ true
dce_ends l name e =
    or_right (has_dte name l) (same_text (string_bytes l.dce) name) (so_same (string_bytes l.dce) name (sym e))

dte_role : (c : Config) (j : ℕ) (l : LineConfig) → slice_get c.lines.items j ≡ Some l
    → (name : List ℕ) → name ≡ string_bytes l.dte → role_of c.lines.items name ≡ Dte
dte_role c j l there name e =
    ap (λ b. cond b Dte Dce) (any_passes_from_place (has_dte name) c.lines.items j l there (has_own_dte l name e))

-- no line has the node with users as its DTE that is the DCE of its own
not_dte : (c : Config) → is_served c ≡ true → (j : ℕ) (l : LineConfig) → slice_get c.lines.items j ≡ Some l
    → LineIsServed c l → (d : NodeOf c (string_bytes l.dce)) → has_users d.node ≡ true
    → list_any (has_dte (string_bytes d.node.name)) c.lines.items ≡ true → ⊥
not_dte c served j l there h d users any =
    let name = string_bytes d.node.name in
    let p = any_there (has_dte name) c.lines.items any in
    let ends = or_left (has_dte name p.item) (same_text (string_bytes p.item.dce) name) p.passes in
    let here = line_place c served d.place d.node d.there users p.place p.item p.there ends in
    let own = line_place c served d.place d.node d.there users j l there (dce_ends l name d.name_is) in
    let same : p.place ≡ j = sym here ∙ own in
    let line : p.item ≡ l
    = same_Some p.item l (sym p.there ∙ ap (slice_get c.lines.items) same ∙ there) in
    let as_dte : same_text (string_bytes l.dte) name ≡ true = ap (has_dte name) (sym line) ∙ p.passes in
    let as_dce = so_same (string_bytes l.dte) (string_bytes l.dce) (same_so (string_bytes l.dte) name as_dte ∙ d.name_is) in
    true≢false (sym as_dce ∙ h.apart)

dce_role : (c : Config) → is_served c ≡ true → (j : ℕ) (l : LineConfig) → slice_get c.lines.items j ≡ Some l
    → LineIsServed c l → (d : NodeOf c (string_bytes l.dce)) → has_users d.node ≡ true
    → role_of c.lines.items (string_bytes d.node.name) ≡ Dce
dce_role c served j l there h d users =
    ap (λ b. cond b Dte Dce)
    (false_from_ne_true (list_any (has_dte (string_bytes d.node.name)) c.lines.items) (not_dte c served j l there h d users))

-- the nodes of a line stand at two places
ends_apart : (c : Config) → is_served c ≡ true → (l : LineConfig) → LineIsServed c l
    → NodeOf c (string_bytes l.dte) → NodeOf c (string_bytes l.dce)
    → place_of (is_named (string_bytes l.dte)) c.nodes.items ≢ place_of (is_named (string_bytes l.dce)) c.nodes.items
ends_apart c served l h dte dce e =
    let dte_place = node_place c served (string_bytes l.dte) dte.place dte.node dte.there dte.name_is in
    let dce_place = node_place c served (string_bytes l.dce) dce.place dce.node dce.there dce.name_is in
    let place : dte.place ≡ dce.place = sym dte_place ∙ e ∙ dce_place in
    let node : dte.node ≡ dce.node
    = same_Some dte.node dce.node (sym dte.there ∙ ap (slice_get c.nodes.items) place ∙ dce.there) in
    let name : string_bytes l.dte ≡ string_bytes l.dce
    = sym dte.name_is ∙ ap (λ n. string_bytes n.name) node ∙ dce.name_is in
    true≢false (sym (so_same (string_bytes l.dte) (string_bytes l.dce) name) ∙ h.apart)

both_true : (a b : Bool) → a ≡ true → b ≡ true → (a && b) ≡ true
both_true true b e h = h
both_true false b e h = absurd (true≢false (sym e))

-- ---- lines of switches

-- a switch has the name exactly where the node of the name is one
switch_named : (c : Config) (name : List ℕ) (d : NodeOf c name) → is_switch d.node.kind ≡ true
    → list_any (is_switch_named name) c.nodes.items ≡ true
switch_named c name d h =
    any_passes_from_place (is_switch_named name) c.nodes.items d.place d.node d.there
    (both_true (is_named name d.node) (is_switch d.node.kind) (so_same (string_bytes d.node.name) name d.name_is) h)

no_switch_named : (c : Config) → is_served c ≡ true → (name : List ℕ) (d : NodeOf c name)
    → is_switch d.node.kind ≡ false → list_any (is_switch_named name) c.nodes.items ≡ false
no_switch_named c served name d users =
    false_from_ne_true (list_any (is_switch_named name) c.nodes.items) (λ any.
    let p = any_there (is_switch_named name) c.nodes.items any in
    let parts = and_parts (is_named name p.item) (is_switch p.item.kind) p.passes in
    let other : NodeOf c name = record {
      place = p.place;
      node = p.item;
      there = p.there;
      name_is = same_so (string_bytes p.item.name) name parts.0;
    } in
    true≢false (sym parts.1 ∙ ap (λ (n : NodeConfig). is_switch n.kind) (same_node c served name other d) ∙ users))

-- a line from a switch is at a switch, which stands earlier
up_from : (from at back : Bool) → (not from || (at && back)) ≡ true → from ≡ true → (at && back) ≡ true
up_from true at back h e = h
up_from false at back h e = absurd (true≢false (sym e))

-- ---- the packet size of a line

-- from a PAD it is 128
pad_size : (c : Config) (l : LineConfig) → LineIsServed c l → (d : NodeOf c (string_bytes l.dte))
    → is_pad d.node.kind ≡ true → l.size ≡ 128
pad_size c l h d pad =
    let name = string_bytes l.dte in
    let named = any_passes_from_place (is_pad_named name) c.nodes.items d.place d.node d.there (both_true (is_named name d.node) (is_pad d.node.kind) (so_same (string_bytes d.node.name) name d.name_is) pad) in
    eqb-true l.size 128 (second (list_any (is_pad_named name) c.nodes.items) (l.size == 128) h.pad named)
  where
    second : (from right : Bool) → (not from || right) ≡ true → from ≡ true → right ≡ true
    second true right h e = h
    second false right h e = absurd (true≢false (sym e))

-- ---- the address of a line

-- it has the first of two where it is from a node with users to a switch, and else the second
to_switch : (at from own none : Bool) → cond (at && not from) own none ≡ true → at ≡ true → from ≡ false → own ≡ true
to_switch true true own none h e f = absurd (true≢false f)
to_switch true false own none h e f = h
to_switch false from own none h e f = absurd (true≢false (sym e))

from_switch : (at from own none : Bool) → cond (at && not from) own none ≡ true → from ≡ true → none ≡ true
from_switch true true own none h e = h
from_switch false true own none h e = h
from_switch at false own none h e = absurd (true≢false (sym e))

to_user : (at from own none : Bool) → cond (at && not from) own none ≡ true → at ≡ false → none ≡ true
to_user true from own none h e = absurd (true≢false e)
to_user false from own none h e = h

-- a text of 1 to 15 digits names these
pub record Tested (none long digits : Bool) : Type 0 where
  pub some : none ≡ false
  pub short : long ≡ false
  pub all : digits ≡ true

tested : (values : List ℕ) (none long digits : Bool)
    → is_ok (cond none (Err Empty) (cond long (Err TooLong) (cond digits (Ok values) (Err NotADigit)))) ≡ true
    → Tested none long digits
tested values true long digits h = absurd (true≢false (sym h))
tested values false true digits h = absurd (true≢false (sym h))
tested values false false true h = record { some = refl; short = refl; all = refl }
tested values false false false h = absurd (true≢false (sym h))

not_empty : (text : List ℕ) → (length text == 0) ≡ false → 1 ≤ length text
not_empty [] h = absurd (true≢false h)
not_empty (x ∷ text) h = omega arith

is_digits : (text : List ℕ) → is_address text ≡ true → AreDigits (digits_in (address_of text))
is_digits text h =
    let values = digit_values text in
    let t = tested values (length text == 0) (nat_lt 15 (length text)) (are_digits text) h in
    let value : digits_in (address_of text) ≡ values
    = ap (λ b. digits_in (cond b (Err Empty) (cond (nat_lt 15 (length text)) (Err TooLong) (cond (are_digits text) (Ok values) (Err NotADigit))))) t.some
    ∙ ap (λ b. digits_in (cond b (Err TooLong) (cond (are_digits text) (Ok values) (Err NotADigit)))) t.short
    ∙ ap (λ b. digits_in (cond b (Ok values) (Err NotADigit))) t.all in
    subst AreDigits (sym value)
    (AreDigits-digit_values text (not_empty text t.some) (ltb-false 15 (length text) t.short) t.all)

no_digits : (text : List ℕ) → (length text == 0) ≡ true → digits_in (address_of text) ≡ []
no_digits text h =
    ap (λ b. digits_in (cond b (Err Empty) (cond (nat_lt 15 (length text)) (Err TooLong) (cond (are_digits text) (Ok (digit_values text)) (Err NotADigit))))) h

-- a line is not both at a switch and with a standing call
not_standing : (standing at : Bool) (one pad : Bool) → (not standing || (one && pad && not at)) ≡ true → at ≡ true
    → standing ≡ false
not_standing false at one pad h e = refl
not_standing true at one pad h e =
    absurd (true≢false (sym (and_parts (one && pad) (not at) h).1 ∙ ap not e))

-- ---- lines

-- the node of an end of a line stands there
end_stands : (c : Config) → is_served c ≡ true → (j : ℕ) (l : LineConfig) → slice_get c.lines.items j ≡ Some l
    → (name : List ℕ) (d : NodeOf c name) → has_end (string_bytes d.node.name) l ≡ true → (role : Role)
    → (has_users d.node ≡ true → role_of c.lines.items (string_bytes d.node.name) ≡ role)
    → IsEndPlan j role (planned_node c d.node)
end_stands c served j l there name d ends role role_is =
    elim (cases_Bool (is_switch d.node.kind)) [ inl q ↦ at_one q | inr q ↦ at_user q ]
  where
    at_one : is_switch d.node.kind ≡ true → IsEndPlan j role (planned_node c d.node)
    at_one q =
        let f = line_found 0 (string_bytes d.node.name) c.lines.items j l there ends in
        let zero_more : 0 + j ≡ j = omega arith in
        subst (IsEndPlan j role) (sym (switch_as c (string_bytes d.node.name) d.node.kind q))
        (f.own, f.there ∙ ap (λ n. Some n) zero_more)

    at_user : is_switch d.node.kind ≡ false → IsEndPlan j role (planned_node c d.node)
    at_user q =
        let users : has_users d.node ≡ true = ap not q in
        let kind = (served_node c served d.place d.node d.there).kind in
        let u = user_as c (string_bytes d.node.name) d.node.kind users kind in
        subst (IsEndPlan j role) (sym u.as_user)
        (line_place c served d.place d.node d.there users j l there ends, role_is users)

-- what kind of line it is
line_kind : (c : Config) → is_served c ≡ true → (l : LineConfig) → LineIsServed c l
    → (d : NodeOf c (string_bytes l.dte)) (e : NodeOf c (string_bytes l.dce))
    → IsKindOfLine (new_line c.nodes.items l) (planned_node c d.node) (planned_node c e.node)
line_kind c served l h d e = elim (cases_Bool (is_switch d.node.kind)) [
  | inl q ↦ trunk q
  | inr q ↦ elim (cases_Bool (is_switch e.node.kind)) [ inl w ↦ user_line q w | inr w ↦ between_users q w ]
]
  where
    standing : is_at_switch c.nodes.items l ≡ true → l.standing ≡ false
    standing is =
        not_standing l.standing (is_at_switch c.nodes.items l) (length c.lines.items == 1)
        (list_any (is_pad_named (string_bytes l.dte)) c.nodes.items) h.stands is

    as_dte : is_switch d.node.kind ≡ false → UserAs c (string_bytes d.node.name) d.node.kind
    as_dte q =
        user_as c (string_bytes d.node.name) d.node.kind (ap not q) (served_node c served d.place d.node d.there).kind

    made_on : (q : is_switch d.node.kind ≡ false) → IsNewDte (as_dte q).dte (end_params l)
    made_on q = (as_dte q).made (end_params l) (pad_size c l h d)

    trunk : is_switch d.node.kind ≡ true → IsKindOfLine (new_line c.nodes.items l) (planned_node c d.node) (planned_node c e.node)
    trunk q =
        let n = new_line c.nodes.items l in
        let text = string_bytes l.address in
        let from = is_from_switch c.nodes.items l in
        let at = is_at_switch c.nodes.items l in
        let is_from = switch_named c (string_bytes l.dte) d q in
        let back = leads_back c.nodes.items l in
        let up = and_parts at back (up_from from at back h.up is_from) in
        let dce : is_switch e.node.kind ≡ true = elim (cases_Bool (is_switch e.node.kind)) [
          | inl w ↦ w
          | inr w ↦ absurd (true≢false (sym up.0 ∙ no_switch_named c served (string_bytes l.dce) e w))
        ] in
        let address = from_switch at from (is_address text) (length text == 0) h.address is_from in
        let one : IsKindOfLine n (PlannedSwitch (new_switch c (string_bytes d.node.name))) (PlannedSwitch (new_switch c (string_bytes e.node.name)))
        = (no_digits text address, ltb-true n.dce n.dte up.1, standing up.0) in
        let other = subst (IsKindOfLine n (PlannedSwitch (new_switch c (string_bytes d.node.name)))) (sym (switch_as c (string_bytes e.node.name) e.node.kind dce)) one in
        subst (λ (x : Planned). IsKindOfLine n x (planned_node c e.node)) (sym (switch_as c (string_bytes d.node.name) d.node.kind q)) other

    user_line : is_switch d.node.kind ≡ false → is_switch e.node.kind ≡ true
        → IsKindOfLine (new_line c.nodes.items l) (planned_node c d.node) (planned_node c e.node)
    user_line q w =
        let n = new_line c.nodes.items l in
        let text = string_bytes l.address in
        let from = is_from_switch c.nodes.items l in
        let at = is_at_switch c.nodes.items l in
        let is_at = switch_named c (string_bytes l.dce) e w in
        let u = as_dte q in
        let address = to_switch at from (is_address text) (length text == 0) h.address is_at (no_switch_named c served (string_bytes l.dte) d q) in
        let one : IsKindOfLine n (PlannedUser (new_user c.lines.items (string_bytes d.node.name) u.dte)) (PlannedSwitch (new_switch c (string_bytes e.node.name)))
        = (made_on q, is_digits text address, standing is_at) in
        let other = subst (IsKindOfLine n (PlannedUser (new_user c.lines.items (string_bytes d.node.name) u.dte))) (sym (switch_as c (string_bytes e.node.name) e.node.kind w)) one in
        subst (λ (x : Planned). IsKindOfLine n x (planned_node c e.node)) (sym u.as_user) other

    between_users : is_switch d.node.kind ≡ false → is_switch e.node.kind ≡ false
        → IsKindOfLine (new_line c.nodes.items l) (planned_node c d.node) (planned_node c e.node)
    between_users q w =
        let n = new_line c.nodes.items l in
        let text = string_bytes l.address in
        let from = is_from_switch c.nodes.items l in
        let at = is_at_switch c.nodes.items l in
        let u = as_dte q in
        let v = user_as c (string_bytes e.node.name) e.node.kind (ap not w) (served_node c served e.place e.node e.there).kind in
        let address = to_user at from (is_address text) (length text == 0) h.address (no_switch_named c served (string_bytes l.dce) e w) in
        let one : IsKindOfLine n (PlannedUser (new_user c.lines.items (string_bytes d.node.name) u.dte)) (PlannedUser (new_user c.lines.items (string_bytes e.node.name) v.dte))
        = (made_on q, no_digits text address) in
        let other = subst (IsKindOfLine n (PlannedUser (new_user c.lines.items (string_bytes d.node.name) u.dte))) (sym v.as_user) one in
        subst (λ (x : Planned). IsKindOfLine n x (planned_node c e.node)) (sym u.as_user) other

line_planned : (c : Config) → is_served c ≡ true → (j : ℕ) (l : LineConfig) → slice_get c.lines.items j ≡ Some l
    → IsLinePlan (plan_of c).nodes j (new_line c.nodes.items l)
line_planned c served j l there =
    let h = served_line c served j l there in
    let dte = dte_of c l h in
    let dce = dce_of c l h in
    let dte_name = string_bytes dte.node.name in
    let dce_name = string_bytes dce.node.name in
    record {
      dte = planned_node c dte.node;
      dce = planned_node c dce.node;
      dte_there = planned_at c served (string_bytes l.dte) dte;
      dce_there = planned_at c served (string_bytes l.dce) dce;
      dte_stands = end_stands c served j l there (string_bytes l.dte) dte (dte_ends l dte_name dte.name_is) Dte
          (λ users. dte_role c j l there dte_name dte.name_is);
      dce_stands = end_stands c served j l there (string_bytes l.dce) dce (dce_ends l dce_name dce.name_is) Dce
          (dce_role c served j l there h dce);
      kind = line_kind c served l h dte dce;
      apart = ends_apart c served l h dte dce;
      params = within_params l h.within;
    }

-- ---- a node and its lines

end_place : (c : Config) → is_served c ≡ true → (i : ℕ) (n : NodeConfig) → slice_get c.nodes.items i ≡ Some n
    → (name : List ℕ) → same_text name (string_bytes n.name) ≡ true → place_of (is_named name) c.nodes.items ≡ i
end_place c served i n there name same =
    node_place c served name i n there (sym (same_so name (string_bytes n.name) same))

-- it is at an end of a line that ends there
end_at : (c : Config) → is_served c ≡ true → (i : ℕ) (n : NodeConfig) → slice_get c.nodes.items i ≡ Some n
    → (j : ℕ) (l : LineConfig) → slice_get c.lines.items j ≡ Some l → has_end (string_bytes n.name) l ≡ true
    → HasEndAt (plan_of c).lines i j
end_at c served i n there j l at ends =
    let name = string_bytes n.name in
    record {
      line_is = new_line c.nodes.items l;
      there = there_mapped (new_line c.nodes.items) c.lines.items j l at;
      at_end = elim (or_cases (has_dte name l) (same_text (string_bytes l.dce) name) ends) [
        | inl q ↦ inl (end_place c served i n there (string_bytes l.dte) q)
        | inr q ↦ inr (end_place c served i n there (string_bytes l.dce) q)
      ];
    }

user_planned : (c : Config) → is_served c ≡ true → (i : ℕ) (n : NodeConfig) → slice_get c.nodes.items i ≡ Some n
    → has_users n ≡ true → HasEndAt (plan_of c).lines i (place_of (has_end (string_bytes n.name)) c.lines.items)
user_planned c served i n there users =
    let name = string_bytes n.name in
    let one = one_line c n (served_node c served i n there) users in
    let p = one_there (has_end name) c.lines.items one in
    let at = place_is (has_end name) c.lines.items p.place p.item one p.there p.passes in
    subst (HasEndAt (plan_of c).lines i) (sym at) (end_at c served i n there p.place p.item p.there p.passes)

-- a node has at most 64 lines
pub most_lines : (c : Config) → is_served c ≡ true → (i : ℕ) (n : NodeConfig) → slice_get c.nodes.items i ≡ Some n
    → length (lines_from 0 (string_bytes n.name) c.lines.items) ≤ 64
most_lines c served i n there =
    let name = string_bytes n.name in
    let most = (some_lines n.kind (length (filter (has_end name) c.lines.items)) (served_node c served i n there).lines).most in
    let count = lines_count 0 name c.lines.items in
    omega (arith, count, most)

switch_planned : (c : Config) → is_served c ≡ true → (i : ℕ) (n : NodeConfig) → slice_get c.nodes.items i ≡ Some n
    → is_switch n.kind ≡ true → IsSwitchPlan (plan_of c).lines i (new_switch c (string_bytes n.name))
switch_planned c served i n there q =
    let name = string_bytes n.name in
    let some = some_lines n.kind (length (filter (has_end name) c.lines.items)) (served_node c served i n there).lines in
    let count = lines_count 0 name c.lines.items in
    let least = some.least in
    let most = some.most in
    record {
      least = omega (arith, count, least);
      most = omega (arith, count, most);
      apart = λ own other line. lines_apart 0 name c.lines.items own other line;
      each = λ own line at. each line (line_ends 0 name c.lines.items own line at);
    }
  where
    each : (line : ℕ) → Ends 0 (string_bytes n.name) c.lines.items line → HasEndAt (plan_of c).lines i line
    each line e =
        let number = e.number_is in
        let place : e.place ≡ line = omega (arith, number) in
        subst (HasEndAt (plan_of c).lines i) place (end_at c served i n there e.place e.line e.there e.ends)

node_planned : (c : Config) → is_served c ≡ true → (i : ℕ) (n : NodeConfig) → slice_get c.nodes.items i ≡ Some n
    → IsNodePlan (plan_of c).lines i (planned_node c n)
node_planned c served i n there =
    let name = string_bytes n.name in
    elim (cases_Bool (is_switch n.kind)) [
      | inl q ↦
          subst (IsNodePlan (plan_of c).lines i) (sym (switch_as c name n.kind q)) (switch_planned c served i n there q)
      | inr q ↦
          let u = user_as c name n.kind (ap not q) (served_node c served i n there).kind in
          subst (IsNodePlan (plan_of c).lines i) (sym u.as_user) (user_planned c served i n there (ap not q))
    ]

-- two lines from one node are one
one_from : (c : Config) → is_served c ≡ true → (i j : ℕ) (k l : LineConfig) → slice_get c.lines.items i ≡ Some k
    → slice_get c.lines.items j ≡ Some l → (new_line c.nodes.items k).dte ≡ (new_line c.nodes.items l).dte → i ≡ j
one_from c served i j k l at other same =
    let h = served_line c served i k at in
    let d = dte_of c k h in
    let e = dte_of c l (served_line c served j l other) in
    let place : d.place ≡ e.place
    = sym (node_place c served (string_bytes k.dte) d.place d.node d.there d.name_is) ∙ same
    ∙ node_place c served (string_bytes l.dte) e.place e.node e.there e.name_is in
    let node = same_Some d.node e.node (sym d.there ∙ ap (slice_get c.nodes.items) place ∙ e.there) in
    let name = sym d.name_is ∙ ap (λ (n : NodeConfig). string_bytes n.name) node ∙ e.name_is in
    let one = eqb-true (length (filter (has_dte (string_bytes k.dte)) c.lines.items)) 1 h.one_dte in
    same_place (has_dte (string_bytes k.dte)) c.lines.items i j k l (omega (arith, one))
    at (so_same (string_bytes k.dte) (string_bytes k.dte) refl)
    other (so_same (string_bytes l.dte) (string_bytes k.dte) (sym name))

-- a line on which a call stands is the only one
stands_alone : (c : Config) → is_served c ≡ true → StandsAlone (plan_of c)
stands_alone c served j l e standing =
    let m = mapped_there (new_line c.nodes.items) c.lines.items j l e in
    let item : m.item.standing ≡ true = ap (λ (x : NewLine). x.params.standing) m.value ∙ standing in
    let may : may_stand c m.item ≡ true = stood m.item.standing (may_stand c m.item) item (served_line c served j m.item m.there).stands in
    let pad = list_any (is_pad_named (string_bytes m.item.dte)) c.nodes.items in
    let alone = and_parts ((length c.lines.items == 1) && pad) (not (is_at_switch c.nodes.items m.item)) may in
    let one = and_parts (length c.lines.items == 1) pad alone.0 in
    length-map c.lines.items (new_line c.nodes.items) ∙ eqb-true (length c.lines.items) 1 one.0
  where
    stood : (v w : Bool) → v ≡ true → (not v || w) ≡ true → w ≡ true
    stood true w h may = may
    stood false w h may = absurd (true≢false (sym h))

pub plan_law : PlanLaw
plan_law c served = (
  record {
    lines = λ j l e.
        let m = mapped_there (new_line c.nodes.items) c.lines.items j l e in
        subst (IsLinePlan (plan_of c).nodes j) m.value (line_planned c served j m.item m.there);
    nodes = λ i n e.
        let m = mapped_there (planned_node c) c.nodes.items i n e in
        subst (IsNodePlan (plan_of c).lines i) m.value (node_planned c served i m.item m.there);
    few_switches =
        let few = few_switches c served in
        let count = switches_counted c 0 c.nodes.items in
        omega (arith, few, count);
    one_up = λ line other k l n e f _ same.
        let x = mapped_there (new_line c.nodes.items) c.lines.items line k e in
        let y = mapped_there (new_line c.nodes.items) c.lines.items other l f in
        one_from c served line other x.item y.item x.there y.there
        (ap (λ (v : NewLine). v.dte) x.value ∙ same ∙ sym (ap (λ (v : NewLine). v.dte) y.value));
  },
  stands_alone c served,
)
