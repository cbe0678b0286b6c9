-- A plan that passes the test is one of a network that there can be, and its network is made as planned.
use Rattle.std.proofs.Common.{◌≡◌, ◌≢◌, ℕ, zero, suc, ◌==◌, Bool, true, false, List, [], ◌∷◌, length, Option, Some, None, inl, inr, refl, sym, ap, subst, ◌∙◌, true≢false}
use Rattle.std.specs.Prelude.{◌&&◌, ◌||◌, ◌⊎◌, not, nat_le, slice_get, is_none, is_some}
use Rattle.std.specs.Option.{option_map}
use Rattle.std.specs.List.{list_all}
use Rattle.std.proofs.lemmas.Option.{none-some, slice_get-map}
use Rattle.std.proofs.lemmas.Bool.{and_parts, or_cases, not-true, leb-true, eqb-true, eqb-false}
use Rattle.std.proofs.lemmas.List.{length-map}
use Rattle.link_timers.specs.declared.role.Role.{Role}
use Rattle.link_timers.specs.declared.role.Role.TheVariants.{Dte, Dce}
use Rattle.data_transfer.specs.declared.flow.Flow.{Flow}
use Rattle.data_transfer.specs.Flow.{IsFlow, is_size, most_window}
use Rattle.packet_end.specs.Params.{AreParams, info_of}
use Rattle.packet_end.specs.declared.params.EndParams.{EndParams}
use Rattle.frame_codec.specs.Spelling.{most_information}
use Rattle.user_nodes.specs.Node.{frames_of}
use Rattle.frame_lines.specs.declared.line.Direction.TheVariants.{FromDte, FromDce}
use Rattle.frame_lines.specs.Lines.{Flights, lossless_service, no_flights}
use Rattle.net_config.specs.NetPlan.{NewDte, NewPad, NewHost, NewLine, NewSwitch, NetPlan, Planned, PlannedUser, PlannedSwitch, switch_places}
use Rattle.net_config.specs.NetPlan.{IsNewDte, IsEndPlan, IsKindOfLine, IsLinePlan, HasEndAt, IsNodePlan, IsPlan}
use Rattle.net_events.specs.Network.{User}
use Rattle.net_events.specs.Opening.{placed_new, new_at, NodeIsMade, LineIsMade, AreSent, IsMade}
use Rattle.network_runs.specs.Acting.{place_among, put_all, are_digits, same_role}
use Rattle.network_runs.specs.Making.{params_of, new_node, first_frames, first_flights, new_line, network_of, all_numbered, is_flow, is_between, are_params, is_new_dte, is_end_plan, is_empty, is_kind_of_line, are_its_ends, is_line_plan, ends_at, are_apart, is_node_plan, is_switch, are_two_up, is_plan}
use Rattle.network_runs.proofs.Numbered.{length_numbered, numbered_at, all_at, each_at, between_is, place_there, none_there}
use Rattle.network_runs.proofs.Steps.{are_put, digits_are, role_is}

-- ---- the network is made as planned

node_is : (plan : NetPlan) (place : ℕ) (n : Planned) → slice_get (network_of plan).nodes place ≡ Some (new_node plan place n) → NodeIsMade plan (network_of plan) place n
node_is plan place (PlannedUser n) e = λ l at. e ∙ ap (λ (o : Option NewLine). Some (User (placed_new n (params_of o)))) at
node_is plan place (PlannedSwitch n) e = e

node_made : (plan : NetPlan) (place : ℕ) (n : Planned) → slice_get plan.nodes place ≡ Some n → NodeIsMade plan (network_of plan) place n
node_made plan place n e =
    node_is plan place n (numbered_at (new_node plan) place plan.nodes ∙ ap (λ (o : Option Planned). option_map (new_node plan place) o) e)

both_sent : (plan : NetPlan) (l : NewLine) (dte dce : Planned) → slice_get plan.nodes l.dte ≡ Some dte → slice_get plan.nodes l.dce ≡ Some dce
    → AreSent lossless_service (new_at dte Dte l.params) (new_at dce Dce l.params) (first_flights plan l)
both_sent plan l dte dce dte_is dce_is =
    let up : List (List ℕ) = frames_of (new_at dte Dte l.params) in
    let down : List (List ℕ) = frames_of (new_at dce Dce l.params) in
    let between : Flights = put_all FromDte up no_flights in
    let sent : AreSent lossless_service (new_at dte Dte l.params) (new_at dce Dce l.params) (put_all FromDce down between) = record {
      first = Dte;
      between = between;
      from_first = are_put FromDte up no_flights;
      from_other = are_put FromDce down between;
    } in
    let dte_so : first_flights plan l ≡ put_all FromDce (first_frames (slice_get plan.nodes l.dce) Dce l.params) between =
    ap (λ (o : Option Planned). put_all FromDce (first_frames (slice_get plan.nodes l.dce) Dce l.params) (put_all FromDte (first_frames o Dte l.params) no_flights)) dte_is in
    let dce_so : put_all FromDce (first_frames (slice_get plan.nodes l.dce) Dce l.params) between ≡ put_all FromDce down between =
    ap (λ (o : Option Planned). put_all FromDce (first_frames o Dce l.params) between) dce_is in
    subst (λ (f : Flights). AreSent lossless_service (new_at dte Dte l.params) (new_at dce Dce l.params) f) (sym (dte_so ∙ dce_so)) sent

line_made : (plan : NetPlan) (line : ℕ) (l : NewLine) → slice_get plan.lines line ≡ Some l → LineIsMade lossless_service plan (network_of plan) line l
line_made plan line l e = record {
  flights = first_flights plan l;
  there = slice_get-map (new_line plan) plan.lines line ∙ ap (λ (o : Option NewLine). option_map (new_line plan) o) e;
  sent = λ f dte dce dte_is dce_is. both_sent plan l dte dce dte_is dce_is;
}

pub made_so : (plan : NetPlan) → IsMade lossless_service plan (network_of plan)
made_so plan = record {
  node_count = length_numbered (new_node plan) 0 plan.nodes;
  nodes = node_made plan;
  line_count = length-map plan.lines (new_line plan);
  lines = line_made plan;
  register = refl;
}

-- ---- what the tests mean

no_more : (digits : List ℕ) → is_empty digits ≡ true → digits ≡ []
no_more [] h = refl
no_more (x ∷ xs) h = absurd (true≢false (sym h))

flow_is : (flow : Flow) → is_flow flow ≡ true → IsFlow flow
flow_is flow h =
    let least = and_parts (nat_le 1 flow.window) (nat_le flow.window (most_window flow.numbering) && is_size flow.size) h in
    let most = and_parts (nat_le flow.window (most_window flow.numbering)) (is_size flow.size) least.1 in
    record { window_least = leb-true 1 flow.window least.0; window_most = leb-true flow.window (most_window flow.numbering) most.0; size_is = most.1 }

params_are : (p : EndParams) → are_params p ≡ true → AreParams p
params_are p h =
    let k = and_parts (is_between 1 7 p.k) (is_between 1 20 p.n2 && (nat_le (info_of p.flow) most_information && (is_between 1 32 p.channels && is_flow p.flow))) h in
    let n2 = and_parts (is_between 1 20 p.n2) (nat_le (info_of p.flow) most_information && (is_between 1 32 p.channels && is_flow p.flow)) k.1 in
    let info = and_parts (nat_le (info_of p.flow) most_information) (is_between 1 32 p.channels && is_flow p.flow) n2.1 in
    let channels = and_parts (is_between 1 32 p.channels) (is_flow p.flow) info.1 in
    let its_k = between_is 1 7 p.k k.0 in
    let its_n2 = between_is 1 20 p.n2 n2.0 in
    let its_channels = between_is 1 32 p.channels channels.0 in
    record {
      link = record { k_least = its_k.0; k_most = its_k.1; n2_least = its_n2.0; n2_most = its_n2.1; info_most = leb-true (info_of p.flow) most_information info.0 };
      layer = record { channels_least = its_channels.0; channels_most = its_channels.1; flow_is = flow_is p.flow channels.1 };
    }

dte_is : (dte : NewDte) (p : EndParams) → is_new_dte dte p ≡ true → IsNewDte dte p
dte_is (NewPad params terminals) p h =
    let both = and_parts (is_between 1 16 terminals) (p.flow.size == 128) h in
    let count = between_is 1 16 terminals both.0 in
    (count.0, count.1, eqb-true p.flow.size 128 both.1)
dte_is NewHost p h = tt

own_there : (lines : List ℕ) (line : ℕ) (o : Option ℕ) → place_among lines line ≡ o → is_some o ≡ true → (own : ℕ) × (slice_get lines own ≡ Some line)
own_there lines line None e h = absurd (true≢false (sym h))
own_there lines line (Some own) e h = (own, place_there lines line own e)

end_is : (line : ℕ) (role : Role) (n : Planned) → is_end_plan line role n ≡ true → IsEndPlan line role n
end_is line role (PlannedUser n) h =
    let both = and_parts (n.line == line) (same_role n.role role) h in
    (eqb-true n.line line both.0, sym (role_is n.role role both.1))
end_is line role (PlannedSwitch n) h = own_there n.lines line (place_among n.lines line) refl h

kind_is : (l : NewLine) (dte dce : Planned) → is_kind_of_line l dte dce ≡ true → IsKindOfLine l dte dce
kind_is l (PlannedUser dte) (PlannedUser dce) h =
    let both = and_parts (is_new_dte dte.as_dte l.params) (is_empty l.address) h in
    (dte_is dte.as_dte l.params both.0, no_more l.address both.1)
kind_is l (PlannedUser dte) (PlannedSwitch dce) h =
    let new = and_parts (is_new_dte dte.as_dte l.params) (are_digits l.address && not l.params.standing) h in
    let rest = and_parts (are_digits l.address) (not l.params.standing) new.1 in
    (dte_is dte.as_dte l.params new.0, digits_are l.address rest.0, not-true l.params.standing rest.1)
kind_is l (PlannedSwitch dte) (PlannedSwitch dce) h =
    let none = and_parts (is_empty l.address) (nat_le (suc l.dce) l.dte && not l.params.standing) h in
    let rest = and_parts (nat_le (suc l.dce) l.dte) (not l.params.standing) none.1 in
    (no_more l.address none.0, leb-true (suc l.dce) l.dte rest.0, not-true l.params.standing rest.1)
kind_is l (PlannedSwitch dte) (PlannedUser dce) h = absurd (true≢false (sym h))

ends_are : (nodes : List Planned) (line : ℕ) (l : NewLine) (dte dce : Option Planned) → slice_get nodes l.dte ≡ dte → slice_get nodes l.dce ≡ dce
    → are_its_ends line l dte dce ≡ true → IsLinePlan nodes line l
ends_are nodes line l None dce at_dte at_dce h = absurd (true≢false (sym h))
ends_are nodes line l (Some dte) None at_dte at_dce h = absurd (true≢false (sym h))
ends_are nodes line l (Some dte) (Some dce) at_dte at_dce h =
    let first = and_parts (is_end_plan line Dte dte) (is_end_plan line Dce dce && (is_kind_of_line l dte dce && (not (l.dte == l.dce) && are_params l.params))) h in
    let second = and_parts (is_end_plan line Dce dce) (is_kind_of_line l dte dce && (not (l.dte == l.dce) && are_params l.params)) first.1 in
    let kind = and_parts (is_kind_of_line l dte dce) (not (l.dte == l.dce) && are_params l.params) second.1 in
    let rest = and_parts (not (l.dte == l.dce)) (are_params l.params) kind.1 in
    record {
      dte = dte;
      dce = dce;
      dte_there = at_dte;
      dce_there = at_dce;
      dte_stands = end_is line Dte dte first.0;
      dce_stands = end_is line Dce dce second.0;
      kind = kind_is l dte dce kind.0;
      apart = eqb-false l.dte l.dce (not-true (l.dte == l.dce) rest.0);
      params = params_are l.params rest.1;
    }

one_of : (l : NewLine) (place : ℕ) → ((l.dte == place) ≡ true) ⊎ ((l.dce == place) ≡ true) → (l.dte ≡ place) ⊎ (l.dce ≡ place)
one_of l place (inl e) = inl (eqb-true l.dte place e)
one_of l place (inr e) = inr (eqb-true l.dce place e)

end_there : (lines : List NewLine) (place line : ℕ) (o : Option NewLine) → slice_get lines line ≡ o → ends_at place o ≡ true → HasEndAt lines place line
end_there lines place line None e h = absurd (true≢false (sym h))
end_there lines place line (Some l) e h = record { line_is = l; there = e; at_end = one_of l place (or_cases (l.dte == place) (l.dce == place) h) }

-- a number whose place is none is not there
not_later : (xs : List ℕ) (x other : ℕ) (o : Option ℕ) → place_among xs x ≡ o → is_none o ≡ true → slice_get xs other ≡ Some x → ⊥
not_later xs x other None e h d = none_there xs x other e d
not_later xs x other (Some place) e h d = true≢false (sym h)

apart_are : (xs : List ℕ) → are_apart xs ≡ true → (own other line : ℕ) → slice_get xs own ≡ Some line → slice_get xs other ≡ Some line → own ≡ other
apart_are [] h own other line e d = absurd (none-some line e)
apart_are (x ∷ xs) h zero zero line e d = refl
apart_are (x ∷ xs) h zero (suc other) line e d =
    let both = and_parts (is_none (place_among xs x)) (are_apart xs) h in
    absurd (not_later xs x other (place_among xs x) refl both.0 (d ∙ sym e))
apart_are (x ∷ xs) h (suc own) zero line e d =
    let both = and_parts (is_none (place_among xs x)) (are_apart xs) h in
    absurd (not_later xs x own (place_among xs x) refl both.0 (e ∙ sym d))
apart_are (x ∷ xs) h (suc own) (suc other) line e d =
    let both = and_parts (is_none (place_among xs x)) (are_apart xs) h in
    ap (λ (n : ℕ). suc n) (apart_are xs both.1 own other line e d)

stands_so : (lines : List NewLine) (place : ℕ) (n : Planned) → is_node_plan lines place n ≡ true → IsNodePlan lines place n
stands_so lines place (PlannedUser n) h = end_there lines place n.line (slice_get lines n.line) refl h
stands_so lines place (PlannedSwitch n) h =
    let some = and_parts (is_between 1 64 (length n.lines)) (are_apart n.lines && list_all (λ line. ends_at place (slice_get lines line)) n.lines) h in
    let rest = and_parts (are_apart n.lines) (list_all (λ line. ends_at place (slice_get lines line)) n.lines) some.1 in
    let count = between_is 1 64 (length n.lines) some.0 in
    record {
      least = count.0;
      most = count.1;
      apart = apart_are n.lines rest.0;
      each = λ own line e. end_there lines place line (slice_get lines line) refl (each_at (λ k. ends_at place (slice_get lines k)) own n.lines line rest.1 e);
    }

-- of two lines of which one switch is the DTE, one is the other
one_trunk : (nodes : List Planned) (line other : ℕ) (k l : NewLine) (n : NewSwitch) → slice_get nodes k.dte ≡ Some (PlannedSwitch n) → k.dte ≡ l.dte
    → (not (is_switch (slice_get nodes k.dte)) ≡ true) ⊎ (((line == other) || not (k.dte == l.dte)) ≡ true) → line ≡ other
one_trunk nodes line other k l n switch same (inl user) =
    absurd (true≢false (sym user ∙ ap (λ (o : Option Planned). not (is_switch o)) switch))
one_trunk nodes line other k l n switch same (inr h) = either (or_cases (line == other) (not (k.dte == l.dte)) h)
  where
    either : ((line == other) ≡ true) ⊎ (not (k.dte == l.dte) ≡ true) → line ≡ other
    either (inl e) = eqb-true line other e
    either (inr ne) = absurd (eqb-false k.dte l.dte (not-true (k.dte == l.dte) ne) same)

pub plan_is : (plan : NetPlan) → is_plan plan ≡ true → IsPlan plan
plan_is plan h =
    let ups : Bool = all_numbered (λ line k. all_numbered (are_two_up plan.nodes line k) 0 plan.lines) 0 plan.lines in
    let lines = and_parts (all_numbered (is_line_plan plan.nodes) 0 plan.lines) (all_numbered (is_node_plan plan.lines) 0 plan.nodes && (nat_le (length (switch_places 0 plan.nodes)) 16 && ups)) h in
    let nodes = and_parts (all_numbered (is_node_plan plan.lines) 0 plan.nodes) (nat_le (length (switch_places 0 plan.nodes)) 16 && ups) lines.1 in
    let few = and_parts (nat_le (length (switch_places 0 plan.nodes)) 16) ups nodes.1 in
    record {
      lines = λ line l e. ends_are plan.nodes line l (slice_get plan.nodes l.dte) (slice_get plan.nodes l.dce) refl refl (all_at (is_line_plan plan.nodes) line plan.lines l lines.0 e);
      nodes = λ place n e. stands_so plan.lines place n (all_at (is_node_plan plan.lines) place plan.nodes n nodes.0 e);
      few_switches = leb-true (length (switch_places 0 plan.nodes)) 16 few.0;
      one_up = λ line other k l n k_is l_is switch same.
          one_trunk plan.nodes line other k l n switch same
          (or_cases (not (is_switch (slice_get plan.nodes k.dte))) ((line == other) || not (k.dte == l.dte))
          (all_at (are_two_up plan.nodes line k) other plan.lines l (all_at (λ i m. all_numbered (are_two_up plan.nodes i m) 0 plan.lines) line plan.lines k few.1 k_is) l_is));
    }
