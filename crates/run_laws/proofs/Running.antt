-- The run of two hosts, step by step.
use Rattle.std.proofs.Common.{◌≡◌, ◌≤◌, ◌<◌, ℕ, zero, suc, [], drop, arith, Some, refl, sym, ap, ◌∙◌, subst, inl, inr}
use Rattle.std.specs.Prelude.{slice_get}
use Rattle.std.specs.Global.{Vec}
use Rattle.std.proofs.lemmas.Option.{same_Some, none-some}
use Rattle.link_timers.specs.declared.role.Role.TheVariants.{Dte, Dce}
use Rattle.packet_end.specs.declared.params.EndParams.{EndParams}
use Rattle.packet_end.specs.Params.{AreParams}
use Rattle.frame_lines.specs.declared.line.Direction.TheVariants.{FromDte}
use Rattle.frame_lines.specs.Lines.{memory_service}
use Rattle.net_config.specs.declared.config.Config.{Config}
use Rattle.net_events.specs.declared.answer.Answer.{Answer}
use Rattle.net_events.specs.declared.answer.Outcome.TheVariants.{Done}
use Rattle.net_events.specs.Network.{User}
use Rattle.net_config.specs.NetPlan.{NewNode, NewHost, Planned, PlannedUser, PlannedSwitch, NewLine, NetPlan}
use Rattle.net_events.specs.Opening.{new_dte, new_dce, new_at, placed_new}
use Rattle.net_config.specs.NetPlan.{IsLinePlan, IsNodePlan, IsPlan}
use Rattle.net_events.specs.Opening.{AreSent, NodeIsMade, LineIsMade, IsMade}
use Rattle.net_events.proofs.Users.{same_planned}
use Rattle.net_nodes.specs.Steps.{LoseStep}
use Rattle.run_laws.specs.LostFrameRun.{two_hosts, parameters, host, new_line, line_with, network, first_frames, RunExample}

-- ---- the plan

are_params : AreParams parameters
are_params =
    let most_k : 7 ≤ 7 = omega arith in let least_k : 1 ≤ 7 = omega arith in
    let most_polls : 3 ≤ 20 = omega arith in let least_polls : 1 ≤ 3 = omega arith in
    let most_channels : 4 ≤ 32 = omega arith in let least_channels : 1 ≤ 4 = omega arith in
    let most_window : 2 ≤ 7 = omega arith in let least_window : 1 ≤ 2 = omega arith in
    let most_info : 145 ≤ 1028 = omega arith in
    record {
      link = record { k_least = least_k; k_most = most_k; n2_least = least_polls; n2_most = most_polls; info_most = most_info };
      layer = record { channels_least = least_channels; channels_most = most_channels; flow_is = record { window_least = least_window; window_most = most_window; size_is = refl } };
    }

line_planned : (line : ℕ) (l : NewLine) → slice_get two_hosts.lines line ≡ Some l → IsLinePlan two_hosts.nodes line l
line_planned zero l at = subst (λ (x : NewLine). IsLinePlan two_hosts.nodes 0 x) (same_Some new_line l at) (record {
  dte = PlannedUser (host Dte);
  dce = PlannedUser (host Dce);
  dte_there = refl;
  dce_there = refl;
  dte_stands = (refl, refl);
  dce_stands = (refl, refl);
  kind = (tt, refl);
  apart = λ e. omega (arith, e);
  params = are_params;
})
line_planned (suc line) l at = absurd (none-some l at)

node_planned : (place : ℕ) (n : Planned) → slice_get two_hosts.nodes place ≡ Some n → IsNodePlan two_hosts.lines place n
node_planned zero n at =
    subst (λ (x : Planned). IsNodePlan two_hosts.lines 0 x) (same_Some (PlannedUser (host Dte)) n at)
    (record { line_is = new_line; there = refl; at_end = inl refl })
node_planned (suc zero) n at =
    subst (λ (x : Planned). IsNodePlan two_hosts.lines 1 x) (same_Some (PlannedUser (host Dce)) n at)
    (record { line_is = new_line; there = refl; at_end = inr refl })
node_planned (suc (suc place)) n at = absurd (none-some n at)

user_there : (place : ℕ) (n : Planned) → slice_get two_hosts.nodes place ≡ Some n → (user : NewNode) × (n ≡ PlannedUser user)
user_there zero n at = (host Dte, sym (same_Some (PlannedUser (host Dte)) n at))
user_there (suc zero) n at = (host Dce, sym (same_Some (PlannedUser (host Dce)) n at))
user_there (suc (suc place)) n at = absurd (none-some n at)

pub planned : IsPlan two_hosts
planned = record {
  lines = line_planned;
  nodes = node_planned;
  few_switches = (let none : 0 ≤ 16 = omega arith in none);
  one_up = λ line other k l n at there switch same. let u = user_there k.dte (PlannedSwitch n) switch in
      absurd (let bad : PlannedSwitch n ≡ PlannedUser u.0 = u.1 in cc);
}

-- ---- the network

few : 0 < 64
few = omega arith

sent : AreSent memory_service (new_dte NewHost parameters) (new_dce parameters) (line_with first_frames).flights
sent = record {
  first = Dte;
  between = record { from_dte = first_frames; from_dce = [] };
  from_first = (record { from_dte = first_frames; from_dce = [] }, inl (few, refl), refl);
  from_other = ((line_with first_frames).flights, inl (few, refl), refl);
}

line_made : (line : ℕ) (l : NewLine) → slice_get two_hosts.lines line ≡ Some l
    → LineIsMade memory_service two_hosts (network first_frames) line l
line_made zero l at =
    subst (λ (x : NewLine). LineIsMade memory_service two_hosts (network first_frames) 0 x) (same_Some new_line l at) (record {
      flights = (line_with first_frames).flights;
      there = refl;
      sent = λ f dte dce dte_there dce_there.
          subst (λ (y : Planned). AreSent memory_service (new_at dte Dte parameters) (new_at y Dce parameters) (line_with first_frames).flights)
          (same_Some (PlannedUser (host Dce)) dce dce_there)
          (subst (λ (x : Planned). AreSent memory_service (new_at x Dte parameters) (new_dce parameters) (line_with first_frames).flights)
          (same_Some (PlannedUser (host Dte)) dte dte_there) sent);
    })
line_made (suc line) l at = absurd (none-some l at)

same_params : (line : ℕ) (l : NewLine) → slice_get two_hosts.lines line ≡ Some l → l.params ≡ parameters
same_params zero l at = ap (λ (x : NewLine). x.params) (sym (same_Some new_line l at))
same_params (suc line) l at = absurd (none-some l at)

user_made : (place : ℕ) (m n : NewNode) → PlannedUser m ≡ PlannedUser n → (l : NewLine) → slice_get two_hosts.lines n.line ≡ Some l
    → slice_get (network first_frames).nodes place ≡ Some (User (placed_new m parameters))
    → slice_get (network first_frames).nodes place ≡ Some (User (placed_new n l.params))
user_made place m n is l there at =
    at ∙ ap (λ (x : NewNode). Some (User (placed_new x parameters))) (same_planned m n (ap Some is))
    ∙ ap (λ (p : EndParams). Some (User (placed_new n p))) (sym (same_params n.line l there))

made_so : (place : ℕ) (m : NewNode) (n : Planned) → PlannedUser m ≡ n
    → slice_get (network first_frames).nodes place ≡ Some (User (placed_new m parameters))
    → NodeIsMade two_hosts (network first_frames) place n
made_so place m (PlannedUser n) is at = λ l there. user_made place m n is l there at
made_so place m (PlannedSwitch n) is at = absurd (cc)

node_made : (place : ℕ) (n : Planned) → slice_get two_hosts.nodes place ≡ Some n
    → NodeIsMade two_hosts (network first_frames) place n
node_made zero n at = made_so 0 (host Dte) n (same_Some (PlannedUser (host Dte)) n at) refl
node_made (suc zero) n at = made_so 1 (host Dce) n (same_Some (PlannedUser (host Dce)) n at) refl
node_made (suc (suc place)) n at = absurd (none-some n at)

pub made : IsMade memory_service two_hosts (network first_frames)
made = record { node_count = refl; nodes = node_made; line_count = refl; lines = line_made; register = refl }

-- ---- the loss

-- a list without elements, where another one lies
abbrev empty : {A B : Type 0} → Vec B → Vec A
empty v = record {
  ptr = v.ptr;
  len = 0;
  cap = 0;
  alloc = v.alloc;
  items = [];
  ok = (refl, (let least : 0 ≤ 0 = omega arith in least));
  small = omega arith;
}

abbrev answer : Config → Answer
answer config = record {
  frames = record { items = []; room = 0 };
  notes = empty config.nodes;
  text = empty config.nodes;
  outcome = Done;
}

lost : (config : Config)
    → LoseStep memory_service 0 FromDte Done (network first_frames) (answer config) (network (drop 1 first_frames))
lost config = record {
  frames = refl;
  notes = refl;
  text = refl;
  answered = refl;
  lost = record {
    line_is = line_with first_frames;
    line_there = refl;
    flights = (line_with (drop 1 first_frames)).flights;
    rest = λ f. refl;
    others = refl;
  };
}

pub run_example : RunExample
run_example config served same = record {
  start = network first_frames;
  made = record {
    served = served;
    planned = subst IsPlan (sym same) planned;
    made = subst (λ (p : NetPlan). IsMade memory_service p (network first_frames)) (sym same) made;
  };
  ran = (network (drop 1 first_frames), (answer config, lost config), refl);
}
