-- A plan and a list of acts that pass the tests are a run.
use Rattle.std.proofs.Common.{◌≡◌, Bool, true, false, List, [], ◌∷◌, Option, Some, None, refl, sym, subst, true≢false}
use Rattle.std.specs.Prelude.{◌&&◌, MatchOption}
use Rattle.std.specs.Option.{option_and_then, option_map_or}
use Rattle.std.specs.List.{list_all}
use Rattle.std.proofs.lemmas.Option.{none-some, same_Some}
use Rattle.std.proofs.lemmas.Bool.{and_parts}
use Rattle.frame_lines.specs.Lines.{lossless_service}
use Rattle.net_events.specs.Network.{User, Switching, Network}
use Rattle.net_events.specs.Opening.{IsMade}
use Rattle.net_config.specs.NetPlan.{IsPlan}
use Rattle.network_laws.specs.Switched.IsSwitched.{IsAny}
use Rattle.network_laws.specs.Switched.SwitchedRest.{AreAllAtRest}
use Rattle.network_laws.proofs.Switched.MadeHeld.{made_any}
use Rattle.network_laws.proofs.Switched.PromiseAny.{promise_any}
use Rattle.network_laws.proofs.Switched.RestAny.{rest_any}
use Rattle.network_runs.specs.Acting.{Act, AtNode, AtSwitch, Arrives, Calling, IsLost, acted, Goes, stays, IsCalling}
use Rattle.network_runs.specs.Making.{network_of}
use Rattle.network_runs.specs.Runs.{Stage, acted_all, passes, AreCalling, AllCalling, is_node_at_rest, flies_nothing, is_at_rest, Reaches, GoesThrough, RunLaw}
use Rattle.network_runs.proofs.Numbered.{each_at}
use Rattle.network_runs.proofs.Steps.{act_goes, then_goes, any_after}
use Rattle.network_runs.proofs.Plans.{plan_is, made_so}

-- what is said of the calls among the acts
calls_then : (act : Act) (acts : List Act) (s : Network) → AreCalling (act ∷ acts) s → IsCalling act s × MatchOption (acted act s) (Unit {0}) (λ t. AreCalling acts t)
calls_then (AtNode line role event) acts s are = (tt, are)
calls_then (AtSwitch place event) acts s are = (tt, are)
calls_then (Arrives line to) acts s are = (tt, are)
calls_then (Calling line to call) acts s are = are
calls_then (IsLost line d) acts s are = (tt, are)

-- acts among which there is none
abbrev is_no_call : Act → Bool
is_no_call (AtNode line role event) = true
is_no_call (AtSwitch place event) = true
is_no_call (Arrives line to) = true
is_no_call (Calling line to call) = false
is_no_call (IsLost line d) = true

then_all : (P : Network → Type 0) (o : Option Network) → ((t : Network) → P t) → MatchOption o (Unit {0}) P
then_all P None all = tt
then_all P (Some t) all = all t

none_calling : (acts : List Act) (s : Network) → list_all is_no_call acts ≡ true → AreCalling acts s
none_calling [] s h = tt
none_calling (AtNode line role event ∷ acts) s h = then_all (λ t. AreCalling acts t) (acted (AtNode line role event) s) (λ t. none_calling acts t h)
none_calling (AtSwitch place event ∷ acts) s h = then_all (λ t. AreCalling acts t) (acted (AtSwitch place event) s) (λ t. none_calling acts t h)
none_calling (Arrives line to ∷ acts) s h = then_all (λ t. AreCalling acts t) (acted (Arrives line to) s) (λ t. none_calling acts t h)
none_calling (Calling line to call ∷ acts) s h = absurd (true≢false (sym h))
none_calling (IsLost line d ∷ acts) s h = then_all (λ t. AreCalling acts t) (acted (IsLost line d) s) (λ t. none_calling acts t h)

abbrev pub have_no_call : List Stage → Bool
have_no_call stages = list_all (λ stage. list_all is_no_call stage.acts) stages

pub no_calls : (stages : List Stage) (s : Network) → have_no_call stages ≡ true → AllCalling stages s
no_calls [] s h = tt
no_calls (stage ∷ stages) s h =
    let both = and_parts (list_all is_no_call stage.acts) (have_no_call stages) h in
    (none_calling stage.acts s both.0, then_all (λ t. AllCalling stages t) (acted_all stage.acts s) (λ t. no_calls stages t both.1))

act_then : (act : Act) (acts : List Act) (s t : Network) (o : Option Network) → IsAny lossless_service s → IsCalling act s → acted act s ≡ o → MatchOption o (Unit {0}) (λ mid. AreCalling acts mid)
    → ((mid : Network) → IsAny lossless_service mid → AreCalling acts mid → acted_all acts mid ≡ Some t → Goes mid t) → option_and_then (λ mid. acted_all acts mid) o ≡ Some t → Goes s t
act_then act acts s t None any call is are later e = absurd (none-some t e)
act_then act acts s t (Some mid) any call is are later e =
    let goes : Goes s mid = act_goes act s mid any call is in then_goes goes (later mid (any_after goes any) are e)

all_go : (acts : List Act) (s t : Network) → IsAny lossless_service s → AreCalling acts s → acted_all acts s ≡ Some t → Goes s t
all_go [] s t any are e = subst (λ (x : Network). Goes s x) (same_Some s t e) stays
all_go (act ∷ acts) s t any are e =
    let calls = calls_then act acts s are in
    act_then act acts s t (acted act s) any calls.0 refl calls.1 (λ mid any_mid later so. all_go acts mid t any_mid later so) e

all_rest : (s : Network) → is_at_rest s ≡ true → AreAllAtRest s.nodes
all_rest s h =
    let nodes = and_parts (list_all is_node_at_rest s.nodes) (list_all (λ l. flies_nothing l.flights) s.lines) h in
    record {
      users = λ place n there. each_at is_node_at_rest place s.nodes (User n) nodes.0 there;
      switches = λ place n there. each_at is_node_at_rest place s.nodes (Switching n) nodes.0 there;
    }

stage_through : (stage : Stage) (stages : List Stage) (s : Network) (o : Option Network) → IsAny lossless_service s → AreCalling stage.acts s → acted_all stage.acts s ≡ o → MatchOption o (Unit {0}) (λ t. AllCalling stages t)
    → ((t : Network) → IsAny lossless_service t → AllCalling stages t → passes stages t ≡ true → GoesThrough stages t)
    → option_map_or (λ t. stage.test t && passes stages t) o false ≡ true → GoesThrough (stage ∷ stages) s
stage_through stage stages s None any are is calls later h = absurd (true≢false (sym h))
stage_through stage stages s (Some t) any are is calls later h =
    let both = and_parts (stage.test t) (passes stages t) h in
    let goes : Goes s t = all_go stage.acts s t any are is in
    let any_then : IsAny lossless_service t = any_after goes any in
    let reaches : Reaches stage s t = record {
      computed = is;
      goes = goes;
      passes = both.0;
      is_any = any_then;
      holds = promise_any lossless_service t any_then tt;
      rests = λ rest. (all_rest t rest, rest_any lossless_service t any_then tt (all_rest t rest));
    } in
    (t, reaches, later t any_then calls both.1)

goes_through : (stages : List Stage) (s : Network) → IsAny lossless_service s → AllCalling stages s → passes stages s ≡ true → GoesThrough stages s
goes_through [] s any calls h = tt
goes_through (stage ∷ stages) s any calls h =
    stage_through stage stages s (acted_all stage.acts s) any calls.0 refl calls.1 (λ t any_then later so. goes_through stages t any_then later so) h

pub run_is : RunLaw
run_is plan stages may calls so =
    let planned : IsPlan plan = plan_is plan may in
    let made : IsMade lossless_service plan (network_of plan) = made_so plan in
    record {
      may_be_planned = planned;
      is_made = made;
      goes = goes_through stages (network_of plan) (made_any lossless_service plan (network_of plan) planned made) calls so;
    }
