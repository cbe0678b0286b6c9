-- What a process does is an act of the processes of one network.
use Rattle.std.proofs.Common.{◌≡◌, ℕ, Bool, true, false, ◌&&◌, List, [], ◌∷◌, drop, Option, Some, None, Result, refl, sym, ap, ◌∙◌, subst}
use Rattle.std.specs.Prelude.{slice_get}
use Rattle.link_timers.specs.declared.role.Role.{Role}
use Rattle.link_timers.specs.declared.role.Role.TheVariants.{Dte, Dce}
use Rattle.call_records.specs.Register.{Register}
use Rattle.frame_lines.specs.Lines.{flying, with_flying, memory_service}
use Rattle.net_config.specs.NetPlan.{NewLine}
use Rattle.net_events.specs.declared.answer.Answer.{Answer}
use Rattle.net_events.specs.declared.event.Event.{Event}
use Rattle.net_events.specs.declared.event.Event.TheVariants.{AtTerminal, Call, Ask, Take, Deliver, Lose, Expire}
use Rattle.net_events.specs.declared.event.Event.TheVariants.{Relink, GivesUp, Restart}
use Rattle.net_events.specs.declared.event.StepFault.{StepFault}
use Rattle.net_events.specs.Network.{NetLine, Network, place_at, all_elapsed}
use Rattle.net_nodes.specs.Carrying.{with_flights, blind}
use Rattle.net_nodes.specs.Happening.{Happens}
use Rattle.net_nodes.specs.Places.{IsStanding}
use Rattle.net_nodes.specs.Steps.{hearer}
use Rattle.line_sim.specs.Between.{IsBetweenEvents}
use Rattle.line_sim.proofs.CanBeServed.{standing}
use Rattle.live_laws.specs.Registers.{on}
use Rattle.live_net.specs.Parting.{HasLivedApart}
use Rattle.parted_laws.specs.Processes.{Processes, PartChanges}
use Rattle.parted_laws.specs.Events.{HasEnd, IsHere, MayBe}
use Rattle.net_process.specs.Process.{ProcessState, is_set, runs, runs_at, end_runs, end_place, may_be}
use Rattle.net_process.specs.Carrying.{with_frames}
use Rattle.net_process.specs.Stepping.{HasStepped, HappensIf}
use Rattle.net_process.specs.Starting.{HasRestarted}
use Rattle.net_process.specs.Restart.{HasConnections}
use Rattle.net_process.specs.Acts.{HasEnds, IsProcess, IsAct, TicksLaw, StepLaw, StartLaw, SendLaw, ReadLaw}
use Rattle.net_process.proofs.Frames.{with_there, frames_there}
use Rattle.net_process.proofs.Restarts.{may_restart}

-- ---- where an event is

left_true : (a b : Bool) → (a && b) ≡ true → a ≡ true
left_true true b e = refl
left_true false b e = absurd (cc)

module _ (owner : ℕ → ℕ) (k : ℕ) (g : Register) (x : ProcessState) (p : Processes) (is : IsProcess owner k g x p) where
  -- a node that runs here is of this process
  own_node : (node : ℕ) → runs x node ≡ true → owner node ≡ k
  own_node node e = is.own node (left_true (is_set x.own node) (is_set x.started node) e)

  ends_alike : (role : Role) (n : NewLine) (l : NetLine) → HasEnds n l → end_place role n ≡ place_at role l
  ends_alike Dte n l h = h.dte
  ends_alike Dce n l h = h.dce

  -- and so is one at an end that runs here
  own_end : (line : ℕ) (role : Role) → end_runs x line role ≡ true → HasEnd owner k line role (on g x.part)
  own_end line role e l at = by (slice_get x.plan line) refl
    where
      by : (found : Option NewLine) → slice_get x.plan line ≡ found → owner (place_at role l) ≡ k
      by None none = let no : runs_at x role None ≡ true = ap (runs_at x role) (sym none) ∙ e in absurd (cc)
      by (Some n) there =
          ap owner (sym (ends_alike role n l (is.plan line l n at there)))
          ∙ own_node (end_place role n) (ap (runs_at x role) (sym there) ∙ e)

  here : (e : Event) → may_be x e ≡ true → IsHere owner k e (on g x.part)
  here (AtTerminal node terminal event) may = own_node node may
  here (Call node address user_data) may = own_node node may
  here (Ask node channel request) may = own_node node may
  here (Take node channel) may = own_node node may
  here (Deliver line d) may = own_end line (hearer d) may
  here (Lose line d) may = tt
  here (Expire node line timer) may = own_node node may
  here (Relink line) may = own_end line Dte may
  here (GivesUp line) may = own_end line Dce may
  here (Restart node) may = absurd (cc)

  no_restart : (e : Event) → may_be x e ≡ true → MayBe owner p k e
  no_restart (AtTerminal node terminal event) may = tt
  no_restart (Call node address user_data) may = tt
  no_restart (Ask node channel request) may = tt
  no_restart (Take node channel) may = tt
  no_restart (Deliver line d) may = tt
  no_restart (Lose line d) may = tt
  no_restart (Expire node line timer) may = tt
  no_restart (Relink line) may = tt
  no_restart (GivesUp line) may = tt
  no_restart (Restart node) may = absurd (cc)

  -- what happened apart, at a place of this process, is an act
  is_act : (e : Event) (r : Result Answer StepFault) (part : Network) → HasLivedApart memory_service e x.part r part
      → IsHere owner k e (on g x.part) → MayBe owner p k e → IsAct owner k e r part p
  is_act e r part lived at may =
      let step = lived.steps g is.between in
      record {
        after = step.after;
        between = step.between;
        does = λ q changes wires. record {
          stands = subst (λ (s : Network). IsStanding s) (sym is.part) (standing (blind memory_service) (on g x.part) is.between);
          here = subst (λ (s : Network). IsHere owner k e s) (sym is.part) at;
          may = may;
          part = on step.after part;
          happens = subst (λ (s : Network). Happens memory_service e s r (on step.after part)) (sym is.part) step.happens;
          changes = changes;
          wires = wires;
        };
      }

pub step_is_act : StepLaw
step_is_act owner k g x y p e r is stepped may =
    let lived : HasLivedApart memory_service e x.part r stepped.part
    = subst (λ (b : Bool). HappensIf memory_service b e x.part r stepped.part) may stepped.happens in
    subst (λ (z : ProcessState). IsAct owner k e r z.part p) (sym stepped.process)
    (is_act owner k g x p is e r stepped.part lived (here owner k g x p is e may) (no_restart owner k g x p is e may))

pub start_is_act : StartLaw
start_is_act owner k node g x y p r is h own connected =
    subst (λ (z : ProcessState). IsAct owner k (Restart node) r z.part p) (sym h.process)
    (is_act owner k g x p is (Restart node) r h.part h.happens (is.own node own)
    (may_restart owner p k node (is.own node own) connected))

-- ---- time and lines

pub ticks_are_act : TicksLaw
ticks_are_act owner k ticks g x p q is changes wires =
    (subst (λ (s : Network). PartChanges k (all_elapsed ticks s) p q) (sym is.part) changes, wires)

pub send_is_move : SendLaw
send_is_move owner k line d l g x p q frame rest is at here away first changes wire =
    let flying_is : flying d l.flights ≡ frame ∷ rest = sym (frames_there line d x.part l at) ∙ first in
    record {
      line_is = l;
      line_there = subst (λ (s : Network). slice_get s.lines line ≡ Some l) (sym is.part) at;
      of_sender = here;
      elsewhere = away;
      frame = frame;
      part = on g (with_frames line d rest x.part);
      handed = record {
        first = λ _. ap (λ (frames : List (List ℕ)). slice_get frames 0) flying_is;
        none = λ _. tt;
        flights = with_flying d rest l.flights;
        rest = λ _. ap (λ (frames : List (List ℕ)). with_flying d (drop 1 frames) l.flights) (sym flying_is);
        others =
            ap (λ (s : Network). on g s) (with_there line d rest x.part l at)
            ∙ ap (λ (s : Network). with_flights line l (with_flying d rest l.flights) s) (sym is.part);
      };
      here = changes;
      wire = wire;
    }

pub read_is_move : ReadLaw
read_is_move owner k line d l g x p q lost frame rest part is at here away first put changes wire = record {
  line_is = l;
  line_there = subst (λ (s : Network). slice_get s.lines line ≡ Some l) (sym is.part) at;
  of_hearer = here;
  elsewhere = away;
  frame = frame;
  lost = lost;
  rest = rest;
  first = first;
  part = on g part;
  put = record {
    flights = put.flights;
    put = put.put;
    others =
        ap (λ (s : Network). on g s) put.others
        ∙ ap (λ (s : Network). with_flights line l put.flights s) (sym is.part);
  };
  here = changes;
  wire = wire;
}
