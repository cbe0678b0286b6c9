-- What processes did is a run of one network, with the promise before and after each act.
use Rattle.std.proofs.Common.{◌≡◌, ℕ, List, [], ◌∷◌, Result, refl, sym, subst, inl, inr}
use Rattle.std.specs.Prelude.{◌⊎◌}
use Rattle.frame_lines.specs.Lines.{LineService, lossless_service}
use Rattle.net_events.specs.Network.{Network}
use Rattle.net_events.specs.declared.answer.Answer.{Answer}
use Rattle.net_events.specs.declared.event.Event.{Event}
use Rattle.net_events.specs.declared.event.StepFault.{StepFault}
use Rattle.net_nodes.specs.Happening.{Happens}
use Rattle.network_laws.specs.PlacedTime.{elapsed_by}
use Rattle.network_laws.specs.Switched.InnerPromise.{NetworkPromise}
use Rattle.network_laws.proofs.Switched.PromiseAny.{promise_any}
use Rattle.network_laws.proofs.Switched.UsersAny.{loss_any}
use Rattle.line_sim.specs.Between.{IsBetweenEvents}
use Rattle.line_sim.proofs.Events.{happens, elapsed_placed}
use Rattle.line_sim.proofs.Registered.{lost_registered}
use Rattle.parted_laws.specs.Processes.{Processes, AreOf}
use Rattle.parted_laws.specs.Events.{AreLost, IsNone, IsDone, HappensInOne}
use Rattle.parted_laws.specs.Events.AreLost.{none_is, one_is}
use Rattle.parted_laws.specs.Running.{Act, ProcessesDo, ProcessesRun, NetworkDoes, NetworkRuns, ticks_in, RunsAsOne, RunLaw}
use Rattle.parted_laws.specs.Running.Act.{Handles, Passes, Moves}
use Rattle.parted_laws.proofs.Events.{events_in_one}
use Rattle.parted_laws.proofs.Carrying.{carried}
use Rattle.parted_laws.proofs.Ticks.{ticks_pass}

abbrev Between : Network → Type 0
Between s = IsBetweenEvents lossless_service s

pub lost_between : {s t : Network} → AreLost s t → Between s → Between t
lost_between (none_is s) b = b
lost_between (one_is line d s mid t w rest) b =
    lost_between rest (record {
      any = loss_any lossless_service line d s mid b.any w;
      registered = lost_registered lossless_service line d s mid b.registered w;
    })

pub done_between : (e : Event) (r : Result Answer StepFault) (s t : Network) → Between s → IsDone e r s t → Between t
done_between e r s t b (inl h) = happens lossless_service e s r t b h
done_between e r s t b (inr none) = subst Between (sym none.1) b

-- one act
record DoesOne (owner : ℕ → ℕ) (act : Act) (q : Processes) (s : Network) : Type 0 where
  after : Network
  does : NetworkDoes owner act s after
  between : Between after
  are : AreOf owner q after

does_one : (L : LineService) → L.faithful → (owner : ℕ → ℕ) (act : Act) (p q : Processes) (s : Network) → Between s → AreOf owner p s → ProcessesDo L owner act p q → DoesOne owner act q s
does_one L f owner (Handles k e r) p q s b are h =
    let o : HappensInOne owner e r q s = events_in_one L f owner k e r h.part p q s are h.stands h.here h.may h.happens h.changes h.wires in
    record {
      after = o.after;
      does = (o.mid, o.lost, o.done);
      between = done_between e r o.mid o.after (lost_between o.lost b) o.done;
      are = o.are;
    }
does_one L f owner (Passes k ticks) p q s b are h = record {
  after = elapsed_by (ticks_in owner k ticks) s;
  does = refl;
  between = elapsed_placed lossless_service s (ticks_in owner k ticks) b;
  are = ticks_pass owner k ticks p q s are h.0 h.1;
}
does_one L f owner Moves p q s b are h = record { after = s; does = refl; between = b; are = carried owner p q s are h }

pub runs_as_one : (L : LineService) → RunLaw L
runs_as_one L f owner [] p q s b are same = record {
  after = s;
  runs = (refl, promise_any lossless_service s b.any tt);
  between = b;
  are = subst (λ (x : Processes). AreOf owner x s) same are;
}
runs_as_one L f owner (act ∷ acts) p q s b are (mid, first, others) =
    let o = does_one L f owner act p mid s b are first in
    let rest : RunsAsOne owner acts q o.after = runs_as_one L f owner acts mid q o.after o.between o.are others in
    record {
      after = rest.after;
      runs = (o.after, promise_any lossless_service s b.any tt, o.does, rest.runs);
      between = rest.between;
      are = rest.are;
    }
