-- How a network is made by a configuration, and what a list of events does.
use Rattle.std.specs.Prelude.{◌≡◌, ℕ, true, false, List, [], ◌∷◌, take, slice_get, Option, Some, None}
use Rattle.frame_lines.specs.Lines.{LineService, memory_service}
use Rattle.net_events.specs.Network.{Network}
use Rattle.net_config.specs.NetPlan.{IsPlan}
use Rattle.net_events.specs.Opening.{IsMade}
use Rattle.net_config.specs.declared.config.Config.{Config}
use Rattle.net_config.specs.declared.fault.MakeFault.TheVariants.{BadConfig, OutOfMemory}
use Rattle.net_config.specs.Plan.{plan_of}
use Rattle.net_config.specs.Served.{is_served}
use Rattle.net_events.specs.declared.event.Event.{Event}
use Rattle.net_events.specs.declared.event.StepFault.{StepFault}
use Rattle.net_nodes.specs.Faults.{step_fault, MayWant}
use Rattle.net_nodes.specs.Steps.{StepOf}
use Rattle.net_events.specs.declared.answer.Answer.{Answer}
use Rattle.line_sim.specs.declared.running.RunFault.{RunFault}
use Rattle.line_sim.specs.declared.running.RunFault.TheVariants.{Made, Stopped}

-- the configuration is served, its plan is one of a network that there can be, and the network is made so
pub record IsMadeBy (L : LineService) (config : Config) (net : Network) : Type 0 where
  pub served : is_served config ≡ true
  pub planned : IsPlan (plan_of config)
  pub made : IsMade L (plan_of config) net

-- the event is answered, or refused with its fault, but not for want of memory
abbrev pub IsHandled : (L : LineService) → Event → Network → Option StepFault → Network → Type 0
IsHandled L e s None t = (answer : Answer) × StepOf L e s answer t
IsHandled L e s (Some fault) t = t ≡ s

-- the events happen, one after the other
abbrev pub Ran : (L : LineService) → Network → List Event → Network → Type 0
Ran L s [] t = s ≡ t
Ran L s (e ∷ es) t = (mid : Network) × IsHandled L e s (step_fault e s) mid × Ran L mid es t

-- from a network as it is made by this configuration, on lines in memory, the events lead to this one
pub record HasRun (config : Config) (events : List Event) (net : Network) : Type 0 where
  pub start : Network
  pub made : IsMadeBy memory_service config start
  pub ran : Ran memory_service start events net

-- the events before this index happened, and that of this index, which takes memory and which the network itself does
-- not refuse, found none
pub record HasStopped (config : Config) (events : List Event) (index : ℕ) : Type 0 where
  pub net : Network
  pub event : Event
  pub before : HasRun config (take index events) net
  pub is_next : slice_get events index ≡ Some event
  pub may_want : MayWant event net

-- why a run ends early: a configuration that is not served, or want of memory, at the making or at one of the events
abbrev pub IsRunFault : Config → List Event → RunFault → Type 0
IsRunFault config events (Made BadConfig) = is_served config ≡ false
IsRunFault config events (Made OutOfMemory) = is_served config ≡ true
IsRunFault config events (Stopped index) = HasStopped config events index
