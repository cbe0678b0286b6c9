-- On lines in memory a configuration and a list of events lead to one network, and each event has one answer.
use Rattle.std.specs.Prelude.{◌≡◌, List}
use Rattle.frame_lines.specs.Lines.{memory_service}
use Rattle.net_config.specs.declared.config.Config.{Config}
use Rattle.net_events.specs.declared.answer.Answer.{Answer}
use Rattle.net_events.specs.declared.event.Event.{Event}
use Rattle.net_events.specs.Network.{Network}
use Rattle.net_nodes.specs.Steps.{StepOf}
use Rattle.line_sim.specs.Between.{IsBetweenEvents}
use Rattle.line_sim.specs.Runs.{IsMadeBy, HasRun}

-- two answers say the same
pub record IsSameAnswer (a b : Answer) : Type 0 where
  pub frames : a.frames.items ≡ b.frames.items
  pub notes : a.notes.items ≡ b.notes.items
  pub text : a.text.items ≡ b.text.items
  pub outcome : a.outcome ≡ b.outcome

-- two networks that are made by one configuration are the same
abbrev pub MakingLaw : Type 0
MakingLaw = (config : Config) (s t : Network) → IsMadeBy memory_service config s → IsMadeBy memory_service config t
    → s ≡ t

-- an event that is answered twice, at one network between events, has the same answer and leaves the same network
abbrev pub StepLaw : Type 0
StepLaw = (e : Event) (s t u : Network) (a b : Answer) → IsBetweenEvents memory_service s
    → StepOf memory_service e s a t → StepOf memory_service e s b u → IsSameAnswer a b × (t ≡ u)

-- two runs of one list of events over networks of one configuration end in the same network
abbrev pub RunLaw : Type 0
RunLaw = (config : Config) (events : List Event) (s t : Network) → HasRun config events s → HasRun config events t
    → s ≡ t
