-- Processes that each made the network of one plan are parts of one network.
use Rattle.std.specs.Prelude.{◌≡◌, ℕ, slice_get, Some}
use Rattle.user_nodes.specs.Node.{frames_of}
use Rattle.frame_lines.specs.declared.line.Direction.{Direction}
use Rattle.frame_lines.specs.Lines.{LineService, no_flights, lossless_service}
use Rattle.net_config.specs.NetPlan.{NewLine, NetPlan, Planned, IsPlan}
use Rattle.net_events.specs.Network.{NetLine, Network, place_at}
use Rattle.net_events.specs.Opening.{IsMade, new_at}
use Rattle.line_sim.specs.Between.{IsBetweenEvents}
use Rattle.parted_laws.specs.Processes.{Processes, IsLeftOf, line_in, sender, on_way, AreOf}

-- a process has a network as it is made by a plan, but for the frames in flight
pub record IsMadePart (L : LineService) (plan : NetPlan) (part : Network) : Type 0 where
  pub network : Network
  pub made : IsMade L plan network
  pub nodes : part.nodes ≡ network.nodes
  pub lines : (line : ℕ) → line_in (slice_get part.lines line) ≡ line_in (slice_get network.lines line)

-- a line of a plan, with nothing in flight
abbrev pub planned_line : NewLine → NetLine
planned_line l = record { dte = l.dte; dce = l.dce; channels = l.params.channels; flights = no_flights }

-- each process has such a network, and of the first frames of each end some are on their way, and nothing else
pub record AreMade (L : LineService) (owner : ℕ → ℕ) (plan : NetPlan) (p : Processes) : Type 0 where
  pub parts : (k : ℕ) → IsMadePart L plan (p.parts k)
  pub first : (line : ℕ) (l : NewLine) (d : Direction) (n : Planned) → slice_get plan.lines line ≡ Some l
      → slice_get plan.nodes (place_at (sender d) (planned_line l)) ≡ Some n
      → IsLeftOf (on_way owner p line (planned_line l) d) (frames_of (new_at n (sender d) l.params))

pub record AreMadeOne (owner : ℕ → ℕ) (plan : NetPlan) (p : Processes) : Type 0 where
  pub network : Network
  pub made : IsMade lossless_service plan network
  pub between : IsBetweenEvents lossless_service network
  pub are : AreOf owner p network

abbrev pub MakingLaw : LineService → Type 0
MakingLaw L = (owner : ℕ → ℕ) (plan : NetPlan) (p : Processes) → IsPlan plan → AreMade L owner plan p
    → AreMadeOne owner plan p
