-- A network that keeps no records, and the registers with which it is one that keeps them.
use Rattle.std.specs.Prelude.{◌≡◌, ℕ, length, Result}
use Rattle.call_records.specs.Register.{Register, HasNoRecords}
use Rattle.frame_lines.specs.Lines.{LineService}
use Rattle.net_events.specs.Network.{Network, all_elapsed}
use Rattle.net_events.specs.declared.answer.Answer.{Answer}
use Rattle.net_events.specs.declared.event.Event.{Event}
use Rattle.net_events.specs.declared.event.StepFault.{StepFault}
use Rattle.net_nodes.specs.Happening.{Happens}
use Rattle.line_sim.specs.Between.{IsBetweenEvents}
use Rattle.line_sim.specs.Stepping.{HasStepped}
use Rattle.live_laws.specs.Registers.{on, bare}

-- between events there is a register with which all holds that the laws of networks keep, and the network's own one has
-- each line and no record
pub record IsLive (L : LineService) (s : Network) : Type 0 where
  pub register : Register
  pub between : IsBetweenEvents L (on register s)
  pub registered : length s.register.lines ≡ length s.lines
  pub stored : HasNoRecords s.register

-- with this register before the event there is one after it, with which the network stepped as one that keeps records
pub record StepsOn (L : LineService) (e : Event) (g : Register) (s : Network) (r : Result Answer StepFault)
    (t : Network) : Type 0 where
  pub after : Register
  pub stepped : HasStepped L e (on g s) r (on after t)
  pub between : IsBetweenEvents L (on after t)

-- so it is with each register with which the network was one between events, and no record is kept
pub record HasLived (L : LineService) (e : Event) (s : Network) (r : Result Answer StepFault) (t : Network)
    : Type 0 where
  pub steps : (g : Register) → IsBetweenEvents L (on g s) → StepsOn L e g s r t
  pub stored : HasNoRecords t.register

-- ---- what a network does whose records are forgotten after each event

-- a network as made
abbrev pub MadeLaw : LineService → Type 0
MadeLaw L = (s : Network) → IsBetweenEvents L s → IsLive L (bare s)

abbrev pub EventLaw : LineService → Type 0
EventLaw L = (e : Event) (s : Network) (r : Result Answer StepFault) (t : Network) → IsLive L s → Happens L e s r t
    → HasLived L e s r (bare t) × IsLive L (bare t)

abbrev pub TimeLaw : LineService → Type 0
TimeLaw L = (s : Network) (ticks : ℕ) → IsLive L s → IsLive L (all_elapsed ticks s)
