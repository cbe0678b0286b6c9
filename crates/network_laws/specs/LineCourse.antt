-- Which course of events it is that leads to a PAD, on a line between two nodes with users: that of the events at both,
-- and of time. Nothing else makes the course go on.
use Rattle.std.specs.Prelude.{◌≡◌, ◌≢◌, ℕ, slice_get, Option, Some, None}
use Rattle.link_timers.specs.declared.role.Role.{Role}
use Rattle.link_timers.specs.declared.role.Role.TheVariants.{Dte, Dce}
use Rattle.x25_pad.specs.Pad.{PadState}
use Rattle.x25_pad.specs.Making.{IsConfig}
use Rattle.x25_pad.specs.declared.config.PadConfig.{PadConfig}
use Rattle.call_records.specs.Records.{RecordValue}
use Rattle.call_records.specs.Writes.{all_written}
use Rattle.node_laws.specs.Pads.Sending.{HasSaid}
use Rattle.record_laws.specs.Words.{HasTyped}
use Rattle.node_laws.specs.Pads.Holds.{node_at as node_of_end}
use Rattle.node_laws.specs.Pads.Courses.{Happening, Here, There, Course, happened, beginning, IsCourse}
use Rattle.node_laws.specs.Pads.Standing.{drained}
use Rattle.node_laws.specs.Pads.Happening.{PadEvent, HasKey, HasBreak, HasIdleTime, HasPrinting, HasLeaving, HasArrival}
use Rattle.node_laws.specs.Pads.Happening.{HasFrame, HasExpiry, HasRelink, HasRestart, HasTicks}
use Rattle.user_nodes.specs.Node.{Pad}
use Rattle.user_nodes.specs.declared.terminal.TerminalEvent.TheVariants.{Key, Break, Idle, Print, Leaves, Arrives}
use Rattle.frame_lines.specs.Lines.{Flights, LineService}
use Rattle.net_events.specs.OneLine.{LineState}
use Rattle.net_events.specs.NodeEvents.{NodeEvent, Hears, Expires, Relinks, Restarts, AtTerminal, Happened, turn_of}
use Rattle.net_config.specs.NetPlan.{NewPad}
use Rattle.network_laws.specs.IsLine.{IsLine}
use Rattle.network_laws.specs.LineLaw.{made_line, elapsed}

-- it leads to the PAD at the DTE's end of the line, once no frame and no note is left there, and to the line's book
pub record LeadsTo (c : Course) (s : LineState) : Type 0 where
  pub led : IsCourse Dte c
  pub pad : PadState
  pub there : s.dte ≡ Pad pad
  pub same : c.pad ≡ drained pad
  pub book : c.book ≡ s.book

-- what an event at the PAD is in the course; a PAD is asked nothing that a host is asked
abbrev pub at_pad : NodeEvent → Option PadEvent
at_pad (Hears octets) = Some (HasFrame octets)
at_pad (Expires id) = Some (HasExpiry id)
at_pad Relinks = Some HasRelink
at_pad Restarts = Some HasRestart
at_pad (AtTerminal number (Key octet)) = Some (HasKey number octet)
at_pad (AtTerminal number Break) = Some (HasBreak number)
at_pad (AtTerminal number Idle) = Some (HasIdleTime number)
at_pad (AtTerminal number Print) = Some (HasPrinting number)
at_pad (AtTerminal number Leaves) = Some (HasLeaving number)
at_pad (AtTerminal number Arrives) = Some (HasArrival number)
at_pad _ = None

-- at the other end it is what is written there
abbrev pub IsIn : NodeEvent → Role → LineState → Happening → Type 0
IsIn event Dte s (Here e) = at_pad event ≡ Some e
IsIn event Dce s (There writes) = (turn_of event Dce s.dce s.book).book ≡ all_written Dce writes s.book
IsIn event role s h = ⊥

-- ---- from the making on

abbrev pub MadeCourse : Type 0
MadeCourse = (dte_place dce_place : ℕ) (c : PadConfig) (flights : Flights) → dte_place ≢ dce_place → IsConfig c
    → LeadsTo (beginning c dte_place dce_place c.line.channels)
    (made_line dte_place dce_place (NewPad c.params c.terminals) c.line flights)

abbrev pub EventCourse : LineService → Type 0
EventCourse L = (event : NodeEvent) (role : Role) (s t : LineState) (c : Course) → IsLine L s
    → Happened L event role s t → LeadsTo c s
    → (h : Happening) × IsIn event role s h × LeadsTo (happened Dte h c) t

-- frames are lost
abbrev pub LossCourse : Type 0
LossCourse = (s : LineState) (flights : Flights) (c : Course) → LeadsTo c s → LeadsTo c (record s { flights = flights })

abbrev pub TimeCourse : Type 0
TimeCourse = (s : LineState) (ticks : Role → ℕ) (c : Course) → LeadsTo c s
    → LeadsTo (happened Dte (Here (HasTicks (ticks Dte))) c) (elapsed ticks s)

-- ---- what it says

-- each record of the PAD has sent what was typed, and of itself what its occasions in this course ask for
abbrev pub SentCourse : Type 0
SentCourse = (s : LineState) (c : Course) → LeadsTo c s → (n : ℕ) (r : RecordValue)
    → slice_get s.book.records n ≡ Some r → r.node ≡ node_of_end Dte s.book → HasTyped r × HasSaid (c.occasions n) r
