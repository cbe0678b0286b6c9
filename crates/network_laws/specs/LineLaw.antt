-- The law of a line of a network: it holds from the making on, whatever happens at its nodes and on it.
use Rattle.std.specs.Prelude.{◌≡◌, ◌≢◌, ℕ}
use Rattle.link_timers.specs.declared.role.Role.{Role}
use Rattle.link_timers.specs.declared.role.Role.TheVariants.{Dte, Dce}
use Rattle.packet_end.specs.Params.{AreParams}
use Rattle.packet_end.specs.declared.params.EndParams.{EndParams}
use Rattle.call_records.specs.Book.{made_book}
use Rattle.record_laws.specs.Books.Headline.{BookHolds}
use Rattle.x25_pad.specs.Pad.{PadState}
use Rattle.node_laws.specs.Pads.Courses.{PadSends}
use Rattle.user_nodes.specs.Node.{Pad, drained, node_elapsed}
use Rattle.frame_lines.specs.declared.line.Direction.{Direction}
use Rattle.frame_lines.specs.Lines.{Flights, without_first, LineService}
use Rattle.net_events.specs.OneLine.{LineState}
use Rattle.net_events.specs.NodeEvents.{NodeEvent, Happened}
use Rattle.net_config.specs.NetPlan.{NewDte, IsNewDte}
use Rattle.net_events.specs.Opening.{new_dte, new_dce, AreSent}
use Rattle.network_laws.specs.IsLine.{IsLine}

-- ---- the making

-- the line between two nodes that were made, whose first frames went
abbrev pub made_line : (dte_place dce_place : ℕ) → NewDte → EndParams → Flights → LineState
made_line dte_place dce_place dte line flights = record {
  dte_place = dte_place;
  dce_place = dce_place;
  dte = drained (new_dte dte line);
  dce = drained (new_dce line);
  flights = flights;
  book = made_book dte_place dce_place line.channels line.standing;
}

abbrev pub MadeLaw : LineService → Type 0
MadeLaw L = (dte_place dce_place : ℕ) (dte : NewDte) (line : EndParams) (flights : Flights)
    → dte_place ≢ dce_place → AreParams line → IsNewDte dte line
    → (L.faithful → AreSent L (new_dte dte line) (new_dce line) flights)
    → IsLine L (made_line dte_place dce_place dte line flights)

-- ---- what happens

abbrev pub EventLaw : LineService → Type 0
EventLaw L = (event : NodeEvent) (role : Role) (s t : LineState) → IsLine L s
    → Happened L event role s t → IsLine L t

-- the first frame in flight in a direction, if any, is lost
abbrev pub LossLaw : LineService → Type 0
LossLaw L = (d : Direction) (s : LineState) (flights : Flights) → IsLine L s
    → (L.faithful → flights ≡ without_first d s.flights) → IsLine L (record s { flights = flights })

-- ticks pass at both nodes, at each by a number of its own
abbrev pub elapsed : (ticks : Role → ℕ) → LineState → LineState
elapsed ticks s = record s { dte = node_elapsed (ticks Dte) s.dte; dce = node_elapsed (ticks Dce) s.dce }

abbrev pub TimeLaw : LineService → Type 0
TimeLaw L = (s : LineState) (ticks : Role → ℕ) → IsLine L s → IsLine L (elapsed ticks s)

-- ---- what it promises

-- on a faithful line the book holds
abbrev pub BookLaw : LineService → Type 0
BookLaw L = (s : LineState) → IsLine L s → L.faithful → BookHolds s.book

-- and on any line what a PAD sent on each call is what its terminals typed, and what it had occasion to say of itself,
-- in one course of events that leads to it
abbrev pub TypedLaw : LineService → Type 0
TypedLaw L = (s : LineState) → IsLine L s → (p : PadState) → s.dte ≡ Pad p
    → PadSends Dte p s.dte_place s.book.records
