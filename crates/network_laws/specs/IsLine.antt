-- What holds of a line of a network between events.
use Rattle.std.specs.Prelude.{◌≡◌, ◌≢◌, false}
use Rattle.link_timers.specs.declared.role.Role.{Role}
use Rattle.link_timers.specs.declared.role.Role.TheVariants.{Dte}
use Rattle.node_laws.specs.Lines.NodeLine.{Line}
use Rattle.node_laws.specs.LineRecords.Kept.{Setting, Kept}
use Rattle.node_laws.specs.Quiet.{IsQuiet}
use Rattle.node_laws.specs.Pads.Courses.{PadHolds}
use Rattle.call_records.specs.Book.{Book}
use Rattle.user_nodes.specs.Node.{NodeState, Pad, Host, end_of, is_pad}
use Rattle.frame_lines.specs.Lines.{LineService}
use Rattle.net_events.specs.OneLine.{LineState}

-- on each of its calls a PAD has sent what its terminals typed, and what it had occasion to say of itself in one course
abbrev pub NodeHolds : Role → NodeState → Book → Type 0
NodeHolds role (Pad p) b = PadHolds role p b
NodeHolds role (Host e) b = Unit {0}

-- the line with its two ends
abbrev pub line_of : LineState → Line
line_of s = record { dte = end_of s.dte; dce = end_of s.dce; up = s.flights.from_dte; down = s.flights.from_dce }

-- events at two ends of a line lead to it and to the book
pub record IsKept (s : LineState) : Type 0 where
  pub setting : Setting
  pub kept : Kept setting s.book (line_of s)

-- no frame or note waits to be taken
pub record AreQuiet (s : LineState) : Type 0 where
  pub dte : IsQuiet s.dte
  pub dce : IsQuiet s.dce

-- the book is that of two nodes, of which the DCE is a host; both are quiet; a PAD's records have sent what was typed;
-- and on a line that is faithful events lead to all of it
pub record IsLine (L : LineService) (s : LineState) : Type 0 where
  pub apart : s.dte_place ≢ s.dce_place
  pub dte_node : s.book.dte.node ≡ s.dte_place
  pub dce_node : s.book.dce.node ≡ s.dce_place
  pub host : is_pad s.dce ≡ false
  pub quiet : AreQuiet s
  pub typed : NodeHolds Dte s.dte s.book
  pub kept : L.faithful → IsKept s
