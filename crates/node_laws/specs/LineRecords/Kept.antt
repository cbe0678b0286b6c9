-- What a network keeps of a line: both its ends and the book of its calls, between the events of its nodes and during
-- one.
use Rattle.std.specs.Prelude.{◌≡◌, ℕ, ◌≤◌, List, ◌++◌}
use Rattle.link_timers.specs.declared.role.Role.{Role}
use Rattle.link_timers.specs.declared.role.Role.TheVariants.{Dte, Dce}
use Rattle.lapb.specs.World as links
use Rattle.lapb.specs.Machine.{Octets}
use Rattle.packet_end.specs.PacketEnd.{PacketEnd}
use Rattle.packet_end.specs.Params.{AreParams}
use Rattle.packet_end.specs.declared.params.EndParams.{EndParams}
use Rattle.node_laws.specs.Lines.NodeLine.{Line, AreAlike}
use Rattle.node_laws.specs.Lines.Joint.{Joint, session_of}
use Rattle.call_records.specs.Book.{Book}
use Rattle.record_laws.specs.Books.Told.{World, Move, after_all, AreAllowed, start}

-- ---- a line of a network

-- how its ends are made, and the nodes at them
pub record Setting : Type 0 where
  pub dte : EndParams
  pub dce : EndParams
  pub dte_node : ℕ
  pub dce_node : ℕ

pub record IsSetting (s : Setting) : Type 0 where
  pub dte : AreParams s.dte
  pub dce : AreParams s.dce
  pub alike : AreAlike s.dte s.dce

-- its two packet layers and its book, before anything happened
abbrev pub beginning : Setting → World
beginning s = start s.dte_node s.dce_node s.dte.channels s.dte.flow s.dte.standing

-- ---- the end of a role, and the frames on the way to it

abbrev pub end_at : Role → Line → PacketEnd
end_at Dte l = l.dte
end_at Dce l = l.dce

abbrev pub coming_to : Role → Line → List Octets
coming_to Dte l = l.down
coming_to Dce l = l.up

-- ---- what is kept

-- some moves at the two packet layers, which the links allow, lead to layers in step with the line and to this book;
-- neither layer was up in a session after the last one of its link. The book has all that the layers were asked and
-- told, also where it is still to be written
pub record Kept (s : Setting) (b : Book) (l : Line) : Type 0 where
  pub setting : IsSetting s
  pub world : links.World
  pub moves : List Move
  pub allowed : AreAllowed moves (beginning s)
  pub joint : Joint l world (after_all moves (beginning s)).line
  pub book : (after_all moves (beginning s)).book ≡ b
  pub dte_top : (after_all moves (beginning s)).top_me ≤ session_of Dte world
  pub dce_top : (after_all moves (beginning s)).top_you ≤ session_of Dce world

-- ---- lines of which the same is kept

-- the layers and the links are the same, and behind the frames on the way those that wait: timers, notes that were not
-- read, and whether a frame is on the way or still waits are all the same to it
pub record IsLike (l m : Line) : Type 0 where
  pub dte_link : m.dte.line.link ≡ l.dte.line.link
  pub dce_link : m.dce.line.link ≡ l.dce.line.link
  pub dte_layer : m.dte.layer ≡ l.dte.layer
  pub dce_layer : m.dce.layer ≡ l.dce.layer
  pub up : m.up ++ m.dte.line.frames ≡ l.up ++ l.dte.line.frames
  pub down : m.down ++ m.dce.line.frames ≡ l.down ++ l.dce.line.frames
