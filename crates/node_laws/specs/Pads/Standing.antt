-- A PAD at an end of a line between two events, and what an event keeps of the line and of its book.
use Rattle.std.specs.Prelude.{◌≡◌, Bool, List, []}
use Rattle.link_timers.specs.declared.role.Role.{Role}
use Rattle.link_timers.specs.Role.{other_of}
use Rattle.lapb.specs.Machine.{Octets}
use Rattle.packet_end.specs.PacketEnd.{PacketEnd}
use Rattle.node_laws.specs.Lines.NodeLine.{Line}
use Rattle.call_records.specs.Book.{Book}
use Rattle.call_records.specs.Writes.{Write, all_written}
use Rattle.node_laws.specs.LineRecords.Kept.{Setting, Kept, end_at, coming_to}
use Rattle.node_laws.specs.LineRecords.Happens.{sent, with_event}
use Rattle.pad_ports.specs.PadLine.{silent_line}
use Rattle.x25_pad.specs.Pad.{PadState}
use Rattle.user_nodes.specs.PadWriting.{writes_of}

-- all its notes were read, and all its frames went onto the line
abbrev pub drained : PadState → PadState
drained p = record p { line = silent_line (sent p.line.end) }

-- it is the node at the end of this role, with nothing left of its last event
pub record StandsAt (role : Role) (l : Line) (p : PadState) : Type 0 where
  pub end : p.line.end ≡ end_at role l
  pub read : p.line.end.notes ≡ []
  pub noted : p.line.notes ≡ []
  pub sent : p.line.end.line.frames ≡ []

-- after an event the line is this, and the PAD that: with these writes in the book what is kept of the line is kept,
-- the PAD stands at its end, and the other end is `other`
pub record Keeps (s : Setting) (b : Book) (role : Role) (l : Line) (p : PadState) (writes : List Write)
    (other : PacketEnd) : Type 0 where
  pub kept : Kept s (all_written role writes b) l
  pub here : StandsAt role l (drained p)
  pub there : end_at (other_of role) l ≡ other

-- what is written is what the PAD noted; its frames go onto the line or are lost there, and these come to it then
abbrev pub KeepsWith : Setting → Book → Role → Line → (kept : List Bool) → (coming : List Octets) → PadState → Type 0
KeepsWith s b role l kept coming p =
    Keeps s b role (with_event role p.line.end kept coming l) p (writes_of p.line.notes) (end_at (other_of role) l)

-- the same frames as before
abbrev pub KeepsBy : Setting → Book → Role → Line → (kept : List Bool) → PadState → Type 0
KeepsBy s b role l kept p = KeepsWith s b role l kept (coming_to role l) p
