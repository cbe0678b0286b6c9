-- A node at an end of a line between two events, and what its turn keeps.
use Rattle.std.specs.Prelude.{◌≡◌, Bool, List, []}
use Rattle.link_timers.specs.declared.role.Role.{Role}
use Rattle.link_timers.specs.Role.{other_of}
use Rattle.lapb.specs.Machine.{Octets}
use Rattle.node_laws.specs.Lines.NodeLine.{Line}
use Rattle.node_laws.specs.LineRecords.Kept.{Setting, Kept, end_at, coming_to}
use Rattle.node_laws.specs.LineRecords.Happens.{with_event}
use Rattle.user_nodes.specs.Node.{NodeState, end_of, pad_notes, drained}
use Rattle.user_nodes.specs.Turn.{Turn}

-- ---- between events

-- all its notes were read, those of a PAD too, and all its frames went onto the line
pub record IsNode (n : NodeState) : Type 0 where
  pub read : (end_of n).notes ≡ []
  pub noted : pad_notes n ≡ []
  pub sent : (end_of n).line.frames ≡ []

-- it is the node at the end of this role
pub record StandsAt (role : Role) (l : Line) (n : NodeState) : Type 0 where
  pub end : end_of n ≡ end_at role l
  pub node : IsNode n

-- ---- after a turn

-- a turn of the node of this role made the line `m` out of `l`: what is kept of the line is kept with the book that was
-- written, and the nodes stand at its ends, the one without the frames that it sent and the other as it was
pub record Keeps (s : Setting) (role : Role) (l m : Line) (t : Turn) : Type 0 where
  pub kept : Kept s t.book m
  pub here : StandsAt role m (drained t.node)
  pub there : (n : NodeState) → StandsAt (other_of role) l n → StandsAt (other_of role) m n

-- the frames of the turn go onto the line, or are lost there, and these come to the node then
abbrev pub KeepsWith : Setting → Role → Line → (kept : List Bool) → (coming : List Octets) → Turn → Type 0
KeepsWith s role l kept coming t = Keeps s role l (with_event role (end_of t.node) kept coming l) t

-- the same frames as before
abbrev pub KeepsBy : Setting → Role → Line → (kept : List Bool) → Turn → Type 0
KeepsBy s role l kept t = KeepsWith s role l kept (coming_to role l) t
