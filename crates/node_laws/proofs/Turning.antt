-- The nodes after a turn, and a turn in which nothing happens.
use Rattle.std.specs.Prelude.{Bool, List}
use Rattle.std.proofs.Common.{refl, sym, subst, ◌∙◌}
use Rattle.link_timers.specs.declared.role.Role.{Role}
use Rattle.link_timers.specs.declared.role.Role.TheVariants.{Dte, Dce}
use Rattle.link_timers.specs.Role.{other_of}
use Rattle.lapb.specs.Machine.{Octets}
use Rattle.packet_end.specs.PacketEnd.{PacketEnd}
use Rattle.node_laws.specs.Lines.NodeLine.{Line, Sends}
use Rattle.call_records.specs.Book.{Book, all_told}
use Rattle.node_laws.specs.LineRecords.Kept.{Setting, Kept, end_at, coming_to}
use Rattle.node_laws.specs.LineRecords.Happens.{with_event}
use Rattle.node_laws.proofs.LineRecords.LineLaw.{silent_kept, like_kept}
use Rattle.user_nodes.specs.Node.{NodeState, Pad, Host, end_of, drained, all_read, without_notes}
use Rattle.user_nodes.specs.Turn.{unchanged, told}
use Rattle.x25_pad.specs.Pad.{PadState}
use Rattle.node_laws.specs.Pads.Standing as pad
use Rattle.node_laws.specs.Nodes.{IsNode, StandsAt, KeepsWith, KeepsBy}

-- ---- nodes

pub stands : (role : Role) (n : NodeState) (l : Line) (kept : List Bool) (coming : List Octets) → IsNode (drained n) → StandsAt role (with_event role (end_of n) kept coming l) (drained n)
stands Dte (Pad p) l kept coming h = record { end = refl; node = h }
stands Dte (Host e) l kept coming h = record { end = refl; node = h }
stands Dce (Pad p) l kept coming h = record { end = refl; node = h }
stands Dce (Host e) l kept coming h = record { end = refl; node = h }

pub stays : (role : Role) (e : PacketEnd) (l : Line) (kept : List Bool) (coming : List Octets) (n : NodeState) → StandsAt (other_of role) l n → StandsAt (other_of role) (with_event role e kept coming l) n
stays Dte e l kept coming n h = record { end = h.end; node = h.node }
stays Dce e l kept coming n h = record { end = h.end; node = h.node }

same_node : (n : NodeState) → IsNode n → IsNode (drained n)
same_node (Pad p) h = record { read = h.read; noted = h.noted; sent = refl }
same_node (Host e) h = record { read = h.read; noted = refl; sent = refl }

-- ---- what is read of an end makes no difference

pub read_kept : (s : Setting) (b : Book) (role : Role) (e : PacketEnd) (l : Line) (kept : List Bool) (coming : List Octets) → Kept s b (with_event role e kept coming l) → Kept s b (with_event role (all_read e) kept coming l)
read_kept s b Dte e l kept coming k =
    like_kept s b (with_event Dte e kept coming l) (with_event Dte (all_read e) kept coming l)
    (record { dte_link = refl; dce_link = refl; dte_layer = refl; dce_layer = refl; up = refl; down = refl }) k
read_kept s b Dce e l kept coming k =
    like_kept s b (with_event Dce e kept coming l) (with_event Dce (all_read e) kept coming l)
    (record { dte_link = refl; dce_link = refl; dte_layer = refl; dce_layer = refl; up = refl; down = refl }) k

same_kept : (s : Setting) (b : Book) (role : Role) (l : Line) (kept : List Bool) → Kept s b l → Kept s b (with_event role (end_at role l) kept (coming_to role l) l)
same_kept s b Dte l kept k = silent_kept s b l Dte (Sends kept) tt k
same_kept s b Dce l kept k = silent_kept s b l Dce (Sends kept) tt k

-- ---- turns

-- of a host the notes are written
pub told_keeps : (s : Setting) (b : Book) (role : Role) (e : PacketEnd) (l : Line) (kept : List Bool) (coming : List Octets) →
    Kept s (all_told role e.notes b) (with_event role e kept coming l) → KeepsWith s role l kept coming (told role (Host e) b)
told_keeps s b role e l kept coming k = record {
  kept = read_kept s (all_told role e.notes b) role e l kept coming k;
  here = stands role (without_notes (Host e)) l kept coming (record { read = refl; noted = refl; sent = refl });
  there = λ n g. stays role (all_read e) l kept coming n g;
}

-- nothing happens
pub unchanged_keeps : (s : Setting) (b : Book) (role : Role) (n : NodeState) (l : Line) (kept : List Bool) → StandsAt role l n → Kept s b l → KeepsBy s role l kept (unchanged n b)
unchanged_keeps s b role n l kept h k = record {
  kept = subst (λ (e : PacketEnd). Kept s b (with_event role e kept (coming_to role l) l)) (sym h.end) (same_kept s b role l kept k);
  here = stands role n l kept (coming_to role l) (same_node n h.node);
  there = λ m g. stays role (end_of n) l kept (coming_to role l) m g;
}

-- ---- a PAD

pub pad_stands : (role : Role) (l : Line) (p : PadState) → StandsAt role l (Pad p) → pad.StandsAt role l p
pad_stands role l p h = record { end = h.end; read = h.node.read; noted = h.node.noted; sent = h.node.sent }

-- what it noted is written
pub noted_keeps : (s : Setting) (b : Book) (role : Role) (l : Line) (kept : List Bool) (coming : List Octets) (p : PadState)
    → pad.KeepsWith s b role l kept coming p → KeepsWith s role l kept coming (told role (Pad p) b)
noted_keeps s b role l kept coming p h = record {
  kept = h.kept;
  here = record { end = h.here.end; node = record { read = h.here.read; noted = h.here.noted; sent = h.here.sent } };
  there = λ n g. record { end = g.end ∙ sym h.there; node = g.node };
}
