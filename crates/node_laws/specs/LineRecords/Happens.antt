-- The whole events of a node: what they make of what is kept of its line and of the book, from what comes to the node,
-- or is asked at it, to the frames that go onto the line.
use Rattle.std.specs.Prelude.{◌≡◌, ℕ, Bool, List, [], ◌∷◌, ◌++◌}
use Rattle.link_timers.specs.declared.role.Role.{Role}
use Rattle.link_timers.specs.declared.role.Role.TheVariants.{Dte, Dce}
use Rattle.link_timers.specs.declared.timers.TimerId.{TimerId}
use Rattle.lapb.specs.Machine.{Octets}
use Rattle.lapb.specs.LinkLine.{chosen}
use Rattle.line_end.specs.End.{without_frames}
use Rattle.data_transfer.specs.Packets.{CallParts}
use Rattle.packet_channel.specs.Channel.{Request}
use Rattle.packet_layer.specs.Layer.{channel_given}
use Rattle.packet_laws.specs.Readable.{CanBePlaced}
use Rattle.packet_end.specs.PacketEnd as end
use Rattle.packet_end.specs.PacketEnd.{PacketEnd, begun, received, after_timer, relinked, finished, called, asked}
use Rattle.node_laws.specs.Lines.NodeLine.{Line}
use Rattle.call_records.specs.Book.{Book, all_told}
use Rattle.call_records.specs.Closing.{all_closed}
use Rattle.record_laws.specs.Books.Told.{placed_on}
use Rattle.node_laws.specs.LineRecords.Kept.{Setting, Kept, end_at, coming_to}
use Rattle.node_laws.specs.LineRecords.LineRecordClauses.{requested_at}

-- ---- a line after an event

-- an end whose frames went onto the line
abbrev pub sent : PacketEnd → PacketEnd
sent e = record e { line = without_frames e.line }

-- the end of a role became `e`, and of its frames those that are not lost go onto the line; these come to it
abbrev pub with_event : Role → PacketEnd → (kept : List Bool) → (coming : List Octets) → Line → Line
with_event Dte e kept coming l = record {
  dte = sent e;
  dce = l.dce;
  up = l.up ++ chosen kept e.line.frames;
  down = coming;
}
with_event Dce e kept coming l = record {
  dte = l.dte;
  dce = sent e;
  up = coming;
  down = l.down ++ chosen kept e.line.frames;
}

-- the node of a role restarts: all frames on the line are lost, also those that waited at the other end
abbrev pub with_restart : Role → (kept : List Bool) → Line → Line
with_restart Dte kept l = record {
  dte = sent (end.restarted l.dte);
  dce = sent l.dce;
  up = chosen kept (end.restarted l.dte).line.frames;
  down = [];
}
with_restart Dce kept l = record {
  dte = sent l.dte;
  dce = sent (end.restarted l.dce);
  up = [];
  down = chosen kept (end.restarted l.dce).line.frames;
}

-- ---- events

-- the first frame on the way to an end arrives
abbrev pub FrameLaw : Type 0
FrameLaw = (s : Setting) (b : Book) (l : Line) (role : Role) (octets : Octets) (coming : List Octets) (kept : List Bool)
    → coming_to role l ≡ octets ∷ coming → Kept s b l
    → let e = finished (received (begun (end_at role l)) octets) in
    Kept s (all_told role e.notes b) (with_event role e kept coming l)

abbrev pub ExpiryLaw : Type 0
ExpiryLaw = (s : Setting) (b : Book) (l : Line) (role : Role) (id : TimerId) (kept : List Bool) → Kept s b l
    → let e = finished (after_timer (begun (end_at role l)) id) in
    Kept s (all_told role e.notes b) (with_event role e kept (coming_to role l) l)

abbrev pub RelinkLaw : Type 0
RelinkLaw = (s : Setting) (b : Book) (l : Line) (role : Role) (kept : List Bool) → Kept s b l
    → let e = finished (relinked (begun (end_at role l))) in
    Kept s (all_told role e.notes b) (with_event role e kept (coming_to role l) l)

abbrev pub RestartedLaw : Type 0
RestartedLaw = (s : Setting) (b : Book) (l : Line) (role : Role) (kept : List Bool) → Kept s b l
    → Kept s (all_closed role b) (with_restart role kept l)

-- ---- a user's events: it asks first, then the event begins, and ends

abbrev pub CalledLaw : Type 0
CalledLaw = (s : Setting) (b : Book) (l : Line) (role : Role) (parts : CallParts) (kept : List Bool) → CanBePlaced parts
    → Kept s b l
    → let before = end_at role l in let e = finished (begun (called before parts)) in
    Kept s (all_told role e.notes (placed_on role (channel_given before.layer before.layer.phase) parts b))
    (with_event role e kept (coming_to role l) l)

-- requests on a channel, one after the other
abbrev pub asked_all : (channel : ℕ) → List Request → PacketEnd → PacketEnd
asked_all channel [] e = e
asked_all channel (r ∷ rs) e = asked_all channel rs (asked e channel r)

abbrev pub requested_all : Role → (channel : ℕ) → List Request → PacketEnd → Book → Book
requested_all role channel [] e b = b
requested_all role channel (r ∷ rs) e b =
    requested_all role channel rs (asked e channel r) (requested_at role channel r e b)

abbrev pub RequestedLaw : Type 0
RequestedLaw = (s : Setting) (b : Book) (l : Line) (role : Role) (channel : ℕ) (rs : List Request) (kept : List Bool)
    → Kept s b l
    → let before = end_at role l in let e = finished (begun (asked_all channel rs before)) in
    Kept s (all_told role e.notes (requested_all role channel rs before b))
    (with_event role e kept (coming_to role l) l)
