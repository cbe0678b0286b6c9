-- How many notes of an event open something in the book: a call that comes in a record, a reset an epoch.
use Rattle.std.specs.Prelude.{◌≡◌, ◌≤◌, []}
use Rattle.link_timers.specs.declared.timers.TimerId.{TimerId}
use Rattle.lapb.specs.Machine.{Octets}
use Rattle.packet_end.specs.PacketEnd.{PacketEnd, begun, received, after_timer, relinked, finished}
use Rattle.link_timers.specs.declared.role.Role.{Role}
use Rattle.node_laws.specs.Lines.NodeLine.{Line}
use Rattle.call_records.specs.Book.{Book}
use Rattle.call_records.specs.Room.{opening_notes}
use Rattle.node_laws.specs.LineRecords.Kept.{Setting, Kept, end_at}

-- a frame that arrives gives one at most
abbrev pub FrameOpens : Type 0
FrameOpens = (e : PacketEnd) (octets : Octets) → (opening_notes (received (begun e) octets).notes ≤ 1)
    × (opening_notes (finished (received (begun e) octets)).notes ≤ 1)

-- an expiry none, where no notes of the layer were left unread, nor a relink
abbrev pub ExpiryOpens : Type 0
ExpiryOpens = (e : PacketEnd) (id : TimerId) → e.layer.notes ≡ []
    → (opening_notes (after_timer (begun e) id).notes ≡ 0)
    × (opening_notes (finished (after_timer (begun e) id)).notes ≡ 0)

abbrev pub RelinkOpens : Type 0
RelinkOpens = (e : PacketEnd) → (opening_notes (relinked (begun e)).notes ≡ 0)
    × (opening_notes (finished (relinked (begun e))).notes ≡ 0)

-- nor the end of an event in which a user asked something
abbrev pub EndOpens : Type 0
EndOpens = (e : PacketEnd) → opening_notes (finished (begun e)).notes ≡ 0

-- and on a line of which the book is kept no notes of a layer are left unread
abbrev pub ReadLaw : Type 0
ReadLaw = (s : Setting) (b : Book) (l : Line) (role : Role) → Kept s b l → (end_at role l).layer.notes ≡ []
