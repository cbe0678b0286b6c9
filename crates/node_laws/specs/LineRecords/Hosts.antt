-- The events of a host: what each makes of what is kept of its line and of the book. What was asked is written if it
-- was not refused, and so is what is told. What is refused changes nothing.
use Rattle.std.specs.Prelude.{◌≡◌, ℕ, Bool, List, [], ◌∷◌, Option, Some, None}
use Rattle.link_timers.specs.declared.role.Role.{Role}
use Rattle.link_timers.specs.declared.timers.TimerId.{TimerId}
use Rattle.data_transfer.specs.Packets.{CallParts, Datum}
use Rattle.data_transfer.specs.Traffic.{Taken}
use Rattle.data_transfer.specs.Traffic.Taken.{TakenInterrupt, TakenPacket}
use Rattle.packet_channel.specs.Channel.{Request}
use Rattle.packet_layer.specs.Layer.{channel_given, front_on}
use Rattle.packet_laws.specs.Readable.{CanBePlaced}
use Rattle.packet_end.specs.PacketEnd.{PacketEnd}
use Rattle.node_laws.specs.Lines.NodeLine.{Line}
use Rattle.data_transfer.specs.Cutting.{cut}
use Rattle.packet_host.specs.Saying.{message, say_refusal}
use Rattle.packet_host.specs.Host.{after_call, after_request, after_refuse, after_say, after_take, after_expiry}
use Rattle.packet_host.specs.Host.{refuse_refusal}
use Rattle.call_records.specs.Book.{Book, sends, closes, takes, releases, all_told}
use Rattle.record_laws.specs.Books.Told.{unless_refused, placed_on}
use Rattle.node_laws.specs.LineRecords.Kept.{Setting, Kept, end_at, coming_to}
use Rattle.node_laws.specs.LineRecords.LineRecordClauses.{requested_at}
use Rattle.node_laws.specs.LineRecords.Happens.{with_event}

-- ---- what a host writes

abbrev pub sends_all : Role → (channel : ℕ) → List Datum → Book → Book
sends_all role channel [] b = b
sends_all role channel (d ∷ ds) b = sends_all role channel ds (sends role channel d b)

-- a message of so many packets
abbrev pub says : Role → (channel : ℕ) → List ℕ → (qualified delivery : Bool) → PacketEnd → Book → Book
says role channel octets qualified delivery e b =
    unless_refused (say_refusal e.layer channel octets qualified)
    (sends_all role channel (cut e.layer.flow.size (message octets qualified delivery)) b) b

-- a call that came in and is not answered is cleared
abbrev pub refuses : Role → (channel : ℕ) → PacketEnd → Book → Book
refuses role channel e b = unless_refused (refuse_refusal e channel) (closes role channel b) b

-- a packet that is taken is released
abbrev pub lets_go : Role → (channel : ℕ) → Taken → Book → Book
lets_go role channel (TakenInterrupt octets) b = b
lets_go role channel (TakenPacket d) b = releases role channel 1 b

abbrev pub takes_any : Role → (channel : ℕ) → Option Taken → Book → Book
takes_any role channel None b = b
takes_any role channel (Some x) b = lets_go role channel x (takes role channel (Some x) b)

-- ---- the events, at an end of which all notes were read

-- the end became `e`, and the book has what was asked
abbrev pub IsKeptAfter : Setting → Role → (e : PacketEnd) → Book → (kept : List Bool) → Line → Type 0
IsKeptAfter s role e b kept l = Kept s (all_told role e.notes b) (with_event role e kept (coming_to role l) l)

abbrev pub HostExpiryLaw : Type 0
HostExpiryLaw = (s : Setting) (b : Book) (l : Line) (role : Role) (id : TimerId) (kept : List Bool)
    → (end_at role l).notes ≡ [] → Kept s b l
    → IsKeptAfter s role (after_expiry (end_at role l) id) b kept l

abbrev pub HostCallLaw : Type 0
HostCallLaw = (s : Setting) (b : Book) (l : Line) (role : Role) (parts : CallParts) (kept : List Bool)
    → CanBePlaced parts → (end_at role l).notes ≡ [] → Kept s b l
    → let e = end_at role l in
    IsKeptAfter s role (after_call e parts) (placed_on role (channel_given e.layer e.layer.phase) parts b) kept l

abbrev pub HostRequestLaw : Type 0
HostRequestLaw = (s : Setting) (b : Book) (l : Line) (role : Role) (channel : ℕ) (r : Request) (kept : List Bool)
    → (end_at role l).notes ≡ [] → Kept s b l
    → let e = end_at role l in IsKeptAfter s role (after_request e channel r) (requested_at role channel r e b) kept l

abbrev pub HostSayLaw : Type 0
HostSayLaw =
    (s : Setting) (b : Book) (l : Line) (role : Role) (channel : ℕ) (octets : List ℕ) (qualified delivery : Bool)
    (kept : List Bool)
    → (end_at role l).notes ≡ [] → Kept s b l
    → let e = end_at role l in
    IsKeptAfter s role (after_say e channel octets qualified delivery)
    (says role channel octets qualified delivery e b) kept l

abbrev pub HostRefuseLaw : Type 0
HostRefuseLaw = (s : Setting) (b : Book) (l : Line) (role : Role) (channel : ℕ) (kept : List Bool)
    → (end_at role l).notes ≡ [] → Kept s b l
    → let e = end_at role l in IsKeptAfter s role (after_refuse e channel) (refuses role channel e b) kept l

abbrev pub HostTakeLaw : Type 0
HostTakeLaw = (s : Setting) (b : Book) (l : Line) (role : Role) (channel : ℕ) (kept : List Bool)
    → (end_at role l).notes ≡ [] → Kept s b l
    → let e = end_at role l in
    IsKeptAfter s role (after_take e channel) (takes_any role channel (front_on e.layer channel) b) kept l
