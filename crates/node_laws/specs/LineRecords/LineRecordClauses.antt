-- The clauses of a line with its book: what each thing that may happen on a line makes of what is kept of it and of its
-- book.
use Rattle.std.specs.Prelude.{◌≡◌, ℕ, true, List, ◌++◌, length, Option, Some, None, is_some}
use Rattle.link_timers.specs.declared.role.Role.{Role}
use Rattle.pad_editing.specs.Edited.{Step}
use Rattle.data_transfer.specs.Packets.{CallParts, Note}
use Rattle.data_transfer.specs.Traffic.{Taken}
use Rattle.packet_channel.specs.Channel.{Request, Refusal}
use Rattle.packet_layer.specs.Layer.{link_down, channel_of, channel_given, request_refusal, flow_refusal, front_on}
use Rattle.packet_laws.specs.Readable.{CanBePlaced}
use Rattle.packet_end.specs.PacketEnd.{PacketEnd}
use Rattle.node_laws.specs.Lines.NodeLine.{Line, Act, Begins, Hears, Expires, Relinks, RelinksIfDue, Restarts, Calls, Requests}
use Rattle.node_laws.specs.Lines.NodeLine.{Offers, Settles, Elapses, Sends, At, Loses, happens, made}
use Rattle.call_records.specs.Book.{Book, side_of, slot_at, edits, all_told, made_book}
use Rattle.call_records.specs.Closing.{all_closed}
use Rattle.record_laws.specs.Books.Told.{carried, unless_refused, placed_on}
use Rattle.record_laws.specs.Books.Headline.{BookHolds, has_call}
use Rattle.node_laws.specs.LineRecords.Kept.{Setting, IsSetting, Kept, IsLike, end_at}

-- ---- the making

abbrev pub MadeLaw : Type 0
MadeLaw = (s : Setting) → IsSetting s
    → Kept s (made_book s.dte_node s.dce_node s.dte.channels s.dte.standing) (made s.dte s.dce)

-- ---- acts that no user asks for

-- those of which the layer may tell
abbrev pub MayTell : Act → Type 0
MayTell Hears = Unit {0}
MayTell (Expires id) = Unit {0}
MayTell Relinks = Unit {0}
MayTell RelinksIfDue = Unit {0}
MayTell _ = ⊥

-- those of which it tells nothing; where an event begins the notes of the last one are dropped
abbrev pub IsSilent : Act → Type 0
IsSilent Begins = Unit {0}
IsSilent Offers = Unit {0}
IsSilent Settles = Unit {0}
IsSilent (Elapses ticks) = Unit {0}
IsSilent (Sends kept) = Unit {0}
IsSilent _ = ⊥

-- some notes are told, behind those that the end had, and the book is kept in which they are written
pub record Tells (s : Setting) (b : Book) (role : Role) (l m : Line) : Type 0 where
  pub given : List Note
  pub notes : (end_at role m).notes ≡ (end_at role l).notes ++ given
  pub kept : Kept s (all_told role given b) m

abbrev pub TellsLaw : Type 0
TellsLaw = (s : Setting) (b : Book) (l : Line) (role : Role) (act : Act) → MayTell act → Kept s b l
    → Tells s b role l (happens (At role act) l)

abbrev pub SilentLaw : Type 0
SilentLaw = (s : Setting) (b : Book) (l : Line) (role : Role) (act : Act) → IsSilent act → Kept s b l
    → Kept s b (happens (At role act) l)

-- a restart drops the notes, of which the book has those of the calls that it ends
abbrev pub RestartLaw : Type 0
RestartLaw = (s : Setting) (b : Book) (l : Line) (role : Role) → Kept s b l
    → Kept s (all_told role (link_down (end_at role l).layer).notes b) (happens (At role Restarts) l)
    × Kept s (all_closed role b) (happens (At role Restarts) l)

-- ---- acts of a user

-- a caller names its own address, if it has one
abbrev pub CallLaw : Type 0
CallLaw = (s : Setting) (b : Book) (l : Line) (role : Role) (parts : CallParts) → CanBePlaced parts
    → Kept s b l
    → Kept s (placed_on role (channel_given (end_at role l).layer (end_at role l).layer.phase) parts b)
    (happens (At role (Calls parts)) l)

-- what a request at this end, on this channel, makes of the book
abbrev pub requested_at : Role → (channel : ℕ) → Request → PacketEnd → Book → Book
requested_at role channel r e b =
    unless_refused (request_refusal e.layer channel r) (carried role channel r (front_on e.layer channel) b) b

abbrev pub RequestLaw : Type 0
RequestLaw = (s : Setting) (b : Book) (l : Line) (role : Role) (channel : ℕ) (r : Request) → Kept s b l
    → Kept s (requested_at role channel r (end_at role l) b) (happens (At role (Requests channel r)) l)

-- ---- what is no act of an end

abbrev pub LossLaw : Type 0
LossLaw = (s : Setting) (b : Book) (l : Line) (role : Role) → Kept s b l → Kept s b (happens (Loses role) l)

abbrev pub EditLaw : Type 0
EditLaw = (s : Setting) (b : Book) (l : Line) (role : Role) (channel : ℕ) (step : Step) → Kept s b l
    → Kept s (edits role channel step b) l

abbrev pub LikeLaw : Type 0
LikeLaw = (s : Setting) (b : Book) (l m : Line) → IsLike l m → Kept s b l → Kept s b m

-- ---- what the book is then

abbrev pub HoldsLaw : Type 0
HoldsLaw = (s : Setting) (b : Book) (l : Line) → Kept s b l → BookHolds b

-- a channel has a present record exactly where the layer of its end has a call there
abbrev pub PresentLaw : Type 0
PresentLaw = (s : Setting) (b : Book) (l : Line) (role : Role) (channel : ℕ) → Kept s b l
    → is_some (slot_at role channel b).present ≡ has_call (channel_of (end_at role l).layer channel)

-- so it has one in data transfer, a reset of the own end confirmed or not, and where a request is not refused
abbrev pub IsInTransfer : Option Refusal → Type 0
IsInTransfer None = Unit {0}
IsInTransfer (Some Refusal.IsResetting) = Unit {0}
IsInTransfer _ = ⊥

abbrev pub TransferLaw : Type 0
TransferLaw = (s : Setting) (b : Book) (l : Line) (role : Role) (channel : ℕ) → Kept s b l
    → IsInTransfer (flow_refusal (end_at role l).layer channel)
    → is_some (slot_at role channel b).present ≡ true

abbrev pub AskedLaw : Type 0
AskedLaw = (s : Setting) (b : Book) (l : Line) (role : Role) (channel : ℕ) (r : Request) → Kept s b l
    → request_refusal (end_at role l).layer channel r ≡ None
    → is_some (slot_at role channel b).present ≡ true

-- and what waits on a channel may be taken: outside data transfer nothing waits
abbrev pub FrontLaw : Type 0
FrontLaw = (s : Setting) (b : Book) (l : Line) (role : Role) (channel : ℕ) (x : Taken) → Kept s b l
    → front_on (end_at role l).layer channel ≡ Some x
    → request_refusal (end_at role l).layer channel Request.Taking ≡ None

-- it has the channels of the layer
abbrev pub ChannelsLaw : Type 0
ChannelsLaw = (s : Setting) (b : Book) (l : Line) (role : Role) → Kept s b l
    → length (side_of role b).slots ≡ length (end_at role l).layer.channels

-- where the link is lost, the layer tells of each present call that it is over
abbrev pub ClosingLaw : Type 0
ClosingLaw = (s : Setting) (b : Book) (l : Line) (role : Role) → Kept s b l
    → all_told role (link_down (end_at role l).layer).notes b ≡ all_closed role b
