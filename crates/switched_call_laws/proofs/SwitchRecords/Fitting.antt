-- The calls that a switch hands on can be placed.
use Rattle.std.specs.Prelude.{◌≡◌, ℕ, zero, suc, ◌<◌, Bool, true, false, cond, if◌then◌else◌, ◌==◌, List, [], ◌∷◌, ◌++◌, get_or, Option, Some, None, Result, Ok, Err}
use Rattle.std.proofs.Common.{refl, sym, subst, arith}
use Rattle.link_timers.specs.declared.role.Role.{Role}
use Rattle.link_timers.specs.declared.role.Role.TheVariants.{Dte, Dce}
use Rattle.link_timers.specs.declared.timers.TimerId.{TimerId}
use Rattle.link_timers.specs.declared.timers.TimerId.TheVariants.{T1}
use Rattle.lapb.specs.declared.note.Note as link_note
use Rattle.lapb.specs.declared.note.Note.TheVariants.{Nothing, Up, Down}
use Rattle.lapb.specs.Machine.{Octets, on_t1}
use Rattle.lapb.specs.Octets.{on_octets}
use Rattle.line_end.specs.End.{End}
use Rattle.packet_codec.specs.Diagnostic.{no_information}
use Rattle.packet_codec.specs.declared.fault.PacketFault.{PacketFault}
use Rattle.packet_codec.specs.declared.fault.PacketFault.TheVariants as packet_fault
use Rattle.packet_codec.specs.declared.packet.Numbering.{Numbering}
use Rattle.packet_codec.specs.Packet.{PacketValue, ContentValue, IsContentOn}
use Rattle.packet_codec.specs.Reading.{reading, named_channel}
use Rattle.packet_codec.proofs.Forms.{Found, found}
use Rattle.data_transfer.specs.declared.flow.Flow.{Flow}
use Rattle.data_transfer.specs.Packets.{Body, Received, Note, Reason}
use Rattle.data_transfer.specs.Packets.Body.{Call, Accepted, Clear, ClearConfirmation, Data, Interrupt, InterruptConfirmation, ReceiveReady, ReceiveNotReady, Reset, ResetConfirmation, Restart, RestartConfirmation}
use Rattle.data_transfer.specs.Packets.Received.{Whole, Unknown, Faulty}
use Rattle.data_transfer.specs.Packets.Note.{Incoming, Connected, Closed, WasReset, InterruptConfirmed, Covered}
use Rattle.data_transfer.specs.Packets.Reason.{LinkLost, FarRestart, LocalFault}
use Rattle.data_transfer.specs.Traffic.{Heard, hears as hears_in}
use Rattle.packet_channel.specs.Channel.{ChannelState, Channel, Step, received_in, unreadable_in, clear_error, after_heard, in_flow_ready, in_own_reset}
use Rattle.packet_channel.specs.Channel.ChannelState.{Ready, OwnWaiting, FarWaiting, Transfer, Collision, OwnClear}
use Rattle.packet_layer.specs.Layer.{Layer, Phase, Timer, channel_of, closing_notes, had_call, on_found, on_channel, on_received, restart_packet, unread, runs, expired as layer_expired}
use Rattle.packet_layer.specs.Layer.Phase.{NoSession, OwnRestart, PacketReady}
use Rattle.packet_layer.specs.Layer.Timer.{RestartTimer, CallTimer, ResetTimer, ClearTimer}
use Rattle.packet_layer.specs.Events.{after_hearing, on_named, timer_named}
use Rattle.packet_end.specs.PacketEnd.{PacketEnd, heeded, after_packet, expired, runs_at}
use Rattle.switch_lines.specs.Switch.{quieted}
use Rattle.switched_call_laws.proofs.SwitchRecords.Octets.{accepts_octets}
use Rattle.switched_call_laws.specs.SwitchRecords.Kept.{ReadsOctets}
use Rattle.switch_laws.specs.Steps.{Happening, does}
use Rattle.switch_laws.specs.Steps.Happening.{Brings, RunsOut, Relinks}
use Rattle.data_transfer.specs.Octets.{heard, heard_by, body_of, unreadable_as}
use Rattle.packet_laws.specs.Readable.{CanBePlaced, IfAny, AreOctets}
use Rattle.packet_laws.proofs.Call.Saying.{by_cond}

-- ---- what is read

abbrev pub CarriesCall : Body → Type 0
CarriesCall (Call parts) = CanBePlaced parts
CarriesCall b = Unit {0}

abbrev pub ReceivesCall : Received → Type 0
ReceivesCall (Whole p) = CarriesCall p.body
ReceivesCall r = Unit {0}

abbrev pub MayReceive : Option Received → Type 0
MayReceive None = Unit {0}
MayReceive (Some r) = ReceivesCall r

content_carries : (n : Numbering) (size channel : ℕ) (c : ContentValue) → IsContentOn n size channel c → CarriesCall (body_of c)
content_carries n size channel (ContentValue.CallRequest c) i = i.1
content_carries n size channel ContentValue.CallAccepted i = tt
content_carries n size channel (ContentValue.ClearRequest cause diagnostic) i = tt
content_carries n size channel ContentValue.ClearConfirmation i = tt
content_carries n size channel (ContentValue.Data d) i = tt
content_carries n size channel (ContentValue.Interrupt octets) i = tt
content_carries n size channel ContentValue.InterruptConfirmation i = tt
content_carries n size channel (ContentValue.ReceiveReady receive) i = tt
content_carries n size channel (ContentValue.ReceiveNotReady receive) i = tt
content_carries n size channel (ContentValue.ResetRequest cause diagnostic) i = tt
content_carries n size channel ContentValue.ResetConfirmation i = tt
content_carries n size channel (ContentValue.RestartRequest cause diagnostic) i = tt
content_carries n size channel ContentValue.RestartConfirmation i = tt

unread_carries : (unknown : Bool) (o : Option ℕ) → MayReceive (unreadable_as unknown o)
unread_carries true None = tt
unread_carries false None = tt
unread_carries true (Some c) = tt
unread_carries false (Some c) = tt

read_carries : (n : Numbering) (size : ℕ) (octets : List ℕ) (r : Result PacketValue PacketFault) → Found n size octets r → MayReceive (heard_by octets r)
read_carries n size octets (Ok p) f = content_carries p.numbering size p.channel p.content f.fits
read_carries n size octets (Err packet_fault.TooShort) f = tt
read_carries n size octets (Err packet_fault.BadFormatId) f = tt
read_carries n size octets (Err packet_fault.UnknownType) f = unread_carries true (named_channel octets)
read_carries n size octets (Err packet_fault.BadLength) f = unread_carries false (named_channel octets)
read_carries n size octets (Err packet_fault.BadAddress) f = unread_carries false (named_channel octets)
read_carries n size octets (Err packet_fault.DataTooLong) f = unread_carries false (named_channel octets)

below : (octets : List ℕ) (k : ℕ) → AreOctets octets → get_or octets k 0 < 256
below [] k are = omega arith
below (x ∷ xs) zero are = are.0
below (x ∷ xs) (suc k) are = below xs k are.1

pub heard_carries : (flow : Flow) (octets : List ℕ) → AreOctets octets → MayReceive (heard flow octets)
heard_carries flow octets are =
    read_carries flow.numbering flow.size octets (reading flow.numbering flow.size octets) (found flow.numbering flow.size octets (λ k. below octets k are))

-- ---- what is noted

-- each call that comes in can be placed further on
abbrev pub NotesCarry : List Note → Type 0
NotesCarry [] = Unit {0}
NotesCarry (Incoming c parts ∷ ns) = CanBePlaced parts × NotesCarry ns
NotesCarry (n ∷ ns) = NotesCarry ns

closings_carry : (c : ℕ) (reason : Reason) (chs : List Channel) → NotesCarry (closing_notes c reason chs)
closings_carry c reason [] = tt
closings_carry c reason (ch ∷ chs) = by (had_call ch.state) (closings_carry (suc c) reason chs)
  where
    by : (v : Bool) → NotesCarry (closing_notes (suc c) reason chs) → NotesCarry (if v then Closed c 9 0 reason ∷ closing_notes (suc c) reason chs else closing_notes (suc c) reason chs)
    by true h = h
    by false h = h

notes_then : (xs ys : List Note) → NotesCarry xs → NotesCarry ys → NotesCarry (xs ++ ys)
notes_then [] ys p q = q
notes_then (Incoming c parts ∷ xs) ys p q = (p.0, notes_then xs ys p.1 q)
notes_then (Connected c ∷ xs) ys p q = notes_then xs ys p q
notes_then (Closed c cause diagnostic reason ∷ xs) ys p q = notes_then xs ys p q
notes_then (WasReset c cause diagnostic reason ∷ xs) ys p q = notes_then xs ys p q
notes_then (InterruptConfirmed c ∷ xs) ys p q = notes_then xs ys p q
notes_then (Covered c n ∷ xs) ys p q = notes_then xs ys p q

covered_carry : (c n : ℕ) (v : Bool) → NotesCarry (cond v [] (Covered c n ∷ []))
covered_carry c n true = tt
covered_carry c n false = tt

heard_carry : (role : Role) (c : ℕ) (ch : Channel) (h : Heard) → NotesCarry (after_heard role c ch h).notes
heard_carry role c ch (Heard.Keeps n t) = covered_carry c n (n == 0)
heard_carry role c ch (Heard.Confirms t) = tt
heard_carry role c ch (Heard.Wrong d) = tt

flow_carries : (role : Role) (flow : Flow) (c : ℕ) (ch : Channel) (p : Body) → NotesCarry (in_flow_ready role flow c ch p).notes
flow_carries role flow c ch (Clear cause diagnostic) = tt
flow_carries role flow c ch (Reset cause diagnostic) = tt
flow_carries role flow c ch ResetConfirmation = tt
flow_carries role flow c ch (Data send receive d) = heard_carry role c ch (hears_in flow ch.traffic (Data send receive d))
flow_carries role flow c ch (ReceiveReady receive) = heard_carry role c ch (hears_in flow ch.traffic (ReceiveReady receive))
flow_carries role flow c ch (ReceiveNotReady receive) = heard_carry role c ch (hears_in flow ch.traffic (ReceiveNotReady receive))
flow_carries role flow c ch (Interrupt octets) = heard_carry role c ch (hears_in flow ch.traffic (Interrupt octets))
flow_carries role flow c ch InterruptConfirmation = heard_carry role c ch (hears_in flow ch.traffic InterruptConfirmation)
flow_carries role flow c ch _ = tt

reset_carries : (role : Role) (c : ℕ) (ch : Channel) (p : Body) → NotesCarry (in_own_reset role c ch p).notes
reset_carries role c ch (Clear cause diagnostic) = tt
reset_carries role c ch (Reset cause diagnostic) = tt
reset_carries role c ch ResetConfirmation = tt
reset_carries role c ch (Data send receive d) = tt
reset_carries role c ch (ReceiveReady receive) = tt
reset_carries role c ch (ReceiveNotReady receive) = tt
reset_carries role c ch (Interrupt octets) = tt
reset_carries role c ch InterruptConfirmation = tt
reset_carries role c ch _ = tt

received_carries_in : (s : ChannelState) (role : Role) (flow : Flow) (c : ℕ) (ch : Channel) (p : Body) → CarriesCall p → NotesCarry (received_in s role flow c ch p).notes
received_carries_in Ready role flow c ch (Call parts) i = (i, tt)
received_carries_in Ready role flow c ch p i = tt
received_carries_in OwnWaiting role flow c ch Accepted i = tt
received_carries_in OwnWaiting Dte flow c ch (Call parts) i = tt
received_carries_in OwnWaiting Dce flow c ch (Call parts) i = (i, tt)
received_carries_in OwnWaiting role flow c ch p i = tt
received_carries_in FarWaiting role flow c ch (Clear cause diagnostic) i = tt
received_carries_in FarWaiting role flow c ch p i = tt
received_carries_in Transfer role flow c ch p i = by_cond (λ (st : Step). NotesCarry st.notes) ch.resetting _ _ (λ e. reset_carries role c ch p) (λ e. flow_carries role flow c ch p)
received_carries_in Collision Dte flow c ch Accepted i = tt
received_carries_in Collision Dte flow c ch (Clear cause diagnostic) i = tt
received_carries_in Collision Dce flow c ch (Clear cause diagnostic) i = tt
received_carries_in Collision role flow c ch p i = tt
received_carries_in OwnClear role flow c ch (Clear cause diagnostic) i = tt
received_carries_in OwnClear role flow c ch ClearConfirmation i = tt
received_carries_in OwnClear role flow c ch p i = tt

unreadable_carries : (s : ChannelState) (role : Role) (c : ℕ) (unknown : Bool) (ch : Channel) → NotesCarry (unreadable_in s role c unknown ch).notes
unreadable_carries Ready role c unknown ch = tt
unreadable_carries OwnClear role c unknown ch = tt
unreadable_carries Transfer role c unknown ch = by_cond (λ (st : Step). NotesCarry st.notes) ch.resetting _ _ (λ e. tt) (λ e. tt)
unreadable_carries s role c unknown ch = tt

-- ---- at a layer

found_carry : (l : Layer) (c : ℕ) (step : Channel → Step) (o : Option Channel) → l.notes ≡ [] → ((ch : Channel) → NotesCarry (step ch).notes) → NotesCarry (on_found l c step o).notes
found_carry l c step None none h = subst (λ (ns : List Note). NotesCarry ns) (sym none) tt
found_carry l c step (Some ch) none h = subst (λ (ns : List Note). NotesCarry (ns ++ (step ch).notes)) (sym none) (h ch)

channel_carries : (phase : Phase) (l : Layer) (c : ℕ) (step : Channel → Step) → l.notes ≡ [] → ((ch : Channel) → NotesCarry (step ch).notes) → NotesCarry (on_channel phase l c step).notes
channel_carries PacketReady l c step none h = found_carry l c step (channel_of l c) none h
channel_carries OwnRestart l c step none h = subst (λ (ns : List Note). NotesCarry ns) (sym none) tt
channel_carries NoSession l c step none h = subst (λ (ns : List Note). NotesCarry ns) (sym none) tt

restart_carries : (phase : Phase) (p : Body) (l : Layer) → NotesCarry (restart_packet phase p (unread l)).notes
restart_carries PacketReady (Restart cause diagnostic) l = closings_carry 1 FarRestart l.channels
restart_carries PacketReady RestartConfirmation l = closings_carry 1 LocalFault l.channels
restart_carries OwnRestart (Restart cause diagnostic) l = tt
restart_carries OwnRestart RestartConfirmation l = tt
restart_carries phase _ l = tt

received_carries : (l : Layer) (r : Received) → ReceivesCall r → NotesCarry (on_received (unread l) r).notes
received_carries l (Whole p) i =
    by_cond (λ (y : Layer). NotesCarry y.notes) (p.channel == 0) _ _ (λ e. restart_carries l.phase p.body l)
    (λ e. channel_carries l.phase (unread l) p.channel _ refl (λ ch. received_carries_in ch.state l.role l.flow p.channel ch p.body i))
received_carries l (Unknown c) i = channel_carries l.phase (unread l) c _ refl (λ ch. unreadable_carries ch.state l.role c true ch)
received_carries l (Faulty c) i = channel_carries l.phase (unread l) c _ refl (λ ch. unreadable_carries ch.state l.role c false ch)

hearing_carries : (l : Layer) (o : Option Received) → MayReceive o → NotesCarry (after_hearing (unread l) o).notes
hearing_carries l None i = tt
hearing_carries l (Some r) i = received_carries l r i

expired_carries : (l : Layer) (t : Timer) → NotesCarry (layer_expired (unread l) t).notes
expired_carries l RestartTimer = tt
expired_carries l (CallTimer c) = found_carry (unread l) c (λ ch. clear_error l.role c no_information true ch) (channel_of l c) refl (λ ch. tt)
expired_carries l (ResetTimer c) = found_carry (unread l) c (λ ch. clear_error l.role c no_information true ch) (channel_of l c) refl (λ ch. tt)
expired_carries l (ClearTimer c) = closings_carry 1 LocalFault l.channels

timer_carries : (l : Layer) (o : Option Timer) → NotesCarry (on_named (unread l) o).notes
timer_carries l None = tt
timer_carries l (Some t) = by_cond (λ (y : Layer). NotesCarry y.notes) (runs l t) _ _ (λ e. expired_carries l t) (λ e. tt)

-- ---- at an end

heeded_carries : (note : link_note.Note) (e : PacketEnd) (to : End) → NotesCarry (heeded note (record (quieted e) { line = to })).notes
heeded_carries Nothing e to = tt
heeded_carries Up e to = closings_carry 1 LinkLost e.layer.channels
heeded_carries Down e to = closings_carry 1 LinkLost e.layer.channels

packet_carries : (o : Option Octets) (e : PacketEnd) → IfAny (λ packet. AreOctets packet) o → NotesCarry e.notes → NotesCarry (after_packet o e).notes
packet_carries None e are h = h
packet_carries (Some octets) e are h = notes_then e.notes _ h (hearing_carries e.layer (heard e.layer.flow octets) (heard_carries e.layer.flow octets are))

expiry_carries : (id : TimerId) (e : PacketEnd) → NotesCarry (expired id (quieted e)).notes
expiry_carries T1 e = heeded_carries (on_t1 e.line.link).note e _
expiry_carries id e = timer_carries e.layer (timer_named e.layer.role id)

pub happening_carries : (what : Happening) (e : PacketEnd) → ReadsOctets what → NotesCarry (does what (quieted e)).notes
happening_carries (Brings octets) e are =
    packet_carries (on_octets e.line.link octets).accepted (heeded (on_octets e.line.link octets).note (record (quieted e) { line = _ })) (accepts_octets e.line.link octets are)
    (heeded_carries (on_octets e.line.link octets).note e _)
happening_carries (RunsOut id) e are = by_cond (λ (y : PacketEnd). NotesCarry y.notes) (runs_at (quieted e) id) _ _ (λ h. expiry_carries id e) (λ h. tt)
happening_carries Relinks e are = closings_carry 1 LinkLost e.layer.channels
