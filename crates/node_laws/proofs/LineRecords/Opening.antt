-- How many notes of an event open something.
use Rattle.std.specs.Prelude.{◌≡◌, ℕ, suc, ◌+◌, ◌≤◌, ◌==◌, Bool, true, false, cond, List, [], ◌∷◌, ◌++◌, Option, Some, None}
use Rattle.std.proofs.Common.{refl, sym, ap, subst, ◌∙◌, arith}
use Rattle.link_timers.specs.declared.role.Role.{Role}
use Rattle.link_timers.specs.declared.role.Role.TheVariants.{Dte, Dce}
use Rattle.link_timers.specs.declared.timers.TimerId.{TimerId}
use Rattle.link_timers.specs.declared.timers.TimerId.TheVariants as timer
use Rattle.lapb.specs.declared.note.Note as link_note
use Rattle.lapb.specs.declared.note.Note.TheVariants.{Nothing, Up, Down}
use Rattle.lapb.specs.Machine.{Octets, on_t1}
use Rattle.lapb.specs.Octets as link_octets
use Rattle.data_transfer.specs.declared.flow.Flow.{Flow}
use Rattle.line_end.specs.End as line
use Rattle.data_transfer.specs.Packets.{CallParts, Body, Packet, Received, Note, Reason}
use Rattle.data_transfer.specs.Packets.Body.{Call, Accepted, Clear, ClearConfirmation, Data, Interrupt, InterruptConfirmation, ReceiveReady, ReceiveNotReady, Reset, ResetConfirmation, Restart, RestartConfirmation}
use Rattle.data_transfer.specs.Packets.Received.{Whole, Unknown, Faulty}
use Rattle.data_transfer.specs.Packets.Note.{Incoming, Connected, Closed, WasReset, InterruptConfirmed, Covered}
use Rattle.data_transfer.specs.Traffic.{Heard, hears}
use Rattle.data_transfer.specs.Traffic.Heard.{Keeps, Confirms, Wrong}
use Rattle.packet_channel.specs.Channel.{ChannelState, Channel, Step, after_heard, covered_note, in_flow_ready, in_own_reset, in_ready, collision_notes, in_own_waiting, in_far_waiting, in_collision, in_own_clear, received_in, unreadable_in, clear_error, unreadable, received as channel_received}
use Rattle.packet_channel.specs.Channel.ChannelState.{Ready, OwnWaiting, FarWaiting, Transfer, Collision, OwnClear}
use Rattle.data_transfer.specs.Octets.{heard}
use Rattle.packet_layer.specs.Events.{after_hearing, on_octets, timer_named, on_named}
use Rattle.packet_layer.specs.Layer.{Phase, Layer, Timer, had_call, closing_notes, unread, link_up, link_down, restart_packet, on_found, on_channel, channel_of, packet_in, runs, expired}
use Rattle.packet_layer.specs.Layer.Phase.{NoSession, OwnRestart, PacketReady}
use Rattle.packet_layer.specs.Layer.Timer.{RestartTimer, CallTimer, ResetTimer, ClearTimer}
use Rattle.packet_end.specs.PacketEnd as end
use Rattle.packet_end.specs.PacketEnd.{PacketEnd, begun, heeded, after_packet, received, runs_at, after_timer, relinked, relinked_if_due, finished}
use Rattle.node_laws.proofs.Lines.Finishing.{finished_is}
use Rattle.call_records.specs.Room.{opening_notes}
use Rattle.node_laws.specs.LineRecords.Opening.{FrameOpens, ExpiryOpens, RelinkOpens, EndOpens, ReadLaw}
use Rattle.node_laws.proofs.LineRecords.WholeEvents.{all_offered_notes}

-- ---- lists of notes

abbrev IsNone : List Note → Type 0
IsNone notes = opening_notes notes ≡ 0

abbrev AtMostOne : List Note → Type 0
AtMostOne notes = opening_notes notes ≤ 1

none_more : (notes more : List Note) → IsNone notes → opening_notes (notes ++ more) ≡ opening_notes more
none_more [] more h = refl
none_more (Incoming channel parts ∷ notes) more h = absurd (omega arith)
none_more (WasReset channel cause diagnostic reason ∷ notes) more h = absurd (omega arith)
none_more (Connected channel ∷ notes) more h = none_more notes more h
none_more (Closed channel cause diagnostic reason ∷ notes) more h = none_more notes more h
none_more (InterruptConfirmed channel ∷ notes) more h = none_more notes more h
none_more (Covered channel count ∷ notes) more h = none_more notes more h

pub more_none : (notes more : List Note) → IsNone more → opening_notes (notes ++ more) ≡ opening_notes notes
more_none [] more h = h
more_none (Incoming channel parts ∷ notes) more h = ap (λ (n : ℕ). 1 + n) (more_none notes more h)
more_none (WasReset channel cause diagnostic reason ∷ notes) more h = ap (λ (n : ℕ). 1 + n) (more_none notes more h)
more_none (Connected channel ∷ notes) more h = more_none notes more h
more_none (Closed channel cause diagnostic reason ∷ notes) more h = more_none notes more h
more_none (InterruptConfirmed channel ∷ notes) more h = more_none notes more h
more_none (Covered channel count ∷ notes) more h = more_none notes more h

one_of : (notes : List Note) → IsNone notes → AtMostOne notes
one_of notes h = omega arith

-- the calls that end
closing_none : (c : ℕ) (reason : Reason) (chs : List Channel) → IsNone (closing_notes c reason chs)
closing_none c reason [] = refl
closing_none c reason (ch ∷ chs) = by (had_call ch.state) (closing_none (suc c) reason chs)
  where
    by : (v : Bool) → IsNone (closing_notes (suc c) reason chs) → IsNone (cond v (Closed c 9 0 reason ∷ closing_notes (suc c) reason chs) (closing_notes (suc c) reason chs))
    by true h = h
    by false h = h

up_none : (l : Layer) → IsNone (link_up l).notes
up_none l = closing_none 1 Reason.LinkLost l.channels

down_none : (l : Layer) → IsNone (link_down l).notes
down_none l = closing_none 1 Reason.LinkLost l.channels

-- ---- packets on a channel

covered_none : (c n : ℕ) (v : Bool) → IsNone (cond v [] (Covered c n ∷ []))
covered_none c n true = refl
covered_none c n false = refl

cleared_none : (role : Role) (c diagnostic : ℕ) (v : Bool) (ch : Channel) → IsNone (clear_error role c diagnostic v ch).notes
cleared_none role c diagnostic true ch = refl
cleared_none role c diagnostic false ch = refl

heard_one : (role : Role) (c : ℕ) (ch : Channel) (h : Heard) → AtMostOne (after_heard role c ch h).notes
heard_one role c ch (Keeps n t) = one_of (covered_note c n) (covered_none c n (n == 0))
heard_one role c ch (Confirms t) = omega arith
heard_one role c ch (Wrong diagnostic) = omega arith

flow_one : (role : Role) (flow : Flow) (c : ℕ) (ch : Channel) (body : Body) → AtMostOne (in_flow_ready role flow c ch body).notes
flow_one role flow c ch (Clear cause diagnostic) = omega arith
flow_one role flow c ch (Reset cause diagnostic) = omega arith
flow_one role flow c ch ResetConfirmation = omega arith
flow_one role flow c ch (Data send receive d) = heard_one role c ch (hears flow ch.traffic (Data send receive d))
flow_one role flow c ch (ReceiveReady receive) = heard_one role c ch (hears flow ch.traffic (ReceiveReady receive))
flow_one role flow c ch (ReceiveNotReady receive) = heard_one role c ch (hears flow ch.traffic (ReceiveNotReady receive))
flow_one role flow c ch (Interrupt octets) = heard_one role c ch (hears flow ch.traffic (Interrupt octets))
flow_one role flow c ch InterruptConfirmation = heard_one role c ch (hears flow ch.traffic InterruptConfirmation)
flow_one role flow c ch _ = omega arith

reset_one : (role : Role) (c : ℕ) (ch : Channel) (body : Body) → AtMostOne (in_own_reset role c ch body).notes
reset_one role c ch (Clear cause diagnostic) = omega arith
reset_one role c ch (Reset cause diagnostic) = omega arith
reset_one role c ch ResetConfirmation = omega arith
reset_one role c ch (Data send receive d) = omega arith
reset_one role c ch (ReceiveReady receive) = omega arith
reset_one role c ch (ReceiveNotReady receive) = omega arith
reset_one role c ch (Interrupt octets) = omega arith
reset_one role c ch InterruptConfirmation = omega arith
reset_one role c ch _ = omega arith

ready_one : (role : Role) (c : ℕ) (ch : Channel) (body : Body) → AtMostOne (in_ready role c ch body).notes
ready_one role c ch (Call parts) = omega arith
ready_one role c ch (Clear cause diagnostic) = omega arith
ready_one role c ch _ = omega arith

collided_one : (role : Role) (c : ℕ) (parts : CallParts) → AtMostOne (collision_notes role c parts)
collided_one Dte c parts = omega arith
collided_one Dce c parts = omega arith

own_one : (role : Role) (c : ℕ) (ch : Channel) (body : Body) → AtMostOne (in_own_waiting role c ch body).notes
own_one role c ch Accepted = omega arith
own_one role c ch (Call parts) = collided_one role c parts
own_one role c ch (Clear cause diagnostic) = omega arith
own_one role c ch _ = omega arith

far_one : (role : Role) (c : ℕ) (ch : Channel) (body : Body) → AtMostOne (in_far_waiting role c ch body).notes
far_one role c ch (Clear cause diagnostic) = omega arith
far_one role c ch _ = omega arith

collision_one : (role : Role) (c : ℕ) (ch : Channel) (body : Body) → AtMostOne (in_collision role c ch body).notes
collision_one Dte c ch Accepted = omega arith
collision_one Dte c ch (Clear cause diagnostic) = omega arith
collision_one Dce c ch (Clear cause diagnostic) = omega arith
collision_one Dte c ch _ = omega arith
collision_one Dce c ch _ = omega arith

clear_one : (ch : Channel) (body : Body) → AtMostOne (in_own_clear ch body).notes
clear_one ch (Clear cause diagnostic) = omega arith
clear_one ch ClearConfirmation = omega arith
clear_one ch _ = omega arith

either_one : (v : Bool) (a b : Step) → AtMostOne a.notes → AtMostOne b.notes → AtMostOne (cond v a b).notes
either_one true a b g h = g
either_one false a b g h = h

received_one : (s : ChannelState) (role : Role) (flow : Flow) (c : ℕ) (ch : Channel) (body : Body) → AtMostOne (received_in s role flow c ch body).notes
received_one Ready role flow c ch body = ready_one role c ch body
received_one OwnWaiting role flow c ch body = own_one role c ch body
received_one FarWaiting role flow c ch body = far_one role c ch body
received_one Transfer role flow c ch body =
    either_one ch.resetting (in_own_reset role c ch body) (in_flow_ready role flow c ch body) (reset_one role c ch body) (flow_one role flow c ch body)
received_one Collision role flow c ch body = collision_one role c ch body
received_one OwnClear role flow c ch body = clear_one ch body

unreadable_one : (s : ChannelState) (role : Role) (c : ℕ) (unknown : Bool) (ch : Channel) → AtMostOne (unreadable_in s role c unknown ch).notes
unreadable_one Ready role c unknown ch = omega arith
unreadable_one OwnWaiting role c unknown ch = omega arith
unreadable_one FarWaiting role c unknown ch = omega arith
unreadable_one Transfer role c unknown ch = either_one ch.resetting _ _ (omega arith) (omega arith)
unreadable_one Collision role c unknown ch = omega arith
unreadable_one OwnClear role c unknown ch = omega arith

-- ---- a layer hears

found_one : (l : Layer) (c : ℕ) (f : Channel → Step) (found : Option Channel) → l.notes ≡ [] → ((ch : Channel) → AtMostOne (f ch).notes) → AtMostOne (on_found l c f found).notes
found_one l c f None e h = subst (λ (ns : List Note). AtMostOne ns) (sym e) (omega arith)
found_one l c f (Some ch) e h = subst (λ (ns : List Note). AtMostOne (ns ++ (f ch).notes)) (sym e) (h ch)

channel_one : (phase : Phase) (l : Layer) (c : ℕ) (f : Channel → Step) → ((ch : Channel) → AtMostOne (f ch).notes) → AtMostOne (on_channel phase (unread l) c f).notes
channel_one NoSession l c f h = omega arith
channel_one OwnRestart l c f h = omega arith
channel_one PacketReady l c f h = found_one (unread l) c f (channel_of l c) refl h

restart_one : (phase : Phase) (body : Body) (l : Layer) → AtMostOne (restart_packet phase body (unread l)).notes
restart_one PacketReady (Restart cause diagnostic) l = one_of (closing_notes 1 Reason.FarRestart l.channels) (closing_none 1 Reason.FarRestart l.channels)
restart_one PacketReady RestartConfirmation l = one_of (closing_notes 1 Reason.LocalFault l.channels) (closing_none 1 Reason.LocalFault l.channels)
restart_one OwnRestart (Restart cause diagnostic) l = omega arith
restart_one OwnRestart RestartConfirmation l = omega arith
restart_one phase _ l = omega arith

packet_one : (l : Layer) (p : Packet) → AtMostOne (packet_in (unread l) p).notes
packet_one l p = by (p.channel == 0)
  where
    by : (v : Bool) → AtMostOne (cond v (restart_packet l.phase p.body (unread l)) (on_channel l.phase (unread l) p.channel (λ ch. channel_received l.role l.flow p.channel ch p.body))).notes
    by true = restart_one l.phase p.body l
    by false = channel_one l.phase l p.channel (λ ch. channel_received l.role l.flow p.channel ch p.body) (λ ch. received_one ch.state l.role l.flow p.channel ch p.body)

hearing_one : (l : Layer) (o : Option Received) → AtMostOne (after_hearing (unread l) o).notes
hearing_one l None = omega arith
hearing_one l (Some (Whole p)) = packet_one l p
hearing_one l (Some (Unknown c)) = channel_one l.phase l c (λ ch. unreadable l.role c true ch) (λ ch. unreadable_one ch.state l.role c true ch)
hearing_one l (Some (Faulty c)) = channel_one l.phase l c (λ ch. unreadable l.role c false ch) (λ ch. unreadable_one ch.state l.role c false ch)

-- ---- an end

heeded_none : (note : link_note.Note) (e : PacketEnd) → IsNone e.notes → IsNone (heeded note e).notes
heeded_none Nothing e h = h
heeded_none Up e h = none_more e.notes (link_up e.layer).notes h ∙ up_none e.layer
heeded_none Down e h = none_more e.notes (link_down e.layer).notes h ∙ down_none e.layer

after_packet_one : (o : Option Octets) (e : PacketEnd) → IsNone e.notes → AtMostOne (after_packet o e).notes
after_packet_one None e h = one_of e.notes h
after_packet_one (Some octets) e h =
    subst (λ (n : ℕ). n ≤ 1) (sym (none_more e.notes (on_octets e.layer octets).notes h)) (hearing_one e.layer (heard e.layer.flow octets))

received_at_most : (e : PacketEnd) (octets : Octets) → AtMostOne (received (begun e) octets).notes
received_at_most e octets =
    let step = link_octets.on_octets e.line.link octets in
    let x : PacketEnd = record (begun e) { line = line.received (begun e).line octets } in
    after_packet_one step.accepted (heeded step.note x) (heeded_none step.note x refl)

-- ---- the end of an event

due_same : (v : Bool) (e : PacketEnd) → opening_notes (cond v (relinked e) e).notes ≡ opening_notes e.notes
due_same true e = more_none e.notes (link_down e.layer).notes (down_none e.layer)
due_same false e = refl

pub finished_same : (e : PacketEnd) → opening_notes (finished e).notes ≡ opening_notes e.notes
finished_same e =
    ap (λ (x : PacketEnd). opening_notes x.notes) (finished_is [] e)
    ∙ ap opening_notes (all_offered_notes (relinked_if_due e)) ∙ due_same e.layer.relink e

pub frame_opens : FrameOpens
frame_opens e octets = (
  received_at_most e octets,
  subst (λ (n : ℕ). n ≤ 1) (sym (finished_same (received (begun e) octets))) (received_at_most e octets),
)

relink_none : (e : PacketEnd) → IsNone (relinked (begun e)).notes
relink_none e = down_none e.layer

pub relink_opens : RelinkOpens
relink_opens e = (relink_none e, finished_same (relinked (begun e)) ∙ relink_none e)

pub end_opens : EndOpens
end_opens e = finished_same (begun e)

-- ---- an expiry

expired_none : (l : Layer) (t : Timer) → IsNone (expired (unread l) t).notes
expired_none l RestartTimer = refl
expired_none l (CallTimer c) = found_none (channel_of l c)
  where
    found_none : (found : Option Channel) → IsNone (on_found (unread l) c (λ ch. clear_error l.role c 0 true ch) found).notes
    found_none None = refl
    found_none (Some ch) = refl
expired_none l (ResetTimer c) = found_none (channel_of l c)
  where
    found_none : (found : Option Channel) → IsNone (on_found (unread l) c (λ ch. clear_error l.role c 0 true ch) found).notes
    found_none None = refl
    found_none (Some ch) = refl
expired_none l (ClearTimer c) = closing_none 1 Reason.LocalFault l.channels

timer_none : (l : Layer) (t : Timer) (v : Bool) → l.notes ≡ [] → IsNone (cond v (expired (unread l) t) l).notes
timer_none l t true e = expired_none l t
timer_none l t false e = ap opening_notes e

named_none : (l : Layer) (o : Option Timer) → l.notes ≡ [] → IsNone (on_named l o).notes
named_none l None e = ap opening_notes e
named_none l (Some t) e = timer_none l t (runs l t) e

expiry_none : (e : PacketEnd) (id : TimerId) → e.layer.notes ≡ [] → IsNone (end.expired id (begun e)).notes
expiry_none e timer.T1 is = heeded_none (on_t1 e.line.link).note (record (begun e) { line = line.expired (begun e).line }) refl
expiry_none e timer.T10 is = named_none e.layer (timer_named e.layer.role timer.T10) is
expiry_none e timer.T20 is = named_none e.layer (timer_named e.layer.role timer.T20) is
expiry_none e (timer.T11 c) is = named_none e.layer (timer_named e.layer.role (timer.T11 c)) is
expiry_none e (timer.T12 c) is = named_none e.layer (timer_named e.layer.role (timer.T12 c)) is
expiry_none e (timer.T13 c) is = named_none e.layer (timer_named e.layer.role (timer.T13 c)) is
expiry_none e (timer.T21 c) is = named_none e.layer (timer_named e.layer.role (timer.T21 c)) is
expiry_none e (timer.T22 c) is = named_none e.layer (timer_named e.layer.role (timer.T22 c)) is
expiry_none e (timer.T23 c) is = named_none e.layer (timer_named e.layer.role (timer.T23 c)) is
expiry_none e (timer.Idle c) is = named_none e.layer (timer_named e.layer.role (timer.Idle c)) is

either_none : (v : Bool) (a b : PacketEnd) → IsNone a.notes → IsNone b.notes → IsNone (cond v a b).notes
either_none true a b g h = g
either_none false a b g h = h

after_timer_none : (e : PacketEnd) (id : TimerId) → e.layer.notes ≡ [] → IsNone (after_timer (begun e) id).notes
after_timer_none e id is = either_none (runs_at (begun e) id) (end.expired id (begun e)) (begun e) (expiry_none e id is) refl

pub expiry_opens : ExpiryOpens
expiry_opens e id is = (after_timer_none e id is, finished_same (after_timer (begun e) id) ∙ after_timer_none e id is)

-- ---- on a line

pub read_kept : ReadLaw
read_kept s b l Dte k = sym (ap (λ (x : Layer). x.notes) k.joint.mine.layer)
read_kept s b l Dce k = sym (ap (λ (x : Layer). x.notes) k.joint.yours.layer)
