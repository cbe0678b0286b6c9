-- Ends of a line whose layer has no note that was not read: whatever happens to them leaves them so.
use Rattle.std.specs.Prelude.{◌≡◌, ℕ, zero, suc, Bool, true, false, cond, List, [], ◌∷◌, Option, Some, None, is_some}
use Rattle.std.proofs.Common.{refl, sym, ap, subst}
use Rattle.link_timers.specs.declared.timers.TimerId.{TimerId}
use Rattle.link_timers.specs.declared.timers.TimerId.TheVariants as timer
use Rattle.lapb.specs.declared.note.Note as link_note
use Rattle.lapb.specs.declared.note.Note.TheVariants.{Nothing, Up, Down}
use Rattle.lapb.specs.Machine.{Octets, on_t1, can_offer}
use Rattle.lapb.specs.Octets as link_octets
use Rattle.line_end.specs.End as line
use Rattle.data_transfer.specs.Packets.{CallParts, Datum}
use Rattle.data_transfer.specs.Traffic.{Taken}
use Rattle.data_transfer.specs.Traffic.Taken.{TakenInterrupt, TakenPacket}
use Rattle.packet_channel.specs.Channel.{Refusal, Request}
use Rattle.packet_layer.specs.Layer.{Layer, unread, call, request, next_packet, front_on, call_refusal, request_refusal}
use Rattle.packet_end.specs.PacketEnd as end
use Rattle.packet_end.specs.PacketEnd.{PacketEnd, begun, heeded, after_packet, received, runs_at, after_timer, relinked, relinked_if_due, with_next, offered, all_offered, finished, asked, called}
use Rattle.packet_host.specs.Host.{ended, unless_refused, refuse_refusal, after_call, after_request, after_refuse, after_say, let_go, taken_as, after_take}
use Rattle.data_transfer.specs.Cutting.{cut}
use Rattle.packet_host.specs.Saying.{message, queued, say_refusal}
use Rattle.node_laws.proofs.Lines.Unread.{request_unread, call_unread}
use Rattle.node_laws.proofs.Lines.Layers.{next_silent}

abbrev pub IsUnread : PacketEnd → Type 0
IsUnread e = e.layer.notes ≡ []

-- ---- layers

same_unread : (l : Layer) → l.notes ≡ [] → unread l ≡ l
same_unread l h = λ i. record l { notes = sym h i }

request_notes : (l : Layer) (c : ℕ) (r : Request) → l.notes ≡ [] → (request l c r).notes ≡ []
request_notes l c r h = subst (λ (q : Layer). (request q c r).notes ≡ []) (same_unread l h) (ap (λ (q : Layer). q.notes) (sym (request_unread l c r)))

call_notes : (l : Layer) (parts : CallParts) → l.notes ≡ [] → (call l parts).notes ≡ []
call_notes l parts h = subst (λ (q : Layer). (call q parts).notes ≡ []) (same_unread l h) (ap (λ (q : Layer). q.notes) (sym (call_unread l parts)))

next_notes : (l : Layer) → l.notes ≡ [] → (next_packet l).layer.notes ≡ []
next_notes l h = subst (λ (q : Layer). (next_packet q).layer.notes ≡ []) (same_unread l h) (next_silent l)

-- ---- what comes from the line

heeded_unread : (note : link_note.Note) (e : PacketEnd) → IsUnread e → IsUnread (heeded note e)
heeded_unread Nothing e h = h
heeded_unread Up e h = refl
heeded_unread Down e h = refl

packet_unread : (o : Option Octets) (e : PacketEnd) → IsUnread e → IsUnread (after_packet o e)
packet_unread None e h = h
packet_unread (Some octets) e h = refl

pub received_unread : (e : PacketEnd) (octets : Octets) → IsUnread e → IsUnread (received (begun e) octets)
received_unread e octets h =
    let step = link_octets.on_octets e.line.link octets in
    let x : PacketEnd = record (begun e) { line = line.received (begun e).line octets } in
    packet_unread step.accepted (heeded step.note x) (heeded_unread step.note x h)

expired_unread : (e : PacketEnd) (id : TimerId) → IsUnread e → IsUnread (end.expired id (begun e))
expired_unread e timer.T1 h = heeded_unread (on_t1 e.line.link).note (record (begun e) { line = line.expired (begun e).line }) h
expired_unread e timer.T10 h = refl
expired_unread e timer.T20 h = refl
expired_unread e (timer.T11 c) h = refl
expired_unread e (timer.T12 c) h = refl
expired_unread e (timer.T13 c) h = refl
expired_unread e (timer.T21 c) h = refl
expired_unread e (timer.T22 c) h = refl
expired_unread e (timer.T23 c) h = refl
expired_unread e (timer.Idle c) h = refl

either_unread : (v : Bool) (x y : PacketEnd) → IsUnread x → IsUnread y → IsUnread (cond v x y)
either_unread true x y g h = g
either_unread false x y g h = h

pub timer_unread : (e : PacketEnd) (id : TimerId) → IsUnread e → IsUnread (after_timer (begun e) id)
timer_unread e id h = either_unread (runs_at (begun e) id) (end.expired id (begun e)) (begun e) (expired_unread e id h) h

-- ---- the end of an event

offered_unread : (most : ℕ) (e : PacketEnd) → IsUnread e → IsUnread (offered most e)
offered_unread zero e h = h
offered_unread (suc most) e h =
    either_unread (can_offer e.line.link)
    (cond (is_some (next_packet e.layer).packet) (offered most (with_next e (next_packet e.layer))) e) e
    (either_unread (is_some (next_packet e.layer).packet) (offered most (with_next e (next_packet e.layer))) e
    (offered_unread most (with_next e (next_packet e.layer)) (next_notes e.layer h)) h)
    h

pub finished_unread : (e : PacketEnd) → IsUnread e → IsUnread (finished e)
unfolding finished all_offered
finished_unread e h = offered_unread 7 (relinked_if_due e) (either_unread e.layer.relink (relinked e) e refl h)

-- ---- what a user asks

pub asked_unread : (e : PacketEnd) (channel : ℕ) (r : Request) → IsUnread e → IsUnread (asked e channel r)
asked_unread e channel r h = request_notes e.layer channel r h

pub called_unread : (e : PacketEnd) (parts : CallParts) → IsUnread e → IsUnread (called e parts)
called_unread e parts h = call_notes e.layer parts h

queued_unread : (channel : ℕ) (ds : List Datum) (e : PacketEnd) → IsUnread e → IsUnread (queued channel ds e)
queued_unread channel [] e h = h
queued_unread channel (d ∷ ds) e h = queued_unread channel ds (asked e channel (Request.Sending d)) (asked_unread e channel (Request.Sending d) h)

ended_unread : (e : PacketEnd) → IsUnread e → IsUnread (ended e)
ended_unread e h = finished_unread (begun e) h

unless_unread : (o : Option Refusal) (done old : PacketEnd) → IsUnread done → IsUnread old → IsUnread (unless_refused o done old)
unless_unread None done old g h = g
unless_unread (Some r) done old g h = h

pub calls_unread : (e : PacketEnd) (parts : CallParts) → IsUnread e → IsUnread (after_call e parts)
calls_unread e parts h =
    unless_unread (call_refusal e.layer e.layer.phase) (ended (called e parts)) e (ended_unread (called e parts) (call_notes e.layer parts h)) h

pub asks_unread : (e : PacketEnd) (channel : ℕ) (r : Request) → IsUnread e → IsUnread (after_request e channel r)
asks_unread e channel r h =
    unless_unread (request_refusal e.layer channel r) (ended (asked e channel r)) e (ended_unread (asked e channel r) (asked_unread e channel r h)) h

pub refuses_unread : (e : PacketEnd) (channel : ℕ) → IsUnread e → IsUnread (after_refuse e channel)
refuses_unread e channel h =
    let r : Request = Request.Clearing 0 0 in
    unless_unread (refuse_refusal e channel) (ended (asked e channel r)) e (ended_unread (asked e channel r) (asked_unread e channel r h)) h

pub says_unread : (e : PacketEnd) (channel : ℕ) (octets : List ℕ) (qualified delivery : Bool) → IsUnread e → IsUnread (after_say e channel octets qualified delivery)
says_unread e channel octets qualified delivery h =
    let ds : List Datum = cut e.layer.flow.size (message octets qualified delivery) in
    let x : PacketEnd = queued channel ds e in
    unless_unread (say_refusal e.layer channel octets qualified) (ended x) e
    (ended_unread x (queued_unread channel ds e h)) h

let_go_unread : (x : Taken) (channel : ℕ) (e : PacketEnd) → IsUnread e → IsUnread (let_go x channel e)
let_go_unread (TakenInterrupt octets) channel e h = asked_unread e channel Request.Confirming h
let_go_unread (TakenPacket d) channel e h = asked_unread e channel (Request.Releasing 1) h

taken_unread : (o : Option Taken) (channel : ℕ) (e : PacketEnd) → IsUnread e → IsUnread (taken_as o channel e)
taken_unread None channel e h = h
taken_unread (Some x) channel e h =
    let y : PacketEnd = asked e channel Request.Taking in
    ended_unread (let_go x channel y) (let_go_unread x channel y (asked_unread e channel Request.Taking h))

pub takes_unread : (e : PacketEnd) (channel : ℕ) → IsUnread e → IsUnread (after_take e channel)
takes_unread e channel h = taken_unread (front_on e.layer channel) channel e h
