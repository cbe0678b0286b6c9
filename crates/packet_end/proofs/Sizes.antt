-- Nothing that happens at the end of a line changes the packet size of the line.
use Rattle.std.proofs.Common.{◌≡◌, ℕ, zero, suc, Bool, true, false, cond, Option, Some, None, is_some, refl, ◌∙◌, ap}
use Rattle.link_timers.specs.declared.timers.TimerId.{TimerId}
use Rattle.link_timers.specs.declared.timers.TimerId.TheVariants.{T1, T10, T20, T11, T12, T13, T21, T22, T23, Idle}
use Rattle.lapb.specs.Machine as link
use Rattle.lapb.specs.Machine.{can_offer}
use Rattle.lapb.specs.Octets as link_octets
use Rattle.lapb.specs.declared.note.Note as link_note
use Rattle.lapb.specs.declared.note.Note.TheVariants.{Nothing, Up, Down}
use Rattle.line_end.specs.End as line
use Rattle.data_transfer.specs.declared.flow.Flow.{Flow}
use Rattle.data_transfer.specs.Packets.{CallParts}
use Rattle.packet_channel.specs.Channel.{Request}
use Rattle.packet_layer.specs.Layer.{next_packet}
use Rattle.packet_end.specs.PacketEnd.{Octets, PacketEnd, heeded, after_packet, received, runs_at, expired, after_timer}
use Rattle.packet_end.specs.PacketEnd.{relinked, relinked_if_due, with_next, offered, all_offered, finished, asked, called}
use Rattle.packet_layer.proofs.Flows.{flow_request, flow_call, flow_on_octets, flow_on_named, flow_next}

abbrev pub SameSize : PacketEnd → PacketEnd → Type 0
SameSize e f = f.layer.flow.size ≡ e.layer.flow.size

size_of : (a b : Flow) → a ≡ b → a.size ≡ b.size
size_of a b e = ap (λ (f : Flow). f.size) e

either_way : (e a b : PacketEnd) (test : Bool) → SameSize e a → SameSize e b → SameSize e (cond test a b)
either_way e a b true one other = one
either_way e a b false one other = other

-- ---- what comes from the line

heeded_same : (note : link_note.Note) (e : PacketEnd) → SameSize e (heeded note e)
heeded_same Nothing e = refl
heeded_same Up e = refl
heeded_same Down e = refl

packet_same : (o : Option Octets) (e : PacketEnd) → SameSize e (after_packet o e)
packet_same None e = refl
packet_same (Some octets) e = size_of _ _ (flow_on_octets e.layer octets)

pub received_same : (e : PacketEnd) (octets : Octets) → SameSize e (received e octets)
received_same e octets =
    let answer = link_octets.on_octets e.line.link octets in
    let x = record e { line = line.received e.line octets } in
    packet_same answer.accepted (heeded answer.note x) ∙ heeded_same answer.note x

expired_same : (id : TimerId) (e : PacketEnd) → SameSize e (expired id e)
expired_same T1 e = heeded_same (link.on_t1 e.line.link).note (record e { line = line.expired e.line })
expired_same T10 e = size_of _ _ (flow_on_named e.layer T10)
expired_same T20 e = size_of _ _ (flow_on_named e.layer T20)
expired_same (T11 c) e = size_of _ _ (flow_on_named e.layer (T11 c))
expired_same (T12 c) e = size_of _ _ (flow_on_named e.layer (T12 c))
expired_same (T13 c) e = size_of _ _ (flow_on_named e.layer (T13 c))
expired_same (T21 c) e = size_of _ _ (flow_on_named e.layer (T21 c))
expired_same (T22 c) e = size_of _ _ (flow_on_named e.layer (T22 c))
expired_same (T23 c) e = size_of _ _ (flow_on_named e.layer (T23 c))
expired_same (Idle t) e = size_of _ _ (flow_on_named e.layer (Idle t))

pub timer_same : (e : PacketEnd) (id : TimerId) → SameSize e (after_timer e id)
timer_same e id = either_way e (expired id e) e (runs_at e id) (expired_same id e) refl

-- ---- the end of an event

offered_same : (most : ℕ) (e : PacketEnd) → SameSize e (offered most e)
offered_same zero e = refl
offered_same (suc most) e =
    let next = with_next e (next_packet e.layer) in
    either_way e (cond (is_some (next_packet e.layer).packet) (offered most next) e) e (can_offer e.line.link)
    (either_way e (offered most next) e (is_some (next_packet e.layer).packet)
    (offered_same most next ∙ size_of _ _ (flow_next e.layer)) refl) refl

all_offered_same : (e : PacketEnd) → SameSize e (all_offered e)
unfolding all_offered
all_offered_same e = offered_same 7 e

pub finished_same : (e : PacketEnd) → SameSize e (finished e)
unfolding finished
finished_same e = all_offered_same (relinked_if_due e) ∙ either_way e (relinked e) e e.layer.relink refl refl

-- ---- what a user asks

pub asked_same : (e : PacketEnd) (c : ℕ) (r : Request) → SameSize e (asked e c r)
asked_same e c r = size_of _ _ (flow_request e.layer c r)

pub called_same : (e : PacketEnd) (parts : CallParts) → SameSize e (called e parts)
called_same e parts = size_of _ _ (flow_call e.layer parts)
