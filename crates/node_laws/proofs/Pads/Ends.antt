-- An end of a line tells of each of its channels what becomes of the call there.
use Rattle.std.proofs.Common.{◌≡◌, ℕ, zero, suc, Bool, true, false, cond, List, [], Option, Some, None, is_some, refl, sym, ap, subst, ◌∙◌}
use Rattle.link_timers.specs.declared.timers.TimerId.{TimerId}
use Rattle.link_timers.specs.declared.timers.TimerId.TheVariants.{T1}
use Rattle.lapb.specs.declared.note.Note as link_note
use Rattle.lapb.specs.declared.note.Note.TheVariants.{Nothing, Up, Down}
use Rattle.lapb.specs.Machine as link
use Rattle.lapb.specs.Machine.{Octets, can_offer}
use Rattle.lapb.specs.Octets as link_octets
use Rattle.line_end.specs.End as line
use Rattle.data_transfer.specs.Packets.{Note}
use Rattle.packet_layer.specs.Layer.{Layer, link_up, link_down, next_packet}
use Rattle.packet_layer.specs.Events.{timer_named, on_octets, on_named}
use Rattle.packet_end.specs.PacketEnd.{PacketEnd, gathered, heeded, after_packet, received, runs_at, expired, after_timer, relinked, relinked_if_due, with_next, offered, all_offered, settled, finished}
use Rattle.node_laws.proofs.Pads.Channels.{Tells, IncomingLast, NoneComes, tells_append, last_append, none_append, none_last}
use Rattle.node_laws.proofs.Pads.Layers.{LayerTells, call_at, up_tells, down_tells, up_none, down_none, octets_tell, named_tells, SameCalls, next_same}

-- an end became `e` from where its channels had these calls: nothing is unread in the layer, and the notes tell of each
-- channel what became of the call there
pub record EndTells (had : ℕ → Bool) (e : PacketEnd) : Type 0 where
  pub read : e.layer.notes ≡ []
  pub tells : (c : ℕ) → Tells c (had c) e.notes (call_at e.layer c)

-- of the layer's step
gathered_tells : (had : ℕ → Bool) (e : PacketEnd) (m : Layer) → EndTells had e → LayerTells e.layer m → EndTells had (gathered (record e { layer = m }))
gathered_tells had e m h t = record {
  read = refl;
  tells = λ c. tells_append c (had c) (call_at e.layer c) (call_at m c) e.notes m.notes (h.tells c) (t.tells c);
}

same_layer : (had : ℕ → Bool) (e f : PacketEnd) → f.layer ≡ e.layer → f.notes ≡ e.notes → EndTells had e → EndTells had f
same_layer had e f l n h = record {
  read = ap (λ (x : Layer). x.notes) l ∙ h.read;
  tells = λ c. subst (λ (ns : List Note). Tells c (had c) ns (call_at f.layer c)) (sym n) (subst (λ (x : Layer). Tells c (had c) e.notes (call_at x c)) (sym l) (h.tells c));
}

-- ---- from the line

heeded_tells : (had : ℕ → Bool) (note : link_note.Note) (e : PacketEnd) → EndTells had e → EndTells had (heeded note e)
heeded_tells had Nothing e h = h
heeded_tells had Up e h =
    let g = gathered_tells had e (link_up e.layer) h (up_tells e.layer) in
    same_layer had (gathered (record e { layer = link_up e.layer })) (heeded Up e) refl refl g
heeded_tells had Down e h =
    let g = gathered_tells had e (link_down e.layer) h (down_tells e.layer) in
    same_layer had (gathered (record e { layer = link_down e.layer })) (heeded Down e) refl refl g

heeded_none : (note : link_note.Note) (e : PacketEnd) → NoneComes e.notes → NoneComes (heeded note e).notes
heeded_none Nothing e h = h
heeded_none Up e h = none_append e.notes (link_up e.layer).notes h (up_none e.layer)
heeded_none Down e h = none_append e.notes (link_down e.layer).notes h (down_none e.layer)

packet_tells : (had : ℕ → Bool) (o : Option Octets) (e : PacketEnd) → EndTells had e → EndTells had (after_packet o e)
packet_tells had None e h = h
packet_tells had (Some octets) e h = gathered_tells had e (on_octets e.layer octets) h (octets_tell e.layer octets)

packet_last : (o : Option Octets) (e : PacketEnd) → NoneComes e.notes → IncomingLast (after_packet o e).notes
packet_last None e h = none_last e.notes h
packet_last (Some octets) e h = last_append e.notes (on_octets e.layer octets).notes h (octets_tell e.layer octets).last

pub received_tells : (had : ℕ → Bool) (e : PacketEnd) (octets : Octets) → EndTells had e → EndTells had (received e octets)
received_tells had e octets h =
    let step = link_octets.on_octets e.line.link octets in
    let heard : PacketEnd = record e { line = line.received e.line octets } in
    packet_tells had step.accepted (heeded step.note heard) (heeded_tells had step.note heard (same_layer had e heard refl refl h))

pub received_last : (e : PacketEnd) (octets : Octets) → NoneComes e.notes → IncomingLast (received e octets).notes
received_last e octets h =
    let step = link_octets.on_octets e.line.link octets in
    let heard : PacketEnd = record e { line = line.received e.line octets } in
    packet_last step.accepted (heeded step.note heard) (heeded_none step.note heard h)

-- ---- timers

expired_tells : (had : ℕ → Bool) (id : TimerId) (e : PacketEnd) → EndTells had e → EndTells had (expired id e)
expired_tells had T1 e h = heeded_tells had (link.on_t1 e.line.link).note (record e { line = line.expired e.line }) (same_layer had e _ refl refl h)
expired_tells had id e h =
    let m : Layer = on_named e.layer (timer_named e.layer.role id) in
    let g = gathered_tells had e m h (named_tells e.layer (timer_named e.layer.role id) h.read) in
    same_layer had (gathered (record e { layer = m })) (expired id e) refl refl g

expired_last : (id : TimerId) (e : PacketEnd) → e.layer.notes ≡ [] → NoneComes e.notes → IncomingLast (expired id e).notes
expired_last T1 e r h = none_last (expired T1 e).notes (heeded_none (link.on_t1 e.line.link).note (record e { line = line.expired e.line }) h)
expired_last id e r h =
    last_append e.notes (on_named e.layer (timer_named e.layer.role id)).notes h (named_tells e.layer (timer_named e.layer.role id) r).last

pub if_end : (had : ℕ → Bool) (v : Bool) (e f : PacketEnd) → EndTells had e → EndTells had f → EndTells had (cond v e f)
if_end had true e f h k = h
if_end had false e f h k = k

pub timer_tells : (had : ℕ → Bool) (e : PacketEnd) (id : TimerId) → EndTells had e → EndTells had (after_timer e id)
timer_tells had e id h = if_end had (runs_at e id) (expired id e) e (expired_tells had id e h) h

pub timer_last : (e : PacketEnd) (id : TimerId) → e.layer.notes ≡ [] → NoneComes e.notes → IncomingLast (after_timer e id).notes
timer_last e id r h = by (runs_at e id)
  where
    by : (v : Bool) → IncomingLast (cond v (expired id e) e).notes
    by true = expired_last id e r h
    by false = none_last e.notes h

pub relinked_tells : (had : ℕ → Bool) (e : PacketEnd) → EndTells had e → EndTells had (relinked e)
relinked_tells had e h =
    let g = gathered_tells had e (link_down e.layer) h (down_tells e.layer) in
    same_layer had (gathered (record e { layer = link_down e.layer })) (relinked e) refl refl g

pub relinked_last : (e : PacketEnd) → NoneComes e.notes → IncomingLast (relinked e).notes
relinked_last e h = none_last (relinked e).notes (none_append e.notes (link_down e.layer).notes h (down_none e.layer))

-- ---- the end of an event

next_tells : (had : ℕ → Bool) (e : PacketEnd) → EndTells had e → EndTells had (with_next e (next_packet e.layer))
next_tells had e h =
    let s : SameCalls e.layer (next_packet e.layer).layer = next_same e.layer in
    record { read = s.notes ∙ h.read; tells = λ c. subst (λ (v : Bool). Tells c (had c) e.notes v) (sym (s.calls c)) (h.tells c) }

offered_tells : (had : ℕ → Bool) (most : ℕ) (e : PacketEnd) → EndTells had e → EndTells had (offered most e)
offered_tells had zero e h = h
offered_tells had (suc most) e h =
    if_end had (can_offer e.line.link) _ e
    (if_end had (is_some (next_packet e.layer).packet) _ e
    (offered_tells had most (with_next e (next_packet e.layer)) (next_tells had e h)) h) h

all_offered_tells : (had : ℕ → Bool) (e : PacketEnd) → EndTells had e → EndTells had (all_offered e)
unfolding all_offered
all_offered_tells had e h = offered_tells had 7 e h

pub finished_tells : (had : ℕ → Bool) (e : PacketEnd) → EndTells had e → EndTells had (finished e)
unfolding finished
finished_tells had e h =
    same_layer had (all_offered (relinked_if_due e)) (settled (all_offered (relinked_if_due e))) refl refl
    (all_offered_tells had (relinked_if_due e) (if_end had e.layer.relink (relinked e) e (relinked_tells had e h) h))
