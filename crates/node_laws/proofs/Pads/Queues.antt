-- A message is taken, and a break told, only where the send queue has room: what is then said is not refused.
use Rattle.std.proofs.Common.{◌≡◌, ◌≢◌, ℕ, ◌-◌, ◌≤◌, ◌==◌, Bool, true, false, not, ◌&&◌, cond, if◌then◌else◌, nat_lt, nat_le, List, [], ◌∷◌, length, Option, Some, None, refl, sym, ap, ◌∙◌, arith}
use Rattle.std.proofs.lemmas.Bool.{eqb-false}
use Rattle.link_timers.specs.declared.role.Role.{Role}
use Rattle.data_transfer.specs.Packets.{Datum}
use Rattle.data_transfer.specs.Traffic.{Traffic, taking_of, may_release, releasing}
use Rattle.data_transfer.specs.declared.flow.Flow.{Flow}
use Rattle.packet_channel.specs.Channel.{Channel, Request, Refusal, Step as ChannelStep, unless, refusal, refused_if, carried_out, requested, in_transfer}
use Rattle.packet_channel.specs.Channel.Request.{Interrupting, Taking, Releasing, Sending}
use Rattle.packet_layer.specs.Layer.{Layer, channel_of, on_found, room, room_at, request, request_refusal, refusal_at, owing}
use Rattle.pad_ports.specs.PadLine.{datum}
use Rattle.node_laws.proofs.Pads.Layers.{nth_same}

-- so many places are free as before
abbrev SameQueue : Channel → ChannelStep → Type 0
SameQueue ch st = room_at (Some (owing st)) ≡ room_at (Some ch)

abbrev pub KeepsQueue : Request → Type 0
KeepsQueue r = (ch : Channel) → SameQueue ch (carried_out ch r)

pub interrupting_keeps : (octets : List ℕ) → KeepsQueue (Interrupting octets)
interrupting_keeps octets ch = refl

taking_waits : (o : Option (List ℕ)) (ds : List Datum) (t : Traffic) → (taking_of o ds t).waiting ≡ t.waiting
taking_waits (Some octets) ds t = refl
taking_waits None [] t = refl
taking_waits None (d ∷ ds) t = refl

pub taking_keeps : KeepsQueue Taking
taking_keeps ch =
    ap (λ (ws : List Datum). room_at (Some (record ch { traffic = record ch.traffic { waiting = ws } })))
    (taking_waits ch.traffic.interrupt_arrived ch.traffic.arrived ch.traffic)

releasing_waits : (v : Bool) (t u : Traffic) → u.waiting ≡ t.waiting → (if v then u else t).waiting ≡ t.waiting
releasing_waits true t u e = e
releasing_waits false t u e = refl

pub releasing_keeps : (n : ℕ) → KeepsQueue (Releasing n)
releasing_keeps n ch =
    ap (λ (ws : List Datum). room_at (Some (record ch { traffic = record ch.traffic { waiting = ws } })))
    (releasing_waits (may_release n ch.traffic) ch.traffic (releasing n ch.traffic) refl)

unless_keeps : (o : Option Refusal) (ch : Channel) (st : ChannelStep) → SameQueue ch st → SameQueue ch (unless o st ch)
unless_keeps None ch st h = h
unless_keeps (Some r) ch st h = refl

pub request_room : (l : Layer) (c : ℕ) (r : Request) → KeepsQueue r → room (request l c r) c ≡ room l c
request_room l c r keeps = by (channel_of l c) refl
  where
    by : (found : Option Channel) → channel_of l c ≡ found → room_at (channel_of (on_found l c (λ ch. requested l.role l.flow ch r) found) c) ≡ room_at (channel_of l c)
    by None e = refl
    by (Some ch) e =
        ap room_at (nth_same l.channels c ch (owing (requested l.role l.flow ch r)) e)
        ∙ unless_keeps (refusal l.role l.flow ch r) ch (carried_out ch r) (keeps ch) ∙ sym (ap room_at e)

-- with room for it a packet is taken to be sent
open_queue : (transfer resetting : Bool) (waiting octets size : ℕ) → (cond (transfer && not resetting) (8 - waiting) 0 == 0) ≡ false → octets ≤ size
    → refused_if (not transfer) Refusal.NoCall
    (refused_if resetting Refusal.IsResetting (refused_if (nat_le 8 waiting) Refusal.QueueFull (refused_if (nat_lt size octets) Refusal.TooLong None)))
    ≡ None
open_queue false resetting waiting octets size h le = cc
open_queue true true waiting octets size h le = cc
open_queue true false waiting octets size h le =
    let some : 8 - waiting ≢ 0 = eqb-false _ _ h in
    let free : nat_le 8 waiting ≡ false = grind arith in
    let short : nat_lt size octets ≡ false = grind arith in
    rw (free, short) refl

taken_at : (role : Role) (flow : Flow) (found : Option Channel) (octets : List ℕ) → (room_at found == 0) ≡ false → length octets ≤ flow.size
    → refusal_at role flow (Sending (datum octets true)) found ≡ None
taken_at role flow None octets h le = cc
taken_at role flow (Some ch) octets h le =
    open_queue (in_transfer ch.state) ch.resetting (length ch.traffic.waiting) (length octets) flow.size h le

pub message_taken : (l : Layer) (c : ℕ) (octets : List ℕ) → (room l c == 0) ≡ false → length octets ≤ l.flow.size
    → request_refusal l c (Sending (datum octets true)) ≡ None
message_taken l c octets h le = taken_at l.role l.flow (channel_of l c) octets h le
