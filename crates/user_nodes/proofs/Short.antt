-- What a host does not refuse is short.
use Rattle.std.proofs.Common.{◌≡◌, ◌≤◌, ℕ, Bool, true, false, List, length, refl, arith}
use Rattle.std.specs.Prelude.{Option, Some, None, not, ◌||◌, ◌==◌, nat_lt}
use Rattle.std.proofs.lemmas.Bool.{ltb-false}
use Rattle.link_timers.specs.declared.role.Role.{Role}
use Rattle.data_transfer.specs.declared.flow.Flow.{Flow}
use Rattle.packet_channel.specs.Channel.{Channel, Refusal, Request, refused_if, in_transfer}
use Rattle.data_transfer.specs.Traffic.{interrupt_pending}
use Rattle.packet_layer.specs.Layer.{refusal_at, flow_refusal, channel_of, room}
use Rattle.packet_end.specs.PacketEnd.{PacketEnd}
use Rattle.packet_host.specs.Saying.{say_refusal, either_refusal, most_octets, places_needed}
use Rattle.packet_host.specs.Asking.{ask_refusal}
use Rattle.packet_host.specs.declared.request.HostRequest.{HostRequest}
use Rattle.packet_host.specs.declared.request.HostRequest.TheVariants.{Answer, Refuse, Say, Interrupt, Reset, Clear, Stop, Go}
use Rattle.user_nodes.specs.Writing.{IsShort}

not_refused : (v : Bool) (r : Refusal) (other : Option Refusal) → refused_if v r other ≡ None → (v ≡ false) × (other ≡ None)
not_refused true r other h = absurd (cc)
not_refused false r other h = (refl, h)

neither : (o other : Option Refusal) → either_refusal o other ≡ None → other ≡ None
neither None other h = h
neither (Some r) other h = absurd (cc)

neither_is : (v w : Bool) → (v || w) ≡ false → w ≡ false
neither_is true w h = absurd (cc)
neither_is false w h = h

interrupt_short : (role : Role) (flow : Flow) (octets : List ℕ) (found : Option Channel) → refusal_at role flow (Request.Interrupting octets) found ≡ None → length octets ≤ 32
interrupt_short role flow octets None h = absurd (cc)
interrupt_short role flow octets (Some ch) h =
    let pending : Option Refusal = refused_if (interrupt_pending ch.traffic) Refusal.InterruptPending None in
    let long : Bool = (length octets == 0) || nat_lt 32 (length octets) in
    let first = (not_refused (not (in_transfer ch.state)) Refusal.NoCall (refused_if ch.resetting Refusal.IsResetting (refused_if long Refusal.TooLong pending)) h).1 in
    let second = (not_refused ch.resetting Refusal.IsResetting (refused_if long Refusal.TooLong pending) first).1 in
    ltb-false 32 (length octets) (neither_is (length octets == 0) (nat_lt 32 (length octets)) (not_refused long Refusal.TooLong pending second).0)

most_said : (qualified : Bool) → most_octets qualified ≤ 1024
most_said true = omega arith
most_said false = omega arith

said_short : (e : PacketEnd) (channel : ℕ) (octets : List ℕ) (qualified : Bool) → say_refusal e.layer channel octets qualified ≡ None → length octets ≤ 1024
said_short e channel octets qualified h =
    let long : Option Refusal = refused_if (nat_lt (most_octets qualified) (length octets)) Refusal.TooLong None in
    let full : Bool = nat_lt (room e.layer channel) (places_needed e.layer.flow.size qualified octets) in
    let rest = neither (flow_refusal e.layer channel) (refused_if full Refusal.QueueFull long) h in
    let last = (not_refused full Refusal.QueueFull long rest).1 in
    let short = ltb-false (most_octets qualified) (length octets) (not_refused (nat_lt (most_octets qualified) (length octets)) Refusal.TooLong None last).0 in
    omega (arith, short, most_said qualified)

pub accepted_short : (e : PacketEnd) (channel : ℕ) (r : HostRequest) → ask_refusal e channel r ≡ None → IsShort r
accepted_short e channel Answer h = tt
accepted_short e channel Refuse h = tt
accepted_short e channel (Say octets qualified delivery) h = said_short e channel octets.items qualified h
accepted_short e channel (Interrupt octets) h = interrupt_short e.layer.role e.layer.flow octets.items (channel_of e.layer channel) h
accepted_short e channel Reset h = tt
accepted_short e channel Clear h = tt
accepted_short e channel Stop h = tt
accepted_short e channel Go h = tt
