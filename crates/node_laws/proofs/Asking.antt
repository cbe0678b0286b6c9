-- What the user of a host asks.
use Rattle.std.specs.Prelude.{◌≡◌, ℕ, ◌≤◌, List, [], ◌∷◌, length, Option, Some, None}
use Rattle.std.proofs.Common.{refl, sym, subst, arith}
use Rattle.link_timers.specs.declared.role.Role.{Role}
use Rattle.packet_codec.specs.Address.{AreDigits}
use Rattle.data_transfer.specs.Cutting.{cut}
use Rattle.data_transfer.specs.Packets.{CallParts, Datum}
use Rattle.data_transfer.specs.Traffic.{Taken}
use Rattle.data_transfer.specs.Traffic.Taken.{TakenInterrupt, TakenPacket}
use Rattle.packet_layer.specs.Layer.{channel_given, front_on}
use Rattle.packet_laws.specs.Readable.{CanBePlaced}
use Rattle.packet_end.specs.PacketEnd.{PacketEnd}
use Rattle.node_laws.specs.Lines.NodeLine.{Line}
use Rattle.packet_host.specs.Host.{call_parts, after_call, after_request, after_refuse, after_say, after_take}
use Rattle.packet_host.specs.Saying.{message, say_refusal}
use Rattle.call_records.specs.Book.{Book, sends, takes, releases}
use Rattle.call_records.specs.Carried.{unless_refused, placed_on}
use Rattle.node_laws.specs.LineRecords.Kept.{end_at, coming_to}
use Rattle.node_laws.specs.LineRecords.LineRecordClauses.{requested_at}
use Rattle.node_laws.specs.LineRecords.Hosts.{IsKeptAfter, sends_all, refuses, takes_any}
use Rattle.node_laws.proofs.LineRecords.Hosting.{call_kept, request_kept, refuse_kept, say_kept, take_kept}
use Rattle.user_nodes.specs.Node.{Host}
use Rattle.user_nodes.specs.Turn.{all_sent}
use Rattle.user_nodes.specs.HostTurns.{host_calls, host_asks, host_refuses, host_says, host_takes, taken_turn}
use Rattle.node_laws.specs.Nodes.{StandsAt, KeepsBy}
use Rattle.node_laws.specs.NodeClauses.{CallsLaw, AsksLaw, RefusesLaw, SaysLaw, TakesLaw}
use Rattle.node_laws.proofs.Turning.{told_keeps, unchanged_keeps}

-- a host at the end is as good as the end itself
at_end : (role : Role) (l : Line) (e : PacketEnd) (P : PacketEnd → Type 0) → StandsAt role l (Host e) → (StandsAt role l (Host (end_at role l)) → P (end_at role l)) → P e
at_end role l e P h f = subst P (sym h.end) (f (subst (λ (x : PacketEnd). StandsAt role l (Host x)) h.end h))

-- ---- calls and requests

can_be_placed : (address user_data : List ℕ) → AreDigits address → length user_data ≤ 16 → CanBePlaced (call_parts address user_data)
can_be_placed address user_data digits short = record {
  called = digits;
  calling = (omega arith, refl);
  facilities = omega arith;
  user_data = short;
}

pub calls_keeps : CallsLaw
calls_keeps s b l role e address user_data kept digits short h k =
    let parts : CallParts = call_parts address user_data in
    at_end role l e (λ (x : PacketEnd). KeepsBy s role l kept (host_calls role x parts b)) h
    (λ g. let me : PacketEnd = end_at role l in
    told_keeps s (placed_on role (channel_given me.layer me.layer.phase) parts b) role (after_call me parts) l kept (coming_to role l)
    (call_kept s b l role parts kept (can_be_placed address user_data digits short) g.node.read k))

pub asks_keeps : AsksLaw
asks_keeps s b l role e channel r kept h k =
    at_end role l e (λ (x : PacketEnd). KeepsBy s role l kept (host_asks role x channel r b)) h
    (λ g. let me : PacketEnd = end_at role l in
    told_keeps s (requested_at role channel r me b) role (after_request me channel r) l kept (coming_to role l)
    (request_kept s b l role channel r kept g.node.read k))

pub refuses_keeps : RefusesLaw
refuses_keeps s b l role e channel kept h k =
    at_end role l e (λ (x : PacketEnd). KeepsBy s role l kept (host_refuses role x channel b)) h
    (λ g. let me : PacketEnd = end_at role l in
    told_keeps s (refuses role channel me b) role (after_refuse me channel) l kept (coming_to role l)
    (refuse_kept s b l role channel kept g.node.read k))

-- ---- packets are said

same_sent : (role : Role) (channel : ℕ) (ds : List Datum) (b : Book) → sends_all role channel ds b ≡ all_sent role channel ds b
same_sent role channel [] b = refl
same_sent role channel (d ∷ ds) b = same_sent role channel ds (sends role channel d b)

pub says_keeps : SaysLaw
says_keeps s b l role e channel octets qualified delivery kept h k =
    at_end role l e (λ (x : PacketEnd). KeepsBy s role l kept (host_says role x channel octets qualified delivery b)) h
    (λ g. let me : PacketEnd = end_at role l in
    let said : PacketEnd = after_say me channel octets qualified delivery in
    let ds : List Datum = cut me.layer.flow.size (message octets qualified delivery) in
    told_keeps s (unless_refused (say_refusal me.layer channel octets qualified) (all_sent role channel ds b) b) role said l kept (coming_to role l)
    (subst (λ (x : Book). IsKeptAfter s role said (unless_refused (say_refusal me.layer channel octets qualified) x b) kept l) (same_sent role channel ds b)
    (say_kept s b l role channel octets qualified delivery kept g.node.read k)))

-- ---- what comes next is taken

pub takes_keeps : TakesLaw
takes_keeps s b l role e channel kept h k =
    at_end role l e (λ (x : PacketEnd). KeepsBy s role l kept (host_takes role x channel b)) h (λ g. by (front_on (end_at role l).layer channel) refl g)
  where
    kept_as : (o : Option Taken) → front_on (end_at role l).layer channel ≡ o → StandsAt role l (Host (end_at role l)) → IsKeptAfter s role (after_take (end_at role l) channel) (takes_any role channel o b) kept l
    kept_as o is g =
        subst (λ (x : Option Taken). IsKeptAfter s role (after_take (end_at role l) channel) (takes_any role channel x b) kept l) is
        (take_kept s b l role channel kept g.node.read k)

    by : (o : Option Taken) → front_on (end_at role l).layer channel ≡ o → StandsAt role l (Host (end_at role l)) → KeepsBy s role l kept (taken_turn o role (end_at role l) channel b)
    by None is g = unchanged_keeps s b role (Host (end_at role l)) l kept g k
    by (Some (TakenInterrupt octets)) is g =
        told_keeps s (takes role channel (Some (TakenInterrupt octets)) b) role (after_take (end_at role l) channel) l kept (coming_to role l)
        (kept_as (Some (TakenInterrupt octets)) is g)
    by (Some (TakenPacket d)) is g =
        told_keeps s (releases role channel 1 (takes role channel (Some (TakenPacket d)) b)) role (after_take (end_at role l) channel) l kept (coming_to role l)
        (kept_as (Some (TakenPacket d)) is g)
