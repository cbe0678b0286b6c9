-- What a host's user asks, and what is written of it.
use Rattle.std.specs.Prelude.{ℕ, Bool, List, Option, Some, None}
use Rattle.link_timers.specs.declared.role.Role.{Role}
use Rattle.data_transfer.specs.Cutting.{cut}
use Rattle.data_transfer.specs.Packets.{CallParts}
use Rattle.data_transfer.specs.Traffic.{Taken}
use Rattle.packet_channel.specs.Channel.{Request}
use Rattle.packet_layer.specs.Layer.{channel_given, request_refusal, front_on}
use Rattle.packet_end.specs.PacketEnd.{PacketEnd}
use Rattle.packet_host.specs.Saying.{message, say_refusal}
use Rattle.packet_host.specs.Host.{after_call, after_request, refuse_refusal, after_refuse, after_say, after_take}
use Rattle.call_records.specs.Book.{Book, closes, takes}
use Rattle.call_records.specs.Carried.{carried, unless_refused, placed_on}
pub use Rattle.call_records.specs.Writes.{let_go}
use Rattle.user_nodes.specs.Node.{Host}
use Rattle.user_nodes.specs.Turn.{Turn, unchanged, told, all_sent}

-- it places a call
abbrev pub host_calls : Role → PacketEnd → CallParts → Book → Turn
host_calls role e parts b =
    told role (Host (after_call e parts)) (placed_on role (channel_given e.layer e.layer.phase) parts b)

-- it asks something of a call
abbrev pub host_asks : Role → PacketEnd → (channel : ℕ) → Request → Book → Turn
host_asks role e channel r b =
    told role (Host (after_request e channel r))
    (unless_refused (request_refusal e.layer channel r) (carried role channel r (front_on e.layer channel) b) b)

-- it refuses a call that came in
abbrev pub host_refuses : Role → PacketEnd → (channel : ℕ) → Book → Turn
host_refuses role e channel b =
    told role (Host (after_refuse e channel)) (unless_refused (refuse_refusal e channel) (closes role channel b) b)

-- it says something
abbrev pub host_says : Role → PacketEnd → (channel : ℕ) → List ℕ → (qualified delivery : Bool) → Book → Turn
host_says role e channel octets qualified delivery b =
    told role (Host (after_say e channel octets qualified delivery))
    (unless_refused (say_refusal e.layer channel octets qualified)
    (all_sent role channel (cut e.layer.flow.size (message octets qualified delivery)) b) b)

abbrev pub taken_turn : Option Taken → Role → PacketEnd → (channel : ℕ) → Book → Turn
taken_turn None role e channel b = unchanged (Host e) b
taken_turn (Some x) role e channel b =
    told role (Host (after_take e channel)) (let_go x role channel (takes role channel (Some x) b))

-- it takes what comes next on a call, if anything
abbrev pub host_takes : Role → PacketEnd → (channel : ℕ) → Book → Turn
host_takes role e channel b = taken_turn (front_on e.layer channel) role e channel b
