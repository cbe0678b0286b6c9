-- What steps of a network do on a logical channel of a host, and what that is at the bridge that has its call.
use Rattle.std.specs.Prelude.{◌≡◌, ◌≢◌, ℕ, Bool, true, false, not, List, [], ◌∷◌, ◌==◌, ◌&&◌, flat_map, Option, Some, Result, Ok, Err, if◌then◌else◌}
use Rattle.std.specs.List.{list_all}
use Rattle.bridge_ports.specs.Bridges.{BridgeState, is_free, taken}
use Rattle.bridge_ports.specs.Laws.{Deed, hears, says, takes, writes, after_deeds, all_by, said_by}
use Rattle.data_transfer.specs.declared.taken.Front.{Front}
use Rattle.data_transfer.specs.declared.taken.Front.TheVariants.{Data}
use Rattle.frame_lines.specs.Lines.{LineService}
use Rattle.packet_host.specs.declared.request.HostRequest.{HostRequest}
use Rattle.packet_host.specs.declared.request.HostRequest.TheVariants.{Say}
use Rattle.net_events.specs.declared.event.Event.{Event}
use Rattle.net_events.specs.declared.event.Event.TheVariants.{Ask, Call, Take}
use Rattle.net_events.specs.declared.event.StepFault.{StepFault}
use Rattle.net_events.specs.declared.answer.Answer.{Answer}
use Rattle.net_events.specs.declared.answer.Outcome.{Outcome}
use Rattle.net_events.specs.declared.answer.Outcome.TheVariants.{Took}
use Rattle.net_process.specs.Process.{ProcessState}
use Rattle.service.specs.declared.bridges.BridgePort.{BridgePort}
use Rattle.service.specs.declared.hosts.HostChannel.{HostChannel}
use Rattle.service.specs.Steps.{Step, PassesBy, is_idle}

-- a packet without Q: its octets, and whether M = 1
pub record Packet : Type 0 where
  pub octets : List ℕ
  pub more : Bool

abbrev pub is_on : (at : HostChannel) → (node channel : ℕ) → Bool
is_on at node channel = node == at.node && channel == at.channel

-- the octets that a step says on a channel: what is refused is not said
abbrev pub said_of : HostRequest → List ℕ
said_of (Say octets qualified delivery) = octets.items
said_of _ = []

abbrev pub said_in : (at : HostChannel) → Event → Result Answer StepFault → List ℕ
said_in at (Ask node channel request) answer =
    if is_on at node channel && not (is_idle answer) then said_of request else []
said_in at _ answer = []

-- the packet that a step takes on a channel, if any
abbrev pub packet_of : Option Front → List ℕ → List Packet
packet_of (Some (Data length more false delivery)) octets = record { octets = octets; more = more } ∷ []
packet_of _ octets = []

abbrev pub packet_in : Outcome → List ℕ → List Packet
packet_in (Took front) octets = packet_of front octets
packet_in _ octets = []

abbrev pub packet_from : Result Answer StepFault → List Packet
packet_from (Ok answer) = packet_in answer.outcome answer.text.items
packet_from (Err fault) = []

abbrev pub taken_in : (at : HostChannel) → Event → Result Answer StepFault → List Packet
taken_in at (Take node channel) answer = if is_on at node channel then packet_from answer else []
taken_in at _ answer = []

-- all that steps say and take on a channel
abbrev pub all_said : (at : HostChannel) → List Step → List ℕ
all_said at = flat_map (λ step. said_in at step.event step.answer)

abbrev pub all_taken : (at : HostChannel) → List Step → List Packet
all_taken at = flat_map (λ step. taken_in at step.event step.answer)

-- steps that say and take nothing on a channel
pub record IsStill (at : HostChannel) (steps : List Step) : Type 0 where
  pub says : all_said at steps ≡ []
  pub takes : all_taken at steps ≡ []

-- the network says, takes and tells; octets of the peer and to it are no part of that
abbrev pub is_of_network : Deed → Bool
is_of_network (hears octets) = false
is_of_network (writes count) = false
is_of_network _ = true

abbrev pub packets_by : Deed → List Packet
packets_by (takes octets more) = record { octets = octets; more = more } ∷ []
packets_by _ = []

-- packets go to a bridge
abbrev pub with_packets : List Packet → BridgeState → BridgeState
with_packets [] b = b
with_packets (packet ∷ packets) b = with_packets packets (taken packet.octets packet.more b)

-- What these steps said on the channel was what waited to be said at the bridge, from the first octet on, each once. The
-- packets that they took there went to the bridge, in order, each once. Nothing else changed what waits.
pub record IsCarried (at : HostChannel) (steps : List Step) (b c : BridgeState) : Type 0 where
  pub deeds : List Deed
  pub after : c ≡ after_deeds deeds b
  pub own : list_all is_of_network deeds ≡ true
  pub said : all_by said_by deeds b ≡ all_said at steps
  pub taken : flat_map packets_by deeds ≡ all_taken at steps

-- Steps that carry what waits at a bridge, and do nothing at any terminal or on any other channel. If there is no more to
-- do, none of them did anything.
pub record Carries (L : LineService) (at : HostChannel) (more : Bool) (s t : ProcessState) (b c : BridgeState) : Type 0 where
  pub steps : List Step
  pub passes : PassesBy L steps more s t
  pub carried : IsCarried at steps b c
  pub elsewhere : (other : HostChannel) → other ≢ at → IsStill other steps

-- Steps that are nothing at any terminal, and say and take nothing on any other channel than this. If there is no more to
-- do, none of them did anything.
pub record PassesAt (L : LineService) (at : HostChannel) (more : Bool) (s t : ProcessState) : Type 0 where
  pub steps : List Step
  pub passes : PassesBy L steps more s t
  pub elsewhere : (other : HostChannel) → other ≢ at → IsStill other steps

-- a host calls
abbrev pub is_calling : Event → Bool
is_calling (Call node address octets) = true
is_calling _ = false

-- no bridge has a call or a connection
abbrev pub are_free : List BridgePort → Bool
are_free = list_all (λ (port : BridgePort). is_free port.bridge)
