-- What the steps of a network are for each bridge, and for all.
use Rattle.std.specs.Prelude.{◌≡◌, ◌⊎◌, ◌++◌, ◌==◌, ◌-◌, ℕ, Bool, true, false, List, [], ◌∷◌, flat_map, length, set, slice_get, take, is_some, Option, Some, None, Result, Ok, Err}
use Rattle.bridge_ports.specs.declared.phases.BridgeTerms.{BridgeTerms}
use Rattle.bridge_ports.specs.declared.phases.FarEnd.{FarEnd}
use Rattle.bridge_ports.specs.declared.phases.Phases.{Phases}
use Rattle.bridge_ports.specs.Bridges.{BridgeState, has_call, is_free, may_write, with_call}
use Rattle.bridge_ports.specs.Phases as phase
use Rattle.frame_lines.specs.Lines.{LineService}
use Rattle.net_events.specs.declared.event.Event.{Event}
use Rattle.net_events.specs.declared.event.Event.TheVariants.{Call}
use Rattle.net_events.specs.declared.event.StepFault.{StepFault}
use Rattle.net_events.specs.declared.answer.Answer.{Answer}
use Rattle.net_events.specs.declared.answer.Outcome.{Outcome}
use Rattle.net_events.specs.declared.answer.Outcome.TheVariants.{Called}
use Rattle.net_process.specs.Process.{ProcessState}
use Rattle.service.specs.declared.bridges.BridgePort.{BridgePort}
use Rattle.service.specs.declared.bridges.Owner.{Owner}
use Rattle.service.specs.declared.bridges.Owner.TheVariants as owner
use Rattle.service.specs.declared.hosts.HostChannel.{HostChannel}
use Rattle.service.specs.declared.mail.News.{News}
use Rattle.service.specs.declared.mail.News.TheVariants as news
use Rattle.service.specs.declared.place.Place.{Place}
use Rattle.service.specs.declared.terminal.Terminal.{Terminal}
use Rattle.service.specs.Hello.{hello_line}
use Rattle.service.specs.Steps.{Step, Makes, PassesBy}
use Rattle.service.specs.Serving.{Works}
use Rattle.service.specs.Bridging.{IsStill, IsCarried, is_on}

-- ---- one bridge

-- a bridge, the channel of its call if it has one, and whose connection it has
pub record Bridged : Type 0 where
  pub bridge : BridgeState
  pub at : Option HostChannel
  pub owner : Owner

abbrev pub bridged : BridgePort → Bridged
bridged port = record { bridge = port.bridge; at = port.at; owner = port.owner }

-- the channel of a call that may be over
abbrev pub kept_channel : (has_call : Bool) → Option HostChannel → Option HostChannel
kept_channel true at = at
kept_channel false at = None

abbrev pub forgotten : Bridged → Bridged
forgotten p = record p { at = kept_channel (has_call p.bridge) p.at }

abbrev pub turned : Phases → Bridged → Bridged
turned phases p = record p { bridge = record p.bridge { phases = phases } }

-- it hears what became of its call; no octet that waits is lost, added or moved
abbrev pub after_news : News → Bridged → Bridged
after_news (news.Rings calling called user_data) p = p
after_news news.Connected p = turned (phase.connected p.bridge.phases) p
after_news (news.Cleared cause diagnostic) p = forgotten (turned (phase.call_ended cause diagnostic p.bridge.phases) p)
after_news news.Reset p = turned (phase.reset p.bridge.terms.at_reset p.bridge.phases) p

-- the host of this node calls
abbrev pub is_call_of : (node : ℕ) → Event → Bool
is_call_of node (Call other address user_data) = other == node
is_call_of node _ = false

-- the channel on which its call was placed, if it was
abbrev pub channel_of : (node : ℕ) → Outcome → Option HostChannel
channel_of node (Called channel) = Some (record { node = node; channel = channel })
channel_of node _ = None

abbrev pub channel_called : (node : ℕ) → Result Answer StepFault → Option HostChannel
channel_called node (Ok answer) = channel_of node answer.outcome
channel_called node (Err fault) = None

abbrev pub after_placing : Option HostChannel → Bridged → Bridged
after_placing at p = record (turned (phase.placed (is_some at) p.bridge.phases) p) { at = at }

-- what the peer of a call that came is written first: nothing, or the line that says who calls
abbrev pub IsHello : List ℕ → Type 0
IsHello octets =
    (octets ≡ []) ⊎ ((calling : Option (List ℕ)) × (called : Option (List ℕ)) × (user_data : List ℕ)
    × (octets ≡ hello_line calling called user_data))

-- What becomes of a bridge: steps that are not for it; steps for its call; it hears what became of its call; a call comes on
-- a channel for the service of a place; a step places its call.
pub data Part : Type 0 where
  passes : List Step → Part
  carries : List Step → Part
  hears : News → Part
  rings : (at : HostChannel) → BridgeTerms → FarEnd → (hello : List ℕ) → (service : ℕ) → Part
  calls : (node : ℕ) → Step → Part

-- Steps that are not for a bridge say and take nothing on the channel of its call, and change nothing at it. Steps for its
-- call carry what waits. A call comes only to a bridge that is free.
abbrev pub Befalls : Part → Bridged → Bridged → Type 0
Befalls (passes steps) p q = (q ≡ p) × ((at : HostChannel) → p.at ≡ Some at → IsStill at steps)
Befalls (carries steps) p q =
    (at : HostChannel) × (p.at ≡ Some at) × IsCarried at steps p.bridge q.bridge
    × (q ≡ forgotten (record p { bridge = q.bridge }))
Befalls (hears news) p q = q ≡ after_news news p
Befalls (rings at terms far_end hello service) p q =
    (is_free p.bridge ≡ true) × IsHello hello
    × (q ≡ record { bridge = with_call terms far_end hello p.bridge; at = Some at; owner = owner.Service service })
Befalls (calls node step) p q =
    (is_call_of node step.event ≡ true) × (q ≡ after_placing (channel_called node step.answer) p)

-- one after the other
abbrev pub AllBefall : List Part → Bridged → Bridged → Type 0
AllBefall [] p q = q ≡ p
AllBefall (part ∷ parts) p q = (mid : Bridged) × Befalls part p mid × AllBefall parts mid q

abbrev pub steps_in : Part → List Step
steps_in (passes steps) = steps
steps_in (carries steps) = steps
steps_in (hears news) = []
steps_in (rings at terms far_end hello service) = []
steps_in (calls node step) = step ∷ []

-- All that becomes of a bridge in these steps.
pub record IsBridged (steps : List Step) (p q : Bridged) : Type 0 where
  pub parts : List Part
  pub all : flat_map steps_in parts ≡ steps
  pub befall : AllBefall parts p q

-- ---- a call that a bridge keeps

abbrev pub is_of_call : Part → Bool
is_of_call (rings at terms far_end hello service) = false
is_of_call (calls node step) = false
is_of_call _ = true

-- a bridge has a call on this channel before each of these parts, until it is over
abbrev pub KeepsCall : (at : HostChannel) (parts : List Part) (p q : Bridged) → AllBefall parts p q → Type 0
KeepsCall at [] p q all = Unit {0}
KeepsCall at (part ∷ parts) p q all = (p.at ≡ Some at) × (is_of_call part ≡ true) × KeepsCall at parts all.0 q all.2

-- Then all that is said on the channel is what waited to be said at the bridge, and all packets that are taken there go to it.
abbrev pub CallsAreCarried : Type 0
CallsAreCarried = (at : HostChannel) (parts : List Part) (p q : Bridged) (all : AllBefall parts p q)
    → KeepsCall at parts p q all → IsCarried at (flat_map steps_in parts) p.bridge q.bridge

-- ---- all bridges

-- whether a bridge has the call of a channel
abbrev pub is_channel : (at : HostChannel) → Option HostChannel → Bool
is_channel at None = false
is_channel at (Some own) = is_on at own.node own.channel

abbrev pub has_channel : (at : HostChannel) → BridgePort → Bool
has_channel at p = is_channel at p.at

-- whether a bridge has neither a call nor a connection
abbrev pub is_free_port : BridgePort → Bool
is_free_port p = is_free p.bridge

-- the channel of the bridge of a place
abbrev pub channel_in : Option BridgePort → Option HostChannel
channel_in None = None
channel_in (Some p) = p.at

abbrev pub channel_at : (place : ℕ) → List BridgePort → Option HostChannel
channel_at place ports = channel_in (slice_get ports place)

-- ---- what the calls of a connection make of a bridge

abbrev pub with_bridge : (BridgeState → BridgeState) → BridgePort → BridgePort
with_bridge change p = record p { bridge = change p.bridge }

abbrev pub with_phases : (Phases → Phases) → BridgeState → BridgeState
with_phases change b = record b { phases = change b.phases }

-- the peer sends no more
abbrev pub peer_ended : Phases → Phases
peer_ended p = record p { own = phase.own_ended p.own }

-- the bridge of a place changes so, if there is one
abbrev pub changed_in : (place : ℕ) → (BridgeState → BridgeState) → Option BridgePort → List BridgePort → List BridgePort
changed_in place change None ports = ports
changed_in place change (Some p) ports = set ports place (with_bridge change p)

abbrev pub bridge_changed : (place : ℕ) → (BridgeState → BridgeState) → List BridgePort → List BridgePort
bridge_changed place change ports = changed_in place change (slice_get ports place) ports

-- the ports of bridges follow those of terminals
abbrev pub changed_past : Option Terminal → (place : ℕ) → (BridgeState → BridgeState) → List BridgePort → List BridgePort
changed_past None place change ports = bridge_changed place change ports
changed_past (Some terminal) place change ports = ports

-- the bridge of a port changes so, if it is one of a bridge
abbrev pub changed_at : (port : ℕ) → (BridgeState → BridgeState) → List Terminal → List BridgePort → List BridgePort
changed_at port change terminals ports =
    changed_past (slice_get terminals port) (port - length terminals) change ports

abbrev pub bridge_past : Option Terminal → Option BridgePort → Option BridgePort
bridge_past None found = found
bridge_past (Some terminal) found = None

-- the bridge of a port
abbrev pub bridge_at : (port : ℕ) → List Terminal → List BridgePort → Option BridgePort
bridge_at port terminals ports = bridge_past (slice_get terminals port) (slice_get ports (port - length terminals))

-- octets that wait to be written, from the first on: some if there are any that may be written
pub record AreFirst (octets : List ℕ) (b : BridgeState) : Type 0 where
  pub front : take (length octets) b.output ≡ octets
  pub some : may_write b ≡ true → length octets ≡ 0 → b.output ≡ []
  pub none : may_write b ≡ false → octets ≡ []

-- ---- channels

-- no two bridges have the call of one channel
abbrev pub AreOnOwnChannels : List BridgePort → Type 0
AreOnOwnChannels ports = (one other : ℕ) (at : HostChannel) → channel_at one ports ≡ Some at → channel_at other ports ≡ Some at
    → one ≡ other

-- no bridge has a call
abbrev pub HaveNoChannels : List BridgePort → Type 0
HaveNoChannels ports = (place : ℕ) → channel_at place ports ≡ None

-- each bridge goes through these steps
pub record AreBridged (steps : List Step) (before after : List BridgePort) : Type 0 where
  pub count : length after ≡ length before
  pub each : (place : ℕ) (p : BridgePort) → slice_get before place ≡ Some p
      → (q : BridgePort) × (slice_get after place ≡ Some q) × IsBridged steps (bridged p) (bridged q)

-- what bridges on channels of their own go through, and they stay so
pub record GoesThrough (steps : List Step) (before after : List BridgePort) : Type 0 where
  pub apart : AreOnOwnChannels before → AreOnOwnChannels after
  pub each : AreOnOwnChannels before → AreBridged steps before after

-- Steps that are nothing at any terminal, and all bridges go through them.
pub record ServesBridges (L : LineService) (more : Bool) (s t : ProcessState) (before after : List BridgePort) : Type 0 where
  pub steps : List Step
  pub passes : PassesBy L steps more s t
  pub through : GoesThrough steps before after

-- the call of a channel is over, and no bridge has it any more
pub record EndsCall (at : HostChannel) (before after : List BridgePort) : Type 0 where
  pub through : GoesThrough [] before after
  pub gone : AreOnOwnChannels before → (place : ℕ) → channel_at place after ≡ Some at → ⊥

-- so it is with the channel of a call that was placed, if it was
pub record LeavesChannel (at : Option HostChannel) (before after : List BridgePort) : Type 0 where
  pub through : GoesThrough [] before after
  pub gone : AreOnOwnChannels before → (place : ℕ) (own : HostChannel) → at ≡ Some own → channel_at place after ≡ Some own → ⊥

-- a host calls by a step, and the call was placed on this channel, if it was
pub record CallsOn (L : LineService) (at : Option HostChannel) (s t : ProcessState) : Type 0 where
  pub node : ℕ
  pub step : Step
  pub made : Makes L s step t
  pub of_node : is_call_of node step.event ≡ true
  pub channel : at ≡ channel_called node step.answer

-- bridges go through any step that places a call on this channel
abbrev pub GoesThroughCall : Option HostChannel → (before after : List BridgePort) → Type 0
GoesThroughCall at before after = (node : ℕ) (step : Step) → is_call_of node step.event ≡ true
    → at ≡ channel_called node step.answer → GoesThrough (step ∷ []) before after

-- Steps of the network, each terminal served by them, and each bridge going through them.
pub record WorksForAll (L : LineService) (places : List Place) (lines : ℕ) (more : Bool) (s t : ProcessState)
    (before after : List Terminal) (bridges later : List BridgePort) : Type 0 where
  pub works : Works L places lines more s t before after
  pub bridged : AreBridged (works.steps ++ works.last) bridges later
