-- What may happen at a switch of a network, and what it makes of the network.
use Rattle.std.specs.Prelude.{◌≡◌, ◌≢◌, ℕ, ◌<◌, List, [], ◌∷◌, length, map, set, slice_get, Some, unwrap_or}
use Rattle.link_timers.specs.declared.role.Role.{Role}
use Rattle.link_timers.specs.declared.timers.TimerId.{TimerId}
use Rattle.call_records.specs.Register.{Register, ChannelEnd, handed_on}
use Rattle.user_nodes.specs.Node.{sent_out}
use Rattle.link_timers.specs.Role.{other_of}
use Rattle.frame_lines.specs.Lines.{Flights, no_flights, flying, without_first, LineService, ArePut}
use Rattle.switch_lines.specs.Lines.{SwitchLine}
use Rattle.switch_lines.specs.NewJoins.{new_joins}
use Rattle.switch_joins.specs.declared.channels.NewJoin.{NewJoin}
use Rattle.switch_joins.specs.declared.channels.SwitchChannel.{SwitchChannel}
use Rattle.switch_lines.specs.Switch.{Switch, on_frame, on_timer, relink, restart, frames_on, with_end}
use Rattle.packet_laws.specs.Readable.{AreOctets}
use Rattle.net_events.specs.OneLine.{direction_of, direction_to}
use Rattle.net_events.specs.Network.{PlacedSwitch, Switching, NetLine, Network, own_role}

-- a frame arrives on an own line, a timer of an own line expires, the switch gives up the link of an own line, or it
-- restarts
pub data SwitchEvent : Type 0 where
  Hears : (own : ℕ) → (octets : List ℕ) → SwitchEvent
  Expires : (own : ℕ) → TimerId → SwitchEvent
  Relinks : (own : ℕ) → SwitchEvent
  Restarts : SwitchEvent

-- what it makes of the switch
abbrev pub switched : SwitchEvent → Switch → Switch
switched (Hears own octets) s = on_frame own octets s
switched (Expires own id) s = on_timer own id s
switched (Relinks own) s = relink own s
switched Restarts s = restart s

-- the calls that the switch joins then: those that a frame brings
abbrev pub joins_of : SwitchEvent → Switch → List NewJoin
joins_of (Hears own octets) s = new_joins own octets s
joins_of event s = []

-- the switch has the own line
abbrev pub HasOwnLine : SwitchEvent → Switch → Type 0
HasOwnLine (Hears own octets) s = (own < length s.lines) × AreOctets octets
HasOwnLine (Expires own id) s = own < length s.lines
HasOwnLine (Relinks own) s = own < length s.lines
HasOwnLine Restarts s = Unit {0}

-- ---- its lines

-- the frames that wait on an own line, and the line when all have gone
abbrev pub waiting_on : (own : ℕ) → Switch → List (List ℕ)
waiting_on own s = frames_on (slice_get s.lines own)

abbrev pub line_drained : SwitchLine → SwitchLine
line_drained l = with_end sent_out l

abbrev pub switch_drained : Switch → Switch
switch_drained s = record s { lines = map line_drained s.lines }

-- what the event takes from an own line before the frames of the switch are put: the frame that arrives, which was the
-- first one in flight to the end of its role; all frames if the switch restarts; else nothing
abbrev pub LeftOn : SwitchEvent → (own : ℕ) → Role → (before between : Flights) → Type 0
LeftOn (Hears at octets) own role before between =
    (own ≡ at → (slice_get (flying (direction_to role) before) 0 ≡ Some octets)
    × (between ≡ without_first (direction_to role) before)) × (own ≢ at → between ≡ before)
LeftOn (Expires at id) own role before between = between ≡ before
LeftOn (Relinks at) own role before between = between ≡ before
LeftOn Restarts own role before between = between ≡ no_flights

-- over the event the frames that wait on an own line, at the end of this role, are put on this line of the network
pub record OwnLineServed (L : LineService) (event : SwitchEvent) (own line : ℕ) (role : Role) (frames : List (List ℕ))
    (before after : List NetLine) : Type 0 where
  pub line_is : NetLine
  pub line_there : slice_get before line ≡ Some line_is
  pub between : Flights
  pub left : L.faithful → LeftOn event own role line_is.flights between
  pub flights : Flights
  pub put : L.faithful → ArePut L (direction_of role) frames between flights
  pub after_there : slice_get after line ≡ Some (record line_is { flights = flights })

-- it is so of each own line of the switch, and all other lines are as they were
pub record LinesServed (L : LineService) (event : SwitchEvent) (n : PlacedSwitch)
    (before after : List NetLine) : Type 0 where
  pub count : length after ≡ length before
  pub own_lines : (own line : ℕ) → slice_get n.lines own ≡ Some line
      → OwnLineServed L event own line (own_role n.switch own) (waiting_on own (switched event n.switch)) before after
  pub others : (line : ℕ) → ((own : ℕ) → slice_get n.lines own ≡ Some line → ⊥)
      → slice_get after line ≡ slice_get before line

-- ---- the register

-- the line of the network that is this own line
abbrev pub network_line : (lines : List ℕ) → (own : ℕ) → ℕ
network_line lines own = unwrap_or (slice_get lines own) 0

-- a switch's own end of one of its channels, and the other one; it has these roles on its lines
abbrev pub own_end : (lines : List ℕ) → (roles : ℕ → Role) → SwitchChannel → ChannelEnd
own_end lines roles c = record { line = network_line lines c.line; role = roles c.line; channel = c.channel }

abbrev pub far_end : (lines : List ℕ) → (roles : ℕ → Role) → SwitchChannel → ChannelEnd
far_end lines roles c = record { line = network_line lines c.line; role = other_of (roles c.line); channel = c.channel }

-- calls that were joined are handed on, in order: from the far end of the channel on which each came in to the own end
-- of that on which it goes on
abbrev pub all_handed : (lines : List ℕ) → (roles : ℕ → Role) → List NewJoin → Register → Register
all_handed lines roles [] g = g
all_handed lines roles (j ∷ joins) g =
    all_handed lines roles joins (handed_on (far_end lines roles j.came_in) (own_end lines roles j.placed) g)

-- ---- the network

-- the event happened at the switch of this place: its frames were put, line by line, and the calls that it joined were
-- handed on; nothing is written in the register, for a switch has no users
pub record SwitchHappened (L : LineService) (event : SwitchEvent) (place : ℕ) (s t : Network) : Type 0 where
  pub node : PlacedSwitch
  pub node_there : slice_get s.nodes place ≡ Some (Switching node)
  pub has_line : HasOwnLine event node.switch
  pub nodes : t.nodes
      ≡ set s.nodes place (Switching (record node { switch = switch_drained (switched event node.switch) }))
  pub lines : LinesServed L event node s.lines t.lines
  pub register : t.register
      ≡ all_handed node.lines (own_role node.switch) (joins_of event node.switch) s.register
