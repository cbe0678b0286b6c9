-- What happens in a network over lines in memory that lose no frame, by computation. No network is singled out: its
-- nodes and lines are those that it has.
use Rattle.std.specs.Prelude.{◌≡◌, ℕ, suc, Bool, true, false, ◌&&◌, ◌==◌, not, nat_lt, nat_le, if◌then◌else◌}
use Rattle.std.specs.Prelude.{List, [], ◌∷◌, ◌++◌, length, set, slice_get, Option, Some, None, MatchOption}
use Rattle.std.specs.Option.{option_map, option_and_then}
use Rattle.std.specs.List.{list_all}
use Rattle.link_timers.specs.declared.role.Role.{Role}
use Rattle.link_timers.specs.declared.role.Role.TheVariants.{Dte, Dce}
use Rattle.packet_codec.specs.Address.{are_decimal}
use Rattle.address_routes.specs.Routes.{line_for}
use Rattle.data_transfer.specs.Packets.{CallParts}
use Rattle.data_transfer.specs.Packets.Note.{Incoming}
use Rattle.packet_end.specs.PacketEnd.{received}
use Rattle.user_nodes.specs.Node.{NodeState, Pad, Host, is_pad, frames_of}
use Rattle.frame_lines.specs.declared.line.Direction.{Direction}
use Rattle.frame_lines.specs.Lines.{Flights, lossless_service, no_flights, flying, with_flying, without_first}
use Rattle.switch_joins.specs.declared.channels.SwitchChannel.{SwitchChannel}
use Rattle.switch_joins.specs.declared.channels.NewJoin.{NewJoin}
use Rattle.switch_lines.specs.Lines.{SwitchLine, changed}
use Rattle.switch_lines.specs.NewJoins.{join_of}
use Rattle.switch_lines.specs.Switch.{Switch, Answer, answer_by, answered, route_from, has_any, notes_of, without_notes}
use Rattle.switch_lines.specs.Switch.{quieted, with_end, all_begun, finished}
use Rattle.net_events.specs.OneLine.{direction_of, direction_to}
use Rattle.net_events.specs.NodeEvents.{NodeEvent, Hears, Calls, Asks, Refuses, Says, Takes, AtTerminal, Restarts}
use Rattle.net_events.specs.AtSwitch.{SwitchEvent, SwitchHappened, switched, switch_drained, waiting_on}
use Rattle.net_events.specs.AtSwitch.{joins_of, all_handed}
use Rattle.net_events.specs.AtSwitch as at_switch
use Rattle.net_events.specs.Network.{PlacedNode, PlacedSwitch, NetNode, User, Switching, NetLine, Network, place_at}
use Rattle.net_events.specs.Network.{own_role, with_turn_at, net_turn, HappenedAt, LostAt}
use Rattle.network_laws.specs.Switched.IsSwitched.{IsAny}

-- ---- lists by number

-- each element changed, by its number too, where they count from this one on
abbrev pub map_numbered : {A B : Type 0} → (ℕ → A → B) → (first : ℕ) → List A → List B
map_numbered f first [] = []
map_numbered f first (x ∷ xs) = f first x ∷ map_numbered f (suc first) xs

-- where a number is first in a list
abbrev pub place_among : List ℕ → (number : ℕ) → Option ℕ
place_among [] number = None
place_among (x ∷ xs) number = if x == number then Some 0 else option_map (λ place. suc place) (place_among xs number)

-- ---- frames

-- frames are put behind those in flight
abbrev pub put_all : Direction → List (List ℕ) → Flights → Flights
put_all d frames f = with_flying d (flying d f ++ frames) f

abbrev pub are_octets : List ℕ → Bool
are_octets octets = list_all (λ octet. nat_lt octet 256) octets

-- ---- at a node with users

abbrev pub are_digits : List ℕ → Bool
are_digits digits = nat_le 1 (length digits) && (nat_le (length digits) 15 && are_decimal digits)

abbrev pub has_terminal : NodeState → (terminal : ℕ) → Bool
has_terminal (Pad p) terminal = nat_lt terminal (length p.ports)
has_terminal (Host e) terminal = false

-- the event may happen at the node, and is no frame that arrives
abbrev pub may_happen : NodeEvent → NodeState → Bool
may_happen (Hears octets) n = false
may_happen (Calls address user_data) n =
    not (is_pad n) && (are_digits address && nat_le (length user_data) 16)
may_happen (Asks channel r) n = not (is_pad n)
may_happen (Refuses channel) n = not (is_pad n)
may_happen (Says channel octets qualified delivery) n = not (is_pad n)
may_happen (Takes channel) n = not (is_pad n)
may_happen (AtTerminal terminal event) n = has_terminal n terminal
may_happen event n = true

-- what is in flight before the node has its turn
abbrev pub left_by : NodeEvent → Role → Flights → Flights
left_by (Hears octets) role f = without_first (direction_to role) f
left_by Restarts role f = no_flights
left_by event role f = f

abbrev pub after_turn : NodeEvent → (line : ℕ) → Role → NetLine → PlacedNode → Network → Network
after_turn event line role l n s =
    let turn = net_turn event line role n s in
    with_turn_at line l (place_at role l) n turn
    (put_all (direction_of role) (frames_of turn.node) (left_by event role l.flights)) s

-- ---- at a switch

-- it may happen at the switch, and is no frame that arrives
abbrev pub may_befall : SwitchEvent → Switch → Bool
may_befall (at_switch.Hears own octets) s = false
may_befall (at_switch.Expires own id) s = nat_lt own (length s.lines)
may_befall (at_switch.Relinks own) s = nat_lt own (length s.lines)
may_befall at_switch.Restarts s = true

-- what is in flight on an own line before the switch has its turn
abbrev pub left_on : SwitchEvent → (own : ℕ) → Role → Flights → Flights
left_on (at_switch.Hears at octets) own role f = if own == at then without_first (direction_to role) f else f
left_on at_switch.Restarts own role f = no_flights
left_on event own role f = f

-- the frames of the switch are put on an own line of it
abbrev pub own_served : SwitchEvent → (before after : Switch) → (own : ℕ) → NetLine → NetLine
own_served event before after own l = record l {
  flights =
      put_all (direction_of (own_role before own)) (waiting_on own after)
      (left_on event own (own_role before own) l.flights);
}

abbrev pub line_served : SwitchEvent → (before after : Switch) → (own : Option ℕ) → NetLine → NetLine
line_served event before after None l = l
line_served event before after (Some own) l = own_served event before after own l

-- the event makes this of the switch, which joins these calls
abbrev pub with_switch : SwitchEvent → (place : ℕ) → PlacedSwitch → (after : Switch) → List NewJoin → Network → Network
with_switch event place n after joins s = record {
  nodes = set s.nodes place (Switching (record n { switch = switch_drained after }));
  lines = map_numbered (λ line l. line_served event n.switch after (place_among n.lines line) l) 0 s.lines;
  register = all_handed n.lines (own_role n.switch) joins s.register;
}

abbrev pub after_switch : SwitchEvent → (place : ℕ) → PlacedSwitch → Network → Network
after_switch event place n s = with_switch event place n (switched event n.switch) (joins_of event n.switch) s

-- ---- a call comes to a switch: what becomes of it depends on the route alone

-- a call came in on a channel of an own line, and goes on over the own line of the route, if there is one
pub record Incomer : Type 0 where
  pub channel : ℕ
  pub parts : CallParts
  pub route : Option ℕ

abbrev pub heard_lines : (own : ℕ) → List ℕ → Switch → List SwitchLine
heard_lines own octets s = changed own (with_end (λ e. received (quieted e) octets)) (all_begun s.lines)

abbrev pub noted_lines : (own : ℕ) → List ℕ → Switch → List SwitchLine
noted_lines own octets s = changed own (with_end without_notes) (heard_lines own octets s)

abbrev pub answer_of : (own : ℕ) → List ℕ → Incomer → Switch → Answer
answer_of own octets call s = answer_by (noted_lines own octets s) call.route

abbrev pub channel_of : (own : ℕ) → Incomer → SwitchChannel
channel_of own call = record { line = own; channel = call.channel }

abbrev pub forwarded_switch : (own : ℕ) → List ℕ → Incomer → Switch → Switch
forwarded_switch own octets call s = record s {
  lines =
      finished s.routes own
      (answered (answer_of own octets call s) (channel_of own call) call.parts (noted_lines own octets s));
}

abbrev pub forwarded_joins : (own : ℕ) → List ℕ → Incomer → Switch → List NewJoin
forwarded_joins own octets call s = join_of (answer_of own octets call s) (channel_of own call) ++ []

-- the frame brings this call alone, it asks for no facility, and that is its route
pub record BringsCall (own : ℕ) (octets : List ℕ) (call : Incomer) (s : Switch) : Type 0 where
  pub noted : notes_of (slice_get (heard_lines own octets s) own) ≡ Incoming call.channel call.parts ∷ []
  pub bare : has_any call.parts.facilities ≡ false
  pub found : line_for s.routes call.parts.called ≡ call.route
  pub onward : route_from own (noted_lines own octets s) call.route ≡ call.route

-- ---- what happens

-- something happens at the node with users at the end of a role of a line, or at the switch of a place; the first frame
-- in flight to the end of a role arrives, if there is one, or arrives at a switch with a call; the first frame of a
-- direction is lost
pub data Act : Type 0 where
  AtNode : (line : ℕ) → Role → NodeEvent → Act
  AtSwitch : (place : ℕ) → SwitchEvent → Act
  Arrives : (line : ℕ) → (to : Role) → Act
  Calling : (line : ℕ) → (to : Role) → Incomer → Act
  IsLost : (line : ℕ) → Direction → Act

abbrev pub same_role : (r q : Role) → Bool
same_role Dte Dte = true
same_role Dte Dce = false
same_role Dce Dte = false
same_role Dce Dce = true

abbrev pub at_user : NodeEvent → (line : ℕ) → Role → NetLine → Option NetNode → Network → Option Network
at_user event line role l None s = None
at_user event line role l (Some (User n)) s =
    if may_happen event n.node then Some (after_turn event line role l n s) else None
at_user event line role l (Some (Switching n)) s = None

abbrev pub at_its_switch : SwitchEvent → (place : ℕ) → Option NetNode → Network → Option Network
at_its_switch event place None s = None
at_its_switch event place (Some (User n)) s = None
at_its_switch event place (Some (Switching n)) s =
    if may_befall event n.switch then Some (after_switch event place n s) else None

-- the frame may be heard on an own line of a switch, which has this role there
abbrev pub may_hear : (own : ℕ) → (octets : List ℕ) → Role → Switch → Bool
may_hear own octets role s = nat_lt own (length s.lines) && (are_octets octets && same_role role (own_role s own))

abbrev pub heard_on : List ℕ → (place : ℕ) → Role → (own : Option ℕ) → PlacedSwitch → Network → Option Network
heard_on octets place role None n s = None
heard_on octets place role (Some own) n s =
    if may_hear own octets role n.switch then Some (after_switch (at_switch.Hears own octets) place n s) else None

abbrev pub heard_by : List ℕ → (line : ℕ) → Role → NetLine → Option NetNode → Network → Option Network
heard_by octets line role l None s = None
heard_by octets line role l (Some (User n)) s = Some (after_turn (Hears octets) line role l n s)
heard_by octets line role l (Some (Switching n)) s =
    heard_on octets (place_at role l) role (place_among n.lines line) n s

abbrev pub arrived : (octets : Option (List ℕ)) → (line : ℕ) → Role → NetLine → Network → Option Network
arrived None line role l s = Some s
arrived (Some octets) line role l s = heard_by octets line role l (slice_get s.nodes (place_at role l)) s

-- with a call
abbrev pub forwarded_on : List ℕ → Incomer → (place : ℕ) → Role → (own : Option ℕ) → PlacedSwitch → Network → Option Network
forwarded_on octets call place role None n s = None
forwarded_on octets call place role (Some own) n s =
    if may_hear own octets role n.switch
    then Some (with_switch (at_switch.Hears own octets) place n (forwarded_switch own octets call n.switch)
    (forwarded_joins own octets call n.switch) s)
    else None

abbrev pub forwarded_by : List ℕ → Incomer → (line : ℕ) → Role → NetLine → Option NetNode → Network → Option Network
forwarded_by octets call line role l None s = None
forwarded_by octets call line role l (Some (User n)) s = None
forwarded_by octets call line role l (Some (Switching n)) s =
    forwarded_on octets call (place_at role l) role (place_among n.lines line) n s

abbrev pub called_in : (octets : Option (List ℕ)) → Incomer → (line : ℕ) → Role → NetLine → Network → Option Network
called_in None call line role l s = None
called_in (Some octets) call line role l s =
    forwarded_by octets call line role l (slice_get s.nodes (place_at role l)) s

abbrev pub lost : (line : ℕ) → Direction → NetLine → Network → Network
lost line d l s = record s { lines = set s.lines line (record l { flights = without_first d l.flights }) }

-- the network after an act, or none if it may not happen
abbrev pub acted : Act → Network → Option Network
acted (AtNode line role event) s =
    option_and_then (λ l. at_user event line role l (slice_get s.nodes (place_at role l)) s) (slice_get s.lines line)
acted (AtSwitch place event) s = at_its_switch event place (slice_get s.nodes place) s
acted (Arrives line to) s =
    option_and_then (λ l. arrived (slice_get (flying (direction_to to) l.flights) 0) line to l s)
    (slice_get s.lines line)
acted (Calling line to call) s =
    option_and_then (λ l. called_in (slice_get (flying (direction_to to) l.flights) 0) call line to l s)
    (slice_get s.lines line)
acted (IsLost line d) s = option_and_then (λ l. Some (lost line d l s)) (slice_get s.lines line)

-- ---- what that is

-- events happen at nodes with users and at switches, and frames are lost, one after the other, on lines in memory
pub data Goes : Network → Network → Type 0 where
  stays : {s : Network} → Goes s s
  by_user : {s mid t : Network} (event : NodeEvent) (line : ℕ) (role : Role)
      → HappenedAt lossless_service event line role s mid → Goes mid t → Goes s t
  by_switch : {s mid t : Network} (event : SwitchEvent) (place : ℕ)
      → SwitchHappened lossless_service event place s mid → Goes mid t → Goes s t
  by_loss : {s mid t : Network} (line : ℕ) (d : Direction) → LostAt lossless_service line d s mid → Goes mid t
      → Goes s t

-- a call that comes to a switch is what the act says
abbrev pub IsCalledOn : (octets : Option (List ℕ)) → Incomer → (line : ℕ) → Option NetNode → Type 0
IsCalledOn None call line n = ⊥
IsCalledOn (Some octets) call line None = ⊥
IsCalledOn (Some octets) call line (Some (User n)) = ⊥
IsCalledOn (Some octets) call line (Some (Switching n)) =
    MatchOption (place_among n.lines line) ⊥ (λ own. BringsCall own octets call n.switch)

abbrev pub IsCalling : Act → Network → Type 0
IsCalling (AtNode line role event) s = Unit {0}
IsCalling (AtSwitch place event) s = Unit {0}
IsCalling (Arrives line to) s = Unit {0}
IsCalling (Calling line to call) s =
    MatchOption (slice_get s.lines line) ⊥
    (λ l. IsCalledOn (slice_get (flying (direction_to to) l.flights) 0) call line (slice_get s.nodes (place_at to l)))
IsCalling (IsLost line d) s = Unit {0}

-- **an act is a step of the network**, or nothing happens
abbrev pub ActLaw : Type 0
ActLaw = (act : Act) (s t : Network) → IsAny lossless_service s → IsCalling act s → acted act s ≡ Some t → Goes s t
