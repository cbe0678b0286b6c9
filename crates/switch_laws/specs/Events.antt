-- The events of a switch: from its making on, whatever happens, the laws speak of it.
use Rattle.std.specs.Prelude.{◌≡◌, ℕ, true, false, if◌then◌else◌, List, [], ◌∷◌, slice_get, Option, Some, None}
use Rattle.std.specs.List.{list_any}
use Rattle.link_timers.specs.declared.role.Role.{Role}
use Rattle.link_timers.specs.declared.role.Role.TheVariants.{Dce}
use Rattle.link_timers.specs.declared.timers.TimerId.{TimerId}
use Rattle.data_transfer.specs.declared.flow.Flow.{Flow}
use Rattle.data_transfer.specs.Flow.{modulo_8}
use Rattle.packet_channel.specs.Channel.{closed_channel}
use Rattle.packet_laws.specs.History.{empty_epoch}
use Rattle.address_routes.specs.Routes.{RouteMap}
use Rattle.joined_line.specs.declared.config.SwitchLineConfig.{SwitchLineConfig}
use Rattle.switch_lines.specs.Lines.{SwitchLine}
use Rattle.switch_lines.specs.Making.{IsConfig, made}
use Rattle.switch_lines.specs.Switch.{Switch, on_frame, timer_runs, on_expiry, on_timer, relink, restart, elapse}
use Rattle.switch_lines.specs.Switch.{without_frame, to_relink, may_offer}
use Rattle.switch_laws.specs.Calls.{CallsAreJoined}
use Rattle.switch_laws.specs.Offers.{HaveSmallLinks, HaveFittingLinks, EndsKeepNothingBack}
use Rattle.switch_laws.specs.World.{World, Act, closed}
use Rattle.switch_laws.specs.Steps.Happening.{Brings, RunsOut, Relinks}
use Rattle.switch_laws.specs.EventSteps.{event_acts}
use Rattle.switch_laws.specs.Joined.{IsSwitch, Reached, HasRelayedAll}

-- a frame comes on a line, a timer of a line expires, the link of a line is set up anew, the switch restarts, ticks
-- pass, a frame of a line is taken
pub data Event : Type 0 where
  Arrives : (line : ℕ) → (octets : List ℕ) → Event
  Expires : (line : ℕ) → TimerId → Event
  SetsUp : (line : ℕ) → Event
  Restarts : Event
  Elapses : (ticks : ℕ) → Event
  Departs : (line : ℕ) → Event

abbrev pub after_event : Event → Switch → Switch
after_event (Arrives n octets) s = on_frame n octets s
after_event (Expires n id) s = on_timer n id s
after_event (SetsUp n) s = relink n s
after_event Restarts s = restart s
after_event (Elapses ticks) s = elapse ticks s
after_event (Departs n) s = without_frame n s

abbrev pub after_events : List Event → Switch → Switch
after_events [] s = s
after_events (event ∷ events) s = after_events events (after_event event s)

-- ---- what always holds of a switch and the legs of its channels

-- all joins hold, each channel that has a call is joined, nothing waits on a leg that the other one takes, no link
-- takes a packet that its layer has, none has to be set up anew, all are of the sizes that a switch is made with, and
-- none keeps more packets than its k
pub record SwitchHolds (s : Switch) (w : World) : Type 0 where
  pub joins : IsSwitch s.lines w
  pub calls : CallsAreJoined s.lines
  pub relayed : HasRelayedAll s.lines
  pub offered : list_any may_offer s.lines ≡ false
  pub no_relink : to_relink s.lines ≡ None
  pub links : HaveSmallLinks s.lines
  pub fitting : HaveFittingLinks s.lines

-- the acts of the packet layers that an event is: an expiry of a timer that does not run is none
abbrev pub acts_of_event : Event → Switch → List Act
acts_of_event (Arrives n octets) s = event_acts s.routes n (Brings octets) s.lines
acts_of_event (Expires n id) s =
    if timer_runs (slice_get s.lines n) id then event_acts s.routes n (RunsOut id) s.lines else []
acts_of_event (SetsUp n) s = event_acts s.routes n Relinks s.lines
acts_of_event event s = []

-- the packet layers and the legs move together, by these acts; in a restart all legs close
abbrev pub LegsMove : Event → Switch → World → List SwitchLine → World → Type 0
LegsMove Restarts s w ms v = v ≡ (λ x. closed (w x))
LegsMove event s w ms v = Reached (acts_of_event event s) s.lines w ms v

-- after a frame, after an expiry of a timer that ran, and after a link is set up anew, nothing is kept back in the
-- packet layers and at the links either
abbrev pub NothingIsKeptBack : Event → Switch → List SwitchLine → Type 0
NothingIsKeptBack (Arrives n octets) s ms = EndsKeepNothingBack ms
NothingIsKeptBack (Expires n id) s ms = timer_runs (slice_get s.lines n) id ≡ true → EndsKeepNothingBack ms
NothingIsKeptBack (SetsUp n) s ms = EndsKeepNothingBack ms
NothingIsKeptBack event s ms = Unit {0}

pub record AfterEvent (event : Event) (s : Switch) (w : World) : Type 0 where
  pub world : World
  pub moved : LegsMove event s w (after_event event s).lines world
  pub holds : SwitchHolds (after_event event s) world
  pub nothing_kept_back : NothingIsKeptBack event s (after_event event s).lines

-- whatever legs it was a switch with of which the laws speak, they moved so, and with them it is one after the event
pub record GoesOn (event : Event) (s : Switch) (w : World) (t : Switch) : Type 0 where
  pub world : World
  pub moved : LegsMove event s w t.lines world
  pub holds : SwitchHolds t world

abbrev pub KeepsLegs : Event → (old new : Switch) → Type 0
KeepsLegs event old new = (w : World) → SwitchHolds old w → GoesOn event old w new

-- so it is after an expiry of a timer that runs
pub record AfterExpiry (n : ℕ) (id : TimerId) (s : Switch) (w : World) : Type 0 where
  pub world : World
  pub moved : Reached (event_acts s.routes n (RunsOut id) s.lines) s.lines w (on_expiry n id s).lines world
  pub holds : SwitchHolds (on_expiry n id s) world
  pub nothing_kept_back : EndsKeepNothingBack (on_expiry n id s).lines

-- so it is after each of these events, one after the other
pub data HoldsOn : List Event → Switch → World → Type 0 where
  ended : {s : Switch} {w : World} → HoldsOn [] s w
  goes_on : {event : Event} {events : List Event} {s : Switch} {w : World} → (after : AfterEvent event s w)
      → HoldsOn events (after_event event s) after.world → HoldsOn (event ∷ events) s w

-- ---- the legs of a switch as it is made

abbrev pub flow_of : Option SwitchLineConfig → Flow
flow_of None = modulo_8 1
flow_of (Some c) = c.params.flow

abbrev pub role_of : Option SwitchLineConfig → Role
role_of None = Dce
role_of (Some c) = c.role

abbrev pub new_legs : List SwitchLineConfig → World
new_legs lines = λ x. record {
  role = role_of (slice_get lines x.line);
  flow = flow_of (slice_get lines x.line);
  channel = closed_channel;
  before = [];
  epoch = empty_epoch;
}

-- a switch as it is made is one of which the laws speak, each event leaves it one, and so does any list of events
pub record EventLaw : Type 0 where
  pub begins : (routes : RouteMap) (lines : List SwitchLineConfig) → IsConfig lines
      → SwitchHolds (made routes lines) (new_legs lines)
  pub stays : (event : Event) (s : Switch) (w : World) → SwitchHolds s w → AfterEvent event s w
  pub holds_on : (events : List Event) (s : Switch) (w : World) → SwitchHolds s w
      → HoldsOn events s w
