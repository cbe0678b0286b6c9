-- What an event takes from a line: a frame that arrives, all frames, or nothing.
use Rattle.std.proofs.Common.{◌≡◌, ℕ, refl}
use Rattle.lapb.specs.Machine.{Octets}
use Rattle.link_timers.specs.declared.role.Role.{Role}
use Rattle.frame_lines.specs.Lines.{Flights}
use Rattle.net_events.specs.NodeEvents.{NodeEvent, Hears, Expires, Relinks, Restarts, Calls, Asks, Refuses, Says}
use Rattle.net_events.specs.NodeEvents.{Takes, AtTerminal, LeftBy}
use Rattle.net_events.specs.AtSwitch.{SwitchEvent, LeftOn}
use Rattle.net_events.specs.AtSwitch as switch_event

-- ---- at a node with users

pub data Kind : NodeEvent → Type 0 where
  frame : (octets : Octets) → Kind (Hears octets)
  anew : Kind Restarts
  plain : (event : NodeEvent) → ((role : Role) (before between : Flights) → LeftBy event role before between → between ≡ before)
      → ((role : Role) (before : Flights) → LeftBy event role before before) → Kind event

pub kind_of : (event : NodeEvent) → Kind event
kind_of (Hears octets) = frame octets
kind_of Restarts = anew
kind_of (Expires id) = plain (Expires id) (λ role x y e. e) (λ role x. refl)
kind_of Relinks = plain Relinks (λ role x y e. e) (λ role x. refl)
kind_of (Calls address user_data) = plain (Calls address user_data) (λ role x y e. e) (λ role x. refl)
kind_of (Asks channel r) = plain (Asks channel r) (λ role x y e. e) (λ role x. refl)
kind_of (Refuses channel) = plain (Refuses channel) (λ role x y e. e) (λ role x. refl)
kind_of (Says channel octets qualified delivery) =
    plain (Says channel octets qualified delivery) (λ role x y e. e) (λ role x. refl)
kind_of (Takes channel) = plain (Takes channel) (λ role x y e. e) (λ role x. refl)
kind_of (AtTerminal terminal event) = plain (AtTerminal terminal event) (λ role x y e. e) (λ role x. refl)

-- ---- at a switch

pub data SwitchKind : SwitchEvent → Type 0 where
  frame_on : (at : ℕ) (octets : Octets) → SwitchKind (switch_event.Hears at octets)
  anew_all : SwitchKind switch_event.Restarts
  plain_all : (event : SwitchEvent) → ((own : ℕ) (role : Role) (before between : Flights) → LeftOn event own role before between → between ≡ before)
      → ((own : ℕ) (role : Role) (before : Flights) → LeftOn event own role before before) → SwitchKind event

pub switch_kind_of : (event : SwitchEvent) → SwitchKind event
switch_kind_of (switch_event.Hears at octets) = frame_on at octets
switch_kind_of switch_event.Restarts = anew_all
switch_kind_of (switch_event.Expires at id) = plain_all (switch_event.Expires at id) (λ own role x y e. e) (λ own role x. refl)
switch_kind_of (switch_event.Relinks at) = plain_all (switch_event.Relinks at) (λ own role x y e. e) (λ own role x. refl)
