-- A client at a port, from when it came on: what it sent, what it was shown, and what was handed to its connection.
use Rattle.std.specs.Prelude.{◌≡◌, ◌&&◌, ℕ, Bool, true, List, [], ◌∷◌, ◌++◌, take, length, if◌then◌else◌}
use Rattle.service_ports.specs.declared.mode.PortMode.{PortMode}
use Rattle.service_ports.specs.Modes.{is_telnet, keys_heard, text_seen}
use Rattle.service_ports.specs.Ports.{begun}
use Rattle.service.specs.declared.place.Place.{Place}
use Rattle.service.specs.declared.terminal.Phase.{Phase}
use Rattle.service.specs.declared.terminal.Phase.TheVariants.{Open}
use Rattle.service.specs.declared.terminal.Terminal.{Terminal}
use Rattle.service.specs.declared.terminal.TheConstants.{SILENT}
use Rattle.service.specs.Terminals.{aged, attached, elapsed, ended, has_client, has_room, heard, is_open, is_too_silent, ordered, written}
use Rattle.service.specs.Steps.{Step, shown, typed}
use Rattle.service.specs.Serving.{Fate, Befall, IsServed}

-- what is done at the port of a client: steps of the network, octets that it sent, octets that are written to it, ticks
-- that pass, that it is to go, and an order that is given
pub data Deed : Type 0 where
  works : List Step → Deed
  hears : List ℕ → Deed
  writes : (count : ℕ) → Deed
  waits : (ticks : ℕ) → Deed
  ends : Deed
  orders : Deed

abbrev pub Did : (at : Place) → Deed → Terminal → Terminal → Type 0
Did at (works steps) p q = IsServed at steps p q
Did at (hears octets) p q = q ≡ heard octets p
Did at (writes count) p q = q ≡ written count p
Did at (waits ticks) p q = q ≡ elapsed ticks p
Did at ends p q = q ≡ ended p
Did at orders p q = q ≡ ordered p

-- these things are done, one after the other, and the client is still there
abbrev pub History : (at : Place) → Terminal → List Deed → Terminal → Type 0
History at p [] q = p ≡ q
History at p (deed ∷ deeds) q =
    (mid : Terminal) × Did at deed p mid × (has_client mid.phase ≡ true) × History at mid deeds q

abbrev pub steps_in : Deed → List Step
steps_in (works steps) = steps
steps_in _ = []

abbrev pub heard_in : Deed → Terminal → List ℕ
heard_in (hears octets) p = if is_open p.phase then octets else []
heard_in _ p = []

abbrev pub written_in : Deed → Terminal → List ℕ
written_in (writes count) p = take count p.port.output.octets
written_in _ p = []

-- what a client of telnet is told that was silent too long, if there is room
abbrev pub told_in : Phase → (ticks : ℕ) → Terminal → List ℕ
told_in Open ticks p =
    if is_too_silent (aged ticks p) && (is_telnet p.port.mode && has_room (length SILENT) p.port) then SILENT else []
told_in _ ticks p = []

-- what is shown to it
abbrev pub shown_in : (at : Place) → Deed → Terminal → List ℕ
shown_in at (works steps) p = shown at steps
shown_in at (waits ticks) p = told_in p.phase ticks p
shown_in at _ p = []

-- all of each, after those so far
abbrev pub all_steps : (so_far : List Step) → List Deed → List Step
all_steps so_far [] = so_far
all_steps so_far (deed ∷ deeds) = all_steps (so_far ++ steps_in deed) deeds

abbrev pub all_heard : (at : Place) (so_far : List ℕ) (p : Terminal) (deeds : List Deed) (q : Terminal)
    → History at p deeds q → List ℕ
all_heard at so_far p [] q history = so_far
all_heard at so_far p (deed ∷ deeds) q history =
    all_heard at (so_far ++ heard_in deed p) history.0 deeds q history.3

abbrev pub all_written : (at : Place) (so_far : List ℕ) (p : Terminal) (deeds : List Deed) (q : Terminal)
    → History at p deeds q → List ℕ
all_written at so_far p [] q history = so_far
all_written at so_far p (deed ∷ deeds) q history =
    all_written at (so_far ++ written_in deed p) history.0 deeds q history.3

abbrev pub all_shown : (at : Place) (so_far : List ℕ) (p : Terminal) (deeds : List Deed) (q : Terminal)
    → History at p deeds q → List ℕ
all_shown at so_far p [] q history = so_far
all_shown at so_far p (deed ∷ deeds) q history =
    all_shown at (so_far ++ shown_in at deed p) history.0 deeds q history.3

-- A client that reads what was written and what waits, as its mode has it, reads all that was shown. What it typed, as its
-- mode has it, went to the terminal: each key was typed, or was overtaken, or waits.
pub record IsClientServed (at : Place) (mode : PortMode) (has_xon : Bool) (steps : List Step)
    (written heard shown : List ℕ) (q : Terminal) : Type 0 where
  pub reads : text_seen mode (written ++ q.port.output.octets) ≡ shown
  pub fates : List Fate
  pub keys : Befall has_xon fates (keys_heard mode heard) (typed at steps) q.port.keys.items

-- there is room for the greeting of a new client
abbrev pub is_greeted : Terminal → Bool
is_greeted free = has_room (length free.terms.greeting.items) (begun free.port.mode)

-- so is each client who came to a terminal that was free, if there is room for the greeting
abbrev pub ClientsAreServed : Type 0
ClientsAreServed = (at : Place) (free : Terminal) (deeds : List Deed) (q : Terminal) → is_greeted free ≡ true
    → (history : History at (attached free) deeds q)
    → IsClientServed at free.port.mode free.terms.has_xon (all_steps [] deeds) (all_written at [] (attached free) deeds q history)
    (all_heard at [] (attached free) deeds q history) (all_shown at free.terms.greeting.items (attached free) deeds q history) q
