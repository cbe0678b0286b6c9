-- What the steps of a network are for one terminal, and for all.
use Rattle.std.specs.Prelude.{◌≡◌, ◌≢◌, ◌⊎◌, ◌+◌, ◌<◌, ◌≤◌, ℕ, Bool, true, false, ◌&&◌, List, [], ◌∷◌, ◌++◌, drop, length, slice_get, Option, Some, None}
use Rattle.frame_lines.specs.declared.line.Direction.{Direction}
use Rattle.frame_lines.specs.Lines.{LineService}
use Rattle.user_nodes.specs.declared.terminal.TerminalEvent.TheVariants as what
use Rattle.net_events.specs.declared.event.Event.{Event}
use Rattle.net_events.specs.declared.event.Event.TheVariants.{AtTerminal, Deliver, Expire}
use Rattle.net_process.specs.Process.{ProcessState, due_here}
use Rattle.service_ports.specs.declared.input.Key.{Key}
use Rattle.service_ports.specs.declared.input.Key.TheVariants.{Octet}
use Rattle.service_ports.specs.Modes.{with_shown}
use Rattle.service_ports.specs.Ports.{is_break_or}
use Rattle.service.specs.declared.absent.PadBinding.{PadBinding}
use Rattle.service.specs.declared.place.Place.{Place}
use Rattle.service.specs.declared.seats.TerminalsBinding.{TerminalsBinding}
use Rattle.service.specs.declared.terminal.Presence.{Presence}
use Rattle.service.specs.declared.terminal.Terminal.{Terminal}
use Rattle.service.specs.Absent.{LeavesAbsent}
use Rattle.service.specs.Seats.{AreSeated}
use Rattle.service.specs.Terminals.{has_client, has_room, without_keys, urgent_place, xon_place, counted}
use Rattle.service.specs.Steps.{Step, Steps, HasTried, AreIdle, IsSilent, PassesBy, AreAside, key_event, presence_event, shown, typed, told}

-- ---- one terminal

-- the key of an XON, DC1
abbrev pub xon : Key
xon = Octet 17

-- what became of keys that waited: the first one was typed; an XON was typed before those that wait; or the first ones were
-- dropped because a recall or a break comes after them
pub data Fate : Type 0 where
  pressed : Key → Fate
  hastened : (before : List Key) → Fate
  overtaken : (first : List Key) → Fate

abbrev pub begins_urgently : List Key → Bool
begins_urgently [] = false
begins_urgently (key ∷ keys) = is_break_or 16 key

-- With these fates, one after the other, these keys waited, these of them were typed, in this order, and these are left.
-- Only where there is an XON may one be typed before its turn.
abbrev pub Befall : (has_xon : Bool) → List Fate → (keys typed left : List Key) → Type 0
Befall has_xon [] keys typed left = (keys ≡ left) × (typed ≡ [])
Befall has_xon (pressed key ∷ fates) keys typed left =
    (rest : List Key) × (more : List Key) × (keys ≡ key ∷ rest) × (typed ≡ key ∷ more) × Befall has_xon fates rest more left
Befall has_xon (hastened before ∷ fates) keys typed left =
    (rest : List Key) × (more : List Key) × (has_xon ≡ true) × (keys ≡ before ++ xon ∷ rest) × (typed ≡ xon ∷ more)
    × Befall has_xon fates (before ++ rest) more left
Befall has_xon (overtaken first ∷ fates) keys typed left =
    (rest : List Key) × (keys ≡ first ++ rest) × (begins_urgently rest ≡ true) × Befall has_xon fates rest typed left

-- how many keys were dropped
abbrev pub overtaken_in : List Fate → ℕ
overtaken_in [] = 0
overtaken_in (pressed key ∷ fates) = overtaken_in fates
overtaken_in (hastened before ∷ fates) = overtaken_in fates
overtaken_in (overtaken first ∷ fates) = length first + overtaken_in fates

abbrev pub untold_list : Option Presence → List Presence
untold_list None = []
untold_list (Some presence) = presence ∷ []

-- What steps show at a terminal is what waits after them to be written, as its mode has it, in order. Of the keys that
-- waited, what steps typed is those that were typed, each once. Others were overtaken, and are counted. What the PAD was
-- not told yet of who is there it was told, or is not told yet. All else is as before.
pub record IsServed (at : Place) (steps : List Step) (p q : Terminal) : Type 0 where
  pub terms : q.terms ≡ p.terms
  pub mode : q.port.mode ≡ p.port.mode
  pub reader : q.port.reader ≡ p.port.reader
  pub phase : q.phase ≡ p.phase
  pub output : q.port.output ≡ with_shown p.port.mode p.port.output (shown at steps)
  pub fates : List Fate
  pub keys : Befall p.terms.has_xon fates p.port.keys.items (typed at steps) q.port.keys.items
  pub overtaken_are : q.overtaken ≡ counted p.overtaken (overtaken_in fates)
  pub untold : untold_list p.untold ≡ told at steps ++ untold_list q.untold

-- ---- what may go on at one terminal

-- whether text may be shown: a client is there, and there is room for any
abbrev pub may_show : Terminal → Bool
may_show p = has_client p.phase && has_room 3200 p.port

-- its PAD is to be told who is there; the next key is to be typed; an XON is to be typed before it; what waits is to be
-- shown
abbrev pub WishesPresence : Place → Terminal → Event → Type 0
WishesPresence at p event =
    (presence : Presence) × (p.untold ≡ Some presence) × (event ≡ AtTerminal at.node at.number (presence_event presence))

abbrev pub WishesKey : Place → Terminal → Event → Type 0
WishesKey at p event =
    (key : Key) × (slice_get p.port.keys.items (urgent_place p.port.keys.items) ≡ Some key)
    × (event ≡ AtTerminal at.node at.number (key_event key))

abbrev pub WishesXon : Place → Terminal → Event → Type 0
WishesXon at p event =
    (place : ℕ) × (xon_place p ≡ Some place)
    × (event ≡ AtTerminal at.node at.number (key_event xon))

abbrev pub WishesKeys : Place → Terminal → Event → Type 0
WishesKeys at p event = WishesKey at p event ⊎ WishesXon at p event

abbrev pub WishesText : Place → Terminal → Event → Type 0
WishesText at p event = (may_show p ≡ true) × (event ≡ AtTerminal at.node at.number what.Print)

abbrev pub Wishes : Place → Terminal → Event → Type 0
Wishes at p event = WishesPresence at p event ⊎ (WishesKeys at p event ⊎ WishesText at p event)

-- One terminal is served, and no other. If there is no more to do, it is as before, no step did anything, and each event
-- that it wishes was tried.
pub record Serves (L : LineService) (at : Place) (Wish : Terminal → Event → Type 0) (more : Bool) (s t : ProcessState)
    (p q : Terminal) : Type 0 where
  pub steps : List Step
  pub made : Steps L s steps t
  pub served : IsServed at steps p q
  pub silent : (other : Place) → other ≢ at → IsSilent other steps
  pub aside : AreAside steps
  pub same : more ≡ false → q ≡ p
  pub idle : more ≡ false → AreIdle steps
  pub tried : more ≡ false → (event : Event) → Wish q event → HasTried event steps

-- text is shown
abbrev pub shown_at : (text : List ℕ) → Terminal → Terminal
shown_at text p = record p { port = record p.port { output = with_shown p.port.mode p.port.output text }; silence = 0 }

-- keys are dropped from the front, before a recall or a break, and counted
pub record IsOvertaken (p q : Terminal) : Type 0 where
  pub count : ℕ
  pub within : count ≤ length p.port.keys.items
  pub urgent : begins_urgently (drop count p.port.keys.items) ≡ true
  pub dropped : q ≡ record (without_keys count p) { overtaken = counted p.overtaken count }

-- ---- all terminals

-- these steps, and each terminal is served by them, each at its place
pub record WorksBy (L : LineService) (places : List Place) (steps : List Step) (s t : ProcessState)
    (before after : List Terminal) : Type 0 where
  pub made : Steps L s steps t
  pub count : length after ≡ length before
  pub each : (port : ℕ) (at : Place) (p : Terminal) → slice_get places port ≡ Some at → slice_get before port ≡ Some p
      → (q : Terminal) × (slice_get after port ≡ Some q) × IsServed at steps p q

-- The terminals below a number are served. If there is no more to do, all is as before, no step did anything, and each
-- event that one of them wishes was tried.
pub record ServesBelow (L : LineService) (places : List Place) (below : ℕ) (more : Bool) (s t : ProcessState)
    (before after : List Terminal) : Type 0 where
  pub steps : List Step
  pub works : WorksBy L places steps s t before after
  pub aside : AreAside steps
  pub same : more ≡ false → after ≡ before
  pub idle : more ≡ false → AreIdle steps
  pub tried : more ≡ false → (port : ℕ) (at : Place) (q : Terminal) (event : Event) → port < below
      → slice_get places port ≡ Some at → slice_get after port ≡ Some q → Wishes at q event → HasTried event steps

-- ---- what is elsewhere

-- the first frame of each line in each direction is delivered; if there is no more to do, each was tried
pub record DeliversBelow (L : LineService) (below : ℕ) (more : Bool) (s t : ProcessState) : Type 0 where
  pub steps : List Step
  pub passes : PassesBy L steps more s t
  pub aside : AreAside steps
  pub tried : more ≡ false → (line : ℕ) (direction : Direction) → line < below → HasTried (Deliver line direction) steps

abbrev pub is_expiry : Event → Bool
is_expiry (Expire node line timer) = true
is_expiry _ = false

-- no timer is due at a node that runs here, or the expiry of one was tried
abbrev pub NoneIsDue : ProcessState → List Step → Type 0
NoneIsDue t steps = ((place : ℕ) → due_here t place ≡ None) ⊎ ((event : Event) × (is_expiry event ≡ true) × HasTried event steps)

-- the expiry of a timer is handled; if there is no more to do, none is due
pub record Expires (L : LineService) (more : Bool) (s t : ProcessState) : Type 0 where
  pub steps : List Step
  pub passes : PassesBy L steps more s t
  pub aside : AreAside steps
  pub none : more ≡ false → NoneIsDue t steps

-- Nothing can go on: these steps did nothing, and all that may go on is among them. That is what a terminal wishes, the
-- delivery of a frame on each line in each direction, and the expiry of the timer that is due.
pub record Rests (places : List Place) (lines : ℕ) (steps : List Step) (t : ProcessState) (terminals : List Terminal)
    : Type 0 where
  pub idle : AreIdle steps
  pub terminals_tried : (port : ℕ) (at : Place) (q : Terminal) (event : Event) → slice_get places port ≡ Some at
      → slice_get terminals port ≡ Some q → Wishes at q event → HasTried event steps
  pub lines_tried : (line : ℕ) (direction : Direction) → line < lines → HasTried (Deliver line direction) steps
  pub none_is_due : NoneIsDue t steps

-- Steps of the network, and each terminal served by them. If there is no more to do, the last of them found that nothing
-- can go on.
pub record Works (L : LineService) (places : List Place) (lines : ℕ) (more : Bool) (s t : ProcessState)
    (before after : List Terminal) : Type 0 where
  pub steps : List Step
  pub last : List Step
  pub works : WorksBy L places (steps ++ last) s t before after
  pub rests : more ≡ false → Rests places lines last t after

-- A service begins: its terminals are those of the tables, as made. Each terminal that is in none is absent, and the others
-- are served.
pub record Begins (L : LineService) (tables : List TerminalsBinding) (pads : List PadBinding) (s t : ProcessState)
    (places : List Place) (after : List Terminal) : Type 0 where
  pub first : List Terminal
  pub seated : AreSeated tables places first
  pub between : ProcessState
  pub absent : LeavesAbsent L pads places s between
  pub steps : List Step
  pub served : WorksBy L places steps between t first after
