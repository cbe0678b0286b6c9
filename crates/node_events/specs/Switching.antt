-- What an event does at a switch, on its lines and in the register.
use Rattle.std.specs.Prelude.{◌≡◌, ℕ, ◌*◌, ◌<◌, ◌≤◌, Bool, true, false, if◌then◌else◌, List, [], ◌∷◌, ◌++◌, length, map}
use Rattle.std.specs.Prelude.{slice_get, Some}
use Rattle.lapb.specs.Machine.{Octets}
use Rattle.call_records.specs.Register.{Register}
use Rattle.link_timers.specs.declared.role.Role.{Role}
use Rattle.frame_lines.specs.declared.line.Direction.{Direction}
use Rattle.frame_lines.specs.Lines.{Flights, no_flights, LineService, ArePut}
use Rattle.switch_lines.specs.Lines.{SwitchLine}
use Rattle.switch_lines.specs.Switch.{Switch}
use Rattle.net_events.specs.AtSwitch.{SwitchEvent, Restarts, switched, joins_of, waiting_on, switch_drained}
use Rattle.net_events.specs.AtSwitch.{all_handed}
use Rattle.net_events.specs.OneLine.{direction_of}
use Rattle.net_events.specs.Network.{PlacedSwitch, NetLine, own_role}
use Rattle.net_events.specs.declared.answer.Put.{Put}

-- ---- its frames are put

-- these frames, put on the line of this number in this direction
abbrev pub puts_on : (line : ℕ) → Direction → (frames : List (List ℕ)) → List Put
puts_on line d frames = map (λ octets. record { line = line; direction = d; octets = octets }) frames

-- all frames that wait on own lines, line by line; beside the own lines stand those of the network
abbrev pub all_puts : (lines : List ℕ) → (own : List SwitchLine) → List Put
all_puts [] own = []
all_puts (line ∷ lines) [] = []
all_puts (line ∷ lines) (l ∷ own) =
    puts_on line (direction_of l.end.layer.role) l.end.line.frames ++ all_puts lines own

-- the list is empty, with places for 9 frames a line
pub record HasRoom (lines : ℕ) (puts : List Put) (places : ℕ) : Type 0 where
  pub empty : puts ≡ []
  pub enough : 9 * lines ≤ places

-- the lines of the network are there, one for each own line and no line for two, and the list has room
pub record CanPut (own : List ℕ) (of_switch : List SwitchLine) (lines : List NetLine) (puts : List Put)
    (places : ℕ) : Type 0 where
  pub count : length own ≡ length of_switch
  pub apart : (at other line : ℕ) → slice_get own at ≡ Some line → slice_get own other ≡ Some line → at ≡ other
  pub there : (at line : ℕ) → slice_get own at ≡ Some line → line < length lines
  pub room : HasRoom (length own) puts places

-- what is in flight before the frames are put
abbrev pub cleared : (anew : Bool) → Flights → Flights
cleared anew flights = if anew then no_flights else flights

-- the frames were put on the line by the end of this role
pub record LinePut (L : LineService) (anew : Bool) (line : ℕ) (role : Role) (frames : List Octets)
    (before after : List NetLine) : Type 0 where
  pub line_is : NetLine
  pub line_there : slice_get before line ≡ Some line_is
  pub between : Flights
  pub left : L.faithful → between ≡ cleared anew line_is.flights
  pub flights : Flights
  pub put : L.faithful → ArePut L (direction_of role) frames between flights
  pub after_there : slice_get after line ≡ Some (record line_is { flights = flights })

pub record LinesPut (L : LineService) (anew : Bool) (own : List ℕ) (s : Switch)
    (before after : List NetLine) : Type 0 where
  pub count : length after ≡ length before
  pub own_lines : (at line : ℕ) → slice_get own at ≡ Some line
      → LinePut L anew line (own_role s at) (waiting_on at s) before after
  pub others : (line : ℕ) → ((at : ℕ) → slice_get own at ≡ Some line → ⊥)
      → slice_get after line ≡ slice_get before line

-- ---- the event

abbrev pub is_anew : SwitchEvent → Bool
is_anew Restarts = true
is_anew event = false

-- it was called, its frames were put and listed, and the call that it joined was handed on
pub record SwitchServed (L : LineService) (event : SwitchEvent) (n : PlacedSwitch) (lines : List NetLine) (g : Register)
    (switch : Switch) (lines' : List NetLine) (g' : Register) (puts : List Put) : Type 0 where
  pub switch_is : switch ≡ switch_drained (switched event n.switch)
  pub lines_put : LinesPut L (is_anew event) n.lines (switched event n.switch) lines lines'
  pub register_is : g' ≡ all_handed n.lines (own_role n.switch) (joins_of event n.switch) g
  pub puts_are : puts ≡ all_puts n.lines (switched event n.switch).lines
