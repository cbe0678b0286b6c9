-- What was typed on each call: the keys and the ends of idle times that its terminal had while the call stood.
use Rattle.std.specs.Prelude.{◌≡◌, ℕ, Bool, not, ◌&&◌, if◌then◌else◌, List, [], ◌∷◌, ◌++◌, map, slice_get, Some}
use Rattle.std.specs.Option.{option_map_or}
use Rattle.link_timers.specs.declared.role.Role.{Role}
use Rattle.link_timers.specs.declared.timers.TimerId.TheVariants.{Idle}
use Rattle.x3_params.specs.Settings.{recall_character}
use Rattle.pad_editing.specs.Edited.{Step, key, idle}
use Rattle.call_records.specs.Records.{RecordValue}
use Rattle.call_records.specs.Book.{slot_at}
use Rattle.pad_terminal.specs.Keys.{is_flow_control, is_recall}
use Rattle.pad_terminal.specs.Terminal as terminal
use Rattle.pad_terminal.specs.Terminal.{TerminalState, is_data_transfer}
use Rattle.x25_pad.specs.Pad.{PadState, key_taken, idle_taken, runs_idle_timer}
use Rattle.x25_pad.specs.declared.config.PadConfig.{PadConfig}
use Rattle.node_laws.specs.Pads.Holds.{node_at}
use Rattle.node_laws.specs.Pads.Happening.{PadEvent, HasKey, HasIdleTime, HasExpiry, meets, is_record}
use Rattle.node_laws.specs.Pads.Courses.{Course}
use Rattle.node_laws.specs.Pads.EventCourses.{CourseOf, starts, continues, elsewhere}

-- a step of editing, and the number of its terminal
pub record TypedStep : Type 0 where
  pub terminal : ℕ
  pub step : Step

-- a key of a terminal in data transfer is text, if it neither stops the output or lets it go on nor recalls the PAD
abbrev pub is_text : (octet : ℕ) → TerminalState → Bool
is_text octet t =
    is_data_transfer t.mode
    && (not (is_flow_control t.settings.params octet) && not (is_recall (recall_character t.settings.params) octet))

-- at the terminal of this number, if its call is on a channel that meets the test: the step, with the values that the
-- parameters then have
abbrev pub typed_at : (number : ℕ) → (test : ℕ → Bool) → (is_typed : TerminalState → Bool)
    → (step : (params : List ℕ) → Step) → PadState → List TypedStep
typed_at number test is_typed step p =
    option_map_or
    (λ q. if meets test q.call && is_typed q.terminal
    then record { terminal = number; step = step q.terminal.settings.params } ∷ []
    else [])
    (slice_get p.ports number) []

-- the end of an idle time that runs, and is not dropped
abbrev pub typed_idle : (number : ℕ) → (test : ℕ → Bool) → PadState → List TypedStep
typed_idle number test p =
    typed_at number test (λ t. runs_idle_timer number p && (terminal.runs_idle_timer t && idle_taken number p)) idle p

-- what an event at a PAD types: a key that is text and is taken, and the end of an idle time
abbrev pub typed_by : PadEvent → PadState → (test : ℕ → Bool) → List TypedStep
typed_by (HasKey number octet) p test =
    typed_at number test (λ t. is_text octet t && key_taken number octet p) (key octet) p
typed_by (HasIdleTime number) p test = typed_idle number test p
typed_by (HasExpiry (Idle number)) p test = typed_idle number test p
typed_by event p test = []

-- what the events of a course typed, one after the other, on the call that has the record of this number: the terminal
-- then had its call on a channel whose present record this was
abbrev pub typed_on : (n : ℕ) → (role : Role) (c : PadConfig) (events : List PadEvent) (s : Course)
    → CourseOf role c events s → List TypedStep
typed_on n role c _ _ (starts dte_node dce_node channels apart config) = []
typed_on n role c _ _ (continues {events = events} {s = s} led event) =
    typed_on n role c events s led ++ typed_by event s.pad (λ channel. is_record n (slot_at role channel s.book).present)
typed_on n role c _ _ (elsewhere {events = events} {s = s} led b differs) = typed_on n role c events s led

abbrev pub steps_in : List TypedStep → List Step
steps_in ts = map (λ (t : TypedStep). t.step) ts

-- the steps of each record of the PAD are what the events of the course typed on its call, each of them and no other,
-- in order; and all that was typed on a call was typed at one terminal
pub record AreTyped (role : Role) (c : PadConfig) (events : List PadEvent) (s : Course) (led : CourseOf role c events s)
    (records : List RecordValue) (node : ℕ) : Type 0 where
  pub steps : (n : ℕ) (r : RecordValue) → slice_get records n ≡ Some r → r.node ≡ node
      → r.steps ≡ steps_in (typed_on n role c events s led)
  pub one_terminal : (n i j : ℕ) (t u : TypedStep) → slice_get (typed_on n role c events s led) i ≡ Some t
      → slice_get (typed_on n role c events s led) j ≡ Some u → t.terminal ≡ u.terminal

abbrev pub TypedLaw : Type 0
TypedLaw = (role : Role) (c : PadConfig) (events : List PadEvent) (s : Course) → (led : CourseOf role c events s)
    → AreTyped role c events s led s.book.records (node_at role s.book)
