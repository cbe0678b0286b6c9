-- What happens in the network of a service, step by step, and what that is at one terminal. The network is one process of
-- several, or whole.
use Rattle.std.specs.Prelude.{◌≡◌, ℕ, Bool, true, false, not, List, [], ◌∷◌, ◌==◌, ◌&&◌, map, length, flat_map, Contains, is_none, Result, Ok, Err, if◌then◌else◌}
use Rattle.std.specs.List.{list_all}
use Rattle.frame_lines.specs.Lines.{LineService}
use Rattle.user_nodes.specs.declared.terminal.TerminalEvent.{TerminalEvent}
use Rattle.user_nodes.specs.declared.terminal.TerminalEvent.TheVariants as what
use Rattle.net_events.specs.declared.event.Event.{Event}
use Rattle.net_events.specs.declared.event.Event.TheVariants.{AtTerminal, Call, Ask, Take}
use Rattle.net_events.specs.declared.event.StepFault.{StepFault}
use Rattle.net_events.specs.declared.answer.Answer.{Answer}
use Rattle.net_events.specs.declared.answer.Outcome.{Outcome}
use Rattle.net_events.specs.declared.answer.Outcome.TheVariants.{Delivered, Typed, Printed, Took}
use Rattle.net_process.specs.Process.{ProcessState}
use Rattle.net_process.specs.Stepping.{HasStepped}
use Rattle.x25_pad.specs.declared.answer.PadAnswer.{PadAnswer}
use Rattle.x25_pad.specs.declared.answer.PadAnswer.TheVariants.{Taken, Dropped}
use Rattle.service_ports.specs.declared.input.Key.{Key}
use Rattle.service_ports.specs.declared.input.Key.TheVariants.{Octet, Break}
use Rattle.service.specs.declared.place.Place.{Place}
use Rattle.service.specs.declared.terminal.Presence.{Presence}
use Rattle.service.specs.declared.terminal.Presence.TheVariants.{Here, Gone}

-- an event, and what it was answered
pub record Step : Type 0 where
  pub event : Event
  pub answer : Result Answer StepFault

-- the network makes a step: an event at a node that runs here happens as in a network that keeps records, with each
-- register of calls with which it was one; any other event is refused
abbrev pub Makes : LineService → ProcessState → Step → ProcessState → Type 0
Makes L s step t = HasStepped L step.event s step.answer t

-- it makes these steps, one after the other
abbrev pub Steps : LineService → ProcessState → List Step → ProcessState → Type 0
Steps L s [] t = s ≡ t
Steps L s (step ∷ steps) t = (mid : ProcessState) × Makes L s step mid × Steps L mid steps t

-- ---- steps that do nothing

abbrev pub is_dropped : PadAnswer → Bool
is_dropped Taken = false
is_dropped Dropped = true

-- an event does nothing if it is refused, or if no text is shown or taken and no frame arrived, a PAD dropped the key, or
-- nothing waited
abbrev pub is_idle_outcome : Outcome → Bool
is_idle_outcome (Delivered arrived) = not arrived
is_idle_outcome (Typed answer) = is_dropped answer
is_idle_outcome Printed = true
is_idle_outcome (Took front) = is_none front
is_idle_outcome _ = false

abbrev pub is_idle_answer : Answer → Bool
is_idle_answer answer = length answer.text.items == 0 && is_idle_outcome answer.outcome

abbrev pub is_idle : Result Answer StepFault → Bool
is_idle (Ok answer) = is_idle_answer answer
is_idle (Err fault) = true

abbrev pub AreIdle : List Step → Type 0
AreIdle steps = list_all (λ (step : Step). is_idle step.answer) steps ≡ true

-- an event was tried among these steps
abbrev pub HasTried : Event → List Step → Type 0
HasTried event steps = Contains (map (λ (step : Step). step.event) steps) event

-- whether a host calls, asks something of a call, or takes what waits
abbrev pub is_at_host : Event → Bool
is_at_host (Call node address user_data) = true
is_at_host (Ask node channel request) = true
is_at_host (Take node channel) = true
is_at_host _ = false

-- steps at no host
abbrev pub AreAside : List Step → Type 0
AreAside steps = list_all (λ (step : Step). not (is_at_host step.event)) steps ≡ true

-- ---- what steps are at a terminal

abbrev pub is_at : Place → (node number : ℕ) → Bool
is_at at node number = node == at.node && number == at.number

abbrev pub text_of : Result Answer StepFault → List ℕ
text_of (Ok answer) = answer.text.items
text_of (Err fault) = []

-- the text that a step shows at a terminal of a PAD
abbrev pub shown_by : Place → Event → Result Answer StepFault → List ℕ
shown_by at (AtTerminal node number what.Print) answer =
    if is_at at node number then text_of answer else []
shown_by at _ answer = []

-- the event of a key
abbrev pub key_event : Key → TerminalEvent
key_event (Octet octet) = what.Key octet
key_event Break = what.Break

-- the key that a step types at a terminal: one that the PAD drops is not typed
abbrev pub typed_by : Place → Event → Result Answer StepFault → List Key
typed_by at (AtTerminal node number (what.Key octet)) answer =
    if is_at at node number && not (is_idle answer) then Octet octet ∷ [] else []
typed_by at (AtTerminal node number what.Break) answer =
    if is_at at node number && not (is_idle answer) then Break ∷ [] else []
typed_by at _ answer = []

-- the event that a client came to a terminal, or left it
abbrev pub presence_event : Presence → TerminalEvent
presence_event Here = what.Arrives
presence_event Gone = what.Leaves

-- what a step tells a PAD of who is at a terminal
abbrev pub told_by : Place → Event → Result Answer StepFault → List Presence
told_by at (AtTerminal node number what.Arrives) answer =
    if is_at at node number && not (is_idle answer) then Here ∷ [] else []
told_by at (AtTerminal node number what.Leaves) answer =
    if is_at at node number && not (is_idle answer) then Gone ∷ [] else []
told_by at _ answer = []

-- all that steps show at a terminal, type there and tell of it
abbrev pub shown : Place → List Step → List ℕ
shown at = flat_map (λ step. shown_by at step.event step.answer)

abbrev pub typed : Place → List Step → List Key
typed at = flat_map (λ step. typed_by at step.event step.answer)

abbrev pub told : Place → List Step → List Presence
told at = flat_map (λ step. told_by at step.event step.answer)

-- steps that are nothing at a terminal
pub record IsSilent (at : Place) (steps : List Step) : Type 0 where
  pub shows : shown at steps ≡ []
  pub types : typed at steps ≡ []
  pub tells : told at steps ≡ []

-- ---- one event

-- an event happens, and this says whether it did anything
pub record Does (L : LineService) (event : Event) (done : Bool) (s t : ProcessState) : Type 0 where
  pub answer : Result Answer StepFault
  pub stepped : Makes L s (record { event = event; answer = answer }) t
  pub done_is : done ≡ not (is_idle answer)

-- whether something happens at a terminal
abbrev pub is_at_terminal : Event → Bool
is_at_terminal (AtTerminal node number event) = true
is_at_terminal _ = false

-- steps that are nothing at any terminal; if there is no more to do, none of them did anything
pub record PassesBy (L : LineService) (steps : List Step) (more : Bool) (s t : ProcessState) : Type 0 where
  pub made : Steps L s steps t
  pub silent : (at : Place) → IsSilent at steps
  pub idle : more ≡ false → AreIdle steps

abbrev pub Passes : LineService → Bool → (s t : ProcessState) → Type 0
Passes L more s t = (steps : List Step) × PassesBy L steps more s t
