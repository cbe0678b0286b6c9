-- What a script makes of a network, and what is printed.
use Rattle.std.specs.Prelude.{◌≡◌, ◌≢◌, ◌↔◌, ℕ, zero, suc, ◌+◌, ◌<◌, Bool, true, false, List, [], ◌∷◌, ◌++◌, map}
use Rattle.std.specs.Prelude.{Some, None, Result, Ok, Err, IsTrue, codes}
use Rattle.frame_lines.specs.declared.line.Direction.TheVariants.{FromDte, FromDce}
use Rattle.frame_lines.specs.Lines.{LineService}
use Rattle.user_nodes.specs.declared.terminal.TerminalEvent.TheVariants.{Key}
use Rattle.net_events.specs.declared.event.Event.{Event}
use Rattle.net_events.specs.declared.event.Event.TheVariants.{AtTerminal, Deliver}
use Rattle.net_events.specs.declared.answer.Outcome.{Outcome}
use Rattle.net_events.specs.declared.answer.Outcome.TheVariants.{Delivered}
use Rattle.net_events.specs.declared.answer.Answer.{Answer}
use Rattle.net_events.specs.declared.event.StepFault.{StepFault}
use Rattle.net_events.specs.declared.event.StepFault.TheVariants.{OutOfMemory}
use Rattle.net_events.specs.Network.{Network, all_elapsed}
use Rattle.net_nodes.specs.Questions.{net_rests}
use Rattle.net_nodes.specs.Due.{net_due}
use Rattle.call_records.specs.Pairs.{AllMatch}
use Rattle.net_nodes.specs.Happening.{Happens}
use Rattle.net_files.specs.Commands.{CommandView}
use Rattle.net_files.specs.Commands.{CommandView as command}
use Rattle.net_files.specs.declared.script.Script.{Script}
use Rattle.answer_texts.specs.Answers.{Names, answer_text, check_line}
use Rattle.net_player.specs.InTurn.{InTurn}

-- whether a frame arrived
abbrev pub has_arrived : Outcome → Bool
has_arrived (Delivered arrived) = arrived
has_arrived o = false

abbrev pub brought_frame : Result Answer StepFault → Bool
brought_frame (Ok answer) = has_arrived answer.outcome
brought_frame (Err refusal) = false

-- the event happens, not refused for want of memory, this is the text of its answer, and it brought a frame or not
pub record Tells (L : LineService) (names : Names) (traces : Bool) (arrived : Bool) (e : Event)
    (s : Network) (text : List ℕ) (t : Network) : Type 0 where
  pub answer : Result Answer StepFault
  pub happens : Happens L e s answer t
  pub had_memory : answer ≢ Err OutOfMemory
  pub told : text ≡ answer_text names traces e answer
  pub came : arrived ≡ brought_frame answer

-- the same, whether it brought a frame or not
pub record TellsEvent (L : LineService) (names : Names) (traces : Bool) (e : Event) (s : Network) (text : List ℕ)
    (t : Network) : Type 0 where
  pub arrived : Bool
  pub tells : Tells L names traces arrived e s text t

-- a network in a flow, and how many frames may still be delivered
pub record Flowing : Type 0 where
  pub left : ℕ
  pub net : Network

-- a delivery in a flow: none where no more may be delivered, and one that brings a frame counts
pub data Delivers (L : LineService) (names : Names) (traces : Bool) : Event → Flowing → List ℕ → Flowing → Type 0 where
  at_limit : {e : Event} {s : Network}
      → Delivers L names traces e (record { left = 0; net = s }) [] (record { left = 0; net = s })
  arrives : {e : Event} {left : ℕ} {s t : Network} {text : List ℕ}
      → Tells L names traces true e s text t
      → Delivers L names traces e (record { left = suc left; net = s }) text (record { left = left; net = t })
  finds_none : {e : Event} {left : ℕ} {s t : Network} {text : List ℕ}
      → Tells L names traces false e s text t
      → Delivers L names traces e (record { left = suc left; net = s }) text (record { left = suc left; net = t })

-- deliveries on a number of lines, from this one on: on each line one from the DTE and one from the DCE
abbrev pub deliveries_from : ℕ → ℕ → List Event
deliveries_from line zero = []
deliveries_from line (suc lines) = Deliver line FromDte ∷ Deliver line FromDce ∷ deliveries_from (line + 1) lines

-- a pass over the lines in order
abbrev pub Passes : (L : LineService) → Names → (traces : Bool) → (lines : ℕ) → Flowing → List ℕ → Flowing → Type 0
Passes L names traces lines s text t = InTurn Event Flowing (Delivers L names traces) (deliveries_from 0 lines) s text t

-- passes, until one brings no frame
pub data Flows (L : LineService) (names : Names) (traces : Bool) (lines : ℕ)
    : Flowing → List ℕ → Network → Type 0 where
  last : {s t : Flowing} {text : List ℕ}
      → Passes L names traces lines s text t → t.left ≡ s.left → Flows L names traces lines s text t.net
  again : {s mid : Flowing} {first rest : List ℕ} {t : Network}
      → Passes L names traces lines s first mid → mid.left < s.left → Flows L names traces lines mid rest t
      → Flows L names traces lines s (first ++ rest) t

-- what is due expires, one timer after the other, until none is due
pub data Expires (L : LineService) (names : Names) (traces : Bool) : Network → List ℕ → Network → Type 0 where
  none : {s : Network} → net_due s ≡ None → Expires L names traces s [] s
  next : {expiry : Event} {s mid t : Network} {first rest : List ℕ}
      → net_due s ≡ Some expiry → TellsEvent L names traces expiry s first mid → Expires L names traces mid rest t
      → Expires L names traces s (first ++ rest) t

-- so many ticks go by, and then what is due expires
abbrev pub Ticks : (L : LineService) → Names → (traces : Bool) → (ticks : ℕ) → Network → List ℕ → Network → Type 0
Ticks L names traces ticks s text t = Expires L names traces (all_elapsed ticks s) text t

-- a network on which a script is played, and whether frames are traced
pub record Played : Type 0 where
  pub net : Network
  pub traces : Bool

-- the events of keys, one for each octet
abbrev pub key_event : (node terminal octet : ℕ) → Event
key_event node terminal octet = AtTerminal node terminal (Key octet)

abbrev pub key_events : (node terminal : ℕ) → (octets : List ℕ) → List Event
key_events node terminal octets = map (key_event node terminal) octets

-- whether in each call what each end took matches what the other one sent; on faithful lines it does
pub record IsChecked (L : LineService) (s : Network) (all_match : Bool) : Type 0 where
  pub exact : IsTrue all_match ↔ AllMatch s.register.records s.register.pairs
  pub faithful : L.faithful → all_match ≡ true

-- what a command does: its keys are typed in order, its event happens, at most 100,000 frames flow, time goes by,
-- frames are traced from here on, or not, or the calls are checked
pub data DoesCommand (L : LineService) (names : Names) (lines : ℕ)
    : CommandView → Played → List ℕ → Played → Type 0 where
  keys : {node terminal : ℕ} {octets : List ℕ} {traces : Bool} {s t : Network} {text : List ℕ}
      → InTurn Event Network (TellsEvent L names traces) (key_events node terminal octets) s text t
      → DoesCommand L names lines (command.Keys node terminal octets) (record { net = s; traces = traces }) text
      (record { net = t; traces = traces })
  event : {e : Event} {traces : Bool} {s t : Network} {text : List ℕ}
      → TellsEvent L names traces e s text t
      → DoesCommand L names lines (command.Event e) (record { net = s; traces = traces }) text
      (record { net = t; traces = traces })
  flow : {traces : Bool} {s t : Network} {text : List ℕ}
      → Flows L names traces lines (record { left = 100000; net = s }) text t
      → DoesCommand L names lines command.Flow (record { net = s; traces = traces }) text
      (record { net = t; traces = traces })
  tick : {ticks : ℕ} {traces : Bool} {s t : Network} {text : List ℕ}
      → Ticks L names traces ticks s text t
      → DoesCommand L names lines (command.Tick ticks) (record { net = s; traces = traces }) text
      (record { net = t; traces = traces })
  trace : {before after : Bool} {s : Network}
      → DoesCommand L names lines (command.Trace after) (record { net = s; traces = before }) []
      (record { net = s; traces = after })
  check : {all_match traces : Bool} {s : Network} → IsChecked L s all_match
      → DoesCommand L names lines command.Check (record { net = s; traces = traces }) (check_line all_match)
      (record { net = s; traces = traces })

-- the last line
abbrev pub end_line : (at_rest : Bool) → List ℕ
end_line true = codes "end rest" ++ 10 ∷ []
end_line false = codes "end busy" ++ 10 ∷ []

-- the commands are done in order, and then comes the last line
pub record Plays (L : LineService) (script : Script) (s : Network) (text : List ℕ) (t : Network) : Type 0 where
  pub told : List ℕ
  pub at_rest : Bool
  pub traces : Bool
  pub commands :
      InTurn CommandView Played (DoesCommand L script.names.items script.lines) script.commands
      (record { net = s; traces = false }) told (record { net = t; traces = traces })
  pub rest : at_rest ≡ net_rests t
  pub whole : text ≡ told ++ end_line at_rest
