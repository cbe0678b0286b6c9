-- When a script stops before its end: memory is wanted, or the output refuses a text.
use Rattle.std.specs.Prelude.{◌≡◌, ◌≢◌, ◌⊎◌, ℕ, ◌<◌, ◌≤◌, Bool, false, List, [], ◌++◌, Option, Some, Result, Err, IfOk, IfErr}
use Rattle.frame_lines.specs.Lines.{LineService}
use Rattle.net_events.specs.declared.event.Event.{Event}
use Rattle.net_events.specs.declared.answer.Answer.{Answer}
use Rattle.net_events.specs.declared.event.StepFault.{StepFault}
use Rattle.net_events.specs.declared.event.StepFault.TheVariants as refused_for
use Rattle.net_events.specs.Network.{Network, all_elapsed}
use Rattle.net_nodes.specs.Questions.{net_rests}
use Rattle.net_nodes.specs.Due.{net_due}
use Rattle.net_nodes.specs.Happening.{Happens}
use Rattle.net_files.specs.declared.fault.ProgFault.{ProgFault}
use Rattle.net_files.specs.declared.fault.ProgFault.TheVariants.{OutOfMemory, Write}
use Rattle.net_files.specs.Commands.{CommandView}
use Rattle.net_files.specs.Commands.{CommandView as command}
use Rattle.net_files.specs.declared.script.Script.{Script}
use Rattle.answer_texts.specs.Answers.{Names, answer_text, check_line}
use Rattle.octet_streams.specs.Written.{Writes}
use Rattle.net_player.specs.InTurn.{InTurn, StopsInTurn}
use Rattle.net_player.specs.Playing.{key_events, TellsEvent, Flowing, Delivers, deliveries_from, Passes, Played}
use Rattle.net_player.specs.Playing.{IsChecked, DoesCommand, end_line}

-- a script stops for want of memory, or where its text cannot be written
abbrev pub IsPlayFault : ProgFault → Type 0
IsPlayFault fault = (fault ≡ OutOfMemory) ⊎ (fault ≡ Write)

-- so much of a text was written until this fault came, and less than the whole where the output refused it
pub record IsPartOf (whole : List ℕ) (fault : ProgFault) (part : List ℕ) : Type 0 where
  pub rest : List ℕ
  pub front : whole ≡ part ++ rest
  pub refused : fault ≡ Write → rest ≢ []

-- an event at which it stops: memory was wanted for it, or it happened and so much of its answer was written
pub data StopsAt (L : LineService) (names : Names) (traces : Bool) (fault : ProgFault) (e : Event) (s : Network)
    : List ℕ → Type 0 where
  unhandled : (t : Network)
      → fault ≡ OutOfMemory → Happens L e s (Err refused_for.OutOfMemory) t → StopsAt L names traces fault e s []
  untold : (answer : Result Answer StepFault) (t : Network) {part : List ℕ}
      → Happens L e s answer t → answer ≢ Err refused_for.OutOfMemory
      → IsPartOf (answer_text names traces e answer) fault part → StopsAt L names traces fault e s part

-- a delivery in a flow at which it stops, where one may still be delivered
pub record DeliveryStops (L : LineService) (names : Names) (traces : Bool) (fault : ProgFault) (e : Event)
    (s : Flowing) (part : List ℕ) : Type 0 where
  pub may_deliver : 0 < s.left
  pub stops : StopsAt L names traces fault e s.net part

-- a delivery in a flow is tried: how many may be delivered behind it and what is written, or where it stops
pub record TriesDelivery (L : LineService) (names : Names) (traces : Bool) (e : Event) (s : Flowing)
    (before after : Option (List ℕ)) (result : Result ℕ ProgFault) (t : Network) : Type 0 where
  pub delivers : IfOk result (λ still_left. Writes before after
      (λ text. Delivers L names traces e s text (record { left = still_left; net = t })))
  pub at_most : IfOk result (λ still_left. still_left ≤ s.left)
  pub stops : IfErr result (λ fault. Writes before after (DeliveryStops L names traces fault e s))
  pub faults : IfErr result IsPlayFault

-- a pass over the lines in which it stops
abbrev pub PassStops : (L : LineService) → Names → (traces : Bool) → (lines : ℕ) → ProgFault → Flowing → List ℕ → Type 0
PassStops L names traces lines fault s part =
    StopsInTurn Event Flowing (Delivers L names traces) (DeliveryStops L names traces fault) (deliveries_from 0 lines)
    s part

-- a flow that stops in its first pass, or in one after passes that each brought a frame
pub data FlowStops (L : LineService) (names : Names) (traces : Bool) (lines : ℕ) (fault : ProgFault)
    : Flowing → List ℕ → Type 0 where
  at_once : {s : Flowing} {part : List ℕ}
      → PassStops L names traces lines fault s part → FlowStops L names traces lines fault s part
  behind : {s mid : Flowing} {first part : List ℕ}
      → Passes L names traces lines s first mid → mid.left < s.left → FlowStops L names traces lines fault mid part
      → FlowStops L names traces lines fault s (first ++ part)

-- expiries of what is due that stop at the first one, or at one after others
pub data ExpiryStops (L : LineService) (names : Names) (traces : Bool) (fault : ProgFault)
    : Network → List ℕ → Type 0 where
  at_once : {expiry : Event} {s : Network} {part : List ℕ}
      → net_due s ≡ Some expiry → StopsAt L names traces fault expiry s part
      → ExpiryStops L names traces fault s part
  behind : {expiry : Event} {s mid : Network} {first part : List ℕ}
      → net_due s ≡ Some expiry → TellsEvent L names traces expiry s first mid
      → ExpiryStops L names traces fault mid part → ExpiryStops L names traces fault s (first ++ part)

-- a command that stops: at one of its keys, at its event, in its flow, at what is due after its ticks, or at the line
-- of a check
pub data CommandStops (L : LineService) (names : Names) (lines : ℕ) (fault : ProgFault)
    : CommandView → Played → List ℕ → Type 0 where
  in_keys : {node terminal : ℕ} {octets : List ℕ} {s : Played} {part : List ℕ}
      → StopsInTurn Event Network (TellsEvent L names s.traces) (StopsAt L names s.traces fault)
      (key_events node terminal octets) s.net part
      → CommandStops L names lines fault (command.Keys node terminal octets) s part
  at_event : {e : Event} {s : Played} {part : List ℕ}
      → StopsAt L names s.traces fault e s.net part
      → CommandStops L names lines fault (command.Event e) s part
  in_flow : {s : Played} {part : List ℕ}
      → FlowStops L names s.traces lines fault (record { left = 100000; net = s.net }) part
      → CommandStops L names lines fault command.Flow s part
  in_ticks : {ticks : ℕ} {s : Played} {part : List ℕ}
      → ExpiryStops L names s.traces fault (all_elapsed ticks s.net) part
      → CommandStops L names lines fault (command.Tick ticks) s part
  in_check : {all_match : Bool} {s : Played} {part : List ℕ}
      → IsChecked L s.net all_match → fault ≡ Write → IsPartOf (check_line all_match) fault part
      → CommandStops L names lines fault command.Check s part

-- the play of a script that stops: in one of its commands, or at the last line
pub data PlayStops (L : LineService) (script : Script) (fault : ProgFault) (s : Network) : List ℕ → Type 0 where
  in_command : {part : List ℕ}
      → StopsInTurn CommandView Played (DoesCommand L script.names.items script.lines)
      (CommandStops L script.names.items script.lines fault) script.commands
      (record { net = s; traces = false }) part
      → PlayStops L script fault s part
  at_the_end : {t : Network} {traces : Bool} {told part : List ℕ}
      → InTurn CommandView Played (DoesCommand L script.names.items script.lines) script.commands
      (record { net = s; traces = false }) told (record { net = t; traces = traces })
      → fault ≡ Write → IsPartOf (end_line (net_rests t)) fault part → PlayStops L script fault s (told ++ part)
