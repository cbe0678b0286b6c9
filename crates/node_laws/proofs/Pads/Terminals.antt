-- What happens at a terminal of a PAD: each thing that it asks of the line is written.
use Rattle.std.specs.Prelude.{◌≡◌, ℕ, Bool, true, false, if◌then◌else◌, ◌&&◌, List, [], ◌∷◌, Option, Some, None, slice_get, is_some}
use Rattle.std.specs.Option.{option_map_or}
use Rattle.std.proofs.Common.{refl, sym}
use Rattle.std.proofs.lemmas.Option.{none-some}
use Rattle.link_timers.specs.declared.role.Role.{Role}
use Rattle.lapb.specs.Machine.{Octets}
use Rattle.pad_editing.specs.Edited.{Step, Effect, key, idle, after_key}
use Rattle.data_transfer.specs.Packets.{Datum}
use Rattle.data_transfer.specs.Traffic.{Taken}
use Rattle.data_transfer.specs.Traffic.Taken.{TakenInterrupt, TakenPacket}
use Rattle.packet_channel.specs.Channel.Request.{Releasing}
use Rattle.packet_layer.specs.Layer.{front_on}
use Rattle.packet_end.specs.PacketEnd.{PacketEnd}
use Rattle.call_records.specs.Book.{Book}
use Rattle.node_laws.specs.LineRecords.Kept.{Setting}
use Rattle.x3_params.specs.Settings.{acts_on_break, recall_character}
use Rattle.x3_params.specs.declared.settings.BreakAction.TheVariants as action
use Rattle.x29_messages.specs.MessageForm.{octets_of}
use Rattle.x29_messages.specs.declared.message.Message.{Message}
use Rattle.pad_terminal.specs.Terminal.{TerminalState, is_present, is_data_transfer, runs_idle_timer, may_show, is_connected}
use Rattle.pad_terminal.specs.CommandLine as command_line
use Rattle.pad_terminal.specs.Keys as keys
use Rattle.pad_terminal.specs.Breaks as breaks
use Rattle.pad_terminal.specs.Calls as calls
use Rattle.pad_terminal.specs.Messages as messages
use Rattle.pad_terminal.specs.declared.answers.CallCondition.{CallCondition}
use Rattle.pad_terminal.specs.declared.answers.InputAnswer.{InputAnswer}
use Rattle.pad_terminal.specs.declared.answers.InputAnswer.TheVariants as input
use Rattle.pad_terminal.specs.declared.answers.BreakAnswer.{BreakAnswer}
use Rattle.pad_terminal.specs.declared.answers.BreakAnswer.TheVariants as break_answer
use Rattle.pad_terminal.specs.declared.answers.Reply.{Reply}
use Rattle.pad_terminal.specs.declared.answers.Reply.TheVariants as reply
use Rattle.pad_terminal.specs.declared.answers.TerminalRequest.{TerminalRequest}
use Rattle.pad_terminal.specs.declared.answers.TerminalRequest.TheVariants as request
use Rattle.pad_ports.specs.Notes.{Edited}
use Rattle.pad_ports.specs.PadLine as line
use Rattle.pad_ports.specs.Ports as port
use Rattle.pad_ports.specs.Ports.{PortState, AtLine}
use Rattle.pad_ports.specs.PadLine.{PadLine}
use Rattle.x25_pad.specs.Pad.{PadState, with_line, at_port, acted}
use Rattle.node_laws.proofs.Pads.Selecting.{Fits, FitsAny, line_fits}
use Rattle.node_laws.proofs.Pads.Asking.{Runs, named_runs, sent_runs, cleared_runs, reset_runs, interrupted_runs, placed_runs, edited_runs, taken_runs}

-- ---- what is asked can be asked

-- of one of two things
either : {A : Type 0} (P : A → Type 0) (v : Bool) (x y : A) → P x → P y → P (if v then x else y)
either P true x y f g = f
either P false x y f g = g

-- what a key or an idle time asks
abbrev AnswerFits : InputAnswer → Type 0
AnswerFits input.Dropped = Unit {0}
AnswerFits (input.Edited block) = Unit {0}
AnswerFits (input.Taken asked) = FitsAny asked

abbrev InputFits : keys.Input → Type 0
InputFits i = AnswerFits i.answer

ended_fits : (ended : Option (List ℕ)) (call : CallCondition) (t : TerminalState) → InputFits (keys.after_ended ended call t)
ended_fits None call t = tt
ended_fits (Some line) call t = line_fits line call t

edited_fits : (e : Effect) (o : ℕ) (full : Bool) (t : TerminalState) → InputFits (keys.after_edited e o full t)
edited_fits e o full t = either InputFits (is_some e.block && full) _ _ tt tt

data_fits : (o : ℕ) (full : Bool) (t : TerminalState) → InputFits (keys.after_data_key o full t)
data_fits o full t =
    either InputFits (keys.is_flow_control t.settings.params o) _ _ tt
    (either InputFits (keys.is_recall (recall_character t.settings.params) o) _ _ tt (edited_fits (after_key t.settings.params o t.held) o full t))

octet_fits : (o : ℕ) (call : CallCondition) (t : TerminalState) → InputFits (keys.after_octet o call t)
octet_fits o call t =
    let key = command_line.after_key t.settings.params o t.line in
    either InputFits (is_data_transfer t.mode) _ _ (data_fits o call.queue_full t)
    (either InputFits (is_present t.mode) _ _ (ended_fits key.ended call (keys.with_line key (command_line.is_echoed t.settings.params t.line) t)) tt)

idle_fits : (full : Bool) (t : TerminalState) → InputFits (keys.after_idle_time full t)
idle_fits full t = either InputFits (runs_idle_timer t) _ _ (either InputFits full _ _ tt tt) tt

-- what a break asks
abbrev BreakFits : BreakAnswer → Type 0
BreakFits break_answer.Dropped = Unit {0}
BreakFits (break_answer.Taken requests) = FitsAny requests.request

break_asks : (params : List ℕ) (call : CallCondition) → FitsAny (breaks.request_of params call)
break_asks params call =
    either FitsAny (acts_on_break params action.Reset) _ _ (either FitsAny call.reset_pending None (Some request.Reset) tt tt)
    (either FitsAny _ (Some request.Interrupt) None tt tt)

break_fits : (call : CallCondition) (t : TerminalState) → BreakFits (breaks.answer_of call t)
break_fits call t = either BreakFits (breaks.is_dropped call t) _ _ tt (either BreakFits (is_connected t.mode) _ _ (break_asks t.settings.params call) tt)

-- ---- what is done at the line

module _ (s : Setting) (b : Book) (role : Role) (you : PacketEnd) (going coming : List Octets) where
  abbrev pub RunsAt : AtLine → Type 0
  RunsAt a = Runs s b role you going coming a.line

  on_call_runs : (act : ℕ → AtLine → AtLine) (o : Option ℕ) (a : AtLine) → ((call : ℕ) → RunsAt (act call a)) → RunsAt a → RunsAt (port.on_call act o a)
  on_call_runs act None a f h = h
  on_call_runs act (Some call) a f h = f call

  places_runs : (a : AtLine) (asked : TerminalRequest) → Fits asked → RunsAt a → RunsAt (port.does asked a)
  places_runs a (request.Call selection) fits h = placed_runs s b role you going coming selection a.line fits h
  places_runs a request.Clear fits h = on_call_runs port.clears a.port.call a (λ call. cleared_runs s b role you going coming call a.line h) h
  places_runs a request.Interrupt fits h = on_call_runs port.interrupts a.port.call a (λ call. interrupted_runs s b role you going coming call a.line h) h
  places_runs a request.Reset fits h = on_call_runs port.resets a.port.call a (λ call. reset_runs s b role you going coming call a.line h) h

  asked_any : (o : Option TerminalRequest) (a : AtLine) → FitsAny o → RunsAt a → RunsAt (port.does_asked o a)
  asked_any None a fits h = h
  asked_any (Some r) a fits h = places_runs a r fits h

  sends_runs : (octets : List ℕ) (qualified : Bool) (call : ℕ) (a : AtLine) → RunsAt a → RunsAt (port.sends octets qualified call a)
  sends_runs octets qualified call a h = sent_runs s b role you going coming call octets qualified a.line h

  tells_runs : (message : Option Message) (a : AtLine) → RunsAt a → RunsAt (port.tells message a)
  tells_runs None a h = h
  tells_runs (Some message) a h = on_call_runs (port.sends (octets_of message) true) a.port.call a (λ call. sends_runs (octets_of message) true call a h) h

  -- ---- keys and idle times

  block_runs : (block : Option (List ℕ)) (call : ℕ) (a : AtLine) → RunsAt a → RunsAt (port.block_sent block call a)
  block_runs None call a h = h
  block_runs (Some block) call a h = sends_runs block false call a h

  handles_runs : (answer : InputAnswer) (step : Step) (a : AtLine) → AnswerFits answer → RunsAt a → RunsAt (port.handles answer step a)
  handles_runs input.Dropped step a fits h = h
  handles_runs (input.Edited block) step a fits h =
      on_call_runs (port.edits step block) a.port.call a
      (λ call. block_runs block call (record a { line = line.noting (Edited call step ∷ []) a.line })
      (edited_runs s b role you going coming call step a.line h)) h
  handles_runs (input.Taken asked) step a fits h = asked_any asked a fits h

  pub key_runs : (o : ℕ) (a : AtLine) → RunsAt a → RunsAt (port.after_key o a)
  key_runs o a h =
      handles_runs (port.key_input o a).answer (key o a.port.terminal.settings.params)
      (record a { port = record a.port { terminal = (port.key_input o a).terminal; idle_left = None } })
      (octet_fits o (line.condition a.port.call a.line) a.port.terminal) h

  pub idle_runs : (a : AtLine) → RunsAt a → RunsAt (port.after_idle a)
  idle_runs a h =
      handles_runs (port.idle_input a).answer (idle a.port.terminal.settings.params)
      (record a { port = record a.port { terminal = (port.idle_input a).terminal; idle_left = None } })
      (idle_fits (line.condition a.port.call a.line).queue_full a.port.terminal) h

  -- ---- a break

  break_answered : (answer : BreakAnswer) (a : AtLine) → BreakFits answer → RunsAt a → RunsAt (port.answers_break answer a)
  break_answered break_answer.Dropped a fits h = h
  break_answered (break_answer.Taken requests) a fits h =
      tells_runs requests.indication (port.does_asked requests.request a) (asked_any requests.request a fits h)

  pub break_runs : (a : AtLine) → RunsAt a → RunsAt (port.after_break a)
  break_runs a h =
      break_answered (port.break_answer_of a)
      (record a { port = port.with_terminal (breaks.after_break (line.condition a.port.call a.line) a.port.terminal) a.port })
      (break_fits (line.condition a.port.call a.line) a.port.terminal) h

  -- ---- leaving

  pub leaving_runs : (a : AtLine) → RunsAt a → RunsAt (port.after_leaving a)
  leaving_runs a h = places_runs a request.Clear tt h

  -- ---- what is taken

  replies_runs : (answer : Reply) (a : AtLine) → RunsAt a → RunsAt (port.replies answer a)
  replies_runs reply.Nothing a h = h
  replies_runs (reply.Message message) a h = tells_runs (Some message) a h
  replies_runs reply.Clear a h = on_call_runs port.clears a.port.call a (λ call. cleared_runs s b role you going coming call a.line h) h

  message_runs : (octets : List ℕ) (a : AtLine) → RunsAt a → RunsAt (port.after_message octets a)
  message_runs octets a h =
      let answered = messages.after_octets octets a.port.terminal in
      replies_runs answered.reply (record a { port = port.with_terminal answered.terminal a.port }) h

  datum_runs : (d : Datum) (qualified : Bool) (a : AtLine) → RunsAt a → RunsAt (port.after_datum d qualified a)
  datum_runs d true a h = message_runs d.octets a h
  datum_runs d false a h = h

  taking_runs : (taken : Taken) (call : ℕ) (a : AtLine) → front_on a.line.end.layer call ≡ Some taken → RunsAt a
      → RunsAt (port.after_taking taken call (port.takes taken call a))
  taking_runs (TakenInterrupt octets) call a is h = taken_runs s b role you going coming call (TakenInterrupt octets) a.line is h
  taking_runs (TakenPacket d) call a is h =
      datum_runs d d.qualified (port.releases (Releasing 1) call (port.takes (TakenPacket d) call a))
      (taken_runs s b role you going coming call (TakenPacket d) a.line is h)

  next_runs : (o : Option ℕ) (taken : Option Taken) (p : PortState) (l : PadLine) → taken ≡ port.next_on o (record { port = p; line = l }) → Runs s b role you going coming l
      → RunsAt (port.after_taken taken (port.with_taken taken (record { port = record p { call = o }; line = l })))
  next_runs o None p l is h = h
  next_runs None (Some taken) p l is h = h
  next_runs (Some call) (Some taken) p l is h =
      taking_runs taken call (record { port = record p { call = Some call }; line = l })
      (front_is (front_on l.end.layer call) _ taken (sym is)) h
    where
      front_is : (o : Option Taken) (full : Bool) (x : Taken) → port.takeable o full ≡ Some x → o ≡ Some x
      front_is None full x e = absurd (none-some x e)
      front_is (Some y) full x e = unless_is (port.is_qualified y && full) e
        where
          unless_is : (v : Bool) → (if v then None else Some y) ≡ Some x → Some y ≡ Some x
          unless_is true e = absurd (none-some x e)
          unless_is false e = e

  print_by : (v : Bool) (p : PortState) (l : PadLine) → Runs s b role you going coming l →
      let taken : Option Taken = if v then port.next_on p.call (record { port = p; line = l }) else None in
      RunsAt (port.after_taken taken (port.with_taken taken (record { port = port.with_terminal (calls.without_text p.terminal) p; line = l })))
  print_by true p l h =
      next_runs p.call (port.next_on p.call (record { port = p; line = l })) (port.with_terminal (calls.without_text p.terminal) p) l (next_same p.call) h
    where
      next_same : (o : Option ℕ) → port.next_on o (record { port = p; line = l }) ≡ port.next_on o (record { port = port.with_terminal (calls.without_text p.terminal) p; line = l })
      next_same None = refl
      next_same (Some call) = refl
  print_by false p l h = h

  pub print_runs : (a : AtLine) → RunsAt a → RunsAt (port.after_print a)
  print_runs a h = print_by (may_show a.port.terminal) a.port a.line h

  -- ---- at a terminal of the PAD

  pub port_runs : (number : ℕ) (act : AtLine → AtLine) (p : PadState) → ((a : AtLine) → RunsAt a → RunsAt (act a)) → Runs s b role you going coming p.line
      → Runs s b role you going coming (at_port number act p).line
  port_runs number act p f h = by (slice_get p.ports number)
    where
      by : (o : Option PortState) → Runs s b role you going coming (option_map_or (λ found. acted number p (act (with_line number found p))) o p).line
      by None = h
      by (Some found) = f (with_line number found p) (named_runs s b role you going coming (Some number) p.line h)
