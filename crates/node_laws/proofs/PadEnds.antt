-- What stays of a PAD's end of the line whatever is asked of it stays whatever happens at a terminal.
use Rattle.std.specs.Prelude.{ℕ, Bool, true, false, List, [], ◌∷◌, Option, Some, None, slice_get}
use Rattle.std.specs.Option.{option_map_or}
use Rattle.pad_editing.specs.Edited.{Step, key, idle}
use Rattle.data_transfer.specs.Packets.{CallParts, Datum}
use Rattle.data_transfer.specs.Traffic.{Taken}
use Rattle.data_transfer.specs.Traffic.Taken.{TakenInterrupt, TakenPacket}
use Rattle.packet_channel.specs.Channel.{Request as ask}
use Rattle.packet_end.specs.PacketEnd as end
use Rattle.packet_end.specs.PacketEnd.{PacketEnd}
use Rattle.x29_messages.specs.MessageForm.{octets_of}
use Rattle.x29_messages.specs.declared.message.Message.{Message}
use Rattle.pad_terminal.specs.Breaks as breaks
use Rattle.pad_terminal.specs.Calls as calls
use Rattle.pad_terminal.specs.Messages as messages
use Rattle.pad_terminal.specs.declared.answers.BreakAnswer.{BreakAnswer}
use Rattle.pad_terminal.specs.declared.answers.BreakAnswer.TheVariants as break_answer
use Rattle.pad_terminal.specs.declared.answers.InputAnswer.{InputAnswer}
use Rattle.pad_terminal.specs.declared.answers.InputAnswer.TheVariants as input
use Rattle.pad_terminal.specs.declared.answers.Reply.{Reply}
use Rattle.pad_terminal.specs.declared.answers.Reply.TheVariants as reply
use Rattle.pad_terminal.specs.declared.answers.TerminalRequest.{TerminalRequest}
use Rattle.pad_terminal.specs.declared.answers.TerminalRequest.TheVariants as request
use Rattle.pad_ports.specs.PadLine as line
use Rattle.pad_ports.specs.Ports as port
use Rattle.pad_ports.specs.Ports.{PortState, AtLine}
use Rattle.pad_ports.specs.PadLine.{PadLine}
use Rattle.x25_pad.specs.Pad as pad
use Rattle.x25_pad.specs.Pad.{PadState}

module _ (P : PacketEnd → Type 0) (asks : (e : PacketEnd) (channel : ℕ) (r : ask) → P e → P (end.asked e channel r))
    (places : (e : PacketEnd) (parts : CallParts) → P e → P (end.called e parts)) where
  abbrev pub At : AtLine → Type 0
  At a = P a.line.end

  on_call_at : (act : ℕ → AtLine → AtLine) (o : Option ℕ) (a : AtLine) → ((call : ℕ) → At (act call a)) → At a → At (port.on_call act o a)
  on_call_at act None a f h = h
  on_call_at act (Some call) a f h = f call

  clear_at : (a : AtLine) → At a → At (port.on_call port.clears a.port.call a)
  clear_at a h = on_call_at port.clears a.port.call a (λ call. asks a.line.end call (ask.Clearing 0 0) h) h

  send_at : (octets : List ℕ) (qualified : Bool) (call : ℕ) (a : AtLine) → At a → At (port.sends octets qualified call a)
  send_at octets qualified call a h = asks a.line.end call (ask.Sending (line.datum octets qualified)) h

  does_at : (r : TerminalRequest) (a : AtLine) → At a → At (port.does r a)
  does_at (request.Call s) a h = places a.line.end (line.call_parts s.address s.user_data.items) h
  does_at request.Clear a h = clear_at a h
  does_at request.Interrupt a h =
      on_call_at port.interrupts a.port.call a (λ call. asks a.line.end call (ask.Interrupting (line.interrupt_octet ∷ [])) h) h
  does_at request.Reset a h = on_call_at port.resets a.port.call a (λ call. asks a.line.end call (ask.Resetting 0 0) h) h

  asked_at : (o : Option TerminalRequest) (a : AtLine) → At a → At (port.does_asked o a)
  asked_at None a h = h
  asked_at (Some r) a h = does_at r a h

  tells_at : (o : Option Message) (a : AtLine) → At a → At (port.tells o a)
  tells_at None a h = h
  tells_at (Some m) a h = on_call_at (port.sends (octets_of m) true) a.port.call a (λ call. send_at (octets_of m) true call a h) h

  edit_at : (step : Step) (block : Option (List ℕ)) (call : ℕ) (a : AtLine) → At a → At (port.edits step block call a)
  edit_at step None call a h = h
  edit_at step (Some text) call a h = asks a.line.end call (ask.Sending (line.datum text false)) h

  handles_at : (answer : InputAnswer) (step : Step) (a : AtLine) → At a → At (port.handles answer step a)
  handles_at input.Dropped step a h = h
  handles_at (input.Edited block) step a h = on_call_at (port.edits step block) a.port.call a (λ call. edit_at step block call a h) h
  handles_at (input.Taken o) step a h = asked_at o a h

  break_at : (answer : BreakAnswer) (a : AtLine) → At a → At (port.answers_break answer a)
  break_at break_answer.Dropped a h = h
  break_at (break_answer.Taken requests) a h = tells_at requests.indication (port.does_asked requests.request a) (asked_at requests.request a h)

  replies_at : (answer : Reply) (a : AtLine) → At a → At (port.replies answer a)
  replies_at reply.Nothing a h = h
  replies_at (reply.Message m) a h = tells_at (Some m) a h
  replies_at reply.Clear a h = clear_at a h

  datum_at : (d : Datum) (qualified : Bool) (a : AtLine) → At a → At (port.after_datum d qualified a)
  datum_at d true a h =
      let answered = messages.after_octets d.octets a.port.terminal in
      replies_at answered.reply (record a { port = port.with_terminal answered.terminal a.port }) h
  datum_at d false a h = h

  taking_at : (taken : Taken) (call : ℕ) (a : AtLine) → At a → At (port.after_taking taken call (port.takes taken call a))
  taking_at (TakenInterrupt octets) call a h =
      asks (end.asked a.line.end call ask.Taking) call ask.Confirming (asks a.line.end call ask.Taking h)
  taking_at (TakenPacket d) call a h =
      datum_at d d.qualified (port.releases (ask.Releasing 1) call (port.takes (TakenPacket d) call a))
      (asks (end.asked a.line.end call ask.Taking) call (ask.Releasing 1) (asks a.line.end call ask.Taking h))

  next_at : (o : Option ℕ) (taken : Option Taken) (p : PortState) (l : PadLine) → At (record { port = record p { call = o }; line = l })
      → At (port.after_taken taken (port.with_taken taken (record { port = record p { call = o }; line = l })))
  next_at o None p l h = h
  next_at None (Some taken) p l h = h
  next_at (Some call) (Some taken) p l h = taking_at taken call (record { port = record p { call = Some call }; line = l }) h

  -- ---- whatever happens at a terminal, from when the event has begun

  pub key_at : (octet : ℕ) (a : AtLine) → At a → At (port.after_key octet a)
  key_at octet a h =
      handles_at (port.key_input octet a).answer (key octet a.port.terminal.settings.params)
      (record a { port = record a.port { terminal = (port.key_input octet a).terminal; idle_left = None } }) h

  pub idle_at : (a : AtLine) → At a → At (port.after_idle a)
  idle_at a h =
      handles_at (port.idle_input a).answer (idle a.port.terminal.settings.params)
      (record a { port = record a.port { terminal = (port.idle_input a).terminal; idle_left = None } }) h

  pub breaks_at : (a : AtLine) → At a → At (port.after_break a)
  breaks_at a h =
      break_at (port.break_answer_of a)
      (record a { port = port.with_terminal (breaks.after_break (line.condition a.port.call a.line) a.port.terminal) a.port }) h

  pub print_at : (a : AtLine) → At a → At (port.after_print a)
  print_at a h = next_at a.port.call (port.taken_of a) (port.with_terminal (calls.without_text a.port.terminal) a.port) a.line h

  pub leaving_at : (a : AtLine) → At a → At (port.after_leaving a)
  leaving_at a h = clear_at a h

  pub port_at : (number : ℕ) (act : AtLine → AtLine) (p : PadState) → ((a : AtLine) → At a → At (act a)) → P p.line.end
      → P (pad.at_port number act p).line.end
  port_at number act p f h = by (slice_get p.ports number)
    where
      by : (o : Option PortState) → P (option_map_or (λ found. pad.acted number p (act (pad.with_line number found p))) o p).line.end
      by None = h
      by (Some found) = f (pad.with_line number found p) h

  -- ---- a call that came in is answered

  pub answered_at : (o : Option ℕ) (p : PadState) → P p.line.end → P (pad.answered o p).line.end
  answered_at None p h = h
  answered_at (Some channel) p h = by (pad.first_free p.ports)
    where
      by : (o : Option ℕ) → P (pad.answered_at o channel p).line.end
      by None = asks p.line.end channel (ask.Clearing 0 0) h
      by (Some number) = asks p.line.end channel ask.Accept h
