-- What is noted of what happens at a terminal is of its own call.
use Rattle.std.specs.Prelude.{◌≡◌, ℕ, Bool, true, false, List, [], ◌∷◌, ◌++◌, Option, Some, None}
use Rattle.std.proofs.Common.{inl, inr, refl, sym}
use Rattle.packet_laws.specs.Readable.{Every}
use Rattle.packet_channel.specs.Channel.{Refusal, Request as LayerRequest}
use Rattle.packet_layer.specs.Layer.{channel_given, call_refusal}
use Rattle.data_transfer.specs.Packets.{Datum}
use Rattle.data_transfer.specs.Traffic.{Taken}
use Rattle.data_transfer.specs.Traffic.Taken.{TakenInterrupt, TakenPacket}
use Rattle.pad_editing.specs.Edited.{Step, key, idle}
use Rattle.x28_commands.specs.declared.command.Selection.{Selection}
use Rattle.x29_messages.specs.MessageForm.{octets_of}
use Rattle.x29_messages.specs.declared.message.Message.{Message}
use Rattle.pad_terminal.specs.Breaks as breaks
use Rattle.pad_terminal.specs.Calls as calls
use Rattle.pad_terminal.specs.Messages as messages
use Rattle.pad_terminal.specs.declared.answers.BreakAnswer.{BreakAnswer}
use Rattle.pad_terminal.specs.declared.answers.BreakAnswer.TheVariants as break_answer
use Rattle.pad_terminal.specs.declared.answers.InputAnswer.{InputAnswer}
use Rattle.pad_terminal.specs.declared.answers.InputAnswer.TheVariants as input
use Rattle.pad_terminal.specs.declared.answers.Reply.{Reply}
use Rattle.pad_terminal.specs.declared.answers.Reply.TheVariants as reply
use Rattle.pad_terminal.specs.declared.answers.TerminalRequest.{TerminalRequest}
use Rattle.pad_terminal.specs.declared.answers.TerminalRequest.TheVariants as request
use Rattle.pad_ports.specs.PadLine as line
use Rattle.pad_ports.specs.Notes as notes
use Rattle.pad_ports.specs.Notes.{ChannelNote}
use Rattle.pad_ports.specs.Ports as port
use Rattle.pad_ports.specs.Ports.{PortState, AtLine}
use Rattle.pad_ports.specs.PadLine.{PadLine}
use Rattle.node_laws.specs.Pads.Noting.{IsOfCall, NotesOwnCall, OwnNotesLaw}

every_more : {A : Type 0} (P : A → Type 0) (xs : List A) (x : A) → Every P xs → P x → Every P (xs ++ x ∷ [])
every_more P [] x h k = (k, tt)
every_more P (y ∷ xs) x h k = (h.0, every_more P xs x h.1 k)

every_as : {A : Type 0} (P Q : A → Type 0) → ((x : A) → P x → Q x) → (xs : List A) → Every P xs → Every Q xs
every_as P Q f [] h = tt
every_as P Q f (x ∷ xs) h = (f x h.0, every_as P Q f xs h.1)

-- the notes so far are of the call that the terminal had before all, or of the one that it has now
module _ (before : Option ℕ) where
  abbrev OfCall : AtLine → Type 0
  OfCall a = Every (IsOfCall before a.port.call) a.line.notes

  -- and that is the one before
  abbrev OfOne : AtLine → Type 0
  OfOne a = Every (IsOfCall before before) a.line.notes

  unless_of : (after : Option ℕ) (o : Option Refusal) (ns : List ChannelNote) (note : ChannelNote) → Every (IsOfCall before after) ns → IsOfCall before after note
      → Every (IsOfCall before after) (ns ++ notes.unless_refused o note)
  unless_of after None ns note h k = every_more (IsOfCall before after) ns note h k
  unless_of after (Some refusal) [] note h k = tt
  unless_of after (Some refusal) (n ∷ ns) note h k = (h.0, unless_of after (Some refusal) ns note h.1 k)

  any_after : (after : Option ℕ) (ns : List ChannelNote) → Every (IsOfCall before before) ns → Every (IsOfCall before after) ns
  any_after after ns h = every_as (IsOfCall before before) (IsOfCall before after) (λ n k. one n k) ns h
    where
      one : (n : ChannelNote) → IsOfCall before before n → IsOfCall before after n
      one n (inl e) = inl e
      one n (inr e) = inl e

  -- a message to the call that the terminal has now
  tells_of : (m : Option Message) (a : AtLine) → OfCall a → OfCall (port.tells m a)
  tells_of None a h = h
  tells_of (Some m) a h = by a.port.call refl
    where
      by : (o : Option ℕ) → a.port.call ≡ o → OfCall (port.on_call (port.sends (octets_of m) true) o a)
      by None e = h
      by (Some call) e = unless_of a.port.call _ a.line.notes (notes.Sent call (line.datum (octets_of m) true)) h (inr e)

  placed_of : (o : Option ℕ) (refusal : Option Refusal) (s : Selection) (a : AtLine) → OfOne a
      → Every (IsOfCall before (port.placed_on o refusal a.port).call) (a.line.notes ++ line.placed_note o s.address)
  placed_of (Some channel) refusal s a h =
      every_more (IsOfCall before (Some channel)) a.line.notes (notes.Placed channel s.address) (any_after (Some channel) a.line.notes h) (inr refl)
  placed_of None refusal s a h =
      nothing (IsOfCall before (port.placed_on None refusal a.port).call) a.line.notes (any_after (port.placed_on None refusal a.port).call a.line.notes h)
    where
      nothing : (P : ChannelNote → Type 0) (ns : List ChannelNote) → Every P ns → Every P (ns ++ [])
      nothing P [] k = tt
      nothing P (n ∷ ns) k = (k.0, nothing P ns k.1)

  -- what the terminal asks of the call that it has
  does_of : (r : Option TerminalRequest) (a : AtLine) → a.port.call ≡ before → OfOne a → OfCall (port.does_asked r a)
  does_of None a e h = any_after a.port.call a.line.notes h
  does_of (Some (request.Call s)) a e h =
      placed_of (channel_given a.line.end.layer a.line.end.layer.phase) (call_refusal a.line.end.layer a.line.end.layer.phase) s a h
  does_of (Some request.Clear) a e h = by a.port.call e
    where
      by : (o : Option ℕ) → o ≡ before → OfCall (port.on_call port.clears o a)
      by None k = any_after a.port.call a.line.notes h
      by (Some call) k = unless_of None _ a.line.notes (notes.Cleared call) (any_after None a.line.notes h) (inl (sym k))
  does_of (Some request.Interrupt) a e h = by a.port.call e
    where
      by : (o : Option ℕ) → o ≡ before → OfCall (port.on_call port.interrupts o a)
      by None k = any_after a.port.call a.line.notes h
      by (Some call) k =
          unless_of a.port.call _ a.line.notes (notes.Interrupted call (line.interrupt_octet ∷ [])) (any_after a.port.call a.line.notes h) (inl (sym k))
  does_of (Some request.Reset) a e h = by a.port.call e
    where
      by : (o : Option ℕ) → o ≡ before → OfCall (port.on_call port.resets o a)
      by None k = any_after a.port.call a.line.notes h
      by (Some call) k = unless_of a.port.call _ a.line.notes (notes.WasReset call) (any_after a.port.call a.line.notes h) (inl (sym k))

  -- a step of editing, and its block
  edits_of : (step : Step) (block : Option (List ℕ)) (o : Option ℕ) (a : AtLine) → o ≡ before → OfOne a → OfCall (port.on_call (port.edits step block) o a)
  edits_of step block None a e h = any_after a.port.call a.line.notes h
  edits_of step None (Some call) a e h =
      every_more (IsOfCall before a.port.call) a.line.notes (notes.Edited call step) (any_after a.port.call a.line.notes h) (inl (sym e))
  edits_of step (Some block) (Some call) a e h =
      unless_of a.port.call _ (a.line.notes ++ notes.Edited call step ∷ []) (notes.Sent call (line.datum block false))
      (every_more (IsOfCall before a.port.call) a.line.notes (notes.Edited call step) (any_after a.port.call a.line.notes h) (inl (sym e)))
      (inl (sym e))

  handles_of : (answer : InputAnswer) (step : Step) (a : AtLine) → a.port.call ≡ before → OfOne a → OfCall (port.handles answer step a)
  handles_of input.Dropped step a e h = any_after a.port.call a.line.notes h
  handles_of (input.Edited block) step a e h = edits_of step block a.port.call a e h
  handles_of (input.Taken asked) step a e h = does_of asked a e h

  answers_of : (answer : BreakAnswer) (a : AtLine) → a.port.call ≡ before → OfOne a → OfCall (port.answers_break answer a)
  answers_of break_answer.Dropped a e h = any_after a.port.call a.line.notes h
  answers_of (break_answer.Taken requests) a e h = tells_of requests.indication (port.does_asked requests.request a) (does_of requests.request a e h)

  replies_of : (r : Reply) (a : AtLine) → a.port.call ≡ before → OfOne a → OfCall (port.replies r a)
  replies_of reply.Nothing a e h = any_after a.port.call a.line.notes h
  replies_of (reply.Message m) a e h = tells_of (Some m) a (any_after a.port.call a.line.notes h)
  replies_of reply.Clear a e h = does_of (Some request.Clear) a e h

  datum_of : (d : Datum) (q : Bool) (a : AtLine) → a.port.call ≡ before → OfOne a → OfCall (port.after_datum d q a)
  datum_of d true a e h =
      let answered = messages.after_octets d.octets a.port.terminal in
      replies_of answered.reply (record a { port = port.with_terminal answered.terminal a.port }) e h
  datum_of d false a e h = any_after a.port.call a.line.notes h

  taking_of : (taken : Taken) (call : ℕ) (a : AtLine) → a.port.call ≡ before → before ≡ Some call → OfOne a
      → OfCall (port.after_taking taken call (port.takes taken call a))
  taking_of (TakenInterrupt octets) call a e k h =
      any_after a.port.call _ (every_more (IsOfCall before before) a.line.notes (notes.Took call (TakenInterrupt octets)) h (inl k))
  taking_of (TakenPacket d) call a e k h =
      datum_of d d.qualified (port.releases (LayerRequest.Releasing 1) call (port.takes (TakenPacket d) call a)) e
      (every_more (IsOfCall before before) a.line.notes (notes.Took call (TakenPacket d)) h (inl k))

  next_of : (taken : Option Taken) (o : Option ℕ) (p : PortState) (l : PadLine) → o ≡ before → Every (IsOfCall before before) l.notes
      → OfCall (port.after_taken taken (port.with_taken taken (record { port = record p { call = o }; line = l })))
  next_of None o p l e h = any_after o l.notes h
  next_of (Some taken) None p l e h = any_after None l.notes h
  next_of (Some taken) (Some call) p l e h =
      taking_of taken call (record { port = record p { call = Some call }; line = l }) e (sym e) h

none_yet : (P : ChannelNote → Type 0) (ns : List ChannelNote) → ns ≡ [] → Every P ns
none_yet P [] e = tt
none_yet P (n ∷ ns) e = absurd (cc)

key_notes : (octet : ℕ) → NotesOwnCall (port.after_key octet)
key_notes octet a none =
    handles_of a.port.call (port.key_input octet a).answer (key octet a.port.terminal.settings.params)
    (record a { port = record a.port { terminal = (port.key_input octet a).terminal; idle_left = None } }) refl
    (none_yet (IsOfCall a.port.call a.port.call) a.line.notes none)

idle_notes : NotesOwnCall port.after_idle
idle_notes a none =
    handles_of a.port.call (port.idle_input a).answer (idle a.port.terminal.settings.params)
    (record a { port = record a.port { terminal = (port.idle_input a).terminal; idle_left = None } }) refl
    (none_yet (IsOfCall a.port.call a.port.call) a.line.notes none)

break_notes : NotesOwnCall port.after_break
break_notes a none =
    answers_of a.port.call (port.break_answer_of a)
    (record a { port = port.with_terminal (breaks.after_break (line.condition a.port.call a.line) a.port.terminal) a.port }) refl
    (none_yet (IsOfCall a.port.call a.port.call) a.line.notes none)

print_notes : NotesOwnCall port.after_print
print_notes a none =
    next_of a.port.call (port.taken_of a) a.port.call (port.with_terminal (calls.without_text a.port.terminal) a.port) a.line refl
    (none_yet (IsOfCall a.port.call a.port.call) a.line.notes none)

leaving_notes : NotesOwnCall port.after_leaving
leaving_notes a none = by a.port.call
  where
    by : (o : Option ℕ) → Every (IsOfCall o None) (port.on_call port.clears o a).line.notes
    by None = none_yet (IsOfCall None None) a.line.notes none
    by (Some call) = unless_of (Some call) None _ a.line.notes (notes.Cleared call) (none_yet (IsOfCall (Some call) None) a.line.notes none) (inl refl)

arrival_notes : NotesOwnCall port.after_arrival
arrival_notes a none = none_yet (IsOfCall a.port.call a.port.call) a.line.notes none

pub own_notes : OwnNotesLaw
own_notes = record {
  keys = key_notes;
  breaks = break_notes;
  idle_times = idle_notes;
  prints = print_notes;
  leavings = leaving_notes;
  arrivals = arrival_notes;
}
