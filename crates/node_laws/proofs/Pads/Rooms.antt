-- How much room the notes of an event of a PAD need.
use Rattle.std.specs.Prelude.{◌≡◌, ℕ, ◌-◌, ◌≤◌, Bool, true, false, not, ◌&&◌, if◌then◌else◌, List, [], ◌∷◌, ◌++◌, slice_get, Option, Some, None}
use Rattle.std.specs.Option.{option_map_or}
use Rattle.std.proofs.Common.{refl, sym, ap, subst, ◌∙◌, arith}
use Rattle.std.proofs.lemmas.List.{append_assoc}
use Rattle.link_timers.specs.declared.timers.TimerId.{TimerId}
use Rattle.link_timers.specs.declared.timers.TimerId.TheVariants.{Idle}
use Rattle.pad_editing.specs.Edited.{Step, key, idle}
use Rattle.data_transfer.specs.Packets.{Datum, Note}
use Rattle.data_transfer.specs.Packets.Note.{Incoming, Connected, Closed, WasReset, InterruptConfirmed, Covered}
use Rattle.data_transfer.specs.Traffic.{Taken}
use Rattle.data_transfer.specs.Traffic.Taken.{TakenInterrupt, TakenPacket}
use Rattle.packet_channel.specs.Channel.{Refusal, Request as ask}
use Rattle.packet_layer.specs.Layer.{channel_given, request_refusal}
use Rattle.packet_end.specs.PacketEnd as end
use Rattle.packet_end.specs.PacketEnd.{PacketEnd, begun, received, after_timer, relinked, finished, runs_at}
use Rattle.call_records.specs.Room.{opening_notes}
use Rattle.node_laws.proofs.LineRecords.Opening.{finished_same, frame_opens, expiry_opens, relink_opens}
use Rattle.x3_params.specs.Settings.{acts_on_break}
use Rattle.x3_params.specs.declared.settings.BreakAction.TheVariants as action
use Rattle.x29_messages.specs.MessageForm.{octets_of}
use Rattle.x29_messages.specs.declared.message.Message.{Message}
use Rattle.pad_terminal.specs.Terminal.{is_connected}
use Rattle.pad_terminal.specs.Breaks as breaks
use Rattle.pad_terminal.specs.Messages as messages
use Rattle.pad_terminal.specs.declared.answers.BreakAnswer.TheVariants as break_answer
use Rattle.pad_terminal.specs.declared.answers.CallCondition.{CallCondition}
use Rattle.pad_terminal.specs.declared.answers.InputAnswer.{InputAnswer}
use Rattle.pad_terminal.specs.declared.answers.InputAnswer.TheVariants as input
use Rattle.pad_terminal.specs.declared.answers.Reply.{Reply}
use Rattle.pad_terminal.specs.declared.answers.Reply.TheVariants as reply
use Rattle.pad_terminal.specs.declared.answers.TerminalRequest.{TerminalRequest}
use Rattle.pad_terminal.specs.declared.answers.TerminalRequest.TheVariants as request
use Rattle.user_nodes.specs.PadRoom.{HaveRoom}
use Rattle.pad_ports.specs.Notes.{ChannelNote, all_told, unless_refused}
use Rattle.pad_ports.specs.Notes as notes
use Rattle.pad_ports.specs.PadLine as line
use Rattle.pad_ports.specs.PadLine.{last_incoming}
use Rattle.pad_ports.specs.Ports as port
use Rattle.pad_ports.specs.Ports.{PortState, AtLine}
use Rattle.x25_pad.specs.Pad as pad
use Rattle.x25_pad.specs.Pad.{PadState}
use Rattle.node_laws.specs.Pads.Rooms.{NeedsTwoAtMost, KeyRoom, BreakRoom, PrintRoom, LeavingRoom, ArrivalRoom, IdleRoom, FrameRoom, RelinkRoom, TimerRoom}

-- ---- lists of notes

-- notes that the layer tells and that open nothing, before others
have_none : (ns : List Note) (rest : List ChannelNote) (room pairs : ℕ) → opening_notes ns ≡ 0 → HaveRoom rest room pairs → HaveRoom (all_told ns ++ rest) room pairs
have_none [] rest room pairs none h = h
have_none (Incoming channel parts ∷ ns) rest room pairs none h = absurd (omega (arith, none))
have_none (WasReset channel cause diagnostic reason ∷ ns) rest room pairs none h = absurd (omega (arith, none))
have_none (Connected channel ∷ ns) rest room pairs none h = ((λ t. absurd (cc)), have_none ns rest room pairs none h)
have_none (Closed channel cause diagnostic reason ∷ ns) rest room pairs none h = ((λ t. absurd (cc)), have_none ns rest room pairs none h)
have_none (InterruptConfirmed channel ∷ ns) rest room pairs none h = ((λ t. absurd (cc)), have_none ns rest room pairs none h)
have_none (Covered channel count ∷ ns) rest room pairs none h = ((λ t. absurd (cc)), have_none ns rest room pairs none h)

-- and ones that open one thing at most
have_one : (ns : List Note) (rest : List ChannelNote) (room pairs : ℕ) → opening_notes ns ≤ 1 → 1 ≤ room → ((left : ℕ) → HaveRoom rest left pairs) → HaveRoom (all_told ns ++ rest) room pairs
have_one [] rest room pairs one some h = h room
have_one (Incoming channel parts ∷ ns) rest room pairs one some h = ((λ t. some), have_none ns rest 0 pairs (omega (arith, one)) (h 0))
have_one (WasReset channel cause diagnostic reason ∷ ns) rest room pairs one some h = ((λ t. some), have_none ns rest 0 pairs (omega (arith, one)) (h 0))
have_one (Connected channel ∷ ns) rest room pairs one some h = ((λ t. absurd (cc)), have_one ns rest room pairs one some h)
have_one (Closed channel cause diagnostic reason ∷ ns) rest room pairs one some h = ((λ t. absurd (cc)), have_one ns rest room pairs one some h)
have_one (InterruptConfirmed channel ∷ ns) rest room pairs one some h = ((λ t. absurd (cc)), have_one ns rest room pairs one some h)
have_one (Covered channel count ∷ ns) rest room pairs one some h = ((λ t. absurd (cc)), have_one ns rest room pairs one some h)

told_none : (ns : List Note) (room pairs : ℕ) → opening_notes ns ≡ 0 → HaveRoom (all_told ns) room pairs
told_none [] room pairs none = tt
told_none (Incoming channel parts ∷ ns) room pairs none = absurd (omega (arith, none))
told_none (WasReset channel cause diagnostic reason ∷ ns) room pairs none = absurd (omega (arith, none))
told_none (Connected channel ∷ ns) room pairs none = ((λ t. absurd (cc)), told_none ns room pairs none)
told_none (Closed channel cause diagnostic reason ∷ ns) room pairs none = ((λ t. absurd (cc)), told_none ns room pairs none)
told_none (InterruptConfirmed channel ∷ ns) room pairs none = ((λ t. absurd (cc)), told_none ns room pairs none)
told_none (Covered channel count ∷ ns) room pairs none = ((λ t. absurd (cc)), told_none ns room pairs none)

-- ---- what happens at a terminal: at most two notes, and behind them what the end of the event tells

-- behind these notes there is room for any that need none
abbrev Fits : List ChannelNote → Type 0
Fits ns = (rest : List ChannelNote) (room pairs : ℕ) → 2 ≤ room → ((left others : ℕ) → HaveRoom rest left others) → HaveRoom (ns ++ rest) room pairs

-- so it is at a port, and nothing that the packet layer told is unread
abbrev FitsAt : AtLine → Type 0
FitsAt a = Fits a.line.notes × (a.line.end.notes ≡ [])

-- the port and the line when nothing is noted yet
abbrev bare : (terminal : Option ℕ) → PortState → PacketEnd → AtLine
bare t q e = record { port = q; line = record { end = e; notes = []; noted_at = []; terminal = t } }

fits_none : Fits []
fits_none rest room pairs two h = h room pairs

-- a note of what was asked, if it was not refused
fits_sent : (o : Option Refusal) (channel : ℕ) (d : Datum) → Fits (unless_refused o (notes.Sent channel d))
fits_sent None channel d rest room pairs two h = (omega (arith, two), h (room - 1) pairs)
fits_sent (Some r) channel d rest room pairs two h = h room pairs

fits_cleared : (o : Option Refusal) (channel : ℕ) → Fits (unless_refused o (notes.Cleared channel))
fits_cleared None channel rest room pairs two h = (tt, h room pairs)
fits_cleared (Some r) channel rest room pairs two h = h room pairs

fits_reset : (o : Option Refusal) (channel : ℕ) → Fits (unless_refused o (notes.WasReset channel))
fits_reset None channel rest room pairs two h = (omega (arith, two), h 0 pairs)
fits_reset (Some r) channel rest room pairs two h = h room pairs

fits_interrupted : (o : Option Refusal) (channel : ℕ) (octets : List ℕ) → Fits (unless_refused o (notes.Interrupted channel octets))
fits_interrupted None channel octets rest room pairs two h = (omega (arith, two), h (room - 1) pairs)
fits_interrupted (Some r) channel octets rest room pairs two h = h room pairs

fits_placed : (o : Option ℕ) (address : List ℕ) → Fits (line.placed_note o address)
fits_placed None address rest room pairs two h = h room pairs
fits_placed (Some channel) address rest room pairs two h = (omega (arith, two), h 0 pairs)

-- and behind one that takes one place
sent_then : (o : Option Refusal) (channel : ℕ) (d : Datum) (rest : List ChannelNote) (room pairs : ℕ) → 1 ≤ room → ((left others : ℕ) → HaveRoom rest left others) → HaveRoom (unless_refused o (notes.Sent channel d) ++ rest) room pairs
sent_then None channel d rest room pairs one h = (one, h (room - 1) pairs)
sent_then (Some r) channel d rest room pairs one h = h room pairs

cleared_then : (o : Option Refusal) (channel : ℕ) (rest : List ChannelNote) (room pairs : ℕ) → ((left others : ℕ) → HaveRoom rest left others) → HaveRoom (unless_refused o (notes.Cleared channel) ++ rest) room pairs
cleared_then None channel rest room pairs h = (tt, h room pairs)
cleared_then (Some r) channel rest room pairs h = h room pairs

fits_edited : (channel : ℕ) (step : Step) (o : Option Refusal) (d : Datum) → Fits (notes.Edited channel step ∷ unless_refused o (notes.Sent channel d))
fits_edited channel step o d rest room pairs two h = (omega (arith, two), sent_then o channel d rest (room - 1) pairs (omega (arith, two)) h)

fits_interrupt_told : (o r : Option Refusal) (channel on : ℕ) (octets : List ℕ) (d : Datum)
    → Fits (unless_refused o (notes.Interrupted channel octets) ++ unless_refused r (notes.Sent on d))
fits_interrupt_told None r channel on octets d rest room pairs two h = (omega (arith, two), sent_then r on d rest (room - 1) pairs (omega (arith, two)) h)
fits_interrupt_told (Some x) r channel on octets d rest room pairs two h = fits_sent r on d rest room pairs two h

fits_took : (channel : ℕ) (taken : Taken) → Fits (notes.Took channel taken ∷ [])
fits_took channel taken rest room pairs two h = (omega (arith, two), h (room - 1) pairs)

fits_took_sent : (channel : ℕ) (taken : Taken) (o : Option Refusal) (on : ℕ) (d : Datum) → Fits (notes.Took channel taken ∷ unless_refused o (notes.Sent on d))
fits_took_sent channel taken o on d rest room pairs two h = (omega (arith, two), sent_then o on d rest (room - 1) pairs (omega (arith, two)) h)

fits_took_cleared : (channel : ℕ) (taken : Taken) (o : Option Refusal) (on : ℕ) → Fits (notes.Took channel taken ∷ unless_refused o (notes.Cleared on))
fits_took_cleared channel taken o on rest room pairs two h = (omega (arith, two), cleared_then o on rest (room - 1) pairs h)

-- ---- what a terminal asks

module _ (t : Option ℕ) (q : PortState) (e : PacketEnd) (told : e.notes ≡ []) where
  on_call_fits : (act : ℕ → AtLine → AtLine) (o : Option ℕ) → ((call : ℕ) → FitsAt (act call (bare t q e))) → FitsAt (port.on_call act o (bare t q e))
  on_call_fits act None f = (fits_none, told)
  on_call_fits act (Some call) f = f call

  does_fits : (r : TerminalRequest) → FitsAt (port.does r (bare t q e))
  does_fits (request.Call s) = (fits_placed (channel_given e.layer e.layer.phase) s.address, told)
  does_fits request.Clear =
      on_call_fits port.clears q.call (λ call. (fits_cleared (request_refusal e.layer call (ask.Clearing 0 0)) call, told))
  does_fits request.Interrupt =
      on_call_fits port.interrupts q.call
      (λ call. (fits_interrupted (request_refusal e.layer call (ask.Interrupting (line.interrupt_octet ∷ []))) call (line.interrupt_octet ∷ []), told))
  does_fits request.Reset =
      on_call_fits port.resets q.call (λ call. (fits_reset (request_refusal e.layer call (ask.Resetting 0 0)) call, told))

  asked_fits : (o : Option TerminalRequest) → FitsAt (port.does_asked o (bare t q e))
  asked_fits None = (fits_none, told)
  asked_fits (Some r) = does_fits r

  tells_fits : (o : Option Message) → FitsAt (port.tells o (bare t q e))
  tells_fits None = (fits_none, told)
  tells_fits (Some m) =
      on_call_fits (port.sends (octets_of m) true) q.call
      (λ call. (fits_sent (request_refusal e.layer call (ask.Sending (line.datum (octets_of m) true))) call (line.datum (octets_of m) true), told))

  -- ---- a key, and the end of an idle time

  block_fits : (step : Step) (block : Option (List ℕ)) (call : ℕ) → FitsAt (port.edits step block call (bare t q e))
  block_fits step None call = ((λ rest room pairs two h. (omega (arith, two), h (room - 1) pairs)), told)
  block_fits step (Some text) call =
      (fits_edited call step (request_refusal e.layer call (ask.Sending (line.datum text false))) (line.datum text false), told)

  handles_fits : (answer : InputAnswer) (step : Step) → FitsAt (port.handles answer step (bare t q e))
  handles_fits input.Dropped step = (fits_none, told)
  handles_fits (input.Edited block) step = on_call_fits (port.edits step block) q.call (λ call. block_fits step block call)
  handles_fits (input.Taken o) step = asked_fits o

-- ---- a break

-- an interrupt, and then an indication of break; where the call is reset there is none
module _ (t : Option ℕ) (q : PortState) (e : PacketEnd) (told : e.notes ≡ []) (m : Message) where
  interrupt_told : (o : Option ℕ) → FitsAt (port.tells (Some m) (port.on_call port.interrupts o (bare t (record q { call = o }) e)))
  interrupt_told None = (fits_none, told)
  interrupt_told (Some call) = (
    fits_interrupt_told (request_refusal e.layer call (ask.Interrupting (line.interrupt_octet ∷ [])))
        (request_refusal (end.asked e call (ask.Interrupting (line.interrupt_octet ∷ []))).layer call (ask.Sending (line.datum (octets_of m) true)))
        call call (line.interrupt_octet ∷ []) (line.datum (octets_of m) true),
    told,
  )

  break_fits : (resets pending interrupts indicates : Bool)
      → FitsAt (port.answers_break (break_answer.Taken (record {
        request = if resets then (if pending then None else Some request.Reset) else if interrupts then Some request.Interrupt else None;
        indication = if indicates && not resets then Some m else None;
      })) (bare t q e))
  break_fits true true interrupts true = (fits_none, told)
  break_fits true true interrupts false = (fits_none, told)
  break_fits true false interrupts true = does_fits t q e told request.Reset
  break_fits true false interrupts false = does_fits t q e told request.Reset
  break_fits false pending true true = interrupt_told q.call
  break_fits false pending true false = does_fits t q e told request.Interrupt
  break_fits false pending false true = tells_fits t q e told (Some m)
  break_fits false pending false false = (fits_none, told)

answers_fit : (t : Option ℕ) (q : PortState) (e : PacketEnd) → e.notes ≡ [] → (dropped connected : Bool) (params : List ℕ) (call : CallCondition)
    → FitsAt (port.answers_break (if dropped then break_answer.Dropped else if connected
    then break_answer.Taken (record { request = breaks.request_of params call; indication = breaks.indication_of params })
    else break_answer.Taken (record { request = None; indication = None })) (bare t q e))
answers_fit t q e told true connected params call = (fits_none, told)
answers_fit t q e told false true params call =
    break_fits t q e told (Rattle.x29_messages.specs.declared.message.Message.TheVariants.IndicationOfBreak (record { items = breaks.discard_pairs params }))
    (acts_on_break params action.Reset) call.reset_pending (acts_on_break params action.Interrupt && call.may_interrupt) (acts_on_break params action.Indication)
answers_fit t q e told false false params call = (fits_none, told)

-- ---- what is shown

module _ (t : Option ℕ) (q : PortState) (e : PacketEnd) (told : e.notes ≡ []) (channel : ℕ) (taken : Taken) where
  abbrev took : PortState → PacketEnd → AtLine
  took p f = record { port = p; line = record { end = f; notes = notes.Took channel taken ∷ []; noted_at = t ∷ []; terminal = t } }

  reply_sent : (m : Message) (o : Option ℕ) (p : PortState) (f : PacketEnd) → f.notes ≡ [] → FitsAt (port.on_call (port.sends (octets_of m) true) o (took p f))
  reply_sent m None p f is = (fits_took channel taken, is)
  reply_sent m (Some call) p f is =
      (fits_took_sent channel taken (request_refusal f.layer call (ask.Sending (line.datum (octets_of m) true))) call (line.datum (octets_of m) true), is)

  reply_cleared : (o : Option ℕ) (p : PortState) (f : PacketEnd) → f.notes ≡ [] → FitsAt (port.on_call port.clears o (took p f))
  reply_cleared None p f is = (fits_took channel taken, is)
  reply_cleared (Some call) p f is = (fits_took_cleared channel taken (request_refusal f.layer call (ask.Clearing 0 0)) call, is)

  replies_fit : (answer : Reply) (p : PortState) (f : PacketEnd) → f.notes ≡ [] → FitsAt (port.replies answer (took p f))
  replies_fit reply.Nothing p f is = (fits_took channel taken, is)
  replies_fit (reply.Message m) p f is = reply_sent m p.call p f is
  replies_fit reply.Clear p f is = reply_cleared p.call p f is

  datum_fits : (d : Datum) (qualified : Bool) (p : PortState) (f : PacketEnd) → f.notes ≡ [] → FitsAt (port.after_datum d qualified (took p f))
  datum_fits d true p f is =
      let answered = messages.after_octets d.octets p.terminal in
      replies_fit answered.reply (port.with_terminal answered.terminal p) f is
  datum_fits d false p f is = (fits_took channel taken, is)

taking_fits : (taken : Taken) (call : ℕ) (t : Option ℕ) (q : PortState) (e : PacketEnd) → e.notes ≡ [] → FitsAt (port.after_taking taken call (port.takes taken call (bare t q e)))
taking_fits (TakenInterrupt octets) call t q e told = (fits_took call (TakenInterrupt octets), told)
taking_fits (TakenPacket d) call t q e told =
    datum_fits t q e told call (TakenPacket d) d d.qualified q (end.asked (end.asked e call ask.Taking) call (ask.Releasing 1)) told

next_fits : (o : Option ℕ) (taken : Option Taken) (t : Option ℕ) (q : PortState) (e : PacketEnd) → e.notes ≡ []
    → FitsAt (port.after_taken taken (port.with_taken taken (bare t (record q { call = o }) e)))
next_fits o None t q e told = (fits_none, told)
next_fits None (Some taken) t q e told = (fits_none, told)
next_fits (Some call) (Some taken) t q e told = taking_fits taken call t (record q { call = Some call }) e told

-- ---- an event at a terminal

ended_room : (p : PadState) → Fits p.line.notes → p.line.end.notes ≡ [] → NeedsTwoAtMost (pad.ended p)
ended_room p fits told room pairs two one =
    fits (all_told (finished p.line.end).notes) room pairs two
    (λ left others. told_none (finished p.line.end).notes left others (finished_same p.line.end ∙ ap opening_notes told))

terminal_room : (number : ℕ) (act : AtLine → AtLine) (p : PadState) → ((t : Option ℕ) (q : PortState) (e : PacketEnd) → e.notes ≡ [] → FitsAt (act (bare t q e))) → NeedsTwoAtMost (pad.terminal_event number act p)
terminal_room number act p f = by (slice_get p.ports number)
  where
    started : PadState
    started = pad.begun p

    by : (o : Option PortState) → NeedsTwoAtMost (pad.ended (option_map_or (λ found. pad.acted number started (act (pad.with_line number found started))) o started))
    by None = ended_room started fits_none refl
    by (Some found) =
        let g = f (Some number) found (begun p.line.end) refl in
        ended_room (pad.acted number started (act (pad.with_line number found started))) g.0 g.1

pub key_room : KeyRoom
key_room p number octet = terminal_room number (port.after_key octet) p
    (λ t q e told. handles_fits t (record q { terminal = (port.key_input octet (bare t q e)).terminal; idle_left = None }) e told (port.key_input octet (bare t q e)).answer (key octet q.terminal.settings.params))

pub break_room : BreakRoom
break_room p number = terminal_room number port.after_break p
    (λ t q e told. answers_fit t (port.with_terminal (breaks.after_break (line.condition q.call (bare t q e).line) q.terminal) q) e told
    (breaks.is_dropped (line.condition q.call (bare t q e).line) q.terminal) (is_connected q.terminal.mode) q.terminal.settings.params (line.condition q.call (bare t q e).line))

pub print_room : PrintRoom
print_room p number = terminal_room number port.after_print p
    (λ t q e told. next_fits q.call (port.taken_of (bare t q e)) t (port.with_terminal (Rattle.pad_terminal.specs.Calls.without_text q.terminal) q) e told)

pub leaving_room : LeavingRoom
leaving_room p number = terminal_room number port.after_leaving p (λ t q e told. does_fits t q e told request.Clear)

pub arrival_room : ArrivalRoom
arrival_room p number = terminal_room number port.after_arrival p (λ t q e told. (fits_none, told))

paused_room : (p : PadState) (number : ℕ) → NeedsTwoAtMost (pad.terminal_event number port.after_idle p)
paused_room p number = terminal_room number port.after_idle p
    (λ t q e told. handles_fits t (record q { terminal = (port.idle_input (bare t q e)).terminal; idle_left = None }) e told (port.idle_input (bare t q e)).answer (idle q.terminal.settings.params))

nothing_room : (p : PadState) → p.line.notes ≡ [] → NeedsTwoAtMost p
nothing_room p none room pairs two one = subst (λ (ns : List ChannelNote). HaveRoom ns room pairs) (sym none) tt

pub idle_room : IdleRoom
idle_room p number none = by (pad.runs_idle_timer number p)
  where
    by : (v : Bool) → NeedsTwoAtMost (if v then pad.terminal_event number port.after_idle p else p)
    by true = paused_room p number
    by false = nothing_room p none

-- ---- an event of the line

accepted_then : (o : Option Refusal) (channel : ℕ) (rest : List ChannelNote) (room pairs : ℕ) → 1 ≤ pairs → ((left others : ℕ) → HaveRoom rest left others) → HaveRoom (unless_refused o (notes.Accepted channel) ++ rest) room pairs
accepted_then None channel rest room pairs one h = (omega (arith, one), h (room - 1) (pairs - 1))
accepted_then (Some r) channel rest room pairs one h = h room pairs

-- what the packet layer told, what is answered, and what the end of the event tells
line_room : (p : PadState) → p.line.notes ≡ [] → opening_notes p.line.end.notes ≤ 1 → NeedsTwoAtMost (pad.line_event p)
line_room p none opens = by (last_incoming None p.line.end.notes)
  where
    told : PadState
    told = pad.told p

    first : all_told p.line.end.notes ≡ told.line.notes
    first = ap (λ (ns : List ChannelNote). ns ++ all_told p.line.end.notes) (sym none)

    late_room : (x : PadState) → x.line.end.notes ≡ [] → (left others : ℕ) → HaveRoom (all_told (finished x.line.end).notes) left others
    late_room x is left others = told_none (finished x.line.end).notes left others (finished_same x.line.end ∙ ap opening_notes is)

    behind : (answer late : List ChannelNote) (room pairs : ℕ) → 1 ≤ room → ((left : ℕ) → HaveRoom (answer ++ late) left pairs) → HaveRoom ((told.line.notes ++ answer) ++ late) room pairs
    behind answer late room pairs some h =
        let P : List ChannelNote → Type 0 = λ ns. HaveRoom ns room pairs in
        subst P (sym (append_assoc told.line.notes answer late))
        (subst (λ (ns : List ChannelNote). HaveRoom (ns ++ (answer ++ late)) room pairs) first (have_one p.line.end.notes (answer ++ late) room pairs opens some h))

    answered_room : (free : Option ℕ) (channel : ℕ) → NeedsTwoAtMost (pad.ended (pad.answered_at free channel told))
    answered_room None channel room pairs two one =
        let x : PadState = pad.answered_at None channel told in
        behind (unless_refused (request_refusal told.line.end.layer channel (ask.Clearing 0 0)) (notes.Cleared channel)) (all_told (finished x.line.end).notes) room pairs (omega (arith, two))
        (λ left. cleared_then (request_refusal told.line.end.layer channel (ask.Clearing 0 0)) channel (all_told (finished x.line.end).notes) left pairs (late_room x refl))
    answered_room (Some number) channel room pairs two one =
        let x : PadState = pad.answered_at (Some number) channel told in
        behind (unless_refused (request_refusal told.line.end.layer channel ask.Accept) (notes.Accepted channel)) (all_told (finished x.line.end).notes) room pairs (omega (arith, two))
        (λ left. accepted_then (request_refusal told.line.end.layer channel ask.Accept) channel (all_told (finished x.line.end).notes) left pairs one (late_room x refl))

    by : (incoming : Option ℕ) → NeedsTwoAtMost (pad.ended (pad.answered incoming told))
    by None room pairs two one =
        subst (λ (ns : List ChannelNote). HaveRoom (ns ++ all_told (finished told.line.end).notes) room pairs) first
        (have_one p.line.end.notes (all_told (finished told.line.end).notes) room pairs opens (omega (arith, two)) (λ left. late_room told refl left pairs))
    by (Some channel) room pairs two one = answered_room (pad.first_free told.ports) channel room pairs two one

pub frame_room : FrameRoom
frame_room p octets = line_room (pad.with_end (received (begun p.line.end) octets) (pad.begun p)) refl (frame_opens p.line.end octets).0

none_most : (n : ℕ) → n ≡ 0 → n ≤ 1
none_most n h = omega (arith, h)

pub relink_room : RelinkRoom
relink_room p = line_room (pad.with_end (relinked (begun p.line.end)) (pad.begun p)) refl (none_most _ (relink_opens p.line.end).0)

expiry_room : (p : PadState) (id : TimerId) → p.line.notes ≡ [] → p.line.end.layer.notes ≡ [] → NeedsTwoAtMost (pad.after_expiry p id)
expiry_room p id none read = by (runs_at p.line.end id)
  where
    by : (v : Bool) → NeedsTwoAtMost (if v then pad.line_event (pad.with_end (after_timer (begun p.line.end) id) (pad.begun p)) else p)
    by true = line_room (pad.with_end (after_timer (begun p.line.end) id) (pad.begun p)) refl (none_most _ (expiry_opens p.line.end id read).0)
    by false = nothing_room p none

pub timer_room : TimerRoom
timer_room p (Idle number) none read = idle_room p number none
timer_room p id none read = expiry_room p id none read
