-- The events of a PAD keep what holds of it and of the book: what was typed was sent, and what the PAD said of itself is what it had occasion to say.
use Rattle.std.specs.Prelude.{◌≡◌, ℕ, zero, suc, Bool, true, false, ◌&&◌, if◌then◌else◌, List, [], ◌∷◌, ◌++◌, slice_get, Option, Some, None}
use Rattle.std.specs.Option.{option_map_or}
use Rattle.std.proofs.Common.{inl, inr, refl, sym, ap, subst, ◌∙◌, append-nil, append_assoc}
use Rattle.std.proofs.lemmas.Bool.{eqb-true}
use Rattle.std.proofs.lemmas.Option.{none-some, same_Some}
use Rattle.link_timers.specs.declared.role.Role.{Role}
use Rattle.link_timers.specs.declared.timers.TimerId.{TimerId}
use Rattle.link_timers.specs.declared.timers.TimerId.TheVariants.{Idle}
use Rattle.pad_editing.specs.Edited.{Step, key, idle}
use Rattle.data_transfer.specs.Packets.{Note, Datum}
use Rattle.data_transfer.specs.Traffic.{Taken}
use Rattle.data_transfer.specs.Traffic.Taken.{TakenInterrupt, TakenPacket}
use Rattle.packet_channel.specs.Channel.{Refusal}
use Rattle.packet_channel.specs.Channel.Request.{Releasing}
use Rattle.packet_layer.specs.Layer.{channel_given}
use Rattle.packet_end.specs.PacketEnd as end
use Rattle.packet_end.specs.PacketEnd.{received, after_timer, relinked, finished, runs_at}
use Rattle.packet_laws.specs.Readable.{Every}
use Rattle.call_records.specs.Records.{RecordValue, new_record}
use Rattle.call_records.specs.Book.{Book, side_of, slot_at, made_book, new_book, standing_book}
use Rattle.call_records.specs.Writes.{all_written}
use Rattle.x29_messages.specs.MessageForm.{octets_of}
use Rattle.x3_params.specs.Settings.{acts_on_break}
use Rattle.x3_params.specs.declared.settings.BreakAction.TheVariants as action
use Rattle.x29_messages.specs.declared.message.Message.{Message}
use Rattle.x29_messages.specs.declared.message.Message.TheVariants.{IndicationOfBreak}
use Rattle.pad_terminal.specs.Terminal.{TerminalState, is_connected}
use Rattle.pad_terminal.specs.Messages as messages
use Rattle.pad_terminal.specs.Breaks as breaks
use Rattle.pad_terminal.specs.Calls as calls
use Rattle.pad_terminal.specs.declared.answers.BreakAnswer.{BreakAnswer}
use Rattle.pad_terminal.specs.declared.answers.BreakAnswer.TheVariants as break_answer
use Rattle.pad_terminal.specs.declared.answers.CallCondition.{CallCondition}
use Rattle.pad_terminal.specs.declared.answers.InputAnswer.{InputAnswer}
use Rattle.pad_terminal.specs.declared.answers.InputAnswer.TheVariants as input
use Rattle.pad_terminal.specs.declared.answers.Reply.{Reply}
use Rattle.pad_terminal.specs.declared.answers.Reply.TheVariants as reply
use Rattle.pad_terminal.specs.declared.answers.TerminalRequest.{TerminalRequest}
use Rattle.pad_terminal.specs.declared.answers.TerminalRequest.TheVariants as request
use Rattle.user_nodes.specs.PadWriting.{without_notes}
use Rattle.pad_ports.specs.Notes as notes
use Rattle.pad_ports.specs.Notes.{ChannelNote, unless_refused}
use Rattle.pad_ports.specs.PadLine as line
use Rattle.pad_ports.specs.PadLine.{condition, datum}
use Rattle.pad_ports.specs.Ports as port
use Rattle.pad_ports.specs.Ports.{PortState, AtLine}
use Rattle.pad_ports.specs.PadLine.{PadLine}
use Rattle.x25_pad.specs.Pad as pad
use Rattle.x25_pad.specs.Pad.{PadState, acted, at_port}
use Rattle.x25_pad.specs.Making.{made, IsConfig}
use Rattle.x25_pad.specs.declared.config.PadConfig.{PadConfig}
use Rattle.node_laws.specs.Pads.Occasions.{Occasion, TookMessage, HadBreak, HadCommand, messages_taken, answer_in, asks_indication, told_at, all_told, all_interrupts}
use Rattle.node_laws.specs.Pads.Sending.{qualified_messages, IsOfPad, OfPadLaw, HasSaid}
use Rattle.record_laws.specs.Words.{HasTyped}
use Rattle.node_laws.specs.Pads.Holds.{TextOf, PadTypes, HaveSaid}
use Rattle.node_laws.specs.Pads.Standing.{drained}
use Rattle.node_laws.specs.Pads.RecordClauses.{SentLaw, MadeHolds, KeyHolds, BreakHolds, PrintHolds, LeavingHolds, ArrivalHolds, FrameHolds, RelinkHolds, TimerHolds, RestartHolds, TimeHolds, DrainedHolds, FarHolds}
use Rattle.node_laws.specs.Pads.Happening.{PadEvent, HasKey, HasBreak, HasIdleTime, HasPrinting, HasLeaving, HasArrival, HasFrame, HasExpiry, HasRelink, HasRestart, HasTicks, after_event, by_key, by_break, by_printing, occasions_of, meets, at_terminal, is_record, grown, writes_after, OccasionLaw}
use Rattle.node_laws.specs.Pads.Courses.{Happening, Here, There, Course, happened, beginning, IsCourse, begins, goes_on, CourseLaw, IsSeenAs, IsRecordOf, HasSentIn, PadHolds}
use Rattle.node_laws.proofs.Pads.Asking.{noted, noted_append}
use Rattle.node_laws.proofs.Pads.Begins.{made_types}
use Rattle.node_laws.proofs.Pads.PadBooks.{key_types, break_types, print_types, leaving_types, arrival_types, frame_types, relink_types, timer_types, idle_types, restart_types, time_types, drained_types, far_types}
use Rattle.node_laws.proofs.Pads.Modes.{ReplyFollows, octets_follow}
use Rattle.node_laws.proofs.Pads.QualifiedPackets.{Octets, all_append, message_in, told_in, interrupt_in, all_in, IsKind, messages_kind, told_kind, told_octets}
use Rattle.node_laws.proofs.Pads.Interrupting.{interrupts_kind}
use Rattle.node_laws.proofs.Pads.Saying.{event_messages, event_told, event_interrupts, messages_append, octets_append, interrupts_append}
use Rattle.node_laws.proofs.Pads.Spoken.{IsPlain, edited_plain, reset_plain, sent_plain, interrupted_plain, took_plain, AreRaw, test_of, plain_list, plain_none, IsMuteNote, mute_list, all_closed_said, far_said}

-- ---- the notes of an event: those of which a record alone changes, and then those that say nothing

module _ (role : Role) where
  record Splits (ns : List ChannelNote) : Type 0 where
    plain : List ChannelNote
    mute : List ChannelNote
    are_plain : Every (λ note. IsPlain role note) plain
    are_mute : Every IsMuteNote mute
    is : ns ≡ plain ++ mute

  every_more : {A : Type 0} (P : A → Type 0) (xs ys : List A) → Every P xs → Every P ys → Every P (xs ++ ys)
  every_more P [] ys h k = k
  every_more P (x ∷ xs) ys h k = (h.0, every_more P xs ys h.1 k)

  -- of plain notes alone
  abbrev ArePlain : List ChannelNote → Type 0
  ArePlain ns = Every (λ note. IsPlain role note) ns

  plain_splits : (ns : List ChannelNote) → ArePlain ns → Splits ns
  plain_splits ns h = record { plain = ns; mute = []; are_plain = h; are_mute = tt; is = sym (append-nil ns) }

  mute_splits : (ns ms : List ChannelNote) → ArePlain ns → Every IsMuteNote ms → Splits (ns ++ ms)
  mute_splits ns ms h m = record { plain = ns; mute = ms; are_plain = h; are_mute = m; is = refl }

  splits_more : (ns ms : List ChannelNote) → Splits ns → Every IsMuteNote ms → Splits (ns ++ ms)
  splits_more ns ms s m = record {
    plain = s.plain;
    mute = s.mute ++ ms;
    are_plain = s.are_plain;
    are_mute = every_more IsMuteNote s.mute ms s.are_mute m;
    is = ap (λ (l : List ChannelNote). l ++ ms) s.is ∙ append_assoc s.plain s.mute ms;
  }

  one_plain : (ns : List ChannelNote) (note : ChannelNote) → IsPlain role note → ArePlain ns → ArePlain (ns ++ note ∷ [])
  one_plain ns note p h = every_more (λ note. IsPlain role note) ns (note ∷ []) h (p, tt)

  plain_unless : (ns : List ChannelNote) (o : Option Refusal) (note : ChannelNote) → IsPlain role note → ArePlain ns → ArePlain (ns ++ unless_refused o note)
  plain_unless ns None note p h = one_plain ns note p h
  plain_unless ns (Some r) note p h = subst ArePlain (sym (append-nil ns)) h

  mute_unless : (ns : List ChannelNote) (o : Option Refusal) (note : ChannelNote) → IsMuteNote note → ArePlain ns → Splits (ns ++ unless_refused o note)
  mute_unless ns None note m h = mute_splits ns (note ∷ []) h (m, tt)
  mute_unless ns (Some r) note m h = mute_splits ns [] h tt

  told_mute : (ns : List Note) → Every IsMuteNote (notes.all_told ns)
  told_mute [] = tt
  told_mute (n ∷ ns) = (tt, told_mute ns)

  -- ---- what happens at a terminal

  abbrev PlainAt : AtLine → Type 0
  PlainAt a = ArePlain a.line.notes

  abbrev SplitsAt : AtLine → Type 0
  SplitsAt a = Splits a.line.notes

  resets_plain : (o : Option ℕ) (a : AtLine) → PlainAt a → PlainAt (port.on_call port.resets o a)
  resets_plain None a h = h
  resets_plain (Some call) a h = plain_unless a.line.notes _ (notes.WasReset call) (reset_plain role call) h

  interrupts_plain : (o : Option ℕ) (a : AtLine) → PlainAt a → PlainAt (port.on_call port.interrupts o a)
  interrupts_plain None a h = h
  interrupts_plain (Some call) a h =
      plain_unless a.line.notes _ (notes.Interrupted call (line.interrupt_octet ∷ [])) (interrupted_plain role call (line.interrupt_octet ∷ [])) h

  sends_plain : (octets : List ℕ) (q : Bool) (o : Option ℕ) (a : AtLine) → PlainAt a → PlainAt (port.on_call (port.sends octets q) o a)
  sends_plain octets q None a h = h
  sends_plain octets q (Some call) a h = plain_unless a.line.notes _ (notes.Sent call (datum octets q)) (sent_plain role call octets q) h

  tells_plain : (o : Option Message) (a : AtLine) → PlainAt a → PlainAt (port.tells o a)
  tells_plain None a h = h
  tells_plain (Some m) a h = sends_plain (octets_of m) true a.port.call a h

  clears_split : (o : Option ℕ) (a : AtLine) → PlainAt a → SplitsAt (port.on_call port.clears o a)
  clears_split None a h = plain_splits a.line.notes h
  clears_split (Some call) a h = mute_unless a.line.notes _ (notes.Cleared call) tt h

  placed_split : (ns : List ChannelNote) (o : Option ℕ) (address : List ℕ) → ArePlain ns → Splits (ns ++ line.placed_note o address)
  placed_split ns None address h = mute_splits ns [] h tt
  placed_split ns (Some channel) address h = mute_splits ns (notes.Placed channel address ∷ []) h (tt, tt)

  does_split : (o : Option TerminalRequest) (a : AtLine) → PlainAt a → SplitsAt (port.does_asked o a)
  does_split None a h = plain_splits a.line.notes h
  does_split (Some (request.Call s)) a h = placed_split a.line.notes (channel_given a.line.end.layer a.line.end.layer.phase) s.address h
  does_split (Some request.Clear) a h = clears_split a.port.call a h
  does_split (Some request.Interrupt) a h = plain_splits _ (interrupts_plain a.port.call a h)
  does_split (Some request.Reset) a h = plain_splits _ (resets_plain a.port.call a h)

  block_plain : (block : Option (List ℕ)) (call : ℕ) (a : AtLine) → PlainAt a → PlainAt (port.block_sent block call a)
  block_plain None call a h = h
  block_plain (Some block) call a h = plain_unless a.line.notes _ (notes.Sent call (datum block false)) (sent_plain role call block false) h

  edits_plain : (step : Step) (block : Option (List ℕ)) (o : Option ℕ) (a : AtLine) → PlainAt a → PlainAt (port.on_call (port.edits step block) o a)
  edits_plain step block None a h = h
  edits_plain step block (Some call) a h =
      block_plain block call (record a { line = line.noting (notes.Edited call step ∷ []) a.line })
      (one_plain a.line.notes (notes.Edited call step) (edited_plain role call step) h)

  handles_split : (answer : InputAnswer) (step : Step) (a : AtLine) → PlainAt a → SplitsAt (port.handles answer step a)
  handles_split input.Dropped step a h = plain_splits a.line.notes h
  handles_split (input.Edited block) step a h = plain_splits _ (edits_plain step block a.port.call a h)
  handles_split (input.Taken asked) step a h = does_split asked a h

  nothing_plain : (ns : List ChannelNote) → ns ≡ [] → ArePlain ns
  nothing_plain ns e = subst ArePlain (sym e) tt

  key_splits : (octet : ℕ) (a : AtLine) → a.line.notes ≡ [] → SplitsAt (port.after_key octet a)
  key_splits octet a e =
      handles_split (port.key_input octet a).answer (key octet a.port.terminal.settings.params)
      (record a { port = record a.port { terminal = (port.key_input octet a).terminal; idle_left = None } }) (nothing_plain a.line.notes e)

  -- a break asks for no other request
  abbrev PlainRequest : Option TerminalRequest → Type 0
  PlainRequest None = Unit {0}
  PlainRequest (Some request.Interrupt) = Unit {0}
  PlainRequest (Some request.Reset) = Unit {0}
  PlainRequest _ = ⊥

  abbrev PlainAnswer : BreakAnswer → Type 0
  PlainAnswer break_answer.Dropped = Unit {0}
  PlainAnswer (break_answer.Taken requests) = PlainRequest requests.request

  either : {A : Type 0} (P : A → Type 0) (v : Bool) (x y : A) → P x → P y → P (if v then x else y)
  either P true x y f g = f
  either P false x y f g = g

  does_plain : (o : Option TerminalRequest) → PlainRequest o → (a : AtLine) → PlainAt a → PlainAt (port.does_asked o a)
  does_plain None p a h = h
  does_plain (Some (request.Call s)) p a h = absurd p
  does_plain (Some request.Clear) p a h = absurd p
  does_plain (Some request.Interrupt) p a h = interrupts_plain a.port.call a h
  does_plain (Some request.Reset) p a h = resets_plain a.port.call a h

  answers_plain : (answer : BreakAnswer) → PlainAnswer answer → (a : AtLine) → PlainAt a → PlainAt (port.answers_break answer a)
  answers_plain break_answer.Dropped p a h = h
  answers_plain (break_answer.Taken requests) p a h = tells_plain requests.indication (port.does_asked requests.request a) (does_plain requests.request p a h)

  request_plain : (params : List ℕ) (call : CallCondition) → PlainRequest (breaks.request_of params call)
  request_plain params call =
      either PlainRequest (acts_on_break params action.Reset) (if call.reset_pending then None else Some request.Reset)
      (if acts_on_break params action.Interrupt && call.may_interrupt then Some request.Interrupt else None)
      (either PlainRequest call.reset_pending None (Some request.Reset) tt tt)
      (either PlainRequest (acts_on_break params action.Interrupt && call.may_interrupt) (Some request.Interrupt) None tt tt)

  answer_plain : (call : CallCondition) (t : TerminalState) → PlainAnswer (breaks.answer_of call t)
  answer_plain call t =
      let taken : BreakAnswer = break_answer.Taken (record { request = breaks.request_of t.settings.params call; indication = breaks.indication_of t.settings.params }) in
      let nothing : BreakAnswer = break_answer.Taken (record { request = None; indication = None }) in
      either PlainAnswer (breaks.is_dropped call t) break_answer.Dropped (if is_connected t.mode then taken else nothing) tt
      (either PlainAnswer (is_connected t.mode) taken nothing (request_plain t.settings.params call) tt)

  break_splits : (a : AtLine) → a.line.notes ≡ [] → SplitsAt (port.after_break a)
  break_splits a e =
      plain_splits _ (answers_plain (port.break_answer_of a) (answer_plain (condition a.port.call a.line) a.port.terminal)
      (record a { port = port.with_terminal (breaks.after_break (condition a.port.call a.line) a.port.terminal) a.port }) (nothing_plain a.line.notes e))

  replies_split : (r : Reply) (a : AtLine) → PlainAt a → SplitsAt (port.replies r a)
  replies_split reply.Nothing a h = plain_splits a.line.notes h
  replies_split (reply.Message m) a h = plain_splits _ (tells_plain (Some m) a h)
  replies_split reply.Clear a h = clears_split a.port.call a h

  datum_split : (d : Datum) (q : Bool) (a : AtLine) → PlainAt a → SplitsAt (port.after_datum d q a)
  datum_split d true a h =
      let answered = messages.after_octets d.octets a.port.terminal in
      replies_split answered.reply (record a { port = port.with_terminal answered.terminal a.port }) h
  datum_split d false a h = plain_splits a.line.notes h

  taking_split : (taken : Taken) (call : ℕ) (a : AtLine) → PlainAt a → SplitsAt (port.after_taking taken call (port.takes taken call a))
  taking_split (TakenInterrupt octets) call a h =
      plain_splits _ (one_plain a.line.notes (notes.Took call (TakenInterrupt octets)) (took_plain role call (TakenInterrupt octets)) h)
  taking_split (TakenPacket d) call a h =
      datum_split d d.qualified (port.releases (Releasing 1) call (port.takes (TakenPacket d) call a))
      (one_plain a.line.notes (notes.Took call (TakenPacket d)) (took_plain role call (TakenPacket d)) h)

  next_split : (o : Option ℕ) (taken : Option Taken) (p : PortState) (l : PadLine) → ArePlain l.notes
      → SplitsAt (port.after_taken taken (port.with_taken taken (record { port = record p { call = o }; line = l })))
  next_split o None p l h = plain_splits l.notes h
  next_split None (Some taken) p l h = plain_splits l.notes h
  next_split (Some call) (Some taken) p l h = taking_split taken call (record { port = record p { call = Some call }; line = l }) h

  print_splits : (a : AtLine) → a.line.notes ≡ [] → SplitsAt (port.after_print a)
  print_splits a e = next_split a.port.call (port.taken_of a) (port.with_terminal (calls.without_text a.port.terminal) a.port) a.line (nothing_plain a.line.notes e)

  -- ---- events

  terminal_splits : (number : ℕ) (act : AtLine → AtLine) → ((a : AtLine) → a.line.notes ≡ [] → SplitsAt (act a)) → (p : PadState) → Splits (pad.terminal_event number act p).line.notes
  terminal_splits number act f p =
      splits_more (at_port number act (pad.begun p)).line.notes _ (by (slice_get p.ports number)) (told_mute (finished (at_port number act (pad.begun p)).line.end).notes)
    where
      by : (o : Option PortState) → Splits (option_map_or (λ found. acted number (pad.begun p) (act (pad.with_line number found (pad.begun p)))) o (pad.begun p)).line.notes
      by None = plain_splits [] tt
      by (Some q) = f (pad.with_line number q (pad.begun p)) refl

  answered_splits : (o : Option ℕ) (p : PadState) → Splits p.line.notes → Splits (pad.answered o p).line.notes
  answered_splits None p s = s
  answered_splits (Some channel) p s = by (pad.first_free p.ports)
    where
      more : (o : Option Refusal) (note : ChannelNote) → IsMuteNote note → Splits (p.line.notes ++ unless_refused o note)
      more None note m = splits_more p.line.notes (note ∷ []) s (m, tt)
      more (Some r) note m = splits_more p.line.notes [] s tt

      by : (o : Option ℕ) → Splits (pad.answered_at o channel p).line.notes
      by None = more _ (notes.Cleared channel) tt
      by (Some number) = more _ (notes.Accepted channel) tt

  line_splits : (p : PadState) → p.line.notes ≡ [] → Splits (pad.line_event p).line.notes
  line_splits p e =
      let q : PadState = pad.answered (line.last_incoming None p.line.end.notes) (pad.told p) in
      splits_more q.line.notes _
      (answered_splits (line.last_incoming None p.line.end.notes) (pad.told p)
      (splits_more p.line.notes _ (plain_splits p.line.notes (nothing_plain p.line.notes e)) (told_mute p.line.end.notes)))
      (told_mute (finished q.line.end).notes)

  idle_splits : (number : ℕ) (p : PadState) → p.line.notes ≡ [] → Splits (pad.after_idle number p).line.notes
  idle_splits number p e = by (pad.runs_idle_timer number p)
    where
      by : (v : Bool) → Splits (if v then pad.terminal_event number port.after_idle p else p).line.notes
      by true =
          terminal_splits number port.after_idle (λ a none. handles_split (port.idle_input a).answer (idle a.port.terminal.settings.params)
          (record a { port = record a.port { terminal = (port.idle_input a).terminal; idle_left = None } }) (nothing_plain a.line.notes none)) p
      by false = plain_splits p.line.notes (nothing_plain p.line.notes e)

  expiry_splits : (id : TimerId) (p : PadState) → p.line.notes ≡ [] → Splits (pad.after_expiry p id).line.notes
  expiry_splits id p e = by (runs_at p.line.end id)
    where
      by : (v : Bool) → Splits (if v then pad.line_event (pad.with_end (after_timer (pad.begun p).line.end id) (pad.begun p)) else p).line.notes
      by true = line_splits (pad.with_end (after_timer (pad.begun p).line.end id) (pad.begun p)) refl
      by false = plain_splits p.line.notes (nothing_plain p.line.notes e)

  timer_splits : (id : TimerId) (p : PadState) → p.line.notes ≡ [] → Splits (pad.after_timer p id).line.notes
  timer_splits (Idle number) p e = idle_splits number p e
  timer_splits id p e = expiry_splits id p e

  event_splits : (event : PadEvent) (p : PadState) → p.line.notes ≡ [] → Splits (after_event event p).line.notes
  event_splits (HasKey number octet) p e = terminal_splits number (port.after_key octet) (λ a none. key_splits octet a none) p
  event_splits (HasBreak number) p e = terminal_splits number port.after_break (λ a none. break_splits a none) p
  event_splits (HasPrinting number) p e = terminal_splits number port.after_print (λ a none. print_splits a none) p
  event_splits (HasLeaving number) p e =
      terminal_splits number port.after_leaving (λ a none. clears_split a.port.call a (nothing_plain a.line.notes none)) p
  event_splits (HasArrival number) p e =
      terminal_splits number port.after_arrival (λ a none. plain_splits a.line.notes (nothing_plain a.line.notes none)) p
  event_splits (HasIdleTime number) p e = idle_splits number p e
  event_splits (HasFrame octets) p e = line_splits (pad.with_end (received (pad.begun p).line.end octets) (pad.begun p)) refl
  event_splits (HasExpiry id) p e = timer_splits id p e
  event_splits HasRelink p e = line_splits (pad.with_end (relinked (pad.begun p).line.end) (pad.begun p)) refl
  event_splits HasRestart p e = plain_splits [] tt
  event_splits (HasTicks ticks) p e = plain_splits p.line.notes (nothing_plain p.line.notes e)

-- ---- occasions of a record

-- a record that is not there is that of no call
pub unheld : (role : Role) (p : PadState) (b : Book) → PadTypes role p b → (n : ℕ) → slice_get b.records n ≡ None → (channel : ℕ) → test_of n (side_of role b) channel ≡ false
unheld role p b h n e channel = by (slot_at role channel b).present refl
  where
    by : (o : Option ℕ) → (slot_at role channel b).present ≡ o → is_record n o ≡ false
    by None f = refl
    by (Some m) f = other (is_record n (Some m)) refl
      where
        other : (v : Bool) → is_record n (Some m) ≡ v → v ≡ false
        other true is =
            let there = h.book.own channel m f in
            absurd (none-some there.0 (sym e ∙ ap (λ (k : ℕ). slice_get b.records k) (sym (eqb-true m n is)) ∙ there.1))
        other false is = refl

none_at : (number : ℕ) (test : ℕ → Bool) (why : AtLine → List Occasion) (p : PadState) → ((channel : ℕ) → test channel ≡ false) → at_terminal number test why p ≡ []
none_at number test why p none = by (slice_get p.ports number)
  where
    met : (o : Option ℕ) (l : List Occasion) → (if meets test o then l else []) ≡ []
    met None l = refl
    met (Some call) l = ap (λ (v : Bool). if v then l else []) (none call)

    by : (o : Option PortState) → option_map_or (λ q. if meets test q.call then why (pad.with_line number q p) else []) o [] ≡ []
    by None = refl
    by (Some q) = met q.call (why (pad.with_line number q p))

no_occasion : (event : PadEvent) (p : PadState) (test : ℕ → Bool) → ((channel : ℕ) → test channel ≡ false) → occasions_of event p test ≡ []
no_occasion (HasKey number octet) p test none = none_at number test (by_key octet) (pad.begun p) none
no_occasion (HasBreak number) p test none = none_at number test by_break (pad.begun p) none
no_occasion (HasPrinting number) p test none = none_at number test by_printing (pad.begun p) none
no_occasion (HasLeaving number) p test none = refl
no_occasion (HasArrival number) p test none = refl
no_occasion (HasIdleTime number) p test none = refl
no_occasion (HasFrame octets) p test none = refl
no_occasion (HasExpiry id) p test none = refl
no_occasion HasRelink p test none = refl
no_occasion HasRestart p test none = refl
no_occasion (HasTicks ticks) p test none = refl

-- ---- an event at the PAD

-- of a kind nothing is in notes that say nothing
mute_none : (f : ChannelNote → Octets) → IsKind f → (ns : List ChannelNote) → Every IsMuteNote ns → all_in f ns ≡ []
mute_none f kind [] ms = refl
mute_none f kind (notes.Told note ∷ ns) ms = ap (λ (l : Octets). l ++ all_in f ns) (kind.told note) ∙ mute_none f kind ns ms.1
mute_none f kind (notes.Placed channel address ∷ ns) ms = ap (λ (l : Octets). l ++ all_in f ns) (kind.placed channel address) ∙ mute_none f kind ns ms.1
mute_none f kind (notes.Accepted channel ∷ ns) ms = ap (λ (l : Octets). l ++ all_in f ns) (kind.accepted channel) ∙ mute_none f kind ns ms.1
mute_none f kind (notes.Cleared channel ∷ ns) ms = ap (λ (l : Octets). l ++ all_in f ns) (kind.cleared channel) ∙ mute_none f kind ns ms.1
mute_none f kind (notes.WasReset channel ∷ ns) ms = absurd ms.0
mute_none f kind (notes.Edited channel step ∷ ns) ms = absurd ms.0
mute_none f kind (notes.Sent channel d ∷ ns) ms = absurd ms.0
mute_none f kind (notes.Interrupted channel octets ∷ ns) ms = absurd ms.0
mute_none f kind (notes.Took channel taken ∷ ns) ms = absurd ms.0

module _ (event : PadEvent) (role : Role) (p : PadState) (b : Book) (os : ℕ → List Occasion) (nothing : p.line.notes ≡ []) (types : PadTypes role p b) (said : HaveSaid os role b) where
  s : Splits role (after_event event p).line.notes
  s = event_splits role event p nothing

  abbrev test : ℕ → ℕ → Bool
  test n = test_of n (side_of role b)

  -- the plain notes have all of the kind
  of_plain : (f : ChannelNote → Octets) → IsKind f → all_in f s.plain ≡ all_in f (after_event event p).line.notes
  of_plain f kind =
      sym (append-nil (all_in f s.plain)) ∙ ap (λ (l : Octets). all_in f s.plain ++ l) (sym (mute_none f kind s.mute s.are_mute))
      ∙ sym (all_append f s.plain s.mute) ∙ ap (λ (l : List ChannelNote). all_in f l) (sym s.is)

  raw : AreRaw (λ n. messages_taken (os n)) (λ n. told_octets (os n)) (λ n. all_interrupts (os n)) role b
  raw n r e own = (let h = said.said n r e own in record { messages = h.messages; told = h.told; interrupts = h.interrupts })

  plain_said : HaveSaid (λ n. grown os event p role b n) role (noted role s.plain b)
  plain_said = record {
    said = λ n r e own.
        let h = plain_list role s.plain s.are_plain _ _ _ b raw n r e own in
        record {
          messages = h.messages
              ∙ ap (λ (l : Octets). messages_taken (os n) ++ l) (of_plain (message_in (test n)) (messages_kind (test n)) ∙ event_messages event p nothing (test n))
              ∙ sym (messages_append (os n) (occasions_of event p (test n)));
          told = h.told
              ∙ ap qualified_messages (ap (λ (l : Octets). told_octets (os n) ++ l) (of_plain (told_in (test n)) (told_kind (test n)) ∙ event_told event p nothing types.size (test n))
              ∙ sym (octets_append (os n) (occasions_of event p (test n))));
          interrupts = h.interrupts
              ∙ ap (λ (l : Octets). all_interrupts (os n) ++ l) (of_plain (interrupt_in (test n)) (interrupts_kind (test n)) ∙ event_interrupts event p nothing (test n))
              ∙ sym (interrupts_append (os n) (occasions_of event p (test n)));
        };
    none = λ n e.
        let before : slice_get b.records n ≡ None = plain_none role s.plain s.are_plain b n e in
        ap (λ (l : List Occasion). l ++ occasions_of event p (test n)) (said.none n before) ∙ no_occasion event p (test n) (λ channel. unheld role p b types n before channel);
  }

  noted_said : HaveSaid (λ n. grown os event p role b n) role (noted role (after_event event p).line.notes b)
  noted_said =
      subst (λ (z : Book). HaveSaid (λ n. grown os event p role b n) role z)
      (sym (ap (λ (l : List ChannelNote). noted role l b) s.is ∙ noted_append role s.plain s.mute b))
      (mute_list (λ n. grown os event p role b n) role s.mute s.are_mute (noted role s.plain b) plain_said)

-- no occasion more
nothing_more : (role : Role) (b : Book) (os : ℕ → List Occasion) → HaveSaid os role b → HaveSaid (λ n. os n ++ []) role b
nothing_more role b os h = record {
  said = λ n r e own. subst (λ (l : List Occasion). HasSaid l r) (sym (append-nil (os n))) (h.said n r e own);
  none = λ n e. append-nil (os n) ∙ h.none n e;
}

-- of a restart nothing is noted, and nothing is said
restart_said : (role : Role) (p : PadState) (b : Book) (os : ℕ → List Occasion) → HaveSaid os role b → HaveSaid (λ n. grown os HasRestart p role b n) role (all_written role (writes_after HasRestart p) b)
restart_said role p b os said = nothing_more role (all_written role (writes_after HasRestart p) b) os (all_closed_said os role role b said)

pub occasions_grow : OccasionLaw
occasions_grow HasRestart role p b os nothing types said = restart_said role p b os said
occasions_grow (HasKey number octet) role p b os nothing types said = noted_said (HasKey number octet) role p b os nothing types said
occasions_grow (HasBreak number) role p b os nothing types said = noted_said (HasBreak number) role p b os nothing types said
occasions_grow (HasIdleTime number) role p b os nothing types said = noted_said (HasIdleTime number) role p b os nothing types said
occasions_grow (HasPrinting number) role p b os nothing types said = noted_said (HasPrinting number) role p b os nothing types said
occasions_grow (HasLeaving number) role p b os nothing types said = noted_said (HasLeaving number) role p b os nothing types said
occasions_grow (HasArrival number) role p b os nothing types said = noted_said (HasArrival number) role p b os nothing types said
occasions_grow (HasFrame octets) role p b os nothing types said = noted_said (HasFrame octets) role p b os nothing types said
occasions_grow (HasExpiry id) role p b os nothing types said = noted_said (HasExpiry id) role p b os nothing types said
occasions_grow HasRelink role p b os nothing types said = noted_said HasRelink role p b os nothing types said
occasions_grow (HasTicks ticks) role p b os nothing types said = noted_said (HasTicks ticks) role p b os nothing types said

-- ---- what holds of the PAD and of the book

-- with its notes read
unread_types : (role : Role) (p : PadState) (b : Book) → PadTypes role p b → PadTypes role (without_notes p) b
unread_types role p b h = record { size = h.size; book = h.book; read = h.read; unread = h.unread; ports = h.ports; alone = h.alone; calls = h.calls }

sent_so : (role : Role) (p : PadState) (b : Book) (h : PadHolds role p b) (r : RecordValue) → IsRecordOf role b r → HasSentIn role (record { pad = drained p; book = b; occasions = h.occasions }) r
sent_so role p b h r o =
    let said = h.said.said o.number o.own o.there o.node in
    let sent : (z : RecordValue) → IsSeenAs o.own z → HasTyped z × HasSaid (h.occasions o.number) z = λ z same.
    subst (λ (x : RecordValue). HasTyped x × HasSaid (h.occasions o.number) x) (sym same)
    (h.typed.book.sent o.number o.own o.there o.node, record { messages = said.messages; told = said.told; interrupts = said.interrupts }) in
    record { of_pad = o; typed = (sent r o.same).0; said = (sent r o.same).1 }

pub sent_law : SentLaw
sent_law role p b h place records of = record {
  course = record { pad = drained p; book = b; occasions = h.occasions };
  led = h.led;
  pad = refl;
  sent = λ i r at node. sent_so role p b h r (of i r at node);
}

-- an event that restarts, whatever is left of the last one
begins_anew : (event : PadEvent) (role : Role) (p : PadState) (b : Book) (h : PadHolds role p b) → PadTypes role (after_event event (without_notes p)) (noted role (after_event event (without_notes p)).line.notes b)
    → IsCourse role (record { pad = drained (after_event event (without_notes p)); book = noted role (after_event event (without_notes p)).line.notes b; occasions = λ n. grown h.occasions event (without_notes p) role b n })
    → PadHolds role (after_event event (without_notes p)) (noted role (after_event event (without_notes p)).line.notes b)
begins_anew event role p b h types led = record {
  typed = types;
  occasions = λ n. grown h.occasions event (without_notes p) role b n;
  led = led;
  said = noted_said event role (without_notes p) b h.occasions refl (unread_types role p b h.typed) h.said;
}

pub key_kept : KeyHolds
key_kept role p number octet b h = begins_anew (HasKey number octet) role p b h (key_types role p number octet b h.typed) (goes_on h.led (Here (HasKey number octet)))

pub break_kept : BreakHolds
break_kept role p number b h = begins_anew (HasBreak number) role p b h (break_types role p number b h.typed) (goes_on h.led (Here (HasBreak number)))

pub print_kept : PrintHolds
print_kept role p number b h = begins_anew (HasPrinting number) role p b h (print_types role p number b h.typed) (goes_on h.led (Here (HasPrinting number)))

pub leaving_kept : LeavingHolds
leaving_kept role p number b h = begins_anew (HasLeaving number) role p b h (leaving_types role p number b h.typed) (goes_on h.led (Here (HasLeaving number)))

pub arrival_kept : ArrivalHolds
arrival_kept role p number b h = begins_anew (HasArrival number) role p b h (arrival_types role p number b h.typed) (goes_on h.led (Here (HasArrival number)))

pub frame_kept : FrameHolds
frame_kept role p octets b h = begins_anew (HasFrame octets) role p b h (frame_types role p octets b h.typed) (goes_on h.led (Here (HasFrame octets)))

pub relink_kept : RelinkHolds
relink_kept role p b h = begins_anew HasRelink role p b h (relink_types role p b h.typed) (goes_on h.led (Here HasRelink))

-- an expiry is the same where no frame waits
pub timer_drained : (p : PadState) (id : TimerId) → p.line.notes ≡ []
    → (drained (pad.after_timer (drained p) id) ≡ drained (pad.after_timer p id)) × ((pad.after_timer (drained p) id).line.notes ≡ (pad.after_timer p id).line.notes)
timer_drained p (Idle number) none = by (pad.runs_idle_timer number p)
  where
    by : (v : Bool) → let after : PadState → PadState = λ q. if v then pad.terminal_event number port.after_idle q else q in
        (drained (after (drained p)) ≡ drained (after p)) × ((after (drained p)).line.notes ≡ (after p).line.notes)
    by true = (refl, refl)
    by false = (refl, sym none)
timer_drained p id none = by (end.runs_at p.line.end id)
  where
    by : (v : Bool) → let after : PadState → PadState = λ q. if v then pad.line_event (pad.with_expiry q id) else q in
        (drained (after (drained p)) ≡ drained (after p)) × ((after (drained p)).line.notes ≡ (after p).line.notes)
    by true = (refl, refl)
    by false = (refl, sym none)

timer_led : (role : Role) (p : PadState) (id : TimerId) (b : Book) → p.line.notes ≡ [] → (h : PadHolds role p b)
    → IsCourse role (record { pad = drained (pad.after_timer p id); book = noted role (pad.after_timer p id).line.notes b; occasions = λ n. grown h.occasions (HasExpiry id) p role b n })
timer_led role p id b none h =
    let same = timer_drained p id none in
    let os : ℕ → List Occasion = λ n. grown h.occasions (HasExpiry id) p role b n in
    subst (λ (q : PadState). IsCourse role (record { pad = q; book = noted role (pad.after_timer p id).line.notes b; occasions = os })) same.0
    (subst (λ (ns : List ChannelNote). IsCourse role (record { pad = drained (pad.after_timer (drained p) id); book = noted role ns b; occasions = os })) same.1
    (goes_on h.led (Here (HasExpiry id))))

pub timer_kept : TimerHolds
timer_kept role p id b none h = record {
  typed = timer_types role p id b none h.typed;
  occasions = λ n. grown h.occasions (HasExpiry id) p role b n;
  led = timer_led role p id b none h;
  said = noted_said (HasExpiry id) role p b h.occasions none h.typed h.said;
}

pub restart_kept : RestartHolds
restart_kept role p b h = record {
  typed = restart_types role p b h.typed;
  occasions = λ n. grown h.occasions HasRestart p role b n;
  led = goes_on h.led (Here HasRestart);
  said = restart_said role p b h.occasions h.said;
}

pub time_kept : TimeHolds
time_kept role p ticks b h = record {
  typed = time_types role p ticks b h.typed;
  occasions = λ n. grown h.occasions (HasTicks ticks) p role b n;
  led = goes_on h.led (Here (HasTicks ticks));
  said = nothing_more role b h.occasions h.said;
}

pub drained_kept : DrainedHolds
drained_kept role p b h = record { typed = drained_types role p b h.typed; occasions = h.occasions; led = h.led; said = h.said }

pub far_kept : FarHolds
far_kept role p writes b h = record {
  typed = far_types role p writes b h.typed;
  occasions = h.occasions;
  led = goes_on h.led (There writes);
  said = far_said h.occasions role (TextOf p.ports) writes b h.typed.book h.said;
}

-- ---- the making

new_said : (role : Role) (dte_node dce_node channels : ℕ) (standing : Bool) → HaveSaid (λ n. []) role (made_book dte_node dce_node channels standing)
new_said role dte_node dce_node channels true = record { said = λ n r e own. said n r e; none = λ n e. refl }
  where
    said : (n : ℕ) (r : RecordValue) → slice_get (standing_book (new_book dte_node dce_node channels)).records n ≡ Some r → HasSaid [] r
    said zero r e = subst (λ (z : RecordValue). HasSaid [] z) (same_Some (new_record 0 dte_node None None None) r e) (record { messages = refl; told = refl; interrupts = refl })
    said (suc zero) r e = subst (λ (z : RecordValue). HasSaid [] z) (same_Some (new_record 1 dce_node None None (Some 0)) r e) (record { messages = refl; told = refl; interrupts = refl })
    said (suc (suc n)) r e = absurd (none-some r e)
new_said role dte_node dce_node channels false = record { said = λ n r e own. absurd (none-some r e); none = λ n e. refl }

pub made_kept : MadeHolds
made_kept role c dte_node dce_node channels differ config = record {
  typed = made_types role c dte_node dce_node channels differ config;
  occasions = λ n. [];
  led = begins c dte_node dce_node channels differ config;
  said = new_said role dte_node dce_node channels c.line.standing;
}

-- ---- every list of events

pub record Stands (role : Role) (s : Course) : Type 0 where
  pub nothing : s.pad.line.notes ≡ []
  pub types : PadTypes role s.pad s.book
  pub said : HaveSaid s.occasions role s.book

event_types : (event : PadEvent) (role : Role) (p : PadState) (b : Book) → p.line.notes ≡ [] → PadTypes role p b → PadTypes role (after_event event p) (all_written role (writes_after event p) b)
event_types (HasKey number octet) role p b none h = key_types role p number octet b h
event_types (HasBreak number) role p b none h = break_types role p number b h
event_types (HasPrinting number) role p b none h = print_types role p number b h
event_types (HasLeaving number) role p b none h = leaving_types role p number b h
event_types (HasArrival number) role p b none h = arrival_types role p number b h
event_types (HasIdleTime number) role p b none h = idle_types role p number b none h
event_types (HasFrame octets) role p b none h = frame_types role p octets b h
event_types (HasExpiry id) role p b none h = timer_types role p id b none h
event_types HasRelink role p b none h = relink_types role p b h
event_types HasRestart role p b none h = restart_types role p b h
event_types (HasTicks ticks) role p b none h =
    subst (λ (ns : List ChannelNote). PadTypes role (pad.elapsed ticks p) (noted role ns b)) (sym none) (time_types role p ticks b h)

pub stands_after : (role : Role) (h : Happening) (s : Course) → Stands role s → Stands role (happened role h s)
stands_after role (Here event) s h = record {
  nothing = refl;
  types = drained_types role (after_event event s.pad) (all_written role (writes_after event s.pad) s.book) (event_types event role s.pad s.book h.nothing h.types);
  said = occasions_grow event role s.pad s.book s.occasions h.nothing h.types h.said;
}
stands_after role (There writes) s h = record {
  nothing = h.nothing;
  types = far_types role s.pad writes s.book h.types;
  said = far_said s.occasions role (TextOf s.pad.ports) writes s.book h.types.book h.said;
}

pub stands_first : (role : Role) (c : PadConfig) (dte_node dce_node channels : ℕ) → (dte_node ≡ dce_node → ⊥) → IsConfig c → Stands role (beginning c dte_node dce_node channels)
stands_first role c dte_node dce_node channels differ config = record {
  nothing = refl;
  types = drained_types role (made c) (made_book dte_node dce_node channels c.line.standing) (made_types role c dte_node dce_node channels differ config);
  said = new_said role dte_node dce_node channels c.line.standing;
}

all_stand : (role : Role) (s : Course) → IsCourse role s → Stands role s
all_stand role _ (begins c dte_node dce_node channels differ config) = stands_first role c dte_node dce_node channels differ config
all_stand role _ (goes_on {s = s} led h) = stands_after role h s (all_stand role s led)

pub course_is : CourseLaw
course_is role s led n r e own = (let h = all_stand role s led in (h.types.book.sent n r e own, h.said.said n r e own))

-- ---- what a PAD tells

told_every : (o : Occasion) → Every IsOfPad (told_at o)
told_every (TookMessage octets t) = by (messages.after_octets octets t).reply (octets_follow octets t)
  where
    by : (r : Reply) → ReplyFollows r t (messages.after_octets octets t).terminal → Every IsOfPad (answer_in r)
    by reply.Nothing f = tt
    by (reply.Message m) f = (f.0, tt)
    by reply.Clear f = tt
told_every (HadBreak params pending) = by (asks_indication params) (acts_on_break params action.Discard)
  where
    by : (asks discards : Bool) → Every IsOfPad (if asks then IndicationOfBreak (record { items = if discards then (8, 1) ∷ [] else [] }) ∷ [] else [])
    by false discards = tt
    by true true = (inr refl, tt)
    by true false = (inl refl, tt)
told_every HadCommand = tt

pub told_of_pad : OfPadLaw
told_of_pad [] = tt
told_of_pad (o ∷ os) = every_append (told_at o) (all_told os) (told_every o) (told_of_pad os)
  where
    every_append : (xs ys : List Message) → Every IsOfPad xs → Every IsOfPad ys → Every IsOfPad (xs ++ ys)
    every_append [] ys h k = k
    every_append (x ∷ xs) ys h k = (h.0, every_append xs ys h.1 k)
