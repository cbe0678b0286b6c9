-- A call stays with its terminal: over an event a terminal has the channel that it had, or one on which a call began.
use Rattle.std.specs.Prelude.{◌≡◌, ℕ, ◌≤◌, ◌⊎◌, Bool, true, false, if◌then◌else◌, List, [], ◌∷◌, ◌++◌, length, map, slice_get, slice_set, Option, Some, None}
use Rattle.std.specs.Option.{option_map_or}
use Rattle.std.proofs.Common.{inl, inr, refl, sym, ap, subst, ◌∙◌, true≢false, arith}
use Rattle.std.proofs.lemmas.Bool.{cases_eq}
use Rattle.std.proofs.lemmas.Option.{none-some, same_Some}
use Rattle.link_timers.specs.declared.role.Role.{Role}
use Rattle.link_timers.specs.Role.{other_of}
use Rattle.link_timers.specs.declared.timers.TimerId.{TimerId}
use Rattle.link_timers.specs.declared.timers.TimerId.TheVariants.{Idle}
use Rattle.pad_editing.specs.Edited.{Step, key, idle}
use Rattle.data_transfer.specs.Packets.{Note, Datum}
use Rattle.data_transfer.specs.Packets.Note.{Incoming, Connected, Closed, WasReset, InterruptConfirmed, Covered}
use Rattle.data_transfer.specs.Traffic.{Taken}
use Rattle.data_transfer.specs.Traffic.Taken.{TakenInterrupt, TakenPacket}
use Rattle.packet_channel.specs.Channel.Request.{Releasing}
use Rattle.packet_layer.specs.Layer.{channel_given, call_refusal}
use Rattle.packet_end.specs.PacketEnd.{finished, runs_at}
use Rattle.record_laws.proofs.Books.Basics.{get_set, length_changed, length_pushed, map_at}
use Rattle.call_records.specs.Records.{RecordValue, new_record, with_step, with_sent, with_interrupt_sent, with_taken, with_interrupt_taken, with_released, with_covered, with_epoch, with_closed}
use Rattle.call_records.specs.Book.{Book, Side, Slot, side_of, nth_slot, slot_at, with_slot, with_change, changed, with_record, packet_of, address_of, calling_from, with_pair, closes, takes, told}
use Rattle.call_records.specs.Writes.{let_go, written_by, all_written}
use Rattle.x29_messages.specs.MessageForm.{octets_of}
use Rattle.x29_messages.specs.declared.message.Message.{Message}
use Rattle.pad_terminal.specs.Messages as messages
use Rattle.pad_terminal.specs.Breaks as breaks
use Rattle.pad_terminal.specs.Calls as calls
use Rattle.pad_terminal.specs.declared.answers.BreakAnswer.{BreakAnswer}
use Rattle.pad_terminal.specs.declared.answers.BreakAnswer.TheVariants as break_answer
use Rattle.pad_terminal.specs.declared.answers.InputAnswer.{InputAnswer}
use Rattle.pad_terminal.specs.declared.answers.InputAnswer.TheVariants as input
use Rattle.pad_terminal.specs.declared.answers.Reply.{Reply}
use Rattle.pad_terminal.specs.declared.answers.Reply.TheVariants as reply
use Rattle.pad_terminal.specs.declared.answers.TerminalRequest.{TerminalRequest}
use Rattle.pad_terminal.specs.declared.answers.TerminalRequest.TheVariants as request
use Rattle.pad_ports.specs.Notes as notes
use Rattle.pad_ports.specs.Notes.{ChannelNote}
use Rattle.pad_ports.specs.PadLine as line
use Rattle.pad_ports.specs.PadLine.{condition, learnt_of, all_learnt, last_incoming}
use Rattle.pad_ports.specs.Ports as port
use Rattle.pad_ports.specs.Ports.{PortState, AtLine, has_channel}
use Rattle.pad_ports.specs.PadLine.{PadLine}
use Rattle.x25_pad.specs.Pad as pad
use Rattle.x25_pad.specs.Pad.{PadState, acted, at_port, holder, first_free, all_heard}
use Rattle.user_nodes.specs.PadWriting.{write_of, parts_to}
use Rattle.node_laws.specs.Pads.Holds.{IsOn}
use Rattle.node_laws.specs.Pads.Happening.{PadEvent, HasKey, HasBreak, HasIdleTime, HasPrinting, HasLeaving, HasArrival, HasFrame, HasExpiry, HasRelink, HasRestart, HasTicks, after_event, writes_after}
use Rattle.node_laws.proofs.Pads.Asking.{noted}
use Rattle.node_laws.proofs.Pads.Books.{side_changed, slot_cases, slot_here, slot_records, side_record, side_pairs}
use Rattle.node_laws.proofs.Pads.Ports.{found_at, changed_port, connected_by, cleared_by, reset_by, changed_for, changed_on, heard_connected, heard_cleared, heard_reset, heard_none, heard_more}
use Rattle.node_laws.proofs.Pads.Steps.{Adds, tells_adds, ended_adds, answered_adds}
use Rattle.node_laws.proofs.Pads.Typing.{same_channel}

-- ---- notes of a call that begins

-- a call comes in or is placed on this channel
abbrev OpensOn : ℕ → ChannelNote → Type 0
OpensOn c (notes.Told (Incoming d parts)) = d ≡ c
OpensOn c (notes.Placed d address) = d ≡ c
OpensOn c _ = ⊥

abbrev Opened : ℕ → List ChannelNote → Type 0
Opened c [] = ⊥
Opened c (note ∷ ns) = OpensOn c note ⊎ Opened c ns

opened_before : (c : ℕ) (ns more : List ChannelNote) → Opened c ns → Opened c (ns ++ more)
opened_before c [] more h = absurd h
opened_before c (note ∷ ns) more (inl h) = inl h
opened_before c (note ∷ ns) more (inr h) = inr (opened_before c ns more h)

opened_behind : (c : ℕ) (ns more : List ChannelNote) → Opened c more → Opened c (ns ++ more)
opened_behind c [] more h = h
opened_behind c (note ∷ ns) more h = inr (opened_behind c ns more h)

opened_later : (c : ℕ) (ns ms : List ChannelNote) → Adds ns ms → Opened c ns → Opened c ms
opened_later c ns ms a h = subst (λ (l : List ChannelNote). Opened c l) (sym a.is) (opened_before c ns a.more h)

-- ---- what a terminal learns

abbrev WasOn : List PortState → (number channel : ℕ) → Type 0
WasOn ports j c = (p : PortState) × IsOn ports j c p

abbrev KeepsChannel : (d : ℕ) → (PortState → PortState) → Type 0
KeepsChannel d f = (p : PortState) (c : ℕ) → has_channel p.call d ≡ true → has_channel (f p).call c ≡ true → has_channel p.call c ≡ true

learnt_from : (d : ℕ) (f : PortState → PortState) → KeepsChannel d f → (ports : List PortState) (j c : ℕ) (q : PortState) → IsOn (changed_on d f ports) j c q → WasOn ports j c
learnt_from d f keeps ports j c q on = by (holder d ports) refl on
  where
    by : (o : Option ℕ) → holder d ports ≡ o → IsOn (changed_for o f ports) j c q → WasOn ports j c
    by None e h = (q, h)
    by (Some i) e h =
        let g = found_at (λ p. has_channel p.call d) ports i e in
        elim (changed_port ports i g.0 f j q g.1 h.0) [
          | inl m ↦ (g.0, (ap (λ (k : ℕ). slice_get ports k) m.0 ∙ g.1, keeps g.0 c g.2 (ap (λ (z : PortState). has_channel z.call c) (sym m.1) ∙ h.1)))
          | inr m ↦ (q, (m.1, h.1))
        ]

connected_keeps : (d : ℕ) → KeepsChannel d (connected_by d)
connected_keeps d p c on h = subst (λ (k : ℕ). has_channel p.call k ≡ true) (same_channel d c h) on

note_from : (note : Note) (ports : List PortState) (j c : ℕ) (q : PortState) → IsOn (all_heard (learnt_of note) ports) j c q → WasOn ports j c
note_from (Incoming d parts) ports j c q on = (q, subst (λ (ps : List PortState). IsOn ps j c q) (heard_none ports) on)
note_from (Connected d) ports j c q on =
    learnt_from d (connected_by d) (connected_keeps d) ports j c q (subst (λ (ps : List PortState). IsOn ps j c q) (heard_connected d ports) on)
note_from (Closed d cause diagnostic reason) ports j c q on =
    learnt_from d (cleared_by cause) (λ p c on h. absurd (true≢false (sym h))) ports j c q (subst (λ (ps : List PortState). IsOn ps j c q) (heard_cleared d cause diagnostic reason ports) on)
note_from (WasReset d cause diagnostic reason) ports j c q on =
    learnt_from d (reset_by cause) (λ p c on h. h) ports j c q (subst (λ (ps : List PortState). IsOn ps j c q) (heard_reset d cause diagnostic reason ports) on)
note_from (InterruptConfirmed d) ports j c q on = (q, subst (λ (ps : List PortState). IsOn ps j c q) (heard_none ports) on)
note_from (Covered d count) ports j c q on = (q, subst (λ (ps : List PortState). IsOn ps j c q) (heard_none ports) on)

heard_from : (ns : List Note) (ports : List PortState) (j c : ℕ) (q : PortState) → IsOn (all_heard (all_learnt ns) ports) j c q → WasOn ports j c
heard_from [] ports j c q on = (q, subst (λ (ps : List PortState). IsOn ps j c q) (heard_none ports) on)
heard_from (note ∷ ns) ports j c q on =
    let later = heard_from ns (all_heard (learnt_of note) ports) j c q (subst (λ (ps : List PortState). IsOn ps j c q) (heard_more note ns ports) on) in
    note_from note ports j c later.0 later.1

mapped_from : (f : PortState → PortState) → ((p : PortState) → (f p).call ≡ p.call) → (ports : List PortState) (j c : ℕ) (q : PortState) → IsOn (map f ports) j c q → WasOn ports j c
mapped_from f same ports j c q on =
    let m = map_at f ports j q on.0 in
    (m.0, (m.1, ap (λ (o : Option ℕ). has_channel o c) (sym (same m.0)) ∙ ap (λ (z : PortState). has_channel z.call c) m.2 ∙ on.1))

ended_from : (p : PadState) (j c : ℕ) (q : PortState) → IsOn (pad.ended p).ports j c q → WasOn p.ports j c
ended_from p j c q on =
    let ns : List Note = (finished p.line.end).notes in
    let l : PadLine = (pad.told (pad.with_end (finished p.line.end) p)).line in
    let m = mapped_from (port.settled l) (λ x. refl) (all_heard (all_learnt ns) p.ports) j c q on in
    heard_from ns p.ports j c m.0 m.1

-- ---- a call that comes in

later_opens : (before : Option ℕ) (c : ℕ) (ns : List ChannelNote) (note : ChannelNote) → (before ≡ Some c) ⊎ Opened c ns → (before ≡ Some c) ⊎ Opened c (note ∷ ns)
later_opens before c ns note (inl e) = inl e
later_opens before c ns note (inr h) = inr (inr h)

incoming_opens : (ns : List Note) (before : Option ℕ) (c : ℕ) → last_incoming before ns ≡ Some c → (before ≡ Some c) ⊎ Opened c (notes.all_told ns)
incoming_opens [] before c e = inl e
incoming_opens (Incoming d parts ∷ ns) before c e = elim (incoming_opens ns (Some d) c e) [
  | inl m ↦ inr (inl (same_Some d c m))
  | inr m ↦ inr (inr m)
]
incoming_opens (Connected d ∷ ns) before c e = later_opens before c (notes.all_told ns) (notes.Told (Connected d)) (incoming_opens ns before c e)
incoming_opens (Closed d cause diagnostic reason ∷ ns) before c e = later_opens before c (notes.all_told ns) (notes.Told (Closed d cause diagnostic reason)) (incoming_opens ns before c e)
incoming_opens (WasReset d cause diagnostic reason ∷ ns) before c e = later_opens before c (notes.all_told ns) (notes.Told (WasReset d cause diagnostic reason)) (incoming_opens ns before c e)
incoming_opens (InterruptConfirmed d ∷ ns) before c e = later_opens before c (notes.all_told ns) (notes.Told (InterruptConfirmed d)) (incoming_opens ns before c e)
incoming_opens (Covered d count ∷ ns) before c e = later_opens before c (notes.all_told ns) (notes.Told (Covered d count)) (incoming_opens ns before c e)

answered_from : (o : Option ℕ) (p : PadState) (j c : ℕ) (q : PortState) → IsOn (pad.answered o p).ports j c q → WasOn p.ports j c ⊎ (o ≡ Some c)
answered_from None p j c q on = inl (q, on)
answered_from (Some channel) p j c q on = by (first_free p.ports) on
  where
    connected : (number : ℕ) (o : Option PortState) → slice_get p.ports number ≡ o → IsOn (option_map_or (λ x. slice_set p.ports number (port.connects channel x)) o p.ports) j c q
        → WasOn p.ports j c ⊎ (Some channel ≡ Some c)
    connected number None at h = inl (q, h)
    connected number (Some x) at h = elim (get_set p.ports number (port.connects channel x) j q h.0) [
      | inl m ↦ inr (ap (λ (k : ℕ). Some k) (same_channel channel c (ap (λ (z : PortState). has_channel z.call c) (sym m.1) ∙ h.1)))
      | inr m ↦ inl (q, (m.1, h.1))
    ]

    by : (o : Option ℕ) → IsOn (pad.answered_at o channel p).ports j c q → WasOn p.ports j c ⊎ (Some channel ≡ Some c)
    by None h = inl (q, h)
    by (Some number) h = connected number (slice_get p.ports number) refl h

abbrev ComesFrom : (before after : PadState) → Type 0
ComesFrom p after = (j c : ℕ) (q : PortState) → IsOn after.ports j c q → WasOn p.ports j c ⊎ Opened c after.line.notes

line_from : (p : PadState) → ComesFrom p (pad.line_event p)
line_from p j c q on =
    let o : Option ℕ = last_incoming None p.line.end.notes in
    let t : PadState = pad.told p in
    let heeded : PadState = pad.answered o t in
    let e = ended_from heeded j c q on in
    elim (answered_from o t j c e.0 e.1) [
      | inl m ↦ inl (heard_from p.line.end.notes p.ports j c m.0 m.1)
      | inr m ↦
          elim (incoming_opens p.line.end.notes None c m) [
            | inl none ↦ absurd (none-some c none)
            | inr opened ↦
                inr (opened_later c heeded.line.notes (pad.line_event p).line.notes (ended_adds heeded)
                (opened_later c t.line.notes heeded.line.notes (answered_adds o t)
                (opened_behind c p.line.notes (notes.all_told p.line.end.notes) opened)))
          ]
    ]

-- ---- something happens at a terminal

abbrev CallFrom : (a after : AtLine) → Type 0
CallFrom a after = (c : ℕ) → has_channel after.port.call c ≡ true → (has_channel a.port.call c ≡ true) ⊎ Opened c after.line.notes

clears_from : (o : Option ℕ) (a : AtLine) → CallFrom a (port.on_call port.clears o a)
clears_from None a c h = inl h
clears_from (Some call) a c h = absurd (true≢false (sym h))

interrupts_from : (o : Option ℕ) (a : AtLine) → CallFrom a (port.on_call port.interrupts o a)
interrupts_from None a c h = inl h
interrupts_from (Some call) a c h = inl h

resets_from : (o : Option ℕ) (a : AtLine) → CallFrom a (port.on_call port.resets o a)
resets_from None a c h = inl h
resets_from (Some call) a c h = inl h

does_from : (o : Option TerminalRequest) (a : AtLine) → CallFrom a (port.does_asked o a)
does_from None a c h = inl h
does_from (Some (request.Call s)) a c h = by (channel_given a.line.end.layer a.line.end.layer.phase) h
  where
    by : (o : Option ℕ) → has_channel (port.placed_on o (call_refusal a.line.end.layer a.line.end.layer.phase) a.port).call c ≡ true
        → (has_channel a.port.call c ≡ true) ⊎ Opened c (a.line.notes ++ line.placed_note o s.address)
    by None e = inl e
    by (Some channel) e = inr (opened_behind c a.line.notes (notes.Placed channel s.address ∷ []) (inl (same_channel channel c e)))
does_from (Some request.Clear) a c h = clears_from a.port.call a c h
does_from (Some request.Interrupt) a c h = interrupts_from a.port.call a c h
does_from (Some request.Reset) a c h = resets_from a.port.call a c h

sends_port : (octets : List ℕ) (qualified : Bool) (o : Option ℕ) (a : AtLine) → (port.on_call (port.sends octets qualified) o a).port ≡ a.port
sends_port octets qualified None a = refl
sends_port octets qualified (Some call) a = refl

tells_port : (o : Option Message) (a : AtLine) → (port.tells o a).port ≡ a.port
tells_port None a = refl
tells_port (Some m) a = sends_port (octets_of m) true a.port.call a

block_port : (block : Option (List ℕ)) (call : ℕ) (a : AtLine) → (port.block_sent block call a).port ≡ a.port
block_port None call a = refl
block_port (Some octets) call a = refl

edits_port : (step : Step) (block : Option (List ℕ)) (o : Option ℕ) (a : AtLine) → (port.on_call (port.edits step block) o a).port ≡ a.port
edits_port step block None a = refl
edits_port step block (Some call) a = block_port block call (record a { line = line.noting (notes.Edited call step ∷ []) a.line })

handles_from : (answer : InputAnswer) (step : Step) (a : AtLine) → CallFrom a (port.handles answer step a)
handles_from input.Dropped step a c h = inl h
handles_from (input.Edited block) step a c h = inl (ap (λ (p : PortState). has_channel p.call c) (sym (edits_port step block a.port.call a)) ∙ h)
handles_from (input.Taken asked) step a c h = does_from asked a c h

break_from : (answer : BreakAnswer) (a : AtLine) → CallFrom a (port.answers_break answer a)
break_from break_answer.Dropped a c h = inl h
break_from (break_answer.Taken requests) a c h =
    let x : AtLine = port.does_asked requests.request a in
    elim (does_from requests.request a c (ap (λ (p : PortState). has_channel p.call c) (sym (tells_port requests.indication x)) ∙ h)) [
      | inl m ↦ inl m
      | inr m ↦ inr (opened_later c x.line.notes (port.tells requests.indication x).line.notes (tells_adds requests.indication x) m)
    ]

-- printing gives no call
abbrev NoCall : (a after : AtLine) → Type 0
NoCall a after = (c : ℕ) → has_channel after.port.call c ≡ true → has_channel a.port.call c ≡ true

replies_call : (r : Reply) (a : AtLine) → NoCall a (port.replies r a)
replies_call reply.Nothing a c h = h
replies_call (reply.Message m) a c h = ap (λ (p : PortState). has_channel p.call c) (sym (tells_port (Some m) a)) ∙ h
replies_call reply.Clear a c h = by a.port.call h
  where
    by : (o : Option ℕ) → has_channel (port.on_call port.clears o a).port.call c ≡ true → has_channel a.port.call c ≡ true
    by None e = e
    by (Some call) e = absurd (true≢false (sym e))

datum_call : (d : Datum) (q : Bool) (a : AtLine) → NoCall a (port.after_datum d q a)
datum_call d true a c h =
    let answered = messages.after_octets d.octets a.port.terminal in
    replies_call answered.reply (record a { port = port.with_terminal answered.terminal a.port }) c h
datum_call d false a c h = h

taking_call : (taken : Taken) (call : ℕ) (a : AtLine) → NoCall a (port.after_taking taken call (port.takes taken call a))
taking_call (TakenInterrupt octets) call a c h = h
taking_call (TakenPacket d) call a c h = datum_call d d.qualified (port.releases (Releasing 1) call (port.takes (TakenPacket d) call a)) c h

next_call : (o : Option ℕ) (taken : Option Taken) (p : PortState) (l : PadLine) (c : ℕ)
    → has_channel (port.after_taken taken (port.with_taken taken (record { port = record p { call = o }; line = l }))).port.call c ≡ true → has_channel o c ≡ true
next_call o None p l c h = h
next_call None (Some taken) p l c h = h
next_call (Some call) (Some taken) p l c h = taking_call taken call (record { port = record p { call = Some call }; line = l }) c h

terminal_from : (number : ℕ) (act : AtLine → AtLine) → ((a : AtLine) → CallFrom a (act a)) → (p : PadState) → ComesFrom p (pad.terminal_event number act p)
terminal_from number act f p j c q on =
    let x : PadState = at_port number act (pad.begun p) in
    let e = ended_from x j c q on in
    elim (by (slice_get p.ports number) refl e.0 e.1) [
      | inl m ↦ inl m
      | inr m ↦ inr (opened_later c x.line.notes (pad.terminal_event number act p).line.notes (ended_adds x) m)
    ]
  where
    then_at : Option PortState → PadState
    then_at o = option_map_or (λ found. acted number (pad.begun p) (act (pad.with_line number found (pad.begun p)))) o (pad.begun p)

    by : (o : Option PortState) → slice_get p.ports number ≡ o → (z : PortState) → IsOn (then_at o).ports j c z → WasOn p.ports j c ⊎ Opened c (then_at o).line.notes
    by None at z h = inl (z, h)
    by (Some found) at z h =
        let a : AtLine = act (pad.with_line number found (pad.begun p)) in
        elim (get_set p.ports number a.port j z h.0) [
          | inl m ↦
              elim (f (pad.with_line number found (pad.begun p)) c (ap (λ (y : PortState). has_channel y.call c) (sym m.1) ∙ h.1)) [
                | inl had ↦ inl (found, (ap (λ (k : ℕ). slice_get p.ports k) m.0 ∙ at, had))
                | inr opened ↦ inr opened
              ]
          | inr m ↦ inl (z, (m.1, h.1))
        ]

-- ---- events

idle_from : (number : ℕ) (runs : Bool) (p : PadState) → ComesFrom p (if runs then pad.terminal_event number port.after_idle p else p)
idle_from number true p =
    terminal_from number port.after_idle
    (λ a. handles_from (port.idle_input a).answer (idle a.port.terminal.settings.params) (record a { port = record a.port { terminal = (port.idle_input a).terminal; idle_left = None } })) p
idle_from number false p = λ j c q on. inl (q, on)

expiry_from : (runs : Bool) (id : TimerId) (p : PadState) → ComesFrom p (if runs then pad.line_event (pad.with_expiry p id) else p)
expiry_from true id p = line_from (pad.with_expiry p id)
expiry_from false id p = λ j c q on. inl (q, on)

-- after a restart no terminal has a call
no_call_then : (p : PadState) (j c : ℕ) (q : PortState) → IsOn (pad.restarted p).ports j c q → ⊥
no_call_then p j c q on =
    let m = map_at port.restarted p.ports j q on.0 in true≢false (sym on.1 ∙ ap (λ (z : PortState). has_channel z.call c) (sym m.2))

event_from : (event : PadEvent) (p : PadState) → ComesFrom p (after_event event p)
event_from (HasKey number octet) p =
    terminal_from number (port.after_key octet)
    (λ a. handles_from (port.key_input octet a).answer (key octet a.port.terminal.settings.params) (record a { port = record a.port { terminal = (port.key_input octet a).terminal; idle_left = None } })) p
event_from (HasBreak number) p =
    terminal_from number port.after_break
    (λ a. break_from (port.break_answer_of a) (record a { port = port.with_terminal (breaks.after_break (condition a.port.call a.line) a.port.terminal) a.port })) p
event_from (HasPrinting number) p =
    terminal_from number port.after_print
    (λ a c h. inl (next_call a.port.call (port.taken_of a) (port.with_terminal (calls.without_text a.port.terminal) a.port) a.line c h)) p
event_from (HasLeaving number) p = terminal_from number port.after_leaving (λ a c h. absurd (true≢false (sym h))) p
event_from (HasArrival number) p = terminal_from number port.after_arrival (λ a c h. inl h) p
event_from (HasIdleTime number) p = idle_from number (pad.runs_idle_timer number p) p
event_from (HasFrame octets) p = line_from (pad.with_frame p octets)
event_from (HasExpiry (Idle number)) p = idle_from number (pad.runs_idle_timer number p) p
event_from (HasExpiry id) p = expiry_from (runs_at p.line.end id) id p
event_from HasRelink p = line_from (pad.with_relink p)
event_from HasRestart p = λ j c q on. absurd (no_call_then p j c q on)
event_from (HasTicks ticks) p = λ j c q on. inl (mapped_from (port.elapsed ticks) (λ x. refl) p.ports j c q on)

-- ---- how many records there are

by_same : {m n : ℕ} → n ≡ m → m ≤ n
by_same e = omega arith

module _ (role : Role) where
  with_length : (o : Option ℕ) (f : RecordValue → RecordValue) (b : Book) → length (with_change o f b).records ≡ length b.records
  with_length None f b = refl
  with_length (Some m) f b = length_changed b.records m f

  change_length : (d : ℕ) (f : RecordValue → RecordValue) (b : Book) → length (changed role d f b).records ≡ length b.records
  change_length d f b = with_length (slot_at role d b).present f b

  slot_length : (d : ℕ) (z : Slot) (b : Book) → length (with_slot role d z b).records ≡ length b.records
  slot_length d z b = ap (λ (rs : List RecordValue). length rs) (slot_records role d z b)

  pub closes_length : (d : ℕ) (b : Book) → length (closes role d b).records ≡ length b.records
  closes_length d b = slot_length d _ (changed role d with_closed b) ∙ change_length d with_closed b

  pair_length : (x y : Option ℕ) (b : Book) → length (with_pair x y b).records ≡ length b.records
  pair_length None y b = refl
  pair_length (Some caller) None b = refl
  pair_length (Some caller) (Some callee) b = refl

  by_more : (d : ℕ) (z : Slot) (r : RecordValue) (b : Book) → length b.records ≤ length (with_slot role d z (with_record r b)).records
  by_more d z r b = (let many = slot_length d z (with_record r b) in let one = length_pushed b.records r in omega arith)

  pub grown : (note : ChannelNote) (b : Book) → length b.records ≤ length (written_by role (write_of note) b).records
  grown (notes.Told (Incoming d parts)) b = by_more d _ _ b
  grown (notes.Told (Connected d)) b = omega arith
  grown (notes.Told (Closed d cause diagnostic reason)) b = by_same (closes_length d b)
  grown (notes.Told (WasReset d cause diagnostic reason)) b = by_same (change_length d with_epoch b)
  grown (notes.Told (InterruptConfirmed d)) b = omega arith
  grown (notes.Told (Covered d count)) b = by_same (change_length d (with_covered count) b)
  grown (notes.Placed d address) b = by_more d _ _ b
  grown (notes.Accepted d) b = by_same (pair_length (slot_at role d b).caller (slot_at role d b).present b)
  grown (notes.Cleared d) b = by_same (closes_length d b)
  grown (notes.WasReset d) b = by_same (change_length d with_epoch b)
  grown (notes.Edited d step) b = by_same (change_length d (with_step step) b)
  grown (notes.Sent d x) b = by_same (change_length d (with_sent (packet_of x)) b)
  grown (notes.Interrupted d octets) b = by_same (change_length d (with_interrupt_sent octets) b)
  grown (notes.Took d (TakenInterrupt octets)) b = by_same (change_length d (with_interrupt_taken octets) b)
  grown (notes.Took d (TakenPacket x)) b =
      by_same (change_length d (with_released 1) (takes role d (Some (TakenPacket x)) b) ∙ change_length d (with_taken (packet_of x)) b)

-- ---- the present record of a channel

module _ (role : Role) (c n : ℕ) where
  abbrev Holds : Book → Type 0
  Holds b = (slot_at role c b).present ≡ Some n

  changed_before : (d : ℕ) (f : RecordValue → RecordValue) (b : Book) → Holds (changed role d f b) → Holds b
  changed_before d f b h = ap (λ (z : Side). (nth_slot z.slots c).present) (sym (side_changed role (slot_at role d b).present f b)) ∙ h

  closed_before : (d : ℕ) (b : Book) → Holds (closes role d b) → Holds b
  closed_before d b h = elim (slot_cases role d _ (changed role d with_closed b) role c) [
    | inl q ↦ changed_before d with_closed b (ap (λ (s : Slot). s.present) (sym q) ∙ h)
    | inr q ↦ absurd (none-some n (ap (λ (s : Slot). s.present) (sym q.0) ∙ h))
  ]

  paired_before : (x y : Option ℕ) (b : Book) → Holds (with_pair x y b) → Holds b
  paired_before None y b h = h
  paired_before (Some caller) None b h = h
  paired_before (Some caller) (Some callee) b h =
      ap (λ (z : Side). (nth_slot z.slots c).present) (sym (side_pairs (b.pairs ++ record { caller = caller; callee = callee } ∷ []) b role)) ∙ h

  -- of the channel on which a call begins the present record is the new one
  abbrev Before : (b : Book) → Type 0 → Type 0
  Before b Opens = (Holds b × (Opens → ⊥)) ⊎ (length b.records ≤ n)

  opened_present : (d : ℕ) (z : Slot) (r : RecordValue) (b : Book) → z.present ≡ Some (length b.records) → Holds (with_slot role d z (with_record r b)) → Before b (d ≡ c)
  opened_present d z r b new h = elim (cases_eq d c) [
    | inl e ↦
        let at : (slot_at role d (with_slot role d z (with_record r b))).present ≡ Some n = ap (λ (k : ℕ). (slot_at role k (with_slot role d z (with_record r b))).present) e ∙ h in
        elim (slot_here role d z (with_record r b)) [
          | inl q ↦ inr (let same : length b.records ≡ n = same_Some (length b.records) n (sym new ∙ ap (λ (s : Slot). s.present) (sym q) ∙ at) in omega arith)
          | inr q ↦ absurd (none-some n (ap (λ (s : Slot). s.present) (sym q) ∙ at))
        ]
    | inr ne ↦
        elim (slot_cases role d z (with_record r b) role c) [
          | inl q ↦
              inl (ap (λ (s : Side). (nth_slot s.slots c).present) (sym (side_record r b role)) ∙ ap (λ (s : Slot). s.present) (sym q) ∙ h, ne)
          | inr q ↦ absurd (ne (sym q.2))
        ]
  ]

  kept : (b : Book) → Holds b → Before b ⊥
  kept b h = inl (h, λ x. x)

  told_present : (note : Note) (b : Book) → Holds (told role note b) → Before b (OpensOn c (notes.Told note))
  told_present (Incoming d parts) b h = opened_present d _ (new_record (length b.records) (side_of role b).node (address_of parts.called) (address_of parts.calling) (slot_at (other_of role) d b).placed) b refl h
  told_present (Connected d) b h = kept b h
  told_present (Closed d cause diagnostic reason) b h = kept b (closed_before d b h)
  told_present (WasReset d cause diagnostic reason) b h = kept b (changed_before d with_epoch b h)
  told_present (InterruptConfirmed d) b h = kept b h
  told_present (Covered d count) b h = kept b (changed_before d (with_covered count) b h)

  took_before : (d : ℕ) (taken : Taken) (b : Book) → Holds (let_go taken role d (takes role d (Some taken) b)) → Holds b
  took_before d (TakenInterrupt octets) b h = changed_before d (with_interrupt_taken octets) b h
  took_before d (TakenPacket x) b h = changed_before d (with_taken (packet_of x)) b (changed_before d (with_released 1) (takes role d (Some (TakenPacket x)) b) h)

  note_present : (note : ChannelNote) (b : Book) → Holds (written_by role (write_of note) b) → Before b (OpensOn c note)
  note_present (notes.Told note) b h = told_present note b h
  note_present (notes.Placed d address) b h =
      opened_present d _ (new_record (length b.records) (side_of role b).node (address_of (calling_from (side_of role b).address (parts_to address).calling)) (address_of address) None) b refl h
  note_present (notes.Accepted d) b h = kept b (paired_before (slot_at role d b).caller (slot_at role d b).present b h)
  note_present (notes.Cleared d) b h = kept b (closed_before d b h)
  note_present (notes.WasReset d) b h = kept b (changed_before d with_epoch b h)
  note_present (notes.Edited d step) b h = kept b (changed_before d (with_step step) b h)
  note_present (notes.Sent d x) b h = kept b (changed_before d (with_sent (packet_of x)) b h)
  note_present (notes.Interrupted d octets) b h = kept b (changed_before d (with_interrupt_sent octets) b h)
  note_present (notes.Took d taken) b h = kept b (took_before d taken b h)

-- ---- an event

-- notes in order: what is present then was present before, and no call began on the channel; or it is a new record
notes_present : (role : Role) (c n : ℕ) (ns : List ChannelNote) (b : Book) → Holds role c n (noted role ns b) → Before role c n b (Opened c ns)
notes_present role c n [] b h = inl (h, λ x. x)
notes_present role c n (note ∷ ns) b h = elim (notes_present role c n ns (written_by role (write_of note) b) h) [
  | inl later ↦
      elim (note_present role c n note b later.0) [
        | inl first ↦ inl (
          first.0,
          λ x. elim x [
            | inl y ↦ first.1 y
            | inr y ↦ later.1 y
          ],
        )
        | inr new ↦ inr new
      ]
  | inr new ↦ inr (let more = grown role note b in omega arith)
]

-- over an event a terminal has the channel of a call that was there, and the record is present there that was; or the
-- record is new
pub stays_on : (event : PadEvent) (role : Role) (p : PadState) (b : Book) (c n j : ℕ) (q : PortState) → (slot_at role c (all_written role (writes_after event p) b)).present ≡ Some n
    → IsOn (after_event event p).ports j c q → (((x : PortState) × IsOn p.ports j c x) × ((slot_at role c b).present ≡ Some n)) ⊎ (length b.records ≤ n)
stays_on event role p b c n j q present on = by event present on
  where
    noted_so : (event : PadEvent) → (slot_at role c (noted role (after_event event p).line.notes b)).present ≡ Some n → IsOn (after_event event p).ports j c q
        → (((x : PortState) × IsOn p.ports j c x) × ((slot_at role c b).present ≡ Some n)) ⊎ (length b.records ≤ n)
    noted_so event present on = elim (notes_present role c n (after_event event p).line.notes b present) [
      | inl was ↦
          elim (event_from event p j c q on) [
            | inl had ↦ inl (had, was.0)
            | inr opened ↦ absurd (was.1 opened)
          ]
      | inr new ↦ inr new
    ]

    by : (event : PadEvent) → (slot_at role c (all_written role (writes_after event p) b)).present ≡ Some n → IsOn (after_event event p).ports j c q
        → (((x : PortState) × IsOn p.ports j c x) × ((slot_at role c b).present ≡ Some n)) ⊎ (length b.records ≤ n)
    by (HasKey number octet) present on = noted_so (HasKey number octet) present on
    by (HasBreak number) present on = noted_so (HasBreak number) present on
    by (HasIdleTime number) present on = noted_so (HasIdleTime number) present on
    by (HasPrinting number) present on = noted_so (HasPrinting number) present on
    by (HasLeaving number) present on = noted_so (HasLeaving number) present on
    by (HasArrival number) present on = noted_so (HasArrival number) present on
    by (HasFrame octets) present on = noted_so (HasFrame octets) present on
    by (HasExpiry id) present on = noted_so (HasExpiry id) present on
    by HasRelink present on = noted_so HasRelink present on
    by HasRestart present on = absurd (no_call_then p j c q on)
    by (HasTicks ticks) present on = noted_so (HasTicks ticks) present on
