-- A terminal that leaves and arrives, and the calls that begin.
use Rattle.std.specs.Prelude.{◌≡◌, ℕ, zero, suc, ◌≤◌, ◌⊎◌, Bool, true, false, if◌then◌else◌, List, [], ◌∷◌, ◌++◌, Contains, length, map, slice_get, Option, Some, None}
use Rattle.std.specs.Option.{option_map, option_map_or}
use Rattle.std.proofs.Common.{inl, inr, refl, sym, ap, subst, ◌∙◌, true≢false, arith}
use Rattle.std.proofs.lemmas.Bool.{cases_eq, eqb-true}
use Rattle.std.proofs.lemmas.List.Elements.{Contains-append_left, Contains-append_right}
use Rattle.std.proofs.lemmas.Option.{none-some, same_Some, slice_get-map}
use Rattle.link_timers.specs.declared.timers.TimerId.{TimerId}
use Rattle.link_timers.specs.declared.timers.TimerId.TheVariants.{Idle}
use Rattle.data_transfer.specs.Packets.{Note, Datum}
use Rattle.data_transfer.specs.Packets.Note.{Incoming, Connected, Closed, WasReset, InterruptConfirmed, Covered}
use Rattle.data_transfer.specs.Traffic.{Taken}
use Rattle.data_transfer.specs.Traffic.Taken.{TakenInterrupt, TakenPacket}
use Rattle.packet_channel.specs.Channel.{Refusal}
use Rattle.packet_channel.specs.Channel.Request.{Releasing}
use Rattle.packet_layer.specs.Layer.{channel_given, call_refusal}
use Rattle.packet_end.specs.PacketEnd.{finished, runs_at}
use Rattle.record_laws.proofs.Books.Basics.{get_set, set_here}
use Rattle.link_timers.specs.declared.role.Role.{Role}
use Rattle.call_records.specs.Book.{Book, side_of, slot_at}
use Rattle.call_records.specs.Closing.{closes_if, closes_present, closed_from}
use Rattle.call_records.specs.Writes.{all_written, written_by}
use Rattle.user_nodes.specs.PadWriting.{write_of}
use Rattle.pad_editing.specs.Edited.{Step, key, idle}
use Rattle.x29_messages.specs.MessageForm.{octets_of}
use Rattle.x29_messages.specs.declared.message.Message.{Message}
use Rattle.pad_terminal.specs.declared.mode.Mode.TheVariants.{Free}
use Rattle.pad_terminal.specs.Breaks as breaks
use Rattle.pad_terminal.specs.Calls as calls
use Rattle.pad_terminal.specs.Messages as messages
use Rattle.pad_terminal.specs.declared.answers.BreakAnswer.{BreakAnswer}
use Rattle.pad_terminal.specs.declared.answers.BreakAnswer.TheVariants as break_answer
use Rattle.pad_terminal.specs.declared.answers.InputAnswer.{InputAnswer}
use Rattle.pad_terminal.specs.declared.answers.InputAnswer.TheVariants as input
use Rattle.pad_terminal.specs.declared.answers.Reply.{Reply}
use Rattle.pad_terminal.specs.declared.answers.Reply.TheVariants as reply
use Rattle.pad_terminal.specs.declared.answers.TerminalRequest.{TerminalRequest}
use Rattle.pad_terminal.specs.declared.answers.TerminalRequest.TheVariants as request
use Rattle.pad_ports.specs.Notes as notes
use Rattle.pad_ports.specs.Notes.{ChannelNote}
use Rattle.pad_ports.specs.PadLine as line
use Rattle.pad_ports.specs.PadLine.{all_learnt, learnt_of, last_incoming, about}
use Rattle.pad_ports.specs.Ports as port
use Rattle.pad_ports.specs.Ports.{PortState, AtLine, has_channel, new_port}
use Rattle.pad_ports.specs.PadLine.{PadLine}
use Rattle.x25_pad.specs.Pad as pad
use Rattle.x25_pad.specs.Pad.{PadState, all_heard, changed_at, at_port, acted, holder, print_taken, print_text, key_taken, break_taken}
use Rattle.node_laws.specs.Pads.Holds.{IsOn}
use Rattle.node_laws.specs.Pads.Courses.{Here, Course, happened}
use Rattle.node_laws.specs.Pads.Happening.{PadEvent, HasKey, HasBreak, HasIdleTime, HasPrinting, HasLeaving, HasArrival, HasFrame, HasExpiry, HasRelink, HasRestart, HasTicks, after_event, writes_after}
use Rattle.node_laws.specs.Pads.Presence.{absent_port, IsAbsentAt, LeavesLaw, LeavesAbsent, StaysAbsentLaw, AbsentLaw, ArrivesLaw, PresentLaw, begun_in, CallLaw, HasArrived, arrives, continues, elsewhere, IsShownOf, ShownLaw}
use Rattle.node_laws.proofs.Pads.Ports.{found_at, changed_port, changed_for, changed_on, connected_by, cleared_by, reset_by, heard_connected, heard_cleared, heard_reset, heard_none, heard_more}
use Rattle.node_laws.proofs.Pads.Asking.{noted}
use Rattle.node_laws.proofs.Pads.Owners.{grown, closes_length, stays_on}
use Rattle.node_laws.proofs.Pads.Typing.{on_itself}
use Rattle.node_laws.proofs.Pads.Owning.{own_packet, others_stay, changed_other, learns_own}

-- ---- one port

-- of what the packet layer tells a port without a call learns nothing
heard_stays : (ns : List Note) (ports : List PortState) (number : ℕ) (q : PortState) → slice_get ports number ≡ Some q → q.call ≡ None
    → slice_get (all_heard (all_learnt ns) ports) number ≡ Some q
heard_stays [] ports number q at none = ap (λ (ps : List PortState). slice_get ps number) (heard_none ports) ∙ at
heard_stays (note ∷ ns) ports number q at none =
    ap (λ (ps : List PortState). slice_get ps number) (heard_more note ns ports)
    ∙ heard_stays ns (all_heard (learnt_of note) ports) number q (learns_own ports number q note at (ap (λ (o : Option ℕ). has_channel o (about note)) none)) none

map_at : (f : PortState → PortState) (ports : List PortState) (number : ℕ) (q : PortState) → slice_get ports number ≡ Some q → slice_get (map f ports) number ≡ Some (f q)
map_at f ports number q at = slice_get-map f ports number ∙ ap (λ (o : Option PortState). option_map f o) at

-- ---- an absent terminal

module _ (number : ℕ) (params : List ℕ) where
  abbrev Absent : PadState → Type 0
  Absent p = IsAbsentAt number params p

  ended_absent : (p : PadState) → Absent p → Absent (pad.ended p)
  ended_absent p at =
      let q : PadState = pad.told (pad.with_end (finished p.line.end) p) in
      map_at (port.settled q.line) q.ports number (absent_port params) (heard_stays (finished p.line.end).notes p.ports number (absent_port params) at refl)

  -- what happens at a terminal keeps an absent one
  abbrev Keeps : (AtLine → AtLine) → Type 0
  Keeps act = (l : PadLine) → (act (record { port = absent_port params; line = l })).port ≡ absent_port params

  port_absent : (at_number : ℕ) (act : AtLine → AtLine) → (at_number ≡ number → Keeps act) → (p : PadState) → Absent p → Absent (at_port at_number act p)
  port_absent at_number act keeps p at =
      elim (cases_eq number at_number) [
        | inl same ↦ here (sym same)
        | inr other ↦ others_stay p at_number number act other ∙ at
      ]
    where
      here : at_number ≡ number → Absent (at_port at_number act p)
      here same =
          subst (λ (n : ℕ). Absent (at_port n act p)) (sym same)
          (ap (λ (o : Option PortState). slice_get (option_map_or (λ found. acted number p (act (pad.with_line number found p))) o p).ports number) at
          ∙ set_here p.ports number (act (pad.with_line number (absent_port params) p)).port (absent_port params) at
          ∙ ap Some (keeps same (pad.with_line number (absent_port params) p).line))

  terminal_absent : (at_number : ℕ) (act : AtLine → AtLine) → (at_number ≡ number → Keeps act) → (p : PadState) → Absent p → Absent (pad.terminal_event at_number act p)
  terminal_absent at_number act keeps p at = ended_absent (at_port at_number act (pad.begun p)) (port_absent at_number act keeps (pad.begun p) at)

  answered_absent : (o : Option ℕ) (p : PadState) → Absent p → Absent (pad.answered o p)
  answered_absent None p at = at
  answered_absent (Some channel) p at = by (pad.first_free p.ports) refl
    where
      -- a terminal that is absent is not the first that may be given a call
      other : (k : ℕ) → pad.first_free p.ports ≡ Some k → number ≡ k → ⊥
      other k e same =
          let g = found_at port.is_free p.ports k e in
          let one : absent_port params ≡ g.0 = same_Some (absent_port params) g.0 (sym at ∙ ap (λ (n : ℕ). slice_get p.ports n) same ∙ g.1) in
          true≢false (sym g.2 ∙ ap port.is_free (sym one))

      by : (o : Option ℕ) → pad.first_free p.ports ≡ o → Absent (pad.answered_at o channel p)
      by None e = at
      by (Some k) e = changed_other p.ports k number (port.connects channel) (other k e) ∙ at

  line_absent : (p : PadState) → Absent p → Absent (pad.line_event p)
  line_absent p at =
      let o : Option ℕ = last_incoming None p.line.end.notes in
      ended_absent (pad.answered o (pad.told p)) (answered_absent o (pad.told p) (heard_stays p.line.end.notes p.ports number (absent_port params) at refl))

  either_absent : (v : Bool) (x p : PadState) → Absent x → Absent p → Absent (if v then x else p)
  either_absent true x p g h = g
  either_absent false x p g h = h

  -- its idle timer does not run
  idle_absent : (at_number : ℕ) (p : PadState) → Absent p → Absent (pad.after_idle at_number p)
  idle_absent at_number p at =
      either_absent (pad.runs_idle_timer at_number p) (pad.terminal_event at_number port.after_idle p) p (terminal_absent at_number port.after_idle (λ same l. refl) p at) at

  timer_absent : (id : TimerId) (p : PadState) → Absent p → Absent (pad.after_timer p id)
  timer_absent (Idle at_number) p at = idle_absent at_number p at
  timer_absent id p at =
      either_absent (runs_at p.line.end id) (pad.line_event (pad.with_expiry p id)) p (line_absent (pad.with_expiry p id) at) at

  event_absent : (event : PadEvent) (p : PadState) → LeavesAbsent number event → Absent p → Absent (after_event event p)
  event_absent (HasKey n octet) p h at = terminal_absent n (port.after_key octet) (λ same l. refl) p at
  event_absent (HasBreak n) p h at = terminal_absent n port.after_break (λ same l. refl) p at
  event_absent (HasIdleTime n) p h at = idle_absent n p at
  event_absent (HasPrinting n) p h at = terminal_absent n port.after_print (λ same l. refl) p at
  event_absent (HasLeaving n) p h at = terminal_absent n port.after_leaving (λ same l. refl) p at
  event_absent (HasArrival n) p h at = terminal_absent n port.after_arrival (λ same l. absurd (h same)) p at
  event_absent (HasFrame octets) p h at = line_absent (pad.with_frame p octets) at
  event_absent (HasExpiry id) p h at = timer_absent id p at
  event_absent HasRelink p h at = line_absent (pad.with_relink p) at
  event_absent HasRestart p h at = absurd h
  event_absent (HasTicks ticks) p h at = map_at (port.elapsed ticks) p.ports number (absent_port params) at

pub stays_absent : StaysAbsentLaw
stays_absent event p number params h at = event_absent number params event p h at

-- the port at which something happened
port_here : (number : ℕ) (act : AtLine → AtLine) (p : PadState) (q : PortState) → slice_get p.ports number ≡ Some q
    → slice_get (at_port number act p).ports number ≡ Some (act (pad.with_line number q p)).port
port_here number act p q at =
    ap (λ (o : Option PortState). slice_get (option_map_or (λ found. acted number p (act (pad.with_line number found p))) o p).ports number) at
    ∙ set_here p.ports number (act (pad.with_line number q p)).port q at

pub leaves : LeavesLaw
leaves p number q at =
    ended_absent number q.terminal.settings.initial (at_port number port.after_leaving (pad.begun p))
    (port_here number port.after_leaving (pad.begun p) q at ∙ ap Some (by q.call))
  where
    by : (o : Option ℕ)
        → (let cleared = port.on_call port.clears o (pad.with_line number q (pad.begun p)) in port.left cleared.port) ≡ absent_port q.terminal.settings.initial
    by None = refl
    by (Some call) = refl

seen : {A : Type 0} (f : AtLine → A) (none : A) (p : PadState) (number : ℕ) (q : PortState) → slice_get p.ports number ≡ Some q
    → option_map_or (λ found. f (pad.with_line number found p)) (slice_get p.ports number) none ≡ f (pad.with_line number q p)
seen f none p number q at = ap (λ (o : Option PortState). option_map_or (λ found. f (pad.with_line number found p)) o none) at

pub is_cut_off : AbsentLaw
is_cut_off p number params at = record {
  nothing_taken = seen port.taken_of None (pad.begun p) number (absent_port params) at;
  nothing_shown = seen port.printed [] (pad.begun p) number (absent_port params) at;
  keys = λ octet. seen (λ a. port.is_taken (port.key_input octet a).answer) false (pad.begun p) number (absent_port params) at;
  breaks = seen (λ a. port.is_break_taken (port.break_answer_of a)) false (pad.begun p) number (absent_port params) at;
}

pub arrives_new : ArrivesLaw
arrives_new p number params at =
    let x : PadState = at_port number port.after_arrival (pad.begun p) in
    let q : PadState = pad.told (pad.with_end (finished x.line.end) x) in
    map_at (port.settled q.line) q.ports number (new_port params None)
    (heard_stays (finished x.line.end).notes x.ports number (new_port params None) (port_here number port.after_arrival (pad.begun p) (absent_port params) at) refl)

pub present_stays : PresentLaw
present_stays q h = ap (λ (v : Bool). port.with_terminal (if v then q.terminal else record q.terminal { mode = Free }) q) h

-- ---- calls that begin

begun_append : (ns ms : List ChannelNote) → begun_in (ns ++ ms) ≡ begun_in ns ++ begun_in ms
begun_append [] ms = refl
begun_append (notes.Placed channel address ∷ ns) ms = ap (λ (l : List ℕ). channel ∷ l) (begun_append ns ms)
begun_append (notes.Told (Incoming channel parts) ∷ ns) ms = ap (λ (l : List ℕ). channel ∷ l) (begun_append ns ms)
begun_append (notes.Told (Connected channel) ∷ ns) ms = begun_append ns ms
begun_append (notes.Told (Closed channel cause diagnostic reason) ∷ ns) ms = begun_append ns ms
begun_append (notes.Told (WasReset channel cause diagnostic reason) ∷ ns) ms = begun_append ns ms
begun_append (notes.Told (InterruptConfirmed channel) ∷ ns) ms = begun_append ns ms
begun_append (notes.Told (Covered channel count) ∷ ns) ms = begun_append ns ms
begun_append (notes.Accepted channel ∷ ns) ms = begun_append ns ms
begun_append (notes.Cleared channel ∷ ns) ms = begun_append ns ms
begun_append (notes.WasReset channel ∷ ns) ms = begun_append ns ms
begun_append (notes.Edited channel step ∷ ns) ms = begun_append ns ms
begun_append (notes.Sent channel d ∷ ns) ms = begun_append ns ms
begun_append (notes.Interrupted channel octets ∷ ns) ms = begun_append ns ms
begun_append (notes.Took channel taken ∷ ns) ms = begun_append ns ms

abbrev Begins : ℕ → List ChannelNote → Type 0
Begins c ns = Contains (begun_in ns) c

begins_before : (c : ℕ) (ns ms : List ChannelNote) → Begins c ns → Begins c (ns ++ ms)
begins_before c ns ms h = subst (λ (l : List ℕ). Contains l c) (sym (begun_append ns ms)) (Contains-append_left (begun_in ns) (begun_in ms) c h)

begins_after : (c : ℕ) (ns ms : List ChannelNote) → Begins c ms → Begins c (ns ++ ms)
begins_after c ns ms h = subst (λ (l : List ℕ). Contains l c) (sym (begun_append ns ms)) (Contains-append_right (begun_in ns) (begun_in ms) c h)

first_of_all : (c d : ℕ) (cs : List ℕ) → d ≡ c → Contains (d ∷ cs) c
first_of_all c d cs e = (0, omega arith, e)

later_of_all : (c d : ℕ) (cs : List ℕ) → Contains cs c → Contains (d ∷ cs) c
later_of_all c d cs h = Contains-append_right (d ∷ []) cs c h

-- the last call that comes in is among them
last_begins : (before : Option ℕ) (ns : List Note) (c : ℕ) → last_incoming before ns ≡ Some c → (before ≡ Some c) ⊎ Begins c (notes.all_told ns)
last_begins before [] c e = inl e
last_begins before (Incoming channel parts ∷ ns) c e =
    elim (last_begins (Some channel) ns c e) [
      | inl is ↦ inr (first_of_all c channel (begun_in (notes.all_told ns)) (same_Some channel c is))
      | inr h ↦ inr (later_of_all c channel (begun_in (notes.all_told ns)) h)
    ]
last_begins before (Connected channel ∷ ns) c e = last_begins before ns c e
last_begins before (Closed channel cause diagnostic reason ∷ ns) c e = last_begins before ns c e
last_begins before (WasReset channel cause diagnostic reason ∷ ns) c e = last_begins before ns c e
last_begins before (InterruptConfirmed channel ∷ ns) c e = last_begins before ns c e
last_begins before (Covered channel count ∷ ns) c e = last_begins before ns c e

-- ---- what happens at a terminal gives it a call only as one begins

abbrev Gives : (a b : AtLine) → Type 0
Gives a b = (c : ℕ) → b.port.call ≡ Some c → (a.port.call ≡ Some c) ⊎ Begins c b.line.notes

same_gives : (a b : AtLine) → b.port.call ≡ a.port.call → Gives a b
same_gives a b same c e = inl (sym same ∙ e)

call_same : (act : ℕ → AtLine → AtLine) (o : Option ℕ) (a : AtLine) → ((call : ℕ) → (act call a).port.call ≡ a.port.call) → (port.on_call act o a).port.call ≡ a.port.call
call_same act None a h = refl
call_same act (Some call) a h = h call

clears_gives : (o : Option ℕ) (a : AtLine) → Gives a (port.on_call port.clears o a)
clears_gives None a c e = inl e
clears_gives (Some call) a c e = absurd (none-some c e)

places_gives : (given : Option ℕ) (refusal : Option Refusal) (address : List ℕ) (p : PortState) (ns : List ChannelNote) (c : ℕ) → (port.placed_on given refusal p).call ≡ Some c
    → (p.call ≡ Some c) ⊎ Begins c (ns ++ line.placed_note given address)
places_gives None refusal address p ns c e = inl e
places_gives (Some channel) refusal address p ns c e =
    inr (begins_after c ns (notes.Placed channel address ∷ []) (first_of_all c channel [] (same_Some channel c e)))

does_gives : (o : Option TerminalRequest) (a : AtLine) → Gives a (port.does_asked o a)
does_gives None a c e = inl e
does_gives (Some (request.Call s)) a c e =
    places_gives (channel_given a.line.end.layer a.line.end.layer.phase) (call_refusal a.line.end.layer a.line.end.layer.phase) s.address a.port a.line.notes c e
does_gives (Some request.Clear) a c e = clears_gives a.port.call a c e
does_gives (Some request.Interrupt) a c e = same_gives a (port.does request.Interrupt a) (call_same port.interrupts a.port.call a (λ call. refl)) c e
does_gives (Some request.Reset) a c e = same_gives a (port.does request.Reset a) (call_same port.resets a.port.call a (λ call. refl)) c e

tells_gives : (o : Option Message) (a b : AtLine) → Gives a b → Gives a (port.tells o b)
tells_gives None a b h = h
tells_gives (Some m) a b h = by b.port.call
  where
    by : (o : Option ℕ) → Gives a (port.on_call (port.sends (octets_of m) true) o b)
    by None = h
    by (Some call) = λ c e.
        elim (h c e) [
          | inl is ↦ inl is
          | inr k ↦ inr (begins_before c b.line.notes _ k)
        ]

edits_same : (step : Step) (block : Option (List ℕ)) (call : ℕ) (a : AtLine) → (port.edits step block call a).port.call ≡ a.port.call
edits_same step None call a = refl
edits_same step (Some block) call a = refl

handles_gives : (answer : InputAnswer) (step : Step) (a : AtLine) → Gives a (port.handles answer step a)
handles_gives input.Dropped step a c e = inl e
handles_gives (input.Edited block) step a c e =
    same_gives a (port.handles (input.Edited block) step a) (call_same (port.edits step block) a.port.call a (λ call. edits_same step block call a)) c e
handles_gives (input.Taken asked) step a c e = does_gives asked a c e

key_gives : (octet : ℕ) (a : AtLine) → Gives a (port.after_key octet a)
key_gives octet a =
    handles_gives (port.key_input octet a).answer (key octet a.port.terminal.settings.params)
    (record a { port = record a.port { terminal = (port.key_input octet a).terminal; idle_left = None } })

idle_gives : (a : AtLine) → Gives a (port.after_idle a)
idle_gives a =
    handles_gives (port.idle_input a).answer (idle a.port.terminal.settings.params)
    (record a { port = record a.port { terminal = (port.idle_input a).terminal; idle_left = None } })

answers_give : (answer : BreakAnswer) (a : AtLine) → Gives a (port.answers_break answer a)
answers_give break_answer.Dropped a c e = inl e
answers_give (break_answer.Taken requests) a c e = tells_gives requests.indication a (port.does_asked requests.request a) (does_gives requests.request a) c e

break_gives : (a : AtLine) → Gives a (port.after_break a)
break_gives a =
    answers_give (port.break_answer_of a)
    (record a { port = port.with_terminal (breaks.after_break (line.condition a.port.call a.line) a.port.terminal) a.port })

replies_give : (r : Reply) (a : AtLine) → Gives a (port.replies r a)
replies_give reply.Nothing a c e = inl e
replies_give (reply.Message m) a c e = tells_gives (Some m) a a (λ d f. inl f) c e
replies_give reply.Clear a c e = clears_gives a.port.call a c e

datum_gives : (d : Datum) (q : Bool) (a : AtLine) → Gives a (port.after_datum d q a)
datum_gives d true a c e =
    let answered = messages.after_octets d.octets a.port.terminal in
    replies_give answered.reply (record a { port = port.with_terminal answered.terminal a.port }) c e
datum_gives d false a c e = inl e

taking_gives : (taken : Taken) (call : ℕ) (a : AtLine) → Gives a (port.after_taking taken call (port.takes taken call a))
taking_gives (TakenInterrupt octets) call a c e = inl e
taking_gives (TakenPacket d) call a c e = datum_gives d d.qualified (port.releases (Releasing 1) call (port.takes (TakenPacket d) call a)) c e

next_gives : (o : Option ℕ) (taken : Option Taken) (p : PortState) (l : PadLine)
    → let x : AtLine = record { port = record p { call = o }; line = l } in Gives x (port.after_taken taken (port.with_taken taken x))
next_gives o None p l c e = inl e
next_gives None (Some taken) p l c e = inl e
next_gives (Some call) (Some taken) p l c e = taking_gives taken call (record { port = record p { call = Some call }; line = l }) c e

print_gives : (a : AtLine) → Gives a (port.after_print a)
print_gives a = next_gives a.port.call (port.taken_of a) (port.with_terminal (calls.without_text a.port.terminal) a.port) a.line

-- ---- what the packet layer tells gives no terminal a call

-- the port of this number before
abbrev Had : List PortState → (number c : ℕ) → Type 0
Had ports number c = (q : PortState) × (slice_get ports number ≡ Some q) × (q.call ≡ Some c)

changed_had : (d : ℕ) (f : PortState → PortState) (ports : List PortState) (number c : ℕ) (r : PortState) → ((p : PortState) → has_channel p.call d ≡ true → (f p).call ≡ Some c → p.call ≡ Some c)
    → slice_get (changed_on d f ports) number ≡ Some r → r.call ≡ Some c → Had ports number c
changed_had d f ports number c r keeps at e = by (holder d ports) refl at
  where
    by : (o : Option ℕ) → holder d ports ≡ o → slice_get (changed_for o f ports) number ≡ Some r → Had ports number c
    by None is at = (r, at, e)
    by (Some i) is at =
        let g = found_at (λ (p : PortState). has_channel p.call d) ports i is in
        elim (changed_port ports i g.0 f number r g.1 at) [
          | inl m ↦ (g.0, ap (λ (k : ℕ). slice_get ports k) m.0 ∙ g.1, keeps g.0 g.2 (ap (λ (p : PortState). p.call) (sym m.1) ∙ e))
          | inr m ↦ (r, m.1, e)
        ]

its_call : (o : Option ℕ) (d c : ℕ) → has_channel o d ≡ true → d ≡ c → o ≡ Some c
its_call None d c h e = absurd (true≢false (sym h))
its_call (Some own) d c h e = ap Some (eqb-true own d h ∙ e)

note_had : (note : Note) (ports : List PortState) (number c : ℕ) (r : PortState) → slice_get (all_heard (learnt_of note) ports) number ≡ Some r → r.call ≡ Some c → Had ports number c
note_had (Incoming d parts) ports number c r at e = (r, ap (λ (ps : List PortState). slice_get ps number) (sym (heard_none ports)) ∙ at, e)
note_had (Connected d) ports number c r at e =
    changed_had d (connected_by d) ports number c r (λ p on is. its_call p.call d c on (same_Some d c is))
    (ap (λ (ps : List PortState). slice_get ps number) (sym (heard_connected d ports)) ∙ at) e
note_had (Closed d cause diagnostic reason) ports number c r at e =
    changed_had d (cleared_by cause) ports number c r (λ p on is. absurd (none-some c is))
    (ap (λ (ps : List PortState). slice_get ps number) (sym (heard_cleared d cause diagnostic reason ports)) ∙ at) e
note_had (WasReset d cause diagnostic reason) ports number c r at e =
    changed_had d (reset_by cause) ports number c r (λ p on is. is)
    (ap (λ (ps : List PortState). slice_get ps number) (sym (heard_reset d cause diagnostic reason ports)) ∙ at) e
note_had (InterruptConfirmed d) ports number c r at e = (r, ap (λ (ps : List PortState). slice_get ps number) (sym (heard_none ports)) ∙ at, e)
note_had (Covered d count) ports number c r at e = (r, ap (λ (ps : List PortState). slice_get ps number) (sym (heard_none ports)) ∙ at, e)

heard_had : (ns : List Note) (ports : List PortState) (number c : ℕ) (r : PortState) → slice_get (all_heard (all_learnt ns) ports) number ≡ Some r → r.call ≡ Some c → Had ports number c
heard_had [] ports number c r at e = (r, ap (λ (ps : List PortState). slice_get ps number) (sym (heard_none ports)) ∙ at, e)
heard_had (note ∷ ns) ports number c r at e =
    let m = heard_had ns (all_heard (learnt_of note) ports) number c r (ap (λ (ps : List PortState). slice_get ps number) (sym (heard_more note ns ports)) ∙ at) e in
    note_had note ports number c m.0 m.1 m.2

map_had : (f : PortState → PortState) → ((p : PortState) → (f p).call ≡ p.call) → (ports : List PortState) (number c : ℕ) (r : PortState) → slice_get (map f ports) number ≡ Some r → r.call ≡ Some c → Had ports number c
map_had f same ports number c r at e = by (slice_get ports number) refl (sym (slice_get-map f ports number) ∙ at)
  where
    by : (o : Option PortState) → slice_get ports number ≡ o → option_map f o ≡ Some r → Had ports number c
    by None is k = absurd (none-some r k)
    by (Some q) is k = (q, is, sym (same q) ∙ ap (λ (p : PortState). p.call) (same_Some (f q) r k) ∙ e)

ended_had : (p : PadState) (number c : ℕ) (r : PortState) → slice_get (pad.ended p).ports number ≡ Some r → r.call ≡ Some c → Had p.ports number c
ended_had p number c r at e =
    let q : PadState = pad.told (pad.with_end (finished p.line.end) p) in
    let m = map_had (port.settled q.line) (λ x. refl) q.ports number c r at e in
    heard_had (finished p.line.end).notes p.ports number c m.0 m.1 m.2

-- ---- an event

abbrev CallIs : (number c : ℕ) → List PortState → List ChannelNote → Type 0
CallIs number c ports ns = Had ports number c ⊎ Begins c ns

port_had : (number : ℕ) (act : AtLine → AtLine) → ((a : AtLine) → Gives a (act a)) → (p : PadState) (other c : ℕ) → Had (at_port number act p).ports other c → CallIs other c p.ports (at_port number act p).line.notes
port_had number act gives p other c = by (slice_get p.ports number) refl
  where
    by : (o : Option PortState) → slice_get p.ports number ≡ o → let after : PadState = option_map_or (λ found. acted number p (act (pad.with_line number found p))) o p in
        Had after.ports other c → CallIs other c p.ports after.line.notes
    by None is m = inl m
    by (Some q) is m =
        elim (get_set p.ports number (act (pad.with_line number q p)).port other m.0 m.1) [
          | inl k ↦
              elim (gives (pad.with_line number q p) c (ap (λ (x : PortState). x.call) (sym k.1) ∙ m.2)) [
                | inl e ↦ inl (q, ap (λ (n : ℕ). slice_get p.ports n) k.0 ∙ is, e)
                | inr b ↦ inr b
              ]
          | inr k ↦ inl (m.0, k.1, m.2)
        ]

terminal_had : (number : ℕ) (act : AtLine → AtLine) → ((a : AtLine) → Gives a (act a)) → (p : PadState) (other c : ℕ) → Had (pad.terminal_event number act p).ports other c
    → CallIs other c p.ports (pad.terminal_event number act p).line.notes
terminal_had number act gives p other c m =
    let x : PadState = at_port number act (pad.begun p) in
    elim (port_had number act gives (pad.begun p) other c (ended_had x other c m.0 m.1 m.2)) [
      | inl k ↦ inl k
      | inr b ↦ inr (begins_before c x.line.notes (notes.all_told (finished x.line.end).notes) b)
    ]

answered_had : (o : Option ℕ) (p : PadState) (number c : ℕ) → ((channel : ℕ) → o ≡ Some channel → Begins channel p.line.notes) → Had (pad.answered o p).ports number c
    → CallIs number c p.ports (pad.answered o p).line.notes
answered_had None p number c came m = inl m
answered_had (Some channel) p number c came m = by (pad.first_free p.ports) refl m
  where
    by : (o : Option ℕ) → pad.first_free p.ports ≡ o → Had (pad.answered_at o channel p).ports number c → CallIs number c p.ports (pad.answered_at o channel p).line.notes
    by None is m = inl m
    by (Some k) is m =
        let g = found_at port.is_free p.ports k is in
        elim (changed_port p.ports k g.0 (port.connects channel) number m.0 g.1 m.1) [
          | inl n ↦ inr (begins_before c p.line.notes _ (subst (λ (d : ℕ). Begins d p.line.notes) (same_Some channel c (ap (λ (x : PortState). x.call) (sym n.1) ∙ m.2)) (came channel refl)))
          | inr n ↦ inl (m.0, n.1, m.2)
        ]

-- an event that came from the line, with nothing noted yet
line_had : (p : PadState) (number c : ℕ) → Had (pad.line_event p).ports number c → CallIs number c p.ports (pad.line_event p).line.notes
line_had p number c m =
    let o : Option ℕ = last_incoming None p.line.end.notes in
    let x : PadState = pad.answered o (pad.told p) in
    elim (answered_had o (pad.told p) number c came (ended_had x number c m.0 m.1 m.2)) [
      | inl k ↦ inl (heard_had p.line.end.notes p.ports number c k.0 k.1 k.2)
      | inr b ↦ inr (begins_before c x.line.notes (notes.all_told (finished x.line.end).notes) b)
    ]
  where
    came : (channel : ℕ) → last_incoming None p.line.end.notes ≡ Some channel → Begins channel (pad.told p).line.notes
    came channel e =
        elim (last_begins None p.line.end.notes channel e) [
          | inl none ↦ absurd (none-some channel none)
          | inr b ↦ begins_after channel p.line.notes (notes.all_told p.line.end.notes) b
        ]

either_had : (v : Bool) (x p : PadState) (number c : ℕ) → (Had x.ports number c → CallIs number c p.ports x.line.notes) → Had (if v then x else p).ports number c
    → CallIs number c p.ports (if v then x else p).line.notes
either_had true x p number c h m = h m
either_had false x p number c h m = inl m

idle_had : (at_number : ℕ) (p : PadState) (number c : ℕ) → Had (pad.after_idle at_number p).ports number c → CallIs number c p.ports (pad.after_idle at_number p).line.notes
idle_had at_number p number c =
    either_had (pad.runs_idle_timer at_number p) (pad.terminal_event at_number port.after_idle p) p number c (terminal_had at_number port.after_idle idle_gives p number c)

timer_had : (id : TimerId) (p : PadState) (number c : ℕ) → Had (pad.after_timer p id).ports number c → CallIs number c p.ports (pad.after_timer p id).line.notes
timer_had (Idle at_number) p number c = idle_had at_number p number c
timer_had id p number c = either_had (runs_at p.line.end id) (pad.line_event (pad.with_expiry p id)) p number c (line_had (pad.with_expiry p id) number c)

event_had : (event : PadEvent) (p : PadState) (number c : ℕ) → Had (after_event event p).ports number c → CallIs number c p.ports (after_event event p).line.notes
event_had (HasKey n octet) p number c = terminal_had n (port.after_key octet) (key_gives octet) p number c
event_had (HasBreak n) p number c = terminal_had n port.after_break break_gives p number c
event_had (HasIdleTime n) p number c = idle_had n p number c
event_had (HasPrinting n) p number c = terminal_had n port.after_print print_gives p number c
event_had (HasLeaving n) p number c = terminal_had n port.after_leaving (λ a c e. absurd (none-some c e)) p number c
event_had (HasArrival n) p number c = terminal_had n port.after_arrival (λ a c e. inl e) p number c
event_had (HasFrame octets) p number c = line_had (pad.with_frame p octets) number c
event_had (HasExpiry id) p number c = timer_had id p number c
event_had HasRelink p number c = line_had (pad.with_relink p) number c
event_had HasRestart p number c = λ m. restarted_none p.ports m.0 m.1 m.2
  where
    restarted_none : (ports : List PortState) (q : PortState) → slice_get (map port.restarted ports) number ≡ Some q → q.call ≡ Some c → CallIs number c p.ports []
    restarted_none ports q at e = by (slice_get ports number) (sym (slice_get-map port.restarted ports number) ∙ at)
      where
        by : (o : Option PortState) → option_map port.restarted o ≡ Some q → CallIs number c p.ports []
        by None k = absurd (none-some q k)
        by (Some x) k = absurd (none-some c (ap (λ (z : PortState). z.call) (same_Some (port.restarted x) q k) ∙ e))
event_had (HasTicks ticks) p number c = λ m. inl (map_had (port.elapsed ticks) (λ x. refl) p.ports number c m.0 m.1 m.2)

pub calls_begin : CallLaw
calls_begin event p number call q r at after e =
    elim (event_had event p number call (r, after, e)) [
      | inl m ↦ inl (ap (λ (x : PortState). x.call) (same_Some q m.0 (sym at ∙ m.1)) ∙ m.2)
      | inr b ↦ inr b
    ]

-- ---- no record goes

noted_grown : (role : Role) (ns : List ChannelNote) (b : Book) → length b.records ≤ length (noted role ns b).records
noted_grown role [] b = omega arith
noted_grown role (note ∷ ns) b =
    let first : length b.records ≤ length (written_by role (write_of note) b).records = grown role note b in
    let later : length (written_by role (write_of note) b).records ≤ length (noted role (note ∷ ns) b).records = noted_grown role ns (written_by role (write_of note) b) in
    omega arith

closed_same : (role : Role) (o : Option ℕ) (c : ℕ) (b : Book) → length (closes_if o role c b).records ≡ length b.records
closed_same role None c b = refl
closed_same role (Some n) c b = closes_length role c b

all_closed_same : (role : Role) (count c : ℕ) (b : Book) → length (closed_from count c role b).records ≡ length b.records
all_closed_same role zero c b = refl
all_closed_same role (suc count) c b = all_closed_same role count (suc c) (closes_present role c b) ∙ closed_same role (slot_at role c b).present c b

event_grown : (event : PadEvent) (role : Role) (p : PadState) (b : Book) → length b.records ≤ length (all_written role (writes_after event p) b).records
event_grown HasRestart role p b = (let same : length (all_written role (writes_after HasRestart p) b).records ≡ length b.records = all_closed_same role (length (side_of role b).slots) 1 b in omega arith)
event_grown event role p b = noted_grown role (after_event event p).line.notes b

beyond : {X : Type 0} (xs : List X) → slice_get xs (length xs) ≡ None
beyond [] = refl
beyond (x ∷ xs) = beyond xs

as_long : {X : Type 0} (xs : List X) (n : ℕ) → slice_get xs n ≡ None → length xs ≤ n
as_long [] n e = omega arith
as_long (x ∷ xs) zero e = absurd (none-some x (sym e))
as_long (x ∷ xs) (suc n) e = (let rest = as_long xs n e in omega arith)

-- ---- what is shown since an arrival

still_there : (role : Role) (number records : ℕ) (s : Course) → HasArrived role number records s → records ≤ length s.book.records
still_there role number records _ (arrives s params count at) =
    (let more : length s.book.records ≤ length (happened role (Here (HasArrival number)) s).book.records = event_grown (HasArrival number) role s.pad s.book in omega (arith, count))
still_there role number records _ (continues {s = s} h event) =
    let before = still_there role number records s h in
    let more : length s.book.records ≤ length (happened role (Here event) s).book.records = event_grown event role s.pad s.book in
    omega arith
still_there role number records _ (elsewhere {s = s} h b away) =
    let before = still_there role number records s h in
    let more : length s.book.records ≤ length b.records = as_long s.book.records (length b.records) (away.none_gone (length b.records) (beyond b.records)) in
    omega arith

-- of a call that the terminal has the record is new
own_since : (role : Role) (number records : ℕ) (s : Course) → HasArrived role number records s → (c n : ℕ) (q : PortState) → IsOn s.pad.ports number c q
    → (slot_at role c s.book).present ≡ Some n → records ≤ n
own_since role number records _ (arrives s params count at) c n q on present =
    absurd (true≢false (sym on.1 ∙ ap (λ (x : PortState). has_channel x.call c) (sym (same_Some (new_port params None) q (sym (arrives_new s.pad number params at) ∙ on.0)))))
own_since role number records _ (continues {s = s} h event) c n q on present =
    elim (stays_on event role s.pad s.book c n number q present on) [
      | inl was ↦ own_since role number records s h c n was.0.0 was.0.1 was.1
      | inr new ↦ (let before = still_there role number records s h in omega (arith, new))
    ]
own_since role number records _ (elsewhere {s = s} h b away) c n q on present = own_since role number records s h c n q on (sym (away.present c) ∙ present)

its_channel : (o : Option ℕ) (c : ℕ) → o ≡ Some c → has_channel o c ≡ true
its_channel o c e = ap (λ (x : Option ℕ). has_channel x c) e ∙ on_itself c

pub shown_since : ShownLaw
shown_since role number records s x h e = by (slice_get s.pad.ports number) refl
  where
    by : (o : Option PortState) → slice_get s.pad.ports number ≡ o → IsShownOf role number records s x
    by None is =
        absurd (none-some x (ap (λ (o : Option PortState). option_map_or (λ found. port.taken_of (pad.with_line number found (pad.begun s.pad))) o None) (sym is) ∙ e))
    by (Some q) is =
        let own = own_packet s.pad number q x is e in
        record { call = own.0; front = own.2; since = λ n present. own_since role number records s h own.0 n q (is, its_channel q.call own.0 own.1) present }
