-- Where the timer that is due at a PAD expires, fewer are due after it.
use Rattle.std.specs.Prelude.{◌≡◌, ℕ, zero, suc, ◌+◌, ◌≤◌, ◌<◌, Bool, true, false, ◌&&◌, nat_lt, if◌then◌else◌, List, [], ◌∷◌, map, set, slice_get, slice_set, position, Option, Some, None, is_some}
use Rattle.std.specs.Option.{option_map_or}
use Rattle.std.proofs.Common.{refl, sym, ap, subst, ◌∙◌, true≢false, arith}
use Rattle.std.proofs.lemmas.Bool.{ltb-true, eqb-true}
use Rattle.std.proofs.lemmas.Option.{none-some, same_Some}
use Rattle.link_timers.specs.declared.timers.TimerId.{TimerId}
use Rattle.link_timers.specs.declared.timers.TimerId.TheVariants.{Idle}
use Rattle.link_timers.specs.Timers.{is_due}
use Rattle.packet_layer.specs.LayerTimers as running
use Rattle.packet_layer.specs.LayerTimers.{LayerTimers}
use Rattle.packet_layer.specs.Events.{timer_named}
use Rattle.link_timers.specs.declared.role.Role.{Role}
use Rattle.link_timers.specs.declared.role.Role.TheVariants.{Dte, Dce}
use Rattle.pad_editing.specs.Edited.{Step, key, idle}
use Rattle.data_transfer.specs.Packets.{Datum, Note}
use Rattle.data_transfer.specs.Packets.Note.{Incoming, Connected, Closed, WasReset, InterruptConfirmed, Covered}
use Rattle.data_transfer.specs.Traffic.{Taken}
use Rattle.data_transfer.specs.Traffic.Taken.{TakenInterrupt, TakenPacket}
use Rattle.packet_channel.specs.Channel.{Refusal}
use Rattle.packet_channel.specs.Channel.Request.{Releasing}
use Rattle.packet_layer.specs.Layer.{channel_given, call_refusal}
use Rattle.packet_end.specs.PacketEnd as end
use Rattle.packet_end.specs.PacketEnd.{PacketEnd, begun, received, after_timer, relinked, finished, runs_at}
use Rattle.node_laws.specs.LineRecords.Due as counts
use Rattle.node_laws.proofs.LineRecords.DueEnds.{NoMoreDue, no-more-due, same-due, begun-due, then-due, finished-due, IsFewer, due-expires}
use Rattle.node_laws.proofs.LineRecords.DueCounts.{one_if}
use Rattle.x3_params.specs.Values.{value}
use Rattle.x29_messages.specs.MessageForm.{octets_of}
use Rattle.x29_messages.specs.declared.message.Message.{Message}
use Rattle.pad_terminal.specs.Terminal.{TerminalState, runs_idle_timer, idle_time, is_data_transfer}
use Rattle.pad_terminal.specs.Calls as calls
use Rattle.pad_terminal.specs.Messages as messages
use Rattle.pad_terminal.specs.declared.answers.BreakAnswer.{BreakAnswer}
use Rattle.pad_terminal.specs.declared.answers.BreakAnswer.TheVariants as break_answer
use Rattle.pad_terminal.specs.declared.answers.InputAnswer.{InputAnswer}
use Rattle.pad_terminal.specs.declared.answers.InputAnswer.TheVariants as input
use Rattle.pad_terminal.specs.declared.answers.Reply.{Reply}
use Rattle.pad_terminal.specs.declared.answers.Reply.TheVariants as reply
use Rattle.pad_terminal.specs.declared.answers.TerminalRequest.{TerminalRequest}
use Rattle.pad_terminal.specs.declared.answers.TerminalRequest.TheVariants as request
use Rattle.pad_ports.specs.PadLine as line
use Rattle.pad_ports.specs.PadLine.{last_incoming, all_learnt, learnt_of}
use Rattle.pad_ports.specs.Ports as port
use Rattle.pad_ports.specs.Ports.{PortState, AtLine, brought, has_expired}
use Rattle.pad_ports.specs.PadLine.{PadLine}
use Rattle.x25_pad.specs.Pad as pad
use Rattle.x25_pad.specs.Pad.{PadState, all_heard}
use Rattle.node_laws.specs.Pads.Expiry.{idle_count, due_count, ExpiryLaw}
use Rattle.node_laws.specs.Pads.Standing.{drained}
use Rattle.node_laws.proofs.Pads.Ports.{found_at, changed_for, heard_connected, heard_cleared, heard_reset, heard_none, heard_more}

-- ---- what happens at a terminal leaves all timers but its own, and that is put as the event puts it

module _ (left : Option ℕ) (times : LayerTimers) (t1 : Option ℕ) where
  abbrev pub Stays : AtLine → Type 0
  Stays a = (a.port.idle_left ≡ left) × (a.line.end.timers ≡ times) × (a.line.end.line.t1 ≡ t1)

  on_call_stays : (act : ℕ → AtLine → AtLine) (o : Option ℕ) (a : AtLine) → ((call : ℕ) → Stays (act call a)) → Stays a → Stays (port.on_call act o a)
  on_call_stays act None a f h = h
  on_call_stays act (Some call) a f h = f call

  placed_stays : (o : Option ℕ) (refusal : Option Refusal) (p : PortState) → (port.placed_on o refusal p).idle_left ≡ p.idle_left
  placed_stays None refusal p = refl
  placed_stays (Some channel) refusal p = refl

  does_stays : (r : TerminalRequest) (a : AtLine) → Stays a → Stays (port.does r a)
  does_stays (request.Call s) a h = (placed_stays (channel_given a.line.end.layer a.line.end.layer.phase) (call_refusal a.line.end.layer a.line.end.layer.phase) a.port ∙ h.0, h.1, h.2)
  does_stays request.Clear a h = on_call_stays port.clears a.port.call a (λ call. h) h
  does_stays request.Interrupt a h = on_call_stays port.interrupts a.port.call a (λ call. h) h
  does_stays request.Reset a h = on_call_stays port.resets a.port.call a (λ call. h) h

  asked_stays : (o : Option TerminalRequest) (a : AtLine) → Stays a → Stays (port.does_asked o a)
  asked_stays None a h = h
  asked_stays (Some r) a h = does_stays r a h

  tells_stays : (o : Option Message) (a : AtLine) → Stays a → Stays (port.tells o a)
  tells_stays None a h = h
  tells_stays (Some m) a h = on_call_stays (port.sends (octets_of m) true) a.port.call a (λ call. h) h

  block_stays : (block : Option (List ℕ)) (call : ℕ) (a : AtLine) → Stays a → Stays (port.block_sent block call a)
  block_stays None call a h = h
  block_stays (Some text) call a h = h

  handles_stay : (answer : InputAnswer) (step : Step) (a : AtLine) → Stays a → Stays (port.handles answer step a)
  handles_stay input.Dropped step a h = h
  handles_stay (input.Edited block) step a h = on_call_stays (port.edits step block) a.port.call a (λ call. block_stays block call _ h) h
  handles_stay (input.Taken o) step a h = asked_stays o a h

  break_stays : (answer : BreakAnswer) (a : AtLine) → Stays a → Stays (port.answers_break answer a)
  break_stays break_answer.Dropped a h = h
  break_stays (break_answer.Taken requests) a h = tells_stays requests.indication (port.does_asked requests.request a) (asked_stays requests.request a h)

  replies_stay : (answer : Reply) (a : AtLine) → Stays a → Stays (port.replies answer a)
  replies_stay reply.Nothing a h = h
  replies_stay (reply.Message m) a h = tells_stays (Some m) a h
  replies_stay reply.Clear a h = on_call_stays port.clears a.port.call a (λ call. h) h

  datum_stays : (d : Datum) (qualified : Bool) (a : AtLine) → Stays a → Stays (port.after_datum d qualified a)
  datum_stays d true a h =
      let answered = messages.after_octets d.octets a.port.terminal in
      replies_stay answered.reply (record a { port = port.with_terminal answered.terminal a.port }) h
  datum_stays d false a h = h

  taking_stays : (taken : Taken) (call : ℕ) (a : AtLine) → Stays a → Stays (port.after_taking taken call (port.takes taken call a))
  taking_stays (TakenInterrupt octets) call a h = h
  taking_stays (TakenPacket d) call a h = datum_stays d d.qualified (port.releases (Releasing 1) call (port.takes (TakenPacket d) call a)) h

  next_stays : (o : Option ℕ) (taken : Option Taken) (p : PortState) (l : PadLine) → Stays (record { port = record p { call = o }; line = l })
      → Stays (port.after_taken taken (port.with_taken taken (record { port = record p { call = o }; line = l })))
  next_stays o None p l h = h
  next_stays None (Some taken) p l h = h
  next_stays (Some call) (Some taken) p l h = taking_stays taken call (record { port = record p { call = Some call }; line = l }) h

-- ---- the ends of a PAD

-- where the timers stay, no more are due
same_times : (e f : PacketEnd) → f.timers ≡ e.timers → f.line.t1 ≡ e.line.t1 → NoMoreDue e f
same_times e f t l = record {
  link = (let p : one_if (is_due f.line.t1) ≡ one_if (is_due e.line.t1) = ap (λ (x : Option ℕ). one_if (is_due x)) l in omega (arith, p));
  layer = (let q : running.due_count f.timers ≡ running.due_count e.timers = ap running.due_count t in omega (arith, q));
}

ended_due : (p : PadState) → NoMoreDue p.line.end (pad.ended p).line.end
ended_due p = let f = finished-due p.line.end in record { link = f.link; layer = f.layer }

port_due : (number : ℕ) (act : AtLine → AtLine) (p : PadState) → ((a : AtLine) → ((act a).line.end.timers ≡ a.line.end.timers) × ((act a).line.end.line.t1 ≡ a.line.end.line.t1))
    → NoMoreDue p.line.end (pad.at_port number act p).line.end
port_due number act p f = by (slice_get p.ports number)
  where
    by : (o : Option PortState) → NoMoreDue p.line.end (option_map_or (λ found. pad.acted number p (act (pad.with_line number found p))) o p).line.end
    by None = same-due p.line.end
    by (Some found) =
        let g = f (pad.with_line number found p) in
        same_times p.line.end (act (pad.with_line number found p)).line.end g.0 g.1

terminal_due : (number : ℕ) (act : AtLine → AtLine) (p : PadState) → ((a : AtLine) → ((act a).line.end.timers ≡ a.line.end.timers) × ((act a).line.end.line.t1 ≡ a.line.end.line.t1))
    → NoMoreDue p.line.end (pad.terminal_event number act p).line.end
terminal_due number act p f =
    let b = begun-due p.line.end in
    let q = port_due number act (pad.begun p) f in
    then-due b (then-due q (ended_due (pad.at_port number act (pad.begun p))))

answered_due : (o : Option ℕ) (p : PadState) → NoMoreDue p.line.end (pad.answered o p).line.end
answered_due None p = same-due p.line.end
answered_due (Some channel) p = by (pad.first_free p.ports)
  where
    by : (o : Option ℕ) → NoMoreDue p.line.end (pad.answered_at o channel p).line.end
    by None = same_times p.line.end (line.cleared channel p.line).end refl refl
    by (Some number) = same_times p.line.end (line.accepted channel p.line).end refl refl

line_due : (p : PadState) → NoMoreDue p.line.end (pad.line_event p).line.end
line_due p =
    let t = same_times p.line.end (pad.told p).line.end refl refl in
    let o : Option ℕ = last_incoming None p.line.end.notes in
    then-due t (then-due (answered_due o (pad.told p)) (ended_due (pad.answered o (pad.told p))))

-- ---- each act

pub key_act : (o : ℕ) (a : AtLine) → ((port.after_key o a).port.idle_left ≡ None) × ((port.after_key o a).line.end.timers ≡ a.line.end.timers) × ((port.after_key o a).line.end.line.t1 ≡ a.line.end.line.t1)
key_act o a =
    handles_stay None a.line.end.timers a.line.end.line.t1 (port.key_input o a).answer (key o a.port.terminal.settings.params)
    (record a { port = record a.port { terminal = (port.key_input o a).terminal; idle_left = None } }) (refl, refl, refl)

idle_act : (a : AtLine) → ((port.after_idle a).port.idle_left ≡ None) × ((port.after_idle a).line.end.timers ≡ a.line.end.timers) × ((port.after_idle a).line.end.line.t1 ≡ a.line.end.line.t1)
idle_act a =
    handles_stay None a.line.end.timers a.line.end.line.t1 (port.idle_input a).answer (idle a.port.terminal.settings.params)
    (record a { port = record a.port { terminal = (port.idle_input a).terminal; idle_left = None } }) (refl, refl, refl)

break_act : (a : AtLine) → ((port.after_break a).line.end.timers ≡ a.line.end.timers) × ((port.after_break a).line.end.line.t1 ≡ a.line.end.line.t1)
break_act a =
    let h = break_stays a.port.idle_left a.line.end.timers a.line.end.line.t1 (port.break_answer_of a) (record a { port = port.with_terminal _ a.port }) (refl, refl, refl) in
    (h.1, h.2)

print_act : (a : AtLine) → ((port.after_print a).line.end.timers ≡ a.line.end.timers) × ((port.after_print a).line.end.line.t1 ≡ a.line.end.line.t1)
print_act a =
    let h = next_stays a.port.idle_left a.line.end.timers a.line.end.line.t1 a.port.call (port.taken_of a) (port.with_terminal (calls.without_text a.port.terminal) a.port) a.line (refl, refl, refl) in
    (h.1, h.2)

-- ---- idle timers

-- a port that changes and runs its timer on
count_same : (ports : List PortState) (i : ℕ) (p q : PortState) → slice_get ports i ≡ Some p → q.idle_left ≡ p.idle_left → idle_count (set ports i q) ≡ idle_count ports
count_same [] i p q at e = absurd (none-some p at)
count_same (x ∷ ports) zero p q at e = ap (λ (o : Option ℕ). one_if (has_expired o) + idle_count ports) (e ∙ ap (λ (z : PortState). z.idle_left) (sym (same_Some x p at)))
count_same (x ∷ ports) (suc i) p q at e = ap (λ (n : ℕ). one_if (port.is_due x) + n) (count_same ports i p q at e)

-- one that was due and is not
count_less : (ports : List PortState) (i : ℕ) (p q : PortState) → slice_get ports i ≡ Some p → port.is_due p ≡ true → q.idle_left ≡ None → 1 + idle_count (set ports i q) ≡ idle_count ports
count_less [] i p q at due none = absurd (none-some p at)
count_less (x ∷ ports) zero p q at due none =
    let is : port.is_due x ≡ true = ap (λ (z : PortState). port.is_due z) (same_Some x p at) ∙ due in
    ap (λ (o : Option ℕ). 1 + (one_if (has_expired o) + idle_count ports)) none ∙ zero_more (idle_count ports) ∙ ap (λ (v : Bool). one_if v + idle_count ports) (sym is)
  where
    zero_more : (n : ℕ) → 1 + (0 + n) ≡ 1 + n
    zero_more n = omega arith
count_less (x ∷ ports) (suc i) p q at due none =
    let rest : 1 + idle_count (set ports i q) ≡ idle_count ports = count_less ports i p q at due none in
    omega arith

count_changed : (ports : List PortState) (i : ℕ) (f : PortState → PortState) → ((p : PortState) → (f p).idle_left ≡ p.idle_left) → idle_count (pad.changed_at i f ports) ≡ idle_count ports
count_changed ports i f h = by (slice_get ports i) refl
  where
    by : (o : Option PortState) → slice_get ports i ≡ o → idle_count (option_map_or (λ p. slice_set ports i (f p)) o ports) ≡ idle_count ports
    by None e = refl
    by (Some p) e = count_same ports i p (f p) e (h p)

count_for : (ports : List PortState) (o : Option ℕ) (f : PortState → PortState) → ((p : PortState) → (f p).idle_left ≡ p.idle_left) → idle_count (changed_for o f ports) ≡ idle_count ports
count_for ports None f h = refl
count_for ports (Some i) f h = count_changed ports i f h

one_count : (note : Note) (ports : List PortState) → idle_count (all_heard (learnt_of note) ports) ≡ idle_count ports
one_count (Incoming d parts) ports = ap idle_count (heard_none ports)
one_count (Connected d) ports = ap idle_count (heard_connected d ports) ∙ count_for ports (pad.holder d ports) _ (λ p. refl)
one_count (Closed d cause diagnostic reason) ports = ap idle_count (heard_cleared d cause diagnostic reason ports) ∙ count_for ports (pad.holder d ports) _ (λ p. refl)
one_count (WasReset d cause diagnostic reason) ports = ap idle_count (heard_reset d cause diagnostic reason ports) ∙ count_for ports (pad.holder d ports) _ (λ p. refl)
one_count (InterruptConfirmed d) ports = ap idle_count (heard_none ports)
one_count (Covered d count) ports = ap idle_count (heard_none ports)

heard_count : (ns : List Note) (ports : List PortState) → idle_count (all_heard (all_learnt ns) ports) ≡ idle_count ports
heard_count [] ports = ap idle_count (heard_none ports)
heard_count (note ∷ ns) ports = ap idle_count (heard_more note ns ports) ∙ heard_count ns (all_heard (learnt_of note) ports) ∙ one_count note ports

-- what is started has ticks left
started_later : (t : TerminalState) (left : Option ℕ) → has_expired (brought (idle_time t) left) ≡ true → has_expired left ≡ true
started_later t left h = by (runs_idle_timer t) refl left h
  where
    some_ticks : (a b c d : Bool) → (a && b && c && d) ≡ true → b ≡ true
    some_ticks true true c d e = refl
    some_ticks true false c d e = absurd (true≢false (sym e))
    some_ticks false b c d e = absurd (true≢false (sym e))

    by : (v : Bool) → runs_idle_timer t ≡ v → (o : Option ℕ) → has_expired (brought (if v then Some (value t.settings.params 4) else None) o) ≡ true → has_expired o ≡ true
    by false e o f = absurd (true≢false (sym f))
    by true e (Some n) f = f
    by true e None f =
        let more : 0 < value t.settings.params 4 = ltb-true 0 (value t.settings.params 4) (some_ticks (is_data_transfer t.mode) (nat_lt 0 (value t.settings.params 4)) _ _ e) in
        let none : value t.settings.params 4 ≡ 0 = eqb-true (value t.settings.params 4) 0 f in
        absurd (omega arith)

one_less : (v w : Bool) → (v ≡ true → w ≡ true) → one_if v ≤ one_if w
one_less false w h = omega arith
one_less true true h = omega arith
one_less true false h = absurd (true≢false (sym (h refl)))

settled_count : (l : PadLine) (ports : List PortState) → idle_count (map (port.settled l) ports) ≤ idle_count ports
settled_count l [] = omega arith
settled_count l (q ∷ ports) =
    let first : one_if (port.is_due (port.settled l q)) ≤ one_if (port.is_due q) =
    one_less (port.is_due (port.settled l q)) (port.is_due q) (λ h. started_later (calls.resumed (line.condition q.call l).queue_full q.terminal) q.idle_left h) in
    let rest : idle_count (map (port.settled l) ports) ≤ idle_count ports = settled_count l ports in
    omega arith

ended_count : (p : PadState) → idle_count (pad.ended p).ports ≤ idle_count p.ports
ended_count p =
    let q : PadState = pad.told (pad.with_end (finished p.line.end) p) in
    let heard : idle_count q.ports ≡ idle_count p.ports = heard_count (finished p.line.end).notes p.ports in
    let settled : idle_count (map (port.settled q.line) q.ports) ≤ idle_count q.ports = settled_count q.line q.ports in
    omega arith

answered_count : (o : Option ℕ) (p : PadState) → idle_count (pad.answered o p).ports ≡ idle_count p.ports
answered_count None p = refl
answered_count (Some channel) p = by (pad.first_free p.ports)
  where
    by : (o : Option ℕ) → idle_count (pad.answered_at o channel p).ports ≡ idle_count p.ports
    by None = refl
    by (Some number) = count_changed p.ports number (port.connects channel) (λ q. refl)

line_count : (p : PadState) → idle_count (pad.line_event p).ports ≤ idle_count p.ports
line_count p =
    let o : Option ℕ = last_incoming None p.line.end.notes in
    let heard : idle_count (pad.told p).ports ≡ idle_count p.ports = heard_count p.line.end.notes p.ports in
    let answered : idle_count (pad.answered o (pad.told p)).ports ≡ idle_count (pad.told p).ports = answered_count o (pad.told p) in
    let ended : idle_count (pad.ended (pad.answered o (pad.told p))).ports ≤ idle_count (pad.answered o (pad.told p)).ports = ended_count (pad.answered o (pad.told p)) in
    omega arith

-- ---- a timer that is due

-- of the line
line_fewer : (p : PadState) (id : TimerId) → IsFewer p.line.end id → due_count (drained (pad.after_expiry p id)) < due_count p
line_fewer p id f = by (runs_at p.line.end id) f.runs
  where
    q : PadState
    q = pad.with_end (after_timer (begun p.line.end) id) (pad.begun p)

    by : (v : Bool) → v ≡ true → due_count (drained (if v then pad.line_event q else p)) < due_count p
    by true e =
        let some : counts.due_count (after_timer (begun p.line.end) id) < counts.due_count p.line.end = f.fewer in
        let none : counts.due_count (pad.line_event q).line.end ≤ counts.due_count q.line.end = no-more-due q.line.end (pad.line_event q).line.end (line_due q) in
        let idle : idle_count (pad.line_event q).ports ≤ idle_count p.ports = line_count q in
        omega arith
    by false e = absurd (true≢false (sym e))

-- of a terminal
idle_fewer : (p : PadState) (number : ℕ) (q : PortState) → slice_get p.ports number ≡ Some q → port.is_due q ≡ true → due_count (drained (pad.terminal_event number port.after_idle p)) < due_count p
idle_fewer p number q at due =
    let b : PadState = pad.begun p in
    let act : AtLine = port.after_idle (pad.with_line number q b) in
    let there : pad.at_port number port.after_idle b ≡ pad.acted number b act = ap (λ (o : Option PortState). option_map_or (λ found. pad.acted number b (port.after_idle (pad.with_line number found b))) o b) at in
    let count : 1 + idle_count (set p.ports number act.port) ≡ idle_count p.ports = count_less p.ports number q act.port at due (idle_act (pad.with_line number q b)).0 in
    let ports : idle_count (pad.at_port number port.after_idle b).ports ≡ idle_count (set p.ports number act.port) = ap (λ (x : PadState). idle_count x.ports) there in
    let ended : idle_count (pad.ended (pad.at_port number port.after_idle b)).ports ≤ idle_count (pad.at_port number port.after_idle b).ports = ended_count (pad.at_port number port.after_idle b) in
    let line : counts.due_count (pad.terminal_event number port.after_idle p).line.end ≤ counts.due_count p.line.end =
    no-more-due p.line.end (pad.terminal_event number port.after_idle p).line.end (terminal_due number port.after_idle p (λ a. (let h = idle_act a in (h.1, h.2)))) in
    omega arith

runs_now : (left : Option ℕ) → has_expired left ≡ true → is_some left ≡ true
runs_now None h = absurd (true≢false (sym h))
runs_now (Some n) h = refl

idle_expires : (p : PadState) (number : ℕ) (q : PortState) → slice_get p.ports number ≡ Some q → port.is_due q ≡ true → due_count (drained (pad.after_idle number p)) < due_count p
idle_expires p number q at due = by (pad.runs_idle_timer number p) (ap (λ (o : Option PortState). option_map_or (λ (found : PortState). is_some found.idle_left) o false) at ∙ runs_now q.idle_left due)
  where
    by : (v : Bool) → v ≡ true → due_count (drained (if v then pad.terminal_event number port.after_idle p else p)) < due_count p
    by true e = idle_fewer p number q at due
    by false e = absurd (true≢false (sym e))

-- at an end no idle timer runs
not_named : (role : Role) (number : ℕ) → timer_named role (Idle number) ≡ None
not_named Dte number = refl
not_named Dce number = refl

not_idle : (e : PacketEnd) (number : ℕ) (P : Type 0) → runs_at e (Idle number) ≡ true → P
not_idle e number P h = absurd (true≢false (sym h ∙ ap (running.runs_by_name e.timers) (not_named e.layer.role number)))

end_expires : (p : PadState) (id : TimerId) → IsFewer p.line.end id → due_count (drained (pad.after_timer p id)) < due_count p
end_expires p (Idle number) f = not_idle p.line.end number _ f.runs
end_expires p id f = line_fewer p id f

pub expires : ExpiryLaw
expires p id due = by (end.due p.line.end) refl due
  where
    idle_is : (o : Option ℕ) → position (λ q. port.is_due q) p.ports ≡ o → pad.idle_due o ≡ Some id → due_count (drained (pad.after_timer p id)) < due_count p
    idle_is None e f = absurd (none-some id f)
    idle_is (Some number) e f =
        let g = found_at (λ (q : PortState). port.is_due q) p.ports number e in
        subst (λ (x : TimerId). due_count (drained (pad.after_timer p x)) < due_count p) (same_Some (Idle number) id f) (idle_expires p number g.0 g.1 g.2)

    by : (o : Option TimerId) → end.due p.line.end ≡ o → end.either_timer o (pad.idle_due (position (λ q. port.is_due q) p.ports)) ≡ Some id → due_count (drained (pad.after_timer p id)) < due_count p
    by None e f = idle_is (position (λ q. port.is_due q) p.ports) refl f
    by (Some x) e f = end_expires p id (due-expires p.line.end id (e ∙ f))
