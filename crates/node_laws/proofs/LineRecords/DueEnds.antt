-- Ends of a line: whatever happens to them but time, no timer is due that was not.
use Rattle.std.specs.Prelude.{◌≡◌, ℕ, zero, suc, ◌<◌, ◌≤◌, Bool, true, false, cond, if◌then◌else◌, List, [], ◌∷◌, Option, Some, None, is_some}
use Rattle.std.specs.Option.{option_map}
use Rattle.std.proofs.lemmas.Option.{none-some, same_Some}
use Rattle.std.proofs.Common.{refl, ap, ◌∙◌, subst, arith}
use Rattle.link_timers.specs.declared.role.Role.{Role}
use Rattle.link_timers.specs.declared.role.Role.TheVariants.{Dte, Dce}
use Rattle.link_timers.specs.declared.timers.TimerId.{TimerId}
use Rattle.link_timers.specs.declared.timers.TimerId.TheVariants as timer
use Rattle.link_timers.specs.Timers.{is_due}
use Rattle.lapb.specs.declared.note.Note as link_note
use Rattle.lapb.specs.declared.note.Note.TheVariants.{Nothing, Up, Down}
use Rattle.lapb.specs.declared.note.Timing.{Timing}
use Rattle.lapb.specs.Machine.{Octets, Step, on_t1, can_offer, timing}
use Rattle.lapb.specs.Machine as machine
use Rattle.lapb.specs.Octets as link_octets
use Rattle.line_end.specs.End.{End, timed, did}
use Rattle.line_end.specs.End as line
use Rattle.data_transfer.specs.Packets.{CallParts, Datum}
use Rattle.data_transfer.specs.Traffic.{Taken}
use Rattle.data_transfer.specs.Traffic.Taken.{TakenInterrupt, TakenPacket}
use Rattle.packet_channel.specs.Channel.{Refusal, Request}
use Rattle.packet_layer.specs.Layer.{Timer, next_packet, front_on, call_refusal, request_refusal}
use Rattle.packet_layer.specs.Layer.Timer.{RestartTimer, CallTimer, ResetTimer, ClearTimer}
use Rattle.packet_layer.specs.Events.{timer_named}
use Rattle.packet_layer.specs.LayerTimers as running
use Rattle.packet_layer.specs.LayerTimers.{LayerTimers, left_of, stopped_by_name, runs_by_name, name_of}
use Rattle.packet_end.specs.PacketEnd as end
use Rattle.packet_end.specs.PacketEnd.{PacketEnd, begun, heeded, after_packet, received, runs_at, after_timer, relinked, relinked_if_due, with_next, offered, all_offered, settled, finished, asked, called, due, either_timer}
use Rattle.packet_host.specs.Host.{ended, unless_refused, refuse_refusal, after_call, after_request, after_refuse, after_say, let_go, taken_as, after_take}
use Rattle.data_transfer.specs.Cutting.{cut}
use Rattle.packet_host.specs.Saying.{queued, message, say_refusal}
use Rattle.node_laws.specs.LineRecords.Due.{due_count}
use Rattle.node_laws.proofs.LineRecords.DueCounts.{one_if, stopped-more, stopped-fewer, none-more, brought-more, first-is-due}

-- after a change of an end no more timers are due
pub record NoMoreDue (old new : PacketEnd) : Type 0 where
  pub link : one_if (is_due new.line.t1) ≤ one_if (is_due old.line.t1)
  pub layer : running.due_count new.timers ≤ running.due_count old.timers

pub no-more-due : (old new : PacketEnd) → NoMoreDue old new → due_count new ≤ due_count old
no-more-due old new h =
    let p = h.link in
    let q = h.layer in
    omega (arith, p, q)

pub same-due : (e : PacketEnd) → NoMoreDue e e
same-due e = record { link = omega arith; layer = omega arith }

pub begun-due : (e : PacketEnd) → NoMoreDue e (begun e)
begun-due e = record { link = omega arith; layer = omega arith }

pub then-due : {a b c : PacketEnd} → NoMoreDue a b → NoMoreDue b c → NoMoreDue a c
then-due f g =
    let p = f.link in
    let q = g.link in
    let r = f.layer in
    let s = g.layer in
    record { link = omega (arith, p, q); layer = omega (arith, r, s) }

pub either-due : (v : Bool) (e x y : PacketEnd) → NoMoreDue e x → NoMoreDue e y → NoMoreDue e (cond v x y)
either-due true e x y g h = g
either-due false e x y g h = h

-- ---- the link

pub times : (t : Timing) (t1 : Option ℕ) → one_if (is_due (timed t t1)) ≤ one_if (is_due t1)
times Timing.Keep t1 = omega arith
times Timing.Start t1 = omega arith
times Timing.Stop t1 = omega arith

does : (e : End) (step : Step) → one_if (is_due (did e step).t1) ≤ one_if (is_due e.t1)
does e step = times (timing e.link step) e.t1

-- ---- what comes from the line

heeds : (note : link_note.Note) (old e : PacketEnd) → NoMoreDue old e → NoMoreDue old (heeded note e)
heeds Nothing old e h = h
heeds Up old e h = record { link = h.link; layer = none-more old.timers }
heeds Down old e h = record { link = h.link; layer = none-more old.timers }

packet-comes : (o : Option Octets) (old e : PacketEnd) → NoMoreDue old e → NoMoreDue old (after_packet o e)
packet-comes None old e h = h
packet-comes (Some octets) old e h = record { link = h.link; layer = h.layer }

pub received-due : (e : PacketEnd) (octets : Octets) → NoMoreDue e (received (begun e) octets)
received-due e octets =
    let step = link_octets.on_octets e.line.link octets in
    let x : PacketEnd = record (begun e) { line = line.received (begun e).line octets } in
    packet-comes step.accepted e (heeded step.note x)
    (heeds step.note e x (record { link = does (begun e).line step; layer = omega arith }))

-- T1 expires, and then it is not due
t1-after : (e : PacketEnd) → one_if (is_due (line.expired e.line).t1) ≤ 0
t1-after e = times (timing e.line.link (on_t1 e.line.link)) None

none-named : (o : Option Timer) (timers : LayerTimers) → running.due_count (stopped_by_name timers o) ≤ running.due_count timers
none-named None timers = omega arith
none-named (Some timer) timers = stopped-more timers timer

expired-due : (e : PacketEnd) (id : TimerId) → NoMoreDue e (end.expired id (begun e))
expired-due e timer.T1 =
    let after = t1-after (begun e) in
    heeds (on_t1 e.line.link).note e (record (begun e) { line = line.expired (begun e).line })
    (record { link = omega (arith, after); layer = omega arith })
expired-due e timer.T10 = record { link = omega arith; layer = none-named (timer_named e.layer.role timer.T10) e.timers }
expired-due e timer.T20 = record { link = omega arith; layer = none-named (timer_named e.layer.role timer.T20) e.timers }
expired-due e (timer.T11 c) = record { link = omega arith; layer = none-named (timer_named e.layer.role (timer.T11 c)) e.timers }
expired-due e (timer.T12 c) = record { link = omega arith; layer = none-named (timer_named e.layer.role (timer.T12 c)) e.timers }
expired-due e (timer.T13 c) = record { link = omega arith; layer = none-named (timer_named e.layer.role (timer.T13 c)) e.timers }
expired-due e (timer.T21 c) = record { link = omega arith; layer = none-named (timer_named e.layer.role (timer.T21 c)) e.timers }
expired-due e (timer.T22 c) = record { link = omega arith; layer = none-named (timer_named e.layer.role (timer.T22 c)) e.timers }
expired-due e (timer.T23 c) = record { link = omega arith; layer = none-named (timer_named e.layer.role (timer.T23 c)) e.timers }
expired-due e (timer.Idle t) = record { link = omega arith; layer = none-named (timer_named e.layer.role (timer.Idle t)) e.timers }

pub timer-due : (e : PacketEnd) (id : TimerId) → NoMoreDue e (after_timer (begun e) id)
timer-due e id = either-due (runs_at (begun e) id) e (end.expired id (begun e)) (begun e) (expired-due e id) (begun-due e)

pub relinked-due : (e : PacketEnd) → NoMoreDue e (relinked e)
relinked-due e = record { link = does e.line (machine.relink e.line.link); layer = none-more e.timers }

-- ---- the end of an event

offered-due : (most : ℕ) (e : PacketEnd) → NoMoreDue e (offered most e)
offered-due zero e = same-due e
offered-due (suc most) e =
    let n : PacketEnd = with_next e (next_packet e.layer) in
    let more : NoMoreDue n (offered most n) = offered-due most n in
    either-due (can_offer e.line.link) e (cond (is_some (next_packet e.layer).packet) (offered most n) e) e
    (either-due (is_some (next_packet e.layer).packet) e (offered most n) e (record { link = more.link; layer = more.layer }) (same-due e))
    (same-due e)

settled-due : (e : PacketEnd) → NoMoreDue e (settled e)
settled-due e = record { link = does e.line (machine.settle e.line.link); layer = brought-more e.layer e.timers }

pub finished-due : (e : PacketEnd) → NoMoreDue e (finished e)
unfolding finished all_offered
finished-due e =
    let x : PacketEnd = relinked_if_due e in
    let first : NoMoreDue e x = either-due e.layer.relink e (relinked e) e (relinked-due e) (same-due e) in
    then-due first (then-due (offered-due 7 x) (settled-due (offered 7 x)))

-- ---- what a user asks

pub asked-due : (e : PacketEnd) (channel : ℕ) (r : Request) → NoMoreDue e (asked e channel r)
asked-due e channel r = record { link = omega arith; layer = omega arith }

queued-due : (channel : ℕ) (ds : List Datum) (e : PacketEnd) → NoMoreDue e (queued channel ds e)
queued-due channel [] e = same-due e
queued-due channel (d ∷ ds) e = then-due (asked-due e channel (Request.Sending d)) (queued-due channel ds (asked e channel (Request.Sending d)))

pub ended-due : (old e : PacketEnd) → NoMoreDue old e → NoMoreDue old (ended e)
ended-due old e h = then-due h (then-due (begun-due e) (finished-due (begun e)))

unless-due : (o : Option Refusal) (done e : PacketEnd) → NoMoreDue e done → NoMoreDue e (unless_refused o done e)
unless-due None done e h = h
unless-due (Some r) done e h = same-due e

pub calls-due : (e : PacketEnd) (parts : CallParts) → NoMoreDue e (after_call e parts)
calls-due e parts =
    unless-due (call_refusal e.layer e.layer.phase) (ended (called e parts)) e
    (ended-due e (called e parts) (record { link = omega arith; layer = omega arith }))

pub asks-due : (e : PacketEnd) (channel : ℕ) (r : Request) → NoMoreDue e (after_request e channel r)
asks-due e channel r = unless-due (request_refusal e.layer channel r) (ended (asked e channel r)) e (ended-due e (asked e channel r) (asked-due e channel r))

pub refuses-due : (e : PacketEnd) (channel : ℕ) → NoMoreDue e (after_refuse e channel)
refuses-due e channel =
    let r : Request = Request.Clearing 0 0 in
    unless-due (refuse_refusal e channel) (ended (asked e channel r)) e (ended-due e (asked e channel r) (asked-due e channel r))

pub says-due : (e : PacketEnd) (channel : ℕ) (octets : List ℕ) (qualified delivery : Bool) → NoMoreDue e (after_say e channel octets qualified delivery)
says-due e channel octets qualified delivery =
    let ds : List Datum = cut e.layer.flow.size (message octets qualified delivery) in
    let x : PacketEnd = queued channel ds e in
    unless-due (say_refusal e.layer channel octets qualified) (ended x) e (ended-due e x (queued-due channel ds e))

let-go-due : (x : Taken) (channel : ℕ) (old e : PacketEnd) → NoMoreDue old e → NoMoreDue old (let_go x channel e)
let-go-due (TakenInterrupt octets) channel old e h = record { link = h.link; layer = h.layer }
let-go-due (TakenPacket d) channel old e h = record { link = h.link; layer = h.layer }

taken-due : (o : Option Taken) (channel : ℕ) (e : PacketEnd) → NoMoreDue e (taken_as o channel e)
taken-due None channel e = same-due e
taken-due (Some x) channel e =
    let y : PacketEnd = asked e channel Request.Taking in
    ended-due e (let_go x channel y) (let-go-due x channel e y (asked-due e channel Request.Taking))

pub takes-due : (e : PacketEnd) (channel : ℕ) → NoMoreDue e (after_take e channel)
takes-due e channel = taken-due (front_on e.layer channel) channel e

-- ---- the timer that is due expires

-- it runs, and after it fewer are due
pub record IsFewer (e : PacketEnd) (id : TimerId) : Type 0 where
  pub runs : runs_at e id ≡ true
  pub fewer : due_count (after_timer (begun e) id) < due_count e

due-runs : (left : Option ℕ) → is_due left ≡ true → is_some left ≡ true
due-runs None h = absurd (let no : false ≡ true = h in cc)
due-runs (Some n) h = refl

t1-expires : (e : PacketEnd) → is_due e.line.t1 ≡ true → IsFewer e timer.T1
t1-expires e due = record { runs = runs; fewer = fewer }
  where
    runs : is_some e.line.t1 ≡ true
    runs = due-runs e.line.t1 due

    x : PacketEnd
    x = record (begun e) { line = line.expired (begun e).line }

    heard : NoMoreDue x (heeded (on_t1 e.line.link).note x)
    heard = heeds (on_t1 e.line.link).note x x (same-due x)

    fewer : due_count (cond (is_some e.line.t1) (heeded (on_t1 e.line.link).note x) (begun e)) < due_count e
    fewer =
        let was : one_if (is_due e.line.t1) ≡ 1 = ap one_if due in
        let after = t1-after (begun e) in
        let q = no-more-due x (heeded (on_t1 e.line.link).note x) heard in
        rw runs (omega (arith, was, after, q))

-- a timer of the packet layer is found by its name
named-back : (role : Role) (t : Timer) → timer_named role (name_of role t) ≡ Some t
named-back Dte RestartTimer = refl
named-back Dte (CallTimer c) = refl
named-back Dte (ResetTimer c) = refl
named-back Dte (ClearTimer c) = refl
named-back Dce RestartTimer = refl
named-back Dce (CallTimer c) = refl
named-back Dce (ResetTimer c) = refl
named-back Dce (ClearTimer c) = refl

-- an expiry by name of a timer that is not T1
record IsLayers (e : PacketEnd) (id : TimerId) : Type 0 where
  runs : runs_at e id ≡ runs_by_name e.timers (timer_named e.layer.role id)
  line : (end.expired id (begun e)).line.t1 ≡ e.line.t1
  timers : (end.expired id (begun e)).timers ≡ stopped_by_name e.timers (timer_named e.layer.role id)

of-layer : (e : PacketEnd) (role : Role) (t : Timer) → IsLayers e (name_of role t)
of-layer e Dte RestartTimer = record { runs = refl; line = refl; timers = refl }
of-layer e Dte (CallTimer c) = record { runs = refl; line = refl; timers = refl }
of-layer e Dte (ResetTimer c) = record { runs = refl; line = refl; timers = refl }
of-layer e Dte (ClearTimer c) = record { runs = refl; line = refl; timers = refl }
of-layer e Dce RestartTimer = record { runs = refl; line = refl; timers = refl }
of-layer e Dce (CallTimer c) = record { runs = refl; line = refl; timers = refl }
of-layer e Dce (ResetTimer c) = record { runs = refl; line = refl; timers = refl }
of-layer e Dce (ClearTimer c) = record { runs = refl; line = refl; timers = refl }

layer-expires : (e : PacketEnd) (t : Timer) → is_due (left_of e.timers t) ≡ true → IsFewer e (name_of e.layer.role t)
layer-expires e t due = record { runs = runs; fewer = fewer }
  where
    id : TimerId
    id = name_of e.layer.role t

    own : IsLayers e id
    own = of-layer e e.layer.role t

    named : timer_named e.layer.role id ≡ Some t
    named = named-back e.layer.role t

    runs : runs_at e id ≡ true
    runs = own.runs ∙ ap (runs_by_name e.timers) named ∙ due-runs (left_of e.timers t) due

    fewer : due_count (cond (runs_at (begun e) id) (end.expired id (begun e)) (begun e)) < due_count e
    fewer =
        let ran : runs_at (begun e) id ≡ true = (of-layer (begun e) e.layer.role t).runs ∙ ap (runs_by_name e.timers) named
        ∙ due-runs (left_of e.timers t) due in
        let line : one_if (is_due (end.expired id (begun e)).line.t1) ≡ one_if (is_due e.line.t1) =
        ap (λ (left : Option ℕ). one_if (is_due left)) own.line in
        let timers : running.due_count (end.expired id (begun e)).timers ≡ running.due_count (stopped_by_name e.timers (Some t)) =
        ap running.due_count (own.timers ∙ ap (stopped_by_name e.timers) named) in
        let less = stopped-fewer e.timers t due in
        rw ran (omega (arith, line, timers, less))

pub due-expires : (e : PacketEnd) (id : TimerId) → due e ≡ Some id → IsFewer e id
due-expires e id is = by (is_due e.line.t1) refl (running.first_due e.timers) refl is
  where
    by : (v : Bool) → is_due e.line.t1 ≡ v → (o : Option Timer) → running.first_due e.timers ≡ o
        → either_timer (if v then Some timer.T1 else None) (option_map (name_of e.layer.role) o) ≡ Some id → IsFewer e id
    by true due o first same = subst (λ (x : TimerId). IsFewer e x) (same_Some timer.T1 id same) (t1-expires e due)
    by false due (Some t) first same =
        subst (λ (x : TimerId). IsFewer e x) (same_Some (name_of e.layer.role t) id same)
        (layer-expires e t (first-is-due e.timers t first))
    by false due None first same = absurd (none-some id same)
