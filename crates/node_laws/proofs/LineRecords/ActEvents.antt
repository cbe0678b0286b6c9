-- What the events of an act that is no user's come to: they are allowed, and what they write is what they tell.
use Rattle.std.specs.Prelude.{◌≡◌, ℕ, zero, suc, ◌≤◌, Bool, true, false, cond, List, [], ◌∷◌, ◌++◌, Option, Some, None, is_some}
use Rattle.std.proofs.Common.{refl, sym, ap, ◌∙◌, arith}
use Rattle.link_timers.specs.declared.role.Role.{Role}
use Rattle.link_timers.specs.declared.timers.TimerId.{TimerId}
use Rattle.link_timers.specs.declared.timers.TimerId.TheVariants as timer
use Rattle.lapb.specs.declared.note.Note as link_note
use Rattle.lapb.specs.declared.note.Note.TheVariants.{Nothing, Up as LinkUp, Down as LinkDown}
use Rattle.lapb.specs.Machine.{Octets, can_offer, on_t1}
use Rattle.lapb.specs.Octets.{on_octets}
use Rattle.data_transfer.specs.Packets.{Packet, Note}
use Rattle.packet_layer.specs.Layer.{Layer, Timer, unread, runs, next_packet, link_up, on_timer, expired}
use Rattle.packet_layer.specs.Layer.Timer.{RestartTimer, CallTimer, ResetTimer, ClearTimer}
use Rattle.packet_layer.specs.Events.{timer_named}
use Rattle.packet_laws.specs.LayerLine as layers
use Rattle.packet_laws.specs.LayerLine.{Event, happens, may_begin, begun, arrives_in, next_of_session}
use Rattle.packet_laws.specs.LayerLine.Event.{Up, Down, Calls, Requests, Expires, Offers, Arrives}
use Rattle.packet_end.specs.PacketEnd.{PacketEnd, runs_at, with_next}
use Rattle.node_laws.specs.Lines.Events.{note_events, packet_events, frame_events, timer_events, expiry_events, offer_events, after_here, cleared}
use Rattle.node_laws.specs.Lines.Events as line_events
use Rattle.node_laws.specs.Lines.Steps.{session_after, Rise}
use Rattle.node_laws.proofs.Lines.Layers.{next_silent}
use Rattle.call_records.specs.Book.{Book, told, all_told}
use Rattle.record_laws.specs.Books.Told.{written, top_after, InOrder}
use Rattle.record_laws.specs.Books.Told as told_by
use Rattle.node_laws.proofs.LineRecords.MovesFromOneEnd.{written_all, tops_after, AllInOrder}

-- ---- events that no user asks for, of which a packet arrives at most as the last

abbrev pub IsPlain : List Event → Type 0
IsPlain [] = Unit {0}
IsPlain (Calls parts ∷ events) = ⊥
IsPlain (Requests channel r ∷ events) = ⊥
IsPlain (Arrives ∷ []) = Unit {0}
IsPlain (Arrives ∷ event ∷ events) = ⊥
IsPlain (event ∷ events) = IsPlain events

plain_packet : (o : Option Octets) → IsPlain (packet_events o)
plain_packet None = tt
plain_packet (Some octets) = tt

plain_step : (s : ℕ) (note : link_note.Note) (o : Option Octets) → IsPlain (note_events s note ++ packet_events o)
plain_step s Nothing o = plain_packet o
plain_step s LinkUp o = plain_packet o
plain_step s LinkDown o = plain_packet o

pub plain_frame : (s : ℕ) (coming : List Octets) (e : PacketEnd) → IsPlain (frame_events s coming e)
plain_frame s [] e = tt
plain_frame s (frame ∷ frames) e = plain_step s (on_octets e.line.link frame).note (on_octets e.line.link frame).accepted

plain_note : (s : ℕ) (note : link_note.Note) → IsPlain (note_events s note)
plain_note s Nothing = tt
plain_note s LinkUp = tt
plain_note s LinkDown = tt

plain_timer : (o : Option Timer) → IsPlain (timer_events o)
plain_timer None = tt
plain_timer (Some t) = tt

pub plain_if : (b : Bool) (events : List Event) → IsPlain events → IsPlain (cond b events [])
plain_if true events h = h
plain_if false events h = tt

plain_expiry : (s : ℕ) (id : TimerId) (e : PacketEnd) → IsPlain (expiry_events s id e)
plain_expiry s timer.T1 e = plain_note s (on_t1 e.line.link).note
plain_expiry s timer.T10 e = plain_timer (timer_named e.layer.role timer.T10)
plain_expiry s timer.T20 e = plain_timer (timer_named e.layer.role timer.T20)
plain_expiry s (timer.T11 c) e = plain_timer (timer_named e.layer.role (timer.T11 c))
plain_expiry s (timer.T12 c) e = plain_timer (timer_named e.layer.role (timer.T12 c))
plain_expiry s (timer.T13 c) e = plain_timer (timer_named e.layer.role (timer.T13 c))
plain_expiry s (timer.T21 c) e = plain_timer (timer_named e.layer.role (timer.T21 c))
plain_expiry s (timer.T22 c) e = plain_timer (timer_named e.layer.role (timer.T22 c))
plain_expiry s (timer.T23 c) e = plain_timer (timer_named e.layer.role (timer.T23 c))
plain_expiry s (timer.Idle c) e = plain_timer (timer_named e.layer.role (timer.Idle c))

pub plain_expires : (s : ℕ) (id : TimerId) (e : PacketEnd) → IsPlain (cond (runs_at e id) (expiry_events s id e) [])
plain_expires s id e = plain_if (runs_at e id) (expiry_events s id e) (plain_expiry s id e)

plain_one : (room says : Bool) (events : List Event) → IsPlain events → IsPlain (cond room (cond says (Offers ∷ events) []) [])
plain_one true true events h = h
plain_one true false events h = tt
plain_one false says events h = tt

pub plain_offers : (most : ℕ) (e : PacketEnd) → IsPlain (offer_events most e)
plain_offers zero e = tt
plain_offers (suc most) e =
    plain_one (can_offer e.line.link) (is_some (next_packet e.layer).packet) (offer_events most (with_next e (next_packet e.layer)))
    (plain_offers most (with_next e (next_packet e.layer)))

-- ---- they are allowed where sessions rise

top_least : (n top : ℕ) (v : Bool) → top ≤ n → cond v n top ≤ n
top_least n top true h = omega arith
top_least n top false h = h

arrives_session : (o : Option ℕ) (v : layers.Line) → (arrives_in o v).me.session ≡ v.me.session
arrives_session None v = refl
arrives_session (Some s) v = accepts_session (next_of_session v s)
  where
    accepts_session : (p : Option Packet) → (layers.accepts s p v.me).session ≡ v.me.session
    accepts_session None = refl
    accepts_session (Some p) = refl

may_arrive : (o : Option ℕ) (mine yours m y : ℕ) → y ≤ m → yours ≤ y → ((s : ℕ) → o ≡ Some s → s ≡ m) → InOrder Arrives o mine yours
may_arrive None mine yours m y h k is = tt
may_arrive (Some s) mine yours m y h k is = let e = is s refl in omega arith

pub in_order : (events : List Event) (v : layers.Line) (mine yours m y : ℕ) → IsPlain events → Rise events m y → mine ≤ m → yours ≤ y →
    ((s : ℕ) → (after_here events v).me.session ≡ Some s → s ≡ session_after events m) → AllInOrder events v mine yours
in_order [] v mine yours m y p rise le le' is = tt
in_order (Up n ∷ events) v mine yours m y p rise le le' is =
    let a : 1 ≤ n = rise.0 in let b : m ≤ n = rise.1 in
    let c : mine ≤ n = omega arith in
    (c, in_order events (happens (Up n) v) (top_after (Up n) v mine) yours n y p rise.2 (top_least n mine (may_begin n v) c) le' is)
in_order (Down ∷ events) v mine yours m y p rise le le' is = (tt, in_order events (happens Down v) mine yours m y p rise le le' is)
in_order (Calls parts ∷ events) v mine yours m y p rise le le' is = absurd p
in_order (Requests channel r ∷ events) v mine yours m y p rise le le' is = absurd p
in_order (Expires t ∷ events) v mine yours m y p rise le le' is = (tt, in_order events (happens (Expires t) v) mine yours m y p rise le le' is)
in_order (Offers ∷ events) v mine yours m y p rise le le' is = (tt, in_order events (happens Offers v) mine yours m y p rise le le' is)
in_order (Arrives ∷ []) v mine yours m y p rise le le' is =
    (may_arrive v.me.session mine yours m y rise.0 le' (λ s e. is s (arrives_session v.me.session v ∙ e)), tt)
in_order (Arrives ∷ event ∷ events) v mine yours m y p rise le le' is = absurd p

pub tops_rise : (events : List Event) (v : layers.Line) (mine m y : ℕ) → Rise events m y → mine ≤ m → tops_after events v mine ≤ session_after events m
tops_rise [] v mine m y rise le = le
tops_rise (Up n ∷ events) v mine m y rise le =
    let b : m ≤ n = rise.1 in
    let c : mine ≤ n = omega arith in
    tops_rise events (happens (Up n) v) (top_after (Up n) v mine) n y rise.2 (top_least n mine (may_begin n v) c)
tops_rise (Down ∷ events) v mine m y rise le = tops_rise events (happens Down v) mine m y rise le
tops_rise (Calls parts ∷ events) v mine m y rise le = tops_rise events (happens (Calls parts) v) mine m y rise le
tops_rise (Requests channel r ∷ events) v mine m y rise le = tops_rise events (happens (Requests channel r) v) mine m y rise le
tops_rise (Expires t ∷ events) v mine m y rise le = tops_rise events (happens (Expires t) v) mine m y rise le
tops_rise (Offers ∷ events) v mine m y rise le = tops_rise events (happens Offers v) mine m y rise le
tops_rise (Arrives ∷ events) v mine m y rise le = tops_rise events (happens Arrives v) mine m y rise.1 le

-- ---- what they write is what they tell

pub told_append : (role : Role) (before more : List Note) (b : Book) → all_told role (before ++ more) b ≡ all_told role more (all_told role before b)
told_append role [] more b = refl
told_append role (note ∷ before) more b = told_append role before more (told role note b)

up_told : (n : ℕ) (v : layers.Line) (may : Bool) → (cond may (record (cleared v) { me = begun n (cleared v).me }) (cleared v)).me.layer.notes ≡ cond may (link_up v.me.layer).notes []
up_told n v true = refl
up_told n v false = refl

runs_same : (l : Layer) (t : Timer) → runs (unread l) t ≡ runs l t
runs_same l RestartTimer = refl
runs_same l (CallTimer c) = refl
runs_same l (ResetTimer c) = refl
runs_same l (ClearTimer c) = refl

expires_told : (l : Layer) (t : Timer) (v : Bool) → runs l t ≡ v →
    (on_timer (unread l) t).notes ≡ cond v (on_timer l t).notes []
expires_told l t true e =
    ap (λ (v : Bool). (cond v (expired (unread (unread l)) t) (unread l)).notes) (runs_same l t ∙ e)
    ∙ sym (ap (λ (v : Bool). (cond v (expired (unread l) t) l).notes) e)
expires_told l t false e =
    ap (λ (v : Bool). (cond v (expired (unread (unread l)) t) (unread l)).notes) (runs_same l t ∙ e)

offers_told : (o : Option ℕ) (e : layers.End) → (layers.offers o (layers.with_layer (unread e.layer) e)).layer.notes ≡ []
offers_told None e = refl
offers_told (Some s) e = next_silent e.layer

arrives_told : (o : Option ℕ) (v : layers.Line) → (arrives_in o (cleared v)).me.layer.notes ≡ told_by.notes_in o v
arrives_told None v = refl
arrives_told (Some s) v = packet_told (next_of_session v s)
  where
    packet_told : (p : Option Packet) → (layers.accepts s p (cleared v).me).layer.notes ≡ told_by.notes_by_packet v.me.layer p
    packet_told None = refl
    packet_told (Some p) = refl

-- the first event, and the others after it
first_written : (role : Role) (event : Event) (events : List Event) (v : layers.Line) (b : Book) →
    written_all role events (happens event v) (written role event v b) ≡ all_told role (line_events.notes_of events (happens event v)) (written role event v b) →
    (happens event (cleared v)).me.layer.notes ≡ told_by.notes_of event v → written role event v b ≡ all_told role (told_by.notes_of event v) b →
    written_all role (event ∷ events) v b ≡ all_told role (line_events.notes_of (event ∷ events) v) b
first_written role event events v b rest is w =
    rest
    ∙ ap (λ (x : Book). all_told role (line_events.notes_of events (happens event v)) x) (w ∙ ap (λ (ns : List Note). all_told role ns b) (sym is))
    ∙ sym (told_append role (happens event (cleared v)).me.layer.notes (line_events.notes_of events (happens event v)) b)

pub plain_written : (role : Role) (events : List Event) (v : layers.Line) (b : Book) → IsPlain events → written_all role events v b ≡ all_told role (line_events.notes_of events v) b
plain_written role [] v b p = refl
plain_written role (Up n ∷ events) v b p =
    first_written role (Up n) events v b (plain_written role events (happens (Up n) v) (written role (Up n) v b) p) (up_told n v (may_begin n v)) refl
plain_written role (Down ∷ events) v b p = first_written role Down events v b (plain_written role events (happens Down v) (written role Down v b) p) refl refl
plain_written role (Calls parts ∷ events) v b p = absurd p
plain_written role (Requests channel r ∷ events) v b p = absurd p
plain_written role (Expires t ∷ events) v b p =
    first_written role (Expires t) events v b (plain_written role events (happens (Expires t) v) (written role (Expires t) v b) p) (expires_told v.me.layer t (runs v.me.layer t) refl) refl
plain_written role (Offers ∷ events) v b p =
    first_written role Offers events v b (plain_written role events (happens Offers v) (written role Offers v b) p) (offers_told v.me.session v.me) refl
plain_written role (Arrives ∷ []) v b p = first_written role Arrives [] v b refl (arrives_told v.me.session v) refl
plain_written role (Arrives ∷ event ∷ events) v b p = absurd p
