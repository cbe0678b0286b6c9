-- What may change on a channel without anything new to relay: nothing waits there that did not wait first before, and
-- what it refused it still refuses.
use Rattle.std.proofs.Common.{◌≡◌, ◌≢◌, ℕ, zero, suc, ◌≤◌, ◌⊎◌, inl, inr, Bool, true, false, not, ◌||◌, ◌&&◌, ◌==◌, if◌then◌else◌, cond, nat_le, nat_lt, List, [], ◌∷◌, map, length, set, drop, Option, Some, None, is_some, is_none, refl, sym, ap, subst, ◌∙◌, true≢false, arith}
use Rattle.std.specs.Prelude.{Result, Ok, Err, slice_get}
use Rattle.std.proofs.lemmas.Bool.{eq-eqb, ne_eqb, le-leb, leb-true, cases_eq}
use Rattle.std.proofs.lemmas.List.{length-append}
use Rattle.std.proofs.lemmas.Option.{none-some, same_Some}
use Rattle.link_timers.specs.declared.role.Role.{Role}
use Rattle.link_timers.specs.declared.timers.TimerId.{TimerId}
use Rattle.link_timers.specs.declared.timers.TimerId.TheVariants.{T1, T10, T20, T11, T12, T13, T21, T22, T23, Idle}
use Rattle.frame_codec.proofs.Outcomes.{AreOctets}
use Rattle.lapb.specs.Octets as link_octets
use Rattle.lapb.specs.Machine as link
use Rattle.lapb.specs.Machine.{can_offer}
use Rattle.lapb.specs.declared.note.Note as link_note
use Rattle.lapb.specs.declared.note.Note.TheVariants.{Nothing, Up, Down}
use Rattle.lapb.proofs.AcceptedPacket.{accepted_is}
use Rattle.packet_codec.specs.declared.fault.PacketFault.{PacketFault}
use Rattle.packet_codec.specs.declared.fault.PacketFault.TheVariants.{TooShort, BadFormatId, UnknownType, BadLength, BadAddress, DataTooLong}
use Rattle.packet_codec.specs.declared.packet_type.PacketType.{PacketType}
use Rattle.packet_codec.specs.declared.packet.Numbering.{Numbering}
use Rattle.packet_codec.specs.Packet.{PacketValue, ContentValue, format_id}
use Rattle.packet_codec.specs.Diagnostic.{no_information}
use Rattle.packet_codec.specs.Reading.{reading, typed, named_channel, named_type, format_of}
use Rattle.packet_codec.specs.Reading as codec
use Rattle.data_transfer.specs.declared.flow.Flow.{Flow}
use Rattle.data_transfer.specs.Packets.{CallParts, Datum, Packet, Body}
use Rattle.data_transfer.specs.Packets.Body.{Restart, RestartConfirmation}
use Rattle.packet_channel.specs.Channel.{Channel, Step, Request, Refusal, closed_channel, refused_if, refusal, requested, unless, carried_out, owing, in_transfer, has_flow, moved, next_of, next_owed, ChannelNext, placing, clear_error, received, unreadable}
use Rattle.packet_channel.specs.Channel.Request.{Taking, Releasing}
use Rattle.packet_layer.specs.Layer.{Layer, Phase, Next, nth_channel, channel_of, with_nth, unread, on_found, on_channel, packet_in, restart_packet, served, serve, serve_found, next_number, next_restart, next_in, next_packet, placed_on, call, front_at, front_on}
use Rattle.packet_layer.specs.Layer as machine
use Rattle.packet_layer.specs.Layer.Phase.{NoSession, OwnRestart, PacketReady}
use Rattle.packet_layer.specs.Events.{after_hearing, on_octets, timer_named, on_named}
use Rattle.data_transfer.specs.Octets.{heard_by, body_of, unreadable_as}
use Rattle.data_transfer.specs.Traffic.{Traffic, Taken, front, taking, taking_of, says, says_data, says_flow, says_interrupt, Said, flow_told, window_open, may_release, releasing, interrupt_pending, queue, queue_interrupt}
use Rattle.packet_end.specs.PacketEnd.{PacketEnd, heeded, after_packet, runs_at, expired, after_timer, relinked, offered, all_offered, with_next}
use Rattle.packet_end.specs.PacketEnd as end
use Rattle.switch_lines.specs.Lines.{takes_all, takes_on_channel}
use Rattle.switch_lines.specs.Switch.{quieted}
use Rattle.switch_lines.proofs.Onward.{IsOnward, AreOnward, sends, interrupts}

-- ---- one channel

pub record IsCalmer (role : Role) (flow : Flow) (old new : Option Channel) : Type 0 where
  pub front : (t : Taken) → front_at new ≡ Some t → front_at old ≡ Some t
  pub takes : (qs : List Request) → AreOnward qs → takes_on_channel role flow new qs ≡ true → takes_on_channel role flow old qs ≡ true

same_calm : (role : Role) (flow : Flow) (o : Option Channel) → IsCalmer role flow o o
same_calm role flow o = record { front = λ t e. e; takes = λ qs are e. e }

as_calm : (role : Role) (flow : Flow) (o p : Option Channel) → p ≡ o → IsCalmer role flow o p
as_calm role flow o p e = subst (λ (x : Option Channel). IsCalmer role flow o x) (sym e) (same_calm role flow o)

calm_then : (role : Role) (flow : Flow) (a b d : Option Channel) → IsCalmer role flow a b → IsCalmer role flow b d → IsCalmer role flow a d
calm_then role flow a b d f g = record { front = λ t e. f.front t (g.front t e); takes = λ qs are e. f.takes qs are (g.takes qs are e) }

-- nothing is always taken
takes_nothing : (role : Role) (flow : Flow) (o : Option Channel) → takes_on_channel role flow o [] ≡ true
takes_nothing role flow None = refl
takes_nothing role flow (Some ch) = refl

outside_refuses : (role : Role) (flow : Flow) (q : Request) (ch : Channel) → IsOnward q → in_transfer ch.state ≡ false → is_none (refusal role flow ch q) ≡ false
outside_refuses role flow _ ch (interrupts octets) e = ap (λ (b : Bool). is_none (refused_if (not b) Refusal.NoCall (refused_if ch.resetting Refusal.IsResetting (refused_if ((length octets == 0) || nat_lt 32 (length octets)) Refusal.TooLong (refused_if (interrupt_pending ch.traffic) Refusal.InterruptPending None))))) e
outside_refuses role flow _ ch (sends d) e = ap (λ (b : Bool). is_none (refused_if (not b) Refusal.NoCall (refused_if ch.resetting Refusal.IsResetting (refused_if (nat_le 8 (length ch.traffic.waiting)) Refusal.QueueFull (refused_if (nat_lt flow.size (length d.octets)) Refusal.TooLong None))))) e

outside_takes : (role : Role) (flow : Flow) (old : Option Channel) (ch : Channel) (qs : List Request) → AreOnward qs → in_transfer ch.state ≡ false
    → takes_all role flow ch qs ≡ true → takes_on_channel role flow old qs ≡ true
outside_takes role flow old ch [] are e t = takes_nothing role flow old
outside_takes role flow old ch (q ∷ qs) are e t =
    absurd (true≢false (sym t ∙ ap (λ (b : Bool). b && takes_all role flow (owing (requested role flow ch q)) qs) (outside_refuses role flow q ch are.0 e)))

-- a channel outside data transfer, on which nothing waits that did not wait before
outside_calm : (role : Role) (flow : Flow) (old : Option Channel) (ch : Channel) → in_transfer ch.state ≡ false
    → ((t : Taken) → front ch.traffic ≡ Some t → front_at old ≡ Some t) → IsCalmer role flow old (Some ch)
outside_calm role flow old ch e f = record { front = f; takes = λ qs are t. outside_takes role flow old ch qs are e t }

-- a channel without a call
none_calm : (role : Role) (flow : Flow) (old : Option Channel) (qs : List Request) → takes_on_channel role flow None qs ≡ true → takes_on_channel role flow old qs ≡ true
none_calm role flow old [] e = takes_nothing role flow old
none_calm role flow old (q ∷ qs) e = absurd (true≢false (sym e))

closed_calm : (role : Role) (flow : Flow) (old new : Option Channel) → ((ch : Channel) → new ≡ Some ch → ch ≡ closed_channel) → IsCalmer role flow old new
closed_calm role flow old None closed = record { front = λ t e. absurd (none-some t e); takes = λ qs are e. none_calm role flow old qs e }
closed_calm role flow old (Some ch) closed =
    subst (λ (x : Channel). IsCalmer role flow old (Some x)) (sym (closed ch refl)) (outside_calm role flow old closed_channel refl (λ t e. absurd (none-some t e)))

-- ---- channels by number

set_calm : (role : Role) (flow : Flow) (chs : List Channel) (i j : ℕ) (ch new : Channel) → slice_get chs i ≡ Some ch → IsCalmer role flow (Some ch) (Some new)
    → IsCalmer role flow (slice_get chs j) (slice_get (set chs i new) j)
set_calm role flow [] i j ch new found calm = same_calm role flow None
set_calm role flow (x ∷ xs) zero zero ch new found calm = subst (λ (o : Option Channel). IsCalmer role flow o (Some new)) (sym found) calm
set_calm role flow (x ∷ xs) zero (suc j) ch new found calm = same_calm role flow (slice_get xs j)
set_calm role flow (x ∷ xs) (suc i) zero ch new found calm = same_calm role flow (Some x)
set_calm role flow (x ∷ xs) (suc i) (suc j) ch new found calm = set_calm role flow xs i j ch new found calm

nth_calm : (role : Role) (flow : Flow) (chs : List Channel) (i j : ℕ) (ch new : Channel) → nth_channel chs i ≡ Some ch → IsCalmer role flow (Some ch) (Some new)
    → IsCalmer role flow (nth_channel chs j) (nth_channel (with_nth chs i new) j)
nth_calm role flow chs zero j ch new found calm = same_calm role flow (nth_channel chs j)
nth_calm role flow chs (suc i) zero ch new found calm = same_calm role flow None
nth_calm role flow chs (suc i) (suc j) ch new found calm = set_calm role flow chs i j ch new found calm

set_apart : (chs : List Channel) (i j : ℕ) (new : Channel) → j ≢ i → slice_get (set chs i new) j ≡ slice_get chs j
set_apart [] i j new apart = refl
set_apart (x ∷ xs) zero zero new apart = absurd (apart refl)
set_apart (x ∷ xs) zero (suc j) new apart = refl
set_apart (x ∷ xs) (suc i) zero new apart = refl
set_apart (x ∷ xs) (suc i) (suc j) new apart = set_apart xs i j new (λ e. apart (ap suc e))

nth_apart : (chs : List Channel) (i j : ℕ) (new : Channel) → j ≢ i → nth_channel (with_nth chs i new) j ≡ nth_channel chs j
nth_apart chs zero j new apart = refl
nth_apart chs (suc i) zero new apart = refl
nth_apart chs (suc i) (suc j) new apart = set_apart chs i j new (λ e. apart (ap suc e))

pub closed_slice : (chs : List Channel) (i : ℕ) (ch : Channel) → slice_get (map (λ (x : Channel). closed_channel) chs) i ≡ Some ch → ch ≡ closed_channel
closed_slice [] i ch e = absurd (none-some ch e)
closed_slice (x ∷ xs) zero ch e = sym (same_Some closed_channel ch e)
closed_slice (x ∷ xs) (suc i) ch e = closed_slice xs i ch e

closed_nth : (chs : List Channel) (i : ℕ) (ch : Channel) → nth_channel (map (λ (x : Channel). closed_channel) chs) i ≡ Some ch → ch ≡ closed_channel
closed_nth chs zero ch e = absurd (none-some ch e)
closed_nth chs (suc i) ch e = closed_slice chs i ch e

-- ---- a channel of a layer

pub record IsCalm (old new : Layer) (c : ℕ) : Type 0 where
  pub role : new.role ≡ old.role
  pub flow : new.flow ≡ old.flow
  pub channel : IsCalmer old.role old.flow (channel_of old c) (channel_of new c)

pub same_layer : (l : Layer) (c : ℕ) → IsCalm l l c
same_layer l c = record { role = refl; flow = refl; channel = same_calm l.role l.flow (channel_of l c) }

pub layer_then : (a b d : Layer) (c : ℕ) → IsCalm a b c → IsCalm b d c → IsCalm a d c
layer_then a b d c f g = record {
  role = g.role ∙ f.role;
  flow = g.flow ∙ f.flow;
  channel = calm_then a.role a.flow (channel_of a c) (channel_of b c) (channel_of d c) f.channel
      (subst (λ (w : Flow). IsCalmer a.role w (channel_of b c) (channel_of d c)) f.flow
      (subst (λ (r : Role). IsCalmer r b.flow (channel_of b c) (channel_of d c)) f.role g.channel));
}

all_closed_calm : (l m : Layer) (chs : List Channel) (c : ℕ) → m.role ≡ l.role → m.flow ≡ l.flow → m.channels ≡ map (λ (x : Channel). closed_channel) chs → IsCalm l m c
all_closed_calm l m chs c role flow closed = record {
  role = role;
  flow = flow;
  channel = closed_calm l.role l.flow (channel_of l c) (channel_of m c) (λ ch e. closed_nth chs c ch (sym (ap (λ (xs : List Channel). nth_channel xs c) closed) ∙ e));
}

found_apart : (l : Layer) (k c : ℕ) (f : Channel → Step) (found : Option Channel) → c ≢ k → IsCalm l (on_found l k f found) c
found_apart l k c f None apart = same_layer l c
found_apart l k c f (Some ch) apart = record { role = refl; flow = refl; channel = as_calm l.role l.flow _ _ (nth_apart l.channels k c (owing (f ch)) apart) }

found_calm : (l : Layer) (k c : ℕ) (f : Channel → Step) (found : Option Channel) → channel_of l k ≡ found
    → ((ch : Channel) → IsCalmer l.role l.flow (Some ch) (Some (owing (f ch)))) → IsCalm l (on_found l k f found) c
found_calm l k c f None is calm = same_layer l c
found_calm l k c f (Some ch) is calm = record { role = refl; flow = refl; channel = nth_calm l.role l.flow l.channels k c ch (owing (f ch)) is (calm ch) }

-- ---- the link, timers, calls

heeded_calm : (note : link_note.Note) (e : PacketEnd) (c : ℕ) → IsCalm e.layer (heeded note e).layer c
heeded_calm Nothing e c = same_layer e.layer c
heeded_calm Up e c = all_closed_calm e.layer _ e.layer.channels c refl refl refl
heeded_calm Down e c = all_closed_calm e.layer _ e.layer.channels c refl refl refl

error_calm : (l : Layer) (k c : ℕ) → IsCalm l (on_found l k (λ ch. clear_error l.role k no_information true ch) (channel_of l k)) c
error_calm l k c = found_calm l k c (λ ch. clear_error l.role k no_information true ch) (channel_of l k) refl (λ ch. outside_calm l.role l.flow (Some ch) _ refl (λ t e. absurd (none-some t e)))

timer_calm : (t : machine.Timer) (l : Layer) (c : ℕ) → IsCalm l (machine.expired (unread l) t) c
timer_calm machine.Timer.RestartTimer l c = record { role = refl; flow = refl; channel = same_calm l.role l.flow (channel_of l c) }
timer_calm (machine.Timer.CallTimer k) l c = let i = error_calm (unread l) k c in record { role = i.role; flow = i.flow; channel = i.channel }
timer_calm (machine.Timer.ResetTimer k) l c = let i = error_calm (unread l) k c in record { role = i.role; flow = i.flow; channel = i.channel }
timer_calm (machine.Timer.ClearTimer k) l c = all_closed_calm l _ l.channels c refl refl refl

if_calm : (b : Bool) (old new : Layer) (c : ℕ) → IsCalm old new c → IsCalm old (if b then new else old) c
if_calm true old new c i = i
if_calm false old new c i = same_layer old c

named_calm : (o : Option machine.Timer) (l : Layer) (c : ℕ) → IsCalm l (on_named l o) c
named_calm None l c = same_layer l c
named_calm (Some t) l c = if_calm (machine.runs l t) l (machine.expired (unread l) t) c (timer_calm t l c)

expired_calm : (id : TimerId) (e : PacketEnd) (c : ℕ) → IsCalm e.layer (expired id e).layer c
expired_calm T1 e c = heeded_calm (link.on_t1 e.line.link).note _ c
expired_calm T10 e c = let i = named_calm (timer_named e.layer.role T10) e.layer c in record { role = i.role; flow = i.flow; channel = i.channel }
expired_calm T20 e c = let i = named_calm (timer_named e.layer.role T20) e.layer c in record { role = i.role; flow = i.flow; channel = i.channel }
expired_calm (T11 k) e c = let i = named_calm (timer_named e.layer.role (T11 k)) e.layer c in record { role = i.role; flow = i.flow; channel = i.channel }
expired_calm (T12 k) e c = let i = named_calm (timer_named e.layer.role (T12 k)) e.layer c in record { role = i.role; flow = i.flow; channel = i.channel }
expired_calm (T13 k) e c = let i = named_calm (timer_named e.layer.role (T13 k)) e.layer c in record { role = i.role; flow = i.flow; channel = i.channel }
expired_calm (T21 k) e c = let i = named_calm (timer_named e.layer.role (T21 k)) e.layer c in record { role = i.role; flow = i.flow; channel = i.channel }
expired_calm (T22 k) e c = let i = named_calm (timer_named e.layer.role (T22 k)) e.layer c in record { role = i.role; flow = i.flow; channel = i.channel }
expired_calm (T23 k) e c = let i = named_calm (timer_named e.layer.role (T23 k)) e.layer c in record { role = i.role; flow = i.flow; channel = i.channel }
expired_calm (Idle k) e c = let i = named_calm (timer_named e.layer.role (Idle k)) e.layer c in record { role = i.role; flow = i.flow; channel = i.channel }

cond_calm : (b : Bool) (l : Layer) (d e : PacketEnd) (c : ℕ) → IsCalm l d.layer c → IsCalm l e.layer c → IsCalm l (cond b d e).layer c
cond_calm true l d e c i j = i
cond_calm false l d e c i j = j

unread_calm : (l m : Layer) (c : ℕ) → IsCalm (unread l) m c → IsCalm l m c
unread_calm l m c i = record { role = i.role; flow = i.flow; channel = i.channel }

pub after_timer_calm : (e : PacketEnd) (id : TimerId) (c : ℕ) → IsCalm e.layer (after_timer (quieted e) id).layer c
after_timer_calm e id c =
    unread_calm e.layer _ c (cond_calm (runs_at (quieted e) id) (quieted e).layer (expired id (quieted e)) (quieted e) c (expired_calm id (quieted e) c) (same_layer (quieted e).layer c))

pub relinked_calm : (e : PacketEnd) (c : ℕ) → IsCalm e.layer (relinked (quieted e)).layer c
relinked_calm e c = all_closed_calm e.layer _ e.layer.channels c refl refl refl

placed_calm : (l : Layer) (parts : CallParts) (given : Option ℕ) (c : ℕ) → IsCalm l (placed_on l parts given) c
placed_calm l parts None c = same_layer l c
placed_calm l parts (Some k) c = found_calm l k c (λ ch. placing parts ch) (channel_of l k) refl (λ ch. outside_calm l.role l.flow (Some ch) _ refl (λ t e. e))

pub called_calm : (l : Layer) (parts : CallParts) (c : ℕ) → IsCalm l (call l parts) c
called_calm l parts c = placed_calm l parts (machine.channel_given l l.phase) c

-- ---- a frame, on all channels but that which its packet names

on_phase_apart : (phase : Phase) (l : Layer) (k c : ℕ) (f : Channel → Step) → c ≢ k → IsCalm l (on_channel phase l k f) c
on_phase_apart PacketReady l k c f apart = found_apart l k c f (channel_of l k) apart
on_phase_apart NoSession l k c f apart = same_layer l c
on_phase_apart OwnRestart l k c f apart = same_layer l c

restart_calm : (phase : Phase) (body : Body) (l : Layer) (c : ℕ) → IsCalm l (restart_packet phase body l) c
restart_calm PacketReady (Restart cause diagnostic) l c = all_closed_calm l _ l.channels c refl refl refl
restart_calm PacketReady RestartConfirmation l c = all_closed_calm l _ l.channels c refl refl refl
restart_calm OwnRestart (Restart cause diagnostic) l c = record { role = refl; flow = refl; channel = same_calm l.role l.flow (channel_of l c) }
restart_calm OwnRestart RestartConfirmation l c = record { role = refl; flow = refl; channel = same_calm l.role l.flow (channel_of l c) }
restart_calm phase _ l c = same_layer l c

packet_calm : (l : Layer) (p : Packet) (c : ℕ) → c ≢ p.channel → IsCalm l (packet_in l p) c
packet_calm l p c apart = by_number (cases_eq p.channel 0)
  where
    by_number : (p.channel ≡ 0) ⊎ (p.channel ≡ 0 → ⊥) → IsCalm l (packet_in l p) c
    by_number (inl zero_) =
        subst (λ (b : Bool). IsCalm l (if b then restart_packet l.phase p.body l else on_channel l.phase l p.channel (λ ch. received l.role l.flow p.channel ch p.body)) c)
        (sym (eq-eqb p.channel 0 zero_)) (restart_calm l.phase p.body l c)
    by_number (inr other) =
        subst (λ (b : Bool). IsCalm l (if b then restart_packet l.phase p.body l else on_channel l.phase l p.channel (λ ch. received l.role l.flow p.channel ch p.body)) c)
        (sym (ne_eqb p.channel 0 other)) (on_phase_apart l.phase l p.channel c (λ ch. received l.role l.flow p.channel ch p.body) apart)

unreadable_calm : (l : Layer) (unknown : Bool) (named : Option ℕ) (c : ℕ) → (named ≡ Some c → ⊥) → IsCalm l (after_hearing l (unreadable_as unknown named)) c
unreadable_calm l unknown None c apart = same_layer l c
unreadable_calm l true (Some k) c apart = on_phase_apart l.phase l k c (λ ch. unreadable l.role k true ch) (λ e. apart (ap Some (sym e)))
unreadable_calm l false (Some k) c apart = on_phase_apart l.phase l k c (λ ch. unreadable l.role k false ch) (λ e. apart (ap Some (sym e)))

read_calm : (l : Layer) (octets : List ℕ) (read : Result PacketValue PacketFault) (c : ℕ) → (named_channel octets ≡ Some c → ⊥)
    → ((p : PacketValue) → read ≡ Ok p → named_channel octets ≡ Some p.channel) → IsCalm l (after_hearing l (heard_by octets read)) c
read_calm l octets (Ok p) c apart own =
    packet_calm l (record { channel = p.channel; body = body_of p.content }) c (λ e. apart (own p refl ∙ ap Some (sym e)))
read_calm l octets (Err TooShort) c apart own = same_layer l c
read_calm l octets (Err BadFormatId) c apart own = same_layer l c
read_calm l octets (Err UnknownType) c apart own = unreadable_calm l true (named_channel octets) c apart
read_calm l octets (Err BadLength) c apart own = unreadable_calm l false (named_channel octets) c apart
read_calm l octets (Err BadAddress) c apart own = unreadable_calm l false (named_channel octets) c apart
read_calm l octets (Err DataTooLong) c apart own = unreadable_calm l false (named_channel octets) c apart

content_named : (n : Numbering) (k : ℕ) (content : Result ContentValue PacketFault) (p : PacketValue) → codec.on_channel n k content ≡ Ok p → p.channel ≡ k
content_named n k (Ok content) p e = cc
content_named n k (Err fault) p e = absurd (cc)

typed_named : (n : Numbering) (size : ℕ) (kind : Option PacketType) (first second third : ℕ) (rest : List ℕ) (p : PacketValue) → typed n size kind first second third rest ≡ Ok p
    → p.channel ≡ codec.channel_of first second
typed_named n size None first second third rest p e = absurd (cc)
typed_named n size (Some kind) first second third rest p e =
    content_named n (codec.channel_of first second) (codec.content_of n size kind (codec.bit_8 first) (codec.bit_7 first) third rest) p e

formed_named : (n : Numbering) (size : ℕ) (formed : Bool) (first second third : ℕ) (rest : List ℕ) (p : PacketValue) →
    cond formed (typed n size (named_type n first second third rest) first second third rest) (Err BadFormatId) ≡ Ok p → p.channel ≡ codec.channel_of first second
formed_named n size true first second third rest p e = typed_named n size (named_type n first second third rest) first second third rest p e
formed_named n size false first second third rest p e = absurd (cc)

read_named : (n : Numbering) (size : ℕ) (octets : List ℕ) (p : PacketValue) → reading n size octets ≡ Ok p → named_channel octets ≡ Some p.channel
read_named n size [] p e = absurd (cc)
read_named n size (first ∷ []) p e = absurd (cc)
read_named n size (first ∷ second ∷ []) p e = absurd (cc)
read_named n size (first ∷ second ∷ third ∷ rest) p e = ap Some (sym (formed_named n size (format_of first == format_id n) first second third rest p e))

octets_calm : (l : Layer) (octets : List ℕ) (c : ℕ) → (named_channel octets ≡ Some c → ⊥) → IsCalm l (on_octets l octets) c
octets_calm l octets c apart = unread_calm l _ c (read_calm (unread l) octets (reading l.flow.numbering l.flow.size octets) c apart (read_named l.flow.numbering l.flow.size octets))

brought_calm : (o : Option (List ℕ)) (e : PacketEnd) (c : ℕ) → ((octets : List ℕ) → o ≡ Some octets → named_channel octets ≡ Some c → ⊥)
    → IsCalm e.layer (after_packet o e).layer c
brought_calm None e c apart = same_layer e.layer c
brought_calm (Some octets) e c apart =
    let i = octets_calm e.layer octets c (apart octets refl) in record { role = i.role; flow = i.flow; channel = i.channel }

heard_calm : (note : link_note.Note) (o : Option (List ℕ)) (e : PacketEnd) (c : ℕ) → ((octets : List ℕ) → o ≡ Some octets → named_channel octets ≡ Some c → ⊥)
    → IsCalm e.layer (after_packet o (heeded note e)).layer c
heard_calm note o e c apart =
    layer_then e.layer (heeded note e).layer (after_packet o (heeded note e)).layer c (heeded_calm note e c) (brought_calm o (heeded note e) c apart)

pub received_calm : (e : PacketEnd) (octets : List ℕ) (c : ℕ) → AreOctets octets → (named_channel (drop 2 octets) ≡ Some c → ⊥)
    → IsCalm e.layer (end.received (quieted e) octets).layer c
received_calm e octets c are apart =
    unread_calm e.layer _ c
    (heard_calm (link_octets.on_octets e.line.link octets).note (link_octets.on_octets e.line.link octets).accepted _ c
    (λ packet accepted named. apart (sym (ap (λ (xs : List ℕ). named_channel xs) (accepted_is e.line.link octets are packet accepted)) ∙ named)))

-- ---- requests of the relay

more_full : (n m : ℕ) → n ≤ m → nat_le 8 n ≡ true → nat_le 8 m ≡ true
more_full n m more full = let least = leb-true 8 n full in le-leb 8 m (omega (arith, least, more))

-- what is asked there changes no state, waits no longer before it, and leaves no place more
record LeavesFull (t u : Traffic) : Type 0 where
  waiting : length t.waiting ≤ length u.waiting
  pending : interrupt_pending t ≡ true → interrupt_pending u ≡ true

full_refused : (role : Role) (flow : Flow) (q : Request) (ch : Channel) (u : Traffic) → IsOnward q → LeavesFull ch.traffic u → is_some (refusal role flow ch q) ≡ true
    → is_some (refusal role flow (moved u ch) q) ≡ true
full_refused role flow _ ch u (interrupts octets) h e = by_pending (in_transfer ch.state) ch.resetting ((length octets == 0) || nat_lt 32 (length octets)) (interrupt_pending ch.traffic) (interrupt_pending u) h.pending e
  where
    by_pending : (a b d x y : Bool) → (x ≡ true → y ≡ true)
        → is_some (refused_if (not a) Refusal.NoCall (refused_if b Refusal.IsResetting (refused_if d Refusal.TooLong (refused_if x Refusal.InterruptPending None)))) ≡ true
        → is_some (refused_if (not a) Refusal.NoCall (refused_if b Refusal.IsResetting (refused_if d Refusal.TooLong (refused_if y Refusal.InterruptPending None)))) ≡ true
    by_pending false b d x y more e = refl
    by_pending true true d x y more e = refl
    by_pending true false true x y more e = refl
    by_pending true false false true y more e = ap (λ (z : Bool). is_some (refused_if z Refusal.InterruptPending None)) (more refl)
    by_pending true false false false y more e = absurd (true≢false (sym e))
full_refused role flow _ ch u (sends d) h e =
    by_full (in_transfer ch.state) ch.resetting (nat_le 8 (length ch.traffic.waiting)) (nat_le 8 (length u.waiting)) (nat_lt flow.size (length d.octets)) (more_full (length ch.traffic.waiting) (length u.waiting) h.waiting) e
  where
    by_full : (a b x y z : Bool) → (x ≡ true → y ≡ true)
        → is_some (refused_if (not a) Refusal.NoCall (refused_if b Refusal.IsResetting (refused_if x Refusal.QueueFull (refused_if z Refusal.TooLong None)))) ≡ true
        → is_some (refused_if (not a) Refusal.NoCall (refused_if b Refusal.IsResetting (refused_if y Refusal.QueueFull (refused_if z Refusal.TooLong None)))) ≡ true
    by_full false b x y z more e = refl
    by_full true true x y z more e = refl
    by_full true false true y z more e = ap (λ (w : Bool). is_some (refused_if w Refusal.QueueFull (refused_if z Refusal.TooLong None))) (more refl)
    by_full true false false true z more e = refl
    by_full true false false false z more e = e

-- of what is taken first and then it is so, if it is so of each
first_taken : (role : Role) (flow : Flow) (o p : Option Refusal) (q : Request) (qs : List Request) (ch new : Channel) → (is_some o ≡ true → is_some p ≡ true)
    → (takes_all role flow (owing (carried_out new q)) qs ≡ true → takes_all role flow (owing (carried_out ch q)) qs ≡ true)
    → (is_none p && takes_all role flow (owing (unless p (carried_out new q) new)) qs) ≡ true
    → (is_none o && takes_all role flow (owing (unless o (carried_out ch q) ch)) qs) ≡ true
first_taken role flow None None q qs ch new refused rest e = rest e
first_taken role flow (Some x) None q qs ch new refused rest e = absurd (true≢false (sym (refused refl)))
first_taken role flow o (Some y) q qs ch new refused rest e = absurd (true≢false (sym e))

full_takes : (role : Role) (flow : Flow) (ch : Channel) (u : Traffic) (qs : List Request) → AreOnward qs → LeavesFull ch.traffic u
    → takes_all role flow (moved u ch) qs ≡ true → takes_all role flow ch qs ≡ true
full_takes role flow ch u [] are h e = refl
full_takes role flow ch u (q ∷ qs) are h e =
    first_taken role flow (refusal role flow ch q) (refusal role flow (moved u ch) q) q qs ch (moved u ch) (full_refused role flow q ch u are.0 h)
    (rest q are.0 (λ t v f. full_takes role flow (moved t ch) v qs are.1 f)) e
  where
    rest : (r : Request) → IsOnward r
        → ((t v : Traffic) → LeavesFull t v → takes_all role flow (moved v ch) qs ≡ true → takes_all role flow (moved t ch) qs ≡ true)
        → takes_all role flow (owing (carried_out (moved u ch) r)) qs ≡ true → takes_all role flow (owing (carried_out ch r)) qs ≡ true
    rest _ (sends d) later f =
        let more = length-append ch.traffic.waiting (d ∷ []) in
        let most = length-append u.waiting (d ∷ []) in
        later (queue d ch.traffic) (queue d u) (record { waiting = omega (arith, more, most, h.waiting); pending = h.pending }) f
    rest _ (interrupts octets) later f =
        later (queue_interrupt octets ch.traffic) (queue_interrupt octets u) (record { waiting = h.waiting; pending = λ p. refl }) f

-- what a relay asks: to take, to send and to release
pub data IsRelay : Request → Type 0 where
  takes : IsRelay Taking
  onward : {q : Request} → IsOnward q → IsRelay q
  releases : (n : ℕ) → IsRelay (Releasing n)

taking_full : (a : Option (List ℕ)) (ds : List Datum) (t : Traffic) → LeavesFull t (taking_of a ds t)
taking_full (Some octets) ds t = record { waiting = omega arith; pending = λ e. e }
taking_full None [] t = record { waiting = omega arith; pending = λ e. e }
taking_full None (d ∷ ds) t = record { waiting = omega arith; pending = λ e. e }

releasing_full : (b : Bool) (n : ℕ) (t : Traffic) → LeavesFull t (if b then releasing n t else t)
releasing_full true n t = record { waiting = omega arith; pending = λ e. e }
releasing_full false n t = record { waiting = omega arith; pending = λ e. e }

carried_takes : (role : Role) (flow : Flow) (ch : Channel) (r : Request) (qs : List Request) → IsRelay r → AreOnward qs
    → takes_all role flow (owing (carried_out ch r)) qs ≡ true → takes_all role flow ch qs ≡ true
carried_takes role flow ch _ qs takes are e = full_takes role flow ch (taking ch.traffic) qs are (taking_full ch.traffic.interrupt_arrived ch.traffic.arrived ch.traffic) e
carried_takes role flow ch _ qs (onward (interrupts octets)) are e =
    full_takes role flow ch (queue_interrupt octets ch.traffic) qs are (record { waiting = omega arith; pending = λ p. refl }) e
carried_takes role flow ch _ qs (onward (sends d)) are e =
    full_takes role flow ch (queue d ch.traffic) qs are
    (record { waiting = let long = length-append ch.traffic.waiting (d ∷ []) in omega (arith, long); pending = λ p. p }) e
carried_takes role flow ch _ qs (releases n) are e =
    full_takes role flow ch (if may_release n ch.traffic then releasing n ch.traffic else ch.traffic) qs are (releasing_full (may_release n ch.traffic) n ch.traffic) e

unless_takes : (role : Role) (flow : Flow) (o : Option Refusal) (ch : Channel) (r : Request) (qs : List Request) → IsRelay r → AreOnward qs
    → takes_all role flow (owing (unless o (carried_out ch r) ch)) qs ≡ true → takes_all role flow ch qs ≡ true
unless_takes role flow None ch r qs i are e = carried_takes role flow ch r qs i are e
unless_takes role flow (Some x) ch r qs i are e = e

unless_front : (o : Option Refusal) (ch : Channel) (done : Step) → front done.channel.traffic ≡ front ch.traffic → front (owing (unless o done ch)).traffic ≡ front ch.traffic
unless_front None ch done same = same
unless_front (Some x) ch done same = refl

release_front : (b : Bool) (n : ℕ) (t : Traffic) → front (if b then releasing n t else t) ≡ front t
release_front true n t = refl
release_front false n t = refl

onward_front : (q : Request) (ch : Channel) → IsOnward q → front (carried_out ch q).channel.traffic ≡ front ch.traffic
onward_front _ ch (interrupts octets) = refl
onward_front _ ch (sends d) = refl

-- what is sent and what is released is calm
pub onward_calm : (l : Layer) (k c : ℕ) (q : Request) → IsOnward q → IsCalm l (machine.request l k q) c
onward_calm l k c q i = found_calm l k c (λ ch. requested l.role l.flow ch q) (channel_of l k) refl (λ ch. record {
  front = λ u e. sym (unless_front (refusal l.role l.flow ch q) ch (carried_out ch q) (onward_front q ch i)) ∙ e;
  takes = λ qs are e. unless_takes l.role l.flow (refusal l.role l.flow ch q) ch q qs (onward i) are e;
})

pub releasing_calm : (l : Layer) (k c n : ℕ) → IsCalm l (machine.request l k (Releasing n)) c
releasing_calm l k c n = found_calm l k c (λ ch. requested l.role l.flow ch (Releasing n)) (channel_of l k) refl (λ ch. record {
  front = λ u e. sym (unless_front (refusal l.role l.flow ch (Releasing n)) ch (carried_out ch (Releasing n)) (release_front (may_release n ch.traffic) n ch.traffic)) ∙ e;
  takes = λ qs are e. unless_takes l.role l.flow (refusal l.role l.flow ch (Releasing n)) ch (Releasing n) qs (releases n) are e;
})

-- a request touches no other channel
pub request_apart : (l : Layer) (k c : ℕ) (r : Request) → c ≢ k → IsCalm l (machine.request l k r) c
request_apart l k c r apart = found_apart l k c (λ ch. requested l.role l.flow ch r) (channel_of l k) apart

-- what is taken leaves what the channel refuses
set_takes : (role : Role) (flow : Flow) (qs : List Request) (chs : List Channel) (i j : ℕ) (ch new : Channel) → slice_get chs i ≡ Some ch
    → (takes_all role flow new qs ≡ true → takes_all role flow ch qs ≡ true)
    → takes_on_channel role flow (slice_get (set chs i new) j) qs ≡ true → takes_on_channel role flow (slice_get chs j) qs ≡ true
set_takes role flow qs [] i j ch new found more e = e
set_takes role flow qs (x ∷ xs) zero zero ch new found more e = subst (λ (y : Channel). takes_all role flow y qs ≡ true) (sym (same_Some x ch found)) (more e)
set_takes role flow qs (x ∷ xs) zero (suc j) ch new found more e = e
set_takes role flow qs (x ∷ xs) (suc i) zero ch new found more e = e
set_takes role flow qs (x ∷ xs) (suc i) (suc j) ch new found more e = set_takes role flow qs xs i j ch new found more e

nth_takes : (role : Role) (flow : Flow) (qs : List Request) (chs : List Channel) (i j : ℕ) (ch new : Channel) → nth_channel chs i ≡ Some ch
    → (takes_all role flow new qs ≡ true → takes_all role flow ch qs ≡ true)
    → takes_on_channel role flow (nth_channel (with_nth chs i new) j) qs ≡ true → takes_on_channel role flow (nth_channel chs j) qs ≡ true
nth_takes role flow qs chs zero j ch new found more e = e
nth_takes role flow qs chs (suc i) zero ch new found more e = e
nth_takes role flow qs chs (suc i) (suc j) ch new found more e = set_takes role flow qs chs i j ch new found more e

-- what a channel takes after a request of the relay, it takes before
pub relay_takes : (l : Layer) (k c : ℕ) (qs : List Request) (r : Request) → IsRelay r → AreOnward qs
    → takes_on_channel l.role l.flow (channel_of (machine.request l k r) c) qs ≡ true → takes_on_channel l.role l.flow (channel_of l c) qs ≡ true
relay_takes l k c qs r i are = by_channel (channel_of l k) refl
  where
    by_channel : (found : Option Channel) → channel_of l k ≡ found → takes_on_channel l.role l.flow (channel_of (on_found l k (λ ch. requested l.role l.flow ch r) found) c) qs ≡ true
        → takes_on_channel l.role l.flow (channel_of l c) qs ≡ true
    by_channel None is e = e
    by_channel (Some ch) is e =
        nth_takes l.role l.flow qs l.channels k c ch (owing (requested l.role l.flow ch r)) is (λ f. unless_takes l.role l.flow (refusal l.role l.flow ch r) ch r qs i are f) e

-- ---- packets that go to the link leave what waits first

flow_front : (b : Bool) (t u : Traffic) (o : Option Body) → front u ≡ front t
    → (let yes : Said = record { traffic = t; body = None } in let no : Said = record { traffic = u; body = o } in let said : Said = if b then yes else no in front said.traffic ≡ front t)
flow_front true t u o same = refl
flow_front false t u o same = same

says_flow_front : (flow : Flow) (t : Traffic) → front (says_flow flow t).traffic ≡ front t
says_flow_front flow t = flow_front (flow_told t) t (record t { untold = false; told_stopped = t.stopped }) _ refl

data_front : (b : Bool) (t : Traffic) (x y : Said) → front x.traffic ≡ front t → front y.traffic ≡ front t → (let said : Said = if b then x else y in front said.traffic ≡ front t)
data_front true t x y e f = e
data_front false t x y e f = f

says_data_front : (flow : Flow) (ds : List Datum) (t : Traffic) → front (says_data flow ds t).traffic ≡ front t
says_data_front flow [] t = says_flow_front flow t
says_data_front flow (d ∷ ds) t = data_front (window_open flow t) t _ (says_flow flow t) refl (says_flow_front flow t)

says_interrupt_front : (flow : Flow) (o : Option (List ℕ)) (t : Traffic) → front (says_interrupt flow o t).traffic ≡ front t
says_interrupt_front flow (Some octets) t = refl
says_interrupt_front flow None t = says_data_front flow t.waiting t

says_front : (flow : Flow) (t : Traffic) → front (says flow t).traffic ≡ front t
says_front flow t = data_front t.confirmation_due t _ (says_interrupt flow t.interrupt_waiting t) refl (says_interrupt_front flow t.interrupt_waiting t)

next_front : (flow : Flow) (owed : List Body) (ch : Channel) → front (next_owed flow owed ch).channel.traffic ≡ front ch.traffic
next_front flow (b ∷ bs) ch = refl
next_front flow [] ch = by_flow (has_flow ch)
  where
    by_flow : (flows : Bool) →
        let flowing : ChannelNext = record { channel = moved (says flow ch.traffic).traffic ch; body = (says flow ch.traffic).body } in
        let silent : ChannelNext = record { channel = ch; body = None } in
        let next : ChannelNext = if flows then flowing else silent in
        front next.channel.traffic ≡ front ch.traffic
    by_flow true = says_front flow ch.traffic
    by_flow false = refl

set_front : (chs : List Channel) (i j : ℕ) (ch new : Channel) → slice_get chs i ≡ Some ch → front new.traffic ≡ front ch.traffic
    → front_at (slice_get (set chs i new) j) ≡ front_at (slice_get chs j)
set_front [] i j ch new found same = refl
set_front (x ∷ xs) zero zero ch new found same = same ∙ ap (λ (y : Channel). front y.traffic) (sym (same_Some x ch found))
set_front (x ∷ xs) zero (suc j) ch new found same = refl
set_front (x ∷ xs) (suc i) zero ch new found same = refl
set_front (x ∷ xs) (suc i) (suc j) ch new found same = set_front xs i j ch new found same

nth_front : (chs : List Channel) (i j : ℕ) (ch new : Channel) → nth_channel chs i ≡ Some ch → front new.traffic ≡ front ch.traffic
    → front_at (nth_channel (with_nth chs i new) j) ≡ front_at (nth_channel chs j)
nth_front chs zero j ch new found same = refl
nth_front chs (suc i) zero ch new found same = refl
nth_front chs (suc i) (suc j) ch new found same = set_front chs i j ch new found same

served_front : (l : Layer) (k c : ℕ) (ch : Channel) (body : Option Body) (new : Channel) (others : Next) → channel_of l k ≡ Some ch
    → front new.traffic ≡ front ch.traffic → front_on others.layer c ≡ front_on l c
    → front_on (served l k (record { channel = new; body = body }) others).layer c ≡ front_on l c
served_front l k c ch None new others is same rest = rest
served_front l k c ch (Some body) new others is same rest = nth_front l.channels k c ch new is same

serve_front : (count : ℕ) (l : Layer) (k c : ℕ) → front_on (serve count l k).layer c ≡ front_on l c
serve_front zero l k c = refl
serve_front (suc count) l k c = go (channel_of l k) refl (serve_front count l (next_number l k) c)
  where
    go : (found : Option Channel) → channel_of l k ≡ found → front_on (serve count l (next_number l k)).layer c ≡ front_on l c
        → front_on (serve_found l k found (serve count l (next_number l k))).layer c ≡ front_on l c
    go None is rest = rest
    go (Some ch) is rest =
        served_front l k c ch (next_of l.flow ch).body (next_of l.flow ch).channel (serve count l (next_number l k)) is (next_front l.flow ch.owed ch) rest

restart_front : (owed : List Body) (l : Layer) (c : ℕ) → front_on (next_restart owed l).layer c ≡ front_on l c
restart_front [] l c = serve_front (length l.channels) l (next_number l l.served_last) c
restart_front (b ∷ bs) l c = refl

next_in_front : (phase : Phase) (relink : Bool) (l : Layer) (c : ℕ) → front_on (next_in phase relink l).layer c ≡ front_on l c
next_in_front NoSession relink l c = refl
next_in_front OwnRestart true l c = refl
next_in_front OwnRestart false l c = restart_front l.owed l c
next_in_front PacketReady true l c = refl
next_in_front PacketReady false l c = restart_front l.owed l c

cond_front : (b : Bool) (d e : PacketEnd) (l : Layer) (c : ℕ) → front_on d.layer c ≡ front_on l c → front_on e.layer c ≡ front_on l c → front_on (cond b d e).layer c ≡ front_on l c
cond_front true d e l c f g = f
cond_front false d e l c f g = g

offered_front : (most : ℕ) (e : PacketEnd) (c : ℕ) → front_on (offered most e).layer c ≡ front_on e.layer c
offered_front zero e c = refl
offered_front (suc most) e c =
    let n = next_packet e.layer in
    cond_front (can_offer e.line.link) (cond (is_some n.packet) (offered most (with_next e n)) e) e e.layer c
    (cond_front (is_some n.packet) (offered most (with_next e n)) e e.layer c
    (offered_front most (with_next e n) c ∙ next_in_front e.layer.phase e.layer.relink e.layer c) refl) refl

pub all_offered_front : (e : PacketEnd) (c : ℕ) → front_on (all_offered e).layer c ≡ front_on e.layer c
unfolding all_offered
all_offered_front e c = offered_front 7 e c

-- nor do they change the flow control parameters
served_flow : (l : Layer) (k : ℕ) (ch : Channel) (body : Option Body) (others : Next) → others.layer.flow ≡ l.flow
    → (served l k (record { channel = ch; body = body }) others).layer.flow ≡ l.flow
served_flow l k ch None others same = same
served_flow l k ch (Some body) others same = refl

found_flow : (l : Layer) (k : ℕ) (found : Option Channel) (others : Next) → others.layer.flow ≡ l.flow → (serve_found l k found others).layer.flow ≡ l.flow
found_flow l k None others same = same
found_flow l k (Some ch) others same = served_flow l k (next_of l.flow ch).channel (next_of l.flow ch).body others same

serve_flow : (count : ℕ) (l : Layer) (k : ℕ) → (serve count l k).layer.flow ≡ l.flow
serve_flow zero l k = refl
serve_flow (suc count) l k = found_flow l k (channel_of l k) (serve count l (next_number l k)) (serve_flow count l (next_number l k))

restart_flow : (owed : List Body) (l : Layer) → (next_restart owed l).layer.flow ≡ l.flow
restart_flow [] l = serve_flow (length l.channels) l (next_number l l.served_last)
restart_flow (b ∷ bs) l = refl

next_in_flow : (phase : Phase) (relink : Bool) (l : Layer) → (next_in phase relink l).layer.flow ≡ l.flow
next_in_flow NoSession relink l = refl
next_in_flow OwnRestart true l = refl
next_in_flow OwnRestart false l = restart_flow l.owed l
next_in_flow PacketReady true l = refl
next_in_flow PacketReady false l = restart_flow l.owed l

cond_flow : (b : Bool) (d e : PacketEnd) (w : Flow) → d.layer.flow ≡ w → e.layer.flow ≡ w → (cond b d e).layer.flow ≡ w
cond_flow true d e w f g = f
cond_flow false d e w f g = g

offered_flow : (most : ℕ) (e : PacketEnd) → (offered most e).layer.flow ≡ e.layer.flow
offered_flow zero e = refl
offered_flow (suc most) e =
    let n = next_packet e.layer in
    cond_flow (can_offer e.line.link) (cond (is_some n.packet) (offered most (with_next e n)) e) e e.layer.flow
    (cond_flow (is_some n.packet) (offered most (with_next e n)) e e.layer.flow
    (offered_flow most (with_next e n) ∙ next_in_flow e.layer.phase e.layer.relink e.layer) refl) refl

pub all_offered_flow : (e : PacketEnd) → (all_offered e).layer.flow ≡ e.layer.flow
unfolding all_offered
all_offered_flow e = offered_flow 7 e
