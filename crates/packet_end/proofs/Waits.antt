-- An event of one channel leaves what the timers of the others wait for, and so do most requests.
use Rattle.std.proofs.Common.{◌≡◌, ◌≢◌, ℕ, zero, suc, ◌≤◌, Bool, true, false, List, [], ◌∷◌, length, set, refl, sym, ap, ap₂, ◌∙◌, arith}
use Rattle.std.specs.Prelude.{◌&&◌, ◌==◌, cond, if◌then◌else◌, Option, Some, None, is_some, Result, Ok, Err, slice_get}
use Rattle.std.proofs.lemmas.Bool.{ne_eqb}
use Rattle.link_timers.specs.declared.role.Role.{Role}
use Rattle.packet_codec.specs.declared.fault.PacketFault.{PacketFault}
use Rattle.packet_codec.specs.declared.fault.PacketFault.TheVariants.{TooShort, BadFormatId, UnknownType, BadLength, BadAddress, DataTooLong}
use Rattle.packet_codec.specs.declared.packet_type.PacketType.{PacketType}
use Rattle.packet_codec.specs.declared.packet.Numbering.{Numbering}
use Rattle.packet_codec.specs.Packet.{PacketValue, ContentValue, format_id}
use Rattle.packet_codec.specs.Reading.{reading, typed, on_channel, named_channel, named_type, format_of}
use Rattle.packet_codec.specs.Reading as codec
use Rattle.data_transfer.specs.declared.flow.Flow.{Flow}
use Rattle.data_transfer.specs.Packets.{CallParts, Packet, Body}
use Rattle.packet_channel.specs.Channel.{ChannelState, Channel, Step, Request, Refusal, carried_out, unless, refusal, requested, owing, in_transfer, has_flow, moved, next_of, next_owed, ChannelNext, waits_for_call, waits_for_clear, received, unreadable, placing}
use Rattle.packet_channel.specs.Channel.Request.{Accept, Clearing, Resetting, Sending, Interrupting, Stopping, Taking, Releasing, Confirming}
use Rattle.packet_layer.specs.Layer.{Layer, Phase, Timer, nth_channel, channel_of, with_nth, unread, on_found, packet_in, runs_at, serve, serve_found, served, next_number, next_restart, next_in, next_packet, Next, placed_on}
use Rattle.data_transfer.specs.Traffic.{says}
use Rattle.packet_layer.specs.Layer as machine
use Rattle.packet_layer.specs.Layer.Phase.{NoSession, OwnRestart, PacketReady}
use Rattle.data_transfer.specs.Octets.{heard_by, body_of, unreadable_as}
use Rattle.packet_layer.specs.Events.{after_hearing, on_octets}
use Rattle.packet_layer.specs.LayerTimers.{LayerTimers, channel_number}
use Rattle.packet_end.specs.Touched.{has, OthersAgree, NamesAnother, is_of_call}
use Rattle.packet_end.specs.declared.touched.Touched.{Touched}

-- what of a channel its timers depend on
abbrev pub seen : Option Channel → Option (ChannelState × Bool)
seen None = None
seen (Some ch) = Some (ch.state, ch.resetting)

-- the timers of channel `c` have the same to wait for
pub record Alike (old new : Layer) (c : ℕ) : Type 0 where
  pub role : new.role ≡ old.role
  pub phase : new.phase ≡ old.phase
  pub channel : seen (channel_of new c) ≡ seen (channel_of old c)

same_as : (old : Layer) (c : ℕ) → Alike old old c
same_as old c = record { role = refl; phase = refl; channel = refl }

-- ---- the timers that run

-- a test of what is seen of a channel, in r1
abbrev test_in : (ChannelState → Bool → Bool) → Phase → Option (ChannelState × Bool) → Bool
test_in f PacketReady (Some s) = f s.0 s.1
test_in f phase found = false

by_seen : (f : ChannelState → Bool → Bool) (phase : Phase) (found : Option Channel) →
    runs_at (λ ch. f ch.state ch.resetting) phase found ≡ test_in f phase (seen found)
by_seen f NoSession found = refl
by_seen f OwnRestart found = refl
by_seen f PacketReady None = refl
by_seen f PacketReady (Some ch) = refl

tests_alike : (f : ChannelState → Bool → Bool) (p q : Phase) (a b : Option Channel) → p ≡ q → seen a ≡ seen b →
    runs_at (λ ch. f ch.state ch.resetting) p a ≡ runs_at (λ ch. f ch.state ch.resetting) q b
tests_alike f p q a b phase channel = by_seen f p a ∙ ap₂ (test_in f) phase channel ∙ sym (by_seen f q b)

call_alike : (old new : Layer) (c : ℕ) → Alike old new c →
    machine.runs new (machine.Timer.CallTimer c) ≡ machine.runs old (machine.Timer.CallTimer c)
call_alike old new c a =
    ap (λ (role : Role). runs_at (λ ch. waits_for_call role ch.state) new.phase (channel_of new c)) a.role
    ∙ tests_alike (λ s r. waits_for_call old.role s) new.phase old.phase (channel_of new c) (channel_of old c) a.phase
    a.channel

reset_alike : (old new : Layer) (c : ℕ) → Alike old new c →
    machine.runs new (machine.Timer.ResetTimer c) ≡ machine.runs old (machine.Timer.ResetTimer c)
reset_alike old new c a =
    tests_alike (λ s r. in_transfer s && r) new.phase old.phase (channel_of new c) (channel_of old c) a.phase a.channel

clear_alike : (old new : Layer) (c : ℕ) → Alike old new c →
    machine.runs new (machine.Timer.ClearTimer c) ≡ machine.runs old (machine.Timer.ClearTimer c)
clear_alike old new c a =
    tests_alike (λ s r. waits_for_clear s) new.phase old.phase (channel_of new c) (channel_of old c) a.phase a.channel

restart_alike : (old new : Layer) (c : ℕ) → Alike old new c →
    machine.runs new machine.Timer.RestartTimer ≡ machine.runs old machine.Timer.RestartTimer
restart_alike old new c a = ap machine.in_own_restart a.phase

runs_alike : (old new : Layer) (timer : Timer) → Alike old new (channel_number timer) → machine.runs new timer ≡ machine.runs old timer
runs_alike old new machine.Timer.RestartTimer a = restart_alike old new 0 a
runs_alike old new (machine.Timer.CallTimer c) a = call_alike old new c a
runs_alike old new (machine.Timer.ResetTimer c) a = reset_alike old new c a
runs_alike old new (machine.Timer.ClearTimer c) a = clear_alike old new c a

-- what is so of the channels that are not touched stays so
pub others_agree : (old new : Layer) (timers : LayerTimers) (before after : Touched) → OthersAgree old timers before →
    ((c : ℕ) → has after c ≡ false → (has before c ≡ false) × Alike old new c) → OthersAgree new timers after
others_agree old new timers before after agree alike timer is out =
    let kept = alike (channel_number timer) out in
    agree timer is kept.0 ∙ sym (runs_alike old new timer kept.1)

-- ---- a step of one channel

abbrev set_at : List Channel → ℕ → Channel → ℕ → Option Channel
set_at chs i ch j = slice_get (set chs i ch) j

set_seen : (chs : List Channel) (i j : ℕ) (ch new : Channel) → slice_get chs i ≡ Some ch →
    seen (Some new) ≡ seen (Some ch) → seen (set_at chs i new j) ≡ seen (slice_get chs j)
set_seen [] i j ch new found same = refl
set_seen (x ∷ xs) zero zero ch new found same = same ∙ sym (ap seen found)
set_seen (x ∷ xs) zero (suc j) ch new found same = refl
set_seen (x ∷ xs) (suc i) zero ch new found same = refl
set_seen (x ∷ xs) (suc i) (suc j) ch new found same = set_seen xs i j ch new found same

set_apart : (chs : List Channel) (i j : ℕ) (new : Channel) → j ≢ i → set_at chs i new j ≡ slice_get chs j
set_apart [] i j new apart = refl
set_apart (x ∷ xs) zero zero new apart = absurd (apart refl)
set_apart (x ∷ xs) zero (suc j) new apart = refl
set_apart (x ∷ xs) (suc i) zero new apart = refl
set_apart (x ∷ xs) (suc i) (suc j) new apart = set_apart xs i j new (λ e. apart (ap suc e))

nth_seen : (chs : List Channel) (i j : ℕ) (ch new : Channel) → nth_channel chs i ≡ Some ch →
    seen (Some new) ≡ seen (Some ch) → seen (nth_channel (with_nth chs i new) j) ≡ seen (nth_channel chs j)
nth_seen chs zero j ch new found same = refl
nth_seen chs (suc i) zero ch new found same = refl
nth_seen chs (suc i) (suc j) ch new found same = set_seen chs i j ch new found same

nth_apart : (chs : List Channel) (i j : ℕ) (new : Channel) → j ≢ i →
    nth_channel (with_nth chs i new) j ≡ nth_channel chs j
nth_apart chs zero j new apart = refl
nth_apart chs (suc i) zero new apart = refl
nth_apart chs (suc i) (suc j) new apart = set_apart chs i j new (λ e. apart (ap suc e))

found_apart : (l : Layer) (c n : ℕ) (f : Channel → Step) (found : Option Channel) → n ≢ c → Alike l (on_found l c f found) n
found_apart l c n f None apart = same_as l n
found_apart l c n f (Some ch) apart =
    record { role = refl; phase = refl; channel = ap seen (nth_apart l.channels c n (owing (f ch)) apart) }

found_alike : (l : Layer) (c n : ℕ) (f : Channel → Step) (found : Option Channel) → channel_of l c ≡ found →
    ((ch : Channel) → seen (Some (owing (f ch))) ≡ seen (Some ch)) → Alike l (on_found l c f found) n
found_alike l c n f None is same = same_as l n
found_alike l c n f (Some ch) is same =
    record { role = refl; phase = refl; channel = nth_seen l.channels c n ch (owing (f ch)) is (same ch) }

-- ---- what a user asks

pub request_apart : (l : Layer) (c n : ℕ) (r : Request) → n ≢ c → Alike l (machine.request l c r) n
request_apart l c n r apart = found_apart l c n (λ ch. requested l.role l.flow ch r) (channel_of l c) apart

carried_seen : (ch : Channel) (r : Request) → is_of_call r ≡ false →
    seen (Some (owing (carried_out ch r))) ≡ seen (Some ch)
carried_seen ch Accept out = absurd (cc)
carried_seen ch (Clearing cause diagnostic) out = absurd (cc)
carried_seen ch (Resetting cause diagnostic) out = absurd (cc)
carried_seen ch (Sending d) out = refl
carried_seen ch (Interrupting octets) out = refl
carried_seen ch (Stopping b) out = refl
carried_seen ch Taking out = refl
carried_seen ch (Releasing n) out = refl
carried_seen ch Confirming out = refl

unless_seen : (refused : Option Refusal) (done : Step) (ch : Channel) → seen (Some (owing done)) ≡ seen (Some ch) →
    seen (Some (owing (unless refused done ch))) ≡ seen (Some ch)
unless_seen None done ch same = same
unless_seen (Some r) done ch same = refl

pub request_alike : (l : Layer) (c n : ℕ) (r : Request) → is_of_call r ≡ false → Alike l (machine.request l c r) n
request_alike l c n r out =
    found_alike l c n (λ ch. requested l.role l.flow ch r) (channel_of l c) refl
    (λ ch. unless_seen (refusal l.role l.flow ch r) (carried_out ch r) ch (carried_seen ch r out))

-- a request that may begin or end an own call, reset or clear is of another channel
pub request_apart_or_alike : (l : Layer) (c n : ℕ) (r : Request) → (is_of_call r ≡ true → n ≢ c) → Alike l (machine.request l c r) n
request_apart_or_alike l c n r apart = go (is_of_call r) refl
  where
    go : (of_call : Bool) → is_of_call r ≡ of_call → Alike l (machine.request l c r) n
    go true is = request_apart l c n r (apart is)
    go false is = request_alike l c n r is

placed_apart : (l : Layer) (n : ℕ) (parts : CallParts) (given : Option ℕ) → ((c : ℕ) → given ≡ Some c → n ≢ c) →
    Alike l (placed_on l parts given) n
placed_apart l n parts None apart = same_as l n
placed_apart l n parts (Some c) apart =
    found_apart l c n (λ ch. placing parts ch) (channel_of l c) (apart c refl)

pub call_apart : (l : Layer) (n : ℕ) (parts : CallParts) →
    ((c : ℕ) → machine.channel_given l l.phase ≡ Some c → n ≢ c) → Alike l (machine.call l parts) n
call_apart l n parts apart = placed_apart l n parts (machine.channel_given l l.phase) apart

-- a call that is placed is on the channel that it is given, and one that is refused on none
pub call_placed : (l : Layer) (n channel : ℕ) (parts : CallParts) → machine.channel_given l l.phase ≡ Some channel → n ≢ channel →
    Alike l (machine.call l parts) n
call_placed l n channel parts given apart =
    call_apart l n parts (λ c is same. apart (same ∙ the_same c (sym given ∙ is)))
  where
    the_same : (c : ℕ) → Some channel ≡ Some c → c ≡ channel
    the_same c is = cc

none_given : (l : Layer) (phase : Phase) (r : Refusal) → machine.call_refusal l phase ≡ Some r → (c : ℕ) →
    machine.channel_given l phase ≡ Some c → ⊥
none_given l NoSession r refused c given = absurd (cc)
none_given l OwnRestart r refused c given = absurd (cc)
none_given l PacketReady r refused c given = absurd (some (machine.free_channel l.role l.channels) refused given)
  where
    some : (free : Option ℕ) → (if is_some free then None else Some Refusal.NoChannel) ≡ Some r → free ≡ Some c → ⊥
    some None refused given = absurd (cc)
    some (Some d) refused given = absurd (cc)

pub call_refused : (l : Layer) (n : ℕ) (parts : CallParts) (r : Refusal) → machine.call_refusal l l.phase ≡ Some r →
    Alike l (machine.call l parts) n
call_refused l n parts r refused = call_apart l n parts (λ c given same. none_given l l.phase r refused c given)

-- ---- a packet that comes

step_apart : (phase : Phase) (l : Layer) (c n : ℕ) (f : Channel → Step) → n ≢ c →
    Alike l (machine.on_channel phase l c f) n
step_apart PacketReady l c n f apart = found_apart l c n f (channel_of l c) apart
step_apart NoSession l c n f apart = same_as l n
step_apart OwnRestart l c n f apart = same_as l n

packet_apart : (l : Layer) (p : Packet) (n : ℕ) → 1 ≤ p.channel → n ≢ p.channel → Alike l (packet_in l p) n
packet_apart l p n least apart =
    rw (ne_eqb p.channel 0 (λ e. omega (arith, e)))
    (step_apart l.phase l p.channel n (λ ch. received l.role l.flow p.channel ch p.body) apart)

unreadable_apart : (l : Layer) (unknown : Bool) (named : Option ℕ) (n : ℕ) → NamesAnother named n →
    Alike l (after_hearing l (unreadable_as unknown named)) n
unreadable_apart l unknown None n another = absurd another
unreadable_apart l true (Some c) n another = step_apart l.phase l c n (λ ch. unreadable l.role c true ch) another.1
unreadable_apart l false (Some c) n another = step_apart l.phase l c n (λ ch. unreadable l.role c false ch) another.1

read_apart : (l : Layer) (octets : List ℕ) (read : Result PacketValue PacketFault) (n : ℕ) →
    NamesAnother (named_channel octets) n → ((p : PacketValue) → read ≡ Ok p → NamesAnother (Some p.channel) n) →
    Alike l (after_hearing l (heard_by octets read)) n
read_apart l octets (Ok p) n another own =
    packet_apart l (record { channel = p.channel; body = body_of p.content }) n (own p refl).0 (own p refl).1
read_apart l octets (Err TooShort) n another own = same_as l n
read_apart l octets (Err BadFormatId) n another own = same_as l n
read_apart l octets (Err UnknownType) n another own = unreadable_apart l true (named_channel octets) n another
read_apart l octets (Err BadLength) n another own = unreadable_apart l false (named_channel octets) n another
read_apart l octets (Err BadAddress) n another own = unreadable_apart l false (named_channel octets) n another
read_apart l octets (Err DataTooLong) n another own = unreadable_apart l false (named_channel octets) n another

content_named : (numbering : Numbering) (c : ℕ) (content : Result ContentValue PacketFault) (p : PacketValue) →
    on_channel numbering c content ≡ Ok p → p.channel ≡ c
content_named numbering c (Ok content) p e = cc
content_named numbering c (Err fault) p e = absurd (cc)

typed_named : (numbering : Numbering) (size : ℕ) (kind : Option PacketType) (first second third : ℕ) (rest : List ℕ) (p : PacketValue) →
    typed numbering size kind first second third rest ≡ Ok p → p.channel ≡ codec.channel_of first second
typed_named numbering size None first second third rest p e = absurd (cc)
typed_named numbering size (Some kind) first second third rest p e =
    content_named numbering (codec.channel_of first second)
    (codec.content_of numbering size kind (codec.bit_8 first) (codec.bit_7 first) third rest) p e

formed_named : (numbering : Numbering) (size : ℕ) (formed : Bool) (first second third : ℕ) (rest : List ℕ) (p : PacketValue) →
    cond formed (typed numbering size (named_type numbering first second third rest) first second third rest) (Err BadFormatId)
    ≡ Ok p →
    p.channel ≡ codec.channel_of first second
formed_named numbering size true first second third rest p e =
    typed_named numbering size (named_type numbering first second third rest) first second third rest p e
formed_named numbering size false first second third rest p e = absurd (cc)

read_named : (numbering : Numbering) (size : ℕ) (octets : List ℕ) (p : PacketValue) (n : ℕ) → reading numbering size octets ≡ Ok p →
    NamesAnother (named_channel octets) n → NamesAnother (Some p.channel) n
read_named numbering size [] p n e another = absurd another
read_named numbering size (first ∷ []) p n e another = absurd another
read_named numbering size (first ∷ second ∷ []) p n e another = absurd (cc)
read_named numbering size (first ∷ second ∷ third ∷ rest) p n e another =
    rw (formed_named numbering size (format_of first == format_id numbering) first second third rest p e) another

pub octets_apart : (l : Layer) (octets : List ℕ) (n : ℕ) → NamesAnother (named_channel octets) n →
    Alike l (on_octets l octets) n
octets_apart l octets n another =
    let heard_apart =
    read_apart (unread l) octets (reading l.flow.numbering l.flow.size octets) n another
    (λ p e. read_named l.flow.numbering l.flow.size octets p n e another) in
    record { role = heard_apart.role; phase = heard_apart.phase; channel = heard_apart.channel }

-- ---- a packet that goes

next_seen : (flow : Flow) (owed : List Body) (ch : Channel) → seen (Some (next_owed flow owed ch).channel) ≡ seen (Some ch)
next_seen flow (b ∷ bs) ch = refl
next_seen flow [] ch = by_flow (has_flow ch)
  where
    by_flow : (flows : Bool) →
        let flowing : ChannelNext = record { channel = moved (says flow ch.traffic).traffic ch; body = (says flow ch.traffic).body } in
        let silent : ChannelNext = record { channel = ch; body = None } in
        let next : ChannelNext = if flows then flowing else silent in
        seen (Some next.channel) ≡ seen (Some ch)
    by_flow true = refl
    by_flow false = refl

served_alike : (l : Layer) (c n : ℕ) (ch : Channel) (body : Option Body) (new : Channel) (others : Next) →
    channel_of l c ≡ Some ch → seen (Some new) ≡ seen (Some ch) → Alike l others.layer n →
    Alike l (served l c (record { channel = new; body = body }) others).layer n
served_alike l c n ch None new others is same rest = rest
served_alike l c n ch (Some body) new others is same rest =
    record { role = refl; phase = refl; channel = nth_seen l.channels c n ch new is same }

serve_alike : (count : ℕ) (l : Layer) (c n : ℕ) → Alike l (serve count l c).layer n
serve_alike zero l c n = same_as l n
serve_alike (suc count) l c n = go (channel_of l c) refl (serve_alike count l (next_number l c) n)
  where
    go : (found : Option Channel) → channel_of l c ≡ found → Alike l (serve count l (next_number l c)).layer n →
        Alike l (serve_found l c found (serve count l (next_number l c))).layer n
    go None is rest = rest
    go (Some ch) is rest =
        served_alike l c n ch (next_of l.flow ch).body (next_of l.flow ch).channel
        (serve count l (next_number l c)) is (next_seen l.flow ch.owed ch) rest

restart_next_alike : (owed : List Body) (l : Layer) (n : ℕ) → Alike l (next_restart owed l).layer n
restart_next_alike [] l n = serve_alike (length l.channels) l (next_number l l.served_last) n
restart_next_alike (b ∷ bs) l n = record { role = refl; phase = refl; channel = refl }

next_in_alike : (phase : Phase) (relink : Bool) (l : Layer) (n : ℕ) → Alike l (next_in phase relink l).layer n
next_in_alike NoSession relink l n = same_as l n
next_in_alike OwnRestart true l n = same_as l n
next_in_alike OwnRestart false l n = restart_next_alike l.owed l n
next_in_alike PacketReady true l n = same_as l n
next_in_alike PacketReady false l n = restart_next_alike l.owed l n

pub next_alike : (l : Layer) (n : ℕ) → Alike l (next_packet l).layer n
next_alike l n = next_in_alike l.phase l.relink l n
