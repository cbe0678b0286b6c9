-- Every packet of a layer reads back at the other end: so it is from the making on, whatever comes and whatever the user asks.
use Rattle.std.specs.Prelude.{◌≡◌, ℕ, zero, suc, ◌+◌, ◌<◌, ◌≤◌, Bool, true, false, cond, not, ◌&&◌, ◌||◌, ◌==◌, nat_lt, nat_le, List, [], ◌∷◌, ◌++◌, length, map, set, replicate, slice_get, Option, Some, None}
use Rattle.std.proofs.Common.{refl, subst, arith}
use Rattle.std.proofs.lemmas.List.{length-append, length-replicate, length-map, length-set}
use Rattle.std.proofs.lemmas.Option.{slice_get_within}
use Rattle.link_timers.specs.declared.role.Role.{Role}
use Rattle.link_timers.specs.declared.role.Role.TheVariants.{Dte, Dce}
use Rattle.packet_codec.specs.declared.packet.Numbering.TheVariants.{Modulo8, Modulo128}
use Rattle.packet_codec.specs.Packet.{IsPacket, IsLogicalChannel, IsContentOn, spelling, packed}
use Rattle.packet_codec.proofs.Cases.{cond_by}
use Rattle.packet_codec.proofs.Blocks.{length-packed}
use Rattle.packet_codec.proofs.Spellings.{reading-spelling}
use Rattle.packet_codec.specs.declared.packet.Numbering.{Numbering}
use Rattle.data_transfer.specs.Flow.{modulus, shown, ahead_shown}
use Rattle.data_transfer.specs.declared.flow.Flow.{Flow}
use Rattle.data_transfer.specs.Packets.{CallParts, Datum, Body, Packet, Received}
use Rattle.data_transfer.specs.Packets.Body.{Call, Accepted, Clear, ClearConfirmation, Data, Interrupt, InterruptConfirmation, ReceiveReady, ReceiveNotReady, Reset, ResetConfirmation, Restart, RestartConfirmation}
use Rattle.data_transfer.specs.Traffic.{Traffic, Said, Heard, fresh, in_flight, window_open, flow_told, interrupted, unreleased, ready_or_not, may_release, releasing, confirming, taking_of, covers, keeps, arrives, partner_says, hears, says, says_interrupt, says_data, says_flow}
use Rattle.data_transfer.specs.Traffic.Heard.{Keeps, Confirms, Wrong}
use Rattle.packet_channel.specs.Channel.{ChannelState, Channel, Step, Request, Refusal, closed_channel, clear_error, reset_error, far_cleared, after_heard, in_flow_ready, in_own_reset, in_ready, in_own_waiting, in_far_waiting, in_collision, in_own_clear, received_in, received, unreadable_in, unreadable, in_transfer, has_flow, refused_if, refusal, carried_out, unless, requested}
use Rattle.packet_channel.specs.Channel.ChannelState.{Ready, OwnWaiting, FarWaiting, Transfer, Collision, OwnClear}
use Rattle.packet_channel.specs.Channel.Request.{Accept, Clearing, Resetting, Sending, Interrupting, Stopping, Taking, Releasing, Confirming}
use Rattle.packet_layer.specs.Layer.{Layer, Phase, Timer, Next, ChannelNext, channel_of, nth_channel, with_nth, standing_channels, made, is_full, with_owed, owing, unread, link_up, link_down, restart_packet, on_found, on_channel, on_received, runs, expired, on_timer, next_owed, next_of, next_number, served, serve_found, serve, next_restart, next_in, next_packet, placing, placed_on, channel_given, call, request}
use Rattle.packet_layer.specs.Layer.Phase.{NoSession, OwnRestart, PacketReady}
use Rattle.packet_layer.specs.Layer.Timer.{RestartTimer, CallTimer, ResetTimer, ClearTimer}
use Rattle.data_transfer.specs.Octets.{content_of, heard}
use Rattle.packet_layer.specs.Events.{on_octets, after_hearing, written_packet}
use Rattle.packet_laws.specs.Readable.{Every, IfAny, value_of, FitsChannels, FitsRestarts, FitsLine, IsShortDatum, IsInterrupt, TrafficReads, ChannelReads, AllRead, IsReadable, CanBePlaced}
use Rattle.packet_layer.proofs.Serving.{heard_of_reading}

-- ---- facts of each element of a list

every-at : {A : Type 0} (P : A → Type 0) (xs : List A) (i : ℕ) (x : A) → Every P xs → slice_get xs i ≡ Some x → P x
every-at P [] i x all e = absurd (cc)
every-at P (y ∷ ys) zero x all e = let same : y ≡ x = cc in subst P same all.0
every-at P (y ∷ ys) (suc i) x all e = every-at P ys i x all.1 e

every-set : {A : Type 0} (P : A → Type 0) (xs : List A) (i : ℕ) (x : A) → Every P xs → P x → Every P (set xs i x)
every-set P [] i x all p = tt
every-set P (y ∷ ys) zero x all p = (p, all.1)
every-set P (y ∷ ys) (suc i) x all p = (all.0, every-set P ys i x all.1 p)

every-append : {A : Type 0} (P : A → Type 0) (xs : List A) (x : A) → Every P xs → P x → Every P (xs ++ x ∷ [])
every-append P [] x all p = (p, tt)
every-append P (y ∷ ys) x all p = (all.0, every-append P ys x all.1 p)

-- a further packet that is owed
every-owed : (P : Body → Type 0) (owed : List Body) (o : Option Body) → Every P owed → IfAny P o → Every P (with_owed owed o)
every-owed P owed None all p = all
every-owed P owed (Some b) all p =
    cond_by (Every P) (is_full owed) owed (owed ++ b ∷ []) (λ _. all) (λ _. every-append P owed b all p)

-- ---- channels

fresh-reads : (size : ℕ) → TrafficReads size fresh
fresh-reads size = record { waiting_fits = tt; interrupt_fits = tt }

closed-reads : (size : ℕ) → ChannelReads size closed_channel
closed-reads size = (tt, fresh-reads size)

closed-all : (size : ℕ) (chs : List Channel) → Every (ChannelReads size) (map (λ ch. closed_channel) chs)
closed-all size [] = tt
closed-all size (ch ∷ chs) = (closed-reads size, closed-all size chs)

-- what a step of a channel owes, and the channel
abbrev StepReads : (size : ℕ) → Step → Type 0
StepReads size st = ChannelReads size st.channel × IfAny FitsChannels st.owes

clear-reads : (size : ℕ) (role : Role) (c d : ℕ) (had : Bool) (ch : Channel) → ChannelReads size ch → StepReads size (clear_error role c d had ch)
clear-reads size role c d had ch r = ((r.0, fresh-reads size), λ numbering size channel is. is)

reset-reads : (size : ℕ) (role : Role) (c d : ℕ) (ch : Channel) → ChannelReads size ch → StepReads size (reset_error role c d ch)
reset-reads size role c d ch r = ((r.0, fresh-reads size), λ numbering size channel is. is)

far_cleared-reads : (size : ℕ) (c cause d : ℕ) (ch : Channel) → ChannelReads size ch → StepReads size (far_cleared c cause d ch)
far_cleared-reads size c cause d ch r = ((r.0, fresh-reads size), λ numbering size channel is. is)

-- ---- what comes in d1

abbrev HeardReads : (size : ℕ) → Heard → Type 0
HeardReads size (Keeps n t) = TrafficReads size t
HeardReads size (Confirms t) = TrafficReads size t
HeardReads size (Wrong d) = Unit {0}

heard-reads : (size : ℕ) (role : Role) (c : ℕ) (ch : Channel) (h : Heard) → ChannelReads size ch → HeardReads size h → StepReads size (after_heard role c ch h)
heard-reads size role c ch (Keeps n t) r p = ((r.0, p), tt)
heard-reads size role c ch (Confirms t) r p = ((r.0, p), tt)
heard-reads size role c ch (Wrong d) r p = reset-reads size role c d ch r

covers-reads : (flow : Flow) (n : ℕ) (t : Traffic) (f : Traffic → Traffic) → TrafficReads flow.size t → ((u : Traffic) → TrafficReads flow.size u → TrafficReads flow.size (f u)) →
    HeardReads flow.size (keeps f (covers flow n t))
covers-reads flow n t f r go =
    cond_by (λ h. HeardReads flow.size (keeps f h)) (nat_le (ahead_shown flow.numbering t.covered n) (in_flight t)) _ _ (λ _. go _ r) (λ _. tt)

hears-reads : (flow : Flow) (t : Traffic) (b : Body) → TrafficReads flow.size t → HeardReads flow.size (hears flow t b)
hears-reads flow t (Data send receive d) r =
    cond_by (HeardReads flow.size) ((send == shown flow.numbering t.receive_number) && nat_lt (unreleased t) flow.window) (keeps (λ u. arrives d u) (covers flow receive t)) (Wrong 1)
    (λ _. covers-reads flow receive t (λ u. arrives d u) r (λ u s. s)) (λ _. tt)
hears-reads flow t (ReceiveReady receive) r = covers-reads flow receive t (λ u. partner_says false u) r (λ u s. s)
hears-reads flow t (ReceiveNotReady receive) r = covers-reads flow receive t (λ u. partner_says true u) r (λ u s. s)
hears-reads flow t (Interrupt octets) r =
    cond_by (HeardReads flow.size) (interrupted t) (Wrong 0) (Keeps 0 (record t { interrupt_arrived = Some octets })) (λ _. tt) (λ _. r)
hears-reads flow t InterruptConfirmation r =
    cond_by (HeardReads flow.size) t.interrupt_unconfirmed (Confirms (record t { interrupt_unconfirmed = false })) (Wrong 0) (λ _. r) (λ _. tt)
hears-reads flow t _ r = tt

in_flow_ready-reads : (role : Role) (flow : Flow) (c : ℕ) (ch : Channel) (b : Body) → ChannelReads flow.size ch → StepReads flow.size (in_flow_ready role flow c ch b)
in_flow_ready-reads role flow c ch (Clear cause diagnostic) r = far_cleared-reads flow.size c cause diagnostic ch r
in_flow_ready-reads role flow c ch (Reset cause diagnostic) r = ((r.0, fresh-reads flow.size), λ numbering size channel is. is)
in_flow_ready-reads role flow c ch ResetConfirmation r = reset-reads flow.size role c 27 ch r
in_flow_ready-reads role flow c ch (Data send receive d) r =
    heard-reads flow.size role c ch (hears flow ch.traffic (Data send receive d)) r (hears-reads flow ch.traffic (Data send receive d) r.1)
in_flow_ready-reads role flow c ch (ReceiveReady receive) r =
    heard-reads flow.size role c ch (hears flow ch.traffic (ReceiveReady receive)) r (hears-reads flow ch.traffic (ReceiveReady receive) r.1)
in_flow_ready-reads role flow c ch (ReceiveNotReady receive) r =
    heard-reads flow.size role c ch (hears flow ch.traffic (ReceiveNotReady receive)) r (hears-reads flow ch.traffic (ReceiveNotReady receive) r.1)
in_flow_ready-reads role flow c ch (Interrupt octets) r =
    heard-reads flow.size role c ch (hears flow ch.traffic (Interrupt octets)) r (hears-reads flow ch.traffic (Interrupt octets) r.1)
in_flow_ready-reads role flow c ch InterruptConfirmation r =
    heard-reads flow.size role c ch (hears flow ch.traffic InterruptConfirmation) r (hears-reads flow ch.traffic InterruptConfirmation r.1)
in_flow_ready-reads role flow c ch _ r = clear-reads flow.size role c 0 true ch r

-- ---- what comes in the other states

in_own_reset-reads : (size : ℕ) (role : Role) (c : ℕ) (ch : Channel) (b : Body) → ChannelReads size ch → StepReads size (in_own_reset role c ch b)
in_own_reset-reads size role c ch (Clear cause diagnostic) r = far_cleared-reads size c cause diagnostic ch r
in_own_reset-reads size role c ch (Reset cause diagnostic) r = (r, tt)
in_own_reset-reads size role c ch ResetConfirmation r = (r, tt)
in_own_reset-reads size role c ch (Data send receive d) r = (r, tt)
in_own_reset-reads size role c ch (ReceiveReady receive) r = (r, tt)
in_own_reset-reads size role c ch (ReceiveNotReady receive) r = (r, tt)
in_own_reset-reads size role c ch (Interrupt octets) r = (r, tt)
in_own_reset-reads size role c ch InterruptConfirmation r = (r, tt)
in_own_reset-reads size role c ch _ r = clear-reads size role c 0 true ch r

in_ready-reads : (size : ℕ) (role : Role) (c : ℕ) (ch : Channel) (b : Body) → ChannelReads size ch → StepReads size (in_ready role c ch b)
in_ready-reads size role c ch (Call parts) r = (r, tt)
in_ready-reads size role c ch (Clear cause diagnostic) r = (r, λ numbering size channel is. is)
in_ready-reads size role c ch _ r = clear-reads size role c 20 false ch r

in_own_waiting-reads : (size : ℕ) (role : Role) (c : ℕ) (ch : Channel) (b : Body) → ChannelReads size ch → StepReads size (in_own_waiting role c ch b)
in_own_waiting-reads size role c ch Accepted r = (r, tt)
in_own_waiting-reads size role c ch (Call parts) r = (r, tt)
in_own_waiting-reads size role c ch (Clear cause diagnostic) r = far_cleared-reads size c cause diagnostic ch r
in_own_waiting-reads size role c ch _ r = clear-reads size role c 0 true ch r

in_far_waiting-reads : (size : ℕ) (role : Role) (c : ℕ) (ch : Channel) (b : Body) → ChannelReads size ch → StepReads size (in_far_waiting role c ch b)
in_far_waiting-reads size role c ch (Clear cause diagnostic) r = far_cleared-reads size c cause diagnostic ch r
in_far_waiting-reads size role c ch _ r = clear-reads size role c 0 true ch r

in_collision-reads : (size : ℕ) (role : Role) (c : ℕ) (ch : Channel) (b : Body) → ChannelReads size ch → StepReads size (in_collision role c ch b)
in_collision-reads size Dte c ch Accepted r = (r, tt)
in_collision-reads size Dte c ch (Clear cause diagnostic) r = far_cleared-reads size c cause diagnostic ch r
in_collision-reads size Dte c ch _ r = clear-reads size Dte c 0 true ch r
in_collision-reads size Dce c ch (Clear cause diagnostic) r = far_cleared-reads size c cause diagnostic ch r
in_collision-reads size Dce c ch _ r = clear-reads size Dce c 0 true ch r

in_own_clear-reads : (size : ℕ) (ch : Channel) (b : Body) → ChannelReads size ch → StepReads size (in_own_clear ch b)
in_own_clear-reads size ch ClearConfirmation r = (r, tt)
in_own_clear-reads size ch _ r = (r, tt)

received_in-reads : (s : ChannelState) (role : Role) (flow : Flow) (c : ℕ) (ch : Channel) (b : Body) → ChannelReads flow.size ch →
    StepReads flow.size (received_in s role flow c ch b)
received_in-reads Ready role flow c ch b r = in_ready-reads flow.size role c ch b r
received_in-reads OwnWaiting role flow c ch b r = in_own_waiting-reads flow.size role c ch b r
received_in-reads FarWaiting role flow c ch b r = in_far_waiting-reads flow.size role c ch b r
received_in-reads Transfer role flow c ch b r =
    cond_by (StepReads flow.size) ch.resetting (in_own_reset role c ch b) (in_flow_ready role flow c ch b)
    (λ _. in_own_reset-reads flow.size role c ch b r) (λ _. in_flow_ready-reads role flow c ch b r)
received_in-reads Collision role flow c ch b r = in_collision-reads flow.size role c ch b r
received_in-reads OwnClear role flow c ch b r = in_own_clear-reads flow.size ch b r

unreadable_in-reads : (size : ℕ) (s : ChannelState) (role : Role) (c : ℕ) (unknown : Bool) (ch : Channel) → ChannelReads size ch →
    StepReads size (unreadable_in s role c unknown ch)
unreadable_in-reads size Ready role c unknown ch r = clear-reads size role c 0 false ch r
unreadable_in-reads size OwnClear role c unknown ch r = (r, tt)
unreadable_in-reads size Transfer role c unknown ch r =
    cond_by (StepReads size) ch.resetting (clear_error role c (cond unknown 23 0) true ch) (reset_error role c (cond unknown 27 0) ch)
    (λ _. clear-reads size role c 0 true ch r) (λ _. reset-reads size role c 0 ch r)
unreadable_in-reads size OwnWaiting role c unknown ch r = clear-reads size role c 0 true ch r
unreadable_in-reads size FarWaiting role c unknown ch r = clear-reads size role c 0 true ch r
unreadable_in-reads size Collision role c unknown ch r = clear-reads size role c 0 true ch r

-- ---- what the user asks of a channel

released-reads : (size : ℕ) (n : ℕ) (t : Traffic) → TrafficReads size t → TrafficReads size (cond (may_release n t) (releasing n t) t)
released-reads size n t r =
    cond_by (TrafficReads size) (may_release n t) (releasing n t) t
    (λ _. record { waiting_fits = r.waiting_fits; interrupt_fits = r.interrupt_fits })
    (λ _. r)

taken-reads : (size : ℕ) (o : Option (List ℕ)) (ds : List Datum) (t : Traffic) → TrafficReads size t → TrafficReads size (taking_of o ds t)
taken-reads size (Some octets) ds t r = r
taken-reads size None [] t r = r
taken-reads size None (d ∷ ds) t r = r

-- a request that is not refused is short enough
passes : (b : Bool) (x : Refusal) (o : Option Refusal) → refused_if b x o ≡ None → (b ≡ false) × (o ≡ None)
passes true x o e = absurd (cc)
passes false x o e = (refl, e)

not-less : (m n : ℕ) → nat_lt m n ≡ false → n ≤ m
not-less m n e = grind arith

or-false : (a b : Bool) → a || b ≡ false → (a ≡ false) × (b ≡ false)
or-false true b e = absurd (cc)
or-false false b e = (refl, e)

not-empty : (n : ℕ) → (n == 0) ≡ false → 1 ≤ n
not-empty zero e = absurd (cc)
not-empty (suc n) e = omega arith

carried_out-reads : (role : Role) (flow : Flow) (ch : Channel) (r : Request) → refusal role flow ch r ≡ None → ChannelReads flow.size ch → StepReads flow.size (carried_out ch r)
carried_out-reads role flow ch Accept e p = (p, λ numbering size channel is. is)
carried_out-reads role flow ch (Clearing cause diagnostic) e p = ((p.0, fresh-reads flow.size), λ numbering size channel is. is)
carried_out-reads role flow ch (Resetting cause diagnostic) e p = ((p.0, fresh-reads flow.size), λ numbering size channel is. is)
carried_out-reads role flow ch (Sending d) e p =
    let in_call = passes (not (in_transfer ch.state)) Refusal.NoCall _ e in
    let not_resetting = passes ch.resetting Refusal.IsResetting _ in_call.1 in
    let room = passes (nat_le 8 (length ch.traffic.waiting)) Refusal.QueueFull _ not_resetting.1 in
    let short = passes (nat_lt flow.size (length d.octets)) Refusal.TooLong _ room.1 in (
      (
        p.0,
        record {
          waiting_fits = every-append (IsShortDatum flow.size) ch.traffic.waiting d p.1.waiting_fits (not-less flow.size (length d.octets) short.0);
          interrupt_fits = p.1.interrupt_fits;
        },
      ),
      tt,
    )
carried_out-reads role flow ch (Interrupting octets) e p =
    let in_call = passes (not (in_transfer ch.state)) Refusal.NoCall _ e in
    let not_resetting = passes ch.resetting Refusal.IsResetting _ in_call.1 in
    let fits = passes ((length octets == 0) || nat_lt 32 (length octets)) Refusal.TooLong _ not_resetting.1 in
    let both = or-false (length octets == 0) (nat_lt 32 (length octets)) fits.0 in (
      (
        p.0,
        record {
          waiting_fits = p.1.waiting_fits;
          interrupt_fits = (not-empty (length octets) both.0, not-less 32 (length octets) both.1);
        },
      ),
      tt,
    )
carried_out-reads role flow ch (Stopping b) e p = (p, tt)
carried_out-reads role flow ch Taking e p = ((p.0, taken-reads flow.size ch.traffic.interrupt_arrived ch.traffic.arrived ch.traffic p.1), tt)
carried_out-reads role flow ch (Releasing n) e p = ((p.0, released-reads flow.size n ch.traffic p.1), tt)
carried_out-reads role flow ch Confirming e p =
    ((p.0, cond_by (TrafficReads flow.size) ch.traffic.interrupt_taken (confirming ch.traffic) ch.traffic (λ _. p.1) (λ _. p.1)), tt)

requested-reads : (role : Role) (flow : Flow) (ch : Channel) (r : Request) → ChannelReads flow.size ch → StepReads flow.size (requested role flow ch r)
requested-reads role flow ch r p = by_refusal (refusal role flow ch r) refl
  where
    by_refusal : (o : Option Refusal) → refusal role flow ch r ≡ o → StepReads flow.size (unless o (carried_out ch r) ch)
    by_refusal None e = carried_out-reads role flow ch r e p
    by_refusal (Some x) e = (p, tt)

-- ---- a step of one channel of a layer

with_nth-reads : (size : ℕ) (chs : List Channel) (c : ℕ) (ch : Channel) → Every (ChannelReads size) chs → ChannelReads size ch → Every (ChannelReads size) (with_nth chs c ch)
with_nth-reads size chs zero ch all p = all
with_nth-reads size chs (suc i) ch all p = every-set (ChannelReads size) chs i ch all p

with_nth-length : (chs : List Channel) (c : ℕ) (ch : Channel) → length (with_nth chs c ch) ≡ length chs
with_nth-length chs zero ch = refl
with_nth-length chs (suc i) ch = length-set chs i ch

nth-reads : (size : ℕ) (chs : List Channel) (c : ℕ) (ch : Channel) → Every (ChannelReads size) chs → nth_channel chs c ≡ Some ch → ChannelReads size ch
nth-reads size chs zero ch all e = absurd (cc)
nth-reads size chs (suc i) ch all e = every-at (ChannelReads size) chs i ch all e

with_channel : (size : ℕ) (chs : List Channel) (owed : List Body) (c : ℕ) (ch : Channel) → AllRead size chs owed → ChannelReads size ch → AllRead size (with_nth chs c ch) owed
with_channel size chs owed c ch r p = record {
  few = let few = r.few in let same = with_nth-length chs c ch in omega arith;
  channels_read = with_nth-reads size chs c ch r.channels_read p;
  owed_read = r.owed_read;
}

found-reads : (l : Layer) (c : ℕ) (f : Channel → Step) → ((ch : Channel) → ChannelReads l.flow.size ch → StepReads l.flow.size (f ch)) → IsReadable l →
    (o : Option Channel) → channel_of l c ≡ o → IsReadable (on_found l c f o)
found-reads l c f go r None e = r
found-reads l c f go r (Some ch) e =
    let st = go ch (nth-reads l.flow.size l.channels c ch r.channels_read e) in
    with_channel l.flow.size l.channels l.owed c (owing (f ch)) r (every-owed FitsChannels (f ch).channel.owed (f ch).owes st.0.0 st.1, st.0.1)

on_channel-reads : (phase : Phase) (l : Layer) (c : ℕ) (f : Channel → Step) → ((ch : Channel) → ChannelReads l.flow.size ch → StepReads l.flow.size (f ch)) → IsReadable l →
    IsReadable (on_channel phase l c f)
on_channel-reads PacketReady l c f go r = found-reads l c f go r (channel_of l c) refl
on_channel-reads NoSession l c f go r = r
on_channel-reads OwnRestart l c f go r = r

-- ---- restarts

closed : (size : ℕ) (chs : List Channel) (owed : List Body) → AllRead size chs owed → AllRead size (map (λ ch. closed_channel) chs) owed
closed size chs owed r = record {
  few = let few = r.few in let same = length-map chs (λ (ch : Channel). closed_channel) in omega arith;
  channels_read = closed-all size chs;
  owed_read = r.owed_read;
}

owes-reads : (size : ℕ) (chs : List Channel) (owed : List Body) (b : Body) → FitsRestarts b → AllRead size chs owed → AllRead size chs (with_owed owed (Some b))
owes-reads size chs owed b fits r = record {
  few = r.few;
  channels_read = r.channels_read;
  owed_read = every-owed FitsRestarts owed (Some b) r.owed_read fits;
}

without_owed : (size : ℕ) (chs : List Channel) (owed : List Body) → AllRead size chs owed → AllRead size chs []
without_owed size chs owed r = record { few = r.few; channels_read = r.channels_read; owed_read = tt }

restart-reads : (phase : Phase) (b : Body) (l : Layer) → IsReadable l → IsReadable (restart_packet phase b l)
restart-reads PacketReady (Restart cause diagnostic) l r = owes-reads l.flow.size _ l.owed RestartConfirmation (λ numbering size. refl) (closed l.flow.size l.channels l.owed r)
restart-reads PacketReady RestartConfirmation l r = owes-reads l.flow.size _ l.owed (Restart _ 17) (λ numbering size. refl) (closed l.flow.size l.channels l.owed r)
restart-reads PacketReady _ l r = r
restart-reads OwnRestart RestartConfirmation l r = r
restart-reads OwnRestart _ l r = r
restart-reads NoSession RestartConfirmation l r = r
restart-reads NoSession _ l r = r

-- ---- a layer as it is made, and what each call makes of it

standing-reads : (size : ℕ) (standing : Bool) (chs : List Channel) → Every (ChannelReads size) chs → Every (ChannelReads size) (standing_channels standing chs)
standing-reads size true [] all = tt
standing-reads size true (ch ∷ chs) all = all
standing-reads size false chs all = all

standing-length : (standing : Bool) (chs : List Channel) → length (standing_channels standing chs) ≡ length chs
standing-length true [] = refl
standing-length true (ch ∷ chs) = refl
standing-length false chs = refl

new-reads : (size : ℕ) (n : ℕ) → Every (ChannelReads size) (replicate n closed_channel)
new-reads size zero = tt
new-reads size (suc n) = (closed-reads size, new-reads size n)

pub readable_made : (role : Role) (channels : ℕ) (flow : Flow) (standing : Bool) → channels ≤ 32 → IsReadable (made role channels flow standing)
readable_made role channels flow standing few = record {
  few = let same = standing-length standing (replicate channels closed_channel) in let many = length-replicate channels closed_channel in omega arith;
  channels_read = standing-reads flow.size standing (replicate channels closed_channel) (new-reads flow.size channels);
  owed_read = tt;
}

pub readable_link_up : (l : Layer) → IsReadable l → IsReadable (link_up l)
readable_link_up l r = owes-reads l.flow.size _ [] (Restart _ 0) (λ numbering size. refl) (without_owed l.flow.size _ l.owed (closed l.flow.size l.channels l.owed r))

pub readable_link_down : (l : Layer) → IsReadable l → IsReadable (link_down l)
readable_link_down l r = without_owed l.flow.size _ l.owed (closed l.flow.size l.channels l.owed r)

-- whatever is received, also octets that were not read
pub readable_received : (l : Layer) (r : Received) → IsReadable l → IsReadable (on_received l r)
readable_received l (Received.Whole p) i =
    cond_by IsReadable (p.channel == 0) (restart_packet l.phase p.body l)
    (on_channel l.phase l p.channel (λ ch. received l.role l.flow p.channel ch p.body))
    (λ _. restart-reads l.phase p.body l i)
    (λ _. on_channel-reads l.phase l p.channel (λ ch. received l.role l.flow p.channel ch p.body)
    (λ ch s. received_in-reads ch.state l.role l.flow p.channel ch p.body s) i)
readable_received l (Received.Unknown c) i =
    on_channel-reads l.phase l c (λ ch. unreadable l.role c true ch) (λ ch s. unreadable_in-reads l.flow.size ch.state l.role c true ch s) i
readable_received l (Received.Faulty c) i =
    on_channel-reads l.phase l c (λ ch. unreadable l.role c false ch) (λ ch s. unreadable_in-reads l.flow.size ch.state l.role c false ch s) i

pub readable_on_octets : (l : Layer) (octets : List ℕ) → IsReadable l → IsReadable (on_octets l octets)
readable_on_octets l octets i = after (heard l.flow octets)
  where
    after : (o : Option Received) → IsReadable (after_hearing (unread l) o)
    after None = i
    after (Some r) = readable_received (unread l) r i

expired-reads : (l : Layer) (t : Timer) → IsReadable l → IsReadable (expired l t)
expired-reads l RestartTimer r = r
expired-reads l (CallTimer c) r = found-reads l c (λ ch. clear_error l.role c 0 true ch) (λ ch s. clear-reads l.flow.size l.role c 0 true ch s) r (channel_of l c) refl
expired-reads l (ResetTimer c) r = found-reads l c (λ ch. clear_error l.role c 0 true ch) (λ ch s. clear-reads l.flow.size l.role c 0 true ch s) r (channel_of l c) refl
expired-reads l (ClearTimer c) r = owes-reads l.flow.size _ l.owed (Restart _ 0) (λ numbering size. refl) (closed l.flow.size l.channels l.owed r)

pub readable_on_timer : (l : Layer) (t : Timer) → IsReadable l → IsReadable (on_timer l t)
readable_on_timer l t r = cond_by IsReadable (runs l t) (expired (unread l) t) l (λ _. expired-reads (unread l) t r) (λ _. r)

pub readable_call : (l : Layer) (parts : CallParts) → CanBePlaced parts → IsReadable l → IsReadable (call l parts)
readable_call l parts fits r = given (channel_given l l.phase)
  where
    given : (o : Option ℕ) → IsReadable (placed_on l parts o)
    given None = r
    given (Some c) = found-reads l c (λ ch. placing parts ch) (λ ch s. (s, λ numbering size channel is. (is, fits))) r (channel_of l c) refl

-- a refused request changes nothing, and the others fit
pub readable_request : (l : Layer) (c : ℕ) (r : Request) → IsReadable l → IsReadable (request l c r)
readable_request l c r i = found-reads l c (λ ch. requested l.role l.flow ch r) (λ ch s. requested-reads l.role l.flow ch r s) i (channel_of l c) refl

-- ---- what goes to the link

abbrev SaidReads : Flow → Said → Type 0
SaidReads flow s = TrafficReads flow.size s.traffic × IfAny (FitsLine flow) s.body

ready-reads : (flow : Flow) (b : Bool) (n : ℕ) → n < modulus flow.numbering → FitsLine flow (ready_or_not b n)
ready-reads flow true n le = λ channel is. (is, le)
ready-reads flow false n le = λ channel is. (is, le)

shown-fits : (n : Numbering) (number : ℕ) → shown n number < modulus n
shown-fits Modulo8 number = omega arith
shown-fits Modulo128 number = omega arith

flow-reads : (flow : Flow) (t : Traffic) → TrafficReads flow.size t → SaidReads flow (says_flow flow t)
flow-reads flow t r =
    cond_by (λ (s : Said). SaidReads flow s) (flow_told t) _ _ (λ _. (r, tt))
    (λ _. (r, ready-reads flow t.stopped (shown flow.numbering t.released) (shown-fits flow.numbering t.released)))

data-reads : (flow : Flow) (ds : List Datum) (t : Traffic) → Every (IsShortDatum flow.size) ds → TrafficReads flow.size t → SaidReads flow (says_data flow ds t)
data-reads flow [] t all r = flow-reads flow t r
data-reads flow (d ∷ ds) t all r =
    cond_by (λ (s : Said). SaidReads flow s) (window_open flow t) _ (says_flow flow t)
    (λ _. (
      record { waiting_fits = all.1; interrupt_fits = r.interrupt_fits },
      λ channel is. (is, record { send = shown-fits flow.numbering t.send_number; receive = shown-fits flow.numbering t.released; short = all.0 }),
    ))
    (λ _. flow-reads flow t r)

interrupt-reads : (flow : Flow) (o : Option (List ℕ)) (t : Traffic) → IfAny IsInterrupt o → TrafficReads flow.size t → SaidReads flow (says_interrupt flow o t)
interrupt-reads flow (Some octets) t fits r = (
  record { waiting_fits = r.waiting_fits; interrupt_fits = tt },
  λ channel is. (is, fits),
)
interrupt-reads flow None t fits r = data-reads flow t.waiting t r.waiting_fits r

says-reads : (flow : Flow) (t : Traffic) → TrafficReads flow.size t → SaidReads flow (says flow t)
says-reads flow t r =
    cond_by (λ (s : Said). SaidReads flow s) t.confirmation_due _ (says_interrupt flow t.interrupt_waiting t) (λ _. (r, λ channel is. is))
    (λ _. interrupt-reads flow t.interrupt_waiting t r.interrupt_fits r)

abbrev NextReads : Flow → ChannelNext → Type 0
NextReads flow n = ChannelReads flow.size n.channel × IfAny (FitsLine flow) n.body

next-reads : (flow : Flow) (owed : List Body) (ch : Channel) → Every FitsChannels owed → ch.owed ≡ owed → ChannelReads flow.size ch → NextReads flow (next_owed flow owed ch)
next-reads flow (b ∷ bs) ch all e r = ((all.1, r.1), all.0 flow.numbering flow.size)
next-reads flow [] ch all e r =
    let said = says-reads flow ch.traffic r.1 in
    cond_by (λ (n : ChannelNext). NextReads flow n) (has_flow ch) _ _ (λ _. ((r.0, said.0), said.1)) (λ _. (r, tt))

abbrev Goes : Flow → Packet → Type 0
Goes flow p = IsPacket flow.size (value_of flow p)

abbrev GivesReadable : Flow → Next → Type 0
GivesReadable flow n = IsReadable n.layer × IfAny (Goes flow) n.packet

logical : (chs : List Channel) (c : ℕ) (ch : Channel) → length chs ≤ 32 → nth_channel chs c ≡ Some ch → IsLogicalChannel c
logical chs zero ch few e = absurd (cc)
logical chs (suc i) ch few e = let within = slice_get_within chs i ch e in (omega arith, omega arith)

served-reads : (l : Layer) (c : ℕ) (n : ChannelNext) (others : Next) → IsLogicalChannel c → IsReadable l → NextReads l.flow n → GivesReadable l.flow others →
    GivesReadable l.flow (served l c n others)
served-reads l c n others is r reads rest = by_body n.body n.channel reads.0 reads.1
  where
    by_body : (o : Option Body) (ch : Channel) → ChannelReads l.flow.size ch → IfAny (FitsLine l.flow) o → GivesReadable l.flow (served l c (record { channel = ch; body = o }) others)
    by_body None ch p fits = rest
    by_body (Some b) ch p fits = (with_channel l.flow.size l.channels l.owed c ch r p, fits c is)

found-gives : (l : Layer) (c : ℕ) (others : Next) (o : Option Channel) → channel_of l c ≡ o → IsReadable l → GivesReadable l.flow others →
    GivesReadable l.flow (serve_found l c o others)
found-gives l c others None e r rest = rest
found-gives l c others (Some ch) e r rest =
    let reads = nth-reads l.flow.size l.channels c ch r.channels_read e in
    served-reads l c (next_of l.flow ch) others (logical l.channels c ch r.few e) r (next-reads l.flow ch.owed ch reads.0 refl reads) rest

serve-gives : (k : ℕ) (l : Layer) (c : ℕ) → IsReadable l → GivesReadable l.flow (serve k l c)
serve-gives zero l c r = (r, tt)
serve-gives (suc k) l c r = found-gives l c (serve k l (next_number l c)) (channel_of l c) refl r (serve-gives k l (next_number l c) r)

restart-gives : (owed : List Body) (l : Layer) → l.owed ≡ owed → IsReadable l → GivesReadable l.flow (next_restart owed l)
restart-gives [] l e r = serve-gives (length l.channels) l (next_number l l.served_last) r
restart-gives (b ∷ bs) l e r =
    let all : Every FitsRestarts (b ∷ bs) = subst (λ (owed : List Body). Every FitsRestarts owed) e r.owed_read in
    (record { few = r.few; channels_read = r.channels_read; owed_read = all.1 }, all.0 l.flow.numbering l.flow.size)

in-gives : (phase : Phase) (relink : Bool) (l : Layer) → IsReadable l → GivesReadable l.flow (next_in phase relink l)
in-gives NoSession relink l r = (r, tt)
in-gives OwnRestart true l r = (r, tt)
in-gives PacketReady true l r = (r, tt)
in-gives OwnRestart false l r = restart-gives l.owed l refl r
in-gives PacketReady false l r = restart-gives l.owed l refl r

pub readable_next : (l : Layer) → IsReadable l → IsReadable (next_packet l).layer
readable_next l r = (in-gives l.phase l.relink l r).0

pub next_goes : (l : Layer) → IsReadable l → (p : Packet) → (next_packet l).packet ≡ Some p → IsPacket l.flow.size (value_of l.flow p)
next_goes l r p e = subst (IfAny (Goes l.flow)) e (in-gives l.phase l.relink l r).1

-- ---- its octets

spelling-short : (info : ℕ) (flow : Flow) (p : Packet) → 145 ≤ info → flow.size + 4 ≤ info → IsPacket flow.size (value_of flow p)
    → length (spelling (value_of flow p)) ≤ info
spelling-short info flow p any data_ is = short flow.numbering p.body is
  where
    short : (n : Numbering) (b : Body) → IsContentOn n flow.size p.channel (content_of b) → length (spelling (record { numbering = n; channel = p.channel; content = content_of b })) ≤ info
    short n (Call parts) fits =
        let c = fits.1 in
        let called = c.called.1 in
        let calling = c.calling.0 in
        let facilities = c.facilities in
        let user = c.user_data in
        let digits = length-packed 0 (parts.called ++ parts.calling) in
        let both = length-append parts.called parts.calling in
        let tail = length-append parts.facilities parts.user_part in
        let block = length-append (packed 0 (parts.called ++ parts.calling)) (length parts.facilities ∷ (parts.facilities ++ parts.user_part)) in
        omega arith
    short n Accepted fits = omega arith
    short n (Clear cause diagnostic) fits = omega arith
    short n ClearConfirmation fits = omega arith
    short Modulo8 (Data send receive d) fits = let few = fits.1.short in omega arith
    short Modulo128 (Data send receive d) fits = let few = fits.1.short in omega arith
    short n (Interrupt octets) fits = let few = fits.1.1 in omega arith
    short n InterruptConfirmation fits = omega arith
    short Modulo8 (ReceiveReady receive) fits = omega arith
    short Modulo128 (ReceiveReady receive) fits = omega arith
    short Modulo8 (ReceiveNotReady receive) fits = omega arith
    short Modulo128 (ReceiveNotReady receive) fits = omega arith
    short n (Reset cause diagnostic) fits = omega arith
    short n ResetConfirmation fits = omega arith
    short n (Restart cause diagnostic) fits = omega arith
    short n RestartConfirmation fits = omega arith

-- what a layer gives is heard as it was given, and a link takes it whose information fields have room for it
pub next_heard : (l : Layer) → IsReadable l → (p : Packet) → (next_packet l).packet ≡ Some p →
    heard l.flow (written_packet l.flow (Some p) []) ≡ Some (Received.Whole p)
next_heard l r p e = heard_of_reading l.flow (Some p) (written_packet l.flow (Some p) []) (reading-spelling l.flow.size (value_of l.flow p) (next_goes l r p e))

pub next_short : (info : ℕ) (l : Layer) → 145 ≤ info → l.flow.size + 4 ≤ info → IsReadable l → (p : Packet) → (next_packet l).packet ≡ Some p
    → length (written_packet l.flow (Some p) []) ≤ info
next_short info l any data_ r p e = spelling-short info l.flow p any data_ (next_goes l r p e)
