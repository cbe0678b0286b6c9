-- Each call makes an epoch longer, leaves it as it is, or begins it anew.
use Rattle.std.proofs.Common.{◌≡◌, ℕ, ◌+◌, ◌==◌, ◌⊎◌, Bool, true, false, List, [], ◌∷◌, append-nil, Option, Some, None, refl, inl, inr, arith}
use Rattle.data_transfer.specs.Packets.{Body, Received}
use Rattle.data_transfer.specs.Packets.Body.{Clear, ClearConfirmation, Reset, ResetConfirmation, Restart, RestartConfirmation}
use Rattle.data_transfer.specs.Packets.Received.{Whole, Unknown, Faulty}
use Rattle.data_transfer.specs.Traffic.{Traffic, Taken, Heard, front, may_release, hears}
use Rattle.data_transfer.specs.Traffic.Taken.{TakenInterrupt, TakenPacket}
use Rattle.data_transfer.specs.Traffic.Heard.{Keeps, Confirms, Wrong}
use Rattle.packet_channel.specs.Channel.{ChannelState, Channel, Request, Refusal, refusal, requested, received, unreadable}
use Rattle.packet_channel.specs.Channel.ChannelState.{Transfer}
use Rattle.packet_channel.specs.Channel.Request.{Sending, Interrupting, Taking, Releasing}
use Rattle.packet_layer.specs.Layer.{Layer, Phase, Timer, channel_of, runs}
use Rattle.packet_layer.specs.Layer.Phase.{PacketReady, OwnRestart, NoSession}
use Rattle.packet_layer.specs.Layer.Timer.{RestartTimer, CallTimer, ResetTimer, ClearTimer}
use Rattle.packet_layer.specs.Events.{timer_named}
use Rattle.data_transfer.specs.Octets.{heard}
use Rattle.packet_laws.specs.History.{Epoch, empty_epoch, logged, logged_heard, with_taken}
use Rattle.packet_laws.specs.LayerLineLaw.{IsPrefix}
use Rattle.packet_laws.proofs.Call.Saying.{by_cond}
use Rattle.packet_laws.specs.Layers.Epochs.{Epochs, begun_by, grown_unless, grown_by, after_request, after_packet, after_unreadable, on_found, on_channel, on_restart, on_received, on_hearing, on_expiry, on_timer}
use Rattle.packet_laws.specs.Layers.Acts.{Act, epochs_after}
use Rattle.packet_laws.specs.Layers.Acts.Act.{Up, Down, Requests, Expires, Arrives}
use Rattle.packet_laws.specs.Layers.Counts.{Grows}
use Rattle.packet_laws.specs.Layers.NumbersLaw.{GrowsLaw}

same : {X : Type 0} (xs : List X) → IsPrefix xs xs
same xs = ([], append-nil xs)

stays : (e : Epoch) → Grows e e
stays e = record {
  sent = same e.sent;
  taken = same e.taken;
  interrupts_sent = same e.interrupts_sent;
  interrupts_taken = same e.interrupts_taken;
  covered = omega arith;
  released = omega arith;
}

-- ---- what is logged

takes : (o : Option Taken) (e : Epoch) → Grows e (with_taken o e)
takes None e = stays e
takes (Some (TakenInterrupt octets)) e = record {
  sent = same e.sent;
  taken = same e.taken;
  interrupts_sent = same e.interrupts_sent;
  interrupts_taken = (octets ∷ [], refl);
  covered = omega arith;
  released = omega arith;
}
takes (Some (TakenPacket d)) e = record {
  sent = same e.sent;
  taken = (d ∷ [], refl);
  interrupts_sent = same e.interrupts_sent;
  interrupts_taken = same e.interrupts_taken;
  covered = omega arith;
  released = omega arith;
}

more_released : (n : ℕ) (e : Epoch) → Grows e (record e { released = e.released + n })
more_released n e = record {
  sent = same e.sent;
  taken = same e.taken;
  interrupts_sent = same e.interrupts_sent;
  interrupts_taken = same e.interrupts_taken;
  covered = omega arith;
  released = omega arith;
}

logs : (t : Traffic) (r : Request) (e : Epoch) → Grows e (logged t r e)
logs t (Sending d) e = record {
  sent = (d ∷ [], refl);
  taken = same e.taken;
  interrupts_sent = same e.interrupts_sent;
  interrupts_taken = same e.interrupts_taken;
  covered = omega arith;
  released = omega arith;
}
logs t (Interrupting octets) e = record {
  sent = same e.sent;
  taken = same e.taken;
  interrupts_sent = (octets ∷ [], refl);
  interrupts_taken = same e.interrupts_taken;
  covered = omega arith;
  released = omega arith;
}
logs t Taking e = takes (front t) e
logs t (Releasing n) e = by_cond (λ (x : Epoch). Grows e x) (may_release n t) _ _ (λ h. more_released n e) (λ h. stays e)
logs t _ e = stays e

logs_unless : (o : Option Refusal) (t : Traffic) (r : Request) (e : Epoch) → Grows e (grown_unless o t r e)
logs_unless None t r e = logs t r e
logs_unless (Some refused) t r e = stays e

hears_more : (h : Heard) (e : Epoch) → Grows e (logged_heard h e)
hears_more (Keeps n t) e = record {
  sent = same e.sent;
  taken = same e.taken;
  interrupts_sent = same e.interrupts_sent;
  interrupts_taken = same e.interrupts_taken;
  covered = omega arith;
  released = omega arith;
}
hears_more (Confirms t) e = stays e
hears_more (Wrong d) e = stays e

covers : (s : ChannelState) (resetting : Bool) (h : Heard) (e : Epoch) → Grows e (grown_by s resetting h e)
covers Transfer false h e = hears_more h e
covers Transfer true h e = stays e
covers _ resetting h e = stays e

-- ---- or restarts

abbrev GoesOn : Epoch → Epoch → Type 0
GoesOn before now = (now ≡ empty_epoch) ⊎ Grows before now

begun_goes : (o : Option Body) (e now : Epoch) → Grows e now → GoesOn e (begun_by o now)
begun_goes None e now g = inr g
begun_goes (Some (Clear cause diagnostic)) e now g = inl refl
begun_goes (Some ClearConfirmation) e now g = inl refl
begun_goes (Some (Reset cause diagnostic)) e now g = inl refl
begun_goes (Some ResetConfirmation) e now g = inl refl
begun_goes (Some _) e now g = inr g

found_goes : (o : Option Channel) (c : ℕ) (f : Channel → Epoch → Epoch) (es : Epochs) (d : ℕ) → ((ch : Channel) (e : Epoch) → GoesOn e (f ch e)) → GoesOn (es d) (on_found o c f es d)
found_goes None c f es d go = inr (stays (es d))
found_goes (Some ch) c f es d go = by_cond (λ (x : Epoch). GoesOn (es d) x) (d == c) _ _ (λ h. go ch (es d)) (λ h. inr (stays (es d)))

channel_goes : (phase : Phase) (found : Option Channel) (c : ℕ) (f : Channel → Epoch → Epoch) (es : Epochs) (d : ℕ) → ((ch : Channel) (e : Epoch) → GoesOn e (f ch e)) → GoesOn (es d) (on_channel phase found c f es d)
channel_goes PacketReady found c f es d go = found_goes found c f es d go
channel_goes OwnRestart found c f es d go = inr (stays (es d))
channel_goes NoSession found c f es d go = inr (stays (es d))

restart_goes : (phase : Phase) (b : Body) (es : Epochs) (d : ℕ) → GoesOn (es d) (on_restart phase b es d)
restart_goes PacketReady (Restart cause diagnostic) es d = inl refl
restart_goes PacketReady RestartConfirmation es d = inl refl
restart_goes PacketReady _ es d = inr (stays (es d))
restart_goes OwnRestart b es d = inr (stays (es d))
restart_goes NoSession b es d = inr (stays (es d))

received_goes : (l : Layer) (r : Received) (es : Epochs) (d : ℕ) → GoesOn (es d) (on_received l r es d)
received_goes l (Whole p) es d =
    by_cond (λ (x : Epochs). GoesOn (es d) (x d)) (p.channel == 0) _ _ (λ h. restart_goes l.phase p.body es d)
    (λ h. channel_goes l.phase (channel_of l p.channel) p.channel (λ ch e. after_packet l.role l.flow p.channel p.body ch e) es d
    (λ ch e. begun_goes (received l.role l.flow p.channel ch p.body).owes e _ (covers ch.state ch.resetting (hears l.flow ch.traffic p.body) e)))
received_goes l (Unknown c) es d =
    channel_goes l.phase (channel_of l c) c (λ ch e. after_unreadable l.role c true ch e) es d (λ ch e. begun_goes (unreadable l.role c true ch).owes e e (stays e))
received_goes l (Faulty c) es d =
    channel_goes l.phase (channel_of l c) c (λ ch e. after_unreadable l.role c false ch e) es d (λ ch e. begun_goes (unreadable l.role c false ch).owes e e (stays e))

hearing_goes : (l : Layer) (o : Option Received) (es : Epochs) (d : ℕ) → GoesOn (es d) (on_hearing l o es d)
hearing_goes l None es d = inr (stays (es d))
hearing_goes l (Some r) es d = received_goes l r es d

expiry_goes : (l : Layer) (t : Timer) (es : Epochs) (d : ℕ) → GoesOn (es d) (on_expiry l t es d)
expiry_goes l RestartTimer es d = inr (stays (es d))
expiry_goes l (CallTimer c) es d = found_goes (channel_of l c) c (λ ch e. empty_epoch) es d (λ ch e. inl refl)
expiry_goes l (ResetTimer c) es d = found_goes (channel_of l c) c (λ ch e. empty_epoch) es d (λ ch e. inl refl)
expiry_goes l (ClearTimer c) es d = inl refl

timer_goes : (l : Layer) (o : Option Timer) (es : Epochs) (d : ℕ) → GoesOn (es d) (on_timer l o es d)
timer_goes l None es d = inr (stays (es d))
timer_goes l (Some t) es d = by_cond (λ (x : Epochs). GoesOn (es d) (x d)) (runs l t) _ _ (λ h. expiry_goes l t es d) (λ h. inr (stays (es d)))

act_goes : (act : Act) (l : Layer) (es : Epochs) (d : ℕ) → GoesOn (es d) (epochs_after act l es d)
act_goes Up l es d = inl refl
act_goes Down l es d = inl refl
act_goes (Requests c r) l es d =
    found_goes (channel_of l c) c (λ ch e. after_request l.role l.flow r ch e) es d
    (λ ch e. begun_goes (requested l.role l.flow ch r).owes e _ (logs_unless (refusal l.role l.flow ch r) ch.traffic r e))
act_goes (Expires id) l es d = timer_goes l (timer_named l.role id) es d
act_goes (Arrives octets) l es d = hearing_goes l (heard l.flow octets) es d
act_goes _ l es d = inr (stays (es d))

pub grows : GrowsLaw
grows w act c = act_goes act w.layer w.epochs c
