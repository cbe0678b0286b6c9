-- What is refused changes nothing.
use Rattle.std.proofs.Common.{◌≡◌, ℕ, zero, suc, Bool, true, cond, List, [], ◌∷◌, refl, sym, ap, ◌∙◌}
use Rattle.std.specs.Prelude.{Option, Some, None, is_some, not}
use Rattle.std.proofs.lemmas.List.{append-nil}
use Rattle.std.proofs.lemmas.Option.{none-some}
use Rattle.link_timers.specs.declared.role.Role.{Role}
use Rattle.link_timers.specs.declared.role.Role.TheVariants.{Dte, Dce}
use Rattle.data_transfer.specs.declared.flow.Flow.{Flow}
use Rattle.data_transfer.specs.Packets.{Datum}
use Rattle.data_transfer.specs.Traffic.{Taken, Traffic, front_of, taking_of}
use Rattle.packet_channel.specs.Channel.{ChannelState, Channel, Request, Refusal, Step, unless, quiet, refusal, requested, carried_out, may_accept, may_clear, refused_if}
use Rattle.packet_layer.specs.Layer.{Layer, Phase, nth_channel, with_nth, channel_of, on_found, after_step, request_refusal, refusal_at, call_refusal, free_channel, can_accept, can_accept_at, front_on, front_at}
use Rattle.packet_layer.specs.Layer as machine
use Rattle.data_transfer.specs.TakenView.{maybe_front, shown_front}
use Rattle.packet_layer.proofs.Places.{set_same}
use Rattle.packet_end.specs.PacketEnd.{PacketEnd, asked}
use Rattle.packet_host.specs.Host.{ended, unless_refused, after_request, after_take, taken_as}

with_same : (chs : List Channel) (c : ℕ) (ch : Channel) → nth_channel chs c ≡ Some ch → with_nth chs c ch ≡ chs
with_same chs zero ch at = refl
with_same chs (suc i) ch at = set_same chs i ch at

pub quiet_same : (l : Layer) (c : ℕ) (ch : Channel) → channel_of l c ≡ Some ch → after_step l c (quiet ch) ≡ l
quiet_same l c ch at =
    λ i. record l { channels = with_same l.channels c ch at i; notes = append-nil l.notes i }

found_refused : (l : Layer) (c : ℕ) (r : Request) (x : Refusal) (found : Option Channel) → channel_of l c ≡ found →
    refusal_at l.role l.flow r found ≡ Some x → on_found l c (λ ch. requested l.role l.flow ch r) found ≡ l
found_refused l c r x None at is = refl
found_refused l c r x (Some ch) at is =
    ap (λ (o : Option Refusal). after_step l c (unless o (carried_out ch r) ch)) is ∙ quiet_same l c ch at

pub refused_same : (l : Layer) (c : ℕ) (r : Request) (x : Refusal) → request_refusal l c r ≡ Some x → machine.request l c r ≡ l
refused_same l c r x is = found_refused l c r x (channel_of l c) refl is

-- a request that went through, and one that was refused
pub went : (e new : PacketEnd) (c : ℕ) (r : Request) → request_refusal e.layer c r ≡ None → new ≡ ended (asked e c r) →
    new ≡ after_request e c r
went e new c r is done = done ∙ ap (λ (o : Option Refusal). unless_refused o (ended (asked e c r)) e) (sym is)

pub went_not : (e new : PacketEnd) (c : ℕ) (r : Request) (x : Refusal) → request_refusal e.layer c r ≡ Some x → new ≡ asked e c r →
    new ≡ after_request e c r
went_not e new c r x is done =
    done ∙ (λ i. record e { layer = refused_same e.layer c r x is i })
    ∙ ap (λ (o : Option Refusal). unless_refused o (ended (asked e c r)) e) (sym is)

given_of : (l : Layer) (c : ℕ) (given : Option ℕ) → given ≡ Some c → cond (is_some given) None (Some Refusal.NoChannel) ≡ None
given_of l c None is = absurd (cc)
given_of l c (Some n) is = refl

given_none : (l : Layer) (c : ℕ) (phase : Phase) → machine.channel_given l phase ≡ Some c → call_refusal l phase ≡ None
given_none l c Phase.NoSession is = absurd (cc)
given_none l c Phase.OwnRestart is = absurd (cc)
given_none l c Phase.PacketReady is = given_of l c (free_channel l.role l.channels) is

-- a call that can be accepted can be cleared
state_clears : (role : Role) (s : ChannelState) → may_accept role s ≡ true → may_clear s ≡ true
state_clears role ChannelState.FarWaiting h = refl
state_clears role ChannelState.Collision h = refl
state_clears Dte ChannelState.Ready h = absurd (cc)
state_clears Dce ChannelState.Ready h = absurd (cc)
state_clears Dte ChannelState.OwnWaiting h = absurd (cc)
state_clears Dce ChannelState.OwnWaiting h = absurd (cc)
state_clears Dte ChannelState.Transfer h = absurd (cc)
state_clears Dce ChannelState.Transfer h = absurd (cc)
state_clears Dte ChannelState.OwnClear h = absurd (cc)
state_clears Dce ChannelState.OwnClear h = absurd (cc)

found_clears : (role : Role) (flow : Flow) (found : Option Channel) → can_accept_at role found ≡ true → refusal_at role flow (Request.Clearing 0 0) found ≡ None
found_clears role flow None h = absurd (cc)
found_clears role flow (Some ch) h =
    ap (λ (b : Bool). refused_if (not b) Refusal.NoCall None) (state_clears role ch.state h)

pub accepted_clears : (l : Layer) (c : ℕ) → can_accept l c ≡ true → request_refusal l c (Request.Clearing 0 0) ≡ None
accepted_clears l c h = found_clears l.role l.flow (channel_of l c) h

-- where nothing waits, taking changes nothing
taking_none : (i : Option (List ℕ)) (ds : List Datum) (t : Traffic) → front_of i ds ≡ None → taking_of i ds t ≡ t
taking_none (Some octets) ds t h = absurd (cc)
taking_none None [] t h = refl
taking_none None (d ∷ ds) t h = absurd (cc)

unless_same : (o : Option Refusal) (ch : Channel) → unless o (quiet ch) ch ≡ quiet ch
unless_same None ch = refl
unless_same (Some r) ch = refl

found_empty : (l : Layer) (c : ℕ) (found : Option Channel) → channel_of l c ≡ found → front_at found ≡ None →
    on_found l c (λ ch. requested l.role l.flow ch Request.Taking) found ≡ l
found_empty l c None at h = refl
found_empty l c (Some ch) at h =
    ap (λ (t : Traffic). after_step l c (unless (refusal l.role l.flow ch Request.Taking) (quiet (record ch { traffic = t })) ch))
    (taking_none ch.traffic.interrupt_arrived ch.traffic.arrived ch.traffic h)
    ∙ ap (λ (st : Step). after_step l c st) (unless_same (refusal l.role l.flow ch Request.Taking) ch) ∙ quiet_same l c ch at

pub took_nothing : (e new : PacketEnd) (c : ℕ) → front_on e.layer c ≡ None → new ≡ asked e c Request.Taking → new ≡ after_take e c
took_nothing e new c is done =
    done ∙ (λ i. record e { layer = found_empty e.layer c (channel_of e.layer c) refl is i })
    ∙ ap (λ (x : Option Taken). taken_as x c e) (sym is)

-- nothing is told of what is not there
pub nothing_told : (x : Option Taken) → maybe_front x ≡ None → x ≡ None
nothing_told None is = refl
nothing_told (Some x) is = absurd (none-some (shown_front x) (sym is))
