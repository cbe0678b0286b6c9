-- Outside data transfer nothing waits to be taken: so it is of each channel, whatever happens on a line.
use Rattle.std.specs.Prelude.{◌≡◌, ℕ, zero, suc, ◌==◌, ◌&&◌, Bool, true, false, cond, not, List, [], ◌∷◌, length, map, set, replicate, Option, Some, None, is_some}
use Rattle.std.proofs.Common.{refl, sym, ap, ◌∙◌, true≢false}
use Rattle.std.proofs.lemmas.Option.{none-some, same_Some}
use Rattle.link_timers.specs.declared.role.Role.{Role}
use Rattle.link_timers.specs.declared.role.Role.TheVariants.{Dte, Dce}
use Rattle.data_transfer.specs.declared.flow.Flow.{Flow}
use Rattle.data_transfer.specs.Packets.{CallParts, Body, Packet}
use Rattle.data_transfer.specs.Packets.Body.{Call, Accepted, Clear, ClearConfirmation, Data, Interrupt, InterruptConfirmation, ReceiveReady, ReceiveNotReady, Reset, ResetConfirmation, Restart, RestartConfirmation}
use Rattle.data_transfer.specs.Packets.Received.{Whole}
use Rattle.data_transfer.specs.Traffic.{Heard, Taken, hears, says, front}
use Rattle.data_transfer.specs.Traffic.Heard.{Keeps, Confirms, Wrong}
use Rattle.packet_channel.specs.Channel.{ChannelState, Channel, Step, Request, Refusal, closed_channel, entered, in_transfer, has_flow, refused_if, refusal, carried_out, unless, requested, clear_error, after_heard, in_flow_ready, in_own_reset, in_ready, in_own_waiting, in_far_waiting, in_collision, in_own_clear, received_in, received}
use Rattle.packet_channel.specs.Channel.ChannelState.{Ready, OwnWaiting, FarWaiting, Transfer, Collision, OwnClear}
use Rattle.packet_channel.specs.Channel.Request.{Accept, Clearing, Resetting, Sending, Interrupting, Stopping, Taking, Releasing, Confirming}
use Rattle.packet_layer.specs.Layer.{Phase, Layer, Timer, with_owed, front_at, Next, ChannelNext, nth_channel, channel_of, with_nth, standing_channels, made, on_found, on_channel, restart_packet, on_packet, runs, expired, on_timer, next_owed, next_of, next_number, serve_found, serve, next_restart, next_in, channel_given, placing, placed_on, call, request, unread}
use Rattle.packet_layer.specs.Layer.Phase.{NoSession, OwnRestart, PacketReady}
use Rattle.packet_layer.specs.Layer.Timer.{RestartTimer, CallTimer, ResetTimer, ClearTimer}
use Rattle.packet_laws.specs.Readable.{Every}
use Rattle.packet_laws.specs.LayerLine.{End, Line, Event, happens, turned, may_begin, begun, offers, accepts, arrives_in, next_of_session, start_line}
use Rattle.packet_laws.specs.LayerLine.Event.{Up, Down, Calls, Requests, Expires, Offers, Arrives}
use Rattle.packet_laws.specs.LayerLine.Happening.{Here, There}
use Rattle.record_laws.specs.Books.Told.{World, Move, after_move, after_all}
use Rattle.record_laws.specs.Books.Told.Move.{Happens, Edits}
use Rattle.record_laws.proofs.Books.Layers.{either_way, free_is}

abbrev pub WaitsInTransfer : Channel → Type 0
WaitsInTransfer ch = in_transfer ch.state ≡ false → front ch.traffic ≡ None

abbrev pub AllWaitInTransfer : Layer → Type 0
AllWaitInTransfer l = Every WaitsInTransfer l.channels

-- a channel in data transfer
open_waits : (ch : Channel) → in_transfer ch.state ≡ true → WaitsInTransfer ch
open_waits ch h e = absurd (true≢false (sym h ∙ e))

-- ---- packets that a channel receives

ready_waits : (role : Role) (c : ℕ) (ch : Channel) (body : Body) → WaitsInTransfer (entered Ready ch) → WaitsInTransfer (in_ready role c (entered Ready ch) body).channel
ready_waits role c ch (Call parts) h = λ e. h refl
ready_waits role c ch (Clear cause diagnostic) h = h
ready_waits role c ch _ h = λ e. refl

own_waits : (role : Role) (c : ℕ) (ch : Channel) (body : Body) → WaitsInTransfer (entered OwnWaiting ch) → WaitsInTransfer (in_own_waiting role c (entered OwnWaiting ch) body).channel
own_waits role c ch Accepted h = open_waits (entered Transfer ch) refl
own_waits role c ch (Call parts) h = λ e. h refl
own_waits role c ch (Clear cause diagnostic) h = λ e. refl
own_waits role c ch _ h = λ e. refl

far_waits : (role : Role) (c : ℕ) (ch : Channel) (body : Body) → WaitsInTransfer (in_far_waiting role c ch body).channel
far_waits role c ch (Clear cause diagnostic) = λ e. refl
far_waits role c ch _ = λ e. refl

reset_waits : (role : Role) (c : ℕ) (ch : Channel) (body : Body) → WaitsInTransfer (in_own_reset role c (entered Transfer ch) body).channel
reset_waits role c ch (Clear cause diagnostic) = λ e. refl
reset_waits role c ch (Reset cause diagnostic) = open_waits (record (entered Transfer ch) { resetting = false }) refl
reset_waits role c ch ResetConfirmation = open_waits (record (entered Transfer ch) { resetting = false }) refl
reset_waits role c ch (Data send receive d) = open_waits (entered Transfer ch) refl
reset_waits role c ch (ReceiveReady receive) = open_waits (entered Transfer ch) refl
reset_waits role c ch (ReceiveNotReady receive) = open_waits (entered Transfer ch) refl
reset_waits role c ch (Interrupt octets) = open_waits (entered Transfer ch) refl
reset_waits role c ch InterruptConfirmation = open_waits (entered Transfer ch) refl
reset_waits role c ch _ = λ e. refl

heard_waits : (role : Role) (c : ℕ) (ch : Channel) (h : Heard) → WaitsInTransfer (after_heard role c (entered Transfer ch) h).channel
heard_waits role c ch (Keeps n t) = open_waits (record (entered Transfer ch) { traffic = t }) refl
heard_waits role c ch (Confirms t) = open_waits (record (entered Transfer ch) { traffic = t }) refl
heard_waits role c ch (Wrong diagnostic) = λ e. refl

flow_waits : (role : Role) (flow : Flow) (c : ℕ) (ch : Channel) (body : Body) → WaitsInTransfer (in_flow_ready role flow c (entered Transfer ch) body).channel
flow_waits role flow c ch (Clear cause diagnostic) = λ e. refl
flow_waits role flow c ch (Reset cause diagnostic) = λ e. refl
flow_waits role flow c ch ResetConfirmation = λ e. refl
flow_waits role flow c ch (Data send receive d) = heard_waits role c ch (hears flow ch.traffic (Data send receive d))
flow_waits role flow c ch (ReceiveReady receive) = heard_waits role c ch (hears flow ch.traffic (ReceiveReady receive))
flow_waits role flow c ch (ReceiveNotReady receive) = heard_waits role c ch (hears flow ch.traffic (ReceiveNotReady receive))
flow_waits role flow c ch (Interrupt octets) = heard_waits role c ch (hears flow ch.traffic (Interrupt octets))
flow_waits role flow c ch InterruptConfirmation = heard_waits role c ch (hears flow ch.traffic InterruptConfirmation)
flow_waits role flow c ch _ = λ e. refl

collision_waits : (role : Role) (c : ℕ) (ch : Channel) (body : Body) → WaitsInTransfer (in_collision role c ch body).channel
collision_waits Dte c ch Accepted = open_waits (entered Transfer ch) refl
collision_waits Dte c ch (Clear cause diagnostic) = λ e. refl
collision_waits Dce c ch (Clear cause diagnostic) = λ e. refl
collision_waits Dte c ch _ = λ e. refl
collision_waits Dce c ch _ = λ e. refl

clear_waits : (ch : Channel) (body : Body) → WaitsInTransfer (entered OwnClear ch) → WaitsInTransfer (in_own_clear (entered OwnClear ch) body).channel
clear_waits ch (Clear cause diagnostic) h = λ e. h refl
clear_waits ch ClearConfirmation h = λ e. h refl
clear_waits ch _ h = h

received_waits : (s : ChannelState) (role : Role) (flow : Flow) (c : ℕ) (ch : Channel) (body : Body) → WaitsInTransfer (entered s ch) → WaitsInTransfer (received_in s role flow c (entered s ch) body).channel
received_waits Ready role flow c ch body h = ready_waits role c ch body h
received_waits OwnWaiting role flow c ch body h = own_waits role c ch body h
received_waits FarWaiting role flow c ch body h = far_waits role c (entered FarWaiting ch) body
received_waits Transfer role flow c ch body h =
    either_way (λ (st : Step). WaitsInTransfer st.channel) ch.resetting (in_own_reset role c (entered Transfer ch) body) (in_flow_ready role flow c (entered Transfer ch) body)
    (reset_waits role c ch body) (flow_waits role flow c ch body)
received_waits Collision role flow c ch body h = collision_waits role c (entered Collision ch) body
received_waits OwnClear role flow c ch body h = clear_waits ch body h

-- ---- what the user asks of a channel

is_open : (v : Bool) (r : Refusal) (other : Option Refusal) → refused_if (not v) r other ≡ None → v ≡ true
is_open true r other e = refl
is_open false r other e = absurd (none-some r (sym e))

carried_waits : (role : Role) (flow : Flow) (ch : Channel) (r : Request) → refusal role flow ch r ≡ None → WaitsInTransfer (carried_out ch r).channel
carried_waits role flow ch Accept e = open_waits (entered Transfer ch) refl
carried_waits role flow ch (Clearing cause diagnostic) e = λ f. refl
carried_waits role flow ch (Resetting cause diagnostic) e = λ f. refl
carried_waits role flow ch (Sending d) e = open_waits (carried_out ch (Sending d)).channel (is_open (in_transfer ch.state) Refusal.NoCall _ e)
carried_waits role flow ch (Interrupting octets) e = open_waits (carried_out ch (Interrupting octets)).channel (is_open (in_transfer ch.state) Refusal.NoCall _ e)
carried_waits role flow ch (Stopping v) e = open_waits (carried_out ch (Stopping v)).channel (is_open (in_transfer ch.state) Refusal.NoCall _ e)
carried_waits role flow ch Taking e = open_waits (carried_out ch Taking).channel (is_open (in_transfer ch.state) Refusal.NoCall _ e)
carried_waits role flow ch (Releasing n) e = open_waits (carried_out ch (Releasing n)).channel (is_open (in_transfer ch.state) Refusal.NoCall _ e)
carried_waits role flow ch Confirming e = open_waits (carried_out ch Confirming).channel (is_open (in_transfer ch.state) Refusal.NoCall _ e)

requested_waits : (role : Role) (flow : Flow) (ch : Channel) (r : Request) → WaitsInTransfer ch → WaitsInTransfer (requested role flow ch r).channel
requested_waits role flow ch r h = by (refusal role flow ch r) refl
  where
    by : (o : Option Refusal) → refusal role flow ch r ≡ o → WaitsInTransfer (unless o (carried_out ch r) ch).channel
    by None e = carried_waits role flow ch r e
    by (Some x) e = h

-- ---- what goes to the link

flow_open : (a b : Bool) → (a && b) ≡ true → a ≡ true
flow_open true b e = refl
flow_open false b e = absurd (true≢false (sym e))

next_waits : (flow : Flow) (owed : List Body) (ch : Channel) → WaitsInTransfer ch → WaitsInTransfer (next_owed flow owed ch).channel
next_waits flow (b ∷ bs) ch h = h
next_waits flow [] ch h = by (has_flow ch) refl
  where
    by : (v : Bool) → has_flow ch ≡ v → WaitsInTransfer (cond {A = ChannelNext} v (record { channel = record ch { traffic = (says flow ch.traffic).traffic }; body = (says flow ch.traffic).body }) (record { channel = ch; body = None })).channel
    by true e = open_waits (record ch { traffic = (says flow ch.traffic).traffic }) (flow_open (in_transfer ch.state) (not ch.resetting) e)
    by false e = h

-- ---- lists of channels

get_waits : (chs : List Channel) (c : ℕ) (ch : Channel) → Every WaitsInTransfer chs → nth_channel chs c ≡ Some ch → WaitsInTransfer ch
get_waits chs zero ch h e = absurd (none-some ch e)
get_waits [] (suc i) ch h e = absurd (none-some ch e)
get_waits (x ∷ chs) (suc zero) ch h e = λ f. ap (λ (z : Channel). front z.traffic) (sym (same_Some x ch e)) ∙ h.0 (ap (λ (z : Channel). in_transfer z.state) (same_Some x ch e) ∙ f)
get_waits (x ∷ chs) (suc (suc i)) ch h e = get_waits chs (suc i) ch h.1 e

set_waits : (chs : List Channel) (i : ℕ) (ch : Channel) → Every WaitsInTransfer chs → WaitsInTransfer ch → Every WaitsInTransfer (set chs i ch)
set_waits [] i ch h f = tt
set_waits (x ∷ chs) zero ch h f = (f, h.1)
set_waits (x ∷ chs) (suc i) ch h f = (h.0, set_waits chs i ch h.1 f)

put_waits : (chs : List Channel) (c : ℕ) (ch : Channel) → Every WaitsInTransfer chs → WaitsInTransfer ch → Every WaitsInTransfer (with_nth chs c ch)
put_waits chs zero ch h f = h
put_waits chs (suc i) ch h f = set_waits chs i ch h f

closed_waits : (chs : List Channel) → Every WaitsInTransfer (map (λ ch. closed_channel) chs)
closed_waits [] = tt
closed_waits (x ∷ chs) = (λ e. refl, closed_waits chs)

new_waits : (n : ℕ) → Every WaitsInTransfer (replicate n closed_channel)
new_waits zero = tt
new_waits (suc n) = (λ e. refl, new_waits n)

standing_waits : (standing : Bool) (chs : List Channel) → Every WaitsInTransfer chs → Every WaitsInTransfer (standing_channels standing chs)
standing_waits true [] h = tt
standing_waits true (x ∷ chs) h = (open_waits (entered Transfer x) refl, h.1)
standing_waits false chs h = h

made_waits : (role : Role) (channels : ℕ) (flow : Flow) (standing : Bool) → AllWaitInTransfer (made role channels flow standing)
made_waits role channels flow standing = standing_waits standing (replicate channels closed_channel) (new_waits channels)

-- ---- a layer

found_waits : (l : Layer) (c : ℕ) (f : Channel → Step) (found : Option Channel) → channel_of l c ≡ found → AllWaitInTransfer l →
    ((ch : Channel) → found ≡ Some ch → WaitsInTransfer ch → WaitsInTransfer (f ch).channel) → AllWaitInTransfer (on_found l c f found)
found_waits l c f None e h g = h
found_waits l c f (Some ch) e h g = put_waits l.channels c (record (f ch).channel { owed = (after_owed (f ch)) }) h (g ch refl (get_waits l.channels c ch h e))
  where
    after_owed : Step → List Body
    after_owed st = with_owed st.channel.owed st.owes

channel_waits : (phase : Phase) (l : Layer) (c : ℕ) (f : Channel → Step) → AllWaitInTransfer l → ((ch : Channel) → WaitsInTransfer ch → WaitsInTransfer (f ch).channel) → AllWaitInTransfer (on_channel phase l c f)
channel_waits NoSession l c f h g = h
channel_waits OwnRestart l c f h g = h
channel_waits PacketReady l c f h g = found_waits l c f (channel_of l c) refl h (λ ch e k. g ch k)

restart_waits : (phase : Phase) (body : Body) (l : Layer) → AllWaitInTransfer l → AllWaitInTransfer (restart_packet phase body l)
restart_waits PacketReady (Restart cause diagnostic) l h = closed_waits l.channels
restart_waits PacketReady RestartConfirmation l h = closed_waits l.channels
restart_waits OwnRestart (Restart cause diagnostic) l h = h
restart_waits OwnRestart RestartConfirmation l h = h
restart_waits phase _ l h = h

packet_waits : (l : Layer) (p : Packet) → AllWaitInTransfer l → AllWaitInTransfer (on_packet l (Whole p))
packet_waits l p h =
    either_way AllWaitInTransfer (p.channel == 0) (restart_packet l.phase p.body (unread l)) (on_channel l.phase (unread l) p.channel (λ ch. received l.role l.flow p.channel ch p.body))
    (restart_waits l.phase p.body (unread l) h)
    (channel_waits l.phase (unread l) p.channel (λ ch. received l.role l.flow p.channel ch p.body) h (λ ch k. received_waits ch.state l.role l.flow p.channel ch p.body k))

expired_waits : (l : Layer) (t : Timer) → AllWaitInTransfer l → AllWaitInTransfer (expired l t)
expired_waits l RestartTimer h = h
expired_waits l (CallTimer c) h = found_waits l c (λ ch. clear_error l.role c 0 true ch) (channel_of l c) refl h (λ ch e k f. refl)
expired_waits l (ResetTimer c) h = found_waits l c (λ ch. clear_error l.role c 0 true ch) (channel_of l c) refl h (λ ch e k f. refl)
expired_waits l (ClearTimer c) h = closed_waits l.channels

timer_waits : (l : Layer) (t : Timer) → AllWaitInTransfer l → AllWaitInTransfer (on_timer l t)
timer_waits l t h = either_way AllWaitInTransfer (runs l t) (expired (unread l) t) l (expired_waits (unread l) t h) h

request_waits : (l : Layer) (c : ℕ) (r : Request) → AllWaitInTransfer l → AllWaitInTransfer (request l c r)
request_waits l c r h = found_waits l c (λ ch. requested l.role l.flow ch r) (channel_of l c) refl h (λ ch e k. requested_waits l.role l.flow ch r k)

placed_waits : (l : Layer) (parts : CallParts) (o : Option ℕ) → ((d : ℕ) → o ≡ Some d → (ch : Channel) × (channel_of l d ≡ Some ch) × (ch.state ≡ Ready)) → AllWaitInTransfer l → AllWaitInTransfer (placed_on l parts o)
placed_waits l parts None free h = h
placed_waits l parts (Some d) free h = found_waits l d (λ ch. placing parts ch) (channel_of l d) refl h (λ ch e k. one ch e k)
  where
    one : (ch : Channel) → channel_of l d ≡ Some ch → WaitsInTransfer ch → WaitsInTransfer (placing parts ch).channel
    one ch e k =
        let f = free d refl in
        λ z. k (ap (λ (x : Channel). in_transfer x.state) (same_Some ch f.0 (sym e ∙ f.1)) ∙ ap in_transfer f.2)

given_free : (phase : Phase) (l : Layer) (d : ℕ) → channel_given l phase ≡ Some d → (ch : Channel) × (channel_of l d ≡ Some ch) × (ch.state ≡ Ready)
given_free NoSession l d e = absurd (none-some d e)
given_free OwnRestart l d e = absurd (none-some d e)
given_free PacketReady l d e = free_is l.role l.channels d e

call_waits : (l : Layer) (parts : CallParts) → AllWaitInTransfer l → AllWaitInTransfer (call l parts)
call_waits l parts h = placed_waits l parts (channel_given l l.phase) (λ d e. given_free l.phase l d e) h

-- ---- the next packet

found_next_waits : (l : Layer) (c : ℕ) (found : Option Channel) (others : Next) → channel_of l c ≡ found → AllWaitInTransfer l → AllWaitInTransfer others.layer → AllWaitInTransfer (serve_found l c found others).layer
found_next_waits l c None others e h g = g
found_next_waits l c (Some ch) others e h g =
    either_way (λ (n : Next). AllWaitInTransfer n.layer) (is_some (next_of l.flow ch).body) _ others
    (put_waits l.channels c (next_of l.flow ch).channel h (next_waits l.flow ch.owed ch (get_waits l.channels c ch h e))) g

serve_waits : (k : ℕ) (l : Layer) (c : ℕ) → AllWaitInTransfer l → AllWaitInTransfer (serve k l c).layer
serve_waits zero l c h = h
serve_waits (suc k) l c h = found_next_waits l c (channel_of l c) (serve k l (next_number l c)) refl h (serve_waits k l (next_number l c) h)

owed_next_waits : (owed : List Body) (l : Layer) → AllWaitInTransfer l → AllWaitInTransfer (next_restart owed l).layer
owed_next_waits (b ∷ bs) l h = h
owed_next_waits [] l h = serve_waits (length l.channels) l (next_number l l.served_last) h

in_next_waits : (phase : Phase) (relink : Bool) (l : Layer) → AllWaitInTransfer l → AllWaitInTransfer (next_in phase relink l).layer
in_next_waits NoSession relink l h = h
in_next_waits OwnRestart true l h = h
in_next_waits OwnRestart false l h = owed_next_waits l.owed l h
in_next_waits PacketReady true l h = h
in_next_waits PacketReady false l h = owed_next_waits l.owed l h

-- ---- a line

abbrev pub BothWaitInTransfer : Line → Type 0
BothWaitInTransfer w = AllWaitInTransfer w.me.layer × AllWaitInTransfer w.you.layer

accepts_waits : (s : ℕ) (o : Option Packet) (e : End) → AllWaitInTransfer e.layer → AllWaitInTransfer (accepts s o e).layer
accepts_waits s None e h = h
accepts_waits s (Some p) e h = packet_waits e.layer p h

offers_waits : (o : Option ℕ) (e : End) → AllWaitInTransfer e.layer → AllWaitInTransfer (offers o e).layer
offers_waits None e h = h
offers_waits (Some s) e h = in_next_waits e.layer.phase e.layer.relink e.layer h

arrives_waits : (o : Option ℕ) (w : Line) → BothWaitInTransfer w → BothWaitInTransfer (arrives_in o w)
arrives_waits None w h = h
arrives_waits (Some s) w h = (accepts_waits s (next_of_session w s) w.me h.0, h.1)

happens_waits : (event : Event) (w : Line) → BothWaitInTransfer w → BothWaitInTransfer (happens event w)
happens_waits (Up s) w h = either_way BothWaitInTransfer (may_begin s w) (record w { me = begun s w.me }) w (closed_waits w.me.layer.channels, h.1) h
happens_waits Down w h = (closed_waits w.me.layer.channels, h.1)
happens_waits (Calls parts) w h = (call_waits w.me.layer parts h.0, h.1)
happens_waits (Requests c r) w h = (request_waits w.me.layer c r h.0, h.1)
happens_waits (Expires t) w h = (timer_waits w.me.layer t h.0, h.1)
happens_waits Offers w h = (offers_waits w.me.session w.me h.0, h.1)
happens_waits Arrives w h = arrives_waits w.me.session w h

move_waits : (m : Move) (v : World) → BothWaitInTransfer v.line → BothWaitInTransfer (after_move m v).line
move_waits (Happens (Here event)) v h = happens_waits event v.line h
move_waits (Happens (There event)) v h = let r = happens_waits event (turned v.line) (h.1, h.0) in (r.1, r.0)
move_waits (Edits role channel step) v h = h

pub moves_waits : (ms : List Move) (v : World) → BothWaitInTransfer v.line → BothWaitInTransfer (after_all ms v).line
moves_waits [] v h = h
moves_waits (m ∷ ms) v h = moves_waits ms (after_move m v) (move_waits m v h)

pub start_waits : (channels : ℕ) (flow : Flow) (standing : Bool) → BothWaitInTransfer (start_line channels flow standing)
start_waits channels flow standing = (made_waits Dte channels flow standing, made_waits Dce channels flow standing)

-- ---- what waits to be taken may be taken

front_open : (ch : Channel) (x : Taken) (v : Bool) → in_transfer ch.state ≡ v → WaitsInTransfer ch → front ch.traffic ≡ Some x → v ≡ true
front_open ch x true e h f = refl
front_open ch x false e h f = absurd (none-some x (sym (h e) ∙ f))

pub found_open : (l : Layer) (c : ℕ) (x : Taken) (found : Option Channel) → channel_of l c ≡ found → AllWaitInTransfer l → front_at found ≡ Some x →
    (ch : Channel) × (found ≡ Some ch) × (in_transfer ch.state ≡ true)
found_open l c x None e h f = absurd (none-some x f)
found_open l c x (Some ch) e h f = (ch, refl, front_open ch x (in_transfer ch.state) refl (get_waits l.channels c ch h e) f)
