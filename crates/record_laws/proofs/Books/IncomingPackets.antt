-- A packet that comes in at an end keeps the book right.
use Rattle.std.specs.Prelude.{◌≡◌, ℕ, ◌+◌, ◌≤◌, ◌⊎◌, Bool, true, false, cond, ◌||◌, ◌==◌, nat_lt, List, length, map, Option, Some, None}
use Rattle.std.proofs.Common.{inl, inr, refl, sym, ap, subst, ◌∙◌, arith}
use Rattle.std.proofs.lemmas.Option.{same_Some}
use Rattle.std.proofs.lemmas.Bool.{eq-eqb, lt-ltb}
use Rattle.data_transfer.specs.Packets.{CallParts, Packet, Body, Reason}
use Rattle.data_transfer.specs.Packets.Body.{Call, Restart, RestartConfirmation}
use Rattle.data_transfer.specs.Packets.Reason.{FarRestart, LocalFault}
use Rattle.data_transfer.specs.Packets.Received.{Whole}
use Rattle.packet_channel.specs.Channel.{ChannelState, Channel, Step, closed_channel, received}
use Rattle.packet_channel.specs.Channel.ChannelState.{Ready, OwnWaiting}
use Rattle.packet_layer.specs.Layer.{Phase, Layer, nth_channel, channel_of, closing_notes, unread, restart_packet, on_found, on_channel, on_packet, after_step, owing}
use Rattle.packet_layer.specs.Layer.Phase.{NoSession, OwnRestart, PacketReady}
use Rattle.packet_laws.specs.History.{History, received_history, packet_history, restart_history, channel_history, next_restart_of}
use Rattle.packet_laws.specs.LayerLineLaw.{TakesCall}
use Rattle.packet_laws.specs.LayerLine.{End, accepts, next_of_session, is_session}
use Rattle.call_records.specs.Book.{Book, all_told}
use Rattle.record_laws.specs.Books.Told.{all_came_by}
use Rattle.record_laws.proofs.Books.Basics.{by_true}
use Rattle.record_laws.proofs.Books.Ending.{Further}
use Rattle.record_laws.proofs.Books.EndSteps.{status_at, has_come}
use Rattle.record_laws.proofs.Books.Steps.{SameHistory, history_refl}
use Rattle.record_laws.proofs.Books.ChannelSteps.{KeptAt, Facts, Arrival}
use Rattle.record_laws.proofs.Books.Outcomes.{received_outcome}
use Rattle.record_laws.proofs.Books.Layers.{closed_length, told_here, either_way}
use Rattle.record_laws.proofs.Books.Ends.{restart_step}
use Rattle.record_laws.proofs.Books.Events.{moved_end, begun_rises, same_end_is, on_one, still, else_history, here_history, Rises}

-- ---- one more packet of the session was accepted

abbrev one_more : End → ℕ → ℕ → ℕ
one_more e s k = cond (k == s) (e.accepted k + 1) (e.accepted k)

more_rises : (e : End) (s : ℕ) → Rises e (one_more e s)
more_rises e s i h = either_way (λ (m : ℕ). nat_lt 0 m ≡ true) (i == s) (e.accepted i + 1) (e.accepted i) (lt-ltb 0 (e.accepted i + 1) (omega arith)) h

come_now : (e : End) (s : ℕ) → ((s == 0) || nat_lt 0 (one_more e s s)) ≡ true
come_now e s = or_right (s == 0) (nat_lt 0 (one_more e s s)) (ap (λ (m : ℕ). nat_lt 0 m) (by_true (s == s) (e.accepted s + 1) (e.accepted s) (eq-eqb s s refl)) ∙ lt-ltb 0 (e.accepted s + 1) (omega arith))
  where
    or_right : (a b : Bool) → b ≡ true → (a || b) ≡ true
    or_right true b h = refl
    or_right false b h = h

-- ---- the packet, by whether it is a restart packet, the phase and the channel that is found

abbrev on_by : Phase → Layer → ℕ → (Channel → Step) → Option Channel → Layer
on_by PacketReady l c f o = on_found l c f o
on_by OwnRestart l c f o = l
on_by NoSession l c f o = l

on_is : (ph : Phase) (l : Layer) (c : ℕ) (f : Channel → Step) → on_by ph l c f (channel_of l c) ≡ on_channel ph l c f
on_is PacketReady l c f = refl
on_is OwnRestart l c f = refl
on_is NoSession l c f = refl

abbrev step_of : Layer → Packet → Channel → Step
step_of l p ch = received l.role l.flow p.channel ch p.body

abbrev layer_at : Bool → Phase → Option Channel → Layer → Packet → Layer
layer_at v ph o l p = cond v (restart_packet ph p.body (unread l)) (on_by ph (unread l) p.channel (λ ch. step_of l p ch) o)

abbrev history_at : Bool → Phase → Option Channel → Layer → Packet → ℕ → History → History
history_at v ph o l p c st = cond v (restart_history ph p.body st) (cond (c == p.channel) (channel_history ph o (λ ch z. received_history l.role l.flow p.channel ch p.body z) st) st)

abbrev arrived : Bool → Phase → Option Channel → End → ℕ → Packet → End
arrived v ph o e s p = moved_end e (layer_at v ph o e.layer p) (λ c st. history_at v ph o e.layer p c st) (one_more e s)

abbrev Arrived : ℕ → End → End → ℕ → ℕ → Book → List (Option ℕ) → ℕ → Packet → Bool → Phase → Option Channel → Type 0
Arrived n e y te ty b cs s p v ph o = KeptAt n e.layer.role (arrived v ph o e s p) y te ty (all_told e.layer.role (layer_at v ph o e.layer p).notes b) (all_came_by e.layer.role (layer_at v ph o e.layer p).notes b cs)

-- nothing but the count changes
counts_only : (n : ℕ) (e y : End) (te ty : ℕ) (b : Book) (cs : List (Option ℕ)) (s : ℕ) (l' : Layer) (f : ℕ → History → History) → KeptAt n e.layer.role e y te ty b cs → l'.channels ≡ e.layer.channels → l'.role ≡ e.layer.role → l'.phase ≡ e.layer.phase → ((c : ℕ) (st : History) → SameHistory st (f c st))
    → KeptAt n e.layer.role (moved_end e l' f (one_more e s)) y te ty b cs
counts_only n e y te ty b cs s l' f k chs role phase history =
    still n e y te ty b cs l' f (one_more e s) k (λ c. ap (λ (l : List Channel). status_at e.layer.role (nth_channel l c)) chs) history (more_rises e s) (ap length chs)
    (same_end_is n e (moved_end e l' f (one_more e s)) k.here refl (more_rises e s) role phase (ap length chs))

same_if : (v : Bool) (st : History) → SameHistory st (cond v st st)
same_if true st = history_refl st
same_if false st = history_refl st

-- a restart packet closes all calls
closes_calls : (n : ℕ) (e y : End) (te ty : ℕ) (b : Book) (cs : List (Option ℕ)) (s : ℕ) (reason : Reason) (l' : Layer) → KeptAt n e.layer.role e y te ty b cs → l'.channels ≡ map (λ ch. closed_channel) e.layer.channels → l'.role ≡ e.layer.role → (l'.phase ≡ PacketReady → e.layer.phase ≡ PacketReady)
    → KeptAt n e.layer.role (moved_end e l' (λ c st. next_restart_of st) (one_more e s)) y te ty (all_told e.layer.role (closing_notes 1 reason e.layer.channels) b) (all_came_by e.layer.role (closing_notes 1 reason e.layer.channels) b cs)
closes_calls n e y te ty b cs s reason l' k chs role phase =
    let e' : End = moved_end e l' (λ c st. next_restart_of st) (one_more e s) in
    let count : length l'.channels ≡ length e.layer.channels = ap length chs ∙ closed_length e.layer.channels in
    restart_step n e.layer.role e e' y te ty b cs reason k (record {
      channels = chs;
      epochs = λ i c p u g. either_way (λ (z : History). z.epochs p u g ≡ (e.histories i c).epochs p u g) (is_session e.session i) (next_restart_of (e.histories i c)) (e.histories i c) refl refl;
      begun = begun_rises e.layer.role e e' (more_rises e s) count;
    }) refl (λ i c up. subst (λ (z : History). Further (e.histories i c) z) (sym (told_here e i c (λ m st. next_restart_of st) up)) (inl (omega arith)))
    (record {
      role = role;
      count = count ∙ k.here.count;
      up = λ p. let u = k.here.up (phase p) in (u.0, u.1, risen e s u.0 u.2);
    })
  where
    risen : (e : End) (s i : ℕ) → has_come e i ≡ true → ((i == 0) || nat_lt 0 (one_more e s i)) ≡ true
    risen e s i h = or_up (i == 0) (nat_lt 0 (e.accepted i)) (nat_lt 0 (one_more e s i)) (more_rises e s i) h
      where
        or_up : (a b c : Bool) → (b ≡ true → c ≡ true) → (a || b) ≡ true → (a || c) ≡ true
        or_up true b c h e = refl
        or_up false b c h e = h e

-- the own restart is over
now_ready : (n : ℕ) (e y : End) (te ty : ℕ) (b : Book) (cs : List (Option ℕ)) (s : ℕ) (l' : Layer) → KeptAt n e.layer.role e y te ty b cs → e.session ≡ Some s → l'.channels ≡ e.layer.channels → l'.role ≡ e.layer.role → KeptAt n e.layer.role (moved_end e l' (λ c st. st) (one_more e s)) y te ty b cs
now_ready n e y te ty b cs s l' k up chs role =
    still n e y te ty b cs l' (λ c st. st) (one_more e s) k (λ c. ap (λ (l : List Channel). status_at e.layer.role (nth_channel l c)) chs) (λ c st. history_refl st) (more_rises e s) (ap length chs)
    (record { role = role; count = ap length chs ∙ k.here.count; up = λ p. (s, up, come_now e s) })

restart_in : (n : ℕ) (e y : End) (te ty : ℕ) (b : Book) (cs : List (Option ℕ)) (s c : ℕ) (o : Option Channel) (body : Body) (ph : Phase) → KeptAt n e.layer.role e y te ty b cs → e.session ≡ Some s → e.layer.phase ≡ ph → Arrived n e y te ty b cs s (record { channel = c; body = body }) true ph o
restart_in n e y te ty b cs s c o (Restart cause diagnostic) PacketReady k up phase = closes_calls n e y te ty b cs s FarRestart (restart_packet PacketReady (Restart cause diagnostic) (unread e.layer)) k refl refl (λ p. phase)
restart_in n e y te ty b cs s c o RestartConfirmation PacketReady k up phase = closes_calls n e y te ty b cs s LocalFault (restart_packet PacketReady RestartConfirmation (unread e.layer)) k refl refl (λ p. phase)
restart_in n e y te ty b cs s c o (Restart cause diagnostic) OwnRestart k up phase = now_ready n e y te ty b cs s (restart_packet OwnRestart (Restart cause diagnostic) (unread e.layer)) k up refl refl
restart_in n e y te ty b cs s c o RestartConfirmation OwnRestart k up phase = now_ready n e y te ty b cs s (restart_packet OwnRestart RestartConfirmation (unread e.layer)) k up refl refl
restart_in n e y te ty b cs s c o body PacketReady k up phase = counts_only n e y te ty b cs s (unread e.layer) (λ d st. st) k refl refl refl (λ d st. history_refl st)
restart_in n e y te ty b cs s c o body OwnRestart k up phase = counts_only n e y te ty b cs s (unread e.layer) (λ d st. st) k refl refl refl (λ d st. history_refl st)
restart_in n e y te ty b cs s c o body NoSession k up phase = counts_only n e y te ty b cs s (unread e.layer) (λ d st. st) k refl refl refl (λ d st. history_refl st)

-- on a channel
takes_call : (s : ChannelState) → (s ≡ Ready) ⊎ (s ≡ OwnWaiting) → TakesCall s
takes_call s (inl e) = subst (λ (z : ChannelState). TakesCall z) (sym e) tt
takes_call s (inr e) = subst (λ (z : ChannelState). TakesCall z) (sym e) tt

arrival_of : (n : ℕ) (e y : End) (te ty : ℕ) (b : Book) (cs : List (Option ℕ)) (s d : ℕ) (body : Body) (ch : Channel) → KeptAt n e.layer.role e y te ty b cs → e.session ≡ Some s → next_of_session (record { me = e; you = y }) s ≡ Some (record { channel = d; body = body }) → ty ≤ s → e.layer.phase ≡ PacketReady
    → channel_of e.layer d ≡ Some ch → (parts : CallParts) → body ≡ Call parts → (ch.state ≡ Ready) ⊎ (ch.state ≡ OwnWaiting) → Arrival e y s d ty parts
arrival_of n e y te ty b cs s d body ch k up next order phase found parts is state =
    let u = k.here.up phase in
    record {
      arrives = record {
        up = up;
        next = next ∙ ap (λ (z : Body). Some (record { channel = d; body = z })) is;
        ready = phase;
        channel = ch;
        found = found;
        takes = takes_call ch.state state;
      };
      order = order;
      come = subst (λ (i : ℕ). has_come e i ≡ true) (same_Some u.0 s (sym u.1 ∙ up)) u.2;
    }

channel_in : (n : ℕ) (e y : End) (te ty : ℕ) (b : Book) (cs : List (Option ℕ)) (s d : ℕ) (body : Body) (ph : Phase) (o : Option Channel) → KeptAt n e.layer.role e y te ty b cs → Facts n e y → e.session ≡ Some s → next_of_session (record { me = e; you = y }) s ≡ Some (record { channel = d; body = body }) → ty ≤ s → e.layer.phase ≡ ph
    → channel_of e.layer d ≡ o → Arrived n e y te ty b cs s (record { channel = d; body = body }) false ph o
channel_in n e y te ty b cs s d body PacketReady (Some ch) k facts up next order phase found =
    let st : Step = received e.layer.role e.layer.flow d ch body in
    on_one n e y te ty b cs s d ch (owing st) st.channel (after_step (unread e.layer) d st) (λ c z. cond (c == d) (received_history e.layer.role e.layer.flow d ch body z) z) (one_more e s)
    (λ z. received_history e.layer.role e.layer.flow d ch body z) (λ v. all_told e.layer.role st.notes v) (λ v l. all_came_by e.layer.role st.notes v l) (λ parts. body ≡ Call parts) k facts up found refl refl refl refl
    (λ z. here_history d (received_history e.layer.role e.layer.flow d ch body z) z) (λ c z h. else_history c d (received_history e.layer.role e.layer.flow d ch body z) z h) (more_rises e s)
    (arrival_of n e y te ty b cs s d body ch k up next order phase found) (received_outcome e.layer.role e.layer.flow d ch body)
channel_in n e y te ty b cs s d body PacketReady None k facts up next order phase found = counts_only n e y te ty b cs s (unread e.layer) (λ c st. cond (c == d) st st) k refl refl refl (λ c st. same_if (c == d) st)
channel_in n e y te ty b cs s d body OwnRestart o k facts up next order phase found = counts_only n e y te ty b cs s (unread e.layer) (λ c st. cond (c == d) st st) k refl refl refl (λ c st. same_if (c == d) st)
channel_in n e y te ty b cs s d body NoSession o k facts up next order phase found = counts_only n e y te ty b cs s (unread e.layer) (λ c st. cond (c == d) st st) k refl refl refl (λ c st. same_if (c == d) st)

arrived_any : (n : ℕ) (e y : End) (te ty : ℕ) (b : Book) (cs : List (Option ℕ)) (s : ℕ) (p : Packet) (v : Bool) → KeptAt n e.layer.role e y te ty b cs → Facts n e y → e.session ≡ Some s → next_of_session (record { me = e; you = y }) s ≡ Some p → ty ≤ s
    → Arrived n e y te ty b cs s p v e.layer.phase (channel_of e.layer p.channel)
arrived_any n e y te ty b cs s p true k facts up next order = restart_in n e y te ty b cs s p.channel (channel_of e.layer p.channel) p.body e.layer.phase k up refl
arrived_any n e y te ty b cs s p false k facts up next order = channel_in n e y te ty b cs s p.channel p.body e.layer.phase (channel_of e.layer p.channel) k facts up next order refl refl

-- the layer after the packet
layer_is : (l : Layer) (p : Packet) → layer_at (p.channel == 0) l.phase (channel_of l p.channel) l p ≡ on_packet l (Whole p)
layer_is l p = ap (λ (z : Layer). cond (p.channel == 0) (restart_packet l.phase p.body (unread l)) z) (on_is l.phase (unread l) p.channel (λ ch. step_of l p ch))

pub accepts_kept : (n : ℕ) (e y : End) (te ty : ℕ) (b : Book) (cs : List (Option ℕ)) (s : ℕ) (p : Packet) → KeptAt n e.layer.role e y te ty b cs → Facts n e y → e.session ≡ Some s → next_of_session (record { me = e; you = y }) s ≡ Some p → ty ≤ s
    → KeptAt n e.layer.role (accepts s (Some p) e) y te ty (all_told e.layer.role (on_packet e.layer (Whole p)).notes b) (all_came_by e.layer.role (on_packet e.layer (Whole p)).notes b cs)
accepts_kept n e y te ty b cs s p k facts up next order =
    subst (λ (l : Layer). KeptAt n e.layer.role (moved_end e l (λ c st. packet_history e.layer p c st) (one_more e s)) y te ty (all_told e.layer.role l.notes b) (all_came_by e.layer.role l.notes b cs)) (layer_is e.layer p)
    (arrived_any n e y te ty b cs s p (p.channel == 0) k facts up next order)
