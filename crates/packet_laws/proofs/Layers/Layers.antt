-- What each call makes of a layer agrees with the epochs that it makes of those that agreed with the layer.
use Rattle.std.proofs.Common.{◌≡◌, ℕ, zero, suc, ◌<◌, ◌==◌, Bool, true, false, cond, List, [], ◌∷◌, length, map, replicate, slice_get, Option, Some, None, refl, sym, subst, ◌∙◌, inl, inr, true≢false}
use Rattle.std.proofs.lemmas.Bool.{eqb-true, eqb-false, cases_eq}
use Rattle.std.proofs.lemmas.Option.{none-some, same_Some}
use Rattle.link_timers.specs.declared.role.Role.{Role}
use Rattle.packet_codec.specs.Diagnostic.{no_information}
use Rattle.data_transfer.specs.Flow.{modulus}
use Rattle.data_transfer.specs.declared.flow.Flow.{Flow}
use Rattle.data_transfer.specs.Packets.{CallParts, Body, Received}
use Rattle.data_transfer.specs.Packets.Body.{Restart, RestartConfirmation}
use Rattle.data_transfer.specs.Packets.Received.{Whole, Unknown, Faulty}
use Rattle.packet_channel.specs.Channel.{Channel, Step, Request, closed_channel, clear_error, entered, is_ready, owing, placing, received, requested, unreadable, ChannelNext, next_of}
use Rattle.packet_channel.specs.Channel.ChannelState.{Transfer}
use Rattle.packet_layer.specs.Layer.{Layer, Phase, Timer, Next, nth_channel, channel_of, with_nth, standing_channels, unread, start_cause, link_up, link_down, restart_packet, on_found, on_channel, on_received, runs, expired, channel_given, placed_on, call, request, next_number, served, serve_found, serve, next_restart, next_in, next_packet}
use Rattle.packet_layer.specs.Layer.Phase.{NoSession, OwnRestart, PacketReady}
use Rattle.packet_layer.specs.Layer.Timer.{RestartTimer, CallTimer, ResetTimer, ClearTimer}
use Rattle.packet_layer.specs.Events.{after_hearing, on_named, timer_named}
use Rattle.data_transfer.specs.Octets.{heard}
use Rattle.packet_laws.specs.History.{Epoch, empty_epoch}
use Rattle.packet_laws.specs.Readable.{Every, IfAny}
use Rattle.packet_laws.proofs.Call.Saying.{by_cond, and_parts}
use Rattle.packet_laws.proofs.Line.Lines.{nth_same, nth_other}
use Rattle.packet_laws.proofs.Line.Outcomes.{Freed, free_is, given_ready}
use Rattle.packet_laws.specs.Layers.Epochs as epochs
use Rattle.packet_laws.specs.Layers.Epochs.{Epochs, all_begun, after_request, after_packet, after_unreadable}
use Rattle.packet_laws.specs.Layers.Acts.{Act, layer_after, epochs_after, start}
use Rattle.packet_laws.specs.Layers.Acts.Act.{Up, Down, Calls, Requests, Expires, Arrives, Offers, Reads}
use Rattle.packet_laws.specs.Layers.Counts.{HasNoNumber, Agrees, AllCounts, AllAgree, IsNamed, IsNamedAmong}
use Rattle.packet_laws.proofs.Layers.Channels.{owed_controls, closed_agrees, clears, received_agrees, unreadable_agrees, requested_agrees, places}
use Rattle.packet_laws.proofs.Layers.Saying.{no_number, NextAgrees, next_agrees}

-- a layer with this window agrees with these epochs
pub record Follows (flow : Flow) (l : Layer) (es : Epochs) : Type 0 where
  pub window_is : l.flow ≡ flow
  pub counts : AllCounts flow l.channels l.owed es

both : {X Y : Type 0} (P : X → Y → Type 0) (b : Bool) (x x' : X) (y y' : Y) → P x y → P x' y' → P (cond b x x') (cond b y y')
both P true x x' y y' p q = p
both P false x x' y y' p q = q

-- ---- one channel is changed

changes : (flow : Flow) (chs : List Channel) (owed : List Body) (es es' : Epochs) (c : ℕ) (ch ch' : Channel) → nth_channel chs c ≡ Some ch → AllCounts flow chs owed es → Agrees flow ch' (es' c)
    → ((d : ℕ) (x : Channel) → (d ≡ c → ⊥) → Agrees flow x (es d) → Agrees flow x (es' d)) → AllCounts flow (with_nth chs c ch') owed es'
changes flow chs owed es es' c ch ch' found k good others = record { each = each; restarts = k.restarts }
  where
    each : (d : ℕ) (x : Channel) → nth_channel (with_nth chs c ch') d ≡ Some x → Agrees flow x (es' d)
    each d x e =
        elim (cases_eq d c) [
          | inl same ↦
              let there : nth_channel (with_nth chs c ch') c ≡ Some x = subst (λ (n : ℕ). nth_channel (with_nth chs c ch') n ≡ Some x) same e in
              let is : ch' ≡ x = same_Some _ _ (sym (nth_same chs c ch ch' found) ∙ there) in
              subst (λ (n : ℕ). Agrees flow x (es' n)) (sym same) (subst (λ (y : Channel). Agrees flow y (es' c)) is good)
          | inr other ↦ others d x other (k.each d x (sym (nth_other chs d c ch' other) ∙ e))
        ]

found_follows : (flow : Flow) (l : Layer) (es : Epochs) (c : ℕ) (f : Channel → Step) (g : Channel → Epoch → Epoch) → ((ch : Channel) (e : Epoch) → Agrees flow ch e → Agrees flow (owing (f ch)) (g ch e))
    → Follows flow l es → (o : Option Channel) → channel_of l c ≡ o → Follows flow (on_found l c f o) (epochs.on_found o c g es)
found_follows flow l es c f g step k None e = k
found_follows flow l es c f g step k (Some ch) e = record {
  window_is = k.window_is;
  counts = changes flow l.channels l.owed es (λ d. cond (d == c) (g ch (es d)) (es d)) c ch (owing (f ch)) e k.counts
      (by_cond (λ (v : Epoch). Agrees flow (owing (f ch)) v) (c == c) _ _ (λ h. step ch (es c) (k.counts.each c ch e)) (λ h. absurd (eqb-false c c h refl)))
      (λ d x other good. by_cond (λ (v : Epoch). Agrees flow x v) (d == c) _ _ (λ h. absurd (other (eqb-true d c h))) (λ h. good));
}

channel_follows : (phase : Phase) (flow : Flow) (l : Layer) (es : Epochs) (c : ℕ) (f : Channel → Step) (g : Channel → Epoch → Epoch) → ((ch : Channel) (e : Epoch) → Agrees flow ch e → Agrees flow (owing (f ch)) (g ch e))
    → Follows flow l es → Follows flow (on_channel phase l c f) (epochs.on_channel phase (channel_of l c) c g es)
channel_follows PacketReady flow l es c f g step k = found_follows flow l es c f g step k (channel_of l c) refl
channel_follows OwnRestart flow l es c f g step k = k
channel_follows NoSession flow l es c f g step k = k

-- ---- all calls end

closed_at : (chs : List Channel) (i : ℕ) (ch : Channel) → slice_get (map (λ x. closed_channel) chs) i ≡ Some ch → closed_channel ≡ ch
closed_at [] i ch e = absurd (none-some ch e)
closed_at (x ∷ xs) zero ch e = same_Some _ _ e
closed_at (x ∷ xs) (suc i) ch e = closed_at xs i ch e

closed_each : (flow : Flow) (chs : List Channel) (c : ℕ) (ch : Channel) → nth_channel (map (λ x. closed_channel) chs) c ≡ Some ch → Agrees flow ch empty_epoch
closed_each flow chs zero ch e = absurd (none-some ch e)
closed_each flow chs (suc i) ch e = subst (λ (x : Channel). Agrees flow x empty_epoch) (closed_at chs i ch e) (closed_agrees flow)

closed_all : (flow : Flow) (chs : List Channel) (owed : List Body) → Every HasNoNumber owed → AllCounts flow (map (λ x. closed_channel) chs) owed all_begun
closed_all flow chs owed all = record { each = closed_each flow chs; restarts = all }

-- ---- as it is made

stands : (flow : Flow) → Agrees flow (entered Transfer closed_channel) empty_epoch
stands flow = let k = closed_agrees flow in record { names = k.names; unused = λ out. absurd (true≢false out); controls = tt }

new_at : (n i : ℕ) (ch : Channel) → slice_get (replicate n closed_channel) i ≡ Some ch → closed_channel ≡ ch
new_at zero i ch e = absurd (none-some ch e)
new_at (suc n) zero ch e = same_Some _ _ e
new_at (suc n) (suc i) ch e = new_at n i ch e

standing_at : (flow : Flow) (standing : Bool) (chs : List Channel) → ((i : ℕ) (ch : Channel) → slice_get chs i ≡ Some ch → closed_channel ≡ ch)
    → (i : ℕ) (ch : Channel) → slice_get (standing_channels standing chs) i ≡ Some ch → Agrees flow ch empty_epoch
standing_at flow true [] are i ch e = absurd (none-some ch e)
standing_at flow true (x ∷ xs) are zero ch e =
    subst (λ (y : Channel). Agrees flow y empty_epoch) (same_Some _ _ e)
    (subst (λ (y : Channel). Agrees flow (entered Transfer y) empty_epoch) (are zero x refl) (stands flow))
standing_at flow true (x ∷ xs) are (suc i) ch e = subst (λ (y : Channel). Agrees flow y empty_epoch) (are (suc i) ch e) (closed_agrees flow)
standing_at flow false chs are i ch e = subst (λ (y : Channel). Agrees flow y empty_epoch) (are i ch e) (closed_agrees flow)

made_each : (flow : Flow) (standing : Bool) (chs : List Channel) → ((i : ℕ) (ch : Channel) → slice_get chs i ≡ Some ch → closed_channel ≡ ch)
    → (c : ℕ) (ch : Channel) → nth_channel (standing_channels standing chs) c ≡ Some ch → Agrees flow ch empty_epoch
made_each flow standing chs are zero ch e = absurd (none-some ch e)
made_each flow standing chs are (suc i) ch e = standing_at flow standing chs are i ch e

pub made_agrees : (role : Role) (channels : ℕ) (flow : Flow) (standing : Bool) → AllAgree (start role channels flow standing)
made_agrees role channels flow standing = record { each = made_each flow standing (replicate channels closed_channel) (new_at channels); restarts = tt }

-- ---- packets from the link

restart_follows : (phase : Phase) (flow : Flow) (b : Body) (l : Layer) (es : Epochs) → Follows flow l es → Follows flow (restart_packet phase b l) (epochs.on_restart phase b es)
restart_follows PacketReady flow (Restart cause diagnostic) l es k = record {
  window_is = k.window_is;
  counts = closed_all flow l.channels _ (owed_controls l.owed RestartConfirmation k.counts.restarts tt);
}
restart_follows PacketReady flow RestartConfirmation l es k = record {
  window_is = k.window_is;
  counts = closed_all flow l.channels _ (owed_controls l.owed (Restart _ _) k.counts.restarts tt);
}
restart_follows PacketReady flow _ l es k = k
restart_follows OwnRestart flow (Restart cause diagnostic) l es k = record { window_is = k.window_is; counts = k.counts }
restart_follows OwnRestart flow RestartConfirmation l es k = record { window_is = k.window_is; counts = k.counts }
restart_follows OwnRestart flow _ l es k = k
restart_follows NoSession flow _ l es k = k

received_follows : (flow : Flow) (l : Layer) (r : Received) (es : Epochs) → flow.window < modulus flow.numbering → Follows flow l es → Follows flow (on_received l r) (epochs.on_received l r es)
received_follows flow l (Whole p) es le k =
    both (λ (x : Layer) (y : Epochs). Follows flow x y) (p.channel == 0) _ _ _ _ (restart_follows l.phase flow p.body l es k)
    (channel_follows l.phase flow l es p.channel (λ ch. received l.role l.flow p.channel ch p.body) (λ ch e. after_packet l.role l.flow p.channel p.body ch e) step k)
  where
    step : (ch : Channel) (e : Epoch) → Agrees flow ch e → Agrees flow (owing (received l.role l.flow p.channel ch p.body)) (after_packet l.role l.flow p.channel p.body ch e)
    step ch e good =
        subst (λ (f : Flow). Agrees flow (owing (received l.role f p.channel ch p.body)) (after_packet l.role f p.channel p.body ch e)) (sym k.window_is)
        (received_agrees l.role flow p.channel p.body le ch e good)
received_follows flow l (Unknown c) es le k =
    channel_follows l.phase flow l es c (λ ch. unreadable l.role c true ch) (λ ch e. after_unreadable l.role c true ch e) (λ ch e good. unreadable_agrees l.role flow c true ch e good) k
received_follows flow l (Faulty c) es le k =
    channel_follows l.phase flow l es c (λ ch. unreadable l.role c false ch) (λ ch e. after_unreadable l.role c false ch e) (λ ch e good. unreadable_agrees l.role flow c false ch e good) k

read_again : (flow : Flow) (l : Layer) (es : Epochs) → Follows flow l es → Follows flow (unread l) es
read_again flow l es k = record { window_is = k.window_is; counts = k.counts }

hearing_follows : (flow : Flow) (l : Layer) (o : Option Received) (es : Epochs) → flow.window < modulus flow.numbering → Follows flow l es → Follows flow (after_hearing (unread l) o) (epochs.on_hearing l o es)
hearing_follows flow l None es le k = read_again flow l es k
hearing_follows flow l (Some (Whole p)) es le k = received_follows flow (unread l) (Whole p) es le (read_again flow l es k)
hearing_follows flow l (Some (Unknown c)) es le k = received_follows flow (unread l) (Unknown c) es le (read_again flow l es k)
hearing_follows flow l (Some (Faulty c)) es le k = received_follows flow (unread l) (Faulty c) es le (read_again flow l es k)

-- ---- timers

expired_follows : (flow : Flow) (l : Layer) (t : Timer) (es : Epochs) → Follows flow l es → Follows flow (expired l t) (epochs.on_expiry l t es)
expired_follows flow l RestartTimer es k = record { window_is = k.window_is; counts = k.counts }
expired_follows flow l (CallTimer c) es k =
    found_follows flow l es c (λ ch. clear_error l.role c no_information true ch) (λ ch e. empty_epoch) (λ ch e good. clears l.role flow c no_information true ch e good.controls) k (channel_of l c) refl
expired_follows flow l (ResetTimer c) es k =
    found_follows flow l es c (λ ch. clear_error l.role c no_information true ch) (λ ch e. empty_epoch) (λ ch e good. clears l.role flow c no_information true ch e good.controls) k (channel_of l c) refl
expired_follows flow l (ClearTimer c) es k = record {
  window_is = k.window_is;
  counts = closed_all flow l.channels _ (owed_controls l.owed (Restart _ _) k.counts.restarts tt);
}

timer_follows : (flow : Flow) (l : Layer) (o : Option Timer) (es : Epochs) → Follows flow l es → Follows flow (on_named l o) (epochs.on_timer l o es)
timer_follows flow l None es k = k
timer_follows flow l (Some t) es k =
    both (λ (x : Layer) (y : Epochs). Follows flow x y) (runs l t) _ _ _ _ (expired_follows flow (unread l) t es (read_again flow l es k)) k

-- ---- what the user asks

call_follows : (flow : Flow) (l : Layer) (parts : CallParts) (es : Epochs) → Follows flow l es → Follows flow (call l parts) es
call_follows flow l parts es k = given (channel_given l l.phase) refl
  where
    on_free : (d : ℕ) → Freed l.channels d → Follows flow (on_found l d (λ ch. placing parts ch) (channel_of l d)) es
    on_free d f =
        subst (λ (o : Option Channel). Follows flow (on_found l d (λ ch. placing parts ch) o) es) (sym f.1.0) (record {
          window_is = k.window_is;
          counts = changes flow l.channels l.owed es es d f.0 (owing (placing parts f.0)) f.1.0 k.counts
              (places flow parts f.0 (es d) (and_parts (is_ready f.0.state) _ f.1.1).0 (k.counts.each d f.0 f.1.0)) (λ d' x other good. good);
        })

    given : (o : Option ℕ) → channel_given l l.phase ≡ o → Follows flow (placed_on l parts o) es
    given None e = k
    given (Some d) e = on_free d (free_is l.role l.channels d (given_ready l l.phase d e).1)

request_follows : (flow : Flow) (l : Layer) (c : ℕ) (r : Request) (es : Epochs) → flow.window < modulus flow.numbering → Follows flow l es
    → Follows flow (request l c r) (epochs.on_found (channel_of l c) c (λ ch e. after_request l.role l.flow r ch e) es)
request_follows flow l c r es le k =
    found_follows flow l es c (λ ch. requested l.role l.flow ch r) (λ ch e. after_request l.role l.flow r ch e) step k (channel_of l c) refl
  where
    step : (ch : Channel) (e : Epoch) → Agrees flow ch e → Agrees flow (owing (requested l.role l.flow ch r)) (after_request l.role l.flow r ch e)
    step ch e good =
        subst (λ (f : Flow). Agrees flow (owing (requested l.role f ch r)) (after_request l.role f r ch e)) (sym k.window_is) (requested_agrees l.role flow r le ch e good)

-- ---- what goes to the link

abbrev Gives : Flow → Epochs → Next → Type 0
Gives flow es n = Follows flow n.layer es × IsNamedAmong flow es n.packet

served_gives : (flow : Flow) (l : Layer) (c : ℕ) (es : Epochs) (ch : Channel) (n : ChannelNext) (others : Next) → channel_of l c ≡ Some ch → Follows flow l es → NextAgrees flow (es c) n → Gives flow es others
    → Gives flow es (served l c n others)
served_gives flow l c es ch n others found k good rest = by_body n.body n.channel good.0 good.1
  where
    by_body : (o : Option Body) (x : Channel) → Agrees flow x (es c) → IfAny (λ b. IsNamed flow (es c) b) o → Gives flow es (served l c (record { channel = x; body = o }) others)
    by_body None x agrees named = rest
    by_body (Some b) x agrees named = (record { window_is = k.window_is; counts = changes flow l.channels l.owed es es c ch x found k.counts agrees (λ d y other same. same) }, named)

found_gives : (flow : Flow) (l : Layer) (c : ℕ) (es : Epochs) (others : Next) → flow.window < modulus flow.numbering → (o : Option Channel) → channel_of l c ≡ o → Follows flow l es → Gives flow es others → Gives flow es (serve_found l c o others)
found_gives flow l c es others le None e k rest = rest
found_gives flow l c es others le (Some ch) e k rest =
    served_gives flow l c es ch (next_of l.flow ch) others e k
    (subst (λ (f : Flow). NextAgrees flow (es c) (next_of f ch)) (sym k.window_is) (next_agrees flow ch (es c) le (k.counts.each c ch e))) rest

serve_gives : (n : ℕ) (flow : Flow) (l : Layer) (c : ℕ) (es : Epochs) → flow.window < modulus flow.numbering → Follows flow l es → Gives flow es (serve n l c)
serve_gives zero flow l c es le k = (k, tt)
serve_gives (suc n) flow l c es le k = found_gives flow l c es (serve n l (next_number l c)) le (channel_of l c) refl k (serve_gives n flow l (next_number l c) es le k)

restart_gives : (owed : List Body) (flow : Flow) (l : Layer) (es : Epochs) → l.owed ≡ owed → flow.window < modulus flow.numbering → Follows flow l es → Gives flow es (next_restart owed l)
restart_gives [] flow l es e le k = serve_gives (length l.channels) flow l (next_number l l.served_last) es le k
restart_gives (b ∷ bs) flow l es e le k =
    let all : Every HasNoNumber (b ∷ bs) = subst (λ (owed : List Body). Every HasNoNumber owed) e k.counts.restarts in
    (record { window_is = k.window_is; counts = record { each = k.counts.each; restarts = all.1 } }, no_number flow (es 0) b all.0)

next_gives : (phase : Phase) (relink : Bool) (flow : Flow) (l : Layer) (es : Epochs) → flow.window < modulus flow.numbering → Follows flow l es → Gives flow es (next_in phase relink l)
next_gives NoSession relink flow l es le k = (k, tt)
next_gives OwnRestart true flow l es le k = (k, tt)
next_gives PacketReady true flow l es le k = (k, tt)
next_gives OwnRestart false flow l es le k = restart_gives l.owed flow l es refl le k
next_gives PacketReady false flow l es le k = restart_gives l.owed flow l es refl le k

pub gives : (flow : Flow) (l : Layer) (es : Epochs) → flow.window < modulus flow.numbering → Follows flow l es → Gives flow es (next_packet l)
gives flow l es le k = next_gives l.phase l.relink flow l es le k

-- ---- every call

up_follows : (flow : Flow) (l : Layer) (es : Epochs) → Follows flow l es → Follows flow (link_up l) all_begun
up_follows flow l es k = record { window_is = k.window_is; counts = closed_all flow l.channels _ (owed_controls [] (Restart (start_cause l.role) no_information) tt tt) }

down_follows : (flow : Flow) (l : Layer) (es : Epochs) → Follows flow l es → Follows flow (link_down l) all_begun
down_follows flow l es k = record { window_is = k.window_is; counts = closed_all flow l.channels [] tt }

pub act_follows : (act : Act) (flow : Flow) (l : Layer) (es : Epochs) → flow.window < modulus flow.numbering → Follows flow l es → Follows flow (layer_after act l) (epochs_after act l es)
act_follows Up flow l es le k = up_follows flow l es k
act_follows Down flow l es le k = down_follows flow l es k
act_follows (Calls parts) flow l es le k = call_follows flow l parts es k
act_follows (Requests c r) flow l es le k = request_follows flow l c r es le k
act_follows (Expires id) flow l es le k = timer_follows flow l (timer_named l.role id) es k
act_follows (Arrives octets) flow l es le k = hearing_follows flow l (heard l.flow octets) es le k
act_follows Offers flow l es le k = (gives flow l es le k).0
act_follows Reads flow l es le k = record { window_is = k.window_is; counts = k.counts }
