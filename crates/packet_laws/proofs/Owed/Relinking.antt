-- A line of which the requests for a relink are taken back: what happens to a line happens to it too, as long as only the restart
-- timer asks for a relink, or nothing does. Histories and notes may differ, which no event reads.
use Rattle.std.proofs.Common.{◌≡◌, ℕ, zero, suc, Bool, true, false, cond, ◌==◌, List, [], ◌∷◌, length, Option, Some, None, is_some, refl, sym, ap, subst, ◌∙◌}
use Rattle.data_transfer.specs.Packets.{CallParts, Body, Packet, Received, Note}
use Rattle.data_transfer.specs.Packets.Body.{Restart, RestartConfirmation}
use Rattle.packet_channel.specs.Channel.{Channel, Step, Request, requested, received, clear_error}
use Rattle.packet_layer.specs.Layer.{Phase, Layer, Next, Timer, channel_of, call, channel_given, placed_on, placing, request, on_found, on_channel, on_timer, expired, runs, runs_at, restart_packet, on_packet, unread, next_packet, next_in, next_restart, next_number, next_of, serve, serve_found, link_down, in_own_restart, waits_for_call}
use Rattle.packet_layer.specs.Layer.Phase.{NoSession, OwnRestart, PacketReady}
use Rattle.packet_layer.specs.Layer.Timer.{RestartTimer, CallTimer, ResetTimer, ClearTimer}
use Rattle.packet_laws.specs.History.{History}
use Rattle.packet_laws.specs.LayerLine.{End, Line, Event, happens, begun, may_begin, handed_over, offers, accepts, arrives_in, next_of_session}
use Rattle.packet_laws.specs.LayerLine.Event.{Up, Down, Calls, Requests, Expires, Offers, Arrives}

-- ---- a layer that does not ask, with other notes

abbrev pub bare : List Note → Layer → Layer
bare n l = record l { relink = false; notes = n }

pub settled_bare : (l : Layer) → l.relink ≡ false → l ≡ bare l.notes l
settled_bare l e = ap (λ (v : Bool). record l { relink = v }) e

bare_found : (n m : List Note) (l : Layer) (d : ℕ) (F : Channel → Step) (found : Option Channel) → bare n (on_found (bare m l) d F found) ≡ bare n (on_found l d F found)
bare_found n m l d F None = refl
bare_found n m l d F (Some ch) = refl

bare_placed : (n m : List Note) (l : Layer) (parts : CallParts) (o : Option ℕ) → bare n (placed_on (bare m l) parts o) ≡ bare n (placed_on l parts o)
bare_placed n m l parts None = refl
bare_placed n m l parts (Some d) = bare_found n m l d (λ ch. placing parts ch) (channel_of l d)

bare_call : (n m : List Note) (l : Layer) (parts : CallParts) → bare n (call (bare m l) parts) ≡ bare n (call l parts)
bare_call n m l parts = bare_placed n m l parts (channel_given l l.phase)

bare_request : (n m : List Note) (l : Layer) (d : ℕ) (r : Request) → bare n (request (bare m l) d r) ≡ bare n (request l d r)
bare_request n m l d r = bare_found n m l d (λ ch. requested l.role l.flow ch r) (channel_of l d)

bare_cond : (n : List Note) (v : Bool) (a b c d : Layer) → bare n a ≡ bare n c → bare n b ≡ bare n d → bare n (cond v a b) ≡ bare n (cond v c d)
bare_cond n true a b c d p q = p
bare_cond n false a b c d p q = q

bare_timer : (n m : List Note) (l : Layer) (t : Timer) → bare n (on_timer (bare m l) t) ≡ bare n (on_timer l t)
bare_timer n m l RestartTimer = bare_cond n (runs l RestartTimer) _ _ _ _ refl refl
bare_timer n m l (CallTimer d) = bare_cond n (runs l (CallTimer d)) _ _ _ _ (bare_found n [] (unread l) d (λ ch. clear_error l.role d 0 true ch) (channel_of l d)) refl
bare_timer n m l (ResetTimer d) = bare_cond n (runs l (ResetTimer d)) _ _ _ _ (bare_found n [] (unread l) d (λ ch. clear_error l.role d 0 true ch) (channel_of l d)) refl
bare_timer n m l (ClearTimer d) = bare_cond n (runs l (ClearTimer d)) _ _ _ _ refl refl

-- a timer of no channel expires in place of the restart timer
no_channel_runs : (test : Channel → Bool) (ph : Phase) → runs_at test ph None ≡ false
no_channel_runs test PacketReady = refl
no_channel_runs test OwnRestart = refl
no_channel_runs test NoSession = refl

both_unread : (n : List Note) (l k : Layer) (v : Bool) → bare n k ≡ bare n l → bare n k ≡ bare n (cond v (record (unread l) { relink = true }) l)
both_unread n l k true e = e
both_unread n l k false e = e

bare_restart_timer : (n m : List Note) (l : Layer) → bare n (on_timer (bare m l) (CallTimer 0)) ≡ bare n (on_timer l RestartTimer)
bare_restart_timer n m l =
    ap (λ (v : Bool). bare n (cond v (expired (unread (bare m l)) (CallTimer 0)) (bare m l))) (no_channel_runs (λ ch. waits_for_call l.role ch.state) l.phase)
    ∙ both_unread n l (bare m l) (in_own_restart l.phase) refl

bare_restart : (n m : List Note) (l : Layer) (ph : Phase) (t : Body) → bare n (restart_packet ph t (bare m l)) ≡ bare n (restart_packet ph t l)
bare_restart n m l PacketReady (Restart a d) = refl
bare_restart n m l PacketReady RestartConfirmation = refl
bare_restart n m l OwnRestart (Restart a d) = refl
bare_restart n m l OwnRestart RestartConfirmation = refl
bare_restart n m l NoSession (Restart a d) = refl
bare_restart n m l NoSession RestartConfirmation = refl
bare_restart n m l ph _ = refl

bare_channel : (n m : List Note) (l : Layer) (ph : Phase) (d : ℕ) (F : Channel → Step) → bare n (on_channel ph (bare m l) d F) ≡ bare n (on_channel ph l d F)
bare_channel n m l PacketReady d F = bare_found n m l d F (channel_of l d)
bare_channel n m l OwnRestart d F = refl
bare_channel n m l NoSession d F = refl

bare_packet : (n m : List Note) (l : Layer) (p : Packet) → bare n (on_packet (bare m l) (Received.Whole p)) ≡ bare n (on_packet l (Received.Whole p))
bare_packet n m l p = bare_cond n (p.channel == 0) _ _ _ _ (bare_restart n [] (unread l) l.phase p.body) (bare_channel n [] (unread l) l.phase p.channel (λ ch. received l.role l.flow p.channel ch p.body))

-- ---- a line of which the requests are taken back

abbrev pub retold : (ℕ → ℕ → History) → (ℕ → ℕ → History) → (n m : List Note) → Line → Line
retold f g n m w = record w { me = record w.me { layer = bare n w.me.layer; histories = f }; you = record w.you { layer = bare m w.you.layer; histories = g } }

-- what holds of such a line after an event, and says that the end does not ask
abbrev pub Again : (Line → Type 0) → (ℕ → ℕ → History) → List Note → Line → Type 0
Again P g m w = (f : ℕ → ℕ → History) × ((n : List Note) × P (retold f g n m w))

layer_again : (P : Line → Type 0) → ((w : Line) → P w → w.me.layer.relink ≡ false) → (f g : ℕ → ℕ → History) (n m : List Note) (w : Line) (l0 l' : Layer) (st : ℕ → ℕ → History) → ((k : List Note) → bare k l0 ≡ bare k l')
    → P (record (retold f g n m w) { me = record (retold f g n m w).me { layer = l0; histories = st } }) → Again P g m (record w { me = record w.me { layer = l' } })
layer_again P quiet f g n m w l0 l' st e p =
    let w0 : Line = retold f g n m w in
    (st, (l0.notes, subst (λ (k : Layer). P (record w0 { me = record w0.me { layer = k; histories = st } })) (settled_bare l0 (quiet _ p) ∙ e l0.notes) p))

up_again : (P : Line → Type 0) (f g : ℕ → ℕ → History) (n m : List Note) (w : Line) (k : ℕ) (v : Bool) → P (cond v (record (retold f g n m w) { me = begun k (retold f g n m w).me }) (retold f g n m w)) → Again P g m (cond v (record w { me = begun k w.me }) w)
up_again P f g n m w k true p = (f, ((begun k w.me).layer.notes, p))
up_again P f g n m w k false p = (f, (n, p))

-- an end that asks hands nothing over
asking_next : (l : Layer) (ph : Phase) → next_in ph true l ≡ record { layer = l; packet = None }
asking_next l NoSession = refl
asking_next l OwnRestart = refl
asking_next l PacketReady = refl

abbrev handing : End → ℕ → Next → End
handing e k n = record e { layer = n.layer; offered = handed_over k n.packet e.offered }

-- nor do the notes change what is handed over
abbrev pub renoted : List Note → Next → Next
renoted n x = record { layer = bare n x.layer; packet = x.packet }

cond_renoted : (n : List Note) (v : Bool) (x y x' y' : Next) → x ≡ renoted n x' → y ≡ renoted n y' → cond v x y ≡ renoted n (cond v x' y')
cond_renoted n true x y x' y' p q = p
cond_renoted n false x y x' y' p q = q

found_renoted : (n : List Note) (l : Layer) (c : ℕ) (found : Option Channel) (others others' : Next) → others ≡ renoted n others' → serve_found (bare n l) c found others ≡ renoted n (serve_found l c found others')
found_renoted n l c None others others' e = e
found_renoted n l c (Some ch) others others' e = cond_renoted n (is_some (next_of l.flow ch).body) _ others _ others' refl e

serve_renoted : (n : List Note) (k : ℕ) (l : Layer) (c : ℕ) → serve k (bare n l) c ≡ renoted n (serve k l c)
serve_renoted n zero l c = refl
serve_renoted n (suc k) l c = found_renoted n l c (channel_of l c) (serve k (bare n l) (next_number l c)) (serve k l (next_number l c)) (serve_renoted n k l (next_number l c))

restart_renoted : (n : List Note) (l : Layer) (owed : List Body) → next_restart owed (bare n l) ≡ renoted n (next_restart owed l)
restart_renoted n l [] = serve_renoted n (length l.channels) l (next_number l l.served_last)
restart_renoted n l (b ∷ bs) = refl

phase_renoted : (n : List Note) (l : Layer) (ph : Phase) → next_in ph false (bare n l) ≡ renoted n (next_in ph false l)
phase_renoted n l NoSession = refl
phase_renoted n l OwnRestart = restart_renoted n l l.owed
phase_renoted n l PacketReady = restart_renoted n l l.owed

pub next_renoted : (n : List Note) (l : Layer) → l.relink ≡ false → next_packet (bare n l) ≡ renoted n (next_packet l)
next_renoted n l e = phase_renoted n l l.phase ∙ ap (λ (v : Bool). renoted n (next_in l.phase v l)) (sym e)

offers_again : (P : Line → Type 0) (f g : ℕ → ℕ → History) (n m : List Note) (w : Line) (o : Option ℕ) (v : Bool) → w.me.layer.relink ≡ v → P (retold f g n m w) → P (record (retold f g n m w) { me = offers o (retold f g n m w).me }) → Again P g m (record w { me = offers o w.me })
offers_again P f g n m w None v e before p = (f, (n, p))
offers_again P f g n m w (Some k) true e before p =
    let none : next_packet w.me.layer ≡ record { layer = w.me.layer; packet = None } = ap (λ (q : Bool). next_in w.me.layer.phase q w.me.layer) e ∙ asking_next w.me.layer w.me.layer.phase in
    (f, (n, subst (λ (x : Next). P (retold f g n m (record w { me = handing w.me k x }))) (sym none) before))
offers_again P f g n m w (Some k) false e before p =
    let w0 : Line = retold f g n m w in
    (f, (n, subst (λ (x : Next). P (record w0 { me = handing w0.me k x })) (next_renoted n w.me.layer e) p))

arrives_again : (P : Line → Type 0) → ((w : Line) → P w → w.me.layer.relink ≡ false) → (f g : ℕ → ℕ → History) (n m : List Note) (w : Line) (k : ℕ) (o : Option Packet) → P (record (retold f g n m w) { me = accepts k o (retold f g n m w).me }) → Again P g m (record w { me = accepts k o w.me })
arrives_again P quiet f g n m w k None p = (f, (n, p))
arrives_again P quiet f g n m w k (Some q) p =
    let w0 : Line = retold f g n m w in
    let e0 : End = accepts k (Some q) w0.me in
    (e0.histories, (e0.layer.notes, subst (λ (l : Layer). P (record w0 { me = record e0 { layer = l } })) (settled_bare e0.layer (quiet _ p) ∙ bare_packet e0.layer.notes n w.me.layer q) p))

arrives_by : (P : Line → Type 0) → ((w : Line) → P w → w.me.layer.relink ≡ false) → (f g : ℕ → ℕ → History) (n m : List Note) (w : Line) (o : Option ℕ) → P (arrives_in o (retold f g n m w)) → Again P g m (arrives_in o w)
arrives_by P quiet f g n m w None p = (f, (n, p))
arrives_by P quiet f g n m w (Some k) p = arrives_again P quiet f g n m w k (next_of_session w k) p

-- the event that happens in its place
abbrev pub instead : Event → Event
instead (Expires RestartTimer) = Expires (CallTimer 0)
instead event = event

pub happens_again : (P : Line → Type 0) → ((w : Line) → P w → w.me.layer.relink ≡ false) → (f g : ℕ → ℕ → History) (n m : List Note) (event : Event) (w : Line) → P (retold f g n m w) → P (happens (instead event) (retold f g n m w)) → Again P g m (happens event w)
happens_again P quiet f g n m (Up k) w before p = up_again P f g n m w k (may_begin k w) p
happens_again P quiet f g n m Down w before p = (f, ((link_down w.me.layer).notes, p))
happens_again P quiet f g n m (Calls parts) w before p = layer_again P quiet f g n m w (call (bare n w.me.layer) parts) (call w.me.layer parts) _ (λ k. bare_call k n w.me.layer parts) p
happens_again P quiet f g n m (Requests d r) w before p = layer_again P quiet f g n m w (request (bare n w.me.layer) d r) (request w.me.layer d r) _ (λ k. bare_request k n w.me.layer d r) p
happens_again P quiet f g n m (Expires RestartTimer) w before p = layer_again P quiet f g n m w (on_timer (bare n w.me.layer) (CallTimer 0)) (on_timer w.me.layer RestartTimer) _ (λ k. bare_restart_timer k n w.me.layer) p
happens_again P quiet f g n m (Expires (CallTimer d)) w before p = layer_again P quiet f g n m w (on_timer (bare n w.me.layer) (CallTimer d)) (on_timer w.me.layer (CallTimer d)) _ (λ k. bare_timer k n w.me.layer (CallTimer d)) p
happens_again P quiet f g n m (Expires (ResetTimer d)) w before p = layer_again P quiet f g n m w (on_timer (bare n w.me.layer) (ResetTimer d)) (on_timer w.me.layer (ResetTimer d)) _ (λ k. bare_timer k n w.me.layer (ResetTimer d)) p
happens_again P quiet f g n m (Expires (ClearTimer d)) w before p = layer_again P quiet f g n m w (on_timer (bare n w.me.layer) (ClearTimer d)) (on_timer w.me.layer (ClearTimer d)) _ (λ k. bare_timer k n w.me.layer (ClearTimer d)) p
happens_again P quiet f g n m Offers w before p = offers_again P f g n m w w.me.session w.me.layer.relink refl before p
happens_again P quiet f g n m Arrives w before p = arrives_by P quiet f g n m w w.me.session p
