-- Between two ends of this project the limit on owed packets is never passed.
use Rattle.std.proofs.Common.{◌≡◌, ℕ, zero, suc, ◌<◌, ◌≤◌, ◌⊎◌, Bool, true, false, cond, List, [], ◌∷◌, length, slice_get, replicate, Option, Some, None, refl, sym, ap, subst, ◌∙◌, arith, true≢false, inl, inr}
use Rattle.link_timers.specs.declared.role.Role.{Role}
use Rattle.link_timers.specs.declared.role.Role.TheVariants.{Dte, Dce}
use Rattle.link_timers.specs.Role.{other_of}
use Rattle.data_transfer.specs.Flow.{modulus}
use Rattle.data_transfer.specs.declared.flow.Flow.{Flow}
use Rattle.data_transfer.specs.Packets.{CallParts, Body, Packet, Note}
use Rattle.packet_channel.specs.Channel.{ChannelState, Channel, Step, closed_channel, entered, requested}
use Rattle.packet_channel.specs.Channel.ChannelState.{Ready, OwnWaiting, FarWaiting, Transfer, Collision, OwnClear}
use Rattle.packet_layer.specs.Layer.{Layer, Timer, Next, nth_channel, channel_of, standing_channels, start_phase, set_if, passes_limit, runs, on_timer, on_found, channel_given, placed_on, placing, next_packet}
use Rattle.packet_layer.specs.Layer.Timer.{RestartTimer, CallTimer, ResetTimer, ClearTimer}
use Rattle.packet_layer.specs.Layer.Phase.{NoSession}
use Rattle.packet_laws.specs.History.{History}
use Rattle.packet_laws.specs.LayerLine.{Line, Event, Happening, turned, happens, after_one, after, start_line, start_end, start_session, is_session, may_begin, begun, offers, accepts, arrives_in, next_of_session}
use Rattle.packet_laws.specs.LayerLine.Event.{Up, Down, Calls, Requests, Expires, Offers, Arrives}
use Rattle.packet_laws.specs.LayerLine.Happening.{Here, There}
use Rattle.packet_laws.specs.Owed.{most_owed, is_restart_expiry, unasked, asks, WithinLimit, OwedLaw}
use Rattle.packet_laws.proofs.Line.Beginning.{starts_tied}
use Rattle.packet_laws.proofs.Line.Consequences.{turned_tied}
use Rattle.packet_laws.proofs.Line.LineHolds.{start_count}
use Rattle.packet_laws.proofs.Owed.MayCome.{Fits, one_small}
use Rattle.packet_laws.proofs.Owed.Draining.{FitsIn}
use Rattle.packet_laws.proofs.Owed.Growing.{is_r1, FitsAt, ComesTo}
use Rattle.packet_laws.proofs.Owed.NoRelink.{owed_at, way, EndOk, NoRelink}
use Rattle.packet_laws.proofs.Owed.NoRelinkEvents.{OtherEvent, happens_no_relink}
use Rattle.packet_laws.proofs.Owed.Relinking.{bare, settled_bare, next_renoted, retold, instead, happens_again}

-- ---- the beginning

replicate_get : (n i : ℕ) (ch : Channel) → slice_get (replicate n closed_channel) i ≡ Some ch → closed_channel ≡ ch
replicate_get zero i ch e = absurd cc
replicate_get (suc n) zero ch e = cc
replicate_get (suc n) (suc i) ch e = replicate_get n i ch e

-- a channel at the beginning, in a standing line the first one in a call
abbrev Begun : Channel → Type 0
Begun ch = (closed_channel ≡ ch) ⊎ (entered Transfer closed_channel ≡ ch)

standing_get : (n i : ℕ) (ch : Channel) → slice_get (standing_channels true (replicate n closed_channel)) i ≡ Some ch → Begun ch
standing_get zero i ch e = absurd cc
standing_get (suc n) zero ch e = inr cc
standing_get (suc n) (suc i) ch e = inl (replicate_get n i ch e)

begun_ready : (ch : Channel) → Begun ch → FitsIn true ch.state ch.resetting ch.owed
begun_ready ch (inl e) = subst (λ (q : Channel). FitsIn true q.state q.resetting q.owed) e (omega arith, tt)
begun_ready ch (inr e) = subst (λ (q : Channel). FitsIn true q.state q.resetting q.owed) e (inl (record { no_acceptance = refl; short = omega arith; few = omega arith }))

start_fits : (channels : ℕ) (standing : Bool) (c : ℕ) (ch : Channel) → nth_channel (standing_channels standing (replicate channels closed_channel)) c ≡ Some ch → FitsAt (start_phase standing) ch
start_fits channels standing zero ch e = absurd cc
start_fits channels true (suc i) ch e = begun_ready ch (standing_get channels i ch e)
start_fits channels false (suc i) ch e = subst (λ (q : Channel). FitsIn false q.state q.resetting q.owed) (replicate_get channels i ch e) (refl, refl, refl)

begun_owes : (ch : Channel) → Begun ch → ch.owed ≡ []
begun_owes ch (inl e) = sym (ap (λ (q : Channel). q.owed) e)
begun_owes ch (inr e) = sym (ap (λ (q : Channel). q.owed) e)

found_owes : (o : Option Channel) → ((ch : Channel) → o ≡ Some ch → ch.owed ≡ []) → owed_at o ≡ []
found_owes None f = refl
found_owes (Some ch) f = f ch refl

start_owes : (channels : ℕ) (standing : Bool) (c : ℕ) (ch : Channel) → nth_channel (standing_channels standing (replicate channels closed_channel)) c ≡ Some ch → ch.owed ≡ []
start_owes channels standing zero ch e = absurd cc
start_owes channels true (suc i) ch e = begun_owes ch (standing_get channels i ch e)
start_owes channels false (suc i) ch e = begun_owes ch (inl (replicate_get channels i ch e))

either_empty : (v : Bool) (o : List Body) → o ≡ [] → cond v o [] ≡ []
either_empty true o e = e
either_empty false o e = refl

start_way : (mine yours : Role) (channels : ℕ) (flow : Flow) (standing : Bool) (s c : ℕ) → way (record { me = start_end mine channels flow standing; you = start_end yours channels flow standing }) s c ≡ []
start_way mine yours channels flow standing s c =
    either_empty (is_session (start_session standing) s) (owed_at (nth_channel (standing_channels standing (replicate channels closed_channel)) c))
    (found_owes (nth_channel (standing_channels standing (replicate channels closed_channel)) c) (λ ch e. start_owes channels standing c ch e))

start_idle : (standing : Bool) → start_session standing ≡ None → start_phase standing ≡ NoSession
start_idle true e = absurd cc
start_idle false e = refl

start_end_ok : (mine yours : Role) (channels : ℕ) (flow : Flow) (standing : Bool) → EndOk mine (record { me = start_end mine channels flow standing; you = start_end yours channels flow standing })
start_end_ok mine yours channels flow standing = record {
  quiet = refl;
  few = omega arith;
  idle = λ h. (start_idle standing h, refl);
  fits = λ c ch found. start_fits channels standing c ch found;
  comes = λ s c ch ses found. subst (λ (q : List Body). ComesTo mine (start_phase standing) ch q) (sym (start_way mine yours channels flow standing s c)) tt;
}

start_no_relink : (channels : ℕ) (flow : Flow) (standing : Bool) → 1 ≤ channels → flow.window < modulus flow.numbering → NoRelink channels flow Dte (start_line channels flow standing)
start_no_relink channels flow standing some small = record {
  some = some;
  count = start_count channels flow standing;
  tied = λ s c lo hi. starts_tied channels flow standing s c small lo hi;
  me = start_end_ok Dte Dce channels flow standing;
  you = start_end_ok Dce Dte channels flow standing;
}

-- ---- whatever happens

twice : (r : Role) → other_of (other_of r) ≡ r
twice Dte = refl
twice Dce = refl

turned_no_relink : (channels : ℕ) (flow : Flow) (role : Role) (w : Line) → NoRelink channels flow role w → NoRelink channels flow (other_of role) (turned w)
turned_no_relink channels flow role w k = record {
  some = k.some;
  count = (k.count.1, k.count.0);
  tied = λ s c lo hi. turned_tied flow role w s c (k.tied s c lo hi);
  me = k.you;
  you = subst (λ (r : Role). EndOk r w) (sym (twice role)) k.me;
}

-- such a line once its requests for a relink are taken back
abbrev TakenBack : ℕ → Flow → Role → Line → Type 0
TakenBack channels flow role w = (f : ℕ → ℕ → History) × ((g : ℕ → ℕ → History) × ((n : List Note) × ((m : List Note) × NoRelink channels flow role (retold f g n m w))))

turned_taken_back : (channels : ℕ) (flow : Flow) (role : Role) (w : Line) → TakenBack channels flow role w → TakenBack channels flow (other_of role) (turned w)
turned_taken_back channels flow role w m = (m.1.0, (m.0, (m.1.1.1.0, (m.1.1.0, turned_no_relink channels flow role (retold m.0 m.1.0 m.1.1.0 m.1.1.1.0 w) m.1.1.1.1))))

other_instead : (event : Event) → OtherEvent (instead event)
other_instead (Expires RestartTimer) = tt
other_instead _ = tt

happens_taken_back : (channels : ℕ) (flow : Flow) (role : Role) (event : Event) (w : Line) → TakenBack channels flow role w → TakenBack channels flow role (happens event w)
happens_taken_back channels flow role event w m =
    let other : List Note = m.1.1.1.0 in
    let line : Line = retold m.0 m.1.0 m.1.1.0 other w in
    let r = happens_again (λ v. NoRelink channels flow role v) (λ v k. k.me.quiet) m.0 m.1.0 m.1.1.0 other event w m.1.1.1.1 (happens_no_relink channels flow role (instead event) line (other_instead event) m.1.1.1.1) in
    (r.0, (m.1.0, (r.1.0, (other, r.1.1))))

one_taken_back : (channels : ℕ) (flow : Flow) (role : Role) (h : Happening) (w : Line) → TakenBack channels flow role w → TakenBack channels flow role (after_one h w)
one_taken_back channels flow role (Here e) w m = happens_taken_back channels flow role e w m
one_taken_back channels flow role (There e) w m =
    subst (λ (r : Role). TakenBack channels flow r (turned (happens e (turned w)))) (twice role)
    (turned_taken_back channels flow (other_of role) (happens e (turned w)) (happens_taken_back channels flow (other_of role) e (turned w) (turned_taken_back channels flow role w m)))

all_taken_back : (channels : ℕ) (flow : Flow) (role : Role) (hs : List Happening) (w : Line) → TakenBack channels flow role w → TakenBack channels flow role (after hs w)
all_taken_back channels flow role [] w m = m
all_taken_back channels flow role (h ∷ hs) w m = all_taken_back channels flow role hs (after_one h w) (one_taken_back channels flow role h w m)

-- ---- within the limit

fits_most : (s : ChannelState) (rs : Bool) (o : List Body) → Fits s rs o → length o ≤ most_owed s
fits_most Ready false o f = f.0
fits_most OwnClear false o f = f.0
fits_most OwnWaiting false o f = f.short
fits_most Collision false o f = f.short
fits_most FarWaiting false o f = let l = ap (λ (q : List Body). length q) f in omega arith
fits_most Transfer rs o (inl h) = let a = h.short in let b = h.few in let c = one_small rs in omega arith
fits_most Transfer rs o (inr (t, (h, inl e))) = let a = h.short in let b = ap (λ (q : List Body). length q) e in let c = one_small rs in omega arith
fits_most Transfer rs o (inr (t, (h, inr e))) = let a = h.short in let b = ap (λ (q : List Body). length q) e.1 in let c = one_small rs in omega arith
fits_most Ready true o f = absurd f
fits_most OwnClear true o f = absurd f
fits_most OwnWaiting true o f = absurd f
fits_most Collision true o f = absurd f
fits_most FarWaiting true o f = absurd f

fits_in_most : (ready : Bool) (s : ChannelState) (rs : Bool) (o : List Body) → FitsIn ready s rs o → length o ≤ most_owed s
fits_in_most true s rs o f = fits_most s rs o f
fits_in_most false s rs o f = let l = ap (λ (q : List Body). length q) f.2 in omega arith

other_event : (event : Event) → is_restart_expiry event ≡ false → OtherEvent event
other_event (Expires RestartTimer) e = absurd (true≢false e)
other_event _ e = tt

-- no event reads the histories or the notes
up_asks : (f g : ℕ → ℕ → History) (n m : List Note) (w : Line) (k : ℕ) (v : Bool) → (cond v (record (retold f g n m w) { me = begun k (retold f g n m w).me }) (retold f g n m w)).me.layer.relink ≡ (cond v (record (unasked w) { me = begun k (unasked w).me }) (unasked w)).me.layer.relink
up_asks f g n m w k true = refl
up_asks f g n m w k false = refl

next_relink : (n : List Note) (l : Layer) → (next_packet (bare n l)).layer.relink ≡ (next_packet (record l { relink = false })).layer.relink
next_relink n l =
    let quiet : Layer = record l { relink = false } in
    ap (λ (x : Next). x.layer.relink) (next_renoted n quiet refl) ∙ sym (ap (λ (x : Next). x.layer.relink) (next_renoted l.notes quiet refl))

offers_asks : (f g : ℕ → ℕ → History) (n m : List Note) (w : Line) (o : Option ℕ) → (offers o (retold f g n m w).me).layer.relink ≡ (offers o (unasked w).me).layer.relink
offers_asks f g n m w None = refl
offers_asks f g n m w (Some k) = next_relink n w.me.layer

accepts_asks : (f g : ℕ → ℕ → History) (n m : List Note) (w : Line) (k : ℕ) (o : Option Packet) → (accepts k o (retold f g n m w).me).layer.relink ≡ (accepts k o (unasked w).me).layer.relink
accepts_asks f g n m w k None = refl
accepts_asks f g n m w k (Some p) = refl

arrives_asks : (f g : ℕ → ℕ → History) (n m : List Note) (w : Line) (o : Option ℕ) → (arrives_in o (retold f g n m w)).me.layer.relink ≡ (arrives_in o (unasked w)).me.layer.relink
arrives_asks f g n m w None = refl
arrives_asks f g n m w (Some k) = accepts_asks f g n m w k (next_of_session w k)

found_asks : (a b : Layer) (d : ℕ) (F : Channel → Step) (found : Option Channel) → a.relink ≡ b.relink → (on_found a d F found).relink ≡ (on_found b d F found).relink
found_asks a b d F None e = e
found_asks a b d F (Some ch) e = ap (λ (v : Bool). set_if (passes_limit (F ch).channel.owed (F ch).owes) v) e

call_relink : (n : List Note) (l : Layer) (parts : CallParts) (o : Option ℕ) → (placed_on (bare n l) parts o).relink ≡ (placed_on (record l { relink = false }) parts o).relink
call_relink n l parts None = refl
call_relink n l parts (Some d) = found_asks (bare n l) (record l { relink = false }) d (λ ch. placing parts ch) (channel_of l d) refl

cond_asks : (v : Bool) (a b c d : Layer) → a.relink ≡ c.relink → b.relink ≡ d.relink → (cond v a b).relink ≡ (cond v c d).relink
cond_asks true a b c d p q = p
cond_asks false a b c d p q = q

timer_asks : (n : List Note) (l : Layer) (t : Timer) → (on_timer (bare n l) t).relink ≡ (on_timer (record l { relink = false }) t).relink
timer_asks n l RestartTimer = cond_asks (runs l RestartTimer) _ _ _ _ refl refl
timer_asks n l (CallTimer d) = cond_asks (runs l (CallTimer d)) _ _ _ _ refl refl
timer_asks n l (ResetTimer d) = cond_asks (runs l (ResetTimer d)) _ _ _ _ refl refl
timer_asks n l (ClearTimer d) = cond_asks (runs l (ClearTimer d)) _ _ _ _ refl refl

asks_same : (f g : ℕ → ℕ → History) (n m : List Note) (event : Event) (w : Line) → (happens event (retold f g n m w)).me.layer.relink ≡ asks event w
asks_same f g n m (Up k) w = up_asks f g n m w k (may_begin k w)
asks_same f g n m Down w = refl
asks_same f g n m (Calls parts) w = call_relink n w.me.layer parts (channel_given w.me.layer w.me.layer.phase)
asks_same f g n m (Requests d r) w = found_asks (bare n w.me.layer) (record w.me.layer { relink = false }) d (λ ch. requested w.me.layer.role w.me.layer.flow ch r) (channel_of w.me.layer d) refl
asks_same f g n m (Expires t) w = timer_asks n w.me.layer t
asks_same f g n m Offers w = offers_asks f g n m w w.me.session
asks_same f g n m Arrives w = arrives_asks f g n m w w.me.session

asked : (event : Event) (w : Line) (v : Bool) → w.me.layer.relink ≡ v → asks event w ≡ false → (happens event w).me.layer.relink ≡ true → w.me.layer.relink ≡ true
asked event w true e none h = e
asked event w false e none h =
    let quiet : w ≡ unasked w = ap (λ (l : Layer). record w { me = record w.me { layer = l } }) (settled_bare w.me.layer e) in
    absurd (true≢false (sym h ∙ ap (λ (v : Line). (happens event v).me.layer.relink) quiet ∙ none))

within_limit : (channels : ℕ) (flow : Flow) (role : Role) (w : Line) → TakenBack channels flow role w → WithinLimit w
within_limit channels flow role w m =
    let none : (event : Event) → is_restart_expiry event ≡ false → asks event w ≡ false = λ event e.
    sym (asks_same m.0 m.1.0 m.1.1.0 m.1.1.1.0 event w) ∙ (happens_no_relink channels flow role event (retold m.0 m.1.0 m.1.1.0 m.1.1.1.0 w) (other_event event e) m.1.1.1.1).me.quiet in
    record {
      restarts = m.1.1.1.1.me.few;
      controls = λ c ch found. fits_in_most (is_r1 w.me.layer.phase) ch.state ch.resetting ch.owed (m.1.1.1.1.me.fits c ch found);
      no_limit_passed = none;
      asked_before = λ event e h. asked event w w.me.layer.relink refl (none event e) h;
    }

pub owed_holds : OwedLaw
owed_holds channels flow standing some small hs =
    let w : Line = after hs (start_line channels flow standing) in
    let m = all_taken_back channels flow Dte hs (start_line channels flow standing)
    ((start_line channels flow standing).me.histories, ((start_line channels flow standing).you.histories, ([], ([], start_no_relink channels flow standing some small)))) in
    (within_limit channels flow Dte w m, within_limit channels flow Dce (turned w) (turned_taken_back channels flow Dte w m))
