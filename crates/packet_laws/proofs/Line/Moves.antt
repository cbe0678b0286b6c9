-- The events of a line that do not take a packet off it keep its channels tied to their handshakes.
use Rattle.std.proofs.Common.{◌≡◌, ℕ, zero, suc, ◌<◌, ◌≤◌, Bool, true, false, cond, not, ◌==◌, List, [], ◌∷◌, ◌++◌, length, map, drop, Option, Some, None, refl, sym, ap, subst, ◌∙◌, arith, true≢false, ◌⊎◌, inl, inr}
use Rattle.std.proofs.lemmas.Bool.{eq-eqb, ne_eqb, eqb-true, cases_eq}
use Rattle.link_timers.specs.declared.role.Role.{Role}
use Rattle.link_timers.specs.Role.{other_of}
use Rattle.data_transfer.specs.declared.flow.Flow.{Flow}
use Rattle.data_transfer.specs.Packets.{CallParts, Body, Packet}
use Rattle.data_transfer.specs.Packets.Body.{Restart}
use Rattle.packet_channel.specs.Channel.{Channel, Step, Request, closed_channel, requested, clear_error}
use Rattle.packet_layer.specs.Layer as layer
use Rattle.packet_layer.specs.Layer.{Layer, Timer, channel_of, with_nth, on_found, call, placed_on, channel_given, request, on_timer, expired, unread, runs, link_down, start_cause}
use Rattle.packet_layer.specs.Layer.Timer.{RestartTimer, CallTimer, ResetTimer, ClearTimer}
use Rattle.packet_laws.specs.History.{History, request_history, timer_history, call_history}
use Rattle.packet_laws.specs.LayerLine.{End, Line, happens, told, with_layer, begun, may_begin, is_session}
use Rattle.packet_laws.specs.LayerLine.Event.{Up, Down, Calls, Requests, Expires}
use Rattle.packet_laws.proofs.Handshakes.Keeping.{same}
use Rattle.packet_laws.proofs.Call.Saying.{and_parts, by_cond}
use Rattle.packet_laws.proofs.Call.Levels.{Whole, begun_whole, GoodWhole}
use Rattle.packet_laws.proofs.Line.Stored.{Settled, HistoryTie}
use Rattle.packet_laws.proofs.Line.Lines.{on_c, AllWell, Present, There, EndTie, Tied, Outcome, nth_there, nth_map, session_other, none_some, end_again}
use Rattle.packet_laws.proofs.Line.Outcomes.{call_outcome, request_outcome, timer_outcome}

-- ---- an event of the layer alone

abbrev Comes : Flow → Role → Layer → Layer → ℕ → (History → History) → Type 0
Comes flow role l l' c f = (x y : Whole) (link b rest : List Body) → GoodWhole flow role (record { me = x; you = y; out = link ++ rest; back = b }) → Settled x → Present l c x rest → Outcome flow role x y link b l' c f

-- the end after it
abbrev pub Went : End → End → ℕ → ℕ → (History → History) → Type 0
Went e e' s c f = (e'.session ≡ e.session) × (e'.offered s ≡ e.offered s) × (e'.accepted s ≡ e.accepted s) × (e'.histories s c ≡ cond (is_session e.session s) (f (e.histories s c)) (e.histories s c))

pub not_now : (flow : Flow) (role : Role) (w : Line) (e' : End) (s c : ℕ) (f : History → History) → is_session w.me.session s ≡ false → (w.me.session ≡ Some s → ⊥)
    → e'.layer.role ≡ w.me.layer.role → e'.layer.flow ≡ w.me.layer.flow → (There w.me.layer c → There e'.layer c) → Went w.me e' s c f → Tied flow role w s c → Tied flow role (record w { me = e' }) s c
not_now flow role w e' s c f absent never ro wi th went t = record {
  x = t.x;
  y = t.y;
  o = t.o;
  b = t.b;
  good = t.good;
  mine = end_again flow role w.me e' (w.you.accepted s) s c t.x t.o ro wi (th t.mine.there) went.1
      (went.3 ∙ ap (λ (v : Bool). cond v (f (w.me.histories s c)) (w.me.histories s c)) absent) went.2 (λ rest p h. absurd (never (sym went.0 ∙ h))) t.mine;
  yours = subst (λ (a : ℕ). EndTie flow (other_of role) w.you a s c t.y t.b) (sym went.2) t.yours;
}

is_now_case : (flow : Flow) (role : Role) (w : Line) (e' : End) (s c : ℕ) (f : History → History) → is_session w.me.session s ≡ true → w.me.session ≡ Some s
    → e'.layer.role ≡ w.me.layer.role → e'.layer.flow ≡ w.me.layer.flow → (There w.me.layer c → There e'.layer c) → Went w.me e' s c f
    → Comes flow role w.me.layer e'.layer c f → Tied flow role w s c → Tied flow role (record w { me = e' }) s c
is_now_case flow role w e' s c f here now ro wi th went comes t =
    let m = t.mine in
    let link : List Body = on_c c (drop (w.you.accepted s) (w.me.offered s)) in
    let r = comes t.x t.y link t.b m.rest (subst (λ (o : List Body). GoodWhole flow role (record { me = t.x; you = t.y; out = o; back = t.b })) m.out_is t.good) m.settled (m.present now) in
    record {
      x = r.next;
      y = t.y;
      o = link ++ r.rest;
      b = t.b;
      good = r.good;
      mine = record {
        role_is = ro ∙ m.role_is;
        window_is = wi ∙ m.window_is;
        there = th m.there;
        rest = r.rest;
        out_is = ap (λ (l : List Packet). on_c c (drop (w.you.accepted s) l) ++ r.rest) (sym went.1);
        well = subst (λ (l : List Packet). AllWell c l) (sym went.1) m.well;
        within = subst (λ (l : List Packet). w.you.accepted s ≤ length l) (sym went.1) m.within;
        history = subst (λ (z : History). HistoryTie r.next z) (sym (went.3 ∙ ap (λ (v : Bool). cond v (f (w.me.histories s c)) (w.me.histories s c)) here)) (r.history (w.me.histories s c) m.history);
        settled = r.settled;
        frozen = r.frozen m.frozen;
        present = λ h. r.present;
        still = λ lt h. r.still (m.still lt (sym went.2 ∙ h));
      };
      yours = subst (λ (a : ℕ). EndTie flow (other_of role) w.you a s c t.y t.b) (sym went.2) t.yours;
    }

pub session_is : (o : Option ℕ) (s : ℕ) → ((is_session o s ≡ true) × (o ≡ Some s)) ⊎ ((is_session o s ≡ false) × (o ≡ Some s → ⊥))
session_is None s = inr (refl, λ e. none_some s e)
session_is (Some k) s =
    elim (cases_eq s k) [
      | inl e ↦ inl (eq-eqb s k e, ap (λ (j : ℕ). Some j) (sym e))
      | inr ne ↦ inr (ne_eqb s k ne, session_other s k (ne_eqb s k ne))
    ]

pub layer_event : (flow : Flow) (role : Role) (w : Line) (e' : End) (s c : ℕ) (f : History → History)
    → e'.layer.role ≡ w.me.layer.role → e'.layer.flow ≡ w.me.layer.flow → (There w.me.layer c → There e'.layer c) → Went w.me e' s c f
    → Comes flow role w.me.layer e'.layer c f → Tied flow role w s c → Tied flow role (record w { me = e' }) s c
layer_event flow role w e' s c f ro wi th went comes t =
    elim (session_is w.me.session s) [
      | inl h ↦ is_now_case flow role w e' s c f h.0 h.1 ro wi th went comes t
      | inr h ↦ not_now flow role w e' s c f h.0 h.1 ro wi th went t
    ]

-- ---- what no event of the layer changes

abbrev pub SameLine : Layer → Layer → ℕ → Type 0
SameLine l l' c = (l'.role ≡ l.role) × (l'.flow ≡ l.flow) × (There l c → There l' c) × (length l'.channels ≡ length l.channels)

pub nth_length : (chs : List Channel) (d : ℕ) (ch : Channel) → length (with_nth chs d ch) ≡ length chs
nth_length chs zero ch = refl
nth_length [] (suc i) ch = refl
nth_length (x ∷ chs) (suc zero) ch = refl
nth_length (x ∷ chs) (suc (suc i)) ch = ap suc (nth_length chs (suc i) ch)

pub map_length : (chs : List Channel) → length (map (λ ch. closed_channel) chs) ≡ length chs
map_length [] = refl
map_length (x ∷ chs) = ap suc (map_length chs)

pub found_same : (l : Layer) (c d : ℕ) (F : Channel → Step) (found : Option Channel) → SameLine l (on_found l d F found) c
found_same l c d F None = (refl, refl, λ t. t, refl)
found_same l c d F (Some ch) = (refl, refl, λ t. nth_there l.channels c d (layer.owing (F ch)) t, nth_length l.channels d (layer.owing (F ch)))

pub placed_same : (l : Layer) (c : ℕ) (parts : CallParts) (o : Option ℕ) → SameLine l (placed_on l parts o) c
placed_same l c parts None = (refl, refl, λ t. t, refl)
placed_same l c parts (Some d) = found_same l c d (λ ch. layer.placing parts ch) (channel_of l d)

expired_same : (l : Layer) (c : ℕ) (t : Timer) → SameLine l (expired l t) c
expired_same l c RestartTimer = (refl, refl, λ t. t, refl)
expired_same l c (CallTimer d) = found_same l c d (λ ch. clear_error l.role d 0 true ch) (channel_of l d)
expired_same l c (ResetTimer d) = found_same l c d (λ ch. clear_error l.role d 0 true ch) (channel_of l d)
expired_same l c (ClearTimer d) = (refl, refl, λ t. (closed_channel, nth_map l.channels c t.0 closed_channel t.1), map_length l.channels)

pub timer_same : (l : Layer) (c : ℕ) (t : Timer) → SameLine l (on_timer l t) c
timer_same l c t = by_cond (λ (k : Layer). SameLine l k c) (runs l t) (expired (unread l) t) l (λ e. expired_same (unread l) c t) (λ e. (refl, refl, λ q. q, refl))

pub pick : {X : Type 0} → (b : Bool) (x : X) → x ≡ cond b x x
pick true x = refl
pick false x = refl

pub calls_tied : (flow : Flow) (role : Role) (w : Line) (s c : ℕ) (parts : CallParts) → Tied flow role w s c → Tied flow role (happens (Calls parts) w) s c
calls_tied flow role w s c parts t =
    let same_line = placed_same w.me.layer c parts (channel_given w.me.layer w.me.layer.phase) in
    layer_event flow role w (with_layer (call w.me.layer parts) (told (λ d st. call_history parts (channel_given w.me.layer w.me.layer.phase) d st) w.me)) s c (λ st. call_history parts (channel_given w.me.layer w.me.layer.phase) c st) same_line.0 same_line.1 same_line.2 (refl, refl, refl, refl)
    (λ x y link b rest g st p. call_outcome flow role x y link b rest w.me.layer c parts g st p) t

pub requests_tied : (flow : Flow) (role : Role) (w : Line) (s c d : ℕ) (r : Request) → Tied flow role w s c → Tied flow role (happens (Requests d r) w) s c
requests_tied flow role w s c d r t =
    let l : Layer = w.me.layer in
    let same_line = found_same l c d (λ ch. requested l.role l.flow ch r) (channel_of l d) in
    layer_event flow role w (with_layer (request l d r) (told (λ k st. request_history l d r k st) w.me)) s c (λ st. request_history l d r c st) same_line.0 same_line.1 same_line.2 (refl, refl, refl, refl)
    (λ x y link b rest g st p. request_outcome flow role x y link b rest l c d r t.mine.role_is t.mine.window_is g st p) t

pub expires_tied : (flow : Flow) (role : Role) (w : Line) (s c : ℕ) (timer : Timer) → Tied flow role w s c → Tied flow role (happens (Expires timer) w) s c
expires_tied flow role w s c timer t =
    let l : Layer = w.me.layer in
    let same_line = timer_same l c timer in
    layer_event flow role w (with_layer (on_timer l timer) (told (λ k st. timer_history l timer k st) w.me)) s c (λ st. timer_history l timer c st) same_line.0 same_line.1 same_line.2 (refl, refl, refl, refl)
    (λ x y link b rest g st p. timer_outcome flow role x y link b rest l c timer g st p) t

-- ---- the link goes down, and comes up

pub down_tied : (flow : Flow) (role : Role) (w : Line) (s c : ℕ) → Tied flow role w s c → Tied flow role (happens Down w) s c
down_tied flow role w s c t = record {
  x = t.x;
  y = t.y;
  o = t.o;
  b = t.b;
  good = t.good;
  mine = end_again flow role w.me (record w.me { layer = link_down w.me.layer; session = None }) (w.you.accepted s) s c t.x t.o refl refl
      (closed_channel, nth_map w.me.layer.channels c t.mine.there.0 closed_channel t.mine.there.1) refl refl refl (λ rest p h. none_some s h) t.mine;
  yours = t.yours;
}

begun_tie : (flow : Flow) (role : Role) (e : End) (a s c : ℕ) (n : Whole) (o : List Body) → a ≡ 0 → n ≡ begun_whole → EndTie flow role e a s c n o
    → EndTie flow role (begun s e) a s c begun_whole (Restart (start_cause e.layer.role) 0 ∷ [])
begun_tie flow role e a s c n o none fresh t =
    let off : cond (s == s) [] (e.offered s) ≡ [] = ap (λ (v : Bool). cond v [] (e.offered s)) (same s) in
    record {
      role_is = t.role_is;
      window_is = t.window_is;
      there = (closed_channel, nth_map e.layer.channels c t.there.0 closed_channel t.there.1);
      rest = Restart (start_cause e.layer.role) 0 ∷ [];
      out_is = ap (λ (q : List Body). q ++ Restart (start_cause e.layer.role) 0 ∷ []) (sym (ap (λ (l : List Packet). on_c c (drop a l)) off ∙ ap (λ (k : ℕ). on_c c (drop k [])) none));
      well = subst (λ (l : List Packet). AllWell c l) (sym off) tt;
      within = subst (λ (l : List Packet). a ≤ length l) (sym off) (omega arith);
      history = subst (λ (m : Whole). HistoryTie m (e.histories s c)) fresh t.history;
      settled = refl;
      frozen = λ k. tt;
      present = λ h. record { phase_is = refl; owed = []; channel_is = nth_map e.layer.channels c t.there.0 closed_channel t.there.1; plain = tt; restarts = (tt, tt); rest_is = λ r. refl };
      still = λ lt h. refl;
    }

begun_good : (flow : Flow) (role : Role) (x y : Whole) (o b : List Body) (cause : ℕ) → x ≡ begun_whole → y ≡ begun_whole → GoodWhole flow role (record { me = x; you = y; out = o; back = b })
    → GoodWhole flow role (record { me = begun_whole; you = y; out = Restart cause 0 ∷ []; back = b })
begun_good flow role x y o b cause ex ey g =
    let h : GoodWhole flow role (record { me = begun_whole; you = begun_whole; out = o; back = b }) =
    subst (λ (v : Whole). GoodWhole flow role (record { me = begun_whole; you = v; out = o; back = b })) ey (subst (λ (u : Whole). GoodWhole flow role (record { me = u; you = y; out = o; back = b })) ex g) in
    subst (λ (v : Whole). GoodWhole flow role (record { me = begun_whole; you = v; out = Restart cause 0 ∷ []; back = b })) (sym ey)
    (record {
      fore = record { walk = (refl, refl); within = h.fore.within; later = h.fore.later };
      aft = record { walk = h.aft.walk; within = h.aft.within; later = h.aft.later };
      inners = h.inners;
    })

not_zero : (s : ℕ) → not (s == 0) ≡ true → 0 < s
not_zero zero e = absurd (true≢false (sym e))
not_zero (suc s) e = omega arith

up_here : (flow : Flow) (role : Role) (w : Line) (s c : ℕ) → may_begin s w ≡ true → Tied flow role w s c → Tied flow role (record w { me = begun s w.me }) s c
up_here flow role w s c may t =
    let p = and_parts (not (s == 0)) _ may in
    let q = and_parts (w.me.accepted s == 0) (w.you.accepted s == 0) p.1 in
    let lt = not_zero s p.0 in
    let mine_none = eqb-true (w.me.accepted s) 0 q.0 in
    let yours_none = eqb-true (w.you.accepted s) 0 q.1 in
    let ex = t.mine.still lt mine_none in
    let ey = t.yours.still lt yours_none in
    record {
      x = begun_whole;
      y = t.y;
      o = Restart (start_cause w.me.layer.role) 0 ∷ [];
      b = t.b;
      good = begun_good flow role t.x t.y t.o t.b (start_cause w.me.layer.role) ex ey t.good;
      mine = begun_tie flow role w.me (w.you.accepted s) s c t.x t.o yours_none ex t.mine;
      yours = t.yours;
    }

up_at : (flow : Flow) (role : Role) (w : Line) (k s c : ℕ) → may_begin k w ≡ true → Tied flow role w s c → Tied flow role (record w { me = begun k w.me }) s c
up_at flow role w k s c may t =
    elim (cases_eq s k) [
      | inl e ↦ subst (λ (j : ℕ). Tied flow role (record w { me = begun j w.me }) s c) e (up_here flow role w s c (subst (λ (j : ℕ). may_begin j w ≡ true) (sym e) may) t)
      | inr ne ↦ record {
        x = t.x;
        y = t.y;
        o = t.o;
        b = t.b;
        good = t.good;
        mine = end_again flow role w.me (begun k w.me) (w.you.accepted s) s c t.x t.o refl refl (closed_channel, nth_map w.me.layer.channels c t.mine.there.0 closed_channel t.mine.there.1)
            (ap (λ (v : Bool). cond v [] (w.me.offered s)) (ne_eqb s k ne)) refl refl (λ rest p h. absurd (session_other s k (ne_eqb s k ne) h)) t.mine;
        yours = t.yours;
      }
    ]

pub up_tied : (flow : Flow) (role : Role) (w : Line) (k s c : ℕ) → Tied flow role w s c → Tied flow role (happens (Up k) w) s c
up_tied flow role w k s c t = by_cond (λ (v : Line). Tied flow role v s c) (may_begin k w) (record w { me = begun k w.me }) w (λ e. up_at flow role w k s c e t) (λ e. t)
