-- The law of a line.
use Rattle.std.proofs.Common.{◌≡◌, ℕ, zero, suc, ◌≤◌, Bool, true, false, cond, ◌==◌, List, [], ◌∷◌, length, replicate, Option, Some, None, refl, ap, subst, ◌∙◌, arith, true≢false}
use Rattle.std.proofs.lemmas.Option.{slice_get_within}
use Rattle.link_timers.specs.declared.role.Role.{Role}
use Rattle.link_timers.specs.declared.role.Role.TheVariants.{Dte, Dce}
use Rattle.link_timers.specs.Role.{other_of}
use Rattle.data_transfer.specs.declared.flow.Flow.{Flow}
use Rattle.data_transfer.specs.Packets.{Packet}
use Rattle.packet_channel.specs.Channel.{Channel, closed_channel, requested}
use Rattle.packet_layer.specs.Layer.Phase.{NoSession, OwnRestart, PacketReady}
use Rattle.packet_layer.specs.Layer.{Phase, Layer, nth_channel, channel_of, channel_given, standing_channels}
use Rattle.packet_laws.specs.LayerLine.{End, Line, Event, Happening, turned, happens, after_one, after, start_line, may_begin, begun, offers, accepts, arrives_in, next_of_session}
use Rattle.packet_laws.specs.LayerLine.Event.{Up, Down, Calls, Requests, Expires, Offers, Arrives}
use Rattle.packet_laws.specs.LayerLine.Happening.{Here, There}
use Rattle.packet_laws.specs.LayerLineLaw.{NoFault, LineLaw, is_fault_on, is_restart_fault, is_channel_fault}
use Rattle.packet_laws.proofs.Call.Saying.{by_cond}
use Rattle.packet_laws.proofs.Line.Lines.{Tied}
use Rattle.packet_laws.proofs.Line.Moves.{map_length, found_same, placed_same, timer_same, calls_tied, requests_tied, expires_tied, down_tied, up_tied}
use Rattle.packet_laws.proofs.Line.Offering.{next_same, offers_tied}
use Rattle.packet_laws.proofs.Line.Arriving.{packet_same, arrives_tied}
use Rattle.packet_laws.proofs.Line.Beginning.{starts_tied}
use Rattle.packet_laws.proofs.Line.Consequences.{turned_tied, tied_holds, restart_faultless, channel_faultless}

-- ---- every event keeps the ties

pub happens_tied : (flow : Flow) (role : Role) (e : Event) (w : Line) (s c : ℕ) → Tied flow role w s c → Tied flow role (happens e w) s c
happens_tied flow role (Up k) w s c t = up_tied flow role w k s c t
happens_tied flow role Down w s c t = down_tied flow role w s c t
happens_tied flow role (Calls parts) w s c t = calls_tied flow role w s c parts t
happens_tied flow role (Requests d r) w s c t = requests_tied flow role w s c d r t
happens_tied flow role (Expires timer) w s c t = expires_tied flow role w s c timer t
happens_tied flow role Offers w s c t = offers_tied flow role w s c t
happens_tied flow role Arrives w s c t = arrives_tied flow role w s c t

twice : (r : Role) → other_of (other_of r) ≡ r
twice Dte = refl
twice Dce = refl

one_tied : (flow : Flow) (role : Role) (h : Happening) (w : Line) (s c : ℕ) → Tied flow role w s c → Tied flow role (after_one h w) s c
one_tied flow role (Here e) w s c t = happens_tied flow role e w s c t
one_tied flow role (There e) w s c t =
    subst (λ (r : Role). Tied flow r (turned (happens e (turned w))) s c) (twice role)
    (turned_tied flow (other_of role) (happens e (turned w)) s c (happens_tied flow (other_of role) e (turned w) s c (turned_tied flow role w s c t)))

pub all_tied : (flow : Flow) (role : Role) (hs : List Happening) (w : Line) (s c : ℕ) → Tied flow role w s c → Tied flow role (after hs w) s c
all_tied flow role [] w s c t = t
all_tied flow role (h ∷ hs) w s c t = all_tied flow role hs (after_one h w) s c (one_tied flow role h w s c t)

-- ---- the number of channels stays

abbrev pub Counts : ℕ → Line → Type 0
Counts n w = (length w.me.layer.channels ≡ n) × (length w.you.layer.channels ≡ n)

offers_count : (o : Option ℕ) (e : End) → length (offers o e).layer.channels ≡ length e.layer.channels
offers_count None e = refl
offers_count (Some s) e = (next_same e.layer 0).3

accepts_count : (s : ℕ) (o : Option Packet) (e : End) → length (accepts s o e).layer.channels ≡ length e.layer.channels
accepts_count s None e = refl
accepts_count s (Some p) e = (packet_same e.layer 0 p).3

arrives_count : (n : ℕ) (o : Option ℕ) (w : Line) → Counts n w → Counts n (arrives_in o w)
arrives_count n None w h = h
arrives_count n (Some s) w h = (accepts_count s (next_of_session w s) w.me ∙ h.0, h.1)

pub happens_count : (n : ℕ) (e : Event) (w : Line) → Counts n w → Counts n (happens e w)
happens_count n (Up k) w h = by_cond (λ (v : Line). Counts n v) (may_begin k w) (record w { me = begun k w.me }) w (λ e. (map_length w.me.layer.channels ∙ h.0, h.1)) (λ e. h)
happens_count n Down w h = (map_length w.me.layer.channels ∙ h.0, h.1)
happens_count n (Calls parts) w h = ((placed_same w.me.layer 0 parts (channel_given w.me.layer w.me.layer.phase)).3 ∙ h.0, h.1)
happens_count n (Requests d r) w h = ((found_same w.me.layer 0 d (λ ch. requested w.me.layer.role w.me.layer.flow ch r) (channel_of w.me.layer d)).3 ∙ h.0, h.1)
happens_count n (Expires timer) w h = ((timer_same w.me.layer 0 timer).3 ∙ h.0, h.1)
happens_count n Offers w h = (offers_count w.me.session w.me ∙ h.0, h.1)
happens_count n Arrives w h = arrives_count n w.me.session w h

one_count : (n : ℕ) (h : Happening) (w : Line) → Counts n w → Counts n (after_one h w)
one_count n (Here e) w q = happens_count n e w q
one_count n (There e) w q = let r = happens_count n e (turned w) (q.1, q.0) in (r.1, r.0)

all_count : (n : ℕ) (hs : List Happening) (w : Line) → Counts n w → Counts n (after hs w)
all_count n [] w q = q
all_count n (h ∷ hs) w q = all_count n hs (after_one h w) (one_count n h w q)

replicate_length : (n : ℕ) → length (replicate n closed_channel) ≡ n
replicate_length zero = refl
replicate_length (suc n) = ap suc (replicate_length n)

standing_length : (standing : Bool) (chs : List Channel) → length (standing_channels standing chs) ≡ length chs
standing_length true [] = refl
standing_length true (x ∷ chs) = refl
standing_length false chs = refl

pub start_count : (channels : ℕ) (flow : Flow) (standing : Bool) → Counts channels (start_line channels flow standing)
start_count channels flow standing =
    let e = standing_length standing (replicate channels closed_channel) ∙ replicate_length channels in (e, e)

-- ---- the law

pub nth_within : (chs : List Channel) (d : ℕ) (ch : Channel) → nth_channel chs d ≡ Some ch → d ≤ length chs
nth_within chs zero ch e = omega arith
nth_within chs (suc i) ch e = let h = slice_get_within chs i ch e in omega arith

not_zero : (d : ℕ) → (d == 0) ≡ false → 1 ≤ d
not_zero zero e = absurd (true≢false e)
not_zero (suc d) e = omega arith

no_channel : (l : Layer) (p : Packet) → channel_of l p.channel ≡ None → (ph : Phase) → is_channel_fault ph l p ≡ false
no_channel l p e PacketReady = ap (λ (f : Option Channel). is_fault_on l p f) e
no_channel l p e OwnRestart = refl
no_channel l p e NoSession = refl

none_fault : (l : Layer) (p : Packet) (found : Option Channel) → ((ch : Channel) → found ≡ Some ch → is_channel_fault l.phase l p ≡ false) → channel_of l p.channel ≡ found → is_channel_fault l.phase l p ≡ false
none_fault l p (Some ch) h e = h ch refl
none_fault l p None h e = no_channel l p e l.phase

pub faultless : (channels : ℕ) (flow : Flow) (role : Role) (w : Line) → 1 ≤ channels → length w.me.layer.channels ≡ channels → ((s c : ℕ) → 1 ≤ c → c ≤ channels → Tied flow role w s c) → NoFault w
faultless channels flow role w some count tied s p ses got =
    fault_at (p.channel == 0) refl
  where
    fault_at : (v : Bool) → (p.channel == 0) ≡ v → cond v (is_restart_fault w.me.layer.phase p.body) (is_channel_fault w.me.layer.phase w.me.layer p) ≡ false
    fault_at true e = restart_faultless flow role w s 1 p ses got e (tied s 1 (omega arith) some)
    fault_at false e = none_fault w.me.layer p (channel_of w.me.layer p.channel)
        (λ ch found. channel_faultless flow role w s p ses got e
        (tied s p.channel (not_zero p.channel e) (let h = nth_within w.me.layer.channels p.channel ch found in omega arith))) refl

pub line_holds : LineLaw
line_holds channels flow standing some small hs =
    let w : Line = after hs (start_line channels flow standing) in
    let tied : (s c : ℕ) → 1 ≤ c → c ≤ channels → Tied flow Dte w s c = λ s c lo hi. all_tied flow Dte hs (start_line channels flow standing) s c (starts_tied channels flow standing s c small lo hi) in
    let counts = all_count channels hs (start_line channels flow standing) (start_count channels flow standing) in (
      λ s c lo hi. tied_holds flow Dte w s c (tied s c lo hi),
      faultless channels flow Dte w some counts.0 tied,
      faultless channels flow Dce (turned w) some counts.1 (λ s c lo hi. turned_tied flow Dte w s c (tied s c lo hi)),
    )
