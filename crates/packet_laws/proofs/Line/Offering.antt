-- A packet handed to the link keeps the line's channels tied to their handshakes.
use Rattle.std.proofs.Common.{◌≡◌, ℕ, zero, suc, ◌<◌, ◌≤◌, Bool, true, false, cond, ◌||◌, ◌==◌, List, [], ◌∷◌, ◌++◌, length, drop, Option, Some, None, is_some, refl, sym, ap, subst, ◌∙◌, arith, append_assoc, append-nil, length-append, true≢false, inl, inr}
use Rattle.std.proofs.lemmas.Bool.{ne_eqb, cases_eq}
use Rattle.std.proofs.lemmas.List.{drop-append-le}
use Rattle.link_timers.specs.declared.role.Role.{Role}
use Rattle.data_transfer.specs.declared.flow.Flow.{Flow}
use Rattle.data_transfer.specs.Packets.{Body, Packet}
use Rattle.data_transfer.specs.Traffic.{says}
use Rattle.packet_channel.specs.Channel.{Channel, has_flow, moved}
use Rattle.packet_layer.specs.Layer.{Phase, Layer, Next, ChannelNext, channel_of, with_nth, next_packet, next_in, next_restart, serve, serve_found, next_of, next_owed, next_number, packet_of}
use Rattle.packet_layer.specs.Layer.Phase.{NoSession, OwnRestart, PacketReady}
use Rattle.packet_laws.specs.LayerLine.{Line, happens, handed_over, offers}
use Rattle.packet_laws.specs.LayerLine.Event.{Offers}
use Rattle.packet_laws.proofs.Handshakes.Handshake.{said, AllPayload}
use Rattle.packet_laws.proofs.Handshakes.Handshake.Kind.{Payload}
use Rattle.packet_laws.proofs.Handshakes.Keeping.{same}
use Rattle.packet_laws.proofs.Call.SetUp.{Stage}
use Rattle.packet_laws.proofs.Call.SetUp.Stage.{Open}
use Rattle.packet_laws.proofs.Call.Saying.{by_cond}
use Rattle.packet_laws.proofs.Call.Levels.{restart_kind, Whole, begun_whole, GoodWhole}
use Rattle.packet_laws.proofs.Line.Stored.{stored, shown, Settled, Frozen, frozen_same, HistoryTie}
use Rattle.packet_laws.proofs.Line.Acts.{Act, in_any, says_act}
use Rattle.packet_laws.proofs.Line.Lines.{belongs, on_c, Well, WellOf, AllWell, AllRestart, Present, Tied, nth_there, nth_same, nth_other, session_other, end_again}
use Rattle.packet_laws.proofs.Line.Moves.{SameLine, nth_length}

-- ---- the packets of a channel in what was handed over

joined : (v : Bool) (b : Body) (p q r : List Body) → r ≡ p ++ q → cond v (b ∷ r) r ≡ cond v (b ∷ p) p ++ q
joined true b p q r e = ap (λ (l : List Body). b ∷ l) e
joined false b p q r e = e

pub on_c_append : (c : ℕ) (xs ys : List Packet) → on_c c (xs ++ ys) ≡ on_c c xs ++ on_c c ys
on_c_append c [] ys = refl
on_c_append c (x ∷ xs) ys = joined (belongs c x) x.body (on_c c xs) (on_c c ys) (on_c c (xs ++ ys)) (on_c_append c xs ys)

pub link_push : (c a : ℕ) (ps : List Packet) (p : Packet) → a ≤ length ps → on_c c (drop a (ps ++ p ∷ [])) ≡ on_c c (drop a ps) ++ on_c c (p ∷ [])
link_push c a ps p le = ap (λ (l : List Packet). on_c c l) (drop-append-le a ps (p ∷ []) le) ∙ on_c_append c (drop a ps) (p ∷ [])

well_push : (c : ℕ) (ps : List Packet) (p : Packet) → AllWell c ps → Well c p → AllWell c (ps ++ p ∷ [])
well_push c [] p a h = (h, tt)
well_push c (x ∷ xs) p a h = (a.0, well_push c xs p a.1 h)

within_push : (a : ℕ) (ps : List Packet) (p : Packet) → a ≤ length ps → a ≤ length (ps ++ p ∷ [])
within_push a ps p le = let e = length-append ps (p ∷ []) in omega arith

-- ---- what the layer makes of itself

abbrev Becomes : Line → ℕ → Next → Line
Becomes w k n = record w { me = record w.me { layer = n.layer; offered = handed_over k n.packet w.me.offered } }

abbrev pub Found : (Next → Type 0) → Layer → Type 0
Found P l = (d : ℕ) (ch : Channel) (q : Body) → channel_of l d ≡ Some ch → (next_of l.flow ch).body ≡ Some q → P (record { layer = record l { channels = with_nth l.channels d (next_of l.flow ch).channel; served_last = d }; packet = packet_of d (next_of l.flow ch).body })

has_body : (o : Option Body) → is_some o ≡ true → (q : Body) × (o ≡ Some q)
has_body (Some q) e = (q, refl)
has_body None e = absurd (true≢false (sym e))

serve_one : (P : Next → Type 0) (l : Layer) (d : ℕ) (found : Option Channel) (others : Next) → channel_of l d ≡ found → Found P l → P others → P (serve_found l d found others)
serve_one P l d None others e some o = o
serve_one P l d (Some ch) others e some o =
    by_cond P (is_some (next_of l.flow ch).body) _ others (λ h. let b = has_body (next_of l.flow ch).body h in some d ch b.0 e b.1) (λ h. o)

serve_all : (P : Next → Type 0) (l : Layer) → P (record { layer = l; packet = None }) → Found P l → (k d : ℕ) → P (serve k l d)
serve_all P l none some zero d = none
serve_all P l none some (suc k) d = serve_one P l d (channel_of l d) (serve k l (next_number l d)) refl some (serve_all P l none some k (next_number l d))

abbrev next_with : Phase → Bool → List Body → Layer → Next
next_with NoSession relink owed l = record { layer = l; packet = None }
next_with phase true owed l = record { layer = l; packet = None }
next_with phase false owed l = next_restart owed l

next_with_is : (ph : Phase) (rl : Bool) (l : Layer) → next_with ph rl l.owed l ≡ next_in ph rl l
next_with_is NoSession rl l = refl
next_with_is OwnRestart true l = refl
next_with_is PacketReady true l = refl
next_with_is OwnRestart false l = refl
next_with_is PacketReady false l = refl

next_all : (P : Next → Type 0) (l : Layer) (ph : Phase) (rl : Bool) (owed : List Body) → l.relink ≡ rl → l.owed ≡ owed
    → P (record { layer = l; packet = None })
    → ((q : Body) (qs : List Body) → l.relink ≡ false → l.owed ≡ q ∷ qs → P (record { layer = record l { owed = qs }; packet = packet_of 0 (Some q) }))
    → (l.relink ≡ false → l.owed ≡ [] → Found P l)
    → P (next_with ph rl owed l)
next_all P l NoSession rl owed e f none restart some = none
next_all P l OwnRestart true owed e f none restart some = none
next_all P l PacketReady true owed e f none restart some = none
next_all P l OwnRestart false [] e f none restart some = serve_all P l none (some e f) (length l.channels) (next_number l l.served_last)
next_all P l PacketReady false [] e f none restart some = serve_all P l none (some e f) (length l.channels) (next_number l l.served_last)
next_all P l OwnRestart false (q ∷ qs) e f none restart some = restart q qs e f
next_all P l PacketReady false (q ∷ qs) e f none restart some = restart q qs e f

pub next_every : (P : Next → Type 0) (l : Layer) → P (record { layer = l; packet = None })
    → ((q : Body) (qs : List Body) → l.relink ≡ false → l.owed ≡ q ∷ qs → P (record { layer = record l { owed = qs }; packet = packet_of 0 (Some q) }))
    → (l.relink ≡ false → l.owed ≡ [] → Found P l)
    → P (next_packet l)
next_every P l none restart some = subst P (next_with_is l.phase l.relink l) (next_all P l l.phase l.relink l.owed refl refl none restart some)

-- ---- in another session

pub next_same : (l : Layer) (c : ℕ) → SameLine l (next_packet l).layer c
next_same l c = next_every (λ (n : Next). SameLine l n.layer c) l (refl, refl, λ t. t, refl) (λ q qs e f. (refl, refl, λ t. t, refl))
    (λ e f d ch q g h. (refl, refl, λ t. nth_there l.channels c d (next_of l.flow ch).channel t, nth_length l.channels d (next_of l.flow ch).channel))

pub handed_other : (k s : ℕ) (o : Option Packet) (off : ℕ → List Packet) → (s == k) ≡ false → handed_over k o off s ≡ off s
handed_other k s None off e = refl
handed_other k s (Some p) off e = ap (λ (v : Bool). cond v (off s ++ p ∷ []) (off s)) e

-- ---- in this session

-- the end after a packet was handed over
pushed : (flow : Flow) (role : Role) (w : Line) (s c : ℕ) (t : Tied flow role w s c) (l' : Layer) (p : Packet) (x' : Whole) (rest' : List Body)
    → l'.role ≡ w.me.layer.role → l'.flow ≡ w.me.layer.flow → Well c p
    → GoodWhole flow role (record { me = x'; you = t.y; out = (on_c c (drop (w.you.accepted s) (w.me.offered s)) ++ on_c c (p ∷ [])) ++ rest'; back = t.b })
    → Settled x' → Frozen x' → HistoryTie x' (w.me.histories s c) → (0 < s → w.me.accepted s ≡ 0 → x' ≡ begun_whole) → Present l' c x' rest'
    → Tied flow role (Becomes w s (record { layer = l'; packet = Some p })) s c
pushed flow role w s c t l' p x' rest' ro wi well good settled frozen history still present =
    let m = t.mine in
    let off : cond (s == s) (w.me.offered s ++ p ∷ []) (w.me.offered s) ≡ w.me.offered s ++ p ∷ [] = ap (λ (v : Bool). cond v (w.me.offered s ++ p ∷ []) (w.me.offered s)) (same s) in
    record {
      x = x';
      y = t.y;
      o = (on_c c (drop (w.you.accepted s) (w.me.offered s)) ++ on_c c (p ∷ [])) ++ rest';
      b = t.b;
      good = good;
      mine = record {
        role_is = ro ∙ m.role_is;
        window_is = wi ∙ m.window_is;
        there = (shown (stored x') present.owed, present.channel_is);
        rest = rest';
        out_is = ap (λ (q : List Body). q ++ rest') (sym (ap (λ (l : List Packet). on_c c (drop (w.you.accepted s) l)) off ∙ link_push c (w.you.accepted s) (w.me.offered s) p m.within));
        well = subst (λ (l : List Packet). AllWell c l) (sym off) (well_push c (w.me.offered s) p m.well well);
        within = subst (λ (l : List Packet). w.you.accepted s ≤ length l) (sym off) (within_push (w.you.accepted s) (w.me.offered s) p m.within);
        history = history;
        settled = settled;
        frozen = frozen;
        present = λ h. present;
        still = still;
      };
      yours = t.yours;
    }

-- a restart packet
offers_restart : (flow : Flow) (role : Role) (w : Line) (s c : ℕ) (t : Tied flow role w s c) → Present w.me.layer c t.x t.mine.rest → (q : Body) (qs : List Body) → w.me.layer.relink ≡ false → w.me.layer.owed ≡ q ∷ qs
    → Tied flow role (Becomes w s (record { layer = record w.me.layer { owed = qs }; packet = packet_of 0 (Some q) })) s c
offers_restart flow role w s c t pr q qs e f =
    let l : Layer = w.me.layer in
    let link : List Body = on_c c (drop (w.you.accepted s) (w.me.offered s)) in
    let restarts : AllRestart (q ∷ qs) = subst (λ (z : List Body). AllRestart z) f pr.restarts in
    let out : t.o ≡ (link ++ q ∷ []) ++ (qs ++ pr.owed) =
    t.mine.out_is ∙ ap (λ (z : List Body). link ++ z) (pr.rest_is e ∙ ap (λ (z : List Body). z ++ pr.owed) f) ∙ sym (append_assoc link (q ∷ []) (qs ++ pr.owed)) in
    pushed flow role w s c t (record l { owed = qs }) (record { channel = 0; body = q }) t.x (qs ++ pr.owed) refl refl restarts.0
    (subst (λ (z : List Body). GoodWhole flow role (record { me = t.x; you = t.y; out = z; back = t.b })) out t.good)
    t.mine.settled t.mine.frozen t.mine.history t.mine.still
    (record { phase_is = pr.phase_is; owed = pr.owed; channel_is = pr.channel_is; plain = pr.plain; restarts = restarts.1; rest_is = λ h. refl })

pub not_restart_channel : (l : Layer) (d : ℕ) (ch : Channel) → channel_of l d ≡ Some ch → (d == 0) ≡ false
not_restart_channel l zero ch e = absurd cc
not_restart_channel l (suc d) ch e = ne_eqb (suc d) 0 (λ h. omega arith)

-- a packet of another channel
offers_other : (flow : Flow) (role : Role) (w : Line) (s c : ℕ) (t : Tied flow role w s c) → Present w.me.layer c t.x t.mine.rest → (d : ℕ) (ch' : Channel) (q : Body) → (d == 0) ≡ false → (c ≡ d → ⊥)
    → Tied flow role (Becomes w s (record { layer = record w.me.layer { channels = with_nth w.me.layer.channels d ch'; served_last = d }; packet = Some (record { channel = d; body = q }) })) s c
offers_other flow role w s c t pr d ch' q nz ne =
    let l : Layer = w.me.layer in
    let p : Packet = record { channel = d; body = q } in
    let dc : (d == c) ≡ false = ne_eqb d c (λ e. ne (sym e)) in
    let none : belongs c p ≡ false = ap (λ (v : Bool). v || (d == c)) nz ∙ dc in
    let nothing : on_c c (p ∷ []) ≡ [] = ap (λ (v : Bool). cond v (q ∷ []) []) none in
    let link : List Body = on_c c (drop (w.you.accepted s) (w.me.offered s)) in
    pushed flow role w s c t (record l { channels = with_nth l.channels d ch'; served_last = d }) p t.x t.mine.rest refl refl
    (subst (λ (v : Bool). WellOf v (d == c) q) (sym nz) (subst (λ (v : Bool). WellOf false v q) (sym dc) tt))
    (subst (λ (z : List Body). GoodWhole flow role (record { me = t.x; you = t.y; out = z; back = t.b })) (t.mine.out_is ∙ ap (λ (z : List Body). z ++ t.mine.rest) (sym (append-nil link) ∙ ap (λ (z : List Body). link ++ z) (sym nothing))) t.good)
    t.mine.settled t.mine.frozen t.mine.history t.mine.still
    (record { phase_is = pr.phase_is; owed = pr.owed; channel_is = nth_other l.channels c d ch' ne ∙ pr.channel_is; plain = pr.plain; restarts = pr.restarts; rest_is = pr.rest_is })

pub one_packet : (c : ℕ) (q : Body) → on_c c (record { channel = c; body = q } ∷ []) ≡ q ∷ []
one_packet c q = ap (λ (v : Bool). cond v (q ∷ []) []) (either_same (c == 0))
  where
    either_same : (v : Bool) → (v || (c == c)) ≡ true
    either_same true = refl
    either_same false = same c

well_here : (c : ℕ) (q : Body) → (c == 0) ≡ false → restart_kind q ≡ Payload → Well c (record { channel = c; body = q })
well_here c q nz e = subst (λ (v : Bool). WellOf v (c == c) q) (sym nz) (subst (λ (v : Bool). WellOf false v q) (sym (same c)) e)

-- what the channel's traffic says
abbrev SaysOf : Flow → Role → Whole → Type 0
SaysOf flow role n = (owed : List Body) → Act flow role n owed (record (shown (stored n) owed) { traffic = (says flow (stored n).traffic).traffic }) (says flow (stored n).traffic).body (λ st. st)

says_any : (flow : Flow) (role : Role) (rown own : Bool) (s : Stage) (rs : Bool) (n : Whole) → has_flow (shown (stored (in_any rown own s rs n)) []) ≡ true → SaysOf flow role (in_any rown own s rs n)
says_any flow role false false (Open m) false n e owed = says_act flow role m n owed
says_any flow role false false (Open m) true n e owed = absurd (true≢false (sym e))
says_any flow role false false _ rs n e owed = absurd (true≢false (sym e))
says_any flow role false true s rs n e owed = absurd (true≢false (sym e))
says_any flow role true own s rs n e owed = absurd (true≢false (sym e))

flow_or_none : (b : Bool) (x y : ChannelNext) (q : Body) → y.body ≡ None → (cond b x y).body ≡ Some q → (b ≡ true) × (cond b x y ≡ x)
flow_or_none true x y q n e = (refl, refl)
flow_or_none false x y q n e = absurd (none_is (sym n ∙ e))
  where
    none_is : None ≡ Some q → ⊥
    none_is h = cc

-- the next packet of this channel
offers_here : (flow : Flow) (role : Role) (w : Line) (s c : ℕ) (t : Tied flow role w s c) (pr : Present w.me.layer c t.x t.mine.rest) (q : Body) (owed : List Body) → pr.owed ≡ owed → w.me.layer.relink ≡ false → w.me.layer.owed ≡ []
    → (c == 0) ≡ false → (next_owed w.me.layer.flow owed (shown (stored t.x) owed)).body ≡ Some q
    → Tied flow role (Becomes w s (record { layer = record w.me.layer { channels = with_nth w.me.layer.channels c (next_owed w.me.layer.flow owed (shown (stored t.x) owed)).channel; served_last = c }; packet = packet_of c (next_owed w.me.layer.flow owed (shown (stored t.x) owed)).body })) s c
offers_here flow role w s c t pr q (b ∷ bs) is rl none nz e =
    let l : Layer = w.me.layer in
    let link : List Body = on_c c (drop (w.you.accepted s) (w.me.offered s)) in
    let plain : AllPayload restart_kind (b ∷ bs) = subst (λ (z : List Body). AllPayload restart_kind z) is pr.plain in
    let out : t.o ≡ (link ++ on_c c (record { channel = c; body = b } ∷ [])) ++ bs =
    t.mine.out_is ∙ ap (λ (z : List Body). link ++ z) (pr.rest_is rl ∙ ap (λ (z : List Body). z ++ pr.owed) none ∙ is) ∙ sym (append_assoc link (b ∷ []) bs)
    ∙ ap (λ (z : List Body). (link ++ z) ++ bs) (sym (one_packet c b)) in
    pushed flow role w s c t _ (record { channel = c; body = b }) t.x bs refl refl (well_here c b nz plain.0)
    (subst (λ (z : List Body). GoodWhole flow role (record { me = t.x; you = t.y; out = z; back = t.b })) out t.good)
    t.mine.settled t.mine.frozen t.mine.history t.mine.still
    (record { phase_is = pr.phase_is; owed = bs; channel_is = nth_same l.channels c (shown (stored t.x) pr.owed) _ pr.channel_is; plain = plain.1; restarts = pr.restarts; rest_is = λ h. ap (λ (z : List Body). z ++ bs) (sym none) })
offers_here flow role w s c t pr q [] is rl none nz e =
    let l : Layer = w.me.layer in
    let x : Whole = t.x in
    let link : List Body = on_c c (drop (w.you.accepted s) (w.me.offered s)) in
    let flowing : ChannelNext = record { channel = moved (says l.flow (stored x).traffic).traffic (shown (stored x) []); body = (says l.flow (stored x).traffic).body } in
    let f = flow_or_none (has_flow (shown (stored x) [])) flowing (record { channel = shown (stored x) []; body = None }) q refl e in
    let act : Act flow role x [] (record (shown (stored x) []) { traffic = (says flow (stored x).traffic).traffic }) (says flow (stored x).traffic).body (λ st. st) =
    says_any flow role x.own x.now.own x.now.now.stage x.now.now.call.own x f.0 [] in
    let win : l.flow ≡ flow = t.mine.window_is in
    let body_is : (says flow (stored x).traffic).body ≡ Some q =
    ap (λ (f : Flow). (says f (stored x).traffic).body) (sym win) ∙ ap (λ (n : ChannelNext). n.body) (sym f.1) ∙ e in
    let says_q : act.did.says ≡ Some q = sym act.owes_is ∙ body_is in
    let x' : Whole = act.did.end_ in
    let rest_nil : t.mine.rest ≡ [] = pr.rest_is rl ∙ ap (λ (z : List Body). z ++ pr.owed) none ∙ is in
    let good1 : GoodWhole flow role (record { me = x'; you = t.y; out = t.o ++ q ∷ []; back = t.b }) =
    subst (λ (o : Option Body). GoodWhole flow role (record { me = x'; you = t.y; out = said o t.o; back = t.b })) says_q (act.keeps t.y t.o t.b t.good) in
    let out : t.o ++ q ∷ [] ≡ (link ++ on_c c (record { channel = c; body = q } ∷ [])) ++ [] =
    ap (λ (z : List Body). z ++ q ∷ []) (t.mine.out_is ∙ ap (λ (z : List Body). link ++ z) rest_nil ∙ append-nil link)
    ∙ ap (λ (z : List Body). link ++ z) (sym (one_packet c q)) ∙ sym (append-nil _) in
    let payload : restart_kind q ≡ Payload = subst (λ (o : Option Body). Rattle.packet_laws.proofs.Handshakes.Handshake.SaysPayload restart_kind o) says_q act.plain in
    let next : ChannelNext = next_owed l.flow [] (shown (stored x) []) in
    let ch_is : next.channel ≡ shown (stored x') [] =
    ap (λ (n : ChannelNext). n.channel) f.1 ∙ ap (λ (f : Flow). record (shown (stored x) []) { traffic = (says f (stored x).traffic).traffic }) win ∙ act.channel_is in
    subst (λ (o : Option Packet). Tied flow role (Becomes w s (record { layer = record l { channels = with_nth l.channels c next.channel; served_last = c }; packet = o })) s c) (ap (λ (o : Option Body). packet_of c o) (sym e))
    (pushed flow role w s c t (record l { channels = with_nth l.channels c next.channel; served_last = c }) (record { channel = c; body = q }) x' [] refl refl (well_here c q nz payload)
    (subst (λ (z : List Body). GoodWhole flow role (record { me = x'; you = t.y; out = z; back = t.b })) out good1)
    act.settled (frozen_same x x' act.past_is t.mine.frozen) (act.history (w.me.histories s c) t.mine.history)
    (λ lt h. let b = t.mine.still lt h in (act.idle (ap (λ (n : Whole). n.own) b)).0 ∙ b)
    (record {
      phase_is = pr.phase_is ∙ ap (λ (v : Bool). Rattle.packet_laws.proofs.Line.Stored.phase_of v) (sym act.own_is);
      owed = [];
      channel_is = nth_same l.channels c (shown (stored x) pr.owed) next.channel pr.channel_is ∙ ap (λ (ch : Channel). Some ch) ch_is;
      plain = tt;
      restarts = pr.restarts;
      rest_is = λ h. ap (λ (z : List Body). z ++ []) (sym none);
    }))

some_ch : (a b : Channel) → Some a ≡ Some b → a ≡ b
some_ch a b e = cc

offers_found : (flow : Flow) (role : Role) (w : Line) (s c : ℕ) (t : Tied flow role w s c) → Present w.me.layer c t.x t.mine.rest → w.me.layer.relink ≡ false → w.me.layer.owed ≡ []
    → Found (λ n. Tied flow role (Becomes w s n) s c) w.me.layer
offers_found flow role w s c t pr rl none d ch q found body =
    let l : Layer = w.me.layer in
    elim (cases_eq c d) [
      | inl e ↦
          let here : channel_of l c ≡ Some ch = subst (λ (k : ℕ). channel_of l k ≡ Some ch) (sym e) found in
          let is_ch : shown (stored t.x) pr.owed ≡ ch = some_ch _ _ (sym pr.channel_is ∙ here) in
          subst (λ (k : ℕ). Tied flow role (Becomes w s (record { layer = record l { channels = with_nth l.channels k (next_of l.flow ch).channel; served_last = k }; packet = packet_of k (next_of l.flow ch).body })) s c) e
          (subst (λ (z : Channel). Tied flow role (Becomes w s (record { layer = record l { channels = with_nth l.channels c (next_of l.flow z).channel; served_last = c }; packet = packet_of c (next_of l.flow z).body })) s c) is_ch
          (offers_here flow role w s c t pr q pr.owed refl rl none (not_restart_channel l c ch here) (ap (λ (z : Channel). (next_of l.flow z).body) is_ch ∙ body)))
      | inr ne ↦
          subst (λ (o : Option Packet). Tied flow role (Becomes w s (record { layer = record l { channels = with_nth l.channels d (next_of l.flow ch).channel; served_last = d }; packet = o })) s c) (ap (λ (o : Option Body). packet_of d o) (sym body))
          (offers_other flow role w s c t pr d (next_of l.flow ch).channel q (not_restart_channel l d ch found) ne)
    ]

offers_at : (flow : Flow) (role : Role) (w : Line) (k s c : ℕ) → w.me.session ≡ Some k → Tied flow role w s c → Tied flow role (Becomes w k (next_packet w.me.layer)) s c
offers_at flow role w k s c ses t =
    elim (cases_eq s k) [
      | inl e ↦ subst (λ (j : ℕ). Tied flow role (Becomes w j (next_packet w.me.layer)) s c) e
          (next_every (λ (n : Next). Tied flow role (Becomes w s n) s c) w.me.layer t
          (λ q qs rl owed. offers_restart flow role w s c t (t.mine.present (ses ∙ ap (λ (j : ℕ). Some j) (sym e))) q qs rl owed)
          (λ rl owed. offers_found flow role w s c t (t.mine.present (ses ∙ ap (λ (j : ℕ). Some j) (sym e))) rl owed))
      | inr ne ↦
          let ls = next_same w.me.layer c in
          record {
            x = t.x;
            y = t.y;
            o = t.o;
            b = t.b;
            good = t.good;
            mine = end_again flow role w.me (record w.me { layer = (next_packet w.me.layer).layer; offered = handed_over k (next_packet w.me.layer).packet w.me.offered }) (w.you.accepted s) s c t.x t.o ls.0 ls.1 (ls.2 t.mine.there)
                (handed_other k s (next_packet w.me.layer).packet w.me.offered (ne_eqb s k ne)) refl refl (λ rest p h. absurd (session_other s k (ne_eqb s k ne) (sym ses ∙ h))) t.mine;
            yours = t.yours;
          }
    ]

offers_by : (flow : Flow) (role : Role) (w : Line) (o : Option ℕ) (s c : ℕ) → w.me.session ≡ o → Tied flow role w s c → Tied flow role (record w { me = offers o w.me }) s c
offers_by flow role w None s c ses t = t
offers_by flow role w (Some k) s c ses t = offers_at flow role w k s c ses t

pub offers_tied : (flow : Flow) (role : Role) (w : Line) (s c : ℕ) → Tied flow role w s c → Tied flow role (happens Offers w) s c
offers_tied flow role w s c t = offers_by flow role w w.me.session s c refl t
