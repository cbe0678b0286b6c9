-- A line at whose ends nobody asks for a relink: what is on the way to each end, with what the other end owes, may all come to it.
use Rattle.std.proofs.Common.{◌≡◌, ℕ, ◌≤◌, Bool, true, false, cond, not, List, [], ◌∷◌, ◌++◌, length, drop, Option, Some, None, refl, sym, ap, subst, ◌∙◌, append_assoc, append-nil, arith, inl, inr}
use Rattle.link_timers.specs.declared.role.Role.{Role}
use Rattle.link_timers.specs.Role.{other_of}
use Rattle.data_transfer.specs.declared.flow.Flow.{Flow}
use Rattle.data_transfer.specs.Packets.{Body}
use Rattle.data_transfer.specs.Packets.Body.{Restart, RestartConfirmation}
use Rattle.packet_channel.specs.Channel.{ChannelState, Channel}
use Rattle.packet_channel.specs.Channel.ChannelState.{Ready}
use Rattle.packet_layer.specs.Layer.{Phase, channel_of}
use Rattle.packet_layer.specs.Layer.Phase.{NoSession}
use Rattle.packet_laws.specs.LayerLine.{End, Line, turned, is_session}
use Rattle.packet_laws.proofs.Handshakes.Handshake.{Kind, Seen, Walk, said}
use Rattle.packet_laws.proofs.Handshakes.Handshake.Kind.{Payload, Request, Confirmation}
use Rattle.packet_laws.proofs.Handshakes.Keeping.{same}
use Rattle.packet_laws.proofs.Handshakes.Walks.{walk_reach}
use Rattle.packet_laws.proofs.Call.Levels.{restart_kind, Uses, Whole, first_use, GoodUses, GoodWhole}
use Rattle.packet_laws.proofs.Line.Stored.{stored, phase_of, shown}
use Rattle.packet_laws.proofs.Line.Lines.{on_c, IsRestart, AllRestart, EndTie, Tied}
use Rattle.packet_laws.proofs.Line.Moves.{session_is}
use Rattle.packet_laws.proofs.Line.Outcomes.{some_same}
use Rattle.packet_laws.proofs.Line.LineHolds.{Counts}
use Rattle.packet_laws.proofs.Handshakes.Counting.{counted, handshake_count, handshake_count_append, on_the_way}
use Rattle.packet_laws.proofs.Owed.MayCome.{Hears, AllCome, all_front, one_small}
use Rattle.packet_laws.proofs.Owed.Draining.{FitsIn, push}
use Rattle.packet_laws.proofs.Owed.Growing.{is_r1, FitsAt, ComesTo, AllFit, Grown}

-- ---- what is on the way to an end

abbrev pub owed_at : Option Channel → List Body
owed_at None = []
owed_at (Some ch) = ch.owed

abbrev pub pending : End → ℕ → ℕ → List Body
pending e s c = cond (is_session e.session s) (e.layer.owed ++ owed_at (channel_of e.layer c)) []

abbrev pub linked : Line → ℕ → ℕ → List Body
linked w s c = on_c c (drop (w.me.accepted s) (w.you.offered s))

abbrev pub way : Line → ℕ → ℕ → List Body
way w s c = linked w s c ++ pending w.you s c

-- ---- the invariant

pub record EndOk (role : Role) (w : Line) : Type 0 where
  pub quiet : w.me.layer.relink ≡ false
  pub few : length w.me.layer.owed ≤ 2
  pub idle : w.me.session ≡ None → (w.me.layer.phase ≡ NoSession) × (w.me.layer.owed ≡ [])
  pub fits : AllFit w.me.layer
  pub comes : (s c : ℕ) (ch : Channel) → w.me.session ≡ Some s → channel_of w.me.layer c ≡ Some ch → ComesTo role w.me.layer.phase ch (way w s c)

pub record NoRelink (channels : ℕ) (flow : Flow) (role : Role) (w : Line) : Type 0 where
  pub some : 1 ≤ channels
  pub count : Counts channels w
  pub tied : (s c : ℕ) → 1 ≤ c → c ≤ channels → Tied flow role w s c
  pub me : EndOk role w
  pub you : EndOk (other_of role) (turned w)

-- ---- at most two restart packets are owed

restart_counts : (b : Body) → IsRestart b → counted (restart_kind b) ≡ 1
restart_counts (Restart x y) r = refl
restart_counts RestartConfirmation r = refl
restart_counts _ r = absurd r

all_restarts : (o : List Body) → AllRestart o → handshake_count restart_kind o ≡ length o
all_restarts [] h = refl
all_restarts (b ∷ o) h = let a = restart_counts b h.0 in let q = all_restarts o h.1 in omega arith

pub few_restarts : (flow : Flow) (role : Role) (w : Line) (s c : ℕ) → Tied flow role w s c → w.me.session ≡ Some s → w.me.layer.relink ≡ false → length w.me.layer.owed ≤ 2
few_restarts flow role w s c t ses quiet =
    let p = t.mine.present ses in
    let link : List Body = on_c c (drop (w.you.accepted s) (w.me.offered s)) in
    let out : t.o ≡ link ++ (w.me.layer.owed ++ p.owed) = t.mine.out_is ∙ ap (λ (q : List Body). link ++ q) (p.rest_is quiet) in
    let count = on_the_way restart_kind Uses first_use (λ u. GoodUses flow role u) (record { me = t.x; you = t.y; out = t.o; back = t.b }) t.good in
    let split = ap (λ (q : List Body). handshake_count restart_kind q) out in
    let a = handshake_count_append restart_kind link (w.me.layer.owed ++ p.owed) in
    let b = handshake_count_append restart_kind w.me.layer.owed p.owed in
    let n = all_restarts w.me.layer.owed p.restarts in
    let x = one_small t.x.own in
    let y = one_small t.y.own in
    omega arith

-- ---- the way is the pipe of the handshakes

present_pending : (flow : Flow) (role : Role) (e : End) (a s c : ℕ) (n : Whole) (o : List Body) (t : EndTie flow role e a s c n o) → e.layer.relink ≡ false → (p : e.session ≡ Some s) → t.rest ≡ pending e s c
present_pending flow role e a s c n o t quiet ses =
    let p = t.present ses in
    let here : is_session e.session s ≡ true = ap (λ (q : Option ℕ). is_session q s) ses ∙ same s in
    p.rest_is quiet ∙ sym (ap (λ (q : Option Channel). e.layer.owed ++ owed_at q) p.channel_is) ∙ sym (ap (λ (v : Bool). cond v (e.layer.owed ++ owed_at (channel_of e.layer c)) []) here)

-- with the other end up, all of it; else a front of it
way_up : (flow : Flow) (role : Role) (w : Line) (s c : ℕ) (t : Tied flow role w s c) → w.you.layer.relink ≡ false → w.you.session ≡ Some s → t.b ≡ way w s c
way_up flow role w s c t quiet ses = t.yours.out_is ∙ ap (λ (q : List Body). linked w s c ++ q) (present_pending flow (other_of role) w.you (w.me.accepted s) s c t.y t.b t.yours quiet ses)

pub way_front : (flow : Flow) (role : Role) (w : Line) (s c : ℕ) (t : Tied flow role w s c) → w.you.layer.relink ≡ false → (more : List Body) × (t.b ≡ way w s c ++ more)
way_front flow role w s c t quiet =
    elim (session_is w.you.session s) [
      | inl h ↦ ([], way_up flow role w s c t quiet h.1 ∙ sym (append-nil (way w s c)))
      | inr h ↦ (t.yours.rest, t.yours.out_is ∙ ap (λ (q : List Body). q ++ t.yours.rest) (sym (append-nil (linked w s c)) ∙ ap (λ (v : Bool). linked w s c ++ cond v (w.you.layer.owed ++ owed_at (channel_of w.you.layer c)) []) (sym h.0)))
    ]

-- ---- a packet put last on the way may come

r1_of : (own : Bool) → is_r1 (phase_of own) ≡ not own
r1_of true = refl
r1_of false = refl

not_twice : (v : Bool) → v ≡ not (not v)
not_twice true = refl
not_twice false = refl

tied_push : (flow : Flow) (role : Role) (w : Line) (s c : ℕ) (ch : Channel) (keep : List Body) (b : Body) → Tied flow role w s c → w.me.session ≡ Some s → w.you.session ≡ Some s → w.me.layer.relink ≡ false → w.you.layer.relink ≡ false
    → channel_of w.me.layer c ≡ Some ch → FitsAt w.me.layer.phase ch → way w s c ≡ keep ++ b ∷ [] → ComesTo role w.me.layer.phase ch keep → ComesTo role w.me.layer.phase ch (keep ++ b ∷ [])
tied_push flow role w s c ch keep b t here there quiet_me quiet_you found f way_is h =
    let p = t.mine.present here in
    let is : ch ≡ shown (stored t.x) p.owed = some_same ch (shown (stored t.x) p.owed) (sym found ∙ p.channel_is) in
    let r1 : is_r1 w.me.layer.phase ≡ not t.x.own = ap (λ (ph : Phase). is_r1 ph) p.phase_is ∙ r1_of t.x.own in
    let link : List Body = on_c c (drop (w.you.accepted s) (w.me.offered s)) in
    let out : t.o ≡ (link ++ w.me.layer.owed) ++ p.owed = t.mine.out_is ∙ ap (λ (q : List Body). link ++ q) (p.rest_is quiet_me) ∙ sym (append_assoc link w.me.layer.owed p.owed) in
    let back : t.b ≡ keep ++ b ∷ [] = way_up flow role w s c t quiet_you there ∙ way_is in
    let good : GoodWhole flow role (record { me = t.x; you = t.y; out = (link ++ w.me.layer.owed) ++ p.owed; back = keep ++ b ∷ [] }) =
    subst (λ (q : List Body). GoodWhole flow role (record { me = t.x; you = t.y; out = (link ++ w.me.layer.owed) ++ p.owed; back = q })) back
    (subst (λ (q : List Body). GoodWhole flow role (record { me = t.x; you = t.y; out = q; back = t.b })) out t.good) in
    let fits : FitsIn (not t.x.own) (stored t.x).state (stored t.x).resetting p.owed =
    subst (λ (v : Bool). FitsIn v (stored t.x).state (stored t.x).resetting p.owed) r1 (subst (λ (q : Channel). FitsAt w.me.layer.phase q) is f) in
    let comes : AllCome role (not t.x.own) (stored t.x).state (stored t.x).resetting p.owed keep =
    subst (λ (v : Bool). AllCome role v (stored t.x).state (stored t.x).resetting p.owed keep) r1 (subst (λ (q : Channel). ComesTo role w.me.layer.phase q keep) is h) in
    let all = push flow role keep (not t.x.own) t.x t.y (link ++ w.me.layer.owed) p.owed b (not_twice t.x.own) good p.plain t.mine.settled t.yours.settled fits comes in
    subst (λ (q : Channel). ComesTo role w.me.layer.phase q (keep ++ b ∷ [])) (sym is)
    (subst (λ (v : Bool). AllCome role v (stored t.x).state (stored t.x).resetting p.owed (keep ++ b ∷ [])) (sym r1) all)

-- what is pushed is pushed in the session of its end
abbrev pub InSession : Option ℕ → ℕ → Option Body → Type 0
InSession o s None = Unit {0}
InSession o s (Some b) = o ≡ Some s

pub record Pushed (o : Option ℕ) (s : ℕ) (p q : List Body) : Type 0 where
  pub grown : Grown p q
  pub session : InSession o s grown.pushed

pushed_by : (flow : Flow) (role : Role) (w : Line) (s c : ℕ) (ch : Channel) (keep cut : List Body) (o : Option Body) → Tied flow role w s c → w.me.session ≡ Some s → w.me.layer.relink ≡ false → w.you.layer.relink ≡ false
    → channel_of w.me.layer c ≡ Some ch → FitsAt w.me.layer.phase ch → InSession w.you.session s o → way w s c ≡ keep ++ said o [] → ComesTo role w.me.layer.phase ch (keep ++ cut) → ComesTo role w.me.layer.phase ch (keep ++ said o [])
pushed_by flow role w s c ch keep cut None t here quiet_me quiet_you found f up way_is h =
    subst (λ (q : List Body). ComesTo role w.me.layer.phase ch q) (sym (append-nil keep)) (all_front role (is_r1 w.me.layer.phase) ch.state ch.resetting ch.owed keep cut h)
pushed_by flow role w s c ch keep cut (Some b) t here quiet_me quiet_you found f up way_is h =
    tied_push flow role w s c ch keep b t here up quiet_me quiet_you found f way_is (all_front role (is_r1 w.me.layer.phase) ch.state ch.resetting ch.owed keep cut h)

pub way_pushed : (flow : Flow) (role : Role) (w : Line) (s c : ℕ) (ch : Channel) (before : List Body) → Tied flow role w s c → w.me.session ≡ Some s → w.me.layer.relink ≡ false → w.you.layer.relink ≡ false
    → channel_of w.me.layer c ≡ Some ch → FitsAt w.me.layer.phase ch → Pushed w.you.session s before (way w s c) → ComesTo role w.me.layer.phase ch before → ComesTo role w.me.layer.phase ch (way w s c)
way_pushed flow role w s c ch before t here quiet_me quiet_you found f p h =
    let g = p.grown in
    subst (λ (q : List Body). ComesTo role w.me.layer.phase ch q) (sym g.after)
    (pushed_by flow role w s c ch g.keep g.cut g.pushed t here quiet_me quiet_you found f p.session g.after (subst (λ (q : List Body). ComesTo role w.me.layer.phase ch q) g.before h))

-- ---- an end that begins, to which nothing came of one that began

begun_none : (role : Role) (k : Kind) (t : Body) (ts : List Body) → Seen k false 0 0 t (λ j. []) (λ o i j. Walk restart_kind (λ q. []) 0 o i j ts) → ⊥
begun_none role Payload t ts h = let e = h.0 in absurd cc
begun_none role Request t ts h = let q = walk_reach restart_kind (λ j. []) 0 ts 1 0 h in let no : ⊥ = omega arith in no
begun_none role Confirmation t ts h = h

begun_after : (role : Role) (s : ChannelState) (rs : Bool) (o ts : List Body) → Walk restart_kind (λ j. []) 0 false 0 0 ts → AllCome role true s rs o ts
begun_after role s rs o [] h = tt
begun_after role s rs o (t ∷ ts) h = absurd (begun_none role (restart_kind t) t ts h)

begun_hears : (role : Role) (k : Kind) (s : ChannelState) (rs : Bool) (o : List Body) (t : Body) (ts : List Body) → (Walk restart_kind (λ j. []) 0 true 0 0 ts → AllCome role false s rs o ts)
    → Seen k true 0 0 t (λ j. []) (λ q i j. Walk restart_kind (λ z. []) 0 q i j ts) → Hears role k false s rs o t (λ q a v c. AllCome role q a v c ts)
begun_hears role Payload s rs o t ts f h = f h
begun_hears role Request s rs o t ts f h = begun_after role Ready false [] ts h
begun_hears role Confirmation s rs o t ts f h = begun_after role Ready false [] ts h

pub begun_comes : (role : Role) (s : ChannelState) (rs : Bool) (o ts : List Body) → Walk restart_kind (λ j. []) 0 true 0 0 ts → AllCome role false s rs o ts
begun_comes role s rs o [] h = tt
begun_comes role s rs o (t ∷ ts) h = begun_hears role (restart_kind t) s rs o t ts (λ q. begun_comes role s rs o ts q) h
