-- A line, seen on one channel in one session: how its two layers, what they handed to the link and their histories go with the channel's
-- handshakes.
use Rattle.std.proofs.Common.{◌≡◌, ℕ, zero, suc, ◌<◌, ◌≤◌, Bool, true, false, cond, ◌||◌, ◌==◌, List, [], ◌∷◌, ◌++◌, length, map, set, slice_get, drop, Option, Some, None, refl, sym, ap, subst, ◌∙◌, append_assoc, true≢false, inl, inr}
use Rattle.std.proofs.lemmas.Bool.{eq-eqb, cases_eq}
use Rattle.link_timers.specs.declared.role.Role.{Role}
use Rattle.link_timers.specs.Role.{other_of}
use Rattle.data_transfer.specs.declared.flow.Flow.{Flow}
use Rattle.data_transfer.specs.Packets.{Body, Packet}
use Rattle.data_transfer.specs.Packets.Body.{Restart, RestartConfirmation}
use Rattle.packet_channel.specs.Channel.{Channel}
use Rattle.packet_layer.specs.Layer.{Layer, nth_channel, channel_of, with_nth, with_owed, passes_limit, is_full, set_if}
use Rattle.packet_laws.specs.History.{History}
use Rattle.packet_laws.specs.LayerLine.{End, Line}
use Rattle.packet_laws.proofs.Handshakes.Handshake.{said, AllPayload, SaysPayload}
use Rattle.packet_laws.proofs.Call.Levels.{restart_kind, Whole, begun_whole, GoodWhole}
use Rattle.packet_laws.proofs.Line.Stored.{stored, phase_of, shown, Settled, Frozen, HistoryTie}

-- ---- the packets of a channel, restart packets among them

abbrev pub belongs : ℕ → Packet → Bool
belongs c p = (p.channel == 0) || (p.channel == c)

abbrev pub on_c : ℕ → List Packet → List Body
on_c c [] = []
on_c c (p ∷ ps) = cond (belongs c p) (p.body ∷ on_c c ps) (on_c c ps)

abbrev pub IsRestart : Body → Type 0
IsRestart (Restart cause diagnostic) = Unit {0}
IsRestart RestartConfirmation = Unit {0}
IsRestart _ = ⊥

abbrev pub AllRestart : List Body → Type 0
AllRestart [] = Unit {0}
AllRestart (b ∷ bs) = IsRestart b × AllRestart bs

abbrev pub WellOf : Bool → Bool → Body → Type 0
WellOf true here b = IsRestart b
WellOf false true b = restart_kind b ≡ Rattle.packet_laws.proofs.Handshakes.Handshake.Kind.Payload
WellOf false false b = Unit {0}

abbrev pub Well : ℕ → Packet → Type 0
Well c p = WellOf (p.channel == 0) (p.channel == c) p.body

abbrev pub AllWell : ℕ → List Packet → Type 0
AllWell c [] = Unit {0}
AllWell c (p ∷ ps) = Well c p × AllWell c ps

-- ---- the ties

-- in the present session
pub record Present (l : Layer) (c : ℕ) (n : Whole) (rest : List Body) : Type 0 where
  pub phase_is : l.phase ≡ phase_of n.own
  pub owed : List Body
  pub channel_is : channel_of l c ≡ Some (shown (stored n) owed)
  pub plain : AllPayload restart_kind owed
  pub restarts : AllRestart l.owed
  pub rest_is : l.relink ≡ false → rest ≡ l.owed ++ owed

abbrev pub There : Layer → ℕ → Type 0
There l c = (ch : Channel) × (channel_of l c ≡ Some ch)

pub record EndTie (flow : Flow) (role : Role) (e : End) (a s c : ℕ) (n : Whole) (o : List Body) : Type 0 where
  pub role_is : e.layer.role ≡ role
  pub window_is : e.layer.flow ≡ flow
  pub there : There e.layer c
  pub rest : List Body
  pub out_is : o ≡ on_c c (drop a (e.offered s)) ++ rest
  pub well : AllWell c (e.offered s)
  pub within : a ≤ length (e.offered s)
  pub history : HistoryTie n (e.histories s c)
  pub settled : Settled n
  pub frozen : Frozen n
  pub present : e.session ≡ Some s → Present e.layer c n rest
  pub still : 0 < s → e.accepted s ≡ 0 → n ≡ begun_whole

pub record Tied (flow : Flow) (role : Role) (w : Line) (s c : ℕ) : Type 0 where
  pub x : Whole
  pub y : Whole
  pub o : List Body
  pub b : List Body
  pub good : GoodWhole flow role (record { me = x; you = y; out = o; back = b })
  pub mine : EndTie flow role w.me (w.you.accepted s) s c x o
  pub yours : EndTie flow (other_of role) w.you (w.me.accepted s) s c y b

-- ---- channels by number

set_same : (chs : List Channel) (i : ℕ) (ch ch' : Channel) → slice_get chs i ≡ Some ch → slice_get (set chs i ch') i ≡ Some ch'
set_same [] i ch ch' e = absurd cc
set_same (x ∷ chs) zero ch ch' e = refl
set_same (x ∷ chs) (suc i) ch ch' e = set_same chs i ch ch' e

set_other : (chs : List Channel) (i j : ℕ) (ch' : Channel) → (i ≡ j → ⊥) → slice_get (set chs j ch') i ≡ slice_get chs i
set_other [] i j ch' ne = refl
set_other (x ∷ chs) zero zero ch' ne = absurd (ne refl)
set_other (x ∷ chs) zero (suc j) ch' ne = refl
set_other (x ∷ chs) (suc i) zero ch' ne = refl
set_other (x ∷ chs) (suc i) (suc j) ch' ne = set_other chs i j ch' (λ e. ne (ap suc e))

pub nth_same : (chs : List Channel) (c : ℕ) (ch ch' : Channel) → nth_channel chs c ≡ Some ch → nth_channel (with_nth chs c ch') c ≡ Some ch'
nth_same chs zero ch ch' e = absurd cc
nth_same chs (suc i) ch ch' e = set_same chs i ch ch' e

pub nth_other : (chs : List Channel) (c d : ℕ) (ch' : Channel) → (c ≡ d → ⊥) → nth_channel (with_nth chs d ch') c ≡ nth_channel chs c
nth_other chs zero d ch' ne = refl
nth_other chs (suc i) zero ch' ne = refl
nth_other chs (suc i) (suc j) ch' ne = set_other chs i j ch' (λ e. ne (ap suc e))

pub nth_there : (chs : List Channel) (c d : ℕ) (ch' : Channel) → (ch : Channel) × (nth_channel chs c ≡ Some ch) → (ch : Channel) × (nth_channel (with_nth chs d ch') c ≡ Some ch)
nth_there chs c d ch' t =
    elim (cases_eq c d) [
      | inl e ↦ (ch', subst (λ (k : ℕ). nth_channel (with_nth chs k ch') c ≡ Some ch') e (nth_same chs c t.0 ch' t.1))
      | inr ne ↦ (t.0, nth_other chs c d ch' ne ∙ t.1)
    ]

slice_map : (chs : List Channel) (i : ℕ) (ch ch' : Channel) → slice_get chs i ≡ Some ch → slice_get (map (λ q. ch') chs) i ≡ Some ch'
slice_map [] i ch ch' e = absurd cc
slice_map (x ∷ chs) zero ch ch' e = refl
slice_map (x ∷ chs) (suc i) ch ch' e = slice_map chs i ch ch' e

pub nth_map : (chs : List Channel) (c : ℕ) (ch ch' : Channel) → nth_channel chs c ≡ Some ch → nth_channel (map (λ q. ch') chs) c ≡ Some ch'
nth_map chs zero ch ch' e = absurd cc
nth_map chs (suc i) ch ch' e = slice_map chs i ch ch' e

-- ---- what is owed

pub set_if_false : (b old : Bool) → set_if b old ≡ false → (b ≡ false) × (old ≡ false)
set_if_false true old e = absurd (true≢false e)
set_if_false false old e = (refl, e)

owed_some : (full : Bool) (owed : List Body) (b : Body) → full ≡ false → cond full owed (owed ++ b ∷ []) ≡ owed ++ b ∷ []
owed_some true owed b e = absurd (true≢false e)
owed_some false owed b e = refl

pub owed_said : (owed : List Body) (o : Option Body) → passes_limit owed o ≡ false → with_owed owed o ≡ said o owed
owed_said owed None e = refl
owed_said owed (Some b) e = owed_some (is_full owed) owed b e

pub said_append : (xs ys : List Body) (o : Option Body) → said o (xs ++ ys) ≡ xs ++ said o ys
said_append xs ys None = refl
said_append xs ys (Some b) = append_assoc xs ys (b ∷ [])

pub payload_append : (xs : List Body) (b : Body) → AllPayload restart_kind xs → restart_kind b ≡ Rattle.packet_laws.proofs.Handshakes.Handshake.Kind.Payload → AllPayload restart_kind (xs ++ b ∷ [])
payload_append [] b a e = (e, tt)
payload_append (x ∷ xs) b a e = (a.0, payload_append xs b a.1 e)

owed_payload_at : (full : Bool) (owed : List Body) (b : Body) → AllPayload restart_kind owed → restart_kind b ≡ Rattle.packet_laws.proofs.Handshakes.Handshake.Kind.Payload → AllPayload restart_kind (cond full owed (owed ++ b ∷ []))
owed_payload_at true owed b a e = a
owed_payload_at false owed b a e = payload_append owed b a e

pub owed_payload : (owed : List Body) (o : Option Body) → AllPayload restart_kind owed → SaysPayload restart_kind o → AllPayload restart_kind (with_owed owed o)
owed_payload owed None a e = a
owed_payload owed (Some b) a e = owed_payload_at (is_full owed) owed b a e

restart_append : (xs : List Body) (b : Body) → AllRestart xs → IsRestart b → AllRestart (xs ++ b ∷ [])
restart_append [] b a e = (e, tt)
restart_append (x ∷ xs) b a e = (a.0, restart_append xs b a.1 e)

owed_restart_at : (full : Bool) (owed : List Body) (b : Body) → AllRestart owed → IsRestart b → AllRestart (cond full owed (owed ++ b ∷ []))
owed_restart_at true owed b a e = a
owed_restart_at false owed b a e = restart_append owed b a e

pub owed_restart : (owed : List Body) (b : Body) → AllRestart owed → IsRestart b → AllRestart (with_owed owed (Some b))
owed_restart owed b a e = owed_restart_at (is_full owed) owed b a e

-- ---- an event of the layer alone: what it makes of the channel in the present session

pub record Outcome (flow : Flow) (role : Role) (x y : Whole) (link b : List Body) (l : Layer) (c : ℕ) (f : History → History) : Type 0 where
  pub next : Whole
  pub rest : List Body
  pub good : GoodWhole flow role (record { me = next; you = y; out = link ++ rest; back = b })
  pub settled : Settled next
  pub frozen : Frozen x → Frozen next
  pub history : (st : History) → HistoryTie x st → HistoryTie next (f st)
  pub present : Present l c next rest
  pub still : x ≡ begun_whole → next ≡ begun_whole

pub session_other : (s k : ℕ) → (s == k) ≡ false → Some k ≡ Some s → ⊥
session_other s k e h =
    let num : Option ℕ → ℕ = λ o. elim o [ Some v ↦ v | None ↦ 0 ] in
    let same : k ≡ s = ap num h in
    absurd (true≢false (sym (eq-eqb s k (sym same)) ∙ e))

pub none_some : {X : Type 0} → (s : ℕ) → None ≡ Some s → X
none_some s e = absurd cc

-- an end of which nothing of this channel and session changed
pub end_again : (flow : Flow) (role : Role) (e e' : End) (a s c : ℕ) (n : Whole) (o : List Body)
    → e'.layer.role ≡ e.layer.role → e'.layer.flow ≡ e.layer.flow → There e'.layer c → e'.offered s ≡ e.offered s → e'.histories s c ≡ e.histories s c → e'.accepted s ≡ e.accepted s
    → ((rest : List Body) → (e.session ≡ Some s → Present e.layer c n rest) → e'.session ≡ Some s → Present e'.layer c n rest)
    → EndTie flow role e a s c n o → EndTie flow role e' a s c n o
end_again flow role e e' a s c n o role_same window_same there off st acc present t = record {
  role_is = role_same ∙ t.role_is;
  window_is = window_same ∙ t.window_is;
  there = there;
  rest = t.rest;
  out_is = t.out_is ∙ ap (λ (l : List Packet). on_c c (drop a l) ++ t.rest) (sym off);
  well = subst (λ (l : List Packet). AllWell c l) (sym off) t.well;
  within = subst (λ (l : List Packet). a ≤ length l) (sym off) t.within;
  history = subst (λ (z : History). HistoryTie n z) (sym st) t.history;
  settled = t.settled;
  frozen = t.frozen;
  present = present t.rest t.present;
  still = λ lt h. t.still lt (sym acc ∙ h);
}
