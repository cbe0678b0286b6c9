-- A packet layer has no packet for the link exactly if nothing that may go stays unsent.
use Rattle.std.proofs.Common.{◌≡◌, ℕ, zero, suc, ◌+◌, ◌-◌, ◌<◌, ◌≤◌, arith, ◌⊎◌, inl, inr, Bool, true, false, nat_le, if◌then◌else◌, List, [], ◌∷◌, length, Option, Some, None, is_some, refl, sym, ap, subst, ◌∙◌, true≢false}
use Rattle.std.specs.Prelude.{slice_get}
use Rattle.std.specs.Bool.{OnFalse}
use Rattle.std.proofs.lemmas.Bool.{cases_lt, lt-leb, leb-false}
use Rattle.std.proofs.lemmas.Option.{slice_get_within}
use Rattle.data_transfer.specs.Packets.{Body, Packet}
use Rattle.packet_channel.specs.Channel.{Channel, ChannelNext}
use Rattle.packet_channel.specs.Unsent.{ChannelHasSaidAll}
use Rattle.packet_channel.proofs.Unsent.{channel_said_all, channel_says_none}
use Rattle.packet_layer.specs.Layer.{Phase, Layer, Next, channel_of, next_of, next_number, packet_of, serve, serve_found, served, next_restart, next_in, next_packet}
use Rattle.packet_layer.specs.Layer.Phase.{NoSession, OwnRestart, PacketReady}
use Rattle.packet_layer.specs.Unsent.{MaySay, OwesNothing, LayerHasSaidAll}
use Rattle.packet_layer.proofs.Round.{or_else, whole_round, nothing_served}

-- ---- where nothing is served, no channel has anything

abbrev pub HasNone : Layer → Option Channel → Type 0
HasNone l None = Unit {0}
HasNone l (Some ch) = is_some (next_of l.flow ch).body ≡ false

or_none : (a b : Next) → is_some (or_else a b).packet ≡ false → (is_some a.packet ≡ false) × (is_some b.packet ≡ false)
or_none a b silent = by_first (is_some a.packet) refl
  where
    by_first : (first : Bool) → is_some a.packet ≡ first → (is_some a.packet ≡ false) × (is_some b.packet ≡ false)
    by_first true is =
        absurd (true≢false (sym is ∙ (ap (λ (v : Bool). is_some (if v then a else b).packet) (sym is) ∙ silent)))
    by_first false is = (is, ap (λ (v : Bool). is_some (if v then a else b).packet) (sym is) ∙ silent)

body_none : (l : Layer) (c : ℕ) (ch : Channel) (b : Option Body) (others : Next) →
    is_some (served l c (record { channel = ch; body = b }) others).packet ≡ false →
    (is_some b ≡ false) × (is_some others.packet ≡ false)
body_none l c ch None others silent = (refl, silent)
body_none l c ch (Some b) others silent = absurd (cc)

found_none : (l : Layer) (c : ℕ) (found : Option Channel) (others : Next) →
    is_some (serve_found l c found others).packet ≡ false → HasNone l found × (is_some others.packet ≡ false)
found_none l c None others silent = (tt, silent)
found_none l c (Some ch) others silent =
    body_none l c (next_of l.flow ch).channel (next_of l.flow ch).body others silent

run_silent : (k : ℕ) (l : Layer) (c i : ℕ) → is_some (serve k l c).packet ≡ false → i < k →
    c + i ≤ length l.channels → HasNone l (channel_of l (c + i))
run_silent zero l c i silent less within = absurd (omega arith)
run_silent (suc k) l c zero silent less within =
    let at : c ≡ c + 0 = omega arith in
    subst (λ (n : ℕ). HasNone l (channel_of l n)) at
    (found_none l c (channel_of l c) (serve k l (next_number l c)) silent).0
run_silent (suc k) l c (suc i) silent less within =
    let next : next_number l c ≡ suc c =
    ap (λ (b : Bool). if b then 1 else suc c) (lt-leb (length l.channels) c (omega arith)) in
    let at : suc c + i ≡ c + suc i = omega arith in
    subst (λ (n : ℕ). HasNone l (channel_of l n)) at
    (run_silent k l (suc c) i
    (ap (λ (n : ℕ). is_some (serve k l n).packet) (sym next)
    ∙ (found_none l c (channel_of l c) (serve k l (next_number l c)) silent).1)
    (omega arith) (omega arith))

-- the place at which a round begins
record BeginsAt (l : Layer) (c : ℕ) : Type 0 where
  place : ℕ
  is : place + 1 ≡ next_number l c
  most : place ≤ length l.channels

begins_at : (l : Layer) (c : ℕ) → BeginsAt l c
begins_at l c = by_wrap (nat_le (length l.channels) c) refl
  where
    by_wrap : (b : Bool) → nat_le (length l.channels) c ≡ b → BeginsAt l c
    by_wrap true e = record { place = 0; is = sym (ap (λ (b : Bool). if b then 1 else suc c) e); most = omega arith }
    by_wrap false e =
        let less = leb-false (length l.channels) c e in
        let one : c + 1 ≡ suc c = omega arith in
        record { place = c; is = one ∙ sym (ap (λ (b : Bool). if b then 1 else suc c) e); most = omega (arith, less) }

round_silent : (l : Layer) (i : ℕ) → i < length l.channels →
    is_some (serve (length l.channels) l (next_number l l.served_last)).packet ≡ false →
    HasNone l (slice_get l.channels i)
round_silent l i less silent = by_part (cases_lt i b.place)
  where
    b : BeginsAt l l.served_last
    b = begins_at l l.served_last

    both : (is_some (serve (length l.channels - b.place) l (b.place + 1)).packet ≡ false)
        × (is_some (serve b.place l 1).packet ≡ false)
    both =
        or_none (serve (length l.channels - b.place) l (b.place + 1)) (serve b.place l 1)
        (ap (λ (n : Next). is_some n.packet) (sym (whole_round l l.served_last b.place b.is b.most)) ∙ silent)

    by_part : (i < b.place) ⊎ (b.place ≤ i) → HasNone l (slice_get l.channels i)
    by_part (inl first) =
        let at : 1 + i ≡ suc i = omega arith in
        subst (λ (c : ℕ). HasNone l (channel_of l c)) at (run_silent b.place l 1 i both.1 first (omega arith))
    by_part (inr second) =
        let at : b.place + 1 + (i - b.place) ≡ suc i = omega arith in
        subst (λ (c : ℕ). HasNone l (channel_of l c)) at
        (run_silent (length l.channels - b.place) l (b.place + 1) (i - b.place) both.0 (omega arith) (omega arith))

pub each_silent : (l : Layer) (i : ℕ) (ch : Channel) → slice_get l.channels i ≡ Some ch →
    is_some (serve (length l.channels) l (next_number l l.served_last)).packet ≡ false →
    is_some (next_of l.flow ch).body ≡ false
each_silent l i ch there silent =
    subst (λ (o : Option Channel). HasNone l o) there
    (round_silent l i (slice_get_within l.channels i ch there) silent)

restart_none : (owed : List Body) (l : Layer) → l.owed ≡ owed → is_some (next_restart owed l).packet ≡ false →
    OwesNothing l
restart_none [] l is silent = record {
  restart = is;
  channels = λ i ch there. channel_said_all l.flow ch (each_silent l i ch there silent);
}
restart_none (b ∷ bs) l is silent = absurd (cc)

in_none : (phase : Phase) (relink : Bool) (l : Layer) → l.phase ≡ phase → l.relink ≡ relink →
    is_some (next_in phase relink l).packet ≡ false → LayerHasSaidAll l
in_none NoSession relink l at is silent = λ may. absurd (may.session at)
in_none OwnRestart true l at is silent = λ may. absurd (true≢false (sym is ∙ may.kept))
in_none OwnRestart false l at is silent = λ may. restart_none l.owed l refl silent
in_none PacketReady true l at is silent = λ may. absurd (true≢false (sym is ∙ may.kept))
in_none PacketReady false l at is silent = λ may. restart_none l.owed l refl silent

pub layer_said_all : (l : Layer) → is_some (next_packet l).packet ≡ false → LayerHasSaidAll l
layer_said_all l silent = in_none l.phase l.relink l refl refl silent

-- ---- and it stays as it is

restart_same : (owed : List Body) (l : Layer) → is_some (next_restart owed l).packet ≡ false →
    (next_restart owed l).layer ≡ l
restart_same (b ∷ bs) l silent = absurd (cc)
restart_same [] l silent =
    ap (λ (n : Next). n.layer) (nothing_served (length l.channels) l (next_number l l.served_last) silent)

in_same : (phase : Phase) (relink : Bool) (l : Layer) → is_some (next_in phase relink l).packet ≡ false →
    (next_in phase relink l).layer ≡ l
in_same NoSession relink l silent = refl
in_same OwnRestart true l silent = refl
in_same OwnRestart false l silent = restart_same l.owed l silent
in_same PacketReady true l silent = refl
in_same PacketReady false l silent = restart_same l.owed l silent

pub next_none : (l : Layer) → is_some (next_packet l).packet ≡ false → (next_packet l).layer ≡ l
next_none l silent = in_same l.phase l.relink l silent

-- so what is told of the layer after it was asked
pub unsent_after : (l m : Layer) (said : Bool) → m ≡ (next_packet l).layer → said ≡ is_some (next_packet l).packet →
    OnFalse said (LayerHasSaidAll m)
unsent_after l m true after is = tt
unsent_after l m false after is =
    subst (λ (x : Layer). LayerHasSaidAll x) (sym (after ∙ next_none l (sym is))) (layer_said_all l (sym is))

-- ---- and back

no_body : (l : Layer) (c : ℕ) (ch : Channel) (b : Option Body) (others : Next) → b ≡ None → others.packet ≡ None →
    (served l c (record { channel = ch; body = b }) others).packet ≡ None
no_body l c ch None others none rest = rest
no_body l c ch (Some b) others none rest = absurd (cc)

none_found : (l : Layer) (c : ℕ) (found : Option Channel) (others : Next) → channel_of l c ≡ found → OwesNothing l →
    others.packet ≡ None → (serve_found l c found others).packet ≡ None
none_found l c None others there h rest = rest
none_found l zero (Some ch) others there h rest = absurd (cc)
none_found l (suc i) (Some ch) others there h rest =
    no_body l (suc i) (next_of l.flow ch).channel (next_of l.flow ch).body others
    (channel_says_none l.flow ch (h.channels i ch there)) rest

none_served : (k : ℕ) (l : Layer) (c : ℕ) → OwesNothing l → (serve k l c).packet ≡ None
none_served zero l c h = refl
none_served (suc k) l c h =
    none_found l c (channel_of l c) (serve k l (next_number l c)) refl h (none_served k l (next_number l c) h)

none_owed : (l : Layer) → OwesNothing l → (next_restart l.owed l).packet ≡ None
none_owed l all =
    ap (λ (owed : List Body). (next_restart owed l).packet) all.restart
    ∙ none_served (length l.channels) l (next_number l l.served_last) all

none_in : (phase : Phase) (relink : Bool) (l : Layer) → l.phase ≡ phase → l.relink ≡ relink → LayerHasSaidAll l →
    (next_in phase relink l).packet ≡ None
none_in NoSession relink l at is h = refl
none_in OwnRestart true l at is h = refl
none_in OwnRestart false l at is h = none_owed l (h (record { session = λ none. absurd (cc); kept = is }))
none_in PacketReady true l at is h = refl
none_in PacketReady false l at is h = none_owed l (h (record { session = λ none. absurd (cc); kept = is }))

pub layer_says_none : (l : Layer) → LayerHasSaidAll l → (next_packet l).packet ≡ None
layer_says_none l h = none_in l.phase l.relink l refl refl h
