-- The round over the channels: what is served where those of some run have nothing, and where the round ends and begins
-- anew.
use Rattle.std.proofs.Common.{◌≡◌, ℕ, zero, suc, ◌+◌, ◌-◌, ◌<◌, ◌≤◌, Bool, true, false, List, [], ◌∷◌, length, ◌⊎◌, inl, inr}
use Rattle.std.proofs.Common.{refl, sym, ap, ap₂, ◌∙◌, arith}
use Rattle.std.specs.Prelude.{Option, Some, None, is_some, if◌then◌else◌, nat_lt, not, ◌&&◌, ◌==◌}
use Rattle.std.proofs.lemmas.Bool.{le-leb, lt-leb, cases_lt, ltb-true, ltb-false, lt-ltb, le-ltb}
use Rattle.number_set.specs.NumberSet.{has, IsFirstOf}
use Rattle.number_set.specs.declared.NumberSet.{NumberSet}
use Rattle.data_transfer.specs.Packets.{Body}
use Rattle.packet_channel.specs.Channel.{Channel}
use Rattle.packet_layer.specs.Layer.{Layer, Next, Phase, channel_of, next_of, next_number, serve, serve_found, served}
use Rattle.packet_layer.specs.Layer.{next_restart, next_in, next_packet}
use Rattle.packet_layer.specs.Silence.{OthersAreSilent}
use Rattle.std.specs.Bool.{OnTrue}
use Rattle.std.proofs.lemmas.List.{length-map}
use Rattle.packet_layer.specs.LayerView.{IsLayer, layer_of}
use Rattle.packet_layer.specs.RestartView.{restart_body}
use Rattle.packet_layer.specs.declared.layer.Layer.TheInside.{Inside}
use Rattle.packet_layer.proofs.Serving.{nothing, goes_on_from, stops_from}
use Rattle.packet_layer.proofs.Silence.{silent_there, taken_out, equal}

-- what is served of one part of the round, or where that is nothing, of another part
abbrev pub or_else : Next → Next → Next
or_else a b = if is_some a.packet then a else b

body_or : (l : Layer) (c : ℕ) (ch : Channel) (b : Option Body) (n m : Next) →
    served l c (record { channel = ch; body = b }) (or_else n m)
    ≡ or_else (served l c (record { channel = ch; body = b }) n) m
body_or l c ch None n m = refl
body_or l c ch (Some b) n m = refl

found_or : (l : Layer) (c : ℕ) (found : Option Channel) (n m : Next) →
    serve_found l c found (or_else n m) ≡ or_else (serve_found l c found n) m
found_or l c None n m = refl
found_or l c (Some ch) n m = body_or l c (next_of l.flow ch).channel (next_of l.flow ch).body n m

last_is : (l : Layer) (c : ℕ) → length l.channels ≡ c → next_number l c ≡ 1
last_is l c e = ap (λ (b : Bool). if b then 1 else suc c) (le-leb (length l.channels) c (omega (arith, e)))

not_last : (l : Layer) (c : ℕ) → c < length l.channels → next_number l c ≡ suc c
not_last l c h = ap (λ (b : Bool). if b then 1 else suc c) (lt-leb (length l.channels) c h)

at_first : (l : Layer) (c : ℕ) → is_some (serve 1 l (c + 0)).packet ≡ false → is_some (serve 1 l c).packet ≡ false
at_first l c h =
    let at : c ≡ c + 0 = omega arith in
    ap (λ (n : ℕ). is_some (serve 1 l n).packet) at ∙ h

moved : (l : Layer) (c i : ℕ) → is_some (serve 1 l (c + suc i)).packet ≡ false →
    is_some (serve 1 l (suc c + i)).packet ≡ false
moved l c i h =
    let at : suc c + i ≡ c + suc i = omega arith in
    ap (λ (n : ℕ). is_some (serve 1 l n).packet) at ∙ h

-- behind the last channel the round goes on with channel 1
turns : (total m k c : ℕ) (l : Layer) → total ≡ m + 1 + k → c + m ≡ length l.channels →
    serve total l c ≡ or_else (serve (suc m) l c) (serve k l 1)
turns zero m k c l sum e = absurd (omega arith)
turns (suc t) zero k c l sum e =
    let same : t ≡ k = omega arith in
    let next = last_is l c (omega (arith, e)) in
    ap (λ (n : ℕ). serve_found l c (channel_of l c) (serve n l (next_number l c))) same
    ∙ ap (λ (n : ℕ). serve_found l c (channel_of l c) (serve k l n)) next
    ∙ found_or l c (channel_of l c) (nothing l) (serve k l 1)
turns (suc t) (suc m) k c l sum e =
    let next = not_last l c (omega arith) in
    ap (λ (n : ℕ). serve_found l c (channel_of l c) (serve t l n)) next
    ∙ ap (λ (n : Next). serve_found l c (channel_of l c) n) (turns t m k (suc c) l (omega arith) (omega arith))
    ∙ found_or l c (channel_of l c) (serve (suc m) l (suc c)) (serve k l 1)
    ∙ ap (λ (n : ℕ). or_else (serve_found l c (channel_of l c) (serve (suc m) l n)) (serve k l 1)) (sym next)

-- the whole round, from the channel at a place on
from_within : (l : Layer) (place : ℕ) → place < length l.channels →
    serve (length l.channels) l (place + 1) ≡ or_else (serve (length l.channels - place) l (place + 1)) (serve place l 1)
from_within l place h =
    let count : length l.channels - place ≡ suc (length l.channels - place - 1) = omega arith in
    turns (length l.channels) (length l.channels - place - 1) place (place + 1) l (omega arith) (omega arith)
    ∙ ap (λ (n : ℕ). or_else (serve n l (place + 1)) (serve place l 1)) (sym count)

from_none : (l : Layer) (n place : ℕ) → n ≡ 0 → place ≡ 0 →
    serve n l (place + 1) ≡ or_else (serve (n - place) l (place + 1)) (serve place l 1)
from_none l n place none first =
    ap (λ (n : ℕ). serve n l (place + 1)) none
    ∙ sym (ap₂ (λ (n k : ℕ). or_else (serve (n - k) l (place + 1)) (serve k l 1)) none first)

next_within : (l : Layer) (c : ℕ) → 0 < length l.channels → next_number l c ≤ length l.channels
next_within l c some = go (cases_lt c (length l.channels))
  where
    go : (c < length l.channels) ⊎ (length l.channels ≤ c) → next_number l c ≤ length l.channels
    go (inl less) = let next = not_last l c less in omega (arith, next)
    go (inr most) =
        let next : next_number l c ≡ 1 =
        ap (λ (b : Bool). if b then 1 else suc c) (le-leb (length l.channels) c most) in
        omega (arith, next)

pub whole_round : (l : Layer) (c place : ℕ) → place + 1 ≡ next_number l c → place ≤ length l.channels →
    serve (length l.channels) l (next_number l c)
    ≡ or_else (serve (length l.channels - place) l (place + 1)) (serve place l 1)
whole_round l c place is most =
    ap (λ (n : ℕ). serve (length l.channels) l n) (sym is) ∙ go (cases_lt place (length l.channels))
  where
    go : (place < length l.channels) ⊎ (length l.channels ≤ place) →
        serve (length l.channels) l (place + 1)
        ≡ or_else (serve (length l.channels - place) l (place + 1)) (serve place l 1)
    go (inl less) = from_within l place less
    go (inr all) = none_or_some (length l.channels) refl
      where
        none_or_some : (n : ℕ) → length l.channels ≡ n →
            serve (length l.channels) l (place + 1)
            ≡ or_else (serve (length l.channels - place) l (place + 1)) (serve place l 1)
        none_or_some zero e = from_none l (length l.channels) place e (omega (arith, e))
        none_or_some (suc n) e = absurd (let next = next_within l c (omega (arith, e)) in omega (arith, e, next))

-- a run of channels that have nothing is passed over
pub passes_run : (total m rest c : ℕ) (l : Layer) → total ≡ m + rest → c + total ≤ length l.channels + 1 →
    ((i : ℕ) → i < m → is_some (serve 1 l (c + i)).packet ≡ false) → serve total l c ≡ serve rest l (c + m)
passes_run total zero rest c l sum within silent =
    let count : total ≡ rest = omega arith in
    let at : c ≡ c + 0 = omega arith in
    ap₂ (λ (n d : ℕ). serve n l d) count at
passes_run zero (suc m) rest c l sum within silent = absurd (omega arith)
passes_run (suc zero) (suc m) rest c l sum within silent =
    let left : rest ≡ 0 = omega arith in
    goes_on_from 1 0 l c refl (at_first l c (silent 0 (omega arith)))
    ∙ ap (λ (n : ℕ). serve n l (c + suc m)) (sym left)
passes_run (suc (suc t)) (suc m) rest c l sum within silent =
    let next = not_last l c (omega arith) in
    let at : suc c + m ≡ c + suc m = omega arith in
    goes_on_from (suc (suc t)) (suc t) l c refl (at_first l c (silent 0 (omega arith)))
    ∙ ap (λ (n : ℕ). serve (suc t) l n) next
    ∙ passes_run (suc t) m rest (suc c) l (omega arith) (omega arith)
    (λ i less. moved l c i (silent (suc i) (omega arith)))
    ∙ ap (λ (n : ℕ). serve rest l n) at

-- ---- the places between two that are left to be looked at: the others have nothing

pub record ArePassed (l : Layer) (first end : ℕ) (places : NumberSet) : Type 0 where
  pub among : (p : ℕ) → has places p ≡ true → (first ≤ p) × (p < end)
  pub silent : (p : ℕ) → first ≤ p → p < end → has places p ≡ false → is_some (serve 1 l (p + 1)).packet ≡ false

both_hold : (a b : Bool) → (a && b) ≡ true → (a ≡ true) × (b ≡ true)
both_hold true b h = (refl, h)
both_hold false b h = absurd (cc)

not_true : (b : Bool) → not b ≡ true → b ≡ false
not_true true h = absurd (cc)
not_true false h = refl

and_true : (b : Bool) → (b && true) ≡ b
and_true true = refl
and_true false = refl

pub none_passed : (l : Layer) (first end : ℕ) (all places : NumberSet) → OthersAreSilent l.flow all l.channels →
    ((n : ℕ) → has places n ≡ (has all n && (not (nat_lt n first) && nat_lt n end))) → ArePassed l first end places
none_passed l first end all places others is = record {
  among = λ p there.
      let parts = both_hold (has all p) (not (nat_lt p first) && nat_lt p end) (sym (is p) ∙ there) in
      let range = both_hold (not (nat_lt p first)) (nat_lt p end) parts.1 in
      (ltb-false p first (not_true (nat_lt p first) range.0), ltb-true p end range.1);
  silent = λ p least less out.
      silent_there l all p others
      (sym (ap₂ (λ (a b : Bool). has all p && (not a && b)) (le-ltb p first least) (lt-ltb p end less)
      ∙ and_true (has all p)) ∙ sym (is p) ∙ out);
}

-- one more place is passed
pub one_passed : (l : Layer) (first end place : ℕ) (places rest : NumberSet) → ArePassed l first end places →
    IsFirstOf places place rest → is_some (serve 1 l (place + 1)).packet ≡ false → ArePassed l first end rest
one_passed l first end place places rest passed is_first silent = record {
  among = λ p there.
      passed.among p (both_hold (has places p) (not (p == place)) (sym (is_first.others p) ∙ there)).0;
  silent = λ p least less out. by_place p least less (taken_out (has places p) (p == place)
      (sym (is_first.others p) ∙ out));
}
  where
    by_place : (p : ℕ) → first ≤ p → p < end → ((p == place) ≡ true) ⊎ (has places p ≡ false) →
        is_some (serve 1 l (p + 1)).packet ≡ false
    by_place p least less (inl here) =
        ap (λ (n : ℕ). is_some (serve 1 l (n + 1)).packet) (equal p place here) ∙ silent
    by_place p least less (inr out) = passed.silent p least less out

-- the first of them that has something is served
pub serves_first : (l : Layer) (first end place : ℕ) (places rest : NumberSet) → end ≤ length l.channels →
    ArePassed l first end places → IsFirstOf places place rest → is_some (serve 1 l (place + 1)).packet ≡ true →
    serve (end - first) l (first + 1) ≡ serve 1 l (place + 1)
serves_first l first end place places rest within passed is_first says =
    let range = passed.among place is_first.there in
    let at : first + 1 + (place - first) ≡ place + 1 = omega (arith, range.0) in
    passes_run (end - first) (place - first) (end - place) (first + 1) l (omega (arith, range)) (omega (arith, range))
    (λ i less. below i less range.0 range.1)
    ∙ ap (λ (n : ℕ). serve (end - place) l n) at
    ∙ stops_from (end - place) l (place + 1) (omega (arith, range.1)) says
  where
    below : (i : ℕ) → i < place - first → first ≤ place → place < end →
        is_some (serve 1 l (first + 1 + i)).packet ≡ false
    below i less least most =
        let at : first + 1 + i ≡ first + i + 1 = omega arith in
        ap (λ (n : ℕ). is_some (serve 1 l n).packet) at
        ∙ passed.silent (first + i) (omega arith) (omega arith) (is_first.first (first + i) (omega arith))

-- where none is left, none has anything
pub serves_none : (l : Layer) (first end : ℕ) (places : NumberSet) → first ≤ end → end ≤ length l.channels →
    ArePassed l first end places → ((n : ℕ) → has places n ≡ false) → serve (end - first) l (first + 1) ≡ nothing l
serves_none l first end places order within passed none =
    passes_run (end - first) (end - first) 0 (first + 1) l (omega arith) (omega arith)
    (λ i less. below i less)
  where
    below : (i : ℕ) → i < end - first → is_some (serve 1 l (first + 1 + i)).packet ≡ false
    below i less =
        let at : first + 1 + i ≡ first + i + 1 = omega arith in
        ap (λ (n : ℕ). is_some (serve 1 l n).packet) at
        ∙ passed.silent (first + i) (omega arith) (omega arith) (none (first + i))

-- where nothing is served, all is as before
body_silent : (l : Layer) (c : ℕ) (ch : Channel) (b : Option Body) (n : Next) →
    is_some (served l c (record { channel = ch; body = b }) n).packet ≡ false →
    served l c (record { channel = ch; body = b }) n ≡ n
body_silent l c ch None n h = refl
body_silent l c ch (Some b) n h = absurd (cc)

found_silent : (l : Layer) (c : ℕ) (found : Option Channel) (n : Next) →
    is_some (serve_found l c found n).packet ≡ false → serve_found l c found n ≡ n
found_silent l c None n h = refl
found_silent l c (Some ch) n h = body_silent l c (next_of l.flow ch).channel (next_of l.flow ch).body n h

pub nothing_served : (k : ℕ) (l : Layer) (c : ℕ) → is_some (serve k l c).packet ≡ false → serve k l c ≡ nothing l
nothing_served zero l c h = refl
nothing_served (suc k) l c h =
    let same = found_silent l c (channel_of l c) (serve k l (next_number l c)) h in
    same ∙ nothing_served k l (next_number l c) (ap (λ (n : Next). is_some n.packet) (sym same) ∙ h)

-- a part of the round that serves is served first, and after one that does not the other part is
pub or_else_first : (a b : Next) → is_some a.packet ≡ true → or_else a b ≡ a
or_else_first a b h = ap (λ (t : Bool). if t then a else b) h

pub or_else_second : (a b : Next) → is_some a.packet ≡ false → or_else a b ≡ b
or_else_second a b h = ap (λ (t : Bool). if t then a else b) h

pub less_none : (n : ℕ) → n ≡ n - 0
less_none n = omega arith

-- ---- where the set is empty nothing goes to the link

each_silent : (l : Layer) (s : NumberSet) (c : ℕ) → OthersAreSilent l.flow s l.channels →
    ((n : ℕ) → has s n ≡ false) → is_some (serve 1 l c).packet ≡ false
each_silent l s zero others none = refl
each_silent l s (suc p) others none =
    let at : suc p ≡ p + 1 = omega arith in
    ap (λ (n : ℕ). is_some (serve 1 l n).packet) at ∙ silent_there l s p others (none p)

all_silent : (k : ℕ) (l : Layer) (s : NumberSet) (c : ℕ) → OthersAreSilent l.flow s l.channels →
    ((n : ℕ) → has s n ≡ false) → is_some (serve k l c).packet ≡ false
all_silent zero l s c others none = refl
all_silent (suc k) l s c others none =
    ap (λ (n : Next). is_some n.packet) (goes_on_from (suc k) k l c refl (each_silent l s c others none))
    ∙ all_silent k l s (next_number l c) others none

none_owed : (l : Layer) (s : NumberSet) (owed : List Body) → length owed ≡ 0 → OthersAreSilent l.flow s l.channels →
    ((n : ℕ) → has s n ≡ false) → is_some (next_restart owed l).packet ≡ false
none_owed l s [] none_left others none = all_silent (length l.channels) l s (next_number l l.served_last) others none
none_owed l s (b ∷ bs) none_left others none = absurd (omega (arith, none_left))

pub silent_layer : (l : Layer) (s : NumberSet) → length l.owed ≡ 0 → OthersAreSilent l.flow s l.channels →
    ((n : ℕ) → has s n ≡ false) → is_some (next_packet l).packet ≡ false
silent_layer l s none_left others none = by_phase l.phase l.relink
  where
    by_phase : (phase : Phase) (relink : Bool) → is_some (next_in phase relink l).packet ≡ false
    by_phase Phase.NoSession relink = refl
    by_phase Phase.OwnRestart true = refl
    by_phase Phase.OwnRestart false = none_owed l s l.owed none_left others none
    by_phase Phase.PacketReady true = refl
    by_phase Phase.PacketReady false = none_owed l s l.owed none_left others none

pub silent_where_empty : (a : Inside) (empty : Bool) → IsLayer a → ((n : ℕ) → has a.to_serve n ≡ false) →
    empty ≡ (length a.owed == 0) → OnTrue empty (is_some (next_packet (layer_of a)).packet ≡ false)
silent_where_empty a true is none e =
    silent_layer (layer_of a) a.to_serve (length-map a.owed restart_body ∙ equal (length a.owed) 0 (sym e)) is.others none
silent_where_empty a false is none e = tt
