-- A channel at one end, apart from its traffic: its state, whether a reset is unconfirmed, and the control packets that it owes. Which
-- packets may come to it, given what it owes; and of what form that is.
use Rattle.std.proofs.Common.{◌≡◌, ℕ, ◌+◌, ◌≤◌, ◌⊎◌, Bool, true, false, List, [], ◌∷◌, ◌++◌, length, refl, ap, arith, ◌||◌, true≢false, inl, inr, length-append}
use Rattle.link_timers.specs.declared.role.Role.{Role}
use Rattle.link_timers.specs.declared.role.Role.TheVariants.{Dte, Dce}
use Rattle.data_transfer.specs.Packets.{Body}
use Rattle.data_transfer.specs.Packets.Body.{Call, Accepted, Clear, ClearConfirmation, Data, Interrupt, InterruptConfirmation, ReceiveReady, ReceiveNotReady, Reset, ResetConfirmation}
use Rattle.packet_channel.specs.Channel.{ChannelState}
use Rattle.packet_channel.specs.Channel.ChannelState.{Ready, OwnWaiting, FarWaiting, Transfer, Collision, OwnClear}
use Rattle.packet_laws.proofs.Handshakes.Handshake.{Kind}
use Rattle.packet_laws.proofs.Handshakes.Handshake.Kind.{Payload, Request, Confirmation}
use Rattle.packet_laws.proofs.Call.OneEpoch.{one}
use Rattle.packet_laws.proofs.Handshakes.Counting.{handshake_count, counted, handshake_count_append}
use Rattle.packet_laws.proofs.Call.Levels.{restart_kind, clear_kind, reset_kind}

abbrev pub is_accepted : Body → Bool
is_accepted Accepted = true
is_accepted _ = false

abbrev pub has_accepted : List Body → Bool
has_accepted [] = false
has_accepted (b ∷ bs) = is_accepted b || has_accepted bs

-- the reset packets owed
abbrev pub resets : List Body → ℕ
resets o = handshake_count reset_kind o

-- ---- what may come, and what it makes of the channel

abbrev pub by_dte : Role → Type 0 → Type 0
by_dte Dte rest = rest
by_dte Dce rest = ⊥

-- nothing comes to a channel in p1 that owes a clear; no reset comes while an acceptance is owed, nor while as many resets are owed
-- as the other end waits for
abbrev pub Comes : Role → ChannelState → Bool → List Body → Body → (ChannelState → Bool → List Body → Type 0) → Type 0
Comes r Ready rs o (Call p) rest = (o ≡ []) × rest FarWaiting rs o
Comes r Ready rs o (Clear x y) rest = (o ≡ []) × rest Ready rs (o ++ ClearConfirmation ∷ [])
Comes r OwnWaiting rs o (Call p) rest = rest Collision rs o
Comes r OwnWaiting rs o Accepted rest = rest Transfer rs o
Comes r OwnWaiting rs o (Clear x y) rest = rest Ready false (o ++ ClearConfirmation ∷ [])
Comes r FarWaiting rs o (Clear x y) rest = rest Ready false (o ++ ClearConfirmation ∷ [])
Comes r Collision rs o Accepted rest = by_dte r (rest Transfer rs o)
Comes r Collision rs o (Clear x y) rest = rest Ready false (o ++ ClearConfirmation ∷ [])
Comes r OwnClear rs o (Clear x y) rest = rest Ready rs o
Comes r OwnClear rs o ClearConfirmation rest = rest Ready rs o
Comes r OwnClear rs o _ rest = rest OwnClear rs o
Comes r Transfer rs o (Clear x y) rest = rest Ready false (o ++ ClearConfirmation ∷ [])
Comes r Transfer false o (Reset x y) rest = (has_accepted o ≡ false) × (resets o ≡ 0) × rest Transfer false (o ++ ResetConfirmation ∷ [])
Comes r Transfer true o (Reset x y) rest = (has_accepted o ≡ false) × (resets o ≤ 1) × rest Transfer false o
Comes r Transfer true o ResetConfirmation rest = (has_accepted o ≡ false) × (resets o ≤ 1) × rest Transfer false o
Comes r Transfer rs o (Data s n d) rest = rest Transfer rs o
Comes r Transfer rs o (Interrupt q) rest = rest Transfer rs o
Comes r Transfer rs o InterruptConfirmation rest = rest Transfer rs o
Comes r Transfer rs o (ReceiveReady n) rest = rest Transfer rs o
Comes r Transfer rs o (ReceiveNotReady n) rest = rest Transfer rs o
Comes r s rs o t rest = ⊥

-- with the restart: an end that is not in r1 hears no other packet, and is in p1 on all channels after a restart
abbrev pub Hears : Role → Kind → Bool → ChannelState → Bool → List Body → Body → (Bool → ChannelState → Bool → List Body → Type 0) → Type 0
Hears r Payload true s rs o t rest = Comes r s rs o t (λ s' rs' o'. rest true s' rs' o')
Hears r Payload false s rs o t rest = rest false s rs o
Hears r Request ready s rs o t rest = rest true Ready false []
Hears r Confirmation false s rs o t rest = rest true Ready false []
Hears r Confirmation true s rs o t rest = ⊥

-- all that comes may come
abbrev pub AllCome : Role → Bool → ChannelState → Bool → List Body → List Body → Type 0
AllCome r ready s rs o [] = Unit {0}
AllCome r ready s rs o (t ∷ ts) = Hears r (restart_kind t) ready s rs o t (λ ready' s' rs' o'. AllCome r ready' s' rs' o' ts)

-- ---- the form of what is owed

abbrev pub IsClear : Body → Type 0
IsClear (Clear x y) = Unit {0}
IsClear ClearConfirmation = Unit {0}
IsClear _ = ⊥

-- nothing, or a clear packet last
abbrev pub Ended : List Body → Type 0
Ended [] = Unit {0}
Ended (b ∷ []) = IsClear b
Ended (b ∷ (d ∷ o)) = Ended (d ∷ o)

-- after the acceptance at most the own reset
pub record AfterAccepted (rs : Bool) (t : List Body) : Type 0 where
  pub short : length t ≡ one rs
  pub counted : resets t ≡ one rs
  pub no_other : has_accepted t ≡ false

pub record Resetting (rs : Bool) (o : List Body) : Type 0 where
  pub no_acceptance : has_accepted o ≡ false
  pub short : length o ≤ 1 + resets o
  pub few : resets o ≤ 1 + one rs

abbrev pub Accepting : Bool → List Body → Type 0
Accepting rs o = (t : List Body) × (AfterAccepted rs t × ((o ≡ Accepted ∷ t) ⊎ ((b : Body) × (o ≡ b ∷ Accepted ∷ t))))

-- a call placed and not answered
pub record Placing (o : List Body) : Type 0 where
  pub no_acceptance : has_accepted o ≡ false
  pub no_resets : resets o ≡ 0
  pub short : length o ≤ 1

abbrev pub Fits : ChannelState → Bool → List Body → Type 0
Fits Transfer rs o = Resetting rs o ⊎ Accepting rs o
Fits Ready false o = (length o ≤ 4) × Ended o
Fits OwnClear false o = (length o ≤ 4) × Ended o
Fits OwnWaiting false o = Placing o
Fits Collision false o = Placing o
Fits FarWaiting false o = o ≡ []
Fits s rs o = ⊥

-- ---- lists

pub ended_last : (o : List Body) (b : Body) → IsClear b → Ended (o ++ b ∷ [])
ended_last [] b h = h
ended_last (x ∷ []) b h = h
ended_last (x ∷ (d ∷ o)) b h = ended_last (d ∷ o) b h

is_clear_count : (b : Body) → IsClear b → counted (clear_kind b) ≡ 1
is_clear_count (Clear x y) h = refl
is_clear_count ClearConfirmation h = refl
is_clear_count _ h = absurd h

pub ended_none : (o : List Body) → Ended o → handshake_count clear_kind o ≡ 0 → o ≡ []
ended_none [] h e = refl
ended_none (b ∷ []) h e = let c = is_clear_count b h in let no : ⊥ = omega arith in absurd no
ended_none (b ∷ (d ∷ o)) h e = let r = ended_none (d ∷ o) h (omega arith) in let l = ap (λ (q : List Body). length q) r in let no : ⊥ = omega arith in absurd no

pub ended_tail : (b : Body) (o : List Body) → Ended (b ∷ o) → Ended o
ended_tail b [] h = tt
ended_tail b (d ∷ o) h = h

pub not_nil : (o : List Body) (b : Body) → o ++ b ∷ [] ≡ [] → ⊥
not_nil o b e = let l = ap (λ (q : List Body). length q) e in let h = length-append o (b ∷ []) in let n : ⊥ = omega arith in n

pub longer_by : (o : List Body) (b : Body) → length (o ++ b ∷ []) ≡ length o + 1
longer_by o b = length-append o (b ∷ [])

pub none_in : (o : List Body) (b : Body) → is_accepted b ≡ false → has_accepted o ≡ false → has_accepted (o ++ b ∷ []) ≡ false
none_in [] b e h = ap (λ (v : Bool). v || false) e
none_in (x ∷ xs) b e h = either_none (is_accepted x) (has_accepted xs) (has_accepted (xs ++ b ∷ [])) h (λ q. none_in xs b e q)
  where
    either_none : (u v w : Bool) → (u || v) ≡ false → (v ≡ false → w ≡ false) → (u || w) ≡ false
    either_none true v w p f = absurd (true≢false p)
    either_none false v w p f = f p

pub resets_push : (o : List Body) (b : Body) → resets (o ++ b ∷ []) ≡ resets o + counted (reset_kind b)
resets_push o b = let h = handshake_count_append reset_kind o (b ∷ []) in omega arith

-- ---- what comes, with another claim after it

comes_map : (r : Role) (s : ChannelState) (rs : Bool) (o : List Body) (t : Body) (rest rest' : ChannelState → Bool → List Body → Type 0) → ((s' : ChannelState) (rs' : Bool) (o' : List Body) → rest s' rs' o' → rest' s' rs' o')
    → Comes r s rs o t rest → Comes r s rs o t rest'
comes_map r Ready rs o (Call p) rest rest' f h = (h.0, f FarWaiting rs o h.1)
comes_map r Ready rs o (Clear x y) rest rest' f h = (h.0, f Ready rs (o ++ ClearConfirmation ∷ []) h.1)
comes_map r Ready rs o _ rest rest' f h = absurd h
comes_map r OwnWaiting rs o (Call p) rest rest' f h = f Collision rs o h
comes_map r OwnWaiting rs o Accepted rest rest' f h = f Transfer rs o h
comes_map r OwnWaiting rs o (Clear x y) rest rest' f h = f Ready false (o ++ ClearConfirmation ∷ []) h
comes_map r OwnWaiting rs o _ rest rest' f h = absurd h
comes_map r FarWaiting rs o (Clear x y) rest rest' f h = f Ready false (o ++ ClearConfirmation ∷ []) h
comes_map r FarWaiting rs o _ rest rest' f h = absurd h
comes_map Dte Collision rs o Accepted rest rest' f h = f Transfer rs o h
comes_map Dce Collision rs o Accepted rest rest' f h = absurd h
comes_map r Collision rs o (Clear x y) rest rest' f h = f Ready false (o ++ ClearConfirmation ∷ []) h
comes_map r Collision rs o _ rest rest' f h = absurd h
comes_map r OwnClear rs o (Clear x y) rest rest' f h = f Ready rs o h
comes_map r OwnClear rs o ClearConfirmation rest rest' f h = f Ready rs o h
comes_map r OwnClear rs o _ rest rest' f h = f OwnClear rs o h
comes_map r Transfer rs o (Clear x y) rest rest' f h = f Ready false (o ++ ClearConfirmation ∷ []) h
comes_map r Transfer false o (Reset x y) rest rest' f h = (h.0, h.1, f Transfer false (o ++ ResetConfirmation ∷ []) h.2)
comes_map r Transfer true o (Reset x y) rest rest' f h = (h.0, h.1, f Transfer false o h.2)
comes_map r Transfer true o ResetConfirmation rest rest' f h = (h.0, h.1, f Transfer false o h.2)
comes_map r Transfer rs o (Data s n d) rest rest' f h = f Transfer rs o h
comes_map r Transfer rs o (Interrupt q) rest rest' f h = f Transfer rs o h
comes_map r Transfer rs o InterruptConfirmation rest rest' f h = f Transfer rs o h
comes_map r Transfer rs o (ReceiveReady n) rest rest' f h = f Transfer rs o h
comes_map r Transfer rs o (ReceiveNotReady n) rest rest' f h = f Transfer rs o h
comes_map r Transfer false o _ rest rest' f h = absurd h
comes_map r Transfer true o _ rest rest' f h = absurd h

pub comes_some : (X : Type 0) (r : Role) (s : ChannelState) (rs : Bool) (o : List Body) (t : Body) (rest : ChannelState → Bool → List Body → Type 0) → ((s' : ChannelState) (rs' : Bool) (o' : List Body) → rest s' rs' o' → X)
    → Comes r s rs o t rest → X
comes_some X r Ready rs o (Call p) rest f h = f FarWaiting rs o h.1
comes_some X r Ready rs o (Clear x y) rest f h = f Ready rs (o ++ ClearConfirmation ∷ []) h.1
comes_some X r Ready rs o _ rest f h = absurd h
comes_some X r OwnWaiting rs o (Call p) rest f h = f Collision rs o h
comes_some X r OwnWaiting rs o Accepted rest f h = f Transfer rs o h
comes_some X r OwnWaiting rs o (Clear x y) rest f h = f Ready false (o ++ ClearConfirmation ∷ []) h
comes_some X r OwnWaiting rs o _ rest f h = absurd h
comes_some X r FarWaiting rs o (Clear x y) rest f h = f Ready false (o ++ ClearConfirmation ∷ []) h
comes_some X r FarWaiting rs o _ rest f h = absurd h
comes_some X Dte Collision rs o Accepted rest f h = f Transfer rs o h
comes_some X Dce Collision rs o Accepted rest f h = absurd h
comes_some X r Collision rs o (Clear x y) rest f h = f Ready false (o ++ ClearConfirmation ∷ []) h
comes_some X r Collision rs o _ rest f h = absurd h
comes_some X r OwnClear rs o (Clear x y) rest f h = f Ready rs o h
comes_some X r OwnClear rs o ClearConfirmation rest f h = f Ready rs o h
comes_some X r OwnClear rs o _ rest f h = f OwnClear rs o h
comes_some X r Transfer rs o (Clear x y) rest f h = f Ready false (o ++ ClearConfirmation ∷ []) h
comes_some X r Transfer false o (Reset x y) rest f h = f Transfer false (o ++ ResetConfirmation ∷ []) h.2
comes_some X r Transfer true o (Reset x y) rest f h = f Transfer false o h.2
comes_some X r Transfer true o ResetConfirmation rest f h = f Transfer false o h.2
comes_some X r Transfer rs o (Data s n d) rest f h = f Transfer rs o h
comes_some X r Transfer rs o (Interrupt q) rest f h = f Transfer rs o h
comes_some X r Transfer rs o InterruptConfirmation rest f h = f Transfer rs o h
comes_some X r Transfer rs o (ReceiveReady n) rest f h = f Transfer rs o h
comes_some X r Transfer rs o (ReceiveNotReady n) rest f h = f Transfer rs o h
comes_some X r Transfer false o _ rest f h = absurd h
comes_some X r Transfer true o _ rest f h = absurd h

hears_map : (r : Role) (k : Kind) (ready : Bool) (s : ChannelState) (rs : Bool) (o : List Body) (t : Body) (rest rest' : Bool → ChannelState → Bool → List Body → Type 0)
    → ((q : Bool) (s' : ChannelState) (rs' : Bool) (o' : List Body) → rest q s' rs' o' → rest' q s' rs' o') → Hears r k ready s rs o t rest → Hears r k ready s rs o t rest'
hears_map r Payload true s rs o t rest rest' f h = comes_map r s rs o t (λ s' rs' o'. rest true s' rs' o') (λ s' rs' o'. rest' true s' rs' o') (λ s' rs' o' q. f true s' rs' o' q) h
hears_map r Payload false s rs o t rest rest' f h = f false s rs o h
hears_map r Request ready s rs o t rest rest' f h = f true Ready false [] h
hears_map r Confirmation false s rs o t rest rest' f h = f true Ready false [] h
hears_map r Confirmation true s rs o t rest rest' f h = absurd h

-- less comes
pub all_front : (r : Role) (ready : Bool) (s : ChannelState) (rs : Bool) (o xs ys : List Body) → AllCome r ready s rs o (xs ++ ys) → AllCome r ready s rs o xs
all_front r ready s rs o [] ys h = tt
all_front r ready s rs o (x ∷ xs) ys h =
    hears_map r (restart_kind x) ready s rs o x (λ q s' rs' o'. AllCome r q s' rs' o' (xs ++ ys)) (λ q s' rs' o'. AllCome r q s' rs' o' xs) (λ q s' rs' o' h'. all_front r q s' rs' o' xs ys h') h

-- ---- the form is kept by what comes

pub one_small : (v : Bool) → one v ≤ 1
one_small true = omega arith
one_small false = omega arith

pub few_three : (s : ChannelState) (rs : Bool) (o : List Body) → Fits s rs o → (s ≡ Ready → ⊥) → (s ≡ OwnClear → ⊥) → length o ≤ 3
few_three Transfer rs o (inl h) a b = let p = h.short in let q = h.few in let z = one_small rs in omega arith
few_three Transfer rs o (inr (t, (h, inl e))) a b = let p = h.short in let q = ap (λ (l : List Body). length l) e in let z = one_small rs in omega arith
few_three Transfer rs o (inr (t, (h, inr e))) a b = let p = h.short in let q = ap (λ (l : List Body). length l) e.1 in let z = one_small rs in omega arith
few_three OwnWaiting false o h a b = let p = h.short in omega arith
few_three Collision false o h a b = let p = h.short in omega arith
few_three FarWaiting false o h a b = let p = ap (λ (l : List Body). length l) h in omega arith
few_three Ready false o h a b = absurd (a refl)
few_three OwnClear false o h a b = absurd (b refl)
few_three Ready true o h a b = absurd h
few_three OwnClear true o h a b = absurd h
few_three OwnWaiting true o h a b = absurd h
few_three Collision true o h a b = absurd h
few_three FarWaiting true o h a b = absurd h
