-- What an end does by itself lets come what may come before, and keeps the form of what it owes.
use Rattle.std.proofs.Common.{◌≡◌, ℕ, ◌+◌, ◌≤◌, Bool, true, false, List, [], ◌∷◌, ◌++◌, refl, sym, arith, true≢false}
use Rattle.link_timers.specs.declared.role.Role.{Role}
use Rattle.link_timers.specs.declared.role.Role.TheVariants.{Dte, Dce}
use Rattle.data_transfer.specs.Packets.{Body}
use Rattle.data_transfer.specs.Packets.Body.{Call, Accepted, Clear, ClearConfirmation, Data, Interrupt, InterruptConfirmation, ReceiveReady, ReceiveNotReady, Reset, ResetConfirmation}
use Rattle.packet_channel.specs.Channel.{ChannelState}
use Rattle.packet_channel.specs.Channel.ChannelState.{Ready, OwnWaiting, FarWaiting, Transfer, Collision, OwnClear}
use Rattle.packet_laws.proofs.Handshakes.Handshake.{Kind}
use Rattle.packet_laws.proofs.Handshakes.Handshake.Kind.{Payload, Request, Confirmation}
use Rattle.packet_laws.proofs.Call.Levels.{restart_kind}
use Rattle.packet_laws.proofs.Owed.MayCome.{has_accepted, resets, Comes, Hears, AllCome, not_nil, none_in, resets_push, comes_some}

-- of two channels: the second one owes no acceptance and no more resets where the first one does not
abbrev pub NoMore : List Body → List Body → Type 0
NoMore o o' = (has_accepted o ≡ false → has_accepted o' ≡ false) × (resets o' ≤ resets o)

abbrev pub OneMore : List Body → List Body → Type 0
OneMore o o' = (has_accepted o ≡ false → has_accepted o' ≡ false) × (resets o' ≤ resets o + 1)

abbrev pub Emptier : List Body → List Body → Type 0
Emptier o o' = o ≡ [] → o' ≡ []

-- all that may come to the first one may come to the second one
abbrev pub Looser : Role → ChannelState → Bool → List Body → ChannelState → Bool → List Body → Type 0
Looser r Ready rs o Ready rs' o' = Emptier o o'
Looser r Ready rs o OwnWaiting rs' o' = Unit {0}
Looser r OwnWaiting rs o OwnWaiting rs' o' = (rs' ≡ rs) × NoMore o o'
Looser r OwnWaiting rs o OwnClear rs' o' = Unit {0}
Looser r FarWaiting rs o FarWaiting rs' o' = Unit {0}
Looser r FarWaiting rs o Collision rs' o' = Unit {0}
Looser r FarWaiting rs o Transfer rs' o' = Unit {0}
Looser r FarWaiting rs o OwnClear rs' o' = Unit {0}
Looser r Collision rs o Collision rs' o' = (rs' ≡ rs) × NoMore o o'
Looser r Collision rs o Transfer rs' o' = r ≡ Dce
Looser r Collision rs o OwnClear rs' o' = Unit {0}
Looser r OwnClear rs o OwnClear rs' o' = Emptier o o'
Looser r Transfer rs o OwnClear rs' o' = Unit {0}
Looser r Transfer false o Transfer false o' = NoMore o o'
Looser r Transfer true o Transfer true o' = NoMore o o'
Looser r Transfer false o Transfer true o' = OneMore o o'
Looser r s rs o s' rs' o' = ⊥

same_transfer : (r : Role) (rs rs' : Bool) (o o' : List Body) → rs' ≡ rs → NoMore o o' → Looser r Transfer rs o Transfer rs' o'
same_transfer r true true o o' e h = h
same_transfer r false false o o' e h = h
same_transfer r true false o o' e h = absurd (true≢false (sym e))
same_transfer r false true o o' e h = absurd (true≢false e)

never_empty : (o p : List Body) (b : Body) → Emptier (o ++ b ∷ []) p
never_empty o p b e = absurd (not_nil o b e)

-- what follows for the two channels after the packet
abbrev Follows : Role → (ChannelState → Bool → List Body → Type 0) → (ChannelState → Bool → List Body → Type 0) → Type 0
Follows r rest rest' = (s : ChannelState) (rs : Bool) (o : List Body) (s' : ChannelState) (rs' : Bool) (o' : List Body) → Looser r s rs o s' rs' o' → rest s rs o → rest' s' rs' o'

loose_ready : (r : Role) (rs : Bool) (o : List Body) (rs' : Bool) (o' : List Body) (t : Body) (rest rest' : ChannelState → Bool → List Body → Type 0) → Follows r rest rest' → Emptier o o' → Comes r Ready rs o t rest → Comes r Ready rs' o' t rest'
loose_ready r rs o rs' o' (Call p) rest rest' k l h = (l h.0, k FarWaiting rs o FarWaiting rs' o' tt h.1)
loose_ready r rs o rs' o' (Clear x y) rest rest' k l h = (l h.0, k Ready rs (o ++ ClearConfirmation ∷ []) Ready rs' (o' ++ ClearConfirmation ∷ []) (never_empty o (o' ++ ClearConfirmation ∷ []) ClearConfirmation) h.1)
loose_ready r rs o rs' o' _ rest rest' k l h = absurd h

loose_call : (r : Role) (rs : Bool) (o : List Body) (rs' : Bool) (o' : List Body) (t : Body) (rest rest' : ChannelState → Bool → List Body → Type 0) → Follows r rest rest' → Comes r Ready rs o t rest → Comes r OwnWaiting rs' o' t rest'
loose_call r rs o rs' o' (Call p) rest rest' k h = k FarWaiting rs o Collision rs' o' tt h.1
loose_call r rs o rs' o' (Clear x y) rest rest' k h = k Ready rs (o ++ ClearConfirmation ∷ []) Ready false (o' ++ ClearConfirmation ∷ []) (never_empty o (o' ++ ClearConfirmation ∷ []) ClearConfirmation) h.1
loose_call r rs o rs' o' _ rest rest' k h = absurd h

loose_placed : (r : Role) (rs : Bool) (o : List Body) (rs' : Bool) (o' : List Body) (t : Body) (rest rest' : ChannelState → Bool → List Body → Type 0) → Follows r rest rest' → (rs' ≡ rs) × NoMore o o' → Comes r OwnWaiting rs o t rest → Comes r OwnWaiting rs' o' t rest'
loose_placed r rs o rs' o' (Call p) rest rest' k l h = k Collision rs o Collision rs' o' l h
loose_placed r rs o rs' o' Accepted rest rest' k l h = k Transfer rs o Transfer rs' o' (same_transfer r rs rs' o o' l.0 l.1) h
loose_placed r rs o rs' o' (Clear x y) rest rest' k l h = k Ready false (o ++ ClearConfirmation ∷ []) Ready false (o' ++ ClearConfirmation ∷ []) (never_empty o (o' ++ ClearConfirmation ∷ []) ClearConfirmation) h
loose_placed r rs o rs' o' _ rest rest' k l h = absurd h

loose_collided : (r : Role) (rs : Bool) (o : List Body) (rs' : Bool) (o' : List Body) (t : Body) (rest rest' : ChannelState → Bool → List Body → Type 0) → Follows r rest rest' → (rs' ≡ rs) × NoMore o o' → Comes r Collision rs o t rest → Comes r Collision rs' o' t rest'
loose_collided Dte rs o rs' o' Accepted rest rest' k l h = k Transfer rs o Transfer rs' o' (same_transfer Dte rs rs' o o' l.0 l.1) h
loose_collided Dce rs o rs' o' Accepted rest rest' k l h = absurd h
loose_collided r rs o rs' o' (Clear x y) rest rest' k l h = k Ready false (o ++ ClearConfirmation ∷ []) Ready false (o' ++ ClearConfirmation ∷ []) (never_empty o (o' ++ ClearConfirmation ∷ []) ClearConfirmation) h
loose_collided r rs o rs' o' _ rest rest' k l h = absurd h

-- only a clear may come to the first one
loose_waiting : (r : Role) (rs : Bool) (o : List Body) (s' : ChannelState) (rs' : Bool) (o' : List Body) (t : Body) (rest rest' : ChannelState → Bool → List Body → Type 0) → Follows r rest rest' → Looser r FarWaiting rs o s' rs' o' → Comes r FarWaiting rs o t rest → Comes r s' rs' o' t rest'
loose_waiting r rs o FarWaiting rs' o' (Clear x y) rest rest' k l h = k Ready false (o ++ ClearConfirmation ∷ []) Ready false (o' ++ ClearConfirmation ∷ []) (never_empty o (o' ++ ClearConfirmation ∷ []) ClearConfirmation) h
loose_waiting r rs o Collision rs' o' (Clear x y) rest rest' k l h = k Ready false (o ++ ClearConfirmation ∷ []) Ready false (o' ++ ClearConfirmation ∷ []) (never_empty o (o' ++ ClearConfirmation ∷ []) ClearConfirmation) h
loose_waiting r rs o Transfer rs' o' (Clear x y) rest rest' k l h = k Ready false (o ++ ClearConfirmation ∷ []) Ready false (o' ++ ClearConfirmation ∷ []) (never_empty o (o' ++ ClearConfirmation ∷ []) ClearConfirmation) h
loose_waiting r rs o OwnClear rs' o' (Clear x y) rest rest' k l h = k Ready false (o ++ ClearConfirmation ∷ []) Ready rs' o' (never_empty o o' ClearConfirmation) h
loose_waiting r rs o Ready rs' o' t rest rest' k l h = absurd l
loose_waiting r rs o OwnWaiting rs' o' t rest rest' k l h = absurd l
loose_waiting r rs o s' rs' o' _ rest rest' k l h = absurd h

loose_accepted : (r : Role) (rs : Bool) (o : List Body) (rs' : Bool) (o' : List Body) (t : Body) (rest rest' : ChannelState → Bool → List Body → Type 0) → Follows r rest rest' → r ≡ Dce → Comes r Collision rs o t rest → Comes r Transfer rs' o' t rest'
loose_accepted Dte rs o rs' o' t rest rest' k l h = absurd cc
loose_accepted Dce rs o rs' o' (Clear x y) rest rest' k l h = k Ready false (o ++ ClearConfirmation ∷ []) Ready false (o' ++ ClearConfirmation ∷ []) (never_empty o (o' ++ ClearConfirmation ∷ []) ClearConfirmation) h
loose_accepted Dce rs o rs' o' _ rest rest' k l h = absurd h

-- to an end that clears everything may come
loose_cleared : (r : Role) (s : ChannelState) (rs : Bool) (o : List Body) (rs' : Bool) (o' : List Body) (t : Body) (rest rest' : ChannelState → Bool → List Body → Type 0) → Follows r rest rest' → Looser r s rs o OwnClear rs' o' → Comes r s rs o t rest → Comes r OwnClear rs' o' t rest'
loose_cleared r OwnClear rs o rs' o' (Clear x y) rest rest' k l h = k Ready rs o Ready rs' o' l h
loose_cleared r OwnClear rs o rs' o' ClearConfirmation rest rest' k l h = k Ready rs o Ready rs' o' l h
loose_cleared r OwnClear rs o rs' o' _ rest rest' k l h = k OwnClear rs o OwnClear rs' o' l h
loose_cleared r OwnWaiting rs o rs' o' (Call p) rest rest' k l h = k Collision rs o OwnClear rs' o' tt h
loose_cleared r OwnWaiting rs o rs' o' Accepted rest rest' k l h = k Transfer rs o OwnClear rs' o' tt h
loose_cleared r OwnWaiting rs o rs' o' (Clear x y) rest rest' k l h = k Ready false (o ++ ClearConfirmation ∷ []) Ready rs' o' (never_empty o o' ClearConfirmation) h
loose_cleared r OwnWaiting rs o rs' o' _ rest rest' k l h = absurd h
loose_cleared r FarWaiting rs o rs' o' t rest rest' k l h = loose_waiting r rs o OwnClear rs' o' t rest rest' k tt h
loose_cleared Dte Collision rs o rs' o' Accepted rest rest' k l h = k Transfer rs o OwnClear rs' o' tt h
loose_cleared Dce Collision rs o rs' o' Accepted rest rest' k l h = absurd h
loose_cleared r Collision rs o rs' o' (Clear x y) rest rest' k l h = k Ready false (o ++ ClearConfirmation ∷ []) Ready rs' o' (never_empty o o' ClearConfirmation) h
loose_cleared r Collision rs o rs' o' _ rest rest' k l h = absurd h
loose_cleared r Transfer rs o rs' o' (Clear x y) rest rest' k l h = k Ready false (o ++ ClearConfirmation ∷ []) Ready rs' o' (never_empty o o' ClearConfirmation) h
loose_cleared r Transfer false o rs' o' (Reset x y) rest rest' k l h = k Transfer false (o ++ ResetConfirmation ∷ []) OwnClear rs' o' tt h.2
loose_cleared r Transfer true o rs' o' (Reset x y) rest rest' k l h = k Transfer false o OwnClear rs' o' tt h.2
loose_cleared r Transfer true o rs' o' ResetConfirmation rest rest' k l h = k Transfer false o OwnClear rs' o' tt h.2
loose_cleared r Transfer rs o rs' o' (Data s n d) rest rest' k l h = k Transfer rs o OwnClear rs' o' tt h
loose_cleared r Transfer rs o rs' o' (Interrupt q) rest rest' k l h = k Transfer rs o OwnClear rs' o' tt h
loose_cleared r Transfer rs o rs' o' InterruptConfirmation rest rest' k l h = k Transfer rs o OwnClear rs' o' tt h
loose_cleared r Transfer rs o rs' o' (ReceiveReady n) rest rest' k l h = k Transfer rs o OwnClear rs' o' tt h
loose_cleared r Transfer rs o rs' o' (ReceiveNotReady n) rest rest' k l h = k Transfer rs o OwnClear rs' o' tt h
loose_cleared r Transfer false o rs' o' _ rest rest' k l h = absurd h
loose_cleared r Transfer true o rs' o' _ rest rest' k l h = absurd h
loose_cleared r Ready rs o rs' o' t rest rest' k l h = absurd l

-- ---- in a call

both_learn : (o o' : List Body) → NoMore o o' → has_accepted o ≡ false → NoMore (o ++ ResetConfirmation ∷ []) (o' ++ ResetConfirmation ∷ [])
both_learn o o' l e = let a = resets_push o ResetConfirmation in let b = resets_push o' ResetConfirmation in let c = l.1 in (λ q. none_in o' ResetConfirmation refl (l.0 e), omega arith)

one_learns : (o o' : List Body) → OneMore o o' → has_accepted o ≡ false → NoMore (o ++ ResetConfirmation ∷ []) o'
one_learns o o' l e = let a = resets_push o ResetConfirmation in let c = l.1 in (λ q. l.0 e, omega arith)

at_most : (a b : ℕ) → a ≤ b → b ≤ 1 → a ≤ 1
at_most a b p q = omega arith

none_left : (a b : ℕ) → a ≤ b → b ≡ 0 → a ≡ 0
none_left a b p q = omega arith

one_left : (a b : ℕ) → a ≤ b + 1 → b ≡ 0 → a ≤ 1
one_left a b p q = omega arith

loose_open : (r : Role) (o o' : List Body) (t : Body) (rest rest' : ChannelState → Bool → List Body → Type 0) → Follows r rest rest' → NoMore o o' → Comes r Transfer false o t rest → Comes r Transfer false o' t rest'
loose_open r o o' (Clear x y) rest rest' k l h = k Ready false (o ++ ClearConfirmation ∷ []) Ready false (o' ++ ClearConfirmation ∷ []) (never_empty o (o' ++ ClearConfirmation ∷ []) ClearConfirmation) h
loose_open r o o' (Reset x y) rest rest' k l h = (l.0 h.0, none_left (resets o') (resets o) l.1 h.1, k Transfer false (o ++ ResetConfirmation ∷ []) Transfer false (o' ++ ResetConfirmation ∷ []) (both_learn o o' l h.0) h.2)
loose_open r o o' (Data s n d) rest rest' k l h = k Transfer false o Transfer false o' l h
loose_open r o o' (Interrupt q) rest rest' k l h = k Transfer false o Transfer false o' l h
loose_open r o o' InterruptConfirmation rest rest' k l h = k Transfer false o Transfer false o' l h
loose_open r o o' (ReceiveReady n) rest rest' k l h = k Transfer false o Transfer false o' l h
loose_open r o o' (ReceiveNotReady n) rest rest' k l h = k Transfer false o Transfer false o' l h
loose_open r o o' _ rest rest' k l h = absurd h

loose_reset : (r : Role) (o o' : List Body) (t : Body) (rest rest' : ChannelState → Bool → List Body → Type 0) → Follows r rest rest' → NoMore o o' → Comes r Transfer true o t rest → Comes r Transfer true o' t rest'
loose_reset r o o' (Clear x y) rest rest' k l h = k Ready false (o ++ ClearConfirmation ∷ []) Ready false (o' ++ ClearConfirmation ∷ []) (never_empty o (o' ++ ClearConfirmation ∷ []) ClearConfirmation) h
loose_reset r o o' (Reset x y) rest rest' k l h = (l.0 h.0, at_most (resets o') (resets o) l.1 h.1, k Transfer false o Transfer false o' l h.2)
loose_reset r o o' ResetConfirmation rest rest' k l h = (l.0 h.0, at_most (resets o') (resets o) l.1 h.1, k Transfer false o Transfer false o' l h.2)
loose_reset r o o' (Data s n d) rest rest' k l h = k Transfer true o Transfer true o' l h
loose_reset r o o' (Interrupt q) rest rest' k l h = k Transfer true o Transfer true o' l h
loose_reset r o o' InterruptConfirmation rest rest' k l h = k Transfer true o Transfer true o' l h
loose_reset r o o' (ReceiveReady n) rest rest' k l h = k Transfer true o Transfer true o' l h
loose_reset r o o' (ReceiveNotReady n) rest rest' k l h = k Transfer true o Transfer true o' l h
loose_reset r o o' _ rest rest' k l h = absurd h

loose_resets : (r : Role) (o o' : List Body) (t : Body) (rest rest' : ChannelState → Bool → List Body → Type 0) → Follows r rest rest' → OneMore o o' → Comes r Transfer false o t rest → Comes r Transfer true o' t rest'
loose_resets r o o' (Clear x y) rest rest' k l h = k Ready false (o ++ ClearConfirmation ∷ []) Ready false (o' ++ ClearConfirmation ∷ []) (never_empty o (o' ++ ClearConfirmation ∷ []) ClearConfirmation) h
loose_resets r o o' (Reset x y) rest rest' k l h = (l.0 h.0, one_left (resets o') (resets o) l.1 h.1, k Transfer false (o ++ ResetConfirmation ∷ []) Transfer false o' (one_learns o o' l h.0) h.2)
loose_resets r o o' (Data s n d) rest rest' k l h = k Transfer false o Transfer true o' l h
loose_resets r o o' (Interrupt q) rest rest' k l h = k Transfer false o Transfer true o' l h
loose_resets r o o' InterruptConfirmation rest rest' k l h = k Transfer false o Transfer true o' l h
loose_resets r o o' (ReceiveReady n) rest rest' k l h = k Transfer false o Transfer true o' l h
loose_resets r o o' (ReceiveNotReady n) rest rest' k l h = k Transfer false o Transfer true o' l h
loose_resets r o o' _ rest rest' k l h = absurd h

-- ---- any two channels

loose : (r : Role) (s : ChannelState) (rs : Bool) (o : List Body) (s' : ChannelState) (rs' : Bool) (o' : List Body) (t : Body) (rest rest' : ChannelState → Bool → List Body → Type 0)
    → Follows r rest rest' → Looser r s rs o s' rs' o' → Comes r s rs o t rest → Comes r s' rs' o' t rest'
loose r s rs o OwnClear rs' o' t rest rest' k l h = loose_cleared r s rs o rs' o' t rest rest' k l h
loose r Ready rs o Ready rs' o' t rest rest' k l h = loose_ready r rs o rs' o' t rest rest' k l h
loose r Ready rs o OwnWaiting rs' o' t rest rest' k l h = loose_call r rs o rs' o' t rest rest' k h
loose r OwnWaiting rs o OwnWaiting rs' o' t rest rest' k l h = loose_placed r rs o rs' o' t rest rest' k l h
loose r FarWaiting rs o s' rs' o' t rest rest' k l h = loose_waiting r rs o s' rs' o' t rest rest' k l h
loose r Collision rs o Collision rs' o' t rest rest' k l h = loose_collided r rs o rs' o' t rest rest' k l h
loose r Collision rs o Transfer rs' o' t rest rest' k l h = loose_accepted r rs o rs' o' t rest rest' k l h
loose r Transfer false o Transfer false o' t rest rest' k l h = loose_open r o o' t rest rest' k l h
loose r Transfer true o Transfer true o' t rest rest' k l h = loose_reset r o o' t rest rest' k l h
loose r Transfer false o Transfer true o' t rest rest' k l h = loose_resets r o o' t rest rest' k l h
loose r Transfer true o Transfer false o' t rest rest' k l h = absurd l
loose r s rs o s' rs' o' t rest rest' k l h = absurd l

loose_hears : (r : Role) (q : Kind) (s : ChannelState) (rs : Bool) (o : List Body) (s' : ChannelState) (rs' : Bool) (o' : List Body) (t : Body) (rest rest' : Bool → ChannelState → Bool → List Body → Type 0)
    → Follows r (λ a b c. rest true a b c) (λ a b c. rest' true a b c) → (rest true Ready false [] → rest' true Ready false []) → Looser r s rs o s' rs' o' → Hears r q true s rs o t rest → Hears r q true s' rs' o' t rest'
loose_hears r Payload s rs o s' rs' o' t rest rest' k f l h = loose r s rs o s' rs' o' t (λ a b c. rest true a b c) (λ a b c. rest' true a b c) k l h
loose_hears r Request s rs o s' rs' o' t rest rest' k f l h = f h
loose_hears r Confirmation s rs o s' rs' o' t rest rest' k f l h = absurd h

pub all_looser : (r : Role) (s : ChannelState) (rs : Bool) (o : List Body) (s' : ChannelState) (rs' : Bool) (o' ts : List Body) → Looser r s rs o s' rs' o' → AllCome r true s rs o ts → AllCome r true s' rs' o' ts
all_looser r s rs o s' rs' o' [] l h = tt
all_looser r s rs o s' rs' o' (t ∷ ts) l h =
    loose_hears r (restart_kind t) s rs o s' rs' o' t (λ q a b c. AllCome r q a b c ts) (λ q a b c. AllCome r q a b c ts) (λ a b c a' b' c' l' h'. all_looser r a b c a' b' c' ts l' h') (λ h'. h') l h

restarted_hears : (r : Role) (q : Kind) (s : ChannelState) (rs : Bool) (o : List Body) (t : Body) (rest : Bool → ChannelState → Bool → List Body → Type 0)
    → ((a : ChannelState) (b : Bool) (c : List Body) → rest true a b c → rest false Ready false []) → Hears r q true s rs o t rest → Hears r q false Ready false [] t rest
restarted_hears r Payload s rs o t rest f h = comes_some (rest false Ready false []) r s rs o t (λ a b c. rest true a b c) f h
restarted_hears r Request s rs o t rest f h = h
restarted_hears r Confirmation s rs o t rest f h = absurd h

-- a restart begun here
pub all_restarted : (r : Role) (s : ChannelState) (rs : Bool) (o ts : List Body) → AllCome r true s rs o ts → AllCome r false Ready false [] ts
all_restarted r s rs o [] h = tt
all_restarted r s rs o (t ∷ ts) h = restarted_hears r (restart_kind t) s rs o t (λ q a b c. AllCome r q a b c ts) (λ a b c h'. all_restarted r a b c ts h') h
