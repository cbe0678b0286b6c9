-- Walks through a pipe: what a change of the sender, of the pipe's tail and of the walker makes of them.
use Rattle.std.proofs.Common.{◌≡◌, ℕ, suc, ◌≤◌, Bool, true, false, List, [], ◌∷◌, ◌++◌, slice_get, Some, refl, sym, ap, subst, append-nil, arith}
use Rattle.data_transfer.specs.Packets.{Body}
use Rattle.packet_laws.proofs.Handshakes.Handshake.{Kind, Meets, Seen, Walk, AllPayload}
use Rattle.packet_laws.proofs.Handshakes.Handshake.Kind.{Payload, Request, Confirmation}

pub seen_map : (k : Kind) (own : Bool) (m c : ℕ) (t : Body) (p q : ℕ → List Body) (bound : ℕ) (rest rest' : Bool → ℕ → ℕ → Type 0)
    → (slice_get (p m) c ≡ Some t → slice_get (q m) c ≡ Some t) → bound ≤ m → ((o : Bool) (i j : ℕ) → bound ≤ i → rest o i j → rest' o i j)
    → Seen k own m c t p rest → Seen k own m c t q rest'
seen_map Payload true m c t p q bound rest rest' mono le f s = f true m c le s
seen_map Payload false m c t p q bound rest rest' mono le f s = (mono s.0, f false m (suc c) le s.1)
seen_map Request true m c t p q bound rest rest' mono le f s = f false m c le s
seen_map Request false m c t p q bound rest rest' mono le f s = f false (suc m) 0 (omega arith) s
seen_map Confirmation true m c t p q bound rest rest' mono le f s = f false m c le s
seen_map Confirmation false m c t p q bound rest rest' mono le f s = absurd s

abbrev pub Grows : (ℕ → List Body) → (ℕ → List Body) → Type 0
Grows p q = (k i : ℕ) (t : Body) → slice_get (p k) i ≡ Some t → slice_get (q k) i ≡ Some t

-- another tail of the pipe, and another sender's state
pub walk_split : (kind : Body → Kind) (p q : ℕ → List Body) (n n' bound : ℕ) → Grows p q → (keep cut suffix : List Body)
    → ((o : Bool) (i j : ℕ) → bound ≤ i → Walk kind p n o i j cut → Walk kind q n' o i j suffix)
    → (own : Bool) (m c : ℕ) → bound ≤ m → Walk kind p n own m c (keep ++ cut) → Walk kind q n' own m c (keep ++ suffix)
walk_split kind p q n n' bound mono [] cut suffix f own m c le h = f own m c le h
walk_split kind p q n n' bound mono (t ∷ ts) cut suffix f own m c le h =
    seen_map (kind t) own m c t p q bound (λ o i j. Walk kind p n o i j (ts ++ cut)) (λ o i j. Walk kind q n' o i j (ts ++ suffix)) (mono m c t) le
    (λ o i j le' h'. walk_split kind p q n n' bound mono ts cut suffix f o i j le' h') h

pub walk_push : (kind : Body → Kind) (p q : ℕ → List Body) (n n' bound : ℕ) → Grows p q → (ts suffix : List Body)
    → ((o : Bool) (i j : ℕ) → bound ≤ i → Meets p n o i j → Walk kind q n' o i j suffix)
    → (own : Bool) (m c : ℕ) → bound ≤ m → Walk kind p n own m c ts → Walk kind q n' own m c (ts ++ suffix)
walk_push kind p q n n' bound mono ts suffix f own m c le h =
    walk_split kind p q n n' bound mono ts [] suffix f own m c le (subst (λ (l : List Body). Walk kind p n own m c l) (sym (append-nil ts)) h)

pub walk_meets : (kind : Body → Kind) (p q : ℕ → List Body) (n n' bound : ℕ) → Grows p q → (ts : List Body)
    → ((o : Bool) (i j : ℕ) → bound ≤ i → Meets p n o i j → Meets q n' o i j)
    → (own : Bool) (m c : ℕ) → bound ≤ m → Walk kind p n own m c ts → Walk kind q n' own m c ts
walk_meets kind p q n n' bound mono ts f own m c le h =
    subst (λ (l : List Body). Walk kind q n' own m c l) (append-nil ts) (walk_push kind p q n n' bound mono ts [] f own m c le h)

-- a ready walker stays ready and its number does not fall, so it is at most the sender's
seen_reach : (k : Kind) (m c : ℕ) (t : Body) (p : ℕ → List Body) (n : ℕ) (rest : Bool → ℕ → ℕ → Type 0) → ((i j : ℕ) → rest false i j → i ≤ n) → Seen k false m c t p rest → m ≤ n
seen_reach Payload m c t p n rest f s = f m (suc c) s.1
seen_reach Request m c t p n rest f s = let h = f (suc m) 0 s in omega arith
seen_reach Confirmation m c t p n rest f s = absurd s

pub walk_reach : (kind : Body → Kind) (p : ℕ → List Body) (n : ℕ) (ts : List Body) (m c : ℕ) → Walk kind p n false m c ts → m ≤ n
walk_reach kind p n [] m c h = let e = h.0 in omega arith
walk_reach kind p n (t ∷ ts) m c h = seen_reach (kind t) m c t p n (λ o i j. Walk kind p n o i j ts) (λ i j h'. walk_reach kind p n ts i j h') h

-- a walker that may be in its own handshake: its number is at most one more than the sender's
seen_above : (k : Kind) (own : Bool) (m c : ℕ) (t : Body) (p : ℕ → List Body) (n : ℕ) (rest : Bool → ℕ → ℕ → Type 0) → ((o : Bool) (i j : ℕ) → rest o i j → i ≤ suc n) → Seen k own m c t p rest → m ≤ suc n
seen_above Payload true m c t p n rest f s = f true m c s
seen_above Payload false m c t p n rest f s = f false m (suc c) s.1
seen_above Request true m c t p n rest f s = f false m c s
seen_above Request false m c t p n rest f s = let h = f false (suc m) 0 s in omega arith
seen_above Confirmation true m c t p n rest f s = f false m c s
seen_above Confirmation false m c t p n rest f s = absurd s

meets_above : (p : ℕ → List Body) (n : ℕ) (own : Bool) (m c : ℕ) → Meets p n own m c → m ≤ suc n
meets_above p n true m c h = let e = h.0 in omega arith
meets_above p n false m c h = let e = h.0 in omega arith

pub walk_above : (kind : Body → Kind) (p : ℕ → List Body) (n : ℕ) (ts : List Body) (own : Bool) (m c : ℕ) → Walk kind p n own m c ts → m ≤ suc n
walk_above kind p n [] own m c h = meets_above p n own m c h
walk_above kind p n (t ∷ ts) own m c h = seen_above (kind t) own m c t p n (λ o i j. Walk kind p n o i j ts) (λ o i j h'. walk_above kind p n ts o i j h') h

-- the walker begins a handshake of its own
seen_begin : (k : Kind) (m c : ℕ) (t : Body) (p : ℕ → List Body) (rest : Bool → ℕ → ℕ → Type 0) → ((j : ℕ) → rest false m j → rest true (suc m) 0) → Seen k false m c t p rest → Seen k true (suc m) 0 t p rest
seen_begin Payload m c t p rest f s = f (suc c) s.1
seen_begin Request m c t p rest f s = s
seen_begin Confirmation m c t p rest f s = absurd s

pub walk_begin : (kind : Body → Kind) (p : ℕ → List Body) (n : ℕ) (ts : List Body) (m c : ℕ) → Walk kind p n false m c ts → Walk kind p n true (suc m) 0 ts
walk_begin kind p n [] m c h = (ap suc h.0, refl)
walk_begin kind p n (t ∷ ts) m c h = seen_begin (kind t) m c t p (λ o i j. Walk kind p n o i j ts) (λ j h'. walk_begin kind p n ts m j h') h

-- payload changes no number
abbrev pub NumbersMeet : ℕ → Bool → ℕ → ℕ → Type 0
NumbersMeet n true m c = (m ≡ suc n) × (c ≡ 0)
NumbersMeet n false m c = m ≡ n

meets_numbers : (p : ℕ → List Body) (n : ℕ) (own : Bool) (m c : ℕ) → Meets p n own m c → NumbersMeet n own m c
meets_numbers p n true m c h = h
meets_numbers p n false m c h = h.0

seen_payload : (own : Bool) (m c : ℕ) (t : Body) (p : ℕ → List Body) (n : ℕ) (rest : Bool → ℕ → ℕ → Type 0) → ((o : Bool) (i j : ℕ) → rest o i j → NumbersMeet n o i j) → Seen Payload own m c t p rest → NumbersMeet n own m c
seen_payload true m c t p n rest f s = f true m c s
seen_payload false m c t p n rest f s = f false m (suc c) s.1

pub payload_end : (kind : Body → Kind) (p : ℕ → List Body) (n : ℕ) (cut : List Body) → AllPayload kind cut → (own : Bool) (m c : ℕ) → Walk kind p n own m c cut → NumbersMeet n own m c
payload_end kind p n [] all own m c h = meets_numbers p n own m c h
payload_end kind p n (t ∷ ts) all own m c h =
    seen_payload own m c t p n (λ o i j. Walk kind p n o i j ts) (λ o i j h'. payload_end kind p n ts all.1 o i j h')
    (subst (λ (k : Kind). Seen k own m c t p (λ o i j. Walk kind p n o i j ts)) all.0 h)
