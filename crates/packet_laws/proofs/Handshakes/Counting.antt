-- How many packets of a handshake are on their way: as many as ends wait for the other's. And what of a pipe belongs to the present
-- number.
use Rattle.std.proofs.Common.{◌≡◌, ℕ, suc, ◌+◌, ◌≤◌, Bool, true, false, cond, List, [], ◌∷◌, ◌++◌, length, drop, slice_get, Some, refl, sym, ap, subst, ◌∙◌, arith}
use Rattle.std.proofs.lemmas.Bool.{eq-eqb}
use Rattle.data_transfer.specs.Packets.{Body}
use Rattle.packet_laws.proofs.Handshakes.Handshake.{Kind, Side, Two, at, Meets, Seen, Walk, Inv, AllPayload}
use Rattle.packet_laws.proofs.Handshakes.Handshake.Kind.{Payload, Request, Confirmation}
use Rattle.packet_laws.proofs.Handshakes.Walks.{walk_reach}
use Rattle.packet_laws.proofs.Handshakes.Keeping.{drop_get}
use Rattle.packet_laws.proofs.Call.OneEpoch.{one}

abbrev pub counted : Kind → ℕ
counted Payload = 0
counted Request = 1
counted Confirmation = 1

-- the requests and confirmations in a pipe
abbrev pub handshake_count : (Body → Kind) → List Body → ℕ
handshake_count kind [] = 0
handshake_count kind (t ∷ ts) = counted (kind t) + handshake_count kind ts

pub handshake_count_append : (kind : Body → Kind) (xs ys : List Body) → handshake_count kind (xs ++ ys) ≡ handshake_count kind xs + handshake_count kind ys
handshake_count_append kind [] ys = omega arith
handshake_count_append kind (x ∷ xs) ys = let h = handshake_count_append kind xs ys in omega arith

meets_count : (p : ℕ → List Body) (n : ℕ) (own : Bool) (m c : ℕ) → Meets p n own m c → m + 0 ≡ n + one own
meets_count p n true m c h = let e = h.0 in omega arith
meets_count p n false m c h = let e = h.0 in omega arith

seen_count : (k : Kind) (own : Bool) (m c : ℕ) (t : Body) (p : ℕ → List Body) (n left : ℕ) (rest : Bool → ℕ → ℕ → Type 0)
    → ((o : Bool) (i j : ℕ) → rest o i j → i + left ≡ n + one o) → Seen k own m c t p rest → m + (counted k + left) ≡ n + one own
seen_count Payload true m c t p n left rest f s = let h = f true m c s in omega arith
seen_count Payload false m c t p n left rest f s = let h = f false m (suc c) s.1 in omega arith
seen_count Request true m c t p n left rest f s = let h = f false m c s in omega arith
seen_count Request false m c t p n left rest f s = let h = f false (suc m) 0 s in omega arith
seen_count Confirmation true m c t p n left rest f s = let h = f false m c s in omega arith
seen_count Confirmation false m c t p n left rest f s = absurd s

walk_count : (kind : Body → Kind) (p : ℕ → List Body) (n : ℕ) (ts : List Body) (own : Bool) (m c : ℕ) → Walk kind p n own m c ts → m + handshake_count kind ts ≡ n + one own
walk_count kind p n [] own m c h = meets_count p n own m c h
walk_count kind p n (t ∷ ts) own m c h = seen_count (kind t) own m c t p n (handshake_count kind ts) (λ o i j. Walk kind p n o i j ts) (λ o i j h'. walk_count kind p n ts o i j h') h

-- in both pipes together there are as many as ends that wait
pub on_the_way : (kind : Body → Kind) (I : Type 0) (start : I) (Good : Two I → Type 0) (w : Two (Side I)) → Inv kind I start Good w
    → handshake_count kind w.out + handshake_count kind w.back ≡ one w.me.own + one w.you.own
on_the_way kind I start Good w i =
    let f = walk_count kind w.me.put w.me.number w.out w.you.own w.you.number (w.you.came w.you.number) i.fore.walk in
    let a = walk_count kind w.you.put w.you.number w.back w.me.own w.me.number (w.me.came w.me.number) i.aft.walk in
    omega arith

-- ---- the tail of a pipe that is payload

drop_all : (xs : List Body) (c : ℕ) → c ≡ length xs → drop c xs ≡ []
drop_all [] c e = ap (λ (k : ℕ). drop {A = Body} k []) e
drop_all (x ∷ xs) c e = ap (λ (k : ℕ). drop k (x ∷ xs)) e ∙ drop_all xs (length xs) refl

-- heard by an end that does not wait, it is what the sender put and has not come
plain_tail : (kind : Body → Kind) (p : ℕ → List Body) (n : ℕ) (ts : List Body) (m c : ℕ) → AllPayload kind ts → m ≡ n → Walk kind p n false m c ts → drop c (p m) ≡ ts
plain_tail kind p n [] m c all e h = drop_all (p m) c (h.1 ∙ ap (λ (k : ℕ). length (p k)) (sym e))
plain_tail kind p n (t ∷ ts) m c all e h =
    let s = subst (λ (k : Kind). Seen k false m c t p (λ o i j. Walk kind p n o i j ts)) all.0 h in
    drop_get (p m) c t s.0 ∙ ap (λ (l : List Body). t ∷ l) (plain_tail kind p n ts m (suc c) all.1 e s.1)

-- a list that ends with another one
abbrev pub Tail : List Body → List Body → Type 0
Tail whole tail = (keep : List Body) × (whole ≡ keep ++ tail)

payload_none : (kind : Body → Kind) (ts : List Body) → AllPayload kind ts → handshake_count kind ts ≡ 0
payload_none kind [] all = refl
payload_none kind (t ∷ ts) all = let a = ap (λ (k : Kind). counted k) all.0 in let b = payload_none kind ts all.1 in omega arith

plain_end : (kind : Body → Kind) (p : ℕ → List Body) (n : ℕ) (ts : List Body) (own : Bool) (m c : ℕ) → AllPayload kind ts → m ≡ n → Walk kind p n own m c ts → Tail (drop c (p m)) ts
plain_end kind p n ts false m c all e h = ([], plain_tail kind p n ts m c all e h)
plain_end kind p n ts true m c all e h =
    let k = walk_count kind p n ts true m c h in
    let z = payload_none kind ts all in
    let no : ⊥ = omega arith in absurd no

longer : (xs ts : List Body) (c : ℕ) (t : Body) → slice_get xs c ≡ Some t → Tail (drop (suc c) xs) ts → Tail (drop c xs) ts
longer xs ts c t got h = (t ∷ h.0, drop_get xs c t got ∙ ap (λ (l : List Body). t ∷ l) h.1)

seen_tail : (k : Kind) (own : Bool) (m c : ℕ) (t : Body) (p : ℕ → List Body) (n : ℕ) (ts : List Body) (rest : Bool → ℕ → ℕ → Type 0)
    → ((o : Bool) (j : ℕ) → rest o m j → Tail (drop j (p m)) ts) → (rest false (suc m) 0 → suc m ≤ n) → m ≡ n → Seen k own m c t p rest → Tail (drop c (p m)) ts
seen_tail Payload true m c t p n ts rest f g e s = f true c s
seen_tail Payload false m c t p n ts rest f g e s = longer (p m) ts c t s.0 (f false (suc c) s.1)
seen_tail Request true m c t p n ts rest f g e s = f false c s
seen_tail Request false m c t p n ts rest f g e s = let h = g s in let no : ⊥ = omega arith in absurd no
seen_tail Confirmation true m c t p n ts rest f g e s = f false c s
seen_tail Confirmation false m c t p n ts rest f g e s = absurd s

-- a tail of payload, to an end that is in the sender's number, is of that number
walk_tail : (kind : Body → Kind) (p : ℕ → List Body) (n : ℕ) (ks ts : List Body) (own : Bool) (m c : ℕ) → AllPayload kind ts → m ≡ n → Walk kind p n own m c (ks ++ ts) → Tail (drop c (p m)) ts
walk_tail kind p n [] ts own m c all e h = plain_end kind p n ts own m c all e h
walk_tail kind p n (k ∷ ks) ts own m c all e h =
    seen_tail (kind k) own m c k p n ts (λ o i j. Walk kind p n o i j (ks ++ ts)) (λ o j h'. walk_tail kind p n ks ts o m j all e h') (λ h'. walk_reach kind p n (ks ++ ts) (suc m) 0 h') e h

at_now : {I : Type 0} → (s : Side I) (k : ℕ) → k ≡ s.number → at s k ≡ s.now
at_now s k e = ap (λ (b : Bool). cond b s.now (s.past k)) (eq-eqb k s.number e)

-- where the last packet to an end is payload that it will hear, both ends are in the same number, that packet is all that comes
-- to it there, and the payload that it owes is at the end of what goes
pub inside : (kind : Body → Kind) (I : Type 0) (start : I) (Good : Two I → Type 0) (x y : Side I) (ks ts : List Body) (b : Body) → Inv kind I start Good (record { me = x; you = y; out = ks ++ ts; back = b ∷ [] })
    → x.own ≡ false → kind b ≡ Payload → AllPayload kind ts → (keep : List Body) × Good (record { me = x.now; you = y.now; out = keep ++ ts; back = b ∷ [] })
inside kind I start Good x y ks ts b i ready plain all =
    let walk : Walk kind y.put y.number false x.number (x.came x.number) (b ∷ []) = subst (λ (o : Bool). Walk kind y.put y.number o x.number (x.came x.number) (b ∷ [])) ready i.aft.walk in
    let none = payload_none kind (b ∷ []) (plain, tt) in
    let count = walk_count kind y.put y.number (b ∷ []) false x.number (x.came x.number) walk in
    let e : x.number ≡ y.number = omega arith in
    let back : drop (x.came x.number) (y.put x.number) ≡ b ∷ [] = plain_tail kind y.put y.number (b ∷ []) x.number (x.came x.number) (plain, tt) e walk in
    let t = walk_tail kind x.put x.number ks ts y.own y.number (y.came y.number) all (sym e) i.fore.walk in
    let out : drop (y.came x.number) (x.put x.number) ≡ t.0 ++ ts = ap (λ (k : ℕ). drop (y.came k) (x.put k)) e ∙ t.1 in (
      t.0,
      subst (λ (l : List Body). Good (record { me = x.now; you = y.now; out = t.0 ++ ts; back = l })) back
          (subst (λ (l : List Body). Good (record { me = x.now; you = y.now; out = l; back = drop (x.came x.number) (y.put x.number) })) out
          (subst (λ (v : I). Good (record { me = x.now; you = v; out = drop (y.came x.number) (x.put x.number); back = drop (x.came x.number) (y.put x.number) })) (at_now y x.number e)
          (subst (λ (v : I). Good (record { me = v; you = at y x.number; out = drop (y.came x.number) (x.put x.number); back = drop (x.came x.number) (y.put x.number) })) (at_now x x.number refl) (i.inners x.number)))),
    )
