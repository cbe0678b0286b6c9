-- The handshake keeps what holds inside of it, number by number, whatever its ends do.
use Rattle.std.proofs.Common.{◌≡◌, ℕ, zero, suc, ◌<◌, ◌≤◌, Bool, true, false, cond, ◌==◌, List, [], ◌∷◌, ◌++◌, length, drop, slice_get, Option, Some, None, refl, sym, ap, subst, ◌∙◌, append-nil, arith, length-append}
use Rattle.std.proofs.lemmas.Bool.{eq-eqb, ne_eqb, eqb-true}
use Rattle.std.proofs.lemmas.List.{drop-append-le}
use Rattle.std.proofs.lemmas.Option.{slice_get_within}
use Rattle.data_transfer.specs.Packets.{Body}
use Rattle.packet_laws.proofs.Handshakes.Handshake.{Kind, Side, Two, Did, said, does, at, inner, puts, acted, reacted, advanced, side_hears, side_ok, Meets, Seen, Walk, Later, Half, Inv, AllPayload, SaysPayload, turned_two}
use Rattle.packet_laws.proofs.Handshakes.Handshake.Kind.{Payload, Request, Confirmation}
use Rattle.packet_laws.proofs.Handshakes.Walks.{Grows, walk_split, walk_push, walk_meets, walk_reach, walk_begin, payload_end, NumbersMeet}

-- ---- lists

pub same : (n : ℕ) → (n == n) ≡ true
same n = eq-eqb n n refl

said_drop : (o : Option Body) (c : ℕ) (xs : List Body) → c ≤ length xs → drop c (said o xs) ≡ said o (drop c xs)
said_drop None c xs le = refl
said_drop (Some b) c xs le = drop-append-le c xs (b ∷ []) le

said_length : (o : Option Body) (xs : List Body) → length xs ≤ length (said o xs)
said_length None xs = omega arith
said_length (Some b) xs = let e = length-append xs (b ∷ []) in omega arith

pub get_append : (xs ys : List Body) (i : ℕ) (t : Body) → slice_get xs i ≡ Some t → slice_get (xs ++ ys) i ≡ Some t
get_append [] ys i t e = absurd cc
get_append (x ∷ xs) ys zero t e = e
get_append (x ∷ xs) ys (suc i) t e = get_append xs ys i t e

get_said : (o : Option Body) (xs : List Body) (i : ℕ) (t : Body) → slice_get xs i ≡ Some t → slice_get (said o xs) i ≡ Some t
get_said None xs i t e = e
get_said (Some b) xs i t e = get_append xs (b ∷ []) i t e

get_last : (xs : List Body) (b : Body) → slice_get (xs ++ b ∷ []) (length xs) ≡ Some b
get_last [] b = refl
get_last (x ∷ xs) b = get_last xs b

some_of : Body → Option Body
some_of t = Some t

head_is : (x t : Body) → Some x ≡ Some t → x ≡ t
head_is x t e = cc

pub drop_get : (xs : List Body) (c : ℕ) (t : Body) → slice_get xs c ≡ Some t → drop c xs ≡ t ∷ drop (suc c) xs
drop_get [] c t e = absurd cc
drop_get (x ∷ xs) zero t e = ap (λ (y : Body). y ∷ xs) (head_is x t e)
drop_get (x ∷ xs) (suc c) t e = drop_get xs c t e

-- ---- payload put

grows_pick : (b : Bool) (o : Option Body) (xs : List Body) (i : ℕ) (t : Body) → slice_get xs i ≡ Some t → slice_get (cond b (said o xs) xs) i ≡ Some t
grows_pick true o xs i t e = get_said o xs i t e
grows_pick false o xs i t e = e

grows_puts : (o : Option Body) (n : ℕ) (p : ℕ → List Body) → Grows p (λ k. puts o n p k)
grows_puts o n p k i t e = grows_pick (k == n) o (p k) i t e

grows_same : (p : ℕ → List Body) → Grows p p
grows_same p k i t e = e

length_pick : (b : Bool) (o : Option Body) (xs : List Body) → length xs ≤ length (cond b (said o xs) xs)
length_pick true o xs = said_length o xs
length_pick false o xs = omega arith

puts_here : (o : Option Body) (n : ℕ) (p : ℕ → List Body) → puts o n p n ≡ said o (p n)
puts_here o n p = ap (λ (b : Bool). cond b (said o (p n)) (p n)) (same n)

puts_other : (o : Option Body) (n k : ℕ) (p : ℕ → List Body) → (k ≡ n → ⊥) → puts o n p k ≡ p k
puts_other o n k p ne = ap (λ (b : Bool). cond b (said o (p k)) (p k)) (ne_eqb k n ne)

push_payload : (kind : Body → Kind) (b : Body) → kind b ≡ Payload → (p : ℕ → List Body) (n : ℕ) (own : Bool) (m c : ℕ) → Meets p n own m c → Walk kind (λ k. puts (Some b) n p k) n own m c (b ∷ [])
push_payload kind b e p n true m c h =
    let q : ℕ → List Body = λ k. puts (Some b) n p k in
    subst (λ (k : Kind). Seen k true m c b q (λ o i j. Meets q n o i j)) (sym e) h
push_payload kind b e p n false m c h =
    let q : ℕ → List Body = λ k. puts (Some b) n p k in
    let here : q n ≡ p n ++ b ∷ [] = puts_here (Some b) n p in
    let got : slice_get (q m) c ≡ Some b =
    subst (λ (i : ℕ). slice_get (q i) c ≡ Some b) (sym h.0)
    (subst (λ (j : ℕ). slice_get (q n) j ≡ Some b) (sym h.1)
    (subst (λ (l : List Body). slice_get l (length (p n)) ≡ Some b) (sym here) (get_last (p n) b))) in
    let len : suc c ≡ length (q n) = ap suc h.1 ∙ (let e1 = length-append (p n) (b ∷ []) in let e2 = ap (λ (l : List Body). length l) here in omega arith) in
    subst (λ (k : Kind). Seen k false m c b q (λ o i j. Meets q n o i j)) (sym e) (got, (h.0, len))

meets_none : (n : ℕ) (p : ℕ → List Body) (own : Bool) (m c : ℕ) → Meets p n own m c → Meets (λ k. puts None n p k) n own m c
meets_none n p true m c h = h
meets_none n p false m c h = (h.0, h.1 ∙ ap (λ (l : List Body). length l) (sym (puts_here None n p)))

act_walk : (kind : Body → Kind) (o : Option Body) → SaysPayload kind o → (p : ℕ → List Body) (n : ℕ) (own : Bool) (m c : ℕ) (out : List Body)
    → Walk kind p n own m c out → Walk kind (λ k. puts o n p k) n own m c (said o out)
act_walk kind None pay p n own m c out h = walk_meets kind p (λ k. puts None n p k) n n 0 (grows_puts None n p) out (λ o i j le m'. meets_none n p o i j m') own m c (omega arith) h
act_walk kind (Some b) pay p n own m c out h = walk_push kind p (λ k. puts (Some b) n p k) n n 0 (grows_puts (Some b) n p) out (b ∷ []) (λ o i j le m'. push_payload kind b pay p n o i j m') own m c (omega arith) h

-- ---- an end does something inside

act_case : (I : Type 0) (Good : Two I → Type 0) (b : Bool) (now past_k y : I) (d : Did I) (put_k back : List Body) (c : ℕ) → c ≤ length put_k
    → ((z : I) (o l : List Body) → Good (record { me = now; you = z; out = o; back = l }) → Good (record { me = d.end_; you = z; out = said d.says o; back = l }))
    → Good (record { me = cond b now past_k; you = y; out = drop c put_k; back = back })
    → Good (record { me = cond b d.end_ past_k; you = y; out = drop c (cond b (said d.says put_k) put_k); back = back })
act_case I Good true now past_k y d put_k back c le keeps g = subst (λ (o : List Body). Good (record { me = d.end_; you = y; out = o; back = back })) (sym (said_drop d.says c put_k le)) (keeps y (drop c put_k) back g)
act_case I Good false now past_k y d put_k back c le keeps g = g

above_ne : (n k : ℕ) → n < k → k ≡ n → ⊥
above_ne n k lt e = omega arith

pub keeps_acts : (kind : Body → Kind) (I : Type 0) (start : I) (Good : Two I → Type 0) (w : Two (Side I)) (d : Did I) → SaysPayload kind d.says
    → ((z : I) (o l : List Body) → Good (record { me = w.me.now; you = z; out = o; back = l }) → Good (record { me = d.end_; you = z; out = said d.says o; back = l }))
    → Inv kind I start Good w → Inv kind I start Good (does w (acted d w.me))
keeps_acts kind I start Good w d pay keeps i = record {
  fore = record {
    walk = act_walk kind d.says pay w.me.put w.me.number w.you.own w.you.number (w.you.came w.you.number) w.out i.fore.walk;
    within = λ k. let a = i.fore.within k in let b = length_pick (k == w.me.number) d.says (w.me.put k) in omega arith;
    later = λ k lt. let h = i.fore.later k lt in (puts_other d.says w.me.number k w.me.put (above_ne w.me.number k lt) ∙ h.0, h.1, h.2);
  };
  aft = record { walk = i.aft.walk; within = i.aft.within; later = i.aft.later };
  inners = λ k. act_case I Good (k == w.me.number) w.me.now (w.me.past k) (at w.you k) d (w.me.put k) (drop (w.me.came k) (w.you.put k)) (w.you.came k) (i.fore.within k) keeps (i.inners k);
}

-- ---- payload comes

react_case : (I : Type 0) (Good : Two I → Type 0) (b : Bool) (now past_k y : I) (d : Did I) (t : Body) (put_k yput : List Body) (cy cx : ℕ) → cy ≤ length put_k → (b ≡ true → slice_get yput cx ≡ Some t)
    → ((z : I) (o l : List Body) → Good (record { me = now; you = z; out = o; back = t ∷ l }) → Good (record { me = d.end_; you = z; out = said d.says o; back = l }))
    → Good (record { me = cond b now past_k; you = y; out = drop cy put_k; back = drop cx yput })
    → Good (record { me = cond b d.end_ past_k; you = y; out = drop cy (cond b (said d.says put_k) put_k); back = drop (cond b (suc cx) cx) yput })
react_case I Good true now past_k y d t put_k yput cy cx le got keeps g =
    subst (λ (o : List Body). Good (record { me = d.end_; you = y; out = o; back = drop (suc cx) yput })) (sym (said_drop d.says cy put_k le))
    (keeps y (drop cy put_k) (drop (suc cx) yput) (subst (λ (l : List Body). Good (record { me = now; you = y; out = drop cy put_k; back = l })) (drop_get yput cx t (got refl)) g))
react_case I Good false now past_k y d t put_k yput cy cx le got keeps g = g

came_case : (b : Bool) (yput : List Body) (c : ℕ) (t : Body) → (b ≡ true → slice_get yput c ≡ Some t) → c ≤ length yput → cond b (suc c) c ≤ length yput
came_case true yput c t got le = let h = slice_get_within yput c t (got refl) in omega arith
came_case false yput c t got le = le

pub keeps_reacts : (kind : Body → Kind) (I : Type 0) (start : I) (Good : Two I → Type 0) (x y : Side I) (out : List Body) (t : Body) (ts : List Body) (d : Did I) → SaysPayload kind d.says
    → ((z : I) (o l : List Body) → Good (record { me = x.now; you = z; out = o; back = t ∷ l }) → Good (record { me = d.end_; you = z; out = said d.says o; back = l }))
    → slice_get (y.put x.number) (x.came x.number) ≡ Some t
    → Walk kind y.put y.number x.own x.number (suc (x.came x.number)) ts
    → Half kind I start x y out → ((k : ℕ) → x.came k ≤ length (y.put k)) → ((k : ℕ) → y.number < k → Later I start y.put y.came y.past k) → ((k : ℕ) → Good (inner x y k))
    → Inv kind I start Good (does (record { me = x; you = y; out = out; back = ts }) (reacted d x))
keeps_reacts kind I start Good x y out t ts d pay keeps got walk fore within later inners =
    let at_k : (k : ℕ) → (k == x.number) ≡ true → slice_get (y.put k) (x.came k) ≡ Some t = λ k e. subst (λ (j : ℕ). slice_get (y.put j) (x.came j) ≡ Some t) (sym (eqb-true k x.number e)) got in
    record {
      fore = record {
        walk = act_walk kind d.says pay x.put x.number y.own y.number (y.came y.number) out fore.walk;
        within = λ k. let a = fore.within k in let b = length_pick (k == x.number) d.says (x.put k) in omega arith;
        later = λ k lt. let h = fore.later k lt in (
          puts_other d.says x.number k x.put (above_ne x.number k lt) ∙ h.0,
          ap (λ (b : Bool). cond b (suc (x.came k)) (x.came k)) (ne_eqb k x.number (above_ne x.number k lt)) ∙ h.1,
          h.2,
        );
      };
      aft = record {
        walk = subst (λ (c : ℕ). Walk kind y.put y.number x.own x.number c ts) (sym (ap (λ (b : Bool). cond b (suc (x.came x.number)) (x.came x.number)) (same x.number))) walk;
        within = λ k. came_case (k == x.number) (y.put k) (x.came k) t (at_k k) (within k);
        later = later;
      };
      inners = λ k. react_case I Good (k == x.number) x.now (x.past k) (at y k) d t (x.put k) (y.put k) (y.came k) (x.came k) (fore.within k) (at_k k) keeps (inners k);
    }

-- ---- the next number

pub at_next : (I : Type 0) (start : I) (own : Bool) (x : Side I) (k : ℕ) → ((j : ℕ) → x.number < j → x.past j ≡ start) → at (advanced start own x) k ≡ at x k
at_next I start own x k later = at_case (k == suc x.number) refl
  where
    at_case : (b : Bool) → (k == suc x.number) ≡ b → cond b start (cond (k == x.number) x.now (x.past k)) ≡ cond (k == x.number) x.now (x.past k)
    at_case false e = refl
    at_case true e =
        let k_is : k ≡ suc x.number = eqb-true k (suc x.number) e in
        let ne : k ≡ x.number → ⊥ = λ f. omega arith in
        sym (later k (omega arith)) ∙ sym (ap (λ (b : Bool). cond b x.now (x.past k)) (ne_eqb k x.number ne))

past_next : (I : Type 0) (start : I) (x : Side I) (k : ℕ) → suc x.number < k → x.past k ≡ start → cond (k == x.number) x.now (x.past k) ≡ start
past_next I start x k lt e = let ne : k ≡ x.number → ⊥ = λ f. omega arith in ap (λ (b : Bool). cond b x.now (x.past k)) (ne_eqb k x.number ne) ∙ e

push_request : (kind : Body → Kind) (req : Body) → kind req ≡ Request → (p : ℕ → List Body) (n : ℕ) → p (suc n) ≡ [] → (own : Bool) (m c : ℕ) → NumbersMeet n own m c → Walk kind p (suc n) own m c (req ∷ [])
push_request kind req e p n none true m c h =
    subst (λ (k : Kind). Seen k true m c req p (λ o i j. Meets p (suc n) o i j)) (sym e) (h.0, h.1 ∙ sym (ap (λ (l : List Body). length l) none))
push_request kind req e p n none false m c h =
    subst (λ (k : Kind). Seen k false m c req p (λ o i j. Meets p (suc n) o i j)) (sym e) (ap suc h, sym (ap (λ (l : List Body). length l) none))

push_confirmation : (kind : Body → Kind) (conf : Body) → kind conf ≡ Confirmation → (p : ℕ → List Body) (n : ℕ) → p (suc n) ≡ [] → (own : Bool) (m c : ℕ) → suc n ≤ m → NumbersMeet n own m c → Walk kind p (suc n) own m c (conf ∷ [])
push_confirmation kind conf e p n none true m c le h =
    subst (λ (k : Kind). Seen k true m c conf p (λ o i j. Meets p (suc n) o i j)) (sym e) (h.0, h.1 ∙ sym (ap (λ (l : List Body). length l) none))
push_confirmation kind conf e p n none false m c le h = let n : ⊥ = omega arith in absurd n

-- what the next number keeps, whichever way it began
next_half : (kind : Body → Kind) (I : Type 0) (start : I) (own : Bool) (x y : Side I) (keep cut out : List Body) → Half kind I start x y (keep ++ cut)
    → Walk kind x.put (suc x.number) y.own y.number (y.came y.number) out → Half kind I start (advanced start own x) y out
next_half kind I start own x y keep cut out fore walk = record {
  walk = walk;
  within = fore.within;
  later = λ k lt. let h = fore.later k (omega arith) in (h.0, h.1, past_next I start x k lt h.2);
}

next_inner : (I : Type 0) (start : I) (Good : Two I → Type 0) (own : Bool) (x y : Side I) → ((j : ℕ) → x.number < j → x.past j ≡ start) → (k : ℕ) → Good (inner x y k) → Good (inner (advanced start own x) y k)
next_inner I start Good own x y later k g = subst (λ (e : I). Good (record { me = e; you = at y k; out = drop (y.came k) (x.put k); back = drop (x.came k) (y.put k) })) (sym (at_next I start own x k later)) g

-- this end begins a handshake, and drops a tail of its payload that has not left it
pub keeps_begins : (kind : Body → Kind) (I : Type 0) (start : I) (Good : Two I → Type 0) (req : Body) → kind req ≡ Request → (x y : Side I) (keep cut back : List Body) → AllPayload kind cut → x.own ≡ false
    → Inv kind I start Good (record { me = x; you = y; out = keep ++ cut; back = back })
    → Inv kind I start Good (record { me = advanced start true x; you = y; out = keep ++ req ∷ []; back = back })
keeps_begins kind I start Good req is_req x y keep cut back pay ready i =
    let next : ℕ = suc x.number in
    let late = i.fore.later next (omega arith) in
    let aft_walk : Walk kind y.put y.number false x.number (x.came x.number) back = subst (λ (b : Bool). Walk kind y.put y.number b x.number (x.came x.number) back) ready i.aft.walk in
    record {
      fore = next_half kind I start true x y keep cut (keep ++ req ∷ []) i.fore
          (walk_split kind x.put x.put x.number next 0 (grows_same x.put) keep cut (req ∷ []) (λ o m c le h. push_request kind req is_req x.put x.number late.0 o m c (payload_end kind x.put x.number cut pay o m c h)) y.own y.number (y.came y.number) (omega arith) i.fore.walk);
      aft = record {
        walk = subst (λ (c : ℕ). Walk kind y.put y.number true next c back) (sym late.1) (walk_begin kind y.put y.number back x.number (x.came x.number) aft_walk);
        within = i.aft.within;
        later = i.aft.later;
      };
      inners = λ k. next_inner I start Good true x y (λ j lt. (i.fore.later j lt).2) k (i.inners k);
    }

-- this end learns of one, and drops such a tail
pub keeps_learns : (kind : Body → Kind) (I : Type 0) (start : I) (Good : Two I → Type 0) (conf t : Body) → kind conf ≡ Confirmation → kind t ≡ Request → (x y : Side I) (keep cut ts : List Body) → AllPayload kind cut → x.own ≡ false
    → Inv kind I start Good (record { me = x; you = y; out = keep ++ cut; back = t ∷ ts })
    → Inv kind I start Good (record { me = advanced start false x; you = y; out = keep ++ conf ∷ []; back = ts })
keeps_learns kind I start Good conf t is_conf is_req x y keep cut ts pay ready i =
    let next : ℕ = suc x.number in
    let late = i.fore.later next (omega arith) in
    let walk0 : Seen (kind t) false x.number (x.came x.number) t y.put (λ o k d. Walk kind y.put y.number o k d ts) = subst (λ (b : Bool). Walk kind y.put y.number b x.number (x.came x.number) (t ∷ ts)) ready i.aft.walk in
    let walk1 : Walk kind y.put y.number false next 0 ts = subst (λ (k : Kind). Seen k false x.number (x.came x.number) t y.put (λ o k d. Walk kind y.put y.number o k d ts)) is_req walk0 in
    let reach : next ≤ y.number = walk_reach kind y.put y.number ts next 0 walk1 in
    record {
      fore = next_half kind I start false x y keep cut (keep ++ conf ∷ []) i.fore
          (walk_split kind x.put x.put x.number next y.number (grows_same x.put) keep cut (conf ∷ [])
          (λ o m c le h. push_confirmation kind conf is_conf x.put x.number late.0 o m c (omega arith) (payload_end kind x.put x.number cut pay o m c h)) y.own y.number (y.came y.number) (omega arith) i.fore.walk);
      aft = record {
        walk = subst (λ (c : ℕ). Walk kind y.put y.number false next c ts) (sym late.1) walk1;
        within = i.aft.within;
        later = i.aft.later;
      };
      inners = λ k. next_inner I start Good false x y (λ j lt. (i.fore.later j lt).2) k (i.inners k);
    }

-- ---- a packet is heard

hear_at : (kind : Body → Kind) (I : Type 0) (start : I) (Good : Two I → Type 0) (conf : Body) → kind conf ≡ Confirmation
    → (hear : I → Body → Did I) (ok : I → Body → Type 0) → ((e : I) (b : Body) → SaysPayload kind (hear e b).says)
    → ((v : Two I) (t : Body) (ts : List Body) → Good (record v { back = t ∷ ts }) → ok v.me t × Good (does (record v { back = ts }) (hear v.me t)))
    → (k : Kind) (own : Bool) (x y : Side I) (out : List Body) (t : Body) (ts : List Body) → kind t ≡ k
    → Inv kind I start Good (record { me = record x { own = own }; you = y; out = out; back = t ∷ ts })
    → side_ok ok k own x t × Inv kind I start Good (does (record { me = record x { own = own }; you = y; out = out; back = ts }) (side_hears conf start hear k own (record x { own = own }) t))
hear_at kind I start Good conf is_conf hear ok pay hears Payload true x y out t ts e i =
    let s : Walk kind y.put y.number true x.number (x.came x.number) ts = subst (λ (k : Kind). Seen k true x.number (x.came x.number) t y.put (λ o k d. Walk kind y.put y.number o k d ts)) e i.aft.walk in
    (tt, record { fore = i.fore; aft = record { walk = s; within = i.aft.within; later = i.aft.later }; inners = i.inners })
hear_at kind I start Good conf is_conf hear ok pay hears Payload false x y out t ts e i =
    let s : (slice_get (y.put x.number) (x.came x.number) ≡ Some t) × Walk kind y.put y.number false x.number (suc (x.came x.number)) ts = subst (λ (k : Kind). Seen k false x.number (x.came x.number) t y.put (λ o k d. Walk kind y.put y.number o k d ts)) e i.aft.walk in
    let now_good : Good (record { me = x.now; you = at y x.number; out = drop (y.came x.number) (x.put x.number); back = t ∷ drop (suc (x.came x.number)) (y.put x.number) }) =
    subst (λ (l : List Body). Good (record { me = x.now; you = at y x.number; out = drop (y.came x.number) (x.put x.number); back = l })) (drop_get (y.put x.number) (x.came x.number) t s.0)
    (subst (λ (b : Bool). Good (record { me = cond b x.now (x.past x.number); you = at y x.number; out = drop (y.came x.number) (x.put x.number); back = drop (x.came x.number) (y.put x.number) })) (same x.number) (i.inners x.number)) in
    let okay = hears (record { me = x.now; you = at y x.number; out = drop (y.came x.number) (x.put x.number); back = [] }) t (drop (suc (x.came x.number)) (y.put x.number)) now_good in (
      okay.0,
      keeps_reacts kind I start Good (record x { own = false }) y out t ts (hear x.now t) (pay x.now t)
          (λ z o l g. (hears (record { me = x.now; you = z; out = o; back = [] }) t l g).1) s.0 s.1 i.fore i.aft.within i.aft.later i.inners,
    )
hear_at kind I start Good conf is_conf hear ok pay hears Request true x y out t ts e i =
    let s : Walk kind y.put y.number false x.number (x.came x.number) ts = subst (λ (k : Kind). Seen k true x.number (x.came x.number) t y.put (λ o k d. Walk kind y.put y.number o k d ts)) e i.aft.walk in
    (tt, record { fore = record { walk = i.fore.walk; within = i.fore.within; later = i.fore.later }; aft = record { walk = s; within = i.aft.within; later = i.aft.later }; inners = i.inners })
hear_at kind I start Good conf is_conf hear ok pay hears Request false x y out t ts e i = (
  tt,
  keeps_learns kind I start Good conf t is_conf e (record x { own = false }) y out [] ts tt refl
      (subst (λ (o : List Body). Inv kind I start Good (record { me = record x { own = false }; you = y; out = o; back = t ∷ ts })) (sym (append-nil out)) i),
)
hear_at kind I start Good conf is_conf hear ok pay hears Confirmation true x y out t ts e i =
    let s : Walk kind y.put y.number false x.number (x.came x.number) ts = subst (λ (k : Kind). Seen k true x.number (x.came x.number) t y.put (λ o k d. Walk kind y.put y.number o k d ts)) e i.aft.walk in
    (tt, record { fore = record { walk = i.fore.walk; within = i.fore.within; later = i.fore.later }; aft = record { walk = s; within = i.aft.within; later = i.aft.later }; inners = i.inners })
hear_at kind I start Good conf is_conf hear ok pay hears Confirmation false x y out t ts e i =
    absurd (subst (λ (k : Kind). Seen k false x.number (x.came x.number) t y.put (λ o k d. Walk kind y.put y.number o k d ts)) e i.aft.walk)

pub keeps_hears : (kind : Body → Kind) (I : Type 0) (start : I) (Good : Two I → Type 0) (conf : Body) → kind conf ≡ Confirmation
    → (hear : I → Body → Did I) (ok : I → Body → Type 0) → ((e : I) (b : Body) → SaysPayload kind (hear e b).says)
    → ((v : Two I) (t : Body) (ts : List Body) → Good (record v { back = t ∷ ts }) → ok v.me t × Good (does (record v { back = ts }) (hear v.me t)))
    → (w : Two (Side I)) (t : Body) (ts : List Body) → Inv kind I start Good (record w { back = t ∷ ts })
    → side_ok ok (kind t) w.me.own w.me t × Inv kind I start Good (does (record w { back = ts }) (side_hears conf start hear (kind t) w.me.own w.me t))
keeps_hears kind I start Good conf is_conf hear ok pay hears w t ts i = hear_at kind I start Good conf is_conf hear ok pay hears (kind t) w.me.own w.me w.you w.out t ts refl i

-- ---- both ends look at it alike

pub keeps_turned : (kind : Body → Kind) (I : Type 0) (start : I) (Good Back : Two I → Type 0) → ((v : Two I) → Good v → Back (turned_two v)) → (w : Two (Side I)) → Inv kind I start Good w → Inv kind I start Back (turned_two w)
keeps_turned kind I start Good Back turn w i = record { fore = i.aft; aft = i.fore; inners = λ k. turn (inner w.me w.you k) (i.inners k) }
