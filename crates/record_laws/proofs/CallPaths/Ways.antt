-- Ways from the record that placed a call to one with which it was placed onward.
use Rattle.std.proofs.Common.{◌≡◌, ℕ, ◌⊎◌, inl, inr, Bool, true, false, List, Some, refl, sym, ap, subst, ◌∙◌, true≢false, arith}
use Rattle.std.specs.Prelude.{slice_get, map, [], ◌∷◌, zero, suc, if◌then◌else◌}
use Rattle.std.proofs.lemmas.Option.{none-some, same_Some}
use Rattle.record_laws.proofs.Registers.Positions.{IsNth, is_place, place_of}
use Rattle.record_laws.specs.CallPaths.World.{Origin, Join, Plan}
use Rattle.record_laws.specs.CallPaths.Seen.{kind, numbers, CameFrom, IsJoined, Way, JoinIsSeen}
use Rattle.record_laws.specs.CallPaths.Seen.Way.{here, onward}

-- by induction along the way
pub along : (os : List Origin) (js : List Join) (P : ℕ → ℕ → Type 0) → ((x : ℕ) → P x x)
    → ((x y a b : ℕ) → Way os js x y → P x y → CameFrom os a y → IsJoined js a b → P x b) → (x b : ℕ) → Way os js x b → P x b
along os js P first step x b here = first x
along os js P first step x b (onward {y = y} a c w came joined) = step x y a c w (along os js P first step x y w) came joined

-- the first hop
pub record FirstHop (os : List Origin) (js : List Join) (x b : ℕ) : Type 0 where
  pub callee : ℕ
  pub next : ℕ
  pub came : CameFrom os callee x
  pub is_joined : IsJoined js callee next
  pub rest : Way os js next b

pub from_first : (os : List Origin) (js : List Join) (x b : ℕ) → Way os js x b → (x ≡ b) ⊎ FirstHop os js x b
from_first os js = along os js (λ x b. (x ≡ b) ⊎ FirstHop os js x b) (λ x. inl refl) (λ x y a b w h came joined.
    elim h [
      | inl e ↦ inr (record {
        callee = a;
        next = b;
        came = subst (λ (k : ℕ). CameFrom os a k) (sym e) came;
        is_joined = joined;
        rest = here;
      })
      | inr f ↦ inr (record {
        callee = f.callee;
        next = f.next;
        came = f.came;
        is_joined = f.is_joined;
        rest = onward a b f.rest came joined;
      })
    ])

-- the last hop
pub record LastHop (os : List Origin) (js : List Join) (x b : ℕ) : Type 0 where
  pub callee : ℕ
  pub before : ℕ
  pub way : Way os js x before
  pub came : CameFrom os callee before
  pub is_joined : IsJoined js callee b

pub from_last : (os : List Origin) (js : List Join) (x b : ℕ) → Way os js x b → (x ≡ b) ⊎ LastHop os js x b
from_last os js = along os js (λ x b. (x ≡ b) ⊎ LastHop os js x b) (λ x. inl refl)
    (λ x y a b w h came joined. inr (record { callee = a; before = y; way = w; came = came; is_joined = joined }))

-- of two ways with one beginning, the one goes on the other
pub one_way : (os : List Origin) (js : List Join) → ((a b x : ℕ) → CameFrom os a x → CameFrom os b x → a ≡ b)
    → ((a b c : ℕ) → IsJoined js a b → IsJoined js a c → b ≡ c) → (x b : ℕ) → Way os js x b
    → (c : ℕ) → Way os js x c → Way os js b c ⊎ Way os js c b
one_way os js once joined_once = along os js (λ x b. (c : ℕ) → Way os js x c → Way os js b c ⊎ Way os js c b) (λ x c v. inl v)
    (λ x y a b w h came joined c v. elim (h c v) [
      | inr back ↦ inr (onward a b back came joined)
      | inl on ↦ elim (from_first os js y c on) [
        | inl e ↦ inr (onward a b (subst (λ (k : ℕ). Way os js k y) e here) came joined)
        | inr f ↦
            let same : f.callee ≡ a = once f.callee a y f.came came in
            let next : f.next ≡ b = joined_once a f.next b (subst (λ (k : ℕ). IsJoined js k f.next) same f.is_joined) joined in
            inl (subst (λ (k : ℕ). Way os js k c) next f.rest)
      ]
    ])

-- ---- whose a record is

pub get_map : {X Y : Type 0} (f : X → Y) (xs : List X) (i : ℕ) (x : X) → slice_get xs i ≡ Some x → slice_get (map f xs) i ≡ Some (f x)
get_map f [] i x e = absurd (none-some x e)
get_map f (y ∷ ys) zero x e = ap (λ z. Some (f z)) (same_Some y x e)
get_map f (y ∷ ys) (suc i) x e = get_map f ys i x e

user_kind : (plan : Plan) (o : Origin) (u : Bool) → plan.has_user o.line o.role ≡ u → kind plan o ≡ 1 → u ≡ true
user_kind plan o true e k = refl
user_kind plan o false e k =
    let none : kind plan o ≡ 0 = ap (λ (b : Bool). if b then 1 else 0) e in absurd (omega arith)

pub numbered_user : (plan : Plan) (os : List Origin) (n m : ℕ) (o : Origin) → slice_get (numbers plan os) n ≡ Some m → slice_get os m ≡ Some o
    → plan.has_user o.line o.role ≡ true
numbered_user plan os n m o at there =
    user_kind plan o (plan.has_user o.line o.role) refl
    (same_Some (kind plan o) 1 (sym (get_map (kind plan) os m o there) ∙ is_place 1 (map (kind plan) os) n m at))

pub kind_user : (plan : Plan) (o : Origin) → plan.has_user o.line o.role ≡ true → kind plan o ≡ 1
kind_user plan o e = ap (λ (b : Bool). if b then 1 else 0) e

pub user_numbered : (plan : Plan) (os : List Origin) (m : ℕ) (o : Origin) → slice_get os m ≡ Some o → plan.has_user o.line o.role ≡ true
    → IsNth (numbers plan os) m
user_numbered plan os m o there user =
    place_of 1 (map (kind plan) os) m (get_map (kind plan) os m o there ∙ ap (λ (k : ℕ). Some k) (kind_user plan o user))

-- a callee at a user's end is the last: no way goes on from its caller
pub stops : (plan : Plan) (os : List Origin) (js : List Join) → ((a b x : ℕ) → CameFrom os a x → CameFrom os b x → a ≡ b)
    → ((a b : ℕ) → IsJoined js a b → JoinIsSeen plan os a b) → (b c y k : ℕ) → Way os js b c → CameFrom os y b
    → slice_get (numbers plan os) k ≡ Some y → b ≡ c
stops plan os js once seen b c y k w came at =
    elim (from_first os js b c w) [
      | inl e ↦ e
      | inr f ↦
          let same : f.callee ≡ y = once f.callee y b f.came came in
          let j : JoinIsSeen plan os f.callee f.next = seen f.callee f.next f.is_joined in
          let user : plan.has_user j.from.line j.from.role ≡ true =
          numbered_user plan os k y j.from at (ap (λ (i : ℕ). slice_get os i) (sym same) ∙ j.from_there) in
          absurd (true≢false (sym user ∙ j.from_switch))
    ]

pub one_callee : (plan : Plan) (os : List Origin) (js : List Join) → ((a b x : ℕ) → CameFrom os a x → CameFrom os b x → a ≡ b)
    → ((a b c : ℕ) → IsJoined js a b → IsJoined js a c → b ≡ c) → ((a b : ℕ) → IsJoined js a b → JoinIsSeen plan os a b)
    → (x b c y z k l : ℕ) → Way os js x b → Way os js x c → CameFrom os y b → CameFrom os z c
    → slice_get (numbers plan os) k ≡ Some y → slice_get (numbers plan os) l ≡ Some z → y ≡ z
one_callee plan os js once joined_once seen x b c y z k l v w cy cz aty atz =
    elim (one_way os js once joined_once x b v c w) [
      | inl on ↦
          let same : b ≡ c = stops plan os js once seen b c y k on cy aty in
          once y z c (subst (λ (i : ℕ). CameFrom os y i) same cy) cz
      | inr on ↦
          let same : c ≡ b = stops plan os js once seen c b z l on cz atz in
          once y z b cy (subst (λ (i : ℕ). CameFrom os z i) same cz)
    ]

-- ---- a way to a record begins at one user's record

pub record IsUsers (plan : Plan) (os : List Origin) (x : ℕ) : Type 0 where
  pub number : ℕ
  pub numbered : slice_get (numbers plan os) number ≡ Some x

not_joined : (plan : Plan) (os : List Origin) (x : ℕ) (o : Origin) → IsUsers plan os x → slice_get os x ≡ Some o → plan.has_user o.line o.role ≡ false → ⊥
not_joined plan os x o u at switch = true≢false (sym (numbered_user plan os u.number x o u.numbered at) ∙ switch)

same_came : (os : List Origin) (a b x y : ℕ) → a ≡ b → CameFrom os a x → CameFrom os b y → x ≡ y
same_came os a b x y e p q =
    let origin : p.origin ≡ q.origin = same_Some p.origin q.origin (sym p.there ∙ ap (λ (k : ℕ). slice_get os k) e ∙ q.there) in
    same_Some x y (sym p.came ∙ ap (λ (o : Origin). o.caller) origin ∙ q.came)

pub one_first : (plan : Plan) (os : List Origin) (js : List Join) → ((a b c : ℕ) → IsJoined js a c → IsJoined js b c → a ≡ b)
    → ((a b : ℕ) → IsJoined js a b → JoinIsSeen plan os a b) → (x b : ℕ) → Way os js x b
    → (c : ℕ) → Way os js c b → IsUsers plan os x → IsUsers plan os c → x ≡ c
one_first plan os js placed_once seen = along os js (λ x b. (c : ℕ) → Way os js c b → IsUsers plan os x → IsUsers plan os c → x ≡ c)
    (λ x c v ux uc. elim (from_last os js c x v) [
      | inl e ↦ sym e
      | inr l ↦
          let j : JoinIsSeen plan os l.callee x = seen l.callee x l.is_joined in absurd (not_joined plan os x j.to ux j.to_there j.to_switch)
    ])
    (λ x y a b w h came joined c v ux uc. elim (from_last os js c b v) [
      | inl e ↦
          let j : JoinIsSeen plan os a b = seen a b joined in
          absurd (not_joined plan os c j.to uc (ap (λ (k : ℕ). slice_get os k) e ∙ j.to_there) j.to_switch)
      | inr l ↦
          let same : l.callee ≡ a = placed_once l.callee a b l.is_joined joined in
          h c (subst (λ (k : ℕ). Way os js c k) (same_came os l.callee a l.before y same l.came came) l.way) ux uc
    ])
