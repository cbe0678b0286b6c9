-- Cases of tests and phases, and facts of each frame of a list.
use Rattle.std.specs.Prelude.{◌≡◌, ℕ, zero, suc, Bool, true, false, List, [], ◌∷◌, ◌++◌, length, Some, slice_get}
use Rattle.std.proofs.Common.{refl}
use Rattle.frame_codec.specs.Frame.{FrameValue}
use Rattle.lapb.specs.declared.phase.Phase.{Phase}
use Rattle.lapb.specs.Machine.{Octets}
use Rattle.lapb.specs.World.{kept_of, IsPrefix}

-- a test, by its answers
pub cond_by : (P : Bool → Type 0) (b : Bool) → (b ≡ true → P true) → (b ≡ false → P false) → P b
cond_by P true f g = f refl
cond_by P false f g = g refl

pub phase_by : (P : Phase → Type 0) (p : Phase) → (p ≡ Phase.Down → P Phase.Down) → (p ≡ Phase.SettingUp → P
    Phase.SettingUp) →
    (p ≡ Phase.Up → P Phase.Up) → (p ≡ Phase.Rejecting → P Phase.Rejecting) → P p
phase_by P Phase.Down a b c d = a refl
phase_by P Phase.SettingUp a b c d = b refl
phase_by P Phase.Up a b c d = c refl
phase_by P Phase.Rejecting a b c d = d refl

-- ---- each frame of a list

abbrev pub Each : (FrameValue → Type 0) → List FrameValue → Type 0
Each P [] = Unit {0}
Each P (frame ∷ frames) = P frame × Each P frames

pub each-kept : (P : FrameValue → Type 0) (kept : List Bool) (frames : List FrameValue) → Each P frames → Each P
    (kept_of kept frames)
each-kept P [] frames all = all
each-kept P (b ∷ kept) [] all = tt
each-kept P (true ∷ kept) (frame ∷ frames) all = (all.0, each-kept P kept frames all.1)
each-kept P (false ∷ kept) (frame ∷ frames) all = each-kept P kept frames all.1

pub each-weaken : (P Q : FrameValue → Type 0) → ((frame : FrameValue) → P frame → Q frame) → (frames : List
    FrameValue) →
    Each P frames → Each Q frames
each-weaken P Q f [] all = tt
each-weaken P Q f (frame ∷ frames) all = (f frame all.0, each-weaken P Q f frames all.1)

-- ---- places in lists

pub slice_get-append : (xs ys : List Octets) (i : ℕ) (x : Octets) → slice_get xs i ≡ Some x → slice_get (xs ++ ys) i ≡
    Some x
slice_get-append [] ys i x e = absurd (cc)
slice_get-append (y ∷ xs) ys zero x e = e
slice_get-append (y ∷ xs) ys (suc i) x e = slice_get-append xs ys i x e

pub prefix-refl : (xs : List Octets) → IsPrefix [] xs
prefix-refl xs = (xs, refl)

pub prefix-append : (xs ys zs : List Octets) → IsPrefix xs ys → IsPrefix xs (ys ++ zs)
prefix-append [] ys zs p = (ys ++ zs, refl)
prefix-append (x ∷ xs) [] zs p = absurd (cc (p.1))
prefix-append (x ∷ xs) (y ∷ ys) zs p =
    let tail : IsPrefix xs ys = (p.0, cc (p.1)) in
    let more : IsPrefix xs (ys ++ zs) = prefix-append xs ys zs tail in
    let head : x ≡ y = cc (p.1) in
    (more.0, cc (more.1, head))

-- a prefix goes on with the element at its length
pub prefix-next : (xs ys : List Octets) (x : Octets) → IsPrefix xs ys → slice_get ys (length xs) ≡ Some x → IsPrefix
    (xs ++ x ∷ []) ys
prefix-next [] [] x p e = absurd (cc)
prefix-next [] (y ∷ ys) x p e = (ys, cc)
prefix-next (z ∷ xs) [] x p e = absurd (cc)
prefix-next (z ∷ xs) (y ∷ ys) x p e =
    let tail : IsPrefix xs ys = (p.0, cc (p.1)) in
    let more : IsPrefix (xs ++ x ∷ []) ys = prefix-next xs ys x tail e in
    let head : z ≡ y = cc (p.1) in
    (more.0, cc (more.1, head))
