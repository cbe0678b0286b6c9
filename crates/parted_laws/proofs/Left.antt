-- What is left of frames when some were lost.
use Rattle.std.proofs.Common.{◌≡◌, ℕ, zero, suc, List, [], ◌∷◌, ◌++◌, drop, refl, sym, subst}
use Rattle.lapb.specs.Machine.{Octets}
use Rattle.parted_laws.specs.Processes.{IsLeftOf, joined}
use Rattle.parted_laws.specs.Processes.IsLeftOf.{nothing, stays, goes}
use Rattle.std.proofs.Common.{Bool, true, false}

pub all_left : (frames : List Octets) → IsLeftOf frames frames
all_left [] = nothing
all_left (f ∷ fs) = stays f (all_left fs)

pub none_left : (frames : List Octets) → IsLeftOf [] frames
none_left [] = nothing
none_left (f ∷ fs) = goes f (none_left fs)

pub same_left : (a b : List Octets) → a ≡ b → IsLeftOf a b
same_left a b e = subst (λ (x : List Octets). IsLeftOf a x) e (all_left a)

pub left_and_left : {a b c d : List Octets} → IsLeftOf a b → IsLeftOf c d → IsLeftOf (a ++ c) (b ++ d)
left_and_left nothing k = k
left_and_left (stays f h) k = stays f (left_and_left h k)
left_and_left (goes f h) k = goes f (left_and_left h k)

pub left_of_left : {a b c : List Octets} → IsLeftOf a b → IsLeftOf b c → IsLeftOf a c
left_of_left h nothing = h
left_of_left h (goes f k) = goes f (left_of_left h k)
left_of_left (stays f h) (stays g k) = stays g (left_of_left h k)
left_of_left (goes f h) (stays g k) = goes g (left_of_left h k)

-- without the first ones
pub drop_left : (n : ℕ) (frames : List Octets) → IsLeftOf (drop n frames) frames
drop_left zero frames = all_left frames
drop_left (suc n) [] = nothing
drop_left (suc n) (f ∷ fs) = goes f (drop_left n fs)

-- the first one that is left comes after some that are lost
pub record FirstLeft (frame : Octets) (left frames : List Octets) : Type 0 where
  pub lost : ℕ
  pub rest : List Octets
  pub first : drop lost frames ≡ frame ∷ rest
  pub others : IsLeftOf left rest

pub first_left : {frame : Octets} {left frames : List Octets} → IsLeftOf (frame ∷ left) frames → FirstLeft frame left frames
first_left (stays f {left} {frames} h) = record { lost = 0; rest = frames; first = refl; others = h }
first_left (goes f h) =
    let r = first_left h in record { lost = suc r.lost; rest = r.rest; first = r.first; others = r.others }

pub left_of_none : {left : List Octets} → IsLeftOf left [] → left ≡ []
left_of_none nothing = refl

pub joined_left : (same : Bool) {a b c d e f : List Octets} → IsLeftOf a b → IsLeftOf c d → IsLeftOf e f → IsLeftOf (joined same a c e) (joined same b d f)
joined_left true h k m = h
joined_left false h k m = left_and_left h (left_and_left k m)
