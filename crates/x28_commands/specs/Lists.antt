-- How the reader goes over a list.
use Rattle.std.specs.Prelude.{◌≡◌, ℕ, ◌==◌, List, [], ◌∷◌, Option, Some, None}
use Rattle.std.specs.List.{slice_split}
use Rattle.arrayvec.specs.ArrayVec.{ArrayVec}
use denote.Ref.{Bor}

-- what was read is the list, if there is one
abbrev pub Gives : {A : Type 0} → Option (ArrayVec A) → Option (List A) → Type 0
Gives None list = list ≡ None
Gives (Some v) list = list ≡ Some v.items

-- the parts of a text between such octets are the first one and those of the rest, if there is a rest
abbrev pub Cuts : ℕ → List ℕ → List ℕ → Option (Bor (List ℕ)) → Type 0
Cuts octet text part None = slice_split (λ o. o == octet) text ≡ part ∷ []
Cuts octet text part (Some rest) = slice_split (λ o. o == octet) text ≡ part ∷ slice_split (λ o. o == octet) rest.now
