-- Whether taken epochs match sent ones, found in one pass over both.
use Rattle.std.specs.Prelude.{◌↔◌, Bool, true, false, if◌then◌else◌, List, [], ◌∷◌, IsTrue}
use Rattle.epochs.specs.Epoch.{Epoch, IsEmpty, IsPrefixOf}
use Rattle.epochs.specs.Match.{Match}

-- a taken epoch comes of the first sent one that it begins; the later taken ones come of those after it
abbrev pub first_begun : (begins : Epoch → Epoch → Bool) → (later : List Epoch → Bool) → Epoch → List Epoch → Bool
first_begun begins later e [] = false
first_begun begins later e (f ∷ sent) = if begins e f then later sent else first_begun begins later e sent

-- an empty taken epoch is dropped
abbrev pub one_pass :
    (begins : Epoch → Epoch → Bool) → (is_empty : Epoch → Bool) → (taken sent : List Epoch) → Bool
one_pass begins is_empty [] sent = true
one_pass begins is_empty (e ∷ taken) sent =
    if is_empty e
    then one_pass begins is_empty taken sent
    else first_begun begins (one_pass begins is_empty taken) e sent

-- over any test of prefix and of emptiness the pass is true exactly where there is a match
abbrev pub OnePassDecides : Type 0
OnePassDecides =
    (begins : Epoch → Epoch → Bool) (is_empty : Epoch → Bool)
    → ((e f : Epoch) → IsTrue (begins e f) ↔ IsPrefixOf e f) → ((e : Epoch) → IsTrue (is_empty e) ↔ IsEmpty e)
    → (taken sent : List Epoch) → IsTrue (one_pass begins is_empty taken sent) ↔ Match taken sent
