-- One thing more is done behind others.
use Rattle.std.proofs.Common.{◌≡◌, ℕ, List, [], ◌∷◌, ◌++◌, ◌+◌, ◌<◌, take, get_or, length, Option, Some, None, sym, ap, ◌∙◌, subst, append_assoc}
use Rattle.std.proofs.lemmas.List.{append-nil, take_more}
use Rattle.std.specs.Io.KnownBytes.{Appends}
use Rattle.std.proofs.KnownBytes.{Appends-nil}
use Rattle.net_player.specs.InTurn.{InTurn}
use Rattle.net_player.specs.InTurn.InTurn.{nothing, then}

-- things that are done, and others after them
pub in_turn_append : {X S : Type 0} {Does : X → S → List ℕ → S → Type 0} {xs : List X} {s mid : S} {first : List ℕ}
    → InTurn X S Does xs s first mid → (ys : List X) (rest : List ℕ) (t : S) → InTurn X S Does ys mid rest t
    → InTurn X S Does (xs ++ ys) s (first ++ rest) t
in_turn_append nothing ys rest t others = others
in_turn_append (then {first = a} {rest = b} does more) ys rest t others =
    rw (append_assoc a b rest) (then does (in_turn_append more ys rest t others))

-- one thing alone
pub in_turn_one : {X S : Type 0} {Does : X → S → List ℕ → S → Type 0} {x : X} {s t : S} {text : List ℕ}
    → Does x s text t → InTurn X S Does (x ∷ []) s text t
in_turn_one {X} {S} {Does} {x} {s} {t} {text} does =
    let P : List ℕ → Type 0 = λ told. InTurn X S Does (x ∷ []) s told t in
    subst P (append-nil text) (then does nothing)

-- the next of a list is done
pub in_turn_more : {X S : Type 0} {Does : X → S → List ℕ → S → Type 0} {s mid t : S} {first text : List ℕ}
    (xs : List X) (i : ℕ) (d : X) → i < length xs
    → InTurn X S Does (take i xs) s first mid → Does (get_or xs i d) mid text t
    → InTurn X S Does (take (i + 1) xs) s (first ++ text) t
in_turn_more xs i d within done does =
    rw (take_more xs i d within) (in_turn_append done _ _ _ (in_turn_one does))

-- the same for an element that is said to stand there
pub in_turn_next : {X S : Type 0} {Does : X → S → List ℕ → S → Type 0} {s mid t : S} {first text : List ℕ}
    (xs : List X) (i : ℕ) (x : X) → i < length xs → x ≡ get_or xs i x
    → InTurn X S Does (take i xs) s first mid → Does x mid text t
    → InTurn X S Does (take (i + 1) xs) s (first ++ text) t
in_turn_next {X} {S} {Does} {s} {mid} {t} {first} {text} xs i x within there done does =
    let P : X → Type 0 = λ y. Does y mid text t in
    in_turn_more xs i x within done (subst P there does)

-- nothing was written
pub appends_nothing : (known : Option (List ℕ)) → Appends known known []
appends_nothing known = Appends-nil known
