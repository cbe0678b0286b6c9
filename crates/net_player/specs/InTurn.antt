-- Things that are done one after the other, each with a text.
use Rattle.std.specs.Prelude.{ℕ, List, [], ◌∷◌, ◌++◌, Option}
use Rattle.std.specs.Io.KnownBytes.{Appends}

-- the things are done in order, each from the state that the one before it left, and their texts make this text
pub data InTurn (X S : Type 0) (Does : X → S → List ℕ → S → Type 0) : List X → S → List ℕ → S → Type 0 where
  nothing : {s : S} → InTurn X S Does [] s [] s
  then : {x : X} {xs : List X} {s mid t : S} {first rest : List ℕ}
      → Does x s first mid → InTurn X S Does xs mid rest t → InTurn X S Does (x ∷ xs) s (first ++ rest) t

-- the things are done in order up to one that stops: their texts, and what that one told until it stopped
pub data StopsInTurn (X S : Type 0) (Does : X → S → List ℕ → S → Type 0) (Stops : X → S → List ℕ → Type 0)
    : List X → S → List ℕ → Type 0 where
  here : {x : X} {xs : List X} {s : S} {part : List ℕ} → Stops x s part → StopsInTurn X S Does Stops (x ∷ xs) s part
  later : {x : X} {xs : List X} {s mid : S} {first part : List ℕ}
      → Does x s first mid → StopsInTurn X S Does Stops xs mid part
      → StopsInTurn X S Does Stops (x ∷ xs) s (first ++ part)

-- a text of this kind was written, behind what was known to be written before
pub record Writes (before after : Option (List ℕ)) (Kind : List ℕ → Type 0) : Type 0 where
  pub text : List ℕ
  pub appended : Appends before after text
  pub kind : Kind text
