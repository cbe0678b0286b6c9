-- What was written behind what was known to be written before.
use Rattle.std.specs.Prelude.{◌≡◌, ◌≢◌, ℕ, List, [], ◌++◌, Option}
use Rattle.std.specs.Io.KnownBytes.{Appends}

-- a text of this kind was written, behind what was known to be written before
pub record Writes (before after : Option (List ℕ)) (Kind : List ℕ → Type 0) : Type 0 where
  pub text : List ℕ
  pub appended : Appends before after text
  pub kind : Kind text

-- a part is a front of the whole, perhaps nothing
pub record IsFrontOf (whole part : List ℕ) : Type 0 where
  pub rest : List ℕ
  pub front : whole ≡ part ++ rest

-- a part is a front of the whole, and less than the whole
pub record IsShortFrontOf (whole part : List ℕ) : Type 0 where
  pub rest : List ℕ
  pub front : whole ≡ part ++ rest
  pub short : rest ≢ []
