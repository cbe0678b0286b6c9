-- One list begins another.
use Rattle.std.specs.Prelude.{◌≡◌, List, ◌++◌}

-- ys is xs and then `rest`; the empty list and the whole list are prefixes too
pub record IsListPrefix (A : Type 0) (xs ys : List A) : Type 0 where
  pub rest : List A
  pub whole : xs ++ rest ≡ ys
