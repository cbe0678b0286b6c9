-- The byte order mark, which stands before some texts and is no part of a TOML document.
use Rattle.std.specs.Prelude.{ℕ, Bool, List, [], ◌∷◌, eqb}
use Rattle.std.specs.List.{starts_with}

-- whether a text begins with it: the octets EF BB BF
abbrev pub begins_with_mark : List ℕ → Bool
begins_with_mark text = starts_with eqb text (239 ∷ 187 ∷ 191 ∷ [])
