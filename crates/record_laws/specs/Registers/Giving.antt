-- Calls that give no calling address.
use Rattle.std.specs.Prelude.{◌≡◌, List, [], ◌∷◌}
use Rattle.call_records.specs.Writes.{Write}
use Rattle.call_records.specs.Writes.Write.{Placed}

-- a call that is placed gives none
abbrev pub GivesNone : Write → Type 0
GivesNone (Placed channel parts) = parts.calling ≡ []
GivesNone write = Unit {0}

abbrev pub AllGiveNone : List Write → Type 0
AllGiveNone [] = Unit {0}
AllGiveNone (write ∷ writes) = GivesNone write × AllGiveNone writes
