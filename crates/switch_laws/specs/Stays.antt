-- The joins of other lines than those on which something happened.
use Rattle.std.specs.Prelude.{◌≡◌, ℕ, List, [], ◌∷◌, length, Some}
use Rattle.packet_end.specs.PacketEnd.{PacketEnd}
use Rattle.switch_joins.specs.Direction.{Direction}
use Rattle.switch_joins.specs.declared.channels.SwitchChannel.{SwitchChannel}
use Rattle.switch_joins.specs.Joins.{Joined}
use Rattle.switch_lines.specs.Lines.{SwitchLine, joined_at}
use Rattle.switch_lines.specs.Switch.{Switch, acted, all_begun, relinks_of, to_relink}

abbrev pub IsNone : ℕ → List ℕ → Type 0
IsNone m [] = Unit {0}
IsNone m (n ∷ ns) = (m ≡ n → ⊥) × IsNone m ns

-- a join with both channels on none of these lines stays, whatever is relayed over it
pub record Stay (j : Joined) (p : SwitchChannel) (ms : List SwitchLine) : Type 0 where
  pub kept : Direction
  pub joined : joined_at ms p ≡ Some (record j { kept = kept })

abbrev pub OthersStay : (lines : List ℕ) → (ls ms : List SwitchLine) → Type 0
OthersStay lines ls ms = (p : SwitchChannel) (j : Joined) → joined_at ls p ≡ Some j → IsNone p.line lines
    → IsNone j.other.line lines → Stay j p ms

-- the lines whose links are set up anew in an event of line n, since too many packets came to be owed there
abbrev pub relinked_in : (line : ℕ) → (PacketEnd → PacketEnd) → Switch → List ℕ
relinked_in n f s =
    let ls = acted s.routes n f (all_begun s.lines) in relinks_of (length ls) (to_relink ls) s.routes ls
