use Rattle.std.proofs.Common.{◌≡◌, List, ℕ, drop, bytes_eq}
use Rattle.std.specs.Cmp.Lexicographic.{slice_cmp}
use Rattle.std.specs.Ordering.{nat_cmp}
use Rattle.std.specs.List.{position_from}
use Rattle.std.specs.BTreeMap.{get_by}
use Rattle.net_files.specs.Scripts.{node_name}
use Rattle.net_files.proofs.names.places_of.Given as goal

-- the places of the names from this one on
abbrev pub invariant-loop-place : goal.invariant-loop-place
invariant-loop-place l = (word : List ℕ) → get_by (λ name. slice_cmp nat_cmp word name.now) l.places
    ≡ position_from (λ node. bytes_eq (node_name node) word) l.place (drop l.place l.nodes)
