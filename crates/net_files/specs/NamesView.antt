-- What contracts see of the names of a network's nodes.
use Rattle.std.specs.Prelude.{◌≡◌, ℕ, List, map, string_bytes}
use Rattle.std.specs.Cmp.Lexicographic.{slice_cmp}
use Rattle.std.specs.Ordering.{nat_cmp}
use Rattle.std.specs.BTreeMap.{get_by}
use Rattle.net_files.specs.Words.{node_of}
use Rattle.net_files.specs.declared.names.Names.TheInside.{Inside}

-- their octets, in the order of the nodes
abbrev pub octets_of_names : Inside → List (List ℕ)
octets_of_names a = map string_bytes a.list.items

-- each name has the place of the first node that has it
abbrev pub AreFirstPlaces : Inside → Type 0
AreFirstPlaces a = (word : List ℕ)
    → get_by (λ name. slice_cmp nat_cmp word name.now) a.places ≡ node_of (octets_of_names a) word
