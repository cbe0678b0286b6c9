-- Which terminals clients have.
use Rattle.std.specs.Prelude.{◌≡◌, ◌≤◌, ℕ, List, length, slice_get, Some}
use Rattle.service.specs.declared.place.Place.{Place}
use Rattle.service.specs.declared.seats.TerminalsBinding.{TerminalsBinding}
use Rattle.service.specs.declared.terminal.Terminal.{Terminal}
use Rattle.service.specs.Places.{AreApart}
use Rattle.service.specs.Terminals.{fresh}

-- a terminal of a table, as made
pub record IsOfTable (table : ℕ) (binding : TerminalsBinding) (at : Place) (p : Terminal) : Type 0 where
  pub pad : at.node ≡ binding.node
  pub from : binding.first ≤ at.number
  pub to : at.number ≤ binding.last
  pub table_is : p.terms.table ≡ table
  pub idle : p.terms.idle ≡ binding.idle
  pub xon : p.terms.has_xon ≡ binding.has_xon
  pub made : p ≡ fresh binding.mode p.terms

abbrev pub IsOfSomeTable : List TerminalsBinding → Place → Terminal → Type 0
IsOfSomeTable tables at p =
    (table : ℕ) × (binding : TerminalsBinding) × (slice_get tables table ≡ Some binding) × IsOfTable table binding at p

-- Terminals of tables, as made, each with its place: no two have one place, and each is of a table.
pub record AreSeated (tables : List TerminalsBinding) (places : List Place) (terminals : List Terminal) : Type 0 where
  pub count : length terminals ≡ length places
  pub apart : AreApart places
  pub each : (port : ℕ) (at : Place) (p : Terminal) → slice_get places port ≡ Some at → slice_get terminals port ≡ Some p
      → IsOfSomeTable tables at p
