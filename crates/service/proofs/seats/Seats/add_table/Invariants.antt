use Rattle.std.proofs.Common.{◌≡◌, ◌≤◌, List, slice_get, Some}
use Rattle.service.specs.declared.seats.TerminalsBinding.{TerminalsBinding}
use Rattle.service.specs.Seats.{AreSeated}
use Rattle.service.proofs.seats.Seats.add_table.Given as goal

abbrev pub invariant-loop-number : goal.invariant-loop-number
invariant-loop-number l = record {
  from : l.binding.first ≤ l.number;
  seated : (tables : List TerminalsBinding) → AreSeated tables l.fn.self.places.items l.fn.self.terminals.items
      → slice_get tables l.table ≡ Some l.binding → AreSeated tables l.self.places.items l.self.terminals.items;
}
