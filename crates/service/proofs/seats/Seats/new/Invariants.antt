use Rattle.service.specs.Seats.{AreSeated}
use Rattle.service.proofs.seats.Seats.new.Given as goal

abbrev pub invariant-loop-table : goal.invariant-loop-table
invariant-loop-table l = AreSeated l.tables l.seats.places.items l.seats.terminals.items
