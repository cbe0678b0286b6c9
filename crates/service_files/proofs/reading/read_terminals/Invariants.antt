-- What was read so far is what these values say.
use Rattle.std.proofs.Common.{take}
use Rattle.toml.specs.View.{items_view}
use Rattle.service_files.specs.declared.file.TerminalsTable.{TerminalsTable}
use Rattle.service_files.specs.Reads.{EachSays, IsTable}
use Rattle.service_files.specs.Says.{SaysTerminals}
use Rattle.service_files.proofs.reading.read_terminals.Given as goal

abbrev pub invariant-loop-value : goal.invariant-loop-value
invariant-loop-value l = EachSays TerminalsTable (IsTable SaysTerminals) (items_view (take l.value-index l.values)) l.tables.items
