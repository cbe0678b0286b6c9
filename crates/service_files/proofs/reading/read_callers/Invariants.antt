-- What was read so far is what these values say.
use Rattle.std.proofs.Common.{take}
use Rattle.toml.specs.View.{items_view}
use Rattle.service_files.specs.declared.file.CallerTable.{CallerTable}
use Rattle.service_files.specs.Reads.{EachSays, IsTable}
use Rattle.service_files.specs.Says.{SaysCaller}
use Rattle.service_files.proofs.reading.read_callers.Given as goal

abbrev pub invariant-loop-value : goal.invariant-loop-value
invariant-loop-value l = EachSays CallerTable (IsTable SaysCaller) (items_view (take l.value-index l.values)) l.tables.items
