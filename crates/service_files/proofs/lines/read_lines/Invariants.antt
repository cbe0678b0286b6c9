-- What was read so far is what these values say.
use Rattle.std.proofs.Common.{take}
use Rattle.toml.specs.View.{items_view}
use Rattle.service_files.specs.declared.file.LineTable.{LineTable}
use Rattle.service_files.specs.Reads.{EachSays, IsTable}
use Rattle.service_files.specs.SaysLine.{SaysLine}
use Rattle.service_files.proofs.lines.read_lines.Given as goal

abbrev pub invariant-loop-value : goal.invariant-loop-value
invariant-loop-value l = EachSays LineTable (IsTable SaysLine) (items_view (take l.value-index l.values)) l.tables.items
