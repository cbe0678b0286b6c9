-- The lines of the tables so far.
use Rattle.std.proofs.Common.{take}
use Rattle.toml.specs.View.{items_view}
use Rattle.net_config.specs.declared.config.LineConfig.{LineConfig}
use Rattle.net_files.specs.Networks.{IsLine, TablesForm}
use Rattle.net_files.proofs.network.read_lines.Given as goal

abbrev pub invariant-loop-value : goal.invariant-loop-value
invariant-loop-value l = TablesForm LineConfig IsLine (items_view (take l.value-index l.tables)) l.lines.items
