-- The nodes of the tables so far.
use Rattle.std.proofs.Common.{take}
use Rattle.toml.specs.View.{items_view}
use Rattle.net_config.specs.declared.config.NodeConfig.{NodeConfig}
use Rattle.net_files.specs.Networks.{IsNode, TablesForm}
use Rattle.net_files.proofs.network.read_nodes.Given as goal

abbrev pub invariant-loop-value : goal.invariant-loop-value
invariant-loop-value l = TablesForm NodeConfig IsNode (items_view (take l.value-index l.tables)) l.nodes.items
