-- The routes of the tables so far.
use Rattle.std.proofs.Common.{take}
use Rattle.toml.specs.View.{items_view}
use Rattle.net_config.specs.declared.config.RouteConfig.{RouteConfig}
use Rattle.net_files.specs.Networks.{IsRoute, TablesForm}
use Rattle.net_files.proofs.network.read_routes.Given as goal

abbrev pub invariant-loop-value : goal.invariant-loop-value
invariant-loop-value l = TablesForm RouteConfig IsRoute (items_view (take l.value-index l.tables)) l.routes.items
