use Rattle.std.proofs.Common.{◌≡◌, map, take}
use Rattle.serde_json.specs.View.{view}
use Rattle.status_pages.specs.Data.{port_data}
use Rattle.status_pages.proofs.json.ports_value.Given as goal

abbrev pub invariant-loop-port : goal.invariant-loop-port
invariant-loop-port l = map view l.values.items ≡ map port_data (take l.port-index l.ports)
