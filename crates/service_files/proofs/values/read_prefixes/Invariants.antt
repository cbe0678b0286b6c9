-- What was read so far is what these values say.
use Rattle.std.proofs.Common.{take}
use Rattle.toml.specs.View.{items_view}
use Rattle.service_files.specs.declared.addresses.Prefix.{Prefix}
use Rattle.service_files.specs.Reads.{EachSays}
use Rattle.service_files.specs.Says.{SaysPrefix}
use Rattle.service_files.proofs.values.read_prefixes.Given as goal

abbrev pub invariant-loop-value : goal.invariant-loop-value
invariant-loop-value l = EachSays Prefix SaysPrefix (items_view (take l.value-index l.values)) l.prefixes.items
