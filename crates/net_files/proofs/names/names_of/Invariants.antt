use Rattle.std.proofs.Common.{take}
use Rattle.net_files.specs.Scripts.{AreNamesOf}
use Rattle.net_files.proofs.names.names_of.Given as goal

-- the names so far
abbrev pub invariant-loop-node : goal.invariant-loop-node
invariant-loop-node l = AreNamesOf (take l.node-index l.nodes) l.names.items
