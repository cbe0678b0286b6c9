use Rattle.std.proofs.lemmas.Grind.{elements}
use Rattle.std.proofs.Common.{arith}
use Rattle.flow_window.proofs.pool.Pool.octets.Goals as goal

pub as_slice-requires : goal.as_slice-requires
as_slice-requires c = grind (arith, elements)
