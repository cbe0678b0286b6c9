use Rattle.std.proofs.Common.{arith}
use Rattle.std.proofs.lemmas.Grind.{elements}
use Rattle.switch_lines.proofs.lines.turning.sizes_of.Goals as goal

pub returns-clause-fits : goal.returns-clause-fits
returns-clause-fits c = grind (arith, elements)

pub returns-clause-sizes : goal.returns-clause-sizes
returns-clause-sizes c = grind (arith, elements)
