use Rattle.std.proofs.lemmas.Grind.{elements}
use Rattle.std.proofs.Common.{arith}
use Rattle.call_records.proofs.register.Register.open.Goals as goal

pub returns-then-eq-clause-book : goal.returns-then-eq-clause-book
returns-then-eq-clause-book c = grind (arith, elements)
