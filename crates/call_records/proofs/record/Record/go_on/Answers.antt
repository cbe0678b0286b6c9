use Rattle.std.proofs.Common.{arith}
use Rattle.std.proofs.lemmas.Grind.{common_steps}
use Rattle.call_records.proofs.record.Record.go_on.Goals as goal

pub returns-then-not-is_full-clause-shown : goal.returns-then-not-is_full-clause-shown
returns-then-not-is_full-clause-shown c = grind (arith, common_steps)
