use Rattle.std.proofs.lemmas.Grind.{common_steps}
use Rattle.std.proofs.Common.{rules, tests, arith}
use Rattle.call_records.proofs.record.Record.grow.Goals as goal

pub returns-in-Taken-clause-shown : goal.returns-in-Taken-clause-shown
returns-in-Taken-clause-shown c = search (rules, tests)

pub returns-in-Sent-clause-shown : goal.returns-in-Sent-clause-shown
returns-in-Sent-clause-shown c = search (rules, tests)

pub returns-in-Step-clause-shown : goal.returns-in-Step-clause-shown
returns-in-Step-clause-shown c = grind (arith, common_steps)
