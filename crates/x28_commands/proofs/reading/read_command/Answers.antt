-- What the definition answers is in the grammar, and the other way round.
use Rattle.std.proofs.Common.{ap, ◌∙◌, rules, tests}
use Rattle.x28_commands.specs.Reading.{Answer, command_of}
use Rattle.x28_commands.specs.Faults.{fault_in}
use Rattle.x28_commands.proofs.Found.{read_found}
use Rattle.x28_commands.proofs.Only.{command_only}
use Rattle.x28_commands.proofs.FirstFault.{line_fault}
use Rattle.x28_commands.proofs.reading.read_command.Goals as goal

pub returns-then-line-gt-LINE_LIMIT-clause-exact : goal.returns-then-line-gt-LINE_LIMIT-clause-exact
unfolding command_of
returns-then-line-gt-LINE_LIMIT-clause-exact c = search (rules, tests)

pub returns-clause-exact : goal.returns-clause-exact
unfolding command_of
returns-clause-exact c = search (rules, tests)

pub returns-clause-found : goal.returns-clause-found
returns-clause-found c = read_found c.args.line.now _ (returns-clause-exact c)

pub returns-clause-only : goal.returns-clause-only
returns-clause-only c = λ command form. returns-clause-exact c ∙ command_only form

pub returns-clause-fault : goal.returns-clause-fault
returns-clause-fault c = ap (λ (r : Answer). fault_in r) (returns-clause-exact c) ∙ line_fault c.args.line.now
