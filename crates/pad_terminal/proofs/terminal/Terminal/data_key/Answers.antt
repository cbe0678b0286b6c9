use Rattle.std.proofs.Common.{rules, tests}
use Rattle.pad_terminal.proofs.terminal.Terminal.data_key.Goals as goal

pub returns-clause-terminal : goal.returns-clause-terminal
returns-clause-terminal c = search (rules, tests)

pub returns-clause-answer : goal.returns-clause-answer
returns-clause-answer c = search (rules, tests)
