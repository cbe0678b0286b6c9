use Rattle.std.proofs.Common.{rules, tests}
use Rattle.pad_terminal.proofs.terminal.Terminal.add_key.Goals as goal

pub returns-clause-exact : goal.returns-clause-exact
returns-clause-exact c = search (rules, tests)

pub returns-clause-added : goal.returns-clause-added
returns-clause-added c = search (rules, tests)
