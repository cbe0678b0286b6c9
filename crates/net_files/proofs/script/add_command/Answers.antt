use Rattle.std.proofs.Common.{arith}
use Rattle.net_files.proofs.ScriptLines.{added_line}
use Rattle.net_files.proofs.script.add_command.Goals as goal

pub returns : goal.returns
returns c = grind (arith, added_line)
