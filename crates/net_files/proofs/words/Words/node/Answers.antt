-- The place of a name is given, where it has one.
use Rattle.std.proofs.Common.{rules, arith}
use Rattle.std.proofs.lemmas.Grind.{common_steps}
use Rattle.net_files.proofs.words.Words.node.Goals as goal

pub returns : goal.returns
returns c = first_of (search (rules, c.place_of.ensures), grind (arith, common_steps, c.place_of.ensures))
