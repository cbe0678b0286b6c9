-- What stands behind the place is all that is left there.
use Rattle.std.proofs.Common.{arith}
use Rattle.std.proofs.lemmas.Grind.{common_steps}
use Rattle.net_files.proofs.Places.{place_found}
use Rattle.net_files.proofs.words.cut.Goals as goal

pub returns-in-Some-clause-behind : goal.returns-in-Some-clause-behind
returns-in-Some-clause-behind c =
    grind (arith, common_steps, place_found c.args.at c.args.octets.now c.memchr.result c.memchr.ensures)
