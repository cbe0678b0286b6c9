use Rattle.std.proofs.Common.{length}
use Rattle.x28_commands.proofs.keyword.+spells.Given as goal

abbrev pub decreases-spells : goal.decreases-spells
decreases-spells l = length l.word.now
