-- Something is left.
use Rattle.std.proofs.Common.{refl}
use Rattle.net_files.proofs.words.Words.end.Goals as goal

pub returns-in-Some : goal.returns-in-Some
returns-in-Some c = (refl, c.in-Some.field-0.now, rw c.in-Some.is refl)
