use Rattle.net_player.specs.Programs.{bad_words}
use Rattle.net_player.proofs.Parts.{told_line}
use Rattle.net_player.proofs.program.tell_bad_words.Goals as goal

pub returns-clause-told : goal.returns-clause-told
returns-clause-told g c = told_line bad_words c.write.result c.write.ensures.writes c.write.ensures.refused
