use Rattle.link_timers.proofs.PlaceLaws.{none_left}
use Rattle.link_timers.proofs.timers.Timers.new.Goals as goal

pub returns-clause-left : goal.returns-clause-left
returns-clause-left c = λ id. none_left id
