use Rattle.parted_laws.proofs.parted_law.Goals as goal
use Rattle.parted_laws.proofs.Events.{events_in_one}
use Rattle.parted_laws.proofs.Carrying.{carried, hands_carry, puts_carry, breaks_carry}
use Rattle.parted_laws.proofs.Ticks.{ticks_pass}
use Rattle.parted_laws.proofs.FirstDue.{first_is_due}
use Rattle.parted_laws.proofs.Made.{makes_one}
use Rattle.parted_laws.proofs.Runs.{runs_as_one}

pub returns : goal.returns
returns g c = record {
  making = makes_one g.L.Line.service;
  event = events_in_one g.L.Line.service;
  hands_on = hands_carry g.L.Line.service;
  puts_on = puts_carry g.L.Line.service;
  breaks = breaks_carry;
  carried = carried;
  ticks = ticks_pass;
  due = first_is_due;
  run = runs_as_one g.L.Line.service;
}
