use Rattle.switch_lines.specs.Relay.{most_moves}
use Rattle.switch_laws.proofs.Joins.{both_right, both_stuck, gives_right, join_begins}
use Rattle.switch_laws.proofs.Hearing.{hears_right, mishears_right}
use Rattle.switch_laws.proofs.relay.join_law.Goals as goal

pub returns : goal.returns
returns c = record {
  begins = join_begins;
  relays = λ j i. both_right most_moves j i;
  keeps_nothing_back = both_stuck;
  hears = hears_right;
  mishears = mishears_right;
  gives = gives_right;
}
