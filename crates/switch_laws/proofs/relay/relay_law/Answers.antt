use Rattle.switch_laws.specs.Way.{sizes}
use Rattle.switch_laws.proofs.Sequences.{turned_ends}
use Rattle.switch_laws.proofs.Ways.{same_items, gathers_little, makes_few, freed_right, moved_right, relayed_right, relayed_stuck}
use Rattle.switch_laws.proofs.relay.relay_law.Goals as goal

pub returns : goal.returns
returns c = record {
  items = same_items;
  packets = λ w h. h.packets;
  gathers_little = gathers_little;
  makes_few = makes_few;
  ends = λ w d e. turned_ends (sizes w) w.kept.gathered d e;
  frees = freed_right;
  moves = moved_right;
  relays = relayed_right;
  stuck = relayed_stuck;
}
