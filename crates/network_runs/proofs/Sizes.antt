-- The run with packets of two sizes, by computation.
use Rattle.std.proofs.Common.{refl}
use Rattle.packet_end.specs.PacketEnd as offers
use Rattle.switch_lines.specs.Relay as relaying
use Rattle.network_runs.specs.Making.{network_of}
use Rattle.network_runs.specs.Runs.{AllCalling}
use Rattle.network_runs.specs.Sizes.{plan, stages, SizesRun}
use Rattle.network_runs.proofs.OneSwitch.{has_route}
use Rattle.network_runs.proofs.Running.{run_is}

calls : AllCalling stages (network_of plan)
unfolding offers.all_offered offers.finished relaying.most_moves
calls = ((record { noted = refl; bare = refl; found = has_route; onward = refl }, tt), tt)

pub sizes_run : SizesRun
unfolding offers.all_offered offers.finished relaying.most_moves
sizes_run = run_is plan stages refl calls refl
