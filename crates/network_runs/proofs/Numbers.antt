-- The run with numbers modulo 128, by computation.
use Rattle.std.proofs.Common.{refl}
use Rattle.packet_end.specs.PacketEnd.{finished, all_offered}
use Rattle.network_runs.specs.Making.{network_of}
use Rattle.network_runs.specs.Numbers.{plan, stages_from, NumbersRun}
use Rattle.network_runs.proofs.Running.{run_is, no_calls}

pub numbers_run : NumbersRun
unfolding finished all_offered
numbers_run = run_is plan (stages_from 0 130) refl (no_calls (stages_from 0 130) (network_of plan) refl) refl
