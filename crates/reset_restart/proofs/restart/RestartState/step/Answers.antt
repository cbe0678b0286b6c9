use Rattle.reset_restart.specs.Restart.EndState.{Ready}
use Rattle.reset_restart.proofs.RestartRows.{kept_at}
use Rattle.reset_restart.proofs.restart.RestartState.step.Goals as goal

pub returns-in_default-PacketLayerReady-clause-kept : goal.returns-in_default-PacketLayerReady-clause-kept
returns-in_default-PacketLayerReady-clause-kept c =
    kept_at c.args.role Ready c.args.event c.in_packet_layer_ready.result c.in_packet_layer_ready.ensures
