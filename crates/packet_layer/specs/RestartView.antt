-- The restart procedure, as the code has it.
use Rattle.std.specs.Prelude.{List, map}
use Rattle.data_transfer.specs.Packets.{Body}
use Rattle.packet_layer.specs.Layer as spec
use Rattle.packet_layer.specs.declared.restart.Phase.{Phase}
use Rattle.packet_layer.specs.declared.restart.Phase.TheVariants as phase
use Rattle.packet_layer.specs.declared.restart.RestartPacket.{RestartPacket}
use Rattle.packet_layer.specs.declared.restart.RestartPacket.TheVariants as packet

abbrev pub phase_of : Phase → spec.Phase
phase_of phase.NoSession = spec.Phase.NoSession
phase_of phase.OwnRestart = spec.Phase.OwnRestart
phase_of phase.PacketReady = spec.Phase.PacketReady

abbrev pub restart_body : RestartPacket → Body
restart_body (packet.Restart cause diagnostic) = Body.Restart cause diagnostic
restart_body packet.Confirmation = Body.RestartConfirmation

abbrev pub restart_bodies : List RestartPacket → List Body
restart_bodies packets = map restart_body packets
