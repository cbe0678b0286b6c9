-- Control packets that are owed, as the code has them.
use Rattle.std.specs.Prelude.{List, map}
use Rattle.data_transfer.specs.Packets.{Body}
use Rattle.data_transfer.specs.Octets.{parts_of}
use Rattle.packet_channel.specs.declared.control.Control.{Control}
use Rattle.packet_channel.specs.declared.control.Control.TheVariants as control

abbrev pub control_body : Control → Body
control_body (control.Call call) = Body.Call (parts_of call)
control_body control.Accepted = Body.Accepted
control_body (control.Clear cause diagnostic) = Body.Clear cause diagnostic
control_body control.ClearConfirmation = Body.ClearConfirmation
control_body (control.Reset cause diagnostic) = Body.Reset cause diagnostic
control_body control.ResetConfirmation = Body.ResetConfirmation

abbrev pub bodies_of : List Control → List Body
bodies_of packets = map control_body packets
