-- What the editor and the packet layer of a PAD have in step: each block that is ended is taken to be sent.
use Rattle.std.specs.Prelude.{◌≡◌, ℕ, ◌≤◌, false, List, length, Some, None}
use Rattle.packet_channel.specs.Channel.{Request}
use Rattle.packet_layer.specs.Layer.{request_refusal}
use Rattle.pad_terminal.specs.declared.answers.InputAnswer.{InputAnswer}
use Rattle.pad_terminal.specs.declared.answers.InputAnswer.TheVariants.{Edited}
use Rattle.pad_ports.specs.PadLine.{datum}
use Rattle.pad_ports.specs.Ports.{AtLine, key_input, idle_input}

-- where a block is ended that fits into a packet of the line, the send queue of the call takes it
abbrev pub BlockIsTaken : InputAnswer → AtLine → Type 0
BlockIsTaken answer a =
    (block : List ℕ) → (call : ℕ) → answer ≡ Edited (Some block) → a.port.call ≡ Some call →
    length block ≤ a.line.end.layer.flow.size →
    request_refusal a.line.end.layer call (Request.Sending (datum block false)) ≡ None

abbrev pub KeyBlocksAreTaken : Type 0
KeyBlocksAreTaken = (o : ℕ) (a : AtLine) → BlockIsTaken (key_input o a).answer a

abbrev pub IdleBlocksAreTaken : Type 0
IdleBlocksAreTaken = (a : AtLine) → BlockIsTaken (idle_input a).answer a
