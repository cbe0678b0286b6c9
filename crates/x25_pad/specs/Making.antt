-- How a PAD is made.
use Rattle.std.specs.Prelude.{◌≡◌, ℕ, ◌-◌, ◌≤◌, if◌then◌else◌, ◌∷◌, replicate, Option, Some, None}
use Rattle.link_timers.specs.declared.role.Role.TheVariants.{Dte}
use Rattle.packet_end.specs.PacketEnd as end
use Rattle.packet_end.specs.Params.{AreParams}
use Rattle.packet_end.specs.declared.fault.EndFault.{EndFault}
use Rattle.packet_end.specs.declared.fault.EndFault.TheVariants.{BadConfig, OutOfMemory}
use Rattle.pad_ports.specs.PadLine.{silent_line}
use Rattle.pad_ports.specs.Ports.{new_port}
use Rattle.x25_pad.specs.Pad.{PadState}
use Rattle.x25_pad.specs.declared.config.PadConfig.{PadConfig}

-- from 1 to 16 terminals, and parameters of a line whose packets have at most 128 octets
pub record IsConfig (c : PadConfig) : Type 0 where
  pub line : AreParams c.line
  pub least : 1 ≤ c.terminals
  pub most : c.terminals ≤ 16
  pub size : c.line.flow.size ≡ 128

abbrev pub MadeNot : PadConfig → EndFault → Type 0
MadeNot c BadConfig = IsConfig c → ⊥
MadeNot c OutOfMemory = IsConfig c

-- a call that stands is that of terminal 0, on channel 1
abbrev pub standing_channel : PadConfig → Option ℕ
standing_channel c = if c.line.standing then Some 1 else None

abbrev pub made : PadConfig → PadState
made c = record {
  line = silent_line (end.made Dte c.line);
  ports = new_port c.params (standing_channel c) ∷ replicate (c.terminals - 1) (new_port c.params None);
}
