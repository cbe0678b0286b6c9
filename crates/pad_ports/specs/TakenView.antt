-- What a terminal takes, as the code has it.
use Rattle.std.specs.Prelude.{Option, Some, None}
use Rattle.data_transfer.specs.Traffic as spec
use Rattle.pad_ports.specs.declared.taken.PadTaken.{PadTaken}
use Rattle.pad_ports.specs.declared.taken.PadTaken.TheVariants.{Interrupt, «Data»}

abbrev pub taken_of : PadTaken → spec.Taken
taken_of (Interrupt octets) = spec.Taken.TakenInterrupt octets
taken_of («Data» d) = spec.Taken.TakenPacket d

abbrev pub maybe_taken : Option PadTaken → Option spec.Taken
maybe_taken (Some x) = Some (taken_of x)
maybe_taken None = None
