-- What contracts see of the code's port.
use Rattle.pad_ports.specs.Ports.{PortState}
use Rattle.pad_ports.specs.declared.port.Port.TheInside.{Inside}

abbrev pub port_of : Inside → PortState
port_of a = record { terminal = a.terminal; call = a.call; idle_left = a.idle_left }
