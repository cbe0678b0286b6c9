-- A network with another register in place of its own.
use Rattle.call_records.specs.Register.{Register, forgotten}
use Rattle.net_events.specs.Network.{Network}

-- the nodes and lines of a network, with this register
abbrev pub on : Register → Network → Network
on g s = record s { register = g }

-- the network without its records
abbrev pub bare : Network → Network
bare s = on (forgotten s.register) s
