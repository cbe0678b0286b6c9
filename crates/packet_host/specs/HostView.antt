-- What contracts see of the code's host.
use Rattle.packet_end.specs.PacketEnd.{PacketEnd}
use Rattle.packet_host.specs.declared.host.Host.TheInside.{Inside}

abbrev pub host_of : Inside → PacketEnd
host_of a = a.end
