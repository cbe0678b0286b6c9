-- How a host is made.
use Rattle.packet_end.specs.PacketEnd.{PacketEnd}
use Rattle.packet_end.specs.PacketEnd as end
use Rattle.packet_host.specs.declared.config.HostConfig.{HostConfig}

-- its end of the line, as it is made
abbrev pub made : HostConfig → PacketEnd
made c = end.made c.role c.line
