-- What a table of `[[line]]` says of the other end: what it is, and how it is reached.
use Rattle.std.specs.Prelude.{ℕ, List, codes, Option, Some, None, if◌then◌else◌}
use Rattle.std.specs.Net.Grammar.{IsSocketText}
use Rattle.std.specs.declared.net.socket_addr.SocketAddr.{SocketAddr}
use Rattle.toml.specs.Data.{Members}
use Rattle.net_config.specs.Served.{same_text}
use Rattle.service_files.specs.declared.file.Way.{Way}
use Rattle.service_files.specs.declared.file.Way.TheVariants.{Listen, Connect, Xot, Udp}
use Rattle.service_files.specs.declared.file.XotWay.{XotWay}
use Rattle.service_files.specs.declared.file.XotWay.TheVariants as xot
use Rattle.service_files.specs.declared.file.UdpWay.{UdpWay}
use Rattle.service_files.specs.declared.line_ways.Far.{Far}
use Rattle.service_files.specs.declared.line_ways.Far.TheVariants as far
use Rattle.service_files.specs.Reads.{text_at}

-- where connections of calls come, and where they are made to
abbrev pub xot_listen : XotWay → Option SocketAddr
xot_listen (xot.Listen at) = Some at
xot_listen (xot.Connect at) = None
xot_listen (xot.Both listen connect) = Some listen

abbrev pub xot_connect : XotWay → Option SocketAddr
xot_connect (xot.Listen at) = None
xot_connect (xot.Connect at) = Some at
xot_connect (xot.Both listen connect) = Some connect

abbrev pub far_of : Option (List ℕ) → Far
far_of None = far.Process
far_of (Some word) =
    if same_text word (codes "xot") then far.Xot else (if same_text word (codes "udp") then far.Udp else far.Process)

-- either a connection of another process comes, or it is made
abbrev pub IsConnection : (listen connect : Option (List ℕ)) → Way → Type 0
IsConnection (Some text) None (Listen at) = IsSocketText text at
IsConnection None (Some text) (Connect at) = IsSocketText text at
IsConnection _ _ _ = ⊥

abbrev pub SaysConnection : Members → Way → Type 0
SaysConnection entry = IsConnection (text_at (codes "listen") entry) (text_at (codes "connect") entry)

-- connections of calls come, or are made, or both
abbrev pub IsXot : (listen connect : Option (List ℕ)) → XotWay → Type 0
IsXot (Some text) None (xot.Listen at) = IsSocketText text at
IsXot None (Some text) (xot.Connect at) = IsSocketText text at
IsXot (Some one) (Some other) (xot.Both listen connect) = IsSocketText one listen × IsSocketText other connect
IsXot _ _ _ = ⊥

abbrev pub SaysXot : Members → XotWay → Type 0
SaysXot entry = IsXot (text_at (codes "listen") entry) (text_at (codes "connect") entry)

-- datagrams come to the one, and go to the other
abbrev pub IsUdp : (bind partner : Option (List ℕ)) → UdpWay → Type 0
IsUdp (Some one) (Some other) way = IsSocketText one way.bind × IsSocketText other way.partner
IsUdp _ _ _ = ⊥

abbrev pub SaysUdp : Members → UdpWay → Type 0
SaysUdp entry = IsUdp (text_at (codes "bind") entry) (text_at (codes "partner") entry)

abbrev pub IsWay : Members → Far → Way → Type 0
IsWay entry far.Process way = SaysConnection entry way
IsWay entry far.Xot (Xot way) = SaysXot entry way
IsWay entry far.Udp (Udp way) = SaysUdp entry way
IsWay _ _ _ = ⊥

abbrev pub SaysWay : Members → Way → Type 0
SaysWay entry = IsWay entry (far_of (text_at (codes "to") entry))
