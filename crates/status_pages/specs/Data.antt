-- What a status is as JSON. The members of an object stand in the order of their names.
use Rattle.std.specs.Prelude.{ℕ, List, Option, Some, None, map, codes, string_bytes}
use Rattle.serde_json.specs.Data.{Data, null, boolean, number, unsigned, string, array, object, member, no_members}
use Rattle.serde_json.specs.Find.{of_integer}
use Rattle.serde_json.specs.View.{items_of}
use Rattle.status_texts.specs.Words.{kind_word, node_state_word, line_state_word}
use Rattle.status_texts.specs.declared.status.NodeLine.{NodeLine}
use Rattle.status_texts.specs.declared.status.NetLine.{NetLine}
use Rattle.status_texts.specs.declared.status.Counts.{Counts}
use Rattle.status_texts.specs.declared.status.CallOctets.{CallOctets}
use Rattle.status_texts.specs.declared.status.CallLine.{CallLine}
use Rattle.status_texts.specs.declared.status.PortLine.{PortLine}
use Rattle.status_texts.specs.declared.status.Status.{Status}

abbrev pub count_data : ℕ → Data
count_data count = number (unsigned count)

abbrev pub node_data : NodeLine → Data
node_data node = object
    (member (codes "kind") (string (kind_word node.kind))
    (member (codes "name") (string node.name.now)
    (member (codes "state") (string (node_state_word node.state)) no_members)))

abbrev pub line_data : NetLine → Data
line_data line = object
    (member (codes "address") (string line.address.now)
    (member (codes "dce") (string line.dce.now)
    (member (codes "dte") (string line.dte.now)
    (member (codes "state") (string (line_state_word line.state)) no_members))))

abbrev pub counts_data : Counts → Data
counts_data counts = object
    (member (codes "clients") (count_data counts.clients)
    (member (codes "lines_lost") (count_data counts.lost)
    (member (codes "lines_withheld") (count_data counts.withheld)
    (member (codes "refused") (count_data counts.refused) no_members))))

abbrev pub numbers_data : List ℕ → Data
numbers_data numbers = array (items_of (map count_data numbers))

abbrev pub octets_data : Option CallOctets → Data
octets_data None = null
octets_data (Some octets) = object
    (member (codes "said") (count_data octets.said)
    (member (codes "taken") (count_data octets.taken) no_members))

abbrev pub call_data : CallLine → Data
call_data call = object
    (member (codes "channel") (count_data call.channel)
    (member (codes "from") (string (string_bytes call.from))
    (member (codes "node") (string call.node.now)
    (member (codes "octets") (octets_data call.octets)
    (member (codes "over") (numbers_data call.over.items)
    (member (codes "since") (number (of_integer call.since))
    (member (codes "to") (string (string_bytes call.to)) no_members)))))))

abbrev pub port_data : PortLine → Data
port_data port = object
    (member (codes "in_use") (boolean port.in_use)
    (member (codes "keys") (count_data port.keys)
    (member (codes "octets") (count_data port.octets)
    (member (codes "overtaken") (count_data port.overtaken) no_members))))

abbrev pub status_data : Status → Data
status_data status = object
    (member (codes "calls") (array (items_of (map call_data status.calls.items)))
    (member (codes "counts") (counts_data status.counts)
    (member (codes "lines") (array (items_of (map line_data status.lines.items)))
    (member (codes "nodes") (array (items_of (map node_data status.nodes.items)))
    (member (codes "ports") (array (items_of (map port_data status.ports.items)))
    (member (codes "seconds") (count_data status.seconds)
    (member (codes "version") (string status.version.now) no_members)))))))
