-- What contracts see of the code's node.
use Rattle.user_nodes.specs.NodeView.{node_of}
use Rattle.net_events.specs.Network.{NetNode, User, Switching}
use Rattle.net_node.specs.declared.node.Equipment.{Equipment}
use Rattle.net_node.specs.declared.node.Equipment.TheVariants as kind_is

abbrev pub kind_of : Equipment → NetNode
kind_of (kind_is.User line node) = User (record { line = line; node = node_of node })
kind_of (kind_is.Switching lines switch) = Switching (record { lines = lines.items; switch = switch })
