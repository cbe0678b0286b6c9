-- What contracts see of the code's node.
use Rattle.user_nodes.specs.Node as node
use Rattle.user_nodes.specs.declared.node.Node.{Node}
use Rattle.user_nodes.specs.declared.node.Node.TheVariants as node_is

abbrev pub node_of : Node → node.NodeState
node_of (node_is.Pad p) = node.Pad p
node_of (node_is.Host e) = node.Host e
