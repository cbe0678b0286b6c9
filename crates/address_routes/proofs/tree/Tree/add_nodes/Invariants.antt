use Rattle.std.proofs.Common.{◌≡◌, ◌+◌, ◌<◌, ◌≤◌, length, drop, vec_capacity}
use Rattle.address_routes.specs.Tree.{with_nodes, last_node}
use Rattle.address_routes.proofs.tree.Tree.add_nodes.Given as goal

-- the nodes for the digits that are left are still to come, and there is memory for them
abbrev pub invariant-loop-digit : goal.invariant-loop-digit
invariant-loop-digit l = record {
  node_in : l.last.0 < length l.self.nodes.items;
  nodes : with_nodes l.self.nodes.items l.last.0 (drop l.digit-index l.digits)
      ≡ with_nodes l.fn.self.nodes.items l.fn.node.0 l.digits;
  end : last_node (length l.self.nodes.items) l.last.0 (drop l.digit-index l.digits)
      ≡ last_node (length l.fn.self.nodes.items) l.fn.node.0 l.digits;
  count : length l.self.nodes.items ≡ length l.fn.self.nodes.items + l.digit-index;
  memory : length l.fn.self.nodes.items + length l.digits ≤ vec_capacity l.self.nodes;
}
