use Rattle.std.proofs.Common.{◌≡◌, take, Some}
use Rattle.std.specs.Option.{option_map}
use Rattle.address_routes.specs.Tree.{walk, line_to}
use Rattle.address_routes.proofs.tree.Tree.walk.Given as goal

-- the digits so far lead here, and this is the last line on the way
abbrev pub invariant-loop-i : goal.invariant-loop-i
invariant-loop-i l = record {
  reached : walk l.self.nodes.items (take l.i l.digits) 0 ≡ Some l.node.0;
  line : option_map (λ line. line.0) l.line ≡ line_to l.i l.self.nodes.items l.digits;
}
