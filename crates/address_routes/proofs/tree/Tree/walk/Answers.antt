use Rattle.std.proofs.Common.{ap, sym, ◌∙◌, arith, rules}
use Rattle.std.specs.Option.{option_map}
use Rattle.address_routes.proofs.Walks.{walk_within, walk_further, line_further}
use Rattle.address_routes.proofs.Beginnings.{no_whole, whole_line}
use Rattle.address_routes.proofs.tree.Tree.walk.Goals as goal

pub next-requires-clause-node_in : goal.next-requires-clause-node_in
next-requires-clause-node_in c =
    walk_within c.args.self.now.nodes.items c.requires.linked _ 0 c.loop-i.node.0 c.requires.linked.0
    c.loop-i.invariant.reached

pub loop-i-preserved : goal.loop-i-preserved
loop-i-preserved c =
    let nodes = c.args.self.now.nodes.items in
    let reached =
    walk_further nodes c.args.digits.now c.loop-i.i c.loop-i.node.0 c.in-Some.next c.loop-i-test.true
    c.loop-i.invariant.reached (sym c.in-Some.ensures) in
    record {
      reached = reached;
      line =
          ap (option_map (λ line. line.0)) c.or-line.ensures
          ∙ line_further nodes c.args.digits.now c.loop-i.i c.in-Some.next.0 c.line.result c.loop-i.line reached
          c.line.ensures c.loop-i.invariant.line;
    }

pub returns-in_default-clause-whole : goal.returns-in_default-clause-whole
returns-in_default-clause-whole c =
    sym (no_whole c.args.self.now.nodes.items c.args.digits.now c.loop-i.i c.loop-i.node.0
    (record { reached = c.loop-i.invariant.reached; within = omega arith; last = λ _. search rules })
    c.loop-i-test.true)

pub line-requires-2 : goal.line-requires-2
line-requires-2 c =
    walk_within c.args.self.now.nodes.items c.requires.linked _ 0 c.loop-i.node.0 c.requires.linked.0
    c.loop-i.invariant.reached

pub returns-clause-whole : goal.returns-clause-whole
returns-clause-whole c =
    ap (option_map (λ line. line.0)) c.line-2.ensures
    ∙ sym (whole_line c.args.self.now.nodes.items c.args.digits.now c.loop-i.i c.loop-i.node.0
    c.loop-i.invariant.reached c.loop-i-test.false)
