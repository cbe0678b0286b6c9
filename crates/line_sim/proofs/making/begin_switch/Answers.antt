use Rattle.std.proofs.Common.{◌≡◌, ℕ, List, length, false, sym, ap, ◌∙◌, subst, arith}
use Rattle.net_events.specs.AtSwitch.{switch_drained}
use Rattle.net_events.specs.Network.{PlacedNode, PlacedSwitch, User, Switching}
use Rattle.user_nodes.specs.NodeView.{node_of}
use Rattle.net_events.proofs.Users.{switch_is}
use Rattle.net_node.specs.NodeView.{kind_of}
use Rattle.node_events.specs.Switching.{CanPut, LinesPut}
use Rattle.switch_lines.specs.Switch.{Switch}
use Rattle.line_sim.proofs.making.begin_switch.Goals as goal
use Rattle.line_sim.proofs.making.begin_switch.Goals.{in-User, in-Switching+in_ok-puts-in-Switching}

pub put_lines-requires : goal.put_lines-requires
put_lines-requires g c =
    let p : PlacedSwitch = record { lines = c.in-Switching.own.items; switch = c.in-Switching.switch } in
    let can = c.requires p (sym c.node.view_is ∙ ap kind_of c.in-Switching.is) in
    let count : length p.lines ≡ length p.switch.lines = can.count in
    let lines : c.lines.result ≡ length p.switch.lines = c.lines.ensures.count in
    let puts = c.in_ok-puts-in-Switching.puts in
    let places = c.in_ok-puts-in-Switching.ensures.room in
    subst (λ (x : List ℕ). CanPut x p.switch.lines c.args.lines.now.items puts.items puts.room) (sym c.deref.ensures.value)
    (record {
      count = can.count;
      apart = can.apart;
      there = can.there;
      room = record { empty = c.in_ok-puts-in-Switching.ensures.items; enough = omega (arith, count, lines, places) };
    })

pub returns-clause-switch : goal.returns-clause-switch
returns-clause-switch g c = λ n is. elim c.match-node.branch [
  | in-User w ↦ (
      let m : PlacedNode = record { line = w.in-User.line; node = node_of w.in-User.node } in
      let no : User m ≡ Switching n = ap kind_of (sym w.in-User.is) ∙ c.node.view_is ∙ is in
      absurd (cc)
      )
  | in-Switching+in_ok-puts-in-Switching w ↦ (
      let p : PlacedSwitch = record { lines = w.in-Switching.own.items; switch = w.in-Switching.switch } in
      let same : p ≡ n = switch_is p n (ap kind_of (sym w.in-Switching.is) ∙ c.node.view_is ∙ is) in
      let put = w.put_lines.ensures in
      rw (w.node-inside-is, w.lines-is) (record {
        node_is = ap (λ (t : Switch). Switching (record p { switch = t })) put.switch
            ∙ ap (λ (x : PlacedSwitch). Switching (record x { switch = switch_drained x.switch })) same;
        lines_put = subst (λ (x : PlacedSwitch). LinesPut g.L.Line.service false x.lines x.switch c.args.lines.now.items w.put_lines.new.lines.items)
            (ap (λ (own : List ℕ). record p { lines = own }) w.deref.ensures.value ∙ same) put.lines;
      })
      )
]
