use Rattle.std.proofs.Common.{◌≡◌, ℕ, ◌+◌, ◌<◌, suc, List, length, set, Some, sym, ap, ◌∙◌, subst, arith}
use Rattle.std.specs.Prelude.{slice_get, vec_items}
use Rattle.net_events.proofs.Users.{not_switch, switch_is}
use Rattle.net_events.specs.Network.{PlacedSwitch, NetNode, NetLine, Switching}
use Rattle.net_events.proofs.Lists.{there}
use Rattle.net_node.specs.Making.{waiting_switch}
use Rattle.line_sim.specs.Making.{CanBegin, HaveBegun, HaveNodesBegun}
use Rattle.line_sim.proofs.Made.{no_switch_yet, can_begin, IsNext, NextUser, NextSwitch, next_is, switch_more, user_more, is_made}
use Rattle.line_sim.proofs.making.begin_switches.Goals as goal

pub loop-place-init : goal.loop-place-init
loop-place-init g c = record {
  nodes = no_switch_yet c.args.plan.now c.args.nodes.now.items c.requires.nodes;
  lines = c.requires.lines;
}

pub index_mut-requires : goal.index_mut-requires
index_mut-requires g c =
    let now = c.loop-place.invariant.nodes.count in
    let first = c.requires.nodes.count in
    omega (arith, c.loop-place-test.true, c.loop-place.auto.place-end, now, first)

pub begin_switch-requires : goal.begin_switch-requires
begin_switch-requires g c = λ n is.
    let L = g.L.Line.service in
    let plan = c.args.plan.now in
    let place = c.loop-place.place in
    let nodes = c.loop-place.nodes.items in
    let lines = c.loop-place.lines.items in
    let now = c.loop-place.invariant.nodes.count in
    let first = c.requires.nodes.count in
    let at = there nodes place _ c.index_mut.result.now (omega (arith, c.loop-place-test.true, c.loop-place.auto.place-end, now, first)) c.index_mut.ensures.value in
    elim (next_is plan place nodes c.index_mut.result.now c.requires.plan c.loop-place.invariant.nodes at) [
      | NextUser m m_there u u_is ↦ absurd (not_switch u n (sym u_is ∙ is))
      | NextSwitch m m_there m_is ↦
          subst (λ (x : PlacedSwitch). CanBegin x lines) (switch_is (waiting_switch place m plan.lines) n (sym m_is ∙ is))
          (can_begin L plan place place m lines c.requires.plan m_there c.loop-place.invariant.lines)
    ]

pub loop-place-preserved : goal.loop-place-preserved
loop-place-preserved g c =
    let L = g.L.Line.service in
    let plan = c.args.plan.now in
    let place = c.loop-place.place in
    let nodes = c.loop-place.nodes.items in
    let lines = c.loop-place.lines.items in
    let node = c.begin_switch.new.node in
    let after = c.begin_switch.new.lines.items in
    let now = c.loop-place.invariant.nodes.count in
    let first = c.requires.nodes.count in
    let at = there nodes place _ c.index_mut.result.now (omega (arith, c.loop-place-test.true, c.loop-place.auto.place-end, now, first)) c.index_mut.ensures.value in
    let next : suc place ≡ place + 1 = omega arith in
    let both : HaveNodesBegun (suc place) plan (set nodes place node) × HaveBegun L (suc place) (length plan.lines) plan after
    = elim (next_is plan place nodes c.index_mut.result.now c.requires.plan c.loop-place.invariant.nodes at) [
      | NextUser m m_there u u_is ↦
          let same = c.begin_switch.ensures.user u u_is in
          user_more L plan place m nodes node c.index_mut.result.now lines after m_there at same.0 same.1 c.loop-place.invariant.nodes c.loop-place.invariant.lines
      | NextSwitch m m_there m_is ↦
          switch_more L plan place m nodes node lines after c.requires.plan m_there c.loop-place.invariant.nodes c.loop-place.invariant.lines
          (c.in_ok-begin_switch.ensures.switch (waiting_switch place m plan.lines) m_is)
    ] in
    record {
      nodes = subst (λ (k : ℕ). HaveNodesBegun k plan (set nodes place node)) next both.0;
      lines = subst (λ (k : ℕ). HaveBegun L k (length plan.lines) plan after) next both.1;
    }

pub returns-clause-ok : goal.returns-clause-ok
returns-clause-ok g c =
    let now = c.loop-place.invariant.nodes.count in
    let first = c.requires.nodes.count in
    is_made g.L.Line.service c.args.plan.now c.loop-place.place c.loop-place.nodes.items c.loop-place.lines.items
    (omega (arith, c.loop-place-test.false, c.loop-place.auto.place-end, now, first)) c.loop-place.invariant.nodes c.loop-place.invariant.lines
