use Rattle.std.proofs.Common.{◌<◌, length, slice_get, sym, ap, ◌∙◌, arith}
use Rattle.frame_lines.specs.Lines.{flying}
use Rattle.net_events.specs.Network.{Network, NetLine, place_at}
use Rattle.net_nodes.specs.Steps.{hearer}
use Rattle.net_events.proofs.Lists.{there}
use Rattle.net_nodes.proofs.UserNodeEvents.{registered_at, nothing_arrives}
use Rattle.net_nodes.proofs.SwitchTurns.{own_line_there, no_own_line}
use Rattle.net_nodes.proofs.nodes.Nodes.deliver.Goals as goal

pub deliver_to_switch-requires-clause-switch : goal.deliver_to_switch-requires-clause-switch
deliver_to_switch-requires-clause-switch g c =
    let lines = c.self.inside.lines.items in
    let s = c.args.self.now in
    let h : c.args.line < length lines = omega (arith, c.if-line-len.false, c.len.ensures) in
    let here = ap (λ (s : Network). slice_get s.lines c.args.line) (sym c.self.view_is) ∙ there lines c.args.line _ c.index-net_line.result.now h c.index-net_line.ensures in
    own_line_there c.args.line c.place_at-place.result c.in-Some.own c.index-net_line.result.now (hearer c.args.direction) s c.requires here
    (c.place_at-place.ensures ∙ (λ i. place_at (c.hearer.ensures i) c.index-net_line.result.now)) (sym c.own_line.ensures ∙ c.in-Some.is)

pub deliver_to_user-requires : goal.deliver_to_user-requires
deliver_to_user-requires g c =
    let lines = c.self.inside.lines.items in
    let s = c.args.self.now in
    let h : c.args.line < length lines = omega (arith, c.if-line-len.false, c.len.ensures) in
    let here = ap (λ (s : Network). slice_get s.lines c.args.line) (sym c.self.view_is) ∙ there lines c.args.line _ c.index-net_line.result.now h c.index-net_line.ensures in
    record {
      line_is = c.index-net_line.result.now;
      line_there = here;
      stands = no_own_line c.args.line c.place_at-place.result c.index-net_line.result.now (hearer c.args.direction) s c.requires here
          (c.place_at-place.ensures ∙ (λ i. place_at (c.hearer.ensures i) c.index-net_line.result.now)) (sym c.own_line.ensures ∙ c.in-None.is);
      registered = registered_at c.args.line c.index-net_line.result.now s c.requires here;
    }

pub returns-then-is_certainly_empty-clause-done : goal.returns-then-is_certainly_empty-clause-done
returns-then-is_certainly_empty-clause-done g c =
    let lines = c.self.inside.lines.items in
    let s = c.args.self.now in
    let h : c.args.line < length lines = omega (arith, c.if-line-len.false, c.len.ensures) in
    let here = ap (λ (s : Network). slice_get s.lines c.args.line) (sym c.self.view_is) ∙ there lines c.args.line _ c.index-net_line.result.now h c.index-net_line.ensures in
    nothing_arrives g.L.Line.service c.args.line c.args.direction s c.index-net_line.result.now here
    (λ f. ap (λ (l : NetLine). flying c.args.direction l.flights) (sym c.net_line.view_is) ∙ c.is_certainly_empty.ensures f c.if-is_certainly_empty.true)
    c.make_bare.new.answer
    c.make_bare.ensures.frames c.make_bare.ensures.notes c.make_bare.ensures.text c.make_bare.ensures.outcome
