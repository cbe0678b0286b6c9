use Rattle.std.proofs.Common.{◌<◌, length, slice_get, sym, ap, subst, ◌∙◌, refl}
use Rattle.std.proofs.lemmas.Bool.{OnTrue_from}
use Rattle.frame_lines.specs.Lines.{flying}
use Rattle.net_events.specs.Network.{Network, NetLine}
use Rattle.net_events.proofs.Lists.{there}
use Rattle.net_nodes.proofs.Empties.{none_arrived}
use Rattle.net_nodes.proofs.UserNodeEvents.{nothing_arrives}
use Rattle.net_nodes.proofs.nodes.Nodes.is_certainly_empty.Goals as goal

pub returns : goal.returns
returns g c =
    OnTrue_from c.is_certainly_empty.result _ (λ none.
    let lines = c.self.inside.lines.items in
    let h : c.args.line < length lines =
    subst (λ (s : Network). c.args.line < length s.lines) (sym c.self.view_is) c.requires in
    let here = ap (λ (s : Network). slice_get s.lines c.args.line) (sym c.self.view_is) ∙ there lines c.args.line _ c.index.result.now h c.index.ensures in
    let answer = none_arrived c.self.inside.nodes in record {
      answer = answer;
      says = record { frames = refl; notes = refl; text = refl; outcome = refl };
      happens = nothing_arrives g.L.Line.service c.args.line c.args.direction c.args.self.now c.index.result.now here
          (λ f. ap (λ (l : NetLine). flying c.args.direction l.flights) (sym c.behind-self.view_is) ∙ c.is_certainly_empty.ensures f none)
          answer refl refl refl refl;
    })
