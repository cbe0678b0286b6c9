use Rattle.std.proofs.Common.{◌≡◌, ◌≢◌, set, slice_get, sym, ap, ◌∙◌, subst}
use Rattle.frame_lines.specs.declared.line.Direction.TheVariants.{FromDte, FromDce}
use Rattle.frame_lines.specs.Lines.{Flights, no_flights, ArePut}
use Rattle.net_events.specs.Network.{NetNode}
use Rattle.net_config.specs.NetPlan.{NewLine}
use Rattle.record_laws.proofs.Books.Basics.{set_elsewhere}
use Rattle.net_events.proofs.Lists.{found, within}
use Rattle.line_sim.specs.Making.{begun_node, users_frames}
use Rattle.line_sim.proofs.making.begin.Goals as goal

pub returns : goal.returns
returns g c = λ dte dce dte_there dce_there.
    let L = g.L.Line.service in
    let nodes = c.args.nodes.now.items in
    let dte_is : c.plan.inside.dte ≡ c.args.plan.now.dte = ap (λ (l : NewLine). l.dte) c.plan.view_is in
    let dce_is : c.plan.inside.dce ≡ c.args.plan.now.dce = ap (λ (l : NewLine). l.dce) c.plan.view_is in
    let first_there = ap (λ i. slice_get nodes i) dte_is ∙ dte_there in
    let first : c.index_mut.result.now ≡ dte = found nodes c.plan.inside.dte _ c.index_mut.result.now dte (within nodes c.plan.inside.dte dte first_there) c.index_mut.ensures.value first_there in
    let one = c.put_user_frames.ensures in
    let mid = set nodes c.plan.inside.dte c.put_user_frames.new.node in
    let apart : c.plan.inside.dce ≢ c.plan.inside.dte = λ e. c.requires.apart (sym dte_is ∙ sym e ∙ dce_is) in
    let second_there = set_elsewhere nodes c.plan.inside.dte c.plan.inside.dce c.put_user_frames.new.node apart ∙ ap (λ i. slice_get nodes i) dce_is ∙ dce_there in
    let second : c.index_mut-2.result.now ≡ dce = found mid c.plan.inside.dce _ c.index_mut-2.result.now dce (within mid c.plan.inside.dce dce second_there) c.index_mut-2.ensures.value second_there in
    let two = c.put_user_frames-2.ensures in
    let between = g.L.Line.flights c.put_user_frames.new.line in
    record {
      nodes = λ i. set (set nodes (dte_is i) ((one.node_is ∙ ap begun_node first) i)) (dce_is i) ((two.node_is ∙ ap begun_node second) i);
      between = between;
      from_dte = λ f.
          subst (λ (x : Flights). ArePut L FromDte (users_frames dte) x between) (c.empty.ensures f)
          (subst (λ (n : NetNode). ArePut L FromDte (users_frames n) (g.L.Line.flights c.empty.new.self) between) first (one.put f));
      from_dce = λ f. subst (λ (n : NetNode). ArePut L FromDce (users_frames n) between (g.L.Line.flights c.put_user_frames-2.new.line)) second (two.put f);
    }
