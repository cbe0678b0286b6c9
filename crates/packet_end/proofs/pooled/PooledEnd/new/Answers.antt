use Rattle.std.proofs.Common.{◌≡◌, ◌+◌, ◌∙◌, [], ◌++◌, length, ap, sym, arith, rules, tests}
use Rattle.lapb.specs.declared.link.LinkParams.{LinkParams}
use Rattle.line_end.specs.End as line
use Rattle.line_end.specs.Held.{LineEnd}
use Rattle.packet_layer.specs.Held.{Layer, most_held}
use Rattle.packet_layer.specs.declared.params.LayerParams.{LayerParams}
use Rattle.packet_layer.specs.Layer as machine
use Rattle.packet_end.specs.Params.{info_of, link_params}
use Rattle.packet_end.proofs.Pools.{made_k, made_info, made_most}
use Rattle.packet_end.proofs.pooled.PooledEnd.new.Goals as goal

pub returns-clause-end : goal.returns-clause-end
returns-clause-end c =
    let p = c.args.params in
    let role = c.args.role in
    let boxed : c.in_ok-line-2.line.value ≡ c.in_ok-line.line = search (rules, tests) in
    let line =
    boxed ∙ c.in_ok-line.ensures.end.1 ∙ ap (λ (q : LinkParams). record { end = line.made role q; held = [] }) c.link.ensures in
    let layer =
    c.in_ok-layer.ensures.1
    ∙ ap (λ (q : LayerParams). record { layer = machine.made role q.channels q.flow q.standing; held = [] }) c.layer.ensures in
    let k = ap (λ (x : LineEnd). x.end.link.k) line ∙ made_k role (link_params p) in
    let most = ap (λ (x : Layer). most_held x.layer) layer ∙ made_most role p.channels p.flow p.standing in
    let info = ap (λ (x : LineEnd). x.end.link.info) line ∙ made_info role (link_params p) in
    λ i. record {
      end = record {
        line = (line i).end;
        layer = (layer i).layer;
        timers = c.new-5.ensures i;
        notes = c.in_ok-notes.ensures i;
      };
      held = (line i).held ++ (layer i).held;
      share = k i + most i + 1;
      info = info i;
    }

pub invariant_of-result : goal.invariant_of-result
invariant_of-result c =
    let p = c.args.params in
    let role = c.args.role in
    let boxed : c.in_ok-line-2.line.value ≡ c.in_ok-line.line = search (rules, tests) in
    let line =
    boxed ∙ c.in_ok-line.ensures.end.1 ∙ ap (λ (q : LinkParams). record { end = line.made role q; held = [] }) c.link.ensures in
    let none = ap (λ (x : LineEnd). length x.held) line in
    let info = ap (λ (x : LineEnd). x.end.link.info) line ∙ made_info role (link_params p) in
    let flow =
    ap (λ (x : Layer). x.layer.flow) c.in_ok-layer.ensures.1
    ∙ ap (λ (q : LayerParams). q.flow) c.layer.ensures in
    record {
      line = omega (arith, none);
      layer = search rules;
      info = info ∙ ap info_of (sym flow);
      agree = search rules;
      finished = search rules;
    }
