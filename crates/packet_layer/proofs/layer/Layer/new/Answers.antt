use Rattle.std.proofs.Common.{◌≡◌, ap, sym, ◌∙◌, length, arith, subst, Bool}
use Rattle.packet_layer.specs.Held.{plain, buffers, AllFit}
use Rattle.packet_layer.specs.Layer.{start_phase}
use Rattle.packet_layer.specs.RestartView.{phase_of, restart_bodies}
use Rattle.packet_layer.specs.Silence.{OthersAreSilent}
use Rattle.packet_layer.proofs.Silence.{made_silent}
use Rattle.packet_layer.proofs.Closed.{made, made_standing, made_holds, made_fit, made_plain, made_length}
use Rattle.packet_layer.proofs.layer.Layer.new.Goals as goal
use Rattle.packet_layer.proofs.layer.Layer.new.Goals.{then-standing, else-standing, then-standing-2, else-standing-2}

-- the channels that it has
channels-are : (c : goal.After-new-3) → c.if-standing.channels.items ≡ made c.args.params.standing c.args.params.channels
channels-are c =
    let n = c.args.params.channels in
    elim c.if-standing.branch [
      | then-standing w ↦
          (λ i. (w.channels-is i).items)
          ∙ made_standing c.in_ok-channels.channels.items n w.index_mut-first.result.now w.stand.new.self
          c.in_ok-channels.ensures c.in_ok-check.ensures.channels_least w.index_mut-first.ensures.value w.stand.ensures
          ∙ ap (λ (b : Bool). made b n) (sym w.if-standing.true)
      | else-standing w ↦
          (λ i. (w.channels-is i).items) ∙ c.in_ok-channels.ensures ∙ ap (λ (b : Bool). made b n) (sym w.if-standing.false)
    ]

pub invariant_of-result : goal.invariant_of-result
invariant_of-result c =
    let p = c.args.params in
    let long = ap length (channels-are c) ∙ made_length p.standing p.channels in
    record {
      flow = c.in_ok-check.ensures.flow_is;
      channels = omega (arith, long, c.in_ok-check.ensures.channels_most);
      others = subst (OthersAreSilent p.flow _) (sym (ap plain (channels-are c) ∙ made_plain p.standing p.channels)) (made_silent p.flow _ p.standing p.channels);
      notes = rw c.in_ok-notes.ensures (omega arith);
      fits = subst (AllFit p.flow) (sym (channels-are c)) (made_fit p.flow p.standing p.channels);
    }

pub returns : goal.returns
returns c =
    let p = c.args.params in
    let channels = ap plain (channels-are c) ∙ made_plain p.standing p.channels in
    let none = ap buffers (channels-are c) ∙ made_holds p.standing p.channels in
    let phase : phase_of c.if-standing-2.result ≡ start_phase p.standing =
    elim c.if-standing-2.branch [
      | then-standing-2 w ↦ ap phase_of w.result-is ∙ ap start_phase (sym w.if-standing-2.true)
      | else-standing-2 w ↦ ap phase_of w.result-is ∙ ap start_phase (sym w.if-standing-2.false)
    ] in (
      c.in_ok-check.ensures,
      λ i. record {
        layer = record {
          role = c.args.role;
          flow = p.flow;
          channels = channels i;
          phase = phase i;
          owed = restart_bodies (c.new-3.ensures i);
          served_last = 0;
          relink = Bool.false;
          notes = c.in_ok-notes.ensures i;
        };
        held = none i;
      },
    )
