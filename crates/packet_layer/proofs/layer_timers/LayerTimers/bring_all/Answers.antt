use Rattle.std.proofs.Common.{◌≡◌, ◌∙◌, ◌+◌, ap, arith, ℕ}
use Rattle.packet_layer.specs.LayerTimers.{LayerTimers, brought_channel, brought_channels, brought_restart, brought}
use Rattle.packet_layer.proofs.TimersWanted.{reaches_further, one_channel_more}
use Rattle.packet_layer.proofs.layer_timers.LayerTimers.bring_all.Goals as goal

pub loop-place-preserved : goal.loop-place-preserved
loop-place-preserved c =
    let l = c.args.layer.now.layer in
    record {
      timers =
          c.bring_channel.ensures.timers
          ∙ ap (λ (timers : LayerTimers). brought_channel l (c.loop-place.place + 1) timers) c.loop-place.invariant.timers
          ∙ one_channel_more l c.loop-place.place (c.loop-place.place + 1) (brought_restart l c.args.self.now) (omega arith);
      agree =
          reaches_further l c.loop-place.self c.bring_channel.new.self c.loop-place.place c.loop-place.invariant.agree
          c.bring_channel.ensures.kept c.bring_channel.ensures.own;
    }

pub returns-clause-timers : goal.returns-clause-timers
unfolding brought
returns-clause-timers c =
    let l = c.args.layer.now.layer in
    let all : c.loop-place.place ≡ 32 = omega (arith, c.loop-place-test.false, c.loop-place.auto.place-end) in
    c.loop-place.invariant.timers
    ∙ ap (λ (count : ℕ). brought_channels l count (brought_restart l c.args.self.now)) all
