use Rattle.std.proofs.Common.{◌∙◌, sym, refl, rules}
use Rattle.packet_layer.specs.LayerTimers.{LayerTimers}
use Rattle.packet_layer.proofs.TimersWanted.{NoneWanted, none_wanted, channel_stays, of_channel, others_kept}
use Rattle.packet_layer.proofs.layer_timers.LayerTimers.bring_channel.Goals as goal

pub returns-then-not-waits_on-clause-timers : goal.returns-then-not-waits_on-clause-timers
returns-then-not-waits_on-clause-timers c =
    let l = c.args.layer.now.layer in
    let n = none_wanted l c.args.channel c.args.self.now (c.if-is_empty.ensures.0 refl) (sym c.waits_on.ensures ∙ c.if-not-waits_on.true) in
    sym (channel_stays l c.args.channel c.args.self.now n.call n.reset n.clear)

pub returns-then-not-waits_on-clause-own : goal.returns-then-not-waits_on-clause-own
returns-then-not-waits_on-clause-own c =
    let l = c.args.layer.now.layer in
    let n = none_wanted l c.args.channel c.args.self.now (c.if-is_empty.ensures.0 refl) (sym c.waits_on.ensures ∙ c.if-not-waits_on.true) in
    λ timer is same. of_channel l c.args.channel c.args.self.now n c.requires.least timer same

pub returns-clause-timers : goal.returns-clause-timers
returns-clause-timers c =
    search rules

pub returns-clause-own : goal.returns-clause-own
returns-clause-own c =
    let l = c.args.layer.now.layer in
    let new : LayerTimers = record { restart = c.self.inside.restart; calls = c.bring.new.self; resets = c.bring-2.new.self; clears = c.bring-3.new.self } in
    let n : NoneWanted l c.args.channel new = record {
      call = c.bring.ensures.runs ∙ c.runs_own.ensures;
      reset = c.bring-2.ensures.runs ∙ c.runs_own-2.ensures;
      clear = c.bring-3.ensures.runs ∙ c.runs_own-3.ensures;
    } in
    λ timer is same. of_channel l c.args.channel new n c.requires.least timer same

pub returns-clause-kept : goal.returns-clause-kept
returns-clause-kept c =
    let l = c.args.layer.now.layer in
    let new : LayerTimers = record { restart = c.self.inside.restart; calls = c.bring.new.self; resets = c.bring-2.new.self; clears = c.bring-3.new.self } in
    let n : NoneWanted l c.args.channel new = record {
      call = c.bring.ensures.runs ∙ c.runs_own.ensures;
      reset = c.bring-2.ensures.runs ∙ c.runs_own-2.ensures;
      clear = c.bring-3.ensures.runs ∙ c.runs_own-3.ensures;
    } in
    others_kept l c.args.channel c.args.self.now new (returns-clause-timers c) n
