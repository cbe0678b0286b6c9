use Rattle.std.proofs.Common.{◌∙◌, ap, set, subst, sym}
use Rattle.std.specs.Prelude.{ℕ, Option}
use Rattle.number_set.specs.NumberSet.{has}
use Rattle.link_timers.specs.Timers.{Places, after_ticks}
use Rattle.link_timers.proofs.RunningLaws.{IsLowered, lowered_more, lowered_all}
use Rattle.link_timers.proofs.ChannelSets.{first, within}
use Rattle.link_timers.proofs.channel_timers.ChannelTimers.elapse.Goals as goal

pub loop-place-preserved : goal.loop-place-preserved
loop-place-preserved c =
    let before = c.loop-place.invariant.lowered in
    let old = c.self.inside.left in
    let now = c.loop-place.self-inside.left in
    let running = c.loop-place.self-inside.running in
    let rest = c.loop-place.running in
    let after = c.take_first.new.self in
    let place = c.in-Some.place in
    let found = first rest after place c.in-Some.ensures.first in
    record {
      lowered =
          subst (λ (left : Option ℕ). IsLowered c.args.ticks old (set now place left) (λ n. has running n) (λ n. has after n))
          (sym c.lower_one.ensures)
          (lowered_more c.args.ticks old now (λ n. has running n) (λ n. has rest n) (λ n. has after n) place before found
          (within c.args.ticks old now running rest c.self.inside.running place c.self.invariant
          c.loop-place.invariant.running before found.there));
      running = c.loop-place.invariant.running;
    }

pub returns : goal.returns
returns c =
    lowered_all c.args.ticks c.self.inside.left c.loop-place.self-inside.left (λ n. has c.loop-place.self-inside.running n)
    (λ n. has c.loop-place.running n) c.loop-place.invariant.lowered c.in_default.ensures.first
    ∙ ap (λ (timers : Places). after_ticks timers c.args.ticks) c.self.view_is
