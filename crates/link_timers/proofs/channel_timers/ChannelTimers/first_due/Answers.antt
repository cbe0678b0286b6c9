use Rattle.std.proofs.Common.{◌∙◌, ◌≡◌, ◌<◌, ap, arith, get_or, sym, true}
use Rattle.std.specs.Prelude.{None, ℕ}
use Rattle.number_set.specs.NumberSet.{has}
use Rattle.link_timers.specs.ChannelTimers as channels
use Rattle.link_timers.specs.Timers.{Places, is_due}
use Rattle.link_timers.proofs.RunningLaws.{first_is, first_none, is_zero, within_places}
use Rattle.link_timers.proofs.ChannelSets.{first}
use Rattle.link_timers.proofs.channel_timers.ChannelTimers.first_due.Goals as goal

pub returns-then-eq : goal.returns-then-eq
returns-then-eq c =
    let left = c.self.inside.left in
    let place = c.in-Some.place in
    let passed = c.loop-place.invariant in
    let found = first c.loop-place.running c.take_first.new.self place c.in-Some.ensures.first in
    let less : place < 33 = within_places 33 left (λ n. has c.self.inside.running n) place c.self.invariant (passed.among place found.there) in
    let due : is_due (get_or left place None) ≡ true =
    sym (is_zero (get_or left place None)) ∙ sym c.eq.ensures ∙ c.if-eq.true
    in
    first_is (λ (channel : ℕ). channel) left (λ n. has c.self.inside.running n) (λ n. has c.loop-place.running n)
    (λ n. has c.take_first.new.self n) place passed found (omega (arith, less, c.self.invariant.whole)) due
    ∙ ap (λ (timers : Places). channels.first_due timers) c.self.view_is

pub returns : goal.returns
returns c =
    first_none (λ (channel : ℕ). channel) c.self.inside.left (λ n. has c.self.inside.running n) (λ n. has c.loop-place.running n)
    c.loop-place.invariant c.in_default.ensures.first
    ∙ ap (λ (timers : Places). channels.first_due timers) c.self.view_is
