use Rattle.std.proofs.Common.{ℕ, refl, sym, subst, true≢false}
use Rattle.packet_layer.specs.LayerTimers.{LayerTimers, NoneRuns}
use Rattle.packet_layer.proofs.layer_timers.LayerTimers.is_empty.Goals as goal

pub returns-then-not-is_empty : goal.returns-then-not-is_empty
returns-then-not-is_empty c =
    let a = c.self.inside in
    let back : ((channel : ℕ) → NoneRuns c.args.self.now channel) → (channel : ℕ) → NoneRuns (record { restart = a.restart; calls = a.calls; resets = a.resets; clears = a.clears }) channel =
    λ all. subst (λ (t : LayerTimers). (channel : ℕ) → NoneRuns t channel) (sym c.self.view_is) all in
    (λ yes. absurd (true≢false (sym yes)), λ all. c.if-not-is_empty.ensures.1 (λ channel. (back all channel).0))

pub returns-then-not-is_empty-2 : goal.returns-then-not-is_empty-2
returns-then-not-is_empty-2 c =
    let a = c.self.inside in
    let back : ((channel : ℕ) → NoneRuns c.args.self.now channel) → (channel : ℕ) → NoneRuns (record { restart = a.restart; calls = a.calls; resets = a.resets; clears = a.clears }) channel =
    λ all. subst (λ (t : LayerTimers). (channel : ℕ) → NoneRuns t channel) (sym c.self.view_is) all in
    (λ yes. absurd (true≢false (sym yes)), λ all. c.if-not-is_empty-2.ensures.1 (λ channel. (back all channel).1))

pub returns : goal.returns
returns c =
    let a = c.self.inside in
    let back : ((channel : ℕ) → NoneRuns c.args.self.now channel) → (channel : ℕ) → NoneRuns (record { restart = a.restart; calls = a.calls; resets = a.resets; clears = a.clears }) channel =
    λ all. subst (λ (t : LayerTimers). (channel : ℕ) → NoneRuns t channel) (sym c.self.view_is) all in (
      λ yes. subst (λ (t : LayerTimers). (channel : ℕ) → NoneRuns t channel) c.self.view_is
          (λ channel. (c.if-not-is_empty.ensures.0 refl channel, c.if-not-is_empty-2.ensures.0 refl channel, c.is_empty-3.ensures.0 yes channel)),
      λ all. c.is_empty-3.ensures.1 (λ channel. (back all channel).2),
    )
