-- A timer that is brought into line runs as the layer wants it to, and one that does so already is left as it is.
use Rattle.std.proofs.Common.{◌≡◌, ◌≢◌, ℕ, zero, suc, ◌+◌, ◌≤◌, Bool, true, false, refl, sym, ap, ◌∙◌, subst, arith, inl, inr}
use Rattle.std.proofs.Common.{get_or-set_other}
use Rattle.std.specs.Prelude.{◌||◌, ◌⊎◌, Option, Some, None, is_some, slice_set}
use Rattle.std.proofs.lemmas.Bool.{cases_eq}
use Rattle.std.proofs.lemmas.List.{set-get_or}
use Rattle.link_timers.specs.Timers.{Places}
use Rattle.link_timers.specs.ChannelTimers.{left_on, brought_as, brought_on}
use Rattle.packet_layer.specs.Layer.{Layer, Timer, runs}
use Rattle.packet_layer.specs.Layer.Timer.{RestartTimer, CallTimer, ResetTimer, ClearTimer}
use Rattle.packet_layer.specs.LayerTimers.{LayerTimers, packet_ticks, brought_channel, brought_channels, brought_restart}
use Rattle.packet_layer.specs.LayerTimers.{NoneRuns, RunsAsWanted, IsTimer, channel_number}

-- ---- one that runs as it is wanted stays

as_it_is : (wanted : Bool) (left : Option ℕ) → is_some left ≡ wanted → brought_as packet_ticks wanted left ≡ left
as_it_is true (Some left) e = refl
as_it_is true None e = absurd (cc)
as_it_is false None e = refl
as_it_is false (Some left) e = absurd (cc)

kind_stays : (wanted : Bool) (channel : ℕ) (timers : Places) → is_some (left_on timers channel) ≡ wanted →
    brought_on packet_ticks wanted channel timers ≡ timers
kind_stays wanted channel timers e =
    ap (λ (left : Option ℕ). slice_set timers channel left) (as_it_is wanted (left_on timers channel) e)
    ∙ set-get_or timers channel None

pub restart_stays : (l : Layer) (timers : LayerTimers) → RunsAsWanted l timers RestartTimer → brought_restart l timers ≡ timers
restart_stays l timers e =
    ap (λ (left : Option ℕ). record timers { restart = left }) (as_it_is (runs l RestartTimer) timers.restart e)

pub channel_stays : (l : Layer) (channel : ℕ) (timers : LayerTimers) → RunsAsWanted l timers (CallTimer channel) →
    RunsAsWanted l timers (ResetTimer channel) → RunsAsWanted l timers (ClearTimer channel) →
    brought_channel l channel timers ≡ timers
channel_stays l channel timers call reset clear =
    let calls = kind_stays (runs l (CallTimer channel)) channel timers.calls call in
    let resets = kind_stays (runs l (ResetTimer channel)) channel timers.resets reset in
    let clears = kind_stays (runs l (ClearTimer channel)) channel timers.clears clear in
    λ i. record timers { calls = calls i; resets = resets i; clears = clears i }

-- ---- none runs, and none is to

or_none : (a b c : Bool) → (a || (b || c)) ≡ false → (a ≡ false) × (b ≡ false) × (c ≡ false)
or_none false false false e = (refl, refl, refl)
or_none false false true e = absurd (cc)
or_none false true c e = absurd (cc)
or_none true b c e = absurd (cc)

-- where nothing runs and nothing is waited for, all is as it is wanted
pub record NoneWanted (l : Layer) (channel : ℕ) (timers : LayerTimers) : Type 0 where
  pub call : RunsAsWanted l timers (CallTimer channel)
  pub reset : RunsAsWanted l timers (ResetTimer channel)
  pub clear : RunsAsWanted l timers (ClearTimer channel)

pub none_wanted : (l : Layer) (channel : ℕ) (timers : LayerTimers) →
    ((c : ℕ) → NoneRuns timers c) →
    (runs l (CallTimer channel) || (runs l (ResetTimer channel) || runs l (ClearTimer channel))) ≡ false →
    NoneWanted l channel timers
none_wanted l channel timers none waits =
    let no = or_none (runs l (CallTimer channel)) (runs l (ResetTimer channel)) (runs l (ClearTimer channel)) waits in
    record {
      call = ap is_some (none channel).0 ∙ sym no.0;
      reset = ap is_some (none channel).1 ∙ sym no.1;
      clear = ap is_some (none channel).2 ∙ sym no.2;
    }

-- ---- those of a channel, and those of the others

pub of_channel : (l : Layer) (channel : ℕ) (timers : LayerTimers) → NoneWanted l channel timers → 1 ≤ channel →
    (timer : Timer) → channel_number timer ≡ channel → RunsAsWanted l timers timer
of_channel l channel timers own least RestartTimer same = absurd (omega (arith, least, same))
of_channel l channel timers own least (CallTimer n) same = subst (λ (x : ℕ). RunsAsWanted l timers (CallTimer x)) (sym same) own.call
of_channel l channel timers own least (ResetTimer n) same = subst (λ (x : ℕ). RunsAsWanted l timers (ResetTimer x)) (sym same) own.reset
of_channel l channel timers own least (ClearTimer n) same = subst (λ (x : ℕ). RunsAsWanted l timers (ClearTimer x)) (sym same) own.clear

kind_kept : (old new : Places) (channel n : ℕ) (left : Option ℕ) → new ≡ slice_set old channel left → n ≢ channel →
    left_on new n ≡ left_on old n
kind_kept old new channel n left is apart =
    ap (λ (t : Places). left_on t n) is ∙ get_or-set_other old channel n left None apart

pub others_kept : (l : Layer) (channel : ℕ) (old new : LayerTimers) → new ≡ brought_channel l channel old → NoneWanted l channel new →
    (timer : Timer) → RunsAsWanted l old timer → RunsAsWanted l new timer
others_kept l channel old new is own RestartTimer before = ap (λ (t : LayerTimers). is_some t.restart) is ∙ before
others_kept l channel old new is own (CallTimer n) before = go (cases_eq n channel)
  where
    go : (n ≡ channel) ⊎ (n ≡ channel → ⊥) → RunsAsWanted l new (CallTimer n)
    go (inl same) = subst (λ (x : ℕ). RunsAsWanted l new (CallTimer x)) (sym same) own.call
    go (inr apart) = ap is_some (kind_kept old.calls new.calls channel n _ (ap (λ (t : LayerTimers). t.calls) is) apart) ∙ before
others_kept l channel old new is own (ResetTimer n) before = go (cases_eq n channel)
  where
    go : (n ≡ channel) ⊎ (n ≡ channel → ⊥) → RunsAsWanted l new (ResetTimer n)
    go (inl same) = subst (λ (x : ℕ). RunsAsWanted l new (ResetTimer x)) (sym same) own.reset
    go (inr apart) = ap is_some (kind_kept old.resets new.resets channel n _ (ap (λ (t : LayerTimers). t.resets) is) apart) ∙ before
others_kept l channel old new is own (ClearTimer n) before = go (cases_eq n channel)
  where
    go : (n ≡ channel) ⊎ (n ≡ channel → ⊥) → RunsAsWanted l new (ClearTimer n)
    go (inl same) = subst (λ (x : ℕ). RunsAsWanted l new (ClearTimer x)) (sym same) own.clear
    go (inr apart) = ap is_some (kind_kept old.clears new.clears channel n _ (ap (λ (t : LayerTimers). t.clears) is) apart) ∙ before

-- ---- with one channel more

pub begins : (l : Layer) (timers : LayerTimers) → RunsAsWanted l timers RestartTimer → (timer : Timer) → IsTimer timer →
    channel_number timer ≤ 0 → RunsAsWanted l timers timer
begins l timers restart RestartTimer is within = restart
begins l timers restart (CallTimer channel) is within = absurd (omega (arith, is.0, within))
begins l timers restart (ResetTimer channel) is within = absurd (omega (arith, is.0, within))
begins l timers restart (ClearTimer channel) is within = absurd (omega (arith, is.0, within))

-- a restart's timer that is brought into line runs as it is wanted
pub restart_wanted : (l : Layer) (timers : LayerTimers) → RunsAsWanted l (brought_restart l timers) RestartTimer
restart_wanted l timers = go (runs l RestartTimer) timers.restart
  where
    go : (wanted : Bool) (left : Option ℕ) → is_some (brought_as packet_ticks wanted left) ≡ wanted
    go true None = refl
    go true (Some left) = refl
    go false left = refl

pub reaches_further : (l : Layer) (old new : LayerTimers) (count : ℕ) →
    ((timer : Timer) → IsTimer timer → channel_number timer ≤ count → RunsAsWanted l old timer) →
    ((timer : Timer) → RunsAsWanted l old timer → RunsAsWanted l new timer) →
    ((timer : Timer) → IsTimer timer → channel_number timer ≡ count + 1 → RunsAsWanted l new timer) →
    (timer : Timer) → IsTimer timer → channel_number timer ≤ count + 1 → RunsAsWanted l new timer
reaches_further l old new count before stays own timer is within = go (cases_eq (channel_number timer) (count + 1))
  where
    go : (channel_number timer ≡ count + 1) ⊎ (channel_number timer ≡ count + 1 → ⊥) → RunsAsWanted l new timer
    go (inl same) = own timer is same
    go (inr apart) = stays timer (before timer is (omega (arith, within, apart)))

pub one_channel_more : (l : Layer) (count next : ℕ) (timers : LayerTimers) → next ≡ suc count →
    brought_channel l next (brought_channels l count timers) ≡ brought_channels l next timers
one_channel_more l count zero timers is = absurd (omega arith)
one_channel_more l count (suc next) timers is =
    let same : count ≡ next = omega arith in
    ap (λ (n : ℕ). brought_channel l (suc next) (brought_channels l n timers)) same
