-- The timers of the channels that are not touched run as the layer wants them to, so that those of the touched ones alone
-- are brought into line.
use Rattle.std.proofs.Common.{◌≡◌, ◌≢◌, ℕ, zero, suc, ◌≤◌, refl, sym, ap, ◌∙◌, arith, inl, inr}
use Rattle.std.specs.Prelude.{◌⊎◌}
use Rattle.std.proofs.lemmas.Bool.{cases_eq, ne_eqb}
use Rattle.packet_layer.specs.Layer.{Layer, Timer}
use Rattle.packet_layer.specs.Layer.Timer.{RestartTimer, CallTimer, ResetTimer, ClearTimer}
use Rattle.packet_layer.specs.LayerTimers.{LayerTimers, brought_channel, brought_channels, brought, RunsAsWanted, IsTimer}
use Rattle.packet_layer.specs.LayerTimers.{channel_number, TimersAgree}
use Rattle.packet_layer.proofs.TimersWanted.{restart_stays, channel_stays}
use Rattle.packet_end.specs.Touched.{has, OthersAgree}
use Rattle.packet_end.specs.declared.touched.Touched.{Touched}
use Rattle.packet_end.specs.declared.touched.Touched.TheVariants.{Nothing, NoTimer, Channel}

own_stays : (l : Layer) (channel : ℕ) (timers : LayerTimers) → 1 ≤ channel → channel ≤ 32 →
    ((timer : Timer) → IsTimer timer → channel_number timer ≡ channel → RunsAsWanted l timers timer) →
    brought_channel l channel timers ≡ timers
own_stays l channel timers least most wanted =
    let is : (1 ≤ channel) × (channel ≤ 32) = (least, most) in
    channel_stays l channel timers (wanted (CallTimer channel) is refl) (wanted (ResetTimer channel) is refl) (wanted (ClearTimer channel) is refl)

channels_stay : (l : Layer) (count : ℕ) (timers : LayerTimers) → count ≤ 32 →
    ((timer : Timer) → IsTimer timer → channel_number timer ≤ count → RunsAsWanted l timers timer) →
    brought_channels l count timers ≡ timers
channels_stay l zero timers most wanted = refl
channels_stay l (suc count) timers most wanted =
    ap (λ (x : LayerTimers). brought_channel l (suc count) x)
    (channels_stay l count timers (omega arith) (λ timer is within. wanted timer is (omega arith)))
    ∙ own_stays l (suc count) timers (omega arith) most (λ timer is same. wanted timer is (omega arith))

-- of the first channels one alone is touched
only_one : (l : Layer) (channel count : ℕ) (timers new : LayerTimers) → new ≡ brought_channel l channel timers →
    ((timer : Timer) → IsTimer timer → channel_number timer ≢ channel → RunsAsWanted l timers timer) →
    ((timer : Timer) → IsTimer timer → channel_number timer ≢ channel → RunsAsWanted l new timer) →
    1 ≤ channel → channel ≤ count → count ≤ 32 → brought_channels l count timers ≡ new
only_one l channel zero timers new is before after least within most = absurd (omega arith)
only_one l channel (suc count) timers new is before after least within most =
    go (cases_eq channel (suc count)) (λ further. only_one l channel count timers new is before after least further (omega arith))
  where
    go : (channel ≡ suc count) ⊎ (channel ≡ suc count → ⊥) → (channel ≤ count → brought_channels l count timers ≡ new) →
        brought_channels l (suc count) timers ≡ new
    go (inl same) further =
        ap (λ (x : LayerTimers). brought_channel l (suc count) x)
        (channels_stay l count timers (omega arith) (λ timer is_timer below. before timer is_timer (omega arith)))
        ∙ ap (λ (n : ℕ). brought_channel l n timers) (sym same) ∙ sym is
    go (inr apart) further =
        ap (λ (x : LayerTimers). brought_channel l (suc count) x) (further (omega (arith, apart)))
        ∙ own_stays l (suc count) new (omega arith) most (λ timer is_timer same. after timer is_timer (omega (arith, apart)))

-- no timer is
pub none_touched : (l : Layer) (timers : LayerTimers) → TimersAgree l timers → brought l timers ≡ timers
unfolding brought
none_touched l timers agree =
    ap (λ (x : LayerTimers). brought_channels l 32 x) (restart_stays l timers (agree RestartTimer tt))
    ∙ channels_stay l 32 timers (omega arith) (λ timer is within. agree timer is)

pub none_concerned : (l : Layer) (timers : LayerTimers) (touched : Touched) → (touched ≡ Nothing) ⊎ (touched ≡ NoTimer) →
    OthersAgree l timers touched → TimersAgree l timers
none_concerned l timers touched (inl nothing) agree timer is =
    agree timer is (ap (λ (t : Touched). has t (channel_number timer)) nothing)
none_concerned l timers touched (inr none) agree timer is =
    agree timer is (ap (λ (t : Touched). has t (channel_number timer)) none)

-- those of one channel are
pub one_touched : (l : Layer) (channel : ℕ) (timers new : LayerTimers) → OthersAgree l timers (Channel channel) →
    new ≡ brought_channel l channel timers →
    ((timer : Timer) → RunsAsWanted l timers timer → RunsAsWanted l new timer) →
    1 ≤ channel → channel ≤ 32 → new ≡ brought l timers
unfolding brought
one_touched l channel timers new agree is kept least most =
    let wanted : (timer : Timer) → IsTimer timer → channel_number timer ≢ channel → RunsAsWanted l timers timer =
    λ timer is_timer apart. agree timer is_timer (ne_eqb (channel_number timer) channel apart) in
    sym (ap (λ (x : LayerTimers). brought_channels l 32 x) (restart_stays l timers (wanted RestartTimer tt (omega arith)))
    ∙ only_one l channel 32 timers new is wanted (λ timer is_timer apart. kept timer (wanted timer is_timer apart))
    least most (omega arith))

pub one_agrees : (l : Layer) (channel : ℕ) (timers new : LayerTimers) → OthersAgree l timers (Channel channel) →
    ((timer : Timer) → RunsAsWanted l timers timer → RunsAsWanted l new timer) →
    ((timer : Timer) → IsTimer timer → channel_number timer ≡ channel → RunsAsWanted l new timer) → TimersAgree l new
one_agrees l channel timers new agree kept own timer is = go (cases_eq (channel_number timer) channel)
  where
    go : (channel_number timer ≡ channel) ⊎ (channel_number timer ≡ channel → ⊥) → RunsAsWanted l new timer
    go (inl same) = own timer is same
    go (inr apart) = kept timer (agree timer is (ne_eqb (channel_number timer) channel apart))
