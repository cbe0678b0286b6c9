-- Timers that stop, or start with ticks left: none is due that was not.
use Rattle.std.proofs.Common.{◌≡◌, ℕ, zero, suc, ◌+◌, ◌<◌, ◌≤◌, Bool, true, false, List, [], ◌∷◌, length, get_or, set, refl, sym, ap, ◌∙◌, arith}
use Rattle.std.specs.Prelude.{Option, Some, None, if◌then◌else◌, slice_get}
use Rattle.link_timers.specs.Timers.{Places, is_due, due_by}
use Rattle.link_timers.specs.ChannelTimers as kind
use Rattle.link_timers.specs.ChannelTimers.{brought_as, brought_on, due_channels, left_on, stopped_on}
use Rattle.packet_layer.specs.Layer.{Layer, Timer, runs}
use Rattle.packet_layer.specs.Layer.Timer.{RestartTimer, CallTimer, ResetTimer, ClearTimer}
use Rattle.std.specs.Option.{option_map}
use Rattle.std.proofs.lemmas.Option.{none-some, same_Some}
use Rattle.packet_layer.specs.LayerTimers as running
use Rattle.packet_layer.specs.LayerTimers.{LayerTimers, packet_ticks, left_of, none_running, stopped, brought_channel, brought_channels, brought_restart, brought, due_count}

abbrev pub one_if : Bool → ℕ
one_if v = if v then 1 else 0

-- ---- a list of counts

first_by : (v : Bool) (channel : ℕ) (xs : List ℕ) → length (if v then channel ∷ xs else xs) ≡ one_if v + length xs
first_by true channel xs = omega arith
first_by false channel xs = omega arith

if_more : (a b : Bool) → (a ≡ true → b ≡ true) → one_if a ≤ one_if b
if_more true true h = omega arith
if_more true false h = absurd (let e = h refl in cc)
if_more false b h = omega arith

abbrev due_at : (channel : ℕ) → Places → List ℕ
due_at channel timers = due_by (λ c. c) channel timers

-- what is put in a place is due only if what was there was
set_few : (place k : ℕ) (timers : Places) (left : Option ℕ) → (is_due left ≡ true → is_due (get_or timers k None) ≡ true)
    → length (due_at place (set timers k left)) ≤ length (due_at place timers)
set_few place k [] left h = omega arith
set_few place zero (x ∷ timers) left h =
    let a = first_by (is_due left) place (due_at (place + 1) timers) in
    let b = first_by (is_due x) place (due_at (place + 1) timers) in
    let c = if_more (is_due left) (is_due x) h in
    omega (arith, a, b, c)
set_few place (suc k) (x ∷ timers) left h =
    let a = first_by (is_due x) place (due_at (place + 1) (set timers k left)) in
    let b = first_by (is_due x) place (due_at (place + 1) timers) in
    let c = set_few (place + 1) k timers left h in
    omega (arith, a, b, c)

-- what was there was due, and what is put there is not
set_fewer : (place k : ℕ) (timers : Places) (left : Option ℕ) → is_due left ≡ false → is_due (get_or timers k None) ≡ true
    → length (due_at place (set timers k left)) < length (due_at place timers)
set_fewer place k [] left none was = absurd (cc)
set_fewer place zero (x ∷ timers) left none was =
    let a = first_by (is_due left) place (due_at (place + 1) timers) in
    let b = first_by (is_due x) place (due_at (place + 1) timers) in
    let c : one_if (is_due left) ≡ 0 = ap one_if none in
    let d : one_if (is_due x) ≡ 1 = ap one_if was in
    omega (arith, a, b, c, d)
set_fewer place (suc k) (x ∷ timers) left none was =
    let a = first_by (is_due x) place (due_at (place + 1) (set timers k left)) in
    let b = first_by (is_due x) place (due_at (place + 1) timers) in
    let c = set_fewer (place + 1) k timers left none was in
    omega (arith, a, b, c)

-- the first that is due
record IsDueAt (place : ℕ) (timers : Places) (channel : ℕ) : Type 0 where
  at : ℕ
  is : place + at ≡ channel
  due : is_due (get_or timers at None) ≡ true

due_by_first : (place : ℕ) (left : Option ℕ) (timers : Places) (channel : ℕ) (v : Bool) → is_due left ≡ v
    → slice_get (if v then place ∷ due_at (place + 1) timers else due_at (place + 1) timers) 0 ≡ Some channel
    → (slice_get (due_at (place + 1) timers) 0 ≡ Some channel → IsDueAt (place + 1) timers channel) → IsDueAt place (left ∷ timers) channel
due_by_first place left timers channel true due same later =
    let is : place ≡ channel = same_Some place channel same in
    record { at = 0; is = omega (arith, is); due = due }
due_by_first place left timers channel false none same later =
    let f = later same in
    record { at = suc f.at; is = (let g = f.is in omega (arith, g)); due = f.due }

found_due : (place : ℕ) (timers : Places) (channel : ℕ) → slice_get (due_at place timers) 0 ≡ Some channel → IsDueAt place timers channel
found_due place [] channel e = absurd (none-some channel e)
found_due place (x ∷ timers) channel e =
    due_by_first place x timers channel (is_due x) refl e (λ later. found_due (place + 1) timers channel later)

kind_due : (timers : Places) (channel : ℕ) → kind.first_due timers ≡ Some channel → is_due (left_on timers channel) ≡ true
kind_due timers channel e =
    let f = found_due 0 timers channel e in
    let same : f.at ≡ channel = (let g = f.is in omega (arith, g)) in
    ap (λ (c : ℕ). is_due (left_on timers c)) (sym same) ∙ f.due

-- ---- the timers of a packet layer

pub stopped-more : (timers : LayerTimers) (timer : Timer) → due_count (stopped timers timer) ≤ due_count timers
stopped-more timers RestartTimer = omega arith
stopped-more timers (CallTimer channel) = let a = set_few 0 channel timers.calls None (λ h. absurd (cc)) in omega (arith, a)
stopped-more timers (ResetTimer channel) = let a = set_few 0 channel timers.resets None (λ h. absurd (cc)) in omega (arith, a)
stopped-more timers (ClearTimer channel) = let a = set_few 0 channel timers.clears None (λ h. absurd (cc)) in omega (arith, a)

-- a timer that was due and stops is due no more
pub stopped-fewer : (timers : LayerTimers) (timer : Timer) → is_due (left_of timers timer) ≡ true → due_count (stopped timers timer) < due_count timers
stopped-fewer timers RestartTimer was = let a : one_if (is_due timers.restart) ≡ 1 = ap one_if was in omega (arith, a)
stopped-fewer timers (CallTimer channel) was = let a = set_fewer 0 channel timers.calls None refl was in omega (arith, a)
stopped-fewer timers (ResetTimer channel) was = let a = set_fewer 0 channel timers.resets None refl was in omega (arith, a)
stopped-fewer timers (ClearTimer channel) was = let a = set_fewer 0 channel timers.clears None refl was in omega (arith, a)

none-due : due_count none_running ≡ 0
none-due = refl

pub none-more : (timers : LayerTimers) → due_count none_running ≤ due_count timers
none-more timers = let none = none-due in omega (arith, none)

-- ---- they are brought into line

-- one that starts has ticks left
brought_due : (wanted : Bool) (left : Option ℕ) → is_due (brought_as packet_ticks wanted left) ≡ true → is_due left ≡ true
brought_due false left h = absurd (let no : false ≡ true = h in cc)
brought_due true None h = absurd (let no : false ≡ true = h in cc)
brought_due true (Some left) h = h

brought_few : (wanted : Bool) (channel : ℕ) (timers : Places)
    → length (due_channels (brought_on packet_ticks wanted channel timers)) ≤ length (due_channels timers)
brought_few wanted channel timers =
    set_few 0 channel timers (brought_as packet_ticks wanted (left_on timers channel)) (brought_due wanted (left_on timers channel))

channel-more : (l : Layer) (channel : ℕ) (timers : LayerTimers) → due_count (brought_channel l channel timers) ≤ due_count timers
channel-more l channel timers =
    let a = brought_few (runs l (CallTimer channel)) channel timers.calls in
    let b = brought_few (runs l (ResetTimer channel)) channel timers.resets in
    let c = brought_few (runs l (ClearTimer channel)) channel timers.clears in
    omega (arith, a, b, c)

channels-more : (l : Layer) (count : ℕ) (timers : LayerTimers) → due_count (brought_channels l count timers) ≤ due_count timers
channels-more l zero timers = omega arith
channels-more l (suc count) timers =
    let a = channel-more l (suc count) (brought_channels l count timers) in
    let b = channels-more l count timers in
    omega (arith, a, b)

pub brought-more : (l : Layer) (timers : LayerTimers) → due_count (brought l timers) ≤ due_count timers
unfolding brought
brought-more l timers =
    let a = channels-more l 32 (brought_restart l timers) in
    let b = if_more (is_due (brought_as packet_ticks (runs l RestartTimer) timers.restart)) (is_due timers.restart)
    (brought_due (runs l RestartTimer) timers.restart) in
    omega (arith, a, b)

-- ---- the first one that is due

pub first-is-due : (timers : LayerTimers) (timer : Timer) → running.first_due timers ≡ Some timer
    → is_due (left_of timers timer) ≡ true
first-is-due timers timer e = by (is_due timers.restart) refl (kind.first_due timers.calls) refl (kind.first_due timers.resets) refl (kind.first_due timers.clears) refl e
  where
    by : (r : Bool) → is_due timers.restart ≡ r → (a : Option ℕ) → kind.first_due timers.calls ≡ a → (b : Option ℕ) → kind.first_due timers.resets ≡ b
        → (c : Option ℕ) → kind.first_due timers.clears ≡ c
        → (if r then Some RestartTimer else running.either (option_map CallTimer a) (running.either (option_map ResetTimer b) (option_map ClearTimer c))) ≡ Some timer
        → is_due (left_of timers timer) ≡ true
    by true r a e_a b e_b c e_c same = ap (λ (t : Timer). is_due (left_of timers t)) (sym (same_Some RestartTimer timer same)) ∙ r
    by false r (Some n) e_a b e_b c e_c same =
        ap (λ (t : Timer). is_due (left_of timers t)) (sym (same_Some (CallTimer n) timer same)) ∙ kind_due timers.calls n e_a
    by false r None e_a (Some n) e_b c e_c same =
        ap (λ (t : Timer). is_due (left_of timers t)) (sym (same_Some (ResetTimer n) timer same)) ∙ kind_due timers.resets n e_b
    by false r None e_a None e_b (Some n) e_c same =
        ap (λ (t : Timer). is_due (left_of timers t)) (sym (same_Some (ClearTimer n) timer same)) ∙ kind_due timers.clears n e_c
    by false r None e_a None e_b None e_c same = absurd (none-some timer same)
