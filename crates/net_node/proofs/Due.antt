-- Which own line of a switch has a timer that is due.
use Rattle.std.proofs.Common.{◌≡◌, ◌≤◌, ◌<◌, ℕ, zero, suc, List, [], ◌∷◌, length, drop, None, refl, arith}
use Rattle.std.specs.Prelude.{slice_get}
use Rattle.switch_lines.specs.Lines.{SwitchLine}
use Rattle.switch_lines.specs.Switch.{due_on}
use Rattle.net_events.specs.AtSwitch.{network_line}
use Rattle.net_events.specs.NextDue.{first_on, due_on_lines}

none_of : (lines : List ℕ) → due_on_lines lines [] ≡ None
none_of [] = refl
none_of (line ∷ lines) = refl

pub none_over : (lines : List ℕ) (own : List SwitchLine) (n : ℕ) → length own ≤ n → due_on_lines (drop n lines) (drop n own) ≡ None
none_over lines [] zero h = none_of lines
none_over lines (l ∷ own) zero h = absurd (omega (arith, h))
none_over [] own (suc n) h = refl
none_over (line ∷ lines) [] (suc n) h = none_of (drop n lines)
none_over (line ∷ lines) (l ∷ own) (suc n) h = none_over lines own n (omega (arith, h))

pub due_step : (lines : List ℕ) (own : List SwitchLine) (n : ℕ) → n < length lines → n < length own
    → due_on_lines (drop n lines) (drop n own)
    ≡ first_on (network_line lines n) (due_on (slice_get own n)) (due_on_lines (drop (suc n) lines) (drop (suc n) own))
due_step [] own n h k = absurd (omega (arith, h))
due_step (line ∷ lines) [] n h k = absurd (omega (arith, k))
due_step (line ∷ lines) (l ∷ own) zero h k = refl
due_step (line ∷ lines) (l ∷ own) (suc n) h k = due_step lines own n (omega (arith, h)) (omega (arith, k))
