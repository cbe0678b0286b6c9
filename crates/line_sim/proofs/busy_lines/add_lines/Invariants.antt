-- The lines of the frames so far are in the set.
use Rattle.std.proofs.Common.{◌≡◌, ◌≢◌, ◌<◌, ℕ, false}
use Rattle.std.specs.Prelude.{slice_get, Some}
use Rattle.net_events.specs.declared.answer.Put.{Put}
use Rattle.wide_set.specs.WideSet.{has}
use Rattle.line_sim.proofs.busy_lines.add_lines.Given as goal

abbrev pub invariant-loop-put : goal.invariant-loop-put
invariant-loop-put l =
    (line : ℕ) → has l.busy line ≡ false → (has l.initial.busy line ≡ false)
    × ((at : ℕ) (put : Put) → at < l.put-index → slice_get l.puts at ≡ Some put → put.line ≢ line)
