-- What becomes of a call that comes in, as the code answers it.
use Rattle.std.specs.Prelude.{ℕ, Result, Ok, Err}
use Rattle.switch_lines.specs.Lines.{SwitchChannel}
use Rattle.switch_lines.specs.Switch.{Answer}
use Rattle.switch_lines.specs.Switch.Answer.{Clears, Joins}

-- the channel where it goes on, or the cause with which it is cleared
abbrev pub answer_of : Result SwitchChannel ℕ → Answer
answer_of (Ok q) = Joins q
answer_of (Err cause) = Clears cause
