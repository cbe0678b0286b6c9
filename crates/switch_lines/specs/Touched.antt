-- Which lines of a switch an event has to look at: those on which something happened. On the others nothing is left to
-- do.
use Rattle.std.specs.Prelude.{◌≡◌, ℕ, zero, suc, ◌<◌, Bool, true, false, if◌then◌else◌, List, [], ◌∷◌, length, slice_get}
use Rattle.std.specs.Prelude.{Option, Some, None}
use Rattle.lapb.specs.Machine.{settle, runs}
use Rattle.line_end.specs.End.{End}
use Rattle.packet_layer.specs.LayerTimers.{TimersAgree}
use Rattle.number_set.specs.NumberSet.{has}
use Rattle.number_set.specs.declared.NumberSet.{NumberSet}
use Rattle.switch_lines.specs.Lines.{SwitchLine}
use Rattle.switch_lines.specs.Switch.{may_offer, frames_on}

-- the link has nothing to send, and T1 does not run where the link does not want it to
pub record HasNothingToSend (e : End) : Type 0 where
  pub link : (settle e.link).link ≡ e.link
  pub frames : (settle e.link).frames ≡ []
  pub timer : runs e.link ≡ false → e.t1 ≡ None

-- a line is settled: the timers of its packet layer run as that wants, its link has nothing to send and takes no packet
-- that the layer has, and need not be set up anew
pub record IsSettled (l : SwitchLine) : Type 0 where
  pub timers : TimersAgree l.end.layer l.end.timers
  pub sent : HasNothingToSend l.end.line
  pub offered : may_offer l ≡ false
  pub no_relink : l.end.layer.relink ≡ false

-- its frames and notes of the last event were taken
pub record IsTaken (l : SwitchLine) : Type 0 where
  pub frames : l.end.line.frames ≡ []
  pub notes : l.end.notes ≡ []

abbrev pub AreThere : NumberSet → List SwitchLine → Type 0
AreThere s ls = (n : ℕ) → has s n ≡ true → n < length ls

-- no frame waits on a line that is not in the set
abbrev pub HasAllFrames : NumberSet → List SwitchLine → Type 0
HasAllFrames s ls = (n : ℕ) → has s n ≡ false → frames_on (slice_get ls n) ≡ []

-- the lines that are not touched are settled, and the frames of those that are not untaken either were taken
pub record NothingElseIsLeft (touched untaken : NumberSet) (ls : List SwitchLine) : Type 0 where
  pub touched_there : AreThere touched ls
  pub untaken_there : AreThere untaken ls
  pub settled : (n : ℕ) (l : SwitchLine) → has touched n ≡ false → slice_get ls n ≡ Some l → IsSettled l
  pub taken : (n : ℕ) (l : SwitchLine) → has touched n ≡ false → has untaken n ≡ false → slice_get ls n ≡ Some l
      → IsTaken l

-- some lines alone are changed, from line n on
abbrev pub changed_in : {X : Type 0} → NumberSet → (X → X) → (line : ℕ) → List X → List X
changed_in s f n [] = []
changed_in s f n (x ∷ xs) = (if has s n then f x else x) ∷ changed_in s f (suc n) xs

-- ---- the numbers of a set, rising: those from n on, below n + count, and all

abbrev pub members_from : (n count : ℕ) → NumberSet → List ℕ
members_from n zero s = []
members_from n (suc count) s = if has s n then n ∷ members_from (suc n) count s else members_from (suc n) count s

unfoldable pub members : NumberSet → List ℕ
members s = members_from 0 64 s

-- ---- whether the link of a line takes a packet

abbrev pub offers_on : Option SwitchLine → Bool
offers_on None = false
offers_on (Some l) = may_offer l
