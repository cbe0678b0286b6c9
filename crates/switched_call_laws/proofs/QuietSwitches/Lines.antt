-- The lines of a switch, the end of each of which stays read, with no more timers due.
use Rattle.std.specs.Prelude.{◌≡◌, ℕ, zero, suc, ◌<◌, ◌≤◌, List, [], ◌∷◌, map, slice_get, Some}
use Rattle.std.proofs.Common.{sym, subst, arith}
use Rattle.std.proofs.lemmas.Option.{none-some, same_Some}
use Rattle.node_laws.specs.LineRecords.Due.{due_count}
use Rattle.node_laws.proofs.LineRecords.DueEnds.{no-more-due}
use Rattle.switch_lines.specs.Lines.{SwitchLine, changed}
use Rattle.switched_call_laws.specs.SwitchRecords.DueTimers.{lines_due}
use Rattle.switched_call_laws.proofs.QuietSwitches.Ends.{EndStays, end-same, end-then}

abbrev pub LineStays : (SwitchLine → SwitchLine) → Type 0
LineStays f = (l : SwitchLine) → EndStays l.end (f l).end

abbrev pub LinesStay : (old new : List SwitchLine) → Type 0
LinesStay [] [] = Unit {0}
LinesStay [] (m ∷ ms) = ⊥
LinesStay (l ∷ ls) [] = ⊥
LinesStay (l ∷ ls) (m ∷ ms) = EndStays l.end m.end × LinesStay ls ms

pub lines-same : (ls : List SwitchLine) → LinesStay ls ls
lines-same [] = tt
lines-same (l ∷ ls) = (end-same l.end, lines-same ls)

pub lines-then : (ls ms ks : List SwitchLine) → LinesStay ls ms → LinesStay ms ks → LinesStay ls ks
lines-then [] [] [] f g = tt
lines-then [] [] (k ∷ ks) f g = absurd g
lines-then [] (m ∷ ms) ks f g = absurd f
lines-then (l ∷ ls) [] ks f g = absurd f
lines-then (l ∷ ls) (m ∷ ms) [] f g = absurd g
lines-then (l ∷ ls) (m ∷ ms) (k ∷ ks) f g = (end-then l.end m.end k.end f.0 g.0, lines-then ls ms ks f.1 g.1)

pub lines-all : (f : SwitchLine → SwitchLine) (ls : List SwitchLine) → LineStays f → LinesStay ls (map f ls)
lines-all f [] h = tt
lines-all f (l ∷ ls) h = (h l, lines-all f ls h)

pub lines-one : (n : ℕ) (f : SwitchLine → SwitchLine) (ls : List SwitchLine) → LineStays f → LinesStay ls (changed n f ls)
lines-one n f [] h = tt
lines-one zero f (l ∷ ls) h = (h l, lines-same ls)
lines-one (suc n) f (l ∷ ls) h = (end-same l.end, lines-one n f ls h)

-- a line is changed and changed again, over both of which its end stays so
pub lines-twice : (n : ℕ) (f g : SwitchLine → SwitchLine) (ls : List SwitchLine) → LineStays (λ l. f (g l)) → LinesStay ls (changed n f (changed n g ls))
lines-twice n f g [] h = tt
lines-twice zero f g (l ∷ ls) h = (h l, lines-same ls)
lines-twice (suc n) f g (l ∷ ls) h = (end-same l.end, lines-twice n f g ls h)

-- after all of them were
pub lines-first : (n : ℕ) (f g begins : SwitchLine → SwitchLine) (ls : List SwitchLine) → LineStays (λ l. f (g (begins l))) → LineStays begins
    → LinesStay ls (changed n f (changed n g (map begins ls)))
lines-first n f g begins [] h b = tt
lines-first zero f g begins (l ∷ ls) h b = (h l, lines-all begins ls b)
lines-first (suc n) f g begins (l ∷ ls) h b = (b l, lines-first n f g begins ls h b)

-- ---- how many timers are due

pub no-more : (ls ms : List SwitchLine) → LinesStay ls ms → lines_due ms ≤ lines_due ls
no-more [] [] h = omega arith
no-more [] (m ∷ ms) h = absurd h
no-more (l ∷ ls) [] h = absurd h
no-more (l ∷ ls) (m ∷ ms) h =
    let here = no-more-due l.end m.end h.0.due in
    let others = no-more ls ms h.1 in
    omega (arith, here, others)

-- fewer on the line that changes
pub fewer-first : (n : ℕ) (f g begins : SwitchLine → SwitchLine) (ls : List SwitchLine) (l : SwitchLine) → slice_get ls n ≡ Some l
    → due_count (f (g (begins l))).end < due_count l.end → LineStays begins → lines_due (changed n f (changed n g (map begins ls))) < lines_due ls
fewer-first n f g begins [] l e h b = absurd (none-some l e)
fewer-first zero f g begins (x ∷ ls) l e h b =
    let here : due_count (f (g (begins x))).end < due_count x.end = subst (λ (y : SwitchLine). due_count (f (g (begins y))).end < due_count y.end) (sym (same_Some x l e)) h in
    let others = no-more ls (map begins ls) (lines-all begins ls b) in
    omega (arith, here, others)
fewer-first (suc n) f g begins (x ∷ ls) l e h b =
    let here = no-more-due x.end (begins x).end (b x).due in
    let others = fewer-first n f g begins ls l e h b in
    omega (arith, here, others)
