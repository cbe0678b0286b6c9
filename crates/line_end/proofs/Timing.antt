-- T1 runs exactly where the link says so.
use Rattle.std.specs.Prelude.{◌≡◌, Bool, true, false, not, ◌||◌, if◌then◌else◌, nat_le}
use Rattle.std.proofs.Common.{refl, ap, ◌∙◌}
use Rattle.link_timers.specs.declared.role.Role.{Role}
use Rattle.link_timers.specs.declared.role.Role.TheVariants.{Dte, Dce}
use Rattle.lapb.specs.declared.phase.Phase.{Phase}
use Rattle.lapb.specs.declared.note.Timing.{Timing as Change}
use Rattle.lapb.specs.Machine.{Link, Step, still, relink, relink_as, poll, runs, expire_in, on_t1, timing, timing_after}
use Rattle.line_end.specs.End.{runs_then}

-- what one call makes of T1
pub timing_after-keep : (change : Change) → timing_after Change.Keep change ≡ change
timing_after-keep Change.Keep = refl
timing_after-keep Change.Start = refl
timing_after-keep Change.Stop = refl

by_tests : (ran now anew : Bool) → runs_then (if now then (if anew || not ran then Change.Start else Change.Keep) else
    Change.Stop) ran
    ≡ now
by_tests ran false anew = refl
by_tests ran true true = refl
by_tests true true false = refl
by_tests false true false = refl

-- after a step T1 runs where the link says so, if it did before
pub runs_after : (l : Link) (step : Step) → runs_then (timing l step) (runs l) ≡ runs step.link
runs_after l step = by_tests (runs l) (runs step.link) step.anew

relink_anew : (role : Role) (phase : Phase) (l : Link) → phase ≡ Phase.Up → (relink_as role phase l).anew ≡ true
relink_anew Dte Phase.SettingUp l e = absurd (cc)
relink_anew Dte Phase.Down l e = refl
relink_anew Dte Phase.Up l e = refl
relink_anew Dte Phase.Rejecting l e = refl
relink_anew Dce phase l e = refl

expire_anew : (phase : Phase) (l : Link) → l.phase ≡ phase → (expire_in phase l).anew ≡ true
expire_anew Phase.Down l e = refl
expire_anew Phase.SettingUp l e = refl
expire_anew Phase.Up l e = go (nat_le l.n2 l.polls)
  where
    go : (spent : Bool) → (if spent then relink l else poll l).anew ≡ true
    go true = relink_anew l.role l.phase l e
    go false = refl
expire_anew Phase.Rejecting l e = refl

on_t1-anew : (l : Link) → runs l ≡ true → (on_t1 l).anew ≡ true
on_t1-anew l ran = ap (λ b. (if b then expire_in l.phase l else still l).anew) ran ∙ expire_anew l.phase l refl

by_anew : (ran now anew : Bool) → anew ≡ true → runs_then
    (if now then (if anew || not ran then Change.Start else Change.Keep) else
    Change.Stop) false ≡ now
by_anew ran false anew e = refl
by_anew ran true true e = refl
by_anew ran true false e = absurd (cc)

-- the same after an expiry, by which it stopped
pub runs_after_expiry : (l : Link) → runs l ≡ true → runs_then (timing l (on_t1 l)) false ≡ runs (on_t1 l).link
runs_after_expiry l ran = by_anew (runs l) (runs (on_t1 l).link) (on_t1 l).anew (on_t1-anew l ran)
