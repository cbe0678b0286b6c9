-- What the answers of a call are.
use Rattle.std.proofs.Common.{◌≡◌, ◌↔◌, ℕ, true, false, cond, List, Option, Some, None, Result, Ok, Err, refl, sym, subst, ◌∙◌, true≢false}
use Rattle.std.specs.Prelude.{MatchOption, IsOk, OnOk, OnErr, IfOk, IfErr, is_none}
use Rattle.x3_params.specs.declared.fault.ParamFault.{ParamFault}
use Rattle.net_config.specs.declared.config.Config.{Config}
use Rattle.net_config.specs.declared.fault.MakeFault.{MakeFault}
use Rattle.net_config.specs.declared.fault.MakeFault.TheVariants.{BadConfig, OutOfMemory}
use Rattle.net_config.specs.Served.{is_served}

-- a setting changes the values exactly where it is accepted
pub set_by : {A : Type 0} (fault : Option ParamFault) (before after changed : List ℕ) (result : Result A ParamFault)
    → MatchOption fault (IsOk result) (λ f. result ≡ Err f) → OnOk result (after ≡ changed)
    → OnErr result (after ≡ before) → after ≡ cond (is_none fault) changed before
set_by None before after changed (Ok u) exact ok err = ok
set_by None before after changed (Err f) exact ok err = absurd (true≢false (sym exact))
set_by (Some f) before after changed (Ok u) exact ok err = absurd (true≢false (sym (subst IsOk exact refl)))
set_by (Some f) before after changed (Err g) exact ok err = err

pub on_ok : {A E : Type 0} (result : Result A E) (P : Type 0) → P → OnOk result P
on_ok (Ok x) P p = p
on_ok (Err e) P p = tt

pub if_ok : {A E : Type 0} (result : Result A E) (P Q : A → Type 0) → IfOk result P
    → ((x : A) → P x → Q x) → IfOk result Q
if_ok (Ok x) P Q h to = to x h
if_ok (Err e) P Q h to = tt

pub if_err : {A E : Type 0} (result : Result A E) (P Q : E → Type 0) → IfErr result P
    → ((e : E) → P e → Q e) → IfErr result Q
if_err (Ok x) P Q h to = tt
if_err (Err e) P Q h to = to e h

IsBad : MakeFault → Type 0
IsBad BadConfig = Unit {0}
IsBad OutOfMemory = ⊥

differ : BadConfig ≡ OutOfMemory → ⊥
unfolding IsBad
differ e = subst IsBad e tt

pub no_memory : (c : Config) → is_served c ≡ true → (fault : MakeFault) → fault ≡ OutOfMemory
    → (fault ≡ BadConfig) ↔ (is_served c ≡ false)
no_memory c served fault e = (λ bad. absurd (differ (sym bad ∙ e)), λ not. absurd (true≢false (sym served ∙ not)))
