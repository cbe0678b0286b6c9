-- Why a network is not made, and what follows of it.
use Rattle.std.proofs.Common.{◌≡◌, ℕ, Bool, true, false, List, Option, Result, Err, IsOkUnless, refl, subst}
use Rattle.command_words.specs.declared.invocation.RunMode.{RunMode}
use Rattle.net_config.specs.declared.config.Config.{Config}
use Rattle.net_config.specs.declared.fault.MakeFault.{MakeFault}
use Rattle.net_config.specs.declared.fault.MakeFault.TheVariants.{BadConfig, OutOfMemory}
use Rattle.net_config.specs.Served.{is_served}
use Rattle.net_files.specs.declared.script.Script.{Script}
use Rattle.net_player.specs.Programs.{PlayFails, making_fault}
use Rattle.net_player.specs.Programs.PlayFails.{no_memory, unserved}

other : BadConfig ≡ OutOfMemory → ⊥
other same = cc same

-- what is served is refused for want of memory alone
not_served : {N : Type 0} (served : Bool) (result : Result N MakeFault) → (served ≡ true → IsOkUnless result OutOfMemory)
    → result ≡ Err BadConfig → served ≡ false
not_served false result unless is = refl
not_served {N} true result unless is =
    let P : Result N MakeFault → Type 0 = λ r. IsOkUnless r OutOfMemory in
    absurd (other (subst P is (unless refl)))

-- the network was not made
pub made_fails : {N : Type 0} {mode : RunMode} {config : Config} {script : Script} (known : Option (List ℕ)) (fault : MakeFault)
    (result : Result N MakeFault) → (is_served config ≡ true → IsOkUnless result OutOfMemory) → result ≡ Err fault
    → PlayFails mode config script known known (making_fault fault)
made_fails known OutOfMemory result unless is = no_memory refl
made_fails {config} known BadConfig result unless is = unserved (not_served (is_served config) result unless is) refl
