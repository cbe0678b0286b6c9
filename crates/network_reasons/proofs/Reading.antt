-- What is read of a text.
use Rattle.std.proofs.Common.{◌≡◌, ℕ, true, false, List, Option, Some, None, Result, Ok, Err, sym, subst}
use Rattle.std.specs.Prelude.{IfOk, MatchOption}
use Rattle.net_config.specs.declared.config.Config.{Config}
use Rattle.net_config.specs.Served.{is_served}
use Rattle.net_files.specs.Networks.{Spells}
use Rattle.network_reasons.specs.Checks.{IsRead, IsRefused}
use Rattle.network_reasons.specs.Checks.IsRefused.{not_served}

pub read_so : {E : Type 0} (text : List ℕ) (config : Config) (result : Result (Option Config) E) → Spells text config
    → IfOk result (λ served. MatchOption served (is_served config ≡ false) (λ same. (same ≡ config) × (is_served config ≡ true)))
    → IfOk result (λ read. MatchOption read (IsRefused text) (IsRead text))
read_so text config (Ok None) spells h = not_served config spells h
read_so text config (Ok (Some same)) spells h =
    subst (IsRead text) (sym h.0) (spells, h.1)
read_so text config (Err e) spells h = tt
