-- What a check of the octets of a network's file answers.
use Rattle.std.specs.Prelude.{◌≡◌, ◌⊎◌, ℕ, Bool, true, false, List, IsUtf8}
use Rattle.net_config.specs.declared.config.Config.{Config}
use Rattle.net_config.specs.Served.{is_served}
use Rattle.net_files.specs.Networks.{Spells}

-- the octets spell this network, and it is served
abbrev pub IsRead : (octets : List ℕ) → Config → Type 0
IsRead octets config = Spells octets config × (is_served config ≡ true)

-- why octets are no network that is served: they are no text, or spell no network, or one that is not served
pub data IsRefused (octets : List ℕ) : Type 0 where
  no_text : ¬ IsUtf8 octets → IsRefused octets
  no_network : ((config : Config) → ¬ Spells octets config) → IsRefused octets
  not_served : (config : Config) → Spells octets config → is_served config ≡ false → IsRefused octets

abbrev pub Checks : (octets : List ℕ) → (is_right : Bool) → Type 0
Checks octets true = (config : Config) × IsRead octets config
Checks octets false = IsRefused octets
