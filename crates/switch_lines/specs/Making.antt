-- How a switch is made.
use Rattle.std.specs.Prelude.{◌≡◌, ℕ, ◌+◌, ◌≤◌, max, List, [], ◌∷◌, length, map, slice_get, Some}
use Rattle.packet_end.specs.Params.{info_of}
use Rattle.packet_end.specs.declared.fault.EndFault.{EndFault}
use Rattle.packet_end.specs.declared.fault.EndFault.TheVariants.{BadConfig, OutOfMemory}
use Rattle.address_routes.specs.Routes.{RouteMap}
use Rattle.joined_line.specs.declared.config.SwitchLineConfig.{SwitchLineConfig}
use Rattle.switch_lines.specs.Switch.{Switch}
-- which lines a switch takes, how one is made, and the share that it has of the switch's pool
pub use Rattle.joined_line.specs.Making.{IsLineConfig, made_line, line_share}

-- 1 to 64 lines
pub record IsConfig (lines : List SwitchLineConfig) : Type 0 where
  pub least : 1 ≤ length lines
  pub most : length lines ≤ 64
  pub each : (n : ℕ) → (c : SwitchLineConfig) → slice_get lines n ≡ Some c → IsLineConfig c

abbrev pub MadeNot : List SwitchLineConfig → EndFault → Type 0
MadeNot lines BadConfig = IsConfig lines → ⊥
MadeNot lines OutOfMemory = IsConfig lines

-- the shares that lines have of the switch's pool, together
abbrev pub shares_with : List SwitchLineConfig → ℕ
shares_with [] = 0
shares_with (c ∷ cs) = line_share c + shares_with cs

-- the most octets that a buffer of lines has to hold
abbrev pub greatest_info : List SwitchLineConfig → ℕ
greatest_info [] = 0
greatest_info (c ∷ cs) = max (info_of c.params.flow) (greatest_info cs)

abbrev pub made : RouteMap → List SwitchLineConfig → Switch
made routes lines = record { routes = routes; lines = map made_line lines }
