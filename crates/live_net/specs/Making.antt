-- How a network without records is made, and the register with which it is as one that keeps them.
use Rattle.std.specs.Prelude.{◌≡◌, map}
use Rattle.call_records.specs.Register.{Register, made_register}
use Rattle.frame_lines.specs.Lines.{LineService}
use Rattle.net_config.specs.declared.config.Config.{Config}
use Rattle.net_config.specs.Plan.{plan_of}
use Rattle.net_events.specs.Network.{Network}
use Rattle.net_events.specs.Opening.{line_plan}
use Rattle.line_sim.specs.Between.{IsBetweenEvents}
use Rattle.line_sim.specs.Courses.{HaveNoEvent}
use Rattle.line_sim.specs.Runs.{IsMadeBy}
use Rattle.live_laws.specs.Registers.{bare}

-- the register of a network that was made by this configuration
abbrev pub register_made : Config → Register
register_made config = made_register (map line_plan (plan_of config).lines)

-- a network was made by this configuration, and this is left of it when its records are forgotten
pub record IsMadeBare (L : LineService) (config : Config) (left : Network) : Type 0 where
  pub net : Network
  pub made : IsMadeBy L config net
  pub between : IsBetweenEvents L net
  pub courses : HaveNoEvent config net
  pub left_is : left ≡ bare net
