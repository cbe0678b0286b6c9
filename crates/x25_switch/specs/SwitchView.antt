-- What contracts see of the code's switch, and what always holds of it.
use Rattle.switch_lines.specs.Switch.{Switch}
use Rattle.switch_laws.specs.World.{World}
use Rattle.switch_laws.specs.Events.{SwitchHolds}
use Rattle.x25_switch.specs.declared.switch.Switch.TheInside.{Inside}

abbrev pub switch_of : Inside → Switch
switch_of a = record { routes = a.routes; lines = a.lines }

-- there are legs of its channels with which it is a switch of which the laws speak
pub record HoldsWithLegs (a : Inside) : Type 0 where
  pub legs : World
  pub holds : SwitchHolds (switch_of a) legs
