-- The roles of the two ends of a line.
use Rattle.link_timers.specs.declared.role.Role.{Role}
use Rattle.link_timers.specs.declared.role.Role.TheVariants.{Dte, Dce}

-- the role of the end that is not this one
abbrev pub other_of : Role → Role
other_of Dte = Dce
other_of Dce = Dte
