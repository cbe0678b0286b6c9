-- The code's reasons why a frame could not be read.
use Rattle.lapb.specs.declared.link.defects.Defect.{Defect}
use Rattle.lapb.specs.declared.link.defects.Defect.TheVariants as code
use Rattle.lapb.specs.Machine as machine

abbrev pub defect_of : Defect → machine.Defect
defect_of code.UndefinedControl = machine.UndefinedControl
defect_of code.InformationNotAllowed = machine.InformationNotAllowed
defect_of code.InformationTooLong = machine.InformationTooLong
