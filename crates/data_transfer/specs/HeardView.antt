-- What the code answers to a packet of data transfer.
use Rattle.data_transfer.specs.Traffic as spec
use Rattle.data_transfer.specs.declared.heard.Heard.{Heard}
use Rattle.data_transfer.specs.declared.heard.Heard.TheVariants.{Keeps, Confirms, Wrong}

abbrev pub heard_of : Heard → spec.Traffic → spec.Heard
heard_of (Keeps newly) t = spec.Heard.Keeps newly t
heard_of Confirms t = spec.Heard.Confirms t
heard_of (Wrong diagnostic) t = spec.Heard.Wrong diagnostic
