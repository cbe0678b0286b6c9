-- What is made of the table says what the table says.
use Rattle.service_files.proofs.reading.read_binding.Goals as goal

pub returns : goal.returns
returns c = c.binding_of.ensures
