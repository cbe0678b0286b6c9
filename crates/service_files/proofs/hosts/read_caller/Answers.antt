-- What is made of the table says what the table says.
use Rattle.service_files.proofs.hosts.read_caller.Goals as goal

pub returns : goal.returns
returns c = c.caller_of.ensures
