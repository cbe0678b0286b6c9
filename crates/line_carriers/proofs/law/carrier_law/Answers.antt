use Rattle.line_carriers.proofs.Streams.{stream_law}
use Rattle.line_carriers.proofs.Hellos.{hello_law}
use Rattle.line_carriers.proofs.law.carrier_law.Goals as goal

pub returns-clause-stream : goal.returns-clause-stream
returns-clause-stream c = stream_law

pub returns-clause-hello : goal.returns-clause-hello
returns-clause-hello c = hello_law
