use Rattle.service_ports.proofs.ClientReading.{client_reads_text}
use Rattle.service_ports.proofs.ClientKeys.{keys_are_read}
use Rattle.service_ports.proofs.Answering.{options_are_answered_once}
use Rattle.service_ports.proofs.law.telnet_law.Goals as goal

pub returns-clause-written : goal.returns-clause-written
returns-clause-written c = client_reads_text

pub returns-clause-typed : goal.returns-clause-typed
returns-clause-typed c = keys_are_read

pub returns-clause-answered : goal.returns-clause-answered
returns-clause-answered c = options_are_answered_once
