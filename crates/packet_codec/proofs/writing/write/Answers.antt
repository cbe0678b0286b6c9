use Rattle.std.proofs.Common.{rules, tests}
use Rattle.packet_codec.proofs.writing.write.Goals as goal

pub write_data-requires-clause-fits : goal.write_data-requires-clause-fits
write_data-requires-clause-fits c = search (rules, tests)

pub write_flow-requires-clause-number : goal.write_flow-requires-clause-number
write_flow-requires-clause-number c = search (rules, tests)

pub write_flow-requires-in-ReceiveNotReady-clause-number : goal.write_flow-requires-in-ReceiveNotReady-clause-number
write_flow-requires-in-ReceiveNotReady-clause-number c = search (rules, tests)

pub returns-in-CallRequest : goal.returns-in-CallRequest
returns-in-CallRequest c = search (rules, tests)

pub returns-in-CallAccepted : goal.returns-in-CallAccepted
returns-in-CallAccepted c = search (rules, tests)

pub returns-in-ClearRequest : goal.returns-in-ClearRequest
returns-in-ClearRequest c = search (rules, tests)

pub returns-in-ClearConfirmation : goal.returns-in-ClearConfirmation
returns-in-ClearConfirmation c = search (rules, tests)

pub returns-in-Data : goal.returns-in-Data
returns-in-Data c = search (rules, tests)

pub returns-in-Interrupt : goal.returns-in-Interrupt
returns-in-Interrupt c = search (rules, tests)

pub returns-in-InterruptConfirmation : goal.returns-in-InterruptConfirmation
returns-in-InterruptConfirmation c = search (rules, tests)

pub returns-in-ReceiveReady : goal.returns-in-ReceiveReady
returns-in-ReceiveReady c = search (rules, tests)

pub returns-in-ReceiveNotReady : goal.returns-in-ReceiveNotReady
returns-in-ReceiveNotReady c = search (rules, tests)

pub returns-in-ResetRequest : goal.returns-in-ResetRequest
returns-in-ResetRequest c = search (rules, tests)

pub returns-in-ResetConfirmation : goal.returns-in-ResetConfirmation
returns-in-ResetConfirmation c = search (rules, tests)

pub returns-in-RestartRequest : goal.returns-in-RestartRequest
returns-in-RestartRequest c = search (rules, tests)

pub returns-in-RestartConfirmation : goal.returns-in-RestartConfirmation
returns-in-RestartConfirmation c = search (rules, tests)
