use Rattle.std.proofs.Common.{rules, tests}
use Rattle.packet_channel.proofs.channel.Channel.may_interrupt.Goals as goal

pub returns-then-has_flow : goal.returns-then-has_flow
returns-then-has_flow c = search (rules, tests)
