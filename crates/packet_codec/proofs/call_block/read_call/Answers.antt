use Rattle.std.proofs.lemmas.Grind.{common_steps}
use Rattle.std.proofs.Common.{rules, tests, arith}
use Rattle.packet_codec.proofs.call_block.read_call.Goals as goal

pub returns : goal.returns
returns c = search (rules, tests)

pub address_or_none-requires : goal.address_or_none-requires
address_or_none-requires c = grind (arith, common_steps)

pub new-requires : goal.new-requires
new-requires c = grind (arith, common_steps)
