use Rattle.record_laws.proofs.Registers.Making.{made_seen}
use Rattle.record_laws.proofs.Registers.Seeing.{writes_seen, in_turn, present_seen, came_seen, owned}
use Rattle.record_laws.proofs.Registers.Promising.{promised, of_one_line, paired_seen}
use Rattle.record_laws.proofs.Registers.Having.{records_seen, callee_seen}
use Rattle.record_laws.proofs.Registers.Missing.{rest_seen}
use Rattle.record_laws.proofs.register.register_law.Goals as goal

pub returns : goal.returns
returns c = record {
  made = made_seen;
  writes = writes_seen;
  in_turn = in_turn;
  promise = promised;
  present = present_seen;
  owned = owned;
  nodes = of_one_line;
  records = records_seen;
  came = came_seen;
  paired = paired_seen;
  callee = callee_seen;
  rest = rest_seen;
}
