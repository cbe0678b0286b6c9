use Rattle.std.proofs.Common.{arith}
use Rattle.std.proofs.lemmas.Grind.{common_steps}
use Rattle.x25_pad.proofs.Settling.{all_touched}
use Rattle.x25_pad.proofs.pad.Pad.new.Goals as goal

pub invariant_of-result : goal.invariant_of-result
invariant_of-result c = record {
  most = grind (arith, common_steps);
  rest = all_touched c.first-touched.result c.len.result _ c.first-touched.ensures (grind (arith, common_steps, c.len.ensures));
}
