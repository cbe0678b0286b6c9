use Rattle.std.proofs.Common.{ap, arith, length, List}
use Rattle.switch_joins.specs.Direction.{covered_by}
use Rattle.switch_lines.specs.Lines.{SwitchLine}
use Rattle.switch_lines.proofs.Places.{kept_length}
use Rattle.switch_lines.proofs.lines.Lines.tell_covered.Goals as goal

pub release-requires : goal.release-requires
release-requires c =
    let same = ap (λ (ls : List SwitchLine). length ls) c.cover.ensures in
    let long = kept_length c.in-Some.other (covered_by c.args.count) c.args.self.now in
    omega (arith, same, long, c.in-Some.ensures.there.1)
