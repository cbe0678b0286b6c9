use Rattle.std.proofs.Common.{None, ap, arith, length, List, rules, tests}
use Rattle.switch_lines.specs.Lines.{SwitchLine}
use Rattle.switch_lines.proofs.Places.{joined_length}
use Rattle.switch_lines.proofs.lines.Lines.tell_closed.Goals as goal

pub set_joined-requires-2-clause-there : goal.set_joined-requires-2-clause-there
set_joined-requires-2-clause-there c =
    let same = ap (λ (ls : List SwitchLine). length ls) c.set_joined.ensures in
    let long = joined_length c.args.leg None c.args.self.now in
    omega (arith, same, long, c.in-Some.ensures.there.1)

pub ask-requires : goal.ask-requires
ask-requires c =
    let same = ap (λ (ls : List SwitchLine). length ls) c.set_joined.ensures in
    let long = joined_length c.args.leg None c.args.self.now in
    let same_too = ap (λ (ls : List SwitchLine). length ls) c.set_joined-2.ensures in
    let long_too = joined_length c.in-Some.other None c.set_joined.new.self in
    omega (arith, same, long, same_too, long_too, c.in-Some.ensures.there.1)

pub returns : goal.returns
returns c = search (rules, tests)
