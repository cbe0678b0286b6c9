use Rattle.std.proofs.Common.{true, ap, arith, length, List, Some}
use Rattle.std.proofs.lemmas.Option.{same_Some}
use Rattle.switch_joins.specs.Direction.{new_direction}
use Rattle.switch_joins.specs.declared.join.Joined.{Joined as NewJoin}
use Rattle.switch_lines.specs.Lines.{SwitchLine}
use Rattle.switch_lines.proofs.Places.{joined_length}
use Rattle.switch_lines.proofs.lines.Lines.join.Goals as goal

pub set_joined-requires-clause-other : goal.set_joined-requires-clause-other
set_joined-requires-clause-other c j e =
    let same = ap (λ (k : NewJoin). k.other.line) (same_Some _ j e) in
    omega (arith, same, c.requires.callee)

pub set_joined-requires-2-clause-there : goal.set_joined-requires-2-clause-there
set_joined-requires-2-clause-there c =
    let same = ap (λ (ls : List SwitchLine). length ls) c.set_joined.ensures in
    let long = joined_length c.args.caller (Some (record { other = c.args.callee; came_in = true; kept = new_direction })) c.args.self.now in
    omega (arith, same, long, c.requires.callee)

pub set_joined-requires-2-clause-other : goal.set_joined-requires-2-clause-other
set_joined-requires-2-clause-other c j e =
    let same = ap (λ (ls : List SwitchLine). length ls) c.set_joined.ensures in
    let long = joined_length c.args.caller (Some (record { other = c.args.callee; came_in = true; kept = new_direction })) c.args.self.now in
    let is = ap (λ (k : NewJoin). k.other.line) (same_Some _ j e) in
    omega (arith, same, long, is, c.requires.caller)
