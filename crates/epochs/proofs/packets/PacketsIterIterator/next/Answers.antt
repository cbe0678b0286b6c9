use Rattle.std.proofs.Common.{◌≡◌, ◌∙◌, ◌≤◌, List, length, take, drop, sym, ap, refl, arith, rules}
use Rattle.std.proofs.lemmas.List.{take_rest}
use Rattle.epochs.proofs.Written.{first_there, front_length, behind}
use Rattle.epochs.proofs.packets.PacketsIterIterator.next.Goals as goal

pub split_at-requires : goal.split_at-requires
split_at-requires c =
    let os = c.self.inside.written.now in
    let some : 1 ≤ c.self.inside.count = omega arith in
    rw (c.from.ensures, c.from-2.ensures, take_rest os 2) (first_there c.self.inside.count os some c.self.invariant).0

pub invariant_of-self : goal.invariant_of-self
invariant_of-self c =
    let os = c.self.inside.written.now in
    let some : 1 ≤ c.self.inside.count = omega arith in
    let others : c.split_at.result.1.now ≡ behind os = c.split_at.ensures.back ∙ rw (c.from.ensures, c.from-2.ensures, take_rest os 2) refl in
    rw others (first_there c.self.inside.count os some c.self.invariant).2

pub returns-clause-steps : goal.returns-clause-steps
returns-clause-steps c =
    let os = c.self.inside.written.now in
    let some : 1 ≤ c.self.inside.count = omega arith in
    let octets : c.split_at.result.0.now ≡ take (front_length os) (drop 2 os) = c.split_at.ensures.front ∙ rw (c.from.ensures, c.from-2.ensures, take_rest os 2) refl in
    let others : c.split_at.result.1.now ≡ behind os = c.split_at.ensures.back ∙ rw (c.from.ensures, c.from-2.ensures, take_rest os 2) refl in
    sym c.self.view_is ∙ (first_there c.self.inside.count os some c.self.invariant).1 ∙ rw (octets, others) refl

pub returns-clause-goes : goal.returns-clause-goes
returns-clause-goes c =
    let steps = returns-clause-steps c in
    let fewer = ap (λ (l : List _). length l) steps in
    search rules
