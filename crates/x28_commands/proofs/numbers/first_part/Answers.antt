-- The text is cut at the first separator.
use Rattle.std.proofs.Common.{◌≡◌, ◌+◌, ◌-◌, length, take, drop, arith, sym, ◌==◌}
use Rattle.std.proofs.lemmas.Grind.{common_steps}
use Rattle.x28_commands.proofs.Parts.{cut_at}
use Rattle.x28_commands.proofs.numbers.first_part.Goals as goal

pub returns-in-Some-clause-parts : goal.returns-in-Some-clause-parts
returns-in-Some-clause-parts c =
    let all : take (length c.args.text.now - (c.in-Some.place + 1)) (drop (c.in-Some.place + 1) c.args.text.now)
    ≡ drop (c.in-Some.place + 1) c.args.text.now = grind (arith, common_steps) in
    rw all (cut_at (λ o. o == c.args.octet) c.args.text.now c.in-Some.place (sym c.in-Some.ensures.place))
