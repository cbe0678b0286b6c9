use Rattle.std.proofs.lemmas.Grind.{common_steps}
use Rattle.std.proofs.Common.{◌≡◌, List, Option, None, replicate, ap, ◌∙◌, arith}
use Rattle.switch_joins.specs.Held.{HeldJoin, plain, buffers}
use Rattle.switch_joins.proofs.Held.{no_joins}
use Rattle.switch_joins.proofs.joins.Joins.new.Goals as goal

pub returns : goal.returns
returns c =
    let all : c.loop.counter ≡ c.args.channels = omega arith in
    ap (λ (os : List (Option HeldJoin)). record { joined = plain os; held = buffers os }) (c.loop.invariant ∙ ap (λ n. replicate n None) all)
    ∙ no_joins c.args.channels

pub invariant_of-result : goal.invariant_of-result
invariant_of-result c = grind (arith, common_steps)

pub loop-preserved : goal.loop-preserved
loop-preserved c = grind (arith, common_steps)
