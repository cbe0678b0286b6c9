use Rattle.std.proofs.lemmas.Grind.{common_steps}
use Rattle.std.proofs.Common.{List, ◌++◌, ap, subst, sym, arith}
use Rattle.flow_window.specs.Pool.{Buffer, Balances}
use Rattle.switch_joins.specs.Held.{HeldJoins}
use Rattle.joined_line.proofs.Sharing.{end_served, end_balances}
use Rattle.joined_line.proofs.line.SwitchLine.release.Goals as goal

pub ask-requires : goal.ask-requires
ask-requires c = end_served c.self.inside c.args.self.now c.args.pool.now c.self.view_is c.self.invariant c.requires

pub returns-in-Some-clause-pool : goal.returns-in-Some-clause-pool
returns-in-Some-clause-pool c =
    let kept = ap (λ (j : HeldJoins). j.held) (sym c.release.ensures.joins) in
    subst (λ (bs : List Buffer). Balances c.args.pool.now c.args.self.now.held c.ask.new.pool (c.ask.new.self.held ++ bs)) kept
    (end_balances c.self.inside c.args.self.now c.args.pool.now c.ask.new.pool c.ask.new.self c.self.view_is c.ask.ensures.pool)

pub returns-in-Some-clause-within : goal.returns-in-Some-clause-within
returns-in-Some-clause-within c = grind (arith, common_steps)

pub returns-in_default-clause-within : goal.returns-in_default-clause-within
returns-in_default-clause-within c = grind (arith, common_steps)
