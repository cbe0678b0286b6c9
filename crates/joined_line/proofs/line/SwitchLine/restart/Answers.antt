use Rattle.std.proofs.Common.{List, subst, sym}
use Rattle.flow_window.specs.Pool.{Buffer, Balances}
use Rattle.joined_line.proofs.Sharing.{end_served, still_hold, both_balance}
use Rattle.joined_line.proofs.line.SwitchLine.restart.Goals as goal

pub restart-requires : goal.restart-requires
restart-requires c = end_served c.self.inside c.args.self.now c.args.pool.now c.self.view_is c.self.invariant c.requires

pub clear-requires : goal.clear-requires
clear-requires c =
    still_hold c.self.inside c.args.self.now c.args.pool.now c.restart.new.pool c.restart.new.self c.self.view_is c.requires.holds c.restart.ensures.pool

pub returns-clause-pool : goal.returns-clause-pool
returns-clause-pool c =
    both_balance c.self.inside c.args.self.now c.args.pool.now c.restart.new.pool c.clear.new.pool c.restart.new.self c.clear.new.self c.self.view_is c.restart.ensures.pool
    (subst (λ (bs : List Buffer). Balances c.restart.new.pool c.self.inside.joined.held c.clear.new.pool bs) (sym c.clear.ensures.held) c.clear.ensures.pool)
