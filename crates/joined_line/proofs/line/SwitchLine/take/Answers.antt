use Rattle.std.proofs.lemmas.Grind.{common_steps}
use Rattle.std.proofs.Common.{[], arith}
use Rattle.joined_line.proofs.Sharing.{out_holds, handed_back}
use Rattle.flow_window.proofs.Weights.{balances_same}
use Rattle.data_transfer.specs.TakenView.{buffers_in}
use Rattle.joined_line.proofs.line.SwitchLine.take.Goals as goal

pub take_out-requires : goal.take_out-requires
take_out-requires c =
    out_holds c.self.inside c.args.self.now c.args.pool.now (buffers_in c.in_ok-taken.taken) c.take_buf.new.self c.self.view_is c.requires.holds c.in_ok-taken.ensures.held

pub returns-in_err-taken-clause-pool : goal.returns-in_err-taken-clause-pool
returns-in_err-taken-clause-pool c =
    handed_back c.self.inside c.args.self.now c.args.pool.now c.args.pool.now [] c.take_buf.new.self c.self.view_is c.in_err-taken.ensures.held
    (balances_same c.args.pool.now [])

pub returns-clause-pool : goal.returns-clause-pool
returns-clause-pool c =
    handed_back c.self.inside c.args.self.now c.args.pool.now c.take_out.new.pool (buffers_in c.in_ok-taken.taken) c.take_buf.new.self c.self.view_is
    c.in_ok-taken.ensures.held c.take_out.ensures.pool

pub returns-clause-within : goal.returns-clause-within
returns-clause-within c = grind (arith, common_steps)

pub returns-in_err-taken-clause-within : goal.returns-in_err-taken-clause-within
returns-in_err-taken-clause-within c = grind (arith, common_steps)
