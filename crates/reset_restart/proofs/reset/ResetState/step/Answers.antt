use Rattle.reset_restart.specs.Reset.EndState.{Ready}
use Rattle.reset_restart.proofs.ResetRows.{kept_at}
use Rattle.reset_restart.proofs.reset.ResetState.step.Goals as goal

pub returns-in_default-FlowControlReady-clause-kept : goal.returns-in_default-FlowControlReady-clause-kept
returns-in_default-FlowControlReady-clause-kept c =
    kept_at c.args.role Ready c.args.event c.in_flow_control_ready.result c.in_flow_control_ready.ensures
