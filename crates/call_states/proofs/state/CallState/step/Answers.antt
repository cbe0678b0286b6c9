use Rattle.call_states.specs.EndStates.EndState.{Ready, DataTransfer, CallCollision}
use Rattle.call_states.proofs.Rows.{kept_at}
use Rattle.call_states.proofs.state.CallState.step.Goals as goal

pub returns-in_default-Ready-clause-kept : goal.returns-in_default-Ready-clause-kept
returns-in_default-Ready-clause-kept c =
    kept_at c.args.role Ready c.args.event c.in_ready.result c.in_ready.ensures

pub returns-in_default-DataTransfer-clause-kept : goal.returns-in_default-DataTransfer-clause-kept
returns-in_default-DataTransfer-clause-kept c =
    kept_at c.args.role DataTransfer c.args.event c.in_data_transfer.result c.in_data_transfer.ensures

pub returns-in_default-CallCollision-clause-kept : goal.returns-in_default-CallCollision-clause-kept
returns-in_default-CallCollision-clause-kept c =
    kept_at c.args.role CallCollision c.args.event c.in_collision.result c.in_collision.ensures
