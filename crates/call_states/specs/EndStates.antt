-- The states of a call as one end sees them: its own call and its own clear are those that it began.
use Rattle.std.specs.Prelude.{ℕ, Option, Some, None}
use Rattle.link_timers.specs.declared.role.Role.{Role}
use Rattle.link_timers.specs.declared.role.Role.TheVariants.{Dte, Dce}
use Rattle.call_states.specs.declared.state.CallState.{CallState}
use Rattle.call_states.specs.declared.state.CallState.TheVariants as states

pub data EndState : Type 0 where
  Ready : EndState
  OwnWaiting : EndState
  FarWaiting : EndState
  DataTransfer : EndState
  CallCollision : EndState
  OwnClear : EndState

abbrev pub state_of : Role → EndState → CallState
state_of role Ready = states.Ready
state_of Dte OwnWaiting = states.DteWaiting
state_of Dce OwnWaiting = states.DceWaiting
state_of Dte FarWaiting = states.DceWaiting
state_of Dce FarWaiting = states.DteWaiting
state_of role DataTransfer = states.DataTransfer
state_of role CallCollision = states.CallCollision
state_of Dte OwnClear = states.DteClear
state_of Dce OwnClear = states.DceClear

-- none where the other end clears: that state is left in the step that would enter it
abbrev pub end_state_of : Role → CallState → Option EndState
end_state_of role states.Ready = Some Ready
end_state_of Dte states.DteWaiting = Some OwnWaiting
end_state_of Dce states.DteWaiting = Some FarWaiting
end_state_of Dte states.DceWaiting = Some FarWaiting
end_state_of Dce states.DceWaiting = Some OwnWaiting
end_state_of role states.DataTransfer = Some DataTransfer
end_state_of role states.CallCollision = Some CallCollision
end_state_of Dte states.DteClear = Some OwnClear
end_state_of Dce states.DteClear = None
end_state_of Dte states.DceClear = None
end_state_of Dce states.DceClear = Some OwnClear

-- p1 to p7
abbrev pub state_number : CallState → ℕ
state_number states.Ready = 1
state_number states.DteWaiting = 2
state_number states.DceWaiting = 3
state_number states.DataTransfer = 4
state_number states.CallCollision = 5
state_number states.DteClear = 6
state_number states.DceClear = 7

abbrev pub end_state_number : EndState → ℕ
end_state_number Ready = 1
end_state_number OwnWaiting = 2
end_state_number FarWaiting = 3
end_state_number DataTransfer = 4
end_state_number CallCollision = 5
end_state_number OwnClear = 6
