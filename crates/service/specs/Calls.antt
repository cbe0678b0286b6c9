-- The calls that are there.
use Rattle.std.specs.Prelude.{Option, Some, None}
use Rattle.service.specs.declared.calls.CallStatus.{CallStatus}

-- the call of a place, if there is such a place and a call is there
abbrev pub call_of : Option (Option CallStatus) → Option CallStatus
call_of None = None
call_of (Some call) = call
