-- The rows of the state tables that an event on a channel meets. In data transfer the reset table has the first word.
use Rattle.std.specs.Prelude.{ℕ, if◌then◌else◌, Option, Some, None}
use Rattle.std.specs.Option.{option_map}
use Rattle.link_timers.specs.declared.role.Role.{Role}
use Rattle.call_states.specs.declared.table.CallEvent.TheVariants as call_events
use Rattle.call_states.specs.declared.table.CallStep.{CallStep}
use Rattle.call_states.specs.declared.table.UserAct.{UserAct}
use Rattle.call_states.specs.Table.{step_of}
use Rattle.reset_restart.specs.declared.reset.ResetEvent.{ResetEvent}
use Rattle.reset_restart.specs.declared.reset.ResetEvent.TheVariants as reset_events
use Rattle.reset_restart.specs.declared.reset.ResetStep.{ResetStep}
use Rattle.reset_restart.specs.Reset.{reset_step}
use Rattle.data_transfer.specs.Packets.{Received}
use Rattle.data_transfer.specs.Packets.Received.{Whole, Unknown, Faulty}
use Rattle.packet_channel.specs.Channel.{Channel, in_transfer}
use Rattle.packet_laws.specs.Tables.States.{call_state, reset_state, type_of}

-- the tables have the diagnostic of an unknown type; for the other faults of reading it is 0
abbrev pub no_diagnostic : Option ℕ → Option ℕ
no_diagnostic None = None
no_diagnostic (Some diagnostic) = Some 0

abbrev pub call_without_diagnostic : CallStep → CallStep
call_without_diagnostic row = record row { error = no_diagnostic row.error }

abbrev pub reset_without_diagnostic : ResetStep → ResetStep
reset_without_diagnostic row = record row { error = no_diagnostic row.error }

-- ---- the call table

abbrev pub act_row : Role → Channel → UserAct → Option CallStep
act_row role ch act = step_of role (call_state role ch.state) (call_events.User act)

abbrev pub call_row : Role → Channel → Received → Option CallStep
call_row role ch (Whole p) = step_of role (call_state role ch.state) (call_events.Received (type_of p.body))
call_row role ch (Unknown c) = step_of role (call_state role ch.state) call_events.Unreadable
call_row role ch (Faulty c) =
    option_map call_without_diagnostic (step_of role (call_state role ch.state) call_events.Unreadable)

-- ---- the reset table, in p4 alone

abbrev pub reset_row_of : Role → Channel → ResetEvent → Option ResetStep
reset_row_of role ch event =
    if in_transfer ch.state
    then reset_step role (reset_state role ch.resetting) event
    else None

abbrev pub reset_row : Role → Channel → Received → Option ResetStep
reset_row role ch (Whole p) = reset_row_of role ch (reset_events.Received (type_of p.body))
reset_row role ch (Unknown c) = reset_row_of role ch reset_events.Unreadable
reset_row role ch (Faulty c) = option_map reset_without_diagnostic (reset_row_of role ch reset_events.Unreadable)
