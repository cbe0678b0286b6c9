-- The state table of reset: its rows, and the one that an event meets.
use Rattle.std.specs.Prelude.{ℕ, ◌==◌, ◌&&◌, Bool, true, false, List, [], ◌∷◌, find, Option, Some, None}
use Rattle.std.specs.Prelude.{option_and_then}
use Rattle.std.specs.Option.{option_map}
use Rattle.link_timers.specs.declared.role.Role.{Role}
use Rattle.link_timers.specs.declared.role.Role.TheVariants.{Dte, Dce}
use Rattle.packet_codec.specs.declared.packet_type.PacketType.{PacketType}
use Rattle.packet_codec.specs.declared.packet_type.PacketType.TheVariants as types
use Rattle.packet_codec.specs.PacketType.{is_among}
use Rattle.packet_codec.specs.Diagnostic.{not_allowed_in_d1}
use Rattle.reset_restart.specs.declared.reset.ResetState.{ResetState}
use Rattle.reset_restart.specs.declared.reset.ResetState.TheVariants as states
use Rattle.reset_restart.specs.declared.reset.ResetEvent.{ResetEvent}
use Rattle.reset_restart.specs.declared.reset.ResetEvent.TheVariants as events
use Rattle.reset_restart.specs.declared.reset.ResetNote.{ResetNote}
use Rattle.reset_restart.specs.declared.reset.ResetNote.TheVariants.{Nothing, Reset, Discarded}
use Rattle.reset_restart.specs.declared.reset.ResetStep.{ResetStep}

-- the states as one end sees them
pub data EndState : Type 0 where
  Ready : EndState
  OwnReset : EndState

abbrev pub own_reset : Role → ResetState
own_reset Dte = states.DteReset
own_reset Dce = states.DceReset

abbrev pub state_of : Role → EndState → ResetState
state_of role Ready = states.FlowControlReady
state_of role OwnReset = own_reset role

-- none where the other end resets: that state is left in the step that would enter it
abbrev pub end_state_of : Role → ResetState → Option EndState
end_state_of role states.FlowControlReady = Some Ready
end_state_of Dte states.DteReset = Some OwnReset
end_state_of Dce states.DteReset = None
end_state_of Dte states.DceReset = None
end_state_of Dce states.DceReset = Some OwnReset

abbrev pub end_state_number : EndState → ℕ
end_state_number Ready = 1
end_state_number OwnReset = 2

-- the events of a row: the user resets, packets of some types, or a packet that cannot be read
pub data Events : Type 0 where
  UserResets : Events
  Packets : List PacketType → Events
  UnreadablePacket : Events

-- a row: state, events; new state, packet owed, note, and the diagnostic of a procedure error
pub record Row : Type 0 where
  pub state : EndState
  pub events : Events
  pub new : EndState
  pub owed : Option PacketType
  pub note : ResetNote
  pub error : Option ℕ

abbrev pub row : EndState → Events → EndState → Option PacketType → ResetNote → Option ℕ → Row
row state events new owed note error =
    record { state = state; events = events; new = new; owed = owed; note = note; error = error }

-- data, interrupts and flow control
abbrev pub flow : List PacketType
flow = types.Data ∷ types.Interrupt ∷ types.InterruptConfirmation ∷ types.ReceiveReady ∷ types.ReceiveNotReady ∷ []

abbrev pub table : List Row
table =
    row Ready UserResets OwnReset (Some types.ResetRequest) Nothing None
    ∷ row Ready (Packets (types.ResetRequest ∷ [])) Ready (Some types.ResetConfirmation) Reset None
    ∷ row Ready (Packets (types.ResetConfirmation ∷ [])) OwnReset (Some types.ResetRequest) Reset
    (Some not_allowed_in_d1)
    ∷ row Ready UnreadablePacket OwnReset (Some types.ResetRequest) Reset (Some not_allowed_in_d1)
    ∷ row OwnReset (Packets (types.ResetRequest ∷ types.ResetConfirmation ∷ [])) Ready None Nothing None
    ∷ row OwnReset (Packets flow) OwnReset None Discarded None
    ∷ []

abbrev pub includes : Events → ResetEvent → Bool
includes UserResets events.UserReset = true
includes (Packets kinds) (events.Received kind) = is_among kinds kind
includes UnreadablePacket events.Unreadable = true
includes _ _ = false

-- the row that has the state and the event
abbrev pub row_for : EndState → ResetEvent → Option Row
row_for place event = find (λ r. end_state_number r.state == end_state_number place && includes r.events event) table

abbrev pub done_by : Role → Row → ResetStep
done_by role r = record { state = state_of role r.new; owed = r.owed; note = r.note; error = r.error }

abbrev pub step_at : Role → EndState → ResetEvent → Option ResetStep
step_at role place event = option_map (done_by role) (row_for place event)

-- the step of the table for a role, a state and an event, if it has a row for them
abbrev pub reset_step : Role → ResetState → ResetEvent → Option ResetStep
reset_step role state event = option_and_then (λ place. step_at role place event) (end_state_of role state)
