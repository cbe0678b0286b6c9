-- The state table of call set-up and clearing: its rows, and the one that an event meets.
use Rattle.std.specs.Prelude.{ℕ, ◌==◌, ◌&&◌, if◌then◌else◌, Bool, true, false, List, [], ◌∷◌, find, Option, Some}
use Rattle.std.specs.Prelude.{None, option_and_then}
use Rattle.std.specs.Option.{option_map}
use Rattle.std.specs.List.{list_any}
use Rattle.link_timers.specs.declared.role.Role.{Role}
use Rattle.link_timers.specs.declared.role.Role.TheVariants.{Dte, Dce}
use Rattle.packet_codec.specs.declared.packet_type.PacketType.{PacketType}
use Rattle.packet_codec.specs.declared.packet_type.PacketType.TheVariants as types
use Rattle.packet_codec.specs.PacketType.{is_among}
use Rattle.packet_codec.specs.Diagnostic.{not_allowed_in_p}
use Rattle.call_states.specs.declared.state.CallState.{CallState}
use Rattle.call_states.specs.declared.table.CallEvent.{CallEvent}
use Rattle.call_states.specs.declared.table.CallEvent.TheVariants.{User, Received, Unreadable}
use Rattle.call_states.specs.declared.table.UserAct.{UserAct}
use Rattle.call_states.specs.declared.table.UserAct.TheVariants.{Call, Accept, Clear}
use Rattle.call_states.specs.declared.table.CallNote.{CallNote}
use Rattle.call_states.specs.declared.table.CallNote.TheVariants.{Nothing, Incoming, Connected, Cancelled, Cleared}
use Rattle.call_states.specs.declared.table.CallNote.TheVariants.{Discarded, InDataTransfer}
use Rattle.call_states.specs.declared.table.CallStep.{CallStep}
use Rattle.call_states.specs.EndStates.{EndState, state_of, end_state_of, end_state_number, state_number}
use Rattle.call_states.specs.EndStates.EndState.{Ready, OwnWaiting, FarWaiting, DataTransfer, CallCollision, OwnClear}

-- the events of a row: an act of the user, packets of some types, or any packet that no row above has
pub data Events : Type 0 where
  Act : UserAct → Events
  Packets : List PacketType → Events
  AnyOtherPacket : Events

-- a row: the role that has it, or none where both have it; states, events; new state, packet owed, note, and whether
-- the event is a procedure error
pub record Row : Type 0 where
  pub only : Option Role
  pub states : List EndState
  pub events : Events
  pub new : EndState
  pub owed : Option PacketType
  pub note : CallNote
  pub is_error : Bool

-- a row of both roles
abbrev pub row : List EndState → Events → EndState → Option PacketType → CallNote → Row
row states events new owed note =
    record { only = None; states = states; events = events; new = new; owed = owed; note = note; is_error = false }

-- a row of one role
abbrev pub row_of_role : Role → List EndState → Events → EndState → Option PacketType → CallNote → Row
row_of_role role states events new owed note =
    record { only = Some role; states = states; events = events; new = new; owed = owed; note = note; is_error = false }

-- a row of a procedure error: the call is cleared, with the diagnostic of the state
abbrev pub error_row : List EndState → CallNote → Row
error_row states note =
    record {
      only = None;
      states = states;
      events = AnyOtherPacket;
      new = OwnClear;
      owed = Some types.ClearRequest;
      note = note;
      is_error = true;
    }

-- the states in which there is a call
abbrev pub in_call : List EndState
in_call = OwnWaiting ∷ FarWaiting ∷ DataTransfer ∷ CallCollision ∷ []

-- what data transfer is about
abbrev pub transfer : List PacketType
transfer =
    types.Data ∷ types.Interrupt ∷ types.InterruptConfirmation ∷ types.ReceiveReady ∷ types.ReceiveNotReady
    ∷ types.ResetRequest ∷ types.ResetConfirmation ∷ []

abbrev pub table : List Row
table =
    row (Ready ∷ []) (Act Call) OwnWaiting (Some types.CallRequest) Nothing
    ∷ row (Ready ∷ []) (Packets (types.CallRequest ∷ [])) FarWaiting None Incoming
    ∷ row (Ready ∷ []) (Packets (types.ClearRequest ∷ [])) Ready (Some types.ClearConfirmation) Nothing
    ∷ row (OwnWaiting ∷ []) (Packets (types.CallAccepted ∷ [])) DataTransfer None Connected
    ∷ row_of_role Dte (OwnWaiting ∷ []) (Packets (types.CallRequest ∷ [])) CallCollision None Nothing
    ∷ row_of_role Dce (OwnWaiting ∷ []) (Packets (types.CallRequest ∷ [])) CallCollision None Cancelled
    ∷ row (FarWaiting ∷ []) (Act Accept) DataTransfer (Some types.CallAccepted) Nothing
    ∷ row_of_role Dte (CallCollision ∷ []) (Packets (types.CallAccepted ∷ [])) DataTransfer None Connected
    ∷ row_of_role Dce (CallCollision ∷ []) (Act Accept) DataTransfer (Some types.CallAccepted) Nothing
    ∷ row in_call (Packets (types.ClearRequest ∷ [])) Ready (Some types.ClearConfirmation) Cleared
    ∷ row in_call (Act Clear) OwnClear (Some types.ClearRequest) Nothing
    ∷ row (OwnClear ∷ []) (Packets (types.ClearRequest ∷ types.ClearConfirmation ∷ [])) Ready None Nothing
    ∷ row (OwnClear ∷ []) AnyOtherPacket OwnClear None Discarded
    ∷ row (DataTransfer ∷ []) (Packets transfer) DataTransfer None InDataTransfer
    ∷ error_row (Ready ∷ []) Nothing
    ∷ error_row in_call Cleared
    ∷ []

-- ---- the row that an event meets

abbrev pub role_number : Role → ℕ
role_number Dte = 1
role_number Dce = 2

abbrev pub is_for : Option Role → Role → Bool
is_for None role = true
is_for (Some r) role = role_number r == role_number role

abbrev pub act_number : UserAct → ℕ
act_number Call = 1
act_number Accept = 2
act_number Clear = 3

abbrev pub includes : Events → CallEvent → Bool
includes (Act act) (User done) = act_number act == act_number done
includes (Packets kinds) (Received kind) = is_among kinds kind
includes AnyOtherPacket (Received kind) = true
includes AnyOtherPacket Unreadable = true
includes _ _ = false

abbrev pub covers : Role → EndState → CallEvent → Row → Bool
covers role place event r =
    list_any (λ p. end_state_number p == end_state_number place) r.states
    && (includes r.events event && is_for r.only role)

-- the first row that has the role, the state and the event
abbrev pub row_for : Role → EndState → CallEvent → Option Row
row_for role place event = find (covers role place event) table

abbrev pub call_step : CallState → Option PacketType → CallNote → Option ℕ → CallStep
call_step state owed note error = record { state = state; owed = owed; note = note; error = error }

abbrev pub diagnostic_of : CallState → ℕ
diagnostic_of state = not_allowed_in_p (state_number state)

abbrev pub done_by : Role → EndState → Row → CallStep
done_by role place r = record {
  state = state_of role r.new;
  owed = r.owed;
  note = r.note;
  error = if r.is_error then Some (diagnostic_of (state_of role place)) else None;
}

abbrev pub step_at : Role → EndState → CallEvent → Option CallStep
step_at role place event = option_map (done_by role place) (row_for role place event)

-- the step of the table for a role, a state and an event, if it has a row for them
abbrev pub step_of : Role → CallState → CallEvent → Option CallStep
step_of role state event = option_and_then (λ place. step_at role place event) (end_state_of role state)
