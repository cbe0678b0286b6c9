-- The state table of restart: its rows, and the one that a packet meets.
use Rattle.std.specs.Prelude.{ℕ, ◌==◌, ◌&&◌, Bool, true, List, [], ◌∷◌, find, Option, Some, None, option_and_then}
use Rattle.std.specs.Option.{option_map}
use Rattle.link_timers.specs.declared.role.Role.{Role}
use Rattle.link_timers.specs.declared.role.Role.TheVariants.{Dte, Dce}
use Rattle.packet_codec.specs.declared.packet_type.PacketType.{PacketType}
use Rattle.packet_codec.specs.declared.packet_type.PacketType.TheVariants as types
use Rattle.packet_codec.specs.PacketType.{is_among}
use Rattle.packet_codec.specs.Diagnostic.{not_allowed_in_r1}
use Rattle.reset_restart.specs.declared.restart.RestartState.{RestartState}
use Rattle.reset_restart.specs.declared.restart.RestartState.TheVariants as states
use Rattle.reset_restart.specs.declared.restart.RestartNote.{RestartNote}
use Rattle.reset_restart.specs.declared.restart.RestartNote.TheVariants.{Nothing, CallsClosed, Discarded}
use Rattle.reset_restart.specs.declared.restart.RestartStep.{RestartStep}

-- the states as one end sees them
pub data EndState : Type 0 where
  Ready : EndState
  OwnRestart : EndState

abbrev pub own_restart : Role → RestartState
own_restart Dte = states.DteRestart
own_restart Dce = states.DceRestart

abbrev pub state_of : Role → EndState → RestartState
state_of role Ready = states.PacketLayerReady
state_of role OwnRestart = own_restart role

-- none where the other end restarts: that state is left in the step that would enter it
abbrev pub end_state_of : Role → RestartState → Option EndState
end_state_of role states.PacketLayerReady = Some Ready
end_state_of Dte states.DteRestart = Some OwnRestart
end_state_of Dce states.DteRestart = None
end_state_of Dte states.DceRestart = None
end_state_of Dce states.DceRestart = Some OwnRestart

abbrev pub end_state_number : EndState → ℕ
end_state_number Ready = 1
end_state_number OwnRestart = 2

-- the packets of a row: of some types, or any that no row above has
pub data Packets : Type 0 where
  Types : List PacketType → Packets
  AnyOther : Packets

-- a row: state, packets; new state, packet owed, note, and the diagnostic of a procedure error
pub record Row : Type 0 where
  pub state : EndState
  pub packets : Packets
  pub new : EndState
  pub owed : Option PacketType
  pub note : RestartNote
  pub error : Option ℕ

abbrev pub row : EndState → Packets → EndState → Option PacketType → RestartNote → Option ℕ → Row
row state packets new owed note error =
    record { state = state; packets = packets; new = new; owed = owed; note = note; error = error }

abbrev pub table : List Row
table =
    row Ready (Types (types.RestartRequest ∷ [])) Ready (Some types.RestartConfirmation) CallsClosed None
    ∷ row Ready (Types (types.RestartConfirmation ∷ [])) OwnRestart (Some types.RestartRequest) CallsClosed
    (Some not_allowed_in_r1)
    ∷ row OwnRestart (Types (types.RestartRequest ∷ types.RestartConfirmation ∷ [])) Ready None Nothing None
    ∷ row OwnRestart AnyOther OwnRestart None Discarded None
    ∷ []

abbrev pub includes : Packets → PacketType → Bool
includes (Types kinds) kind = is_among kinds kind
includes AnyOther kind = true

-- the row that has the state and the type
abbrev pub row_for : EndState → PacketType → Option Row
row_for place kind = find (λ r. end_state_number r.state == end_state_number place && includes r.packets kind) table

abbrev pub done_by : Role → Row → RestartStep
done_by role r = record { state = state_of role r.new; owed = r.owed; note = r.note; error = r.error }

abbrev pub step_at : Role → EndState → PacketType → Option RestartStep
step_at role place kind = option_map (done_by role) (row_for place kind)

-- the step of the table for a role, a state and a type, if it has a row for them
abbrev pub restart_step : Role → RestartState → PacketType → Option RestartStep
restart_step role state kind = option_and_then (λ place. step_at role place kind) (end_state_of role state)
