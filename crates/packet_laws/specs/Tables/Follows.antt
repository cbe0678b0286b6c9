-- A step of the machine follows a row of a state table.
use Rattle.std.specs.Prelude.{◌≡◌, ℕ, false, [], ◌∷◌, map, Option, Some, None, IfSome}
use Rattle.std.specs.Option.{option_map}
use Rattle.link_timers.specs.declared.role.Role.{Role}
use Rattle.call_states.specs.declared.table.CallNote.{CallNote}
use Rattle.call_states.specs.declared.table.CallNote.TheVariants as call_notes
use Rattle.call_states.specs.declared.table.CallStep.{CallStep}
use Rattle.reset_restart.specs.declared.reset.ResetNote.{ResetNote}
use Rattle.reset_restart.specs.declared.reset.ResetNote.TheVariants as reset_notes
use Rattle.reset_restart.specs.declared.reset.ResetStep.{ResetStep}
use Rattle.reset_restart.specs.declared.restart.RestartNote.{RestartNote}
use Rattle.reset_restart.specs.declared.restart.RestartNote.TheVariants as restart_notes
use Rattle.reset_restart.specs.declared.restart.RestartStep.{RestartStep}
use Rattle.packet_codec.specs.ClearCause as clear_cause
use Rattle.packet_codec.specs.ResetCause as reset_cause
use Rattle.packet_codec.specs.RestartCause as restart_cause
use Rattle.packet_codec.specs.Diagnostic.{no_information}
use Rattle.data_transfer.specs.Packets.{Body, Reason}
use Rattle.data_transfer.specs.Packets.Body.{Call, Clear, Reset, Restart}
use Rattle.data_transfer.specs.Packets.Note.{Incoming, Connected, Closed, WasReset}
use Rattle.data_transfer.specs.Packets.Reason.{FarEnd, LocalFault, FarRestart, Cancelled}
use Rattle.packet_channel.specs.Channel.{Channel, Step, quiet, closed_channel, error_cause, in_transfer}
use Rattle.packet_layer.specs.Layer.{Layer, with_owed, passes_limit, set_if, closing_notes, unread}
use Rattle.packet_laws.specs.Tables.States.{call_state, reset_state, restart_state, type_of}

-- ---- calls

-- what the note of a row tells the user, of a packet that came on channel c or, where none came, of what the user did.
-- A call ends with cause and diagnostic of the Clear that came, or with that of a local procedure error and the
-- diagnostic of the row
abbrev pub TellsCall : ℕ → Option Body → Channel → CallNote → Option ℕ → Step → Type 0
TellsCall c came ch call_notes.Nothing error done = done.notes ≡ []
TellsCall c (Some (Call parts)) ch call_notes.Incoming error done = done.notes ≡ Incoming c parts ∷ []
TellsCall c came ch call_notes.Connected error done = done.notes ≡ Connected c ∷ []
TellsCall c (Some (Call parts)) ch call_notes.Cancelled error done = done.notes
    ≡ Closed c clear_cause.number_busy no_information Cancelled ∷ Incoming c parts ∷ []
TellsCall c (Some (Clear cause diagnostic)) ch call_notes.Cleared None done = done.notes
    ≡ Closed c cause diagnostic FarEnd ∷ []
TellsCall c came ch call_notes.Cleared (Some diagnostic) done = done.notes
    ≡ Closed c clear_cause.local_procedure_error diagnostic LocalFault ∷ []
TellsCall c came ch call_notes.Discarded error done = done ≡ quiet ch
TellsCall c came ch _ error done = ⊥

-- a step of a channel: it leads to the state of the row; what was owed stays owed, and a packet of the type of the row
-- is owed further, or none; for a procedure error it is a Clear with the diagnostic of the row. A call begins in d1
pub record FollowsCall (role : Role) (c : ℕ) (came : Option Body) (ch : Channel) (row : CallStep) (done : Step) : Type 0
  where
    pub state : call_state role done.channel.state ≡ row.state
    pub begins : in_transfer ch.state ≡ false → ch.resetting ≡ false → done.channel.resetting ≡ false
    pub kept : done.channel.owed ≡ ch.owed
    pub owed : option_map type_of done.owes ≡ row.owed
    pub error : IfSome row.error
        (λ diagnostic. done.owes ≡ Some (Clear (error_cause role clear_cause.local_procedure_error) diagnostic))
    pub told : TellsCall c came ch row.note row.error done

-- ---- resets

abbrev pub TellsReset : ℕ → Option Body → Channel → ResetNote → Option ℕ → Step → Type 0
TellsReset c came ch reset_notes.Nothing error done = done.notes ≡ []
TellsReset c (Some (Reset cause diagnostic)) ch reset_notes.Reset None done = done.notes
    ≡ WasReset c cause diagnostic FarEnd ∷ []
TellsReset c came ch reset_notes.Reset (Some diagnostic) done = done.notes
    ≡ WasReset c reset_cause.local_procedure_error diagnostic LocalFault ∷ []
TellsReset c came ch reset_notes.Discarded error done = done ≡ quiet ch
TellsReset c came ch _ error done = ⊥

-- the same of a row of the reset table; the call goes on
pub record FollowsReset (role : Role) (c : ℕ) (came : Option Body) (ch : Channel) (row : ResetStep) (done : Step) : Type
    0 where
  pub goes_on : done.channel.state ≡ ch.state
  pub state : reset_state role done.channel.resetting ≡ row.state
  pub kept : done.channel.owed ≡ ch.owed
  pub owed : option_map type_of done.owes ≡ row.owed
  pub error : IfSome row.error
      (λ diagnostic. done.owes ≡ Some (Reset (error_cause role reset_cause.local_procedure_error) diagnostic))
  pub told : TellsReset c came ch row.note row.error done

-- ---- restarts

-- every channel is as it is without a call, and each call that there was is noted as closed
pub record AreClosed (reason : Reason) (l done : Layer) : Type 0 where
  pub channels : done.channels ≡ map (λ ch. closed_channel) l.channels
  pub notes : done.notes ≡ closing_notes 1 reason l.channels

pub record AreUntouched (l done : Layer) : Type 0 where
  pub channels : done.channels ≡ l.channels
  pub notes : done.notes ≡ []

abbrev pub TellsRestart : Layer → RestartNote → Option ℕ → Layer → Type 0
TellsRestart l restart_notes.Nothing error done = AreUntouched l done
TellsRestart l restart_notes.CallsClosed None done = AreClosed FarRestart l done
TellsRestart l restart_notes.CallsClosed (Some diagnostic) done = AreClosed LocalFault l done
TellsRestart l restart_notes.Discarded error done = done ≡ unread l

-- the layer after a packet: in the state of the row; a packet of the type of the row is owed further, or none, as far
-- as no more than four are (a fifth asks for a relink); for a procedure error it is a Restart with the diagnostic of
-- the row
pub record FollowsRestart (l : Layer) (row : RestartStep) (done : Layer) : Type 0 where
  pub state : restart_state l.role done.phase ≡ Some row.state
  pub owes : Option Body
  pub owed : option_map type_of owes ≡ row.owed
  pub error : IfSome row.error
      (λ diagnostic. owes ≡ Some (Restart (error_cause l.role restart_cause.local_procedure_error) diagnostic))
  pub kept : done.owed ≡ with_owed l.owed owes
  pub relink : done.relink ≡ set_if (passes_limit l.owed owes) l.relink
  pub told : TellsRestart l row.note row.error done
