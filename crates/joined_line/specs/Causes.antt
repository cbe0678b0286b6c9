-- The causes with which a switch resets and clears a far leg, by the reason for which the near leg was reset or closed
-- (X.25 tables 5-7 and 5-8).
use Rattle.std.specs.Prelude.{ℕ, Bool, true, false}
use Rattle.packet_codec.specs.ClearCause as clear
use Rattle.packet_codec.specs.ResetCause as reset
use Rattle.packet_codec.specs.Diagnostic.{no_information}
use Rattle.data_transfer.specs.Packets.{Reason}
use Rattle.data_transfer.specs.Packets.Reason.{FarEnd, LocalFault, LinkLost, FarRestart, Cancelled}

-- what the near leg's partner said is handed on; a procedure error found there is a remote one to the far leg
abbrev pub reset_cause : Reason → (cause : ℕ) → ℕ
reset_cause FarEnd cause = cause
reset_cause _ cause = reset.remote_procedure_error

-- a Restart on a trunk comes from a switch, one on another line from its DTE
abbrev pub clear_cause : (trunk : Bool) → Reason → (cause : ℕ) → ℕ
clear_cause trunk FarEnd cause = cause
clear_cause trunk LocalFault cause = clear.remote_procedure_error
clear_cause trunk LinkLost cause = clear.out_of_order
clear_cause true FarRestart cause = clear.out_of_order
clear_cause false FarRestart cause = clear.dte_originated
clear_cause trunk Cancelled cause = clear.number_busy

abbrev pub far_diagnostic : Reason → (diagnostic : ℕ) → ℕ
far_diagnostic FarEnd diagnostic = diagnostic
far_diagnostic _ diagnostic = no_information
