-- A run of a network with numbers modulo 128: two hosts at a line on which a call stands. The one says 130 messages of one
-- packet, and the other takes them, so that P(S) and P(R) pass number 127.
use Rattle.std.specs.Prelude.{ℕ, zero, suc, Bool, true, false, ◌&&◌, ◌==◌, List, [], ◌∷◌, length}
use Rattle.link_timers.specs.declared.role.Role.TheVariants.{Dte, Dce}
use Rattle.data_transfer.specs.Flow.{modulo_128}
use Rattle.packet_end.specs.declared.params.EndParams.{EndParams}
use Rattle.call_records.specs.Records.{RecordValue}
use Rattle.net_events.specs.NodeEvents.{Says, Takes}
use Rattle.net_config.specs.NetPlan.{NetPlan, NewHost, PlannedUser}
use Rattle.network_runs.specs.Acting.{Act, AtNode, Arrives}
use Rattle.network_runs.specs.Runs.{Stage, IsRun, new_host, line_of}

abbrev pub params : EndParams
params = record { k = 7; n2 = 3; channels = 1; flow = modulo_128 32; standing = true }

abbrev pub plan : NetPlan
plan = record {
  nodes = new_host 0 ∷ PlannedUser (record { line = 0; role = Dce; as_dte = NewHost }) ∷ [];
  lines = line_of 0 1 [] params ∷ [];
}

-- the DTE says a message, which the DCE takes
abbrev pub passing : (octet : ℕ) → List Act
passing octet =
    AtNode 0 Dte (Says 1 (octet ∷ []) false false) ∷ Arrives 0 Dce ∷ AtNode 0 Dce (Takes 1) ∷ Arrives 0 Dte
    ∷ Arrives 0 Dte ∷ Arrives 0 Dce ∷ []

-- so many packets went from the caller to the callee, were taken and released, and are covered
abbrev pub have_passed : (count : ℕ) → List RecordValue → Bool
have_passed count (caller ∷ callee ∷ []) =
    (length caller.sent.packets == count)
    && ((caller.sent.covered == count)
    && ((length callee.taken.packets == count) && (callee.taken.released == count)))
have_passed count records = false

abbrev pub stages_from : (first count : ℕ) → List Stage
stages_from first zero = []
stages_from first (suc n) =
    record { acts = passing first; test = λ s. have_passed (suc first) s.register.records } ∷ stages_from (suc first) n

abbrev pub NumbersRun : Type 0
NumbersRun = IsRun plan (stages_from 0 130)
