-- Why a packet layer restarts (X.25 5.5.1).
use Rattle.std.specs.Prelude.{ℕ}

abbrev pub dte_originated : ℕ
dte_originated = 0

abbrev pub local_procedure_error : ℕ
local_procedure_error = 1

abbrev pub network_congestion : ℕ
network_congestion = 3

abbrev pub network_operational : ℕ
network_operational = 7
