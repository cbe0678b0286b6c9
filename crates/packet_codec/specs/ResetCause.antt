-- Why a call is reset (X.25 5.4.3).
use Rattle.std.specs.Prelude.{ℕ}

abbrev pub dte_originated : ℕ
dte_originated = 0

abbrev pub remote_procedure_error : ℕ
remote_procedure_error = 3

abbrev pub local_procedure_error : ℕ
local_procedure_error = 5

abbrev pub network_congestion : ℕ
network_congestion = 7
