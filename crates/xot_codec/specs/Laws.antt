-- What is read of what is written.
use Rattle.std.specs.Prelude.{◌≡◌, ◌<◌, ◌+◌, ℕ, true, None, List, ◌++◌, length, take}
use Rattle.xot_codec.specs.declared.facilities.LineFlow.{LineFlow}
use Rattle.xot_codec.specs.Facilities.{put, refusal}
use Rattle.xot_codec.specs.Xot.{packet_form, is_packet, first_packet, whole, part}

abbrev pub ReadsWritten : Type 0
ReadsWritten = (packet rest : List ℕ) → is_packet packet ≡ true
    → first_packet (packet_form packet ++ rest) ≡ whole packet rest

abbrev pub WaitsForWhole : Type 0
WaitsForWhole = (packet : List ℕ) (count : ℕ) → is_packet packet ≡ true → count < 4 + length packet
    → first_packet (take count (packet_form packet)) ≡ part

-- what is put into a call for a line is taken for it
abbrev pub OwnAreTaken : Type 0
OwnAreTaken = (line : LineFlow) → refusal line (put line) ≡ None
