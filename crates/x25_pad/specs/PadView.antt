-- What contracts see of the code's PAD.
use Rattle.std.specs.Prelude.{◌≤◌, length}
use Rattle.x25_pad.specs.Pad.{PadState}
use Rattle.x25_pad.specs.Settling.{NothingElseToSettle}
use Rattle.x25_pad.specs.declared.pad.Pad.TheInside.{Inside}

abbrev pub pad_of : Inside → PadState
pad_of a = record { line = a.line; ports = a.ports.items }

-- there are at most 16 terminals, and the ports that nothing touched are settled
pub record IsPad (a : Inside) : Type 0 where
  pub most : length a.ports.items ≤ 16
  pub rest : NothingElseToSettle a.touched a.ports.items
