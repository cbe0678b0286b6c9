-- The end of a line with the buffers of a pool that its link holds.
use Rattle.std.specs.Prelude.{List}
use Rattle.flow_window.specs.Pool.{Buffer}
use Rattle.line_end.specs.End.{End}

pub record LineEnd : Type 0 where
  pub end : End
  pub held : List Buffer
