-- A line in the pool of its switch.
use Rattle.std.specs.Prelude.{ℕ, List}
use Rattle.flow_window.specs.Pool.{Buffer}
use Rattle.joined_line.specs.SwitchLine.{SwitchLine}

-- what a line may have of the pool: so many buffers, each with room for so many octets
pub record Claim : Type 0 where
  pub share : ℕ
  pub info : ℕ

-- a line, the buffers that it holds, and its claim
pub record PooledLine : Type 0 where
  pub line : SwitchLine
  pub held : List Buffer
  pub claim : Claim

-- a line changes, and holds what it held
abbrev pub on_line : (SwitchLine → SwitchLine) → PooledLine → PooledLine
on_line f p = record p { line = f p.line }
