-- The lines of a switch in the pool that they share.
use Rattle.std.specs.Prelude.{◌≡◌, ℕ, ◌+◌, ◌<◌, ◌≤◌, List, [], ◌∷◌, ◌++◌, length, map}
use Rattle.flow_window.specs.Pool.{Pool, Buffer, weight, pooled}
use Rattle.frame_codec.specs.Spelling.{most_information}
use Rattle.switch_lines.specs.Lines.{SwitchLine}
-- a line, the buffers that it holds, and what it may have of the pool
pub use Rattle.joined_line.specs.Pooled.{Claim, PooledLine, on_line}

abbrev pub plain : List PooledLine → List SwitchLine
plain ps = map (λ p. p.line) ps

-- the buffers that all of them hold, and their shares together
abbrev pub buffers : List PooledLine → List Buffer
buffers [] = []
buffers (p ∷ ps) = p.held ++ buffers ps

abbrev pub shares : List PooledLine → ℕ
shares [] = 0
shares (p ∷ ps) = p.claim.share + shares ps

-- each holds less than its share, of buffers of this size or less
abbrev pub KeepWithin : (size : ℕ) → List PooledLine → Type 0
KeepWithin size [] = Unit {0}
KeepWithin size (p ∷ ps) = (length p.held < p.claim.share) × (p.claim.info ≤ size) × KeepWithin size ps

-- the pool has the shares of all lines; the buffers in use are those that the lines hold, each within its claim
pub record ArePooled (pool : Pool) (ps : List PooledLine) : Type 0 where
  pub size : pool.size ≤ most_information
  pub places : length pool.places ≡ shares ps
  pub exact : (w : Buffer → ℕ) → pooled w pool ≡ weight w (buffers ps)
  pub within : KeepWithin pool.size ps
