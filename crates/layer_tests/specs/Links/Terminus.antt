-- The end of a line with a pool of its own.
use Rattle.std.specs.Prelude.{◌≡◌, ℕ, ◌+◌, ◌≤◌, length}
use Rattle.flow_window.specs.Pool.{Buffer, weight, pooled}
use Rattle.line_end.specs.End.{End}
use Rattle.layer_tests.specs.declared.link.terminus.Terminus.TheInside.{Inside}

abbrev pub end_of : Inside → End
end_of a = a.end.end

-- the buffers in use are those that the link holds, and there is one more than it may hold
pub record IsTerminus (a : Inside) : Type 0 where
  pub info : a.end.end.link.info ≡ 145
  pub size : a.pool.size ≡ 145
  pub places : length a.pool.places ≡ a.end.end.link.k + 1
  pub exact : (w : Buffer → ℕ) → pooled w a.pool ≡ weight w a.end.held
  pub few : length a.end.held ≤ a.end.end.link.k
