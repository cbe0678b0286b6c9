-- A link with a pool of its own.
use Rattle.std.specs.Prelude.{◌≡◌, ℕ, ◌+◌, ◌≤◌, length}
use Rattle.flow_window.specs.Pool.{Pool, Buffer, weight, pooled}
use Rattle.lapb.specs.Held as held
use Rattle.lapb.specs.Machine.{Link}
use Rattle.layer_tests.specs.declared.link.station.Station.TheInside.{Inside}

abbrev pub link_of : Inside → Link
link_of a = a.link.link

-- the buffers in use are those of the packets that are not acknowledged, and there is one more than there may be such
-- packets
pub record IsPooled (pool : Pool) (link : held.Link) : Type 0 where
  pub size : pool.size ≡ 145
  pub places : length pool.places ≡ link.link.k + 1
  pub exact : (w : Buffer → ℕ) → pooled w pool ≡ weight w link.held
  pub tight : length link.held ≡ length link.link.queue

pub record IsStation (a : Inside) : Type 0 where
  pub info : a.link.link.info ≡ 145
  pub queue : length a.link.link.queue ≤ a.link.link.k
  pub pool : IsPooled a.pool a.link
