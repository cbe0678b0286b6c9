-- What contracts see of the code's end of a line with its pool, and what always holds of them.
use Rattle.std.specs.Prelude.{◌≡◌, ◌≤◌, ℕ, length}
use Rattle.flow_window.specs.Pool.{Buffer, weight, pooled}
use Rattle.frame_codec.specs.Spelling.{most_information}
use Rattle.packet_end.specs.PacketEnd.{PacketEnd}
use Rattle.packet_end.specs.declared.end.PacketEnd.TheInside.{Inside}

abbrev pub end_of : Inside → PacketEnd
end_of a = a.end.end

-- the pool has the end's share of buffers, with room for its packets, and those in use are the ones that the end holds
pub record IsEnd (a : Inside) : Type 0 where
  pub size_least : a.end.info ≤ a.pool.size
  pub size_most : a.pool.size ≤ most_information
  pub places : length a.pool.places ≡ a.end.share
  pub exact : (w : Buffer → ℕ) → pooled w a.pool ≡ weight w a.end.held
