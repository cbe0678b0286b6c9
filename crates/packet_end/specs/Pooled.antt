-- An end of a line whose packets lie in a pool that it is lent.
use Rattle.std.specs.Prelude.{ℕ, ◌+◌, ◌*◌, ◌≤◌, List}
use Rattle.flow_window.specs.Pool.{Pool, Buffer, Holds}
use Rattle.frame_codec.specs.Spelling.{most_information}
use Rattle.line_end.specs.End.{End}
use Rattle.packet_layer.specs.Layer.{Layer}
use Rattle.packet_layer.specs.Held.{most_held, HasRoom}
use Rattle.packet_end.specs.PacketEnd.{PacketEnd}
use Rattle.packet_end.specs.declared.params.EndParams.{EndParams}

-- an end, the buffers that it holds, its share of a pool, and the most octets of information of an I frame of its line,
-- and so of each of its packets
pub record PooledEnd : Type 0 where
  pub end : PacketEnd
  pub held : List Buffer
  pub share : ℕ
  pub info : ℕ

-- the share of an end: buffers for the packets that the link may have unacknowledged, for both queues of each channel,
-- and one for the packet that goes from one to the other
abbrev pub share_of : End → Layer → ℕ
share_of line layer = line.link.k + most_held layer + 1

-- as it is made
abbrev pub share_with : EndParams → ℕ
share_with p = p.k + p.channels * (p.flow.window + 8) + 1

-- a pool has the buffers that are held, and beside what others hold of it there is room for the whole share; each
-- buffer has room for a packet, and none for more than a frame carries
pub record Serves (pool : Pool) (held : List Buffer) (share info : ℕ) : Type 0 where
  pub size_least : info ≤ pool.size
  pub size_most : pool.size ≤ most_information
  pub holds : Holds pool held
  pub room : HasRoom pool held share
