-- What contracts see of the code's end of a gateway, and what always holds of it.
use Rattle.std.specs.Prelude.{◌≡◌, ◌≤◌, ℕ, length}
use Rattle.flow_window.specs.Pool.{Buffer, weight, pooled}
use Rattle.frame_codec.specs.Spelling.{most_information}
use Rattle.xot_gateway.specs.Packets.{most_packet}
use Rattle.gateway_end.specs.GatewayEnd.{GatewayEnd}
use Rattle.gateway_end.specs.Waiting.{WaitsShort, waiting_in}
use Rattle.gateway_end.specs.declared.end.GatewayEnd.TheInside.{Inside}

abbrev pub end_of : Inside → GatewayEnd
end_of a = record { line = a.line.end; calls = a.calls; waiting = waiting_in a.next }

-- the pool has a buffer for each packet that the link may have unacknowledged and one more, each with room for a packet,
-- and those in use are the ones that the link holds
pub record IsEnd (a : Inside) : Type 0 where
  pub size_least : a.line.end.link.info ≤ a.pool.size
  pub size_most : a.pool.size ≤ most_information
  pub places : length a.pool.places ≡ 8
  pub exact : (w : Buffer → ℕ) → pooled w a.pool ≡ weight w a.line.held
  pub window : a.line.end.link.k ≤ 7
  pub few : length a.line.held ≤ a.line.end.link.k
  pub short : most_packet a.calls.line ≤ a.line.end.link.info
  pub waits : WaitsShort a.next a.line.end.link.info
