-- The end of an event of a node as acts of its end of a line, and an end at which no frame waits.
use Rattle.std.specs.Prelude.{◌≡◌, List, []}
use Rattle.std.proofs.Common.{refl, sym}
use Rattle.lapb.specs.Machine.{Octets}
use Rattle.line_end.specs.End.{without_frames}
use Rattle.packet_end.specs.PacketEnd.{PacketEnd, finished}
use Rattle.node_laws.specs.Lines.NodeLine.{RelinksIfDue, Offers, Settles, does}

pub finished_is : (coming : List Octets) (e : PacketEnd) → finished e ≡ does Settles coming (does Offers coming (does RelinksIfDue coming e))
unfolding finished
finished_is coming e = refl

-- a restart of the other end leaves such an end as it is
pub none_waits : (e : PacketEnd) → e.line.frames ≡ [] → record e { line = without_frames e.line } ≡ e
none_waits e none = λ i. record e { line = record e.line { frames = sym none i } }
