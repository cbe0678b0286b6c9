-- Requests by which something goes on to the other leg of a join: to send a packet, or an interrupt.
use Rattle.std.proofs.Common.{List, [], ◌∷◌, map, ℕ}
use Rattle.data_transfer.specs.Packets.{Datum}
use Rattle.data_transfer.specs.Traffic.{Taken}
use Rattle.data_transfer.specs.Traffic.Taken.{TakenInterrupt, TakenPacket}
use Rattle.packet_channel.specs.Channel.{Request}
use Rattle.packet_channel.specs.Channel.Request.{Sending, Interrupting}
use Rattle.switch_joins.specs.Turning.{Sizes, Gathered, turned}
use Rattle.switch_lines.specs.Relay.{requests_for}

pub data IsOnward : Request → Type 0 where
  sends : (d : Datum) → IsOnward (Sending d)
  interrupts : (octets : List ℕ) → IsOnward (Interrupting octets)

abbrev pub AreOnward : List Request → Type 0
AreOnward [] = Unit {0}
AreOnward (q ∷ qs) = IsOnward q × AreOnward qs

pub all_sent : (ds : List Datum) → AreOnward (map Sending ds)
all_sent [] = tt
all_sent (d ∷ ds) = (sends d, all_sent ds)

-- those of a move are
pub are_onward : (sizes : Sizes) (g : Gathered) (t : Taken) → AreOnward (requests_for sizes g t)
are_onward sizes g (TakenInterrupt octets) = (interrupts octets, tt)
are_onward sizes g (TakenPacket d) = all_sent (turned sizes g d).made
