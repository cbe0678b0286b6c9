-- How many notes of a turn open something in the book: a call that comes in a record, a reset an epoch. Room for these
-- is reserved before.
use Rattle.std.specs.Prelude.{◌≡◌, ℕ, ◌≤◌, Bool, List}
use Rattle.link_timers.specs.declared.role.Role.{Role}
use Rattle.link_timers.specs.declared.timers.TimerId.{TimerId}
use Rattle.lapb.specs.Machine.{Octets}
use Rattle.data_transfer.specs.Packets.{CallParts}
use Rattle.packet_channel.specs.Channel.{Request}
use Rattle.packet_end.specs.PacketEnd.{PacketEnd}
use Rattle.node_laws.specs.Lines.NodeLine.{Line}
use Rattle.call_records.specs.Book.{Book}
use Rattle.call_records.specs.Room.{opening_notes}
use Rattle.node_laws.specs.LineRecords.Kept.{Setting, Kept}
use Rattle.user_nodes.specs.Node.{NodeState, Host}
use Rattle.user_nodes.specs.Turn.{Turn}
use Rattle.user_nodes.specs.LineTurns.{hears, expires, relinks}
use Rattle.user_nodes.specs.HostTurns.{host_calls, host_asks, host_refuses, host_says, host_takes}
use Rattle.node_laws.specs.Nodes.{IsNode, StandsAt}

abbrev pub OpensNothing : Turn → Type 0
OpensNothing t = opening_notes t.notes.host ≡ 0

-- ---- what comes from the line

-- a frame opens one thing at most
abbrev pub HearingOpens : Type 0
HearingOpens = (role : Role) (n : NodeState) (octets : Octets) (b : Book)
    → opening_notes (hears role n octets b).notes.host ≤ 1

abbrev pub ExpiryOpens : Type 0
ExpiryOpens = (s : Setting) (b : Book) (l : Line) (role : Role) (n : NodeState) (id : TimerId) → StandsAt role l n
    → Kept s b l → OpensNothing (expires role n id b)

abbrev pub RelinkOpens : Type 0
RelinkOpens = (role : Role) (n : NodeState) (b : Book) → OpensNothing (relinks role n b)

-- ---- what a user asks

abbrev pub CallOpens : Type 0
CallOpens = (role : Role) (e : PacketEnd) (parts : CallParts) (b : Book) → IsNode (Host e)
    → OpensNothing (host_calls role e parts b)

abbrev pub AskingOpens : Type 0
AskingOpens = (role : Role) (e : PacketEnd) (channel : ℕ) (r : Request) (b : Book) → IsNode (Host e)
    → OpensNothing (host_asks role e channel r b)

abbrev pub RefusalOpens : Type 0
RefusalOpens = (role : Role) (e : PacketEnd) (channel : ℕ) (b : Book) → IsNode (Host e)
    → OpensNothing (host_refuses role e channel b)

abbrev pub SayingOpens : Type 0
SayingOpens = (role : Role) (e : PacketEnd) (channel : ℕ) (octets : List ℕ) (qualified delivery : Bool) (b : Book)
    → IsNode (Host e) → OpensNothing (host_says role e channel octets qualified delivery b)

abbrev pub TakingOpens : Type 0
TakingOpens = (role : Role) (e : PacketEnd) (channel : ℕ) (b : Book) → IsNode (Host e)
    → OpensNothing (host_takes role e channel b)
