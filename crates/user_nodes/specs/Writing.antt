-- What the network writes into the book of a line: what a user asked where it was not refused, and what a node noted.
use Rattle.std.specs.Prelude.{ℕ, ◌≤◌, length}
use Rattle.link_timers.specs.declared.role.Role.{Role}
use Rattle.data_transfer.specs.Cutting.{cut}
use Rattle.packet_host.specs.Saying.{message}
use Rattle.packet_host.specs.declared.request.HostRequest.{HostRequest}
use Rattle.packet_host.specs.declared.request.HostRequest.TheVariants.{Answer, Refuse, Say, Interrupt, Reset, Clear}
use Rattle.packet_host.specs.declared.request.HostRequest.TheVariants.{Stop, Go}
use Rattle.call_records.specs.Book.{Book, answers, closes, renews, interrupts}
use Rattle.call_records.specs.Room.{opening_notes}
use Rattle.user_nodes.specs.PadRoom.{HaveRoom}
use Rattle.user_nodes.specs.Node.{NodeState, Pad, Host}
use Rattle.user_nodes.specs.Turn.{all_sent}

-- ---- what a host is asked

-- on a line of this packet size
abbrev pub request_written : (size : ℕ) → Role → (channel : ℕ) → HostRequest → Book → Book
request_written size role channel Answer b = answers role channel b
request_written size role channel Refuse b = closes role channel b
request_written size role channel (Say octets qualified delivery) b =
    all_sent role channel (cut size (message octets.items qualified delivery)) b
request_written size role channel (Interrupt octets) b = interrupts role channel octets.items b
request_written size role channel Reset b = renews role channel b
request_written size role channel Clear b = closes role channel b
request_written size role channel Stop b = b
request_written size role channel Go b = b

-- a message that no host refuses has at most 1,024 octets, an interrupt at most 32
abbrev pub IsShort : HostRequest → Type 0
IsShort (Say octets qualified delivery) = length octets.items ≤ 1024
IsShort (Interrupt octets) = length octets.items ≤ 32
IsShort _ = Unit {0}

-- ---- what a node noted

-- there is room for what it noted, where there is room for so many writes and for so many pairs
abbrev pub IsRoomFor : NodeState → (room pairs : ℕ) → Type 0
IsRoomFor (Pad p) room pairs = HaveRoom p.line.notes room pairs
IsRoomFor (Host e) room pairs = (opening_notes e.notes ≤ 1) × (opening_notes e.notes ≤ room)
