-- How many notes of a turn of a quiet node open something.
use Rattle.std.specs.Prelude.{◌≡◌, ℕ, Bool, true, false, cond, List}
use Rattle.std.proofs.Common.{refl, ap, arith}
use Rattle.link_timers.specs.declared.role.Role.{Role}
use Rattle.link_timers.specs.declared.timers.TimerId.{TimerId}
use Rattle.lapb.specs.Machine.{Octets}
use Rattle.data_transfer.specs.Packets.{CallParts}
use Rattle.packet_channel.specs.Channel.{Request}
use Rattle.packet_end.specs.PacketEnd.{PacketEnd, begun, runs_at, after_timer, finished}
use Rattle.packet_host.specs.Host as host
use Rattle.x25_pad.specs.Pad as pad
use Rattle.call_records.specs.Book.{Book}
use Rattle.call_records.specs.Room.{opening_notes}
use Rattle.node_laws.proofs.LineRecords.Opening.{expiry_opens}
use Rattle.user_nodes.specs.Node.{NodeState, Pad, Host}
use Rattle.user_nodes.specs.Turn.{Turn, unchanged, told}
use Rattle.user_nodes.specs.Terminals.{at_terminal}
use Rattle.user_nodes.specs.LineTurns.{hears, expires, relinks, restarts}
use Rattle.user_nodes.specs.HostTurns.{host_calls, host_asks, host_refuses, host_says, host_takes}
use Rattle.user_nodes.specs.declared.terminal.TerminalEvent.{TerminalEvent}
use Rattle.node_laws.specs.Opening.{OpensNothing}
use Rattle.node_laws.specs.Quiet.{IsQuiet, OpensOneAtMost}
use Rattle.node_laws.proofs.Opening.{hearing_opens, relink_opens_none, call_opens, asking_opens, refusal_opens, saying_opens, taking_opens}

-- ---- an expiry

host_expiry : (v : Bool) (e : PacketEnd) (id : TimerId) → IsQuiet (Host e) → opening_notes (cond v (finished (after_timer (begun e) id)) e).notes ≡ 0
host_expiry true e id q = (expiry_opens e id q.unread).1
host_expiry false e id q = ap opening_notes q.node.read

either_none : (v : Bool) (s t : Turn) → OpensNothing s → OpensNothing t → OpensNothing (cond v s t)
either_none true s t g h = g
either_none false s t g h = h

pub nothing-expires : (role : Role) (n : NodeState) (id : TimerId) (b : Book) → IsQuiet n → OpensNothing (expires role n id b)
nothing-expires role (Pad p) id b q =
    either_none (pad.runs_at p id) (told role (Pad (pad.after_timer p id)) b) (unchanged (Pad p) b) refl refl
nothing-expires role (Host e) id b q =
    either_none (runs_at e id) (told role (Host (host.after_expiry e id)) b) (unchanged (Host e) b) (host_expiry (runs_at e id) e id q) refl

-- ---- what comes from the line

pub opens-hears : (role : Role) (n : NodeState) (octets : Octets) (b : Book) → OpensOneAtMost (hears role n octets b)
opens-hears = hearing_opens

pub nothing-relinks : (role : Role) (n : NodeState) (b : Book) → OpensNothing (relinks role n b)
nothing-relinks = relink_opens_none

-- nothing is one at most
one_of : (t : Turn) → OpensNothing t → OpensOneAtMost t
one_of t h = omega arith

pub opens-restarts : (role : Role) (n : NodeState) (b : Book) → OpensNothing (restarts role n b)
opens-restarts role n b = refl

-- ---- what a user asks

pub opens-calls : (role : Role) (e : PacketEnd) (parts : CallParts) (b : Book) → IsQuiet (Host e) → OpensNothing (host_calls role e parts b)
opens-calls role e parts b q = call_opens role e parts b q.node

pub opens-asks : (role : Role) (e : PacketEnd) (channel : ℕ) (r : Request) (b : Book) → IsQuiet (Host e) → OpensNothing (host_asks role e channel r b)
opens-asks role e channel r b q = asking_opens role e channel r b q.node

pub opens-refuses : (role : Role) (e : PacketEnd) (channel : ℕ) (b : Book) → IsQuiet (Host e) → OpensNothing (host_refuses role e channel b)
opens-refuses role e channel b q = refusal_opens role e channel b q.node

pub opens-says : (role : Role) (e : PacketEnd) (channel : ℕ) (octets : List ℕ) (qualified delivery : Bool) (b : Book)
    → IsQuiet (Host e) → OpensNothing (host_says role e channel octets qualified delivery b)
opens-says role e channel octets qualified delivery b q = saying_opens role e channel octets qualified delivery b q.node

pub opens-takes : (role : Role) (e : PacketEnd) (channel : ℕ) (b : Book) → IsQuiet (Host e) → OpensNothing (host_takes role e channel b)
opens-takes role e channel b q = taking_opens role e channel b q.node

pub opens-terminals : (role : Role) (n : NodeState) (terminal : ℕ) (event : TerminalEvent) (b : Book) → OpensNothing (at_terminal role n terminal event b)
opens-terminals role (Pad p) terminal event b = refl
opens-terminals role (Host e) terminal event b = refl
