-- A node between two events on any line, whatever arrives there: each turn leaves it quiet, and opens one thing in the
-- book at most.
use Rattle.std.specs.Prelude.{◌≡◌, ℕ, ◌≤◌, Bool, false, List, []}
use Rattle.link_timers.specs.declared.role.Role.{Role}
use Rattle.link_timers.specs.declared.timers.TimerId.{TimerId}
use Rattle.lapb.specs.Machine.{Octets}
use Rattle.data_transfer.specs.Packets.{CallParts}
use Rattle.packet_channel.specs.Channel.{Request}
use Rattle.packet_end.specs.PacketEnd.{PacketEnd}
use Rattle.packet_host.specs.Making as host
use Rattle.packet_host.specs.declared.config.HostConfig.{HostConfig}
use Rattle.x25_pad.specs.Making as pad
use Rattle.x25_pad.specs.declared.config.PadConfig.{PadConfig}
use Rattle.call_records.specs.Book.{Book}
use Rattle.call_records.specs.Room.{opening_notes}
use Rattle.user_nodes.specs.Node.{NodeState, Pad, Host, end_of, drained, node_elapsed}
use Rattle.user_nodes.specs.Turn.{Turn}
use Rattle.user_nodes.specs.LineTurns.{hears, expires, relinks, restarts}
use Rattle.user_nodes.specs.HostTurns.{host_calls, host_asks, host_refuses, host_says, host_takes}
use Rattle.user_nodes.specs.Terminals.{at_terminal}
use Rattle.user_nodes.specs.declared.terminal.TerminalEvent.{TerminalEvent}
use Rattle.node_laws.specs.Nodes.{IsNode}
use Rattle.node_laws.specs.Opening.{OpensNothing}

-- nothing is left of its last event: no note, also none in its layer, no frame, and no relink that is asked for
pub record IsQuiet (n : NodeState) : Type 0 where
  pub node : IsNode n
  pub unread : (end_of n).layer.notes ≡ []
  pub settled : (end_of n).layer.relink ≡ false

-- the node is quiet once the frames of the turn went
abbrev pub LeavesQuiet : Turn → Type 0
LeavesQuiet t = IsQuiet (drained t.node)

abbrev pub OpensOneAtMost : Turn → Type 0
OpensOneAtMost t = opening_notes t.notes.host ≤ 1

-- so it is, and nothing is opened
pub record IsQuietTurn (t : Turn) : Type 0 where
  pub leaves : LeavesQuiet t
  pub opens : OpensNothing t

-- ---- what comes from the line

-- any octets, whoever sent them
abbrev pub QuietHearingLaw : Type 0
QuietHearingLaw = (role : Role) (n : NodeState) (octets : Octets) (b : Book) → IsQuiet n
    → LeavesQuiet (hears role n octets b) × OpensOneAtMost (hears role n octets b)

abbrev pub QuietExpiryLaw : Type 0
QuietExpiryLaw = (role : Role) (n : NodeState) (id : TimerId) (b : Book) → IsQuiet n → IsQuietTurn (expires role n id b)

abbrev pub QuietRelinkLaw : Type 0
QuietRelinkLaw = (role : Role) (n : NodeState) (b : Book) → IsQuiet n → IsQuietTurn (relinks role n b)

abbrev pub QuietRestartLaw : Type 0
QuietRestartLaw = (role : Role) (n : NodeState) (b : Book) → IsQuiet n → IsQuietTurn (restarts role n b)

-- ---- what the user of a host asks

abbrev pub QuietCallLaw : Type 0
QuietCallLaw = (role : Role) (e : PacketEnd) (parts : CallParts) (b : Book) → IsQuiet (Host e)
    → IsQuietTurn (host_calls role e parts b)

abbrev pub QuietAskingLaw : Type 0
QuietAskingLaw = (role : Role) (e : PacketEnd) (channel : ℕ) (r : Request) (b : Book) → IsQuiet (Host e)
    → IsQuietTurn (host_asks role e channel r b)

abbrev pub QuietRefusalLaw : Type 0
QuietRefusalLaw = (role : Role) (e : PacketEnd) (channel : ℕ) (b : Book) → IsQuiet (Host e)
    → IsQuietTurn (host_refuses role e channel b)

abbrev pub QuietSayingLaw : Type 0
QuietSayingLaw = (role : Role) (e : PacketEnd) (channel : ℕ) (octets : List ℕ) (qualified delivery : Bool) (b : Book)
    → IsQuiet (Host e) → IsQuietTurn (host_says role e channel octets qualified delivery b)

abbrev pub QuietTakingLaw : Type 0
QuietTakingLaw = (role : Role) (e : PacketEnd) (channel : ℕ) (b : Book) → IsQuiet (Host e)
    → IsQuietTurn (host_takes role e channel b)

-- ---- what happens at a terminal of a PAD, time, and the making

abbrev pub QuietTerminalLaw : Type 0
QuietTerminalLaw = (role : Role) (n : NodeState) (terminal : ℕ) (event : TerminalEvent) (b : Book) → IsQuiet n
    → IsQuietTurn (at_terminal role n terminal event b)

abbrev pub QuietTimeLaw : Type 0
QuietTimeLaw = (n : NodeState) (ticks : ℕ) → IsQuiet n → IsQuiet (node_elapsed ticks n)

abbrev pub QuietMakingLaw : Type 0
QuietMakingLaw = ((c : PadConfig) → IsQuiet (drained (Pad (pad.made c))))
    × ((c : HostConfig) → IsQuiet (drained (Host (host.made c))))
