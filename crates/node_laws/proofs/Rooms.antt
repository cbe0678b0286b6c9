-- How much room the notes of an event of a node need.
use Rattle.std.specs.Prelude.{◌≡◌, ◌≤◌, Bool, true, false, cond}
use Rattle.std.proofs.Common.{ap, arith}
use Rattle.packet_end.specs.PacketEnd.{PacketEnd, begun, runs_at, after_timer, finished}
use Rattle.packet_host.specs.Host as host
use Rattle.call_records.specs.Room.{opening_notes}
use Rattle.node_laws.proofs.LineRecords.Opening.{frame_opens, expiry_opens, relink_opens}
use Rattle.node_laws.proofs.Pads.Rooms as pad_law
use Rattle.user_nodes.specs.Node.{Pad, Host}
use Rattle.user_nodes.specs.declared.terminal.TerminalEvent.TheVariants.{Key, Break, Idle, Print, Leaves, Arrives}
use Rattle.node_laws.specs.Rooms.{NeedsTwoAtMost, HearingRoom, ExpiryRoom, RelinkRoom, RestartRoom, TerminalRoom}

-- a host whose notes open one thing at most
one_fits : (e : PacketEnd) → opening_notes e.notes ≤ 1 → NeedsTwoAtMost (Host e)
one_fits e one room pairs two some = (one, omega (arith, one, two))

none_fits : (e : PacketEnd) → opening_notes e.notes ≡ 0 → NeedsTwoAtMost (Host e)
none_fits e none = one_fits e (omega (arith, none))

pub hearing_room : HearingRoom
hearing_room (Pad p) octets q = pad_law.frame_room p octets
hearing_room (Host e) octets q = one_fits (host.after_frame e octets) (frame_opens e octets).1

pub expiry_room : ExpiryRoom
expiry_room (Pad p) id q = pad_law.timer_room p id q.node.noted q.unread
expiry_room (Host e) id q = by (runs_at e id)
  where
    by : (v : Bool) → NeedsTwoAtMost (Host (cond v (finished (after_timer (begun e) id)) e))
    by true = none_fits (finished (after_timer (begun e) id)) (expiry_opens e id q.unread).1
    by false = none_fits e (ap opening_notes q.node.read)

pub relink_room : RelinkRoom
relink_room (Pad p) q = pad_law.relink_room p
relink_room (Host e) q = none_fits (host.after_relink e) (relink_opens e).1

pub restart_room : RestartRoom
restart_room (Pad p) room pairs two some = tt
restart_room (Host e) room pairs two some = (omega arith, omega arith)

pub terminal_room : TerminalRoom
terminal_room p terminal (Key octet) q = pad_law.key_room p terminal octet
terminal_room p terminal Break q = pad_law.break_room p terminal
terminal_room p terminal Idle q = pad_law.idle_room p terminal q.node.noted
terminal_room p terminal Print q = pad_law.print_room p terminal
terminal_room p terminal Leaves q = pad_law.leaving_room p terminal
terminal_room p terminal Arrives q = pad_law.arrival_room p terminal
