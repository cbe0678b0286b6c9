-- Each turn leaves a quiet node quiet.
use Rattle.std.specs.Prelude.{◌≡◌, ℕ, Bool, true, false, cond, List, [], Option, Some, None, if◌then◌else◌}
use Rattle.std.proofs.Common.{refl}
use Rattle.link_timers.specs.declared.role.Role.{Role}
use Rattle.link_timers.specs.declared.timers.TimerId.{TimerId}
use Rattle.link_timers.specs.declared.timers.TimerId.TheVariants.{Idle}
use Rattle.lapb.specs.Machine.{Octets}
use Rattle.data_transfer.specs.Packets.{CallParts}
use Rattle.data_transfer.specs.Traffic.{Taken}
use Rattle.packet_channel.specs.Channel.{Request}
use Rattle.packet_layer.specs.Layer.{front_on}
use Rattle.packet_end.specs.PacketEnd.{PacketEnd, begun, received, runs_at, after_timer, relinked, finished}
use Rattle.packet_host.specs.Host as host
use Rattle.packet_host.specs.Making as host_making
use Rattle.packet_host.specs.declared.config.HostConfig.{HostConfig}
use Rattle.pad_ports.specs.PadLine.{last_incoming}
use Rattle.pad_ports.specs.Ports as port
use Rattle.pad_ports.specs.Ports.{AtLine}
use Rattle.x25_pad.specs.Pad as pad
use Rattle.x25_pad.specs.Pad.{PadState}
use Rattle.x25_pad.specs.Making as pad_making
use Rattle.x25_pad.specs.declared.config.PadConfig.{PadConfig}
use Rattle.call_records.specs.Book.{Book}
use Rattle.user_nodes.specs.Node.{NodeState, Pad, Host, drained, node_elapsed}
use Rattle.user_nodes.specs.Turn.{Turn, unchanged, told}
use Rattle.user_nodes.specs.Terminals.{after_terminal, at_terminal}
use Rattle.user_nodes.specs.LineTurns.{hears, expires, relinks, restarts}
use Rattle.user_nodes.specs.HostTurns.{host_calls, host_asks, host_refuses, host_says, host_takes, taken_turn}
use Rattle.user_nodes.specs.declared.terminal.TerminalEvent.{TerminalEvent}
use Rattle.user_nodes.specs.declared.terminal.TerminalEvent.TheVariants as event
use Rattle.user_nodes.specs.declared.terminal.TerminalEvent.TheVariants.{Key, Break, Print, Leaves, Arrives}
use Rattle.node_laws.specs.Quiet.{IsQuiet, LeavesQuiet}
use Rattle.node_laws.proofs.QuietEnds.{IsUnread, received_unread, timer_unread, finished_unread, asked_unread, called_unread, calls_unread, asks_unread, refuses_unread, says_unread, takes_unread}
use Rattle.node_laws.proofs.LineRecords.Relinking.{AsksNone, finished_asks, calls_ask, requests_ask, refuses_ask, says_ask, takes_ask, expiry_asks}
use Rattle.node_laws.proofs.PadEnds.{key_at, idle_at, breaks_at, print_at, leaving_at, port_at, answered_at}

-- ---- turns of any node

-- nothing is unread
told_quiet : (role : Role) (e : PacketEnd) (b : Book) → IsUnread e → AsksNone e → LeavesQuiet (told role (Host e) b)
told_quiet role e b h settled =
    record { node = record { read = refl; noted = refl; sent = refl }; unread = h; settled = settled }

noted_quiet : (role : Role) (p : PadState) (b : Book) → p.line.end.notes ≡ [] → IsUnread p.line.end → AsksNone p.line.end → LeavesQuiet (told role (Pad p) b)
noted_quiet role p b read h settled =
    record { node = record { read = read; noted = refl; sent = refl }; unread = h; settled = settled }

pub unchanged_quiet : (n : NodeState) (b : Book) → IsQuiet n → LeavesQuiet (unchanged n b)
unchanged_quiet (Pad p) b q =
    record {
      node = record { read = q.node.read; noted = q.node.noted; sent = refl };
      unread = q.unread;
      settled = q.settled;
    }
unchanged_quiet (Host e) b q =
    record {
      node = record { read = q.node.read; noted = refl; sent = refl };
      unread = q.unread;
      settled = q.settled;
    }

either_quiet : (v : Bool) (s t : Turn) → LeavesQuiet s → LeavesQuiet t → LeavesQuiet (cond v s t)
either_quiet true s t g h = g
either_quiet false s t g h = h

-- ---- a PAD

-- the end of an event leaves nothing unread
ended_unread : (p : PadState) → IsUnread p.line.end → IsUnread (pad.ended p).line.end
ended_unread p h = finished_unread p.line.end h

line_unread : (p : PadState) → IsUnread p.line.end → IsUnread (pad.line_event p).line.end
line_unread p h =
    let o : Option ℕ = last_incoming None p.line.end.notes in
    ended_unread (pad.answered o (pad.told p)) (answered_at IsUnread asked_unread called_unread o (pad.told p) h)

terminal_unread : (number : ℕ) (act : AtLine → AtLine) (p : PadState) → ((a : AtLine) → IsUnread a.line.end → IsUnread (act a).line.end)
    → IsUnread p.line.end → IsUnread (pad.terminal_event number act p).line.end
terminal_unread number act p f h =
    ended_unread (pad.at_port number act (pad.begun p)) (port_at IsUnread asked_unread called_unread number act (pad.begun p) f h)

-- and asks for no relink
line_settled : (p : PadState) → AsksNone (pad.line_event p).line.end
line_settled p = finished_asks (pad.answered (last_incoming None p.line.end.notes) (pad.told p)).line.end

terminal_settled : (number : ℕ) (act : AtLine → AtLine) (p : PadState) → AsksNone (pad.terminal_event number act p).line.end
terminal_settled number act p = finished_asks (pad.at_port number act (pad.begun p)).line.end

key_unread : (octet : ℕ) (a : AtLine) → IsUnread a.line.end → IsUnread (port.after_key octet a).line.end
key_unread octet a h = key_at IsUnread asked_unread called_unread octet a h

-- a timer of the line, or of a terminal
record IsBare (p : PadState) : Type 0 where
  read : p.line.end.notes ≡ []
  unread : IsUnread p.line.end
  settled : AsksNone p.line.end

either_bare : (v : Bool) (x p : PadState) → IsBare x → IsBare p → IsBare (if v then x else p)
either_bare true x p g h = g
either_bare false x p g h = h

expiry_bare : (p : PadState) (id : TimerId) → IsBare p → IsBare (pad.after_expiry p id)
expiry_bare p id h =
    let q : PadState = pad.with_end (after_timer (pad.begun p).line.end id) (pad.begun p) in
    either_bare (runs_at p.line.end id) (pad.line_event q) p (record { read = refl; unread = line_unread q (timer_unread p.line.end id h.unread); settled = line_settled q }) h

timer_bare : (p : PadState) (id : TimerId) → IsBare p → IsBare (pad.after_timer p id)
timer_bare p (Idle number) h =
    either_bare (pad.runs_idle_timer number p) (pad.terminal_event number port.after_idle p) p
    (record {
      read = refl;
      unread = terminal_unread number port.after_idle p (idle_at IsUnread asked_unread called_unread) h.unread;
      settled = terminal_settled number port.after_idle p;
    }) h
timer_bare p id h = expiry_bare p id h

-- ---- what comes from the line

pub quiet-hears : (role : Role) (n : NodeState) (octets : Octets) (b : Book) → IsQuiet n → LeavesQuiet (hears role n octets b)
quiet-hears role (Pad p) octets b q =
    noted_quiet role (pad.after_frame p octets) b refl
    (line_unread (pad.with_end (received (pad.begun p).line.end octets) (pad.begun p)) (received_unread p.line.end octets q.unread))
    (line_settled (pad.with_end (received (pad.begun p).line.end octets) (pad.begun p)))
quiet-hears role (Host e) octets b q =
    let x : PacketEnd = received (begun e) octets in
    told_quiet role (host.after_frame e octets) b (finished_unread x (received_unread e octets q.unread)) (finished_asks x)

host_expiry : (v : Bool) (e : PacketEnd) (id : TimerId) → IsUnread e → IsUnread (cond v (finished (after_timer (begun e) id)) e)
host_expiry true e id h = finished_unread (after_timer (begun e) id) (timer_unread e id h)
host_expiry false e id h = h

pub quiet-expires : (role : Role) (n : NodeState) (id : TimerId) (b : Book) → IsQuiet n → LeavesQuiet (expires role n id b)
quiet-expires role (Pad p) id b q =
    let h : IsBare (pad.after_timer p id) = timer_bare p id (record { read = q.node.read; unread = q.unread; settled = q.settled }) in
    either_quiet (pad.runs_at p id) (told role (Pad (pad.after_timer p id)) b) (unchanged (Pad p) b)
    (noted_quiet role (pad.after_timer p id) b h.read h.unread h.settled)
    (unchanged_quiet (Pad p) b q)
quiet-expires role (Host e) id b q =
    either_quiet (runs_at e id) (told role (Host (host.after_expiry e id)) b) (unchanged (Host e) b)
    (told_quiet role (host.after_expiry e id) b (host_expiry (runs_at e id) e id q.unread) (expiry_asks e id q.settled)) (unchanged_quiet (Host e) b q)

pub quiet-relinks : (role : Role) (n : NodeState) (b : Book) → IsQuiet n → LeavesQuiet (relinks role n b)
quiet-relinks role (Pad p) b q =
    noted_quiet role (pad.after_relink p) b refl (line_unread (pad.with_end (relinked (pad.begun p).line.end) (pad.begun p)) refl)
    (line_settled (pad.with_end (relinked (pad.begun p).line.end) (pad.begun p)))
quiet-relinks role (Host e) b q =
    let x : PacketEnd = relinked (begun e) in
    told_quiet role (host.after_relink e) b (finished_unread x refl) (finished_asks x)

pub quiet-restarts : (role : Role) (n : NodeState) (b : Book) → IsQuiet n → LeavesQuiet (restarts role n b)
quiet-restarts role (Pad p) b q =
    record { node = record { read = refl; noted = refl; sent = refl }; unread = refl; settled = refl }
quiet-restarts role (Host e) b q =
    record { node = record { read = refl; noted = refl; sent = refl }; unread = refl; settled = refl }

-- ---- what the user of a host asks

pub quiet-calls : (role : Role) (e : PacketEnd) (parts : CallParts) (b : Book) → IsQuiet (Host e) → LeavesQuiet (host_calls role e parts b)
quiet-calls role e parts b q = told_quiet role (host.after_call e parts) b (calls_unread e parts q.unread) (calls_ask e parts q.settled)

pub quiet-asks : (role : Role) (e : PacketEnd) (channel : ℕ) (r : Request) (b : Book) → IsQuiet (Host e) → LeavesQuiet (host_asks role e channel r b)
quiet-asks role e channel r b q = told_quiet role (host.after_request e channel r) b (asks_unread e channel r q.unread) (requests_ask e channel r q.settled)

pub quiet-refuses : (role : Role) (e : PacketEnd) (channel : ℕ) (b : Book) → IsQuiet (Host e) → LeavesQuiet (host_refuses role e channel b)
quiet-refuses role e channel b q = told_quiet role (host.after_refuse e channel) b (refuses_unread e channel q.unread) (refuses_ask e channel q.settled)

pub quiet-says : (role : Role) (e : PacketEnd) (channel : ℕ) (octets : List ℕ) (qualified delivery : Bool) (b : Book)
    → IsQuiet (Host e) → LeavesQuiet (host_says role e channel octets qualified delivery b)
quiet-says role e channel octets qualified delivery b q =
    told_quiet role (host.after_say e channel octets qualified delivery) b (says_unread e channel octets qualified delivery q.unread) (says_ask e channel octets qualified delivery q.settled)

pub quiet-takes : (role : Role) (e : PacketEnd) (channel : ℕ) (b : Book) → IsQuiet (Host e) → LeavesQuiet (host_takes role e channel b)
quiet-takes role e channel b q = by (front_on e.layer channel)
  where
    by : (o : Option Taken) → LeavesQuiet (taken_turn o role e channel b)
    by None = unchanged_quiet (Host e) b q
    by (Some x) =
        told_quiet role (host.after_take e channel) b (takes_unread e channel q.unread) (takes_ask e channel q.settled)

-- ---- what happens at a terminal of a PAD

after_quiet : (role : Role) (p : PadState) (terminal : ℕ) (event : TerminalEvent) (b : Book) → IsQuiet (Pad p) → LeavesQuiet (told role (Pad (after_terminal terminal event p)) b)
after_quiet role p terminal (Key octet) b q =
    noted_quiet role (pad.terminal_event terminal (port.after_key octet) p) b refl (terminal_unread terminal (port.after_key octet) p (key_unread octet) q.unread)
    (terminal_settled terminal (port.after_key octet) p)
after_quiet role p terminal Break b q =
    noted_quiet role (pad.terminal_event terminal port.after_break p) b refl
    (terminal_unread terminal port.after_break p (breaks_at IsUnread asked_unread called_unread) q.unread) (terminal_settled terminal port.after_break p)
after_quiet role p terminal event.Idle b q =
    let h : IsBare (pad.after_timer p (Idle terminal)) = timer_bare p (Idle terminal) (record { read = q.node.read; unread = q.unread; settled = q.settled }) in
    noted_quiet role (pad.after_idle terminal p) b h.read h.unread h.settled
after_quiet role p terminal Print b q =
    noted_quiet role (pad.terminal_event terminal port.after_print p) b refl
    (terminal_unread terminal port.after_print p (print_at IsUnread asked_unread called_unread) q.unread) (terminal_settled terminal port.after_print p)
after_quiet role p terminal Leaves b q =
    noted_quiet role (pad.terminal_event terminal port.after_leaving p) b refl
    (terminal_unread terminal port.after_leaving p (leaving_at IsUnread asked_unread called_unread) q.unread) (terminal_settled terminal port.after_leaving p)
after_quiet role p terminal Arrives b q =
    noted_quiet role (pad.terminal_event terminal port.after_arrival p) b refl
    (terminal_unread terminal port.after_arrival p (λ a h. h) q.unread) (terminal_settled terminal port.after_arrival p)

pub quiet-terminals : (role : Role) (n : NodeState) (terminal : ℕ) (event : TerminalEvent) (b : Book) → IsQuiet n → LeavesQuiet (at_terminal role n terminal event b)
quiet-terminals role (Pad p) terminal event b q = after_quiet role p terminal event b q
quiet-terminals role (Host e) terminal event b q = unchanged_quiet (Host e) b q

-- ---- time, and the making

pub quiet-elapses : (n : NodeState) (ticks : ℕ) → IsQuiet n → IsQuiet (node_elapsed ticks n)
quiet-elapses (Pad p) ticks q =
    record { node = record { read = q.node.read; noted = q.node.noted; sent = q.node.sent }; unread = q.unread; settled = q.settled }
quiet-elapses (Host e) ticks q =
    record { node = record { read = q.node.read; noted = refl; sent = q.node.sent }; unread = q.unread; settled = q.settled }

pub quiet-made-pad : (c : PadConfig) → IsQuiet (drained (Pad (pad_making.made c)))
quiet-made-pad c =
    record { node = record { read = refl; noted = refl; sent = refl }; unread = refl; settled = refl }

pub quiet-made-host : (c : HostConfig) → IsQuiet (drained (Host (host_making.made c)))
quiet-made-host c =
    record { node = record { read = refl; noted = refl; sent = refl }; unread = refl; settled = refl }
