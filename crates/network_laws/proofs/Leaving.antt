-- What each event leaves of what holds of a line of any kind: the nodes of the book, a quiet node, its kind, and what a
-- PAD's records have sent.
use Rattle.std.proofs.Common.{◌≡◌, ℕ, Bool, true, false, List, refl, sym, subst}
use Rattle.std.specs.Prelude.{cond}
use Rattle.link_timers.specs.declared.role.Role.{Role}
use Rattle.link_timers.specs.declared.role.Role.TheVariants.{Dte, Dce}
use Rattle.link_timers.specs.declared.timers.TimerId.{TimerId}
use Rattle.link_timers.specs.declared.timers.TimerId.TheVariants.{Idle as idle_timer}
use Rattle.packet_host.specs.Host.{call_parts}
use Rattle.pad_ports.specs.Ports as port
use Rattle.x25_pad.specs.Pad as pad
use Rattle.x25_pad.specs.Pad.{PadState}
use Rattle.node_laws.specs.Pads.Courses.{PadHolds}
use Rattle.node_laws.specs.Pads.RecordClauses.{HoldsAfter}
use Rattle.node_laws.proofs.Pads.Holding as pad_law
use Rattle.call_records.specs.Book.{Book}
use Rattle.call_records.specs.Writes.{Write, all_written}
use Rattle.node_laws.specs.Nodes.{StandsAt}
use Rattle.node_laws.specs.Quiet.{IsQuiet}
use Rattle.node_laws.proofs.QuietTurns as quiet_law
use Rattle.user_nodes.specs.Node.{NodeState, Pad, Host, end_of, is_pad, drained}
use Rattle.user_nodes.specs.Turn.{told, unchanged}
use Rattle.user_nodes.specs.Terminals.{after_terminal}
use Rattle.user_nodes.specs.LineTurns.{expires}
use Rattle.user_nodes.specs.declared.terminal.TerminalEvent.{TerminalEvent}
use Rattle.user_nodes.specs.declared.terminal.TerminalEvent.TheVariants.{Key, Break, Idle, Print, Leaves, Arrives}
use Rattle.net_events.specs.OneLine.{LineState, node_at}
use Rattle.net_events.specs.NodeEvents.{NodeEvent, IsFor, turn_of}
use Rattle.net_events.specs.NodeEvents.NodeEvent.{Hears, Expires, Relinks, Restarts, Calls, Asks, Refuses, Says}
use Rattle.net_events.specs.NodeEvents.NodeEvent.{Takes, AtTerminal}
use Rattle.frame_lines.specs.Lines.{LineService}
use Rattle.network_laws.specs.IsLine.{NodeHolds, line_of, AreQuiet, IsLine}
use Rattle.network_laws.proofs.Channels.{ends_after}
use Rattle.network_laws.proofs.Fitting.{LeavesLine, stands}
use Rattle.network_laws.proofs.NodeKinds.{same, kind-after}
use Rattle.network_laws.proofs.Uniform.{IsUniform, uniform}

-- ---- a host at the end of a role

pub host-is : (n : NodeState) → is_pad n ≡ false → n ≡ Host (end_of n)
host-is (Pad p) e = absurd (cc)
host-is (Host e) h = refl

quiet-host : (n : NodeState) → is_pad n ≡ false → IsQuiet n → IsQuiet (Host (end_of n))
quiet-host n h q = subst IsQuiet (host-is n h) q

pub host-stands : (role : Role) (s : LineState) → AreQuiet s → is_pad (node_at role s) ≡ false
    → StandsAt role (line_of s) (Host (end_of (node_at role s)))
host-stands role s q h = subst (StandsAt role (line_of s)) (host-is (node_at role s) h) (stands role s q)

-- ---- the node stays quiet

pub quiet-after : (event : NodeEvent) (role : Role) (n : NodeState) (b : Book) → IsQuiet n → IsFor event n
    → IsQuiet (drained (turn_of event role n b).node)
quiet-after (Hears octets) role n b q is = quiet_law.quiet-hears role n octets b q
quiet-after (Expires id) role n b q is = quiet_law.quiet-expires role n id b q
quiet-after Relinks role n b q is = quiet_law.quiet-relinks role n b q
quiet-after Restarts role n b q is = quiet_law.quiet-restarts role n b q
quiet-after (Calls address user_data) role n b q is =
    quiet_law.quiet-calls role (end_of n) (call_parts address user_data) b (quiet-host n is.0 q)
quiet-after (Asks channel r) role n b q is = quiet_law.quiet-asks role (end_of n) channel r b (quiet-host n is q)
quiet-after (Refuses channel) role n b q is = quiet_law.quiet-refuses role (end_of n) channel b (quiet-host n is q)
quiet-after (Says channel octets qualified delivery) role n b q is =
    quiet_law.quiet-says role (end_of n) channel octets qualified delivery b (quiet-host n is q)
quiet-after (Takes channel) role n b q is = quiet_law.quiet-takes role (end_of n) channel b (quiet-host n is q)
quiet-after (AtTerminal terminal event) role n b q is = quiet_law.quiet-terminals role n terminal event b q

-- ---- what a PAD's records have sent

-- whatever is written at the other end
typed-far : (n : NodeState) (ws : List Write) (b : Book) → NodeHolds Dte n b → NodeHolds Dte n (all_written Dce ws b)
typed-far (Pad p) ws b h = pad_law.far_kept Dte p ws b h
typed-far (Host e) ws b h = tt

-- a host has nothing to be said of
typed-host : (n : NodeState) (b : Book) → is_pad n ≡ false → NodeHolds Dte (drained n) b
typed-host (Pad p) b e = absurd (cc)
typed-host (Host e) b h = tt

-- frames go out of a PAD, and nothing else
typed-drained : (p : PadState) (b : Book) → PadHolds Dte p b → NodeHolds Dte (drained (Pad p)) b
typed-drained p b h =
    record {
      typed = record { size = h.typed.size; book = h.typed.book; read = h.typed.read; unread = h.typed.unread; ports = h.typed.ports; alone = h.typed.alone; calls = h.typed.calls };
      occasions = h.occasions;
      led = h.led;
      said = h.said;
    }

-- and its notes are read
typed-told : (p : PadState) (b : Book) → HoldsAfter Dte b p → NodeHolds Dte (drained (told Dte (Pad p) b).node) (told Dte (Pad p) b).book
typed-told p b h =
    record {
      typed = record { size = h.typed.size; book = h.typed.book; read = h.typed.read; unread = h.typed.unread; ports = h.typed.ports; alone = h.typed.alone; calls = h.typed.calls };
      occasions = h.occasions;
      led = h.led;
      said = h.said;
    }

typed-expires : (p : PadState) (id : TimerId) (b : Book) → IsQuiet (Pad p) → PadHolds Dte p b
    → NodeHolds Dte (drained (expires Dte (Pad p) id b).node) (expires Dte (Pad p) id b).book
typed-expires p id b q h = by (pad.runs_at p id)
  where
    by : (v : Bool) → let t = cond v (told Dte (Pad (pad.after_timer p id)) b) (unchanged (Pad p) b) in NodeHolds Dte (drained t.node) t.book
    by true = typed-told (pad.after_timer p id) b (pad_law.timer_kept Dte p id b q.node.noted h)
    by false = typed-drained p b h

typed-terminal : (p : PadState) (terminal : ℕ) (event : TerminalEvent) (b : Book) → IsQuiet (Pad p) → PadHolds Dte p b
    → let t = told Dte (Pad (after_terminal terminal event p)) b in NodeHolds Dte (drained t.node) t.book
typed-terminal p terminal (Key octet) b q h =
    typed-told (pad.terminal_event terminal (port.after_key octet) p) b (pad_law.key_kept Dte p terminal octet b h)
typed-terminal p terminal Break b q h =
    typed-told (pad.terminal_event terminal port.after_break p) b (pad_law.break_kept Dte p terminal b h)
typed-terminal p terminal Idle b q h =
    typed-told (pad.after_idle terminal p) b (pad_law.timer_kept Dte p (idle_timer terminal) b q.node.noted h)
typed-terminal p terminal Print b q h =
    typed-told (pad.terminal_event terminal port.after_print p) b (pad_law.print_kept Dte p terminal b h)
typed-terminal p terminal Leaves b q h =
    typed-told (pad.terminal_event terminal port.after_leaving p) b (pad_law.leaving_kept Dte p terminal b h)
typed-terminal p terminal Arrives b q h =
    typed-told (pad.terminal_event terminal port.after_arrival p) b (pad_law.arrival_kept Dte p terminal b h)

typed-pad : (event : NodeEvent) (p : PadState) (b : Book) → IsFor event (Pad p) → IsQuiet (Pad p) → PadHolds Dte p b
    → NodeHolds Dte (drained (turn_of event Dte (Pad p) b).node) (turn_of event Dte (Pad p) b).book
typed-pad (Hears octets) p b is q h = typed-told (pad.after_frame p octets) b (pad_law.frame_kept Dte p octets b h)
typed-pad (Expires id) p b is q h = typed-expires p id b q h
typed-pad Relinks p b is q h = typed-told (pad.after_relink p) b (pad_law.relink_kept Dte p b h)
typed-pad Restarts p b is q h = typed-drained (pad.restarted p) _ (pad_law.restart_kept Dte p b h)
typed-pad (Calls address user_data) p b is q h = absurd (let no = is.0 in cc)
typed-pad (Asks channel r) p b is q h = absurd (cc)
typed-pad (Refuses channel) p b is q h = absurd (cc)
typed-pad (Says channel octets qualified delivery) p b is q h = absurd (cc)
typed-pad (Takes channel) p b is q h = absurd (cc)
typed-pad (AtTerminal terminal event) p b is q h = typed-terminal p terminal event b q h

typed-own : (event : NodeEvent) (n : NodeState) (b : Book) → IsFor event n → IsQuiet n → NodeHolds Dte n b
    → NodeHolds Dte (drained (turn_of event Dte n b).node) (turn_of event Dte n b).book
typed-own event (Pad p) b is q h = typed-pad event p b is q h
typed-own event (Host e) b is q h =
    typed-host (turn_of event Dte (Host e) b).node (turn_of event Dte (Host e) b).book (kind-after event Dte (Host e) b is)

-- ---- each event

pub leaves : (L : LineService) (event : NodeEvent) (role : Role) (s : LineState) → IsLine L s
    → IsFor event (node_at role s) → LeavesLine role s (turn_of event role (node_at role s) s.book)
leaves L event Dte s n is = record {
  same = same s.book (turn_of event Dte s.dte s.book).book (ends_after event Dte s.dte s.book);
  quiet = quiet-after event Dte s.dte s.book n.quiet.dte is;
  kind = kind-after event Dte s.dte s.book is;
  typed = typed-own event s.dte s.book is n.quiet.dte n.typed;
}
leaves L event Dce s n is = record {
  same = same s.book (turn_of event Dce s.dce s.book).book (ends_after event Dce s.dce s.book);
  quiet = quiet-after event Dce s.dce s.book n.quiet.dce is;
  kind = kind-after event Dce s.dce s.book is;
  typed =
      (let u : IsUniform Dce (λ x. turn_of event Dce s.dce x) = uniform event Dce s.dce in
      subst (NodeHolds Dte s.dte) (sym (u.written s.book)) (typed-far s.dte u.writes s.book n.typed));
}
