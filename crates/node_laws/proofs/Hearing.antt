-- What comes to a node from its line, and what happens at a terminal of a PAD.
use Rattle.std.specs.Prelude.{◌≡◌, ℕ, Bool, true, false, cond, List, [], if◌then◌else◌}
use Rattle.std.proofs.Common.{refl, sym, ap, subst, ◌∙◌}
use Rattle.link_timers.specs.declared.role.Role.{Role}
use Rattle.link_timers.specs.declared.role.Role.TheVariants.{Dte, Dce}
use Rattle.link_timers.specs.Role.{other_of}
use Rattle.packet_end.specs.PacketEnd as end
use Rattle.packet_end.specs.PacketEnd.{PacketEnd, begun, after_timer, finished, runs_at}
use Rattle.node_laws.specs.Lines.NodeLine.{Line}
use Rattle.node_laws.proofs.Lines.Finishing.{none_waits}
use Rattle.packet_host.specs.Host as host
use Rattle.x25_pad.specs.Pad as pad
use Rattle.x25_pad.specs.Pad.{PadState}
use Rattle.node_laws.specs.Pads.Standing as standing
use Rattle.node_laws.proofs.Pads.Events as pad_law
use Rattle.call_records.specs.Book.{Book}
use Rattle.node_laws.specs.LineRecords.Kept.{Setting, Kept, end_at, coming_to}
use Rattle.node_laws.specs.LineRecords.Happens.{sent, with_restart}
use Rattle.node_laws.proofs.LineRecords.WholeEvents.{frame_kept, expiry_kept, relink_kept, restarted_kept}
use Rattle.user_nodes.specs.Node.{NodeState, Pad, Host, end_of, drained}
use Rattle.user_nodes.specs.Turn.{unchanged, told}
use Rattle.user_nodes.specs.Terminals.{after_terminal}
use Rattle.user_nodes.specs.LineTurns.{hears, relinks}
use Rattle.user_nodes.specs.NodeEvents.{restarted}
use Rattle.user_nodes.specs.declared.terminal.TerminalEvent.{TerminalEvent}
use Rattle.user_nodes.specs.declared.terminal.TerminalEvent.TheVariants.{Key, Break, Idle, Print, Leaves, Arrives}
use Rattle.node_laws.specs.Nodes.{IsNode, StandsAt, KeepsWith, KeepsBy}
use Rattle.node_laws.specs.NodeClauses.{HearsLaw, ExpiresLaw, RelinksLaw, RestartsLaw, TerminalsLaw}
use Rattle.node_laws.proofs.Turning.{told_keeps, unchanged_keeps, pad_stands, noted_keeps}

-- ---- the laws

pub hears_keeps : HearsLaw
hears_keeps s b l role (Host e) octets coming kept is h k =
    subst (λ (x : PacketEnd). KeepsWith s role l kept coming (hears role (Host x) octets b)) (sym h.end)
    (told_keeps s b role (host.after_frame (end_at role l) octets) l kept coming (frame_kept s b l role octets coming kept is k))
hears_keeps s b l role (Pad p) octets coming kept is h k =
    noted_keeps s b role l kept coming (pad.after_frame p octets) (pad_law.frame_keeps s b l role p octets coming kept is (pad_stands role l p h) k)

pub expires_keeps : ExpiresLaw
expires_keeps s b l role (Host e) id kept h k = by (runs_at e id)
  where
    by : (v : Bool) → KeepsBy s role l kept (cond v (told role (Host (cond v (finished (after_timer (begun e) id)) e)) b) (unchanged (Host e) b))
    by true =
        subst (λ (x : PacketEnd). KeepsBy s role l kept (told role (Host (finished (after_timer (begun x) id))) b)) (sym h.end)
        (told_keeps s b role (finished (after_timer (begun (end_at role l)) id)) l kept (coming_to role l) (expiry_kept s b l role id kept k))
    by false = unchanged_keeps s b role (Host e) l kept h k
expires_keeps s b l role (Pad p) id kept h k = by (pad.runs_at p id)
  where
    by : (v : Bool) → KeepsBy s role l kept (if v then told role (Pad (pad.after_timer p id)) b else unchanged (Pad p) b)
    by true = noted_keeps s b role l kept (coming_to role l) (pad.after_timer p id) (pad_law.timer_keeps s b l role p id kept (pad_stands role l p h) k)
    by false = unchanged_keeps s b role (Pad p) l kept h k

pub relinks_keeps : RelinksLaw
relinks_keeps s b l role (Host e) kept h k =
    subst (λ (x : PacketEnd). KeepsBy s role l kept (relinks role (Host x) b)) (sym h.end)
    (told_keeps s b role (host.after_relink (end_at role l)) l kept (coming_to role l) (relink_kept s b l role kept k))
relinks_keeps s b l role (Pad p) kept h k =
    noted_keeps s b role l kept (coming_to role l) (pad.after_relink p) (pad_law.relink_keeps s b l role p kept (pad_stands role l p h) k)

-- ---- a terminal

after_keeps : (s : Setting) (b : Book) (l : Line) (role : Role) (p : PadState) (terminal : ℕ) (event : TerminalEvent) (kept : List Bool)
    → standing.StandsAt role l p → Kept s b l → standing.KeepsBy s b role l kept (after_terminal terminal event p)
after_keeps s b l role p terminal (Key octet) kept h k = pad_law.key_keeps s b l role p terminal octet kept h k
after_keeps s b l role p terminal Break kept h k = pad_law.break_keeps s b l role p terminal kept h k
after_keeps s b l role p terminal Idle kept h k = pad_law.idle_keeps s b l role p terminal kept h k
after_keeps s b l role p terminal Print kept h k = pad_law.print_keeps s b l role p terminal kept h k
after_keeps s b l role p terminal Leaves kept h k = pad_law.leaving_keeps s b l role p terminal kept h k
after_keeps s b l role p terminal Arrives kept h k = pad_law.arrival_keeps s b l role p terminal kept h k

pub terminals_keep : TerminalsLaw
terminals_keep s b l role (Pad p) terminal event kept h k =
    noted_keeps s b role l kept (coming_to role l) (after_terminal terminal event p) (after_keeps s b l role p terminal event kept (pad_stands role l p h) k)
terminals_keep s b l role (Host e) terminal event kept h k = unchanged_keeps s b role (Host e) l kept h k

-- ---- a restart

restarted_there : (role : Role) (n : NodeState) (l : Line) (kept : List Bool) → IsNode (drained (restarted n)) → end_of (drained (restarted n)) ≡ sent (end.restarted (end_at role l)) →
    StandsAt role (with_restart role kept l) (drained (restarted n))
restarted_there Dte n l kept h is = record { end = is; node = h }
restarted_there Dce n l kept h is = record { end = is; node = h }

other_there : (role : Role) (n : NodeState) (l : Line) (kept : List Bool) → StandsAt (other_of role) l n → StandsAt (other_of role) (with_restart role kept l) n
other_there Dte n l kept h = record { end = h.end ∙ sym (none_waits l.dce (subst (λ (e : PacketEnd). e.line.frames ≡ []) h.end h.node.sent)); node = h.node }
other_there Dce n l kept h = record { end = h.end ∙ sym (none_waits l.dte (subst (λ (e : PacketEnd). e.line.frames ≡ []) h.end h.node.sent)); node = h.node }

restarted_node : (n : NodeState) → IsNode (drained (restarted n))
restarted_node (Pad p) = record { read = refl; noted = refl; sent = refl }
restarted_node (Host e) = record { read = refl; noted = refl; sent = refl }

restarted_end : (n : NodeState) (e : PacketEnd) → end_of n ≡ e → end_of (drained (restarted n)) ≡ sent (end.restarted e)
restarted_end (Pad p) e is = ap (λ (x : PacketEnd). sent (end.restarted x)) is
restarted_end (Host x) e is = ap (λ (x : PacketEnd). sent (end.restarted x)) is

pub restarts_keeps : RestartsLaw
restarts_keeps s b l role n kept h k = record {
  kept = restarted_kept s b l role kept k;
  here = restarted_there role n l kept (restarted_node n) (restarted_end n (end_at role l) h.end);
  there = λ m g. other_there role m l kept g;
}
