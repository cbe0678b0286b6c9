-- Where the timer that is due at a node expires, fewer are due after its turn.
use Rattle.std.specs.Prelude.{◌≡◌, ◌<◌, Bool, true, false, cond, Some, if◌then◌else◌}
use Rattle.std.proofs.Common.{arith, refl, subst}
use Rattle.link_timers.specs.declared.role.Role.{Role}
use Rattle.link_timers.specs.declared.timers.TimerId.{TimerId}
use Rattle.packet_end.specs.PacketEnd.{PacketEnd, begun, runs_at, after_timer, finished}
use Rattle.x25_pad.specs.Pad as pad
use Rattle.x25_pad.specs.Pad.{PadState}
use Rattle.node_laws.proofs.Pads.Expiring as pad_law
use Rattle.call_records.specs.Book.{Book}
use Rattle.user_nodes.specs.Node.{NodeState, Pad, Host, drained, node_due}
use Rattle.user_nodes.specs.Turn.{unchanged, told}
use Rattle.user_nodes.specs.LineTurns.{expires}
use Rattle.user_nodes.proofs.Noted.{timer_stays}
use Rattle.node_laws.specs.Due.{due_count}
use Rattle.node_laws.specs.Quiet.{IsQuiet}
use Rattle.node_laws.proofs.LineRecords.DueEnds.{no-more-due, finished-due, IsFewer, due-expires}

host-expires : (role : Role) (e : PacketEnd) (id : TimerId) (b : Book) → IsFewer e id
    → due_count (drained (expires role (Host e) id b).node) < due_count (Host e)
host-expires role e id b f = by (runs_at e id) f.runs
  where
    y : PacketEnd
    y = after_timer (begun e) id

    by : (v : Bool) → v ≡ true → due_count (drained (cond v (told role (Host (cond v (finished y) e)) b) (unchanged (Host e) b)).node) < due_count (Host e)
    by true h =
        let some = f.fewer in
        let none = no-more-due y (finished y) (finished-due y) in
        omega (arith, some, none)
    by false h = absurd (cc)

-- at a PAD that has fewer due then the timer runs, since else nothing happens
pad-expires : (role : Role) (p : PadState) (id : TimerId) (b : Book) → due_count (Pad (pad.after_timer p id)) < due_count (Pad p)
    → due_count (drained (expires role (Pad p) id b).node) < due_count (Pad p)
pad-expires role p id b fewer = by (pad.runs_at p id) refl
  where
    by : (v : Bool) → pad.runs_at p id ≡ v → due_count (drained (if v then told role (Pad (pad.after_timer p id)) b else unchanged (Pad p) b).node) < due_count (Pad p)
    by true h = fewer
    by false h =
        let never : due_count (Pad p) < due_count (Pad p) = subst (λ (q : PadState). due_count (Pad q) < due_count (Pad p)) (timer_stays p id h) fewer in
        absurd (omega (arith, never))

pub fewer-due : (role : Role) (n : NodeState) (id : TimerId) (b : Book) → IsQuiet n → node_due n ≡ Some id
    → due_count (drained (expires role n id b).node) < due_count n
fewer-due role (Pad p) id b q is = pad-expires role p id b (pad_law.expires p id is)
fewer-due role (Host e) id b q is = host-expires role e id b (due-expires e id is)
