-- Where the timer that is due on a line of a switch expires, fewer are due.
use Rattle.std.specs.Prelude.{◌≡◌, ℕ, ◌<◌, Bool, true, if◌then◌else◌, List, map, slice_get, Option, Some, None}
use Rattle.std.proofs.Common.{refl, sym, ap, subst, ◌∙◌, arith}
use Rattle.std.proofs.lemmas.Option.{none-some}
use Rattle.link_timers.specs.declared.timers.TimerId.{TimerId}
use Rattle.packet_end.specs.PacketEnd.{begun, due, runs_at}
use Rattle.node_laws.proofs.LineRecords.DueEnds.{IsFewer, due-expires}
use Rattle.user_nodes.specs.Node.{Host}
use Rattle.node_laws.specs.Quiet.{IsQuiet}
use Rattle.switch_lines.specs.Lines.{SwitchLine}
use Rattle.switch_lines.specs.Switch.{on_expiry, on_timer, timer_runs, with_end, without_notes, quieted, due_on}
use Rattle.switch_laws.specs.Steps.{does}
use Rattle.switch_laws.specs.Steps.Happening.{RunsOut}
use Rattle.switched_call_laws.specs.SwitchRecords.Kept.{all_frames_out}
use Rattle.switched_call_laws.specs.QuietSwitches.Quiet.{drained}
use Rattle.switched_call_laws.specs.SwitchRecords.DueTimers.{lines_due, all_due_on}
use Rattle.switched_call_laws.specs.QuietSwitches.Due.{SwitchFewerLaw}
use Rattle.switched_call_laws.proofs.QuietSwitches.Ends.{begun-stays, out-stays}
use Rattle.switched_call_laws.proofs.QuietSwitches.Lines.{lines-all, no-more, fewer-first}
use Rattle.switched_call_laws.proofs.QuietSwitches.Events.{happened, others-stay}

-- it runs, and fewer are due
record HappenedFewer (n : ℕ) (id : TimerId) (ls : List SwitchLine) (l : SwitchLine) : Type 0 where
  runs : runs_at l.end id ≡ true
  fewer : lines_due (happened n (RunsOut id) ls) < lines_due ls

happened-fewer : (n : ℕ) (id : TimerId) (ls : List SwitchLine) (l : SwitchLine) → slice_get ls n ≡ Some l → IsQuiet (Host l.end) → due l.end ≡ Some id
    → HappenedFewer n id ls l
happened-fewer n id ls l there q is =
    let f : IsFewer (quieted l.end) id = due-expires (quieted l.end) id is in
    record {
      runs = f.runs;
      fewer = fewer-first n (with_end without_notes) (with_end (λ e. does (RunsOut id) (quieted e))) (with_end begun) ls l there f.fewer (λ x. begun-stays x.end);
    }

pub fewer-due : SwitchFewerLaw
fewer-due n id s q is = by (slice_get s.lines n) refl is
  where
    then_fewer : lines_due (happened n (RunsOut id) s.lines) < all_due_on s → all_due_on (drained (on_expiry n id s)) < all_due_on s
    then_fewer h =
        let ms = (on_expiry n id s).lines in
        let others = no-more (happened n (RunsOut id) s.lines) ms (others-stay s.routes n (RunsOut id) s.lines) in
        let out = no-more ms (map all_frames_out ms) (lines-all all_frames_out ms (λ l. out-stays l.end)) in
        omega (arith, h, others, out)

    by : (o : Option SwitchLine) → slice_get s.lines n ≡ o → due_on o ≡ Some id → all_due_on (drained (on_timer n id s)) < all_due_on s
    by None there due_there = absurd (none-some id due_there)
    by (Some l) there due_there =
        let h = happened-fewer n id s.lines l there (q n l there) due_there in
        let ran : timer_runs (slice_get s.lines n) id ≡ true = ap (λ (o : Option SwitchLine). timer_runs o id) there ∙ h.runs in
        subst (λ (b : Bool). all_due_on (drained (if b then on_expiry n id s else s)) < all_due_on s) (sym ran) (then_fewer h.fewer)
