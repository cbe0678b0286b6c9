-- Over a whole event of a switch the ends of its lines stay read, and no more timers are due.
use Rattle.std.specs.Prelude.{ℕ, List, [], ◌∷◌, ◌++◌, slice_get}
use Rattle.std.proofs.Common.{subst}
use Rattle.packet_end.specs.PacketEnd.{begun, all_offered, settled, asked, called}
use Rattle.address_routes.specs.Routes.{RouteMap}
use Rattle.switch_lines.specs.Lines.{SwitchLine, changed, with_nth_joined}
use Rattle.switch_lines.specs.Switch.{notes_of, with_end, quieted, without_notes, acted, all_begun, finished}
use Rattle.switch_laws.specs.Steps.{Happening, does, Step, lines_after, lines_after_all}
use Rattle.switch_laws.specs.Steps.Happening.{Brings, RunsOut, Relinks}
use Rattle.switch_laws.specs.Steps.Step.{Asks, Places, Keeps, Happens, Offers, Begins, Settles, Elapses}
use Rattle.switch_laws.specs.EventSteps.{heed_all_steps, finished_steps}
use Rattle.switch_laws.proofs.Leading.{event_leads}
use Rattle.switched_call_laws.proofs.QuietSwitches.Ends.{end-same, begun-stays, asked-stays, called-stays, relinked-stays, happens-stays, offered-stays, settled-stays}
use Rattle.switched_call_laws.proofs.QuietSwitches.Lines.{LinesStay, lines-same, lines-then, lines-all, lines-one, lines-twice, lines-first}
use Rattle.switched_call_laws.proofs.QuietSwitches.Later.{IsLater, AreLater, later-then, heeds-later, finished-later}

step-stays : (s : Step) (ls : List SwitchLine) → IsLater s → LinesStay ls (lines_after s ls)
step-stays (Asks p q) ls h = lines-one p.line (λ l. record l { end = asked l.end p.channel q }) ls (λ l. asked-stays l.end p.channel q)
step-stays (Places n parts) ls h = lines-one n (λ l. record l { end = called l.end parts }) ls (λ l. called-stays l.end parts)
step-stays (Keeps p o) ls h = lines-one p.line (λ l. record l { joined = with_nth_joined l.joined p.channel o }) ls (λ l. end-same l.end)
step-stays (Happens n (Brings octets)) ls h = absurd h
step-stays (Happens n (RunsOut id)) ls h = absurd h
step-stays (Happens n Relinks) ls h = lines-twice n (with_end without_notes) (with_end (λ e. does Relinks (quieted e))) ls (λ l. relinked-stays l.end)
step-stays (Offers n) ls h = lines-one n (with_end all_offered) ls (λ l. offered-stays l.end)
step-stays Begins ls h = lines-all (with_end begun) ls (λ l. begun-stays l.end)
step-stays Settles ls h = lines-all (with_end settled) ls (λ l. settled-stays l.end)
step-stays (Elapses ticks) ls h = absurd h

steps-stay : (steps : List Step) (ls : List SwitchLine) → AreLater steps → LinesStay ls (lines_after_all steps ls)
steps-stay [] ls h = lines-same ls
steps-stay (s ∷ more) ls h = lines-then ls (lines_after s ls) (lines_after_all more (lines_after s ls)) (step-stays s ls h.0) (steps-stay more (lines_after s ls) h.1)

-- ---- the first two steps of an event, and the others

abbrev pub happened : (line : ℕ) → Happening → List SwitchLine → List SwitchLine
happened n what ls = lines_after (Happens n what) (all_begun ls)

pub happened-stays : (n : ℕ) (what : Happening) (ls : List SwitchLine) → LinesStay ls (happened n what ls)
happened-stays n what ls =
    lines-first n (with_end without_notes) (with_end (λ e. does what (quieted e))) (with_end begun) ls (λ l. happens-stays what l.end) (λ l. begun-stays l.end)

abbrev after : RouteMap → (line : ℕ) → Happening → List SwitchLine → List SwitchLine
after routes n what ls = finished routes n (acted routes n (does what) (all_begun ls))

pub others-stay : (routes : RouteMap) (n : ℕ) (what : Happening) (ls : List SwitchLine) → LinesStay (happened n what ls) (after routes n what ls)
others-stay routes n what ls =
    subst (λ (ms : List SwitchLine). LinesStay (happened n what ls) ms) (event_leads routes n what ls)
    (steps-stay (heeds ++ ends) (happened n what ls) (later-then heeds ends (heeds-later routes n _ (happened n what ls)) (finished-later routes n (acted routes n (does what) (all_begun ls)))))
  where
    heeds : List Step
    heeds = heed_all_steps routes n (notes_of (slice_get (changed n (with_end (λ e. does what (quieted e))) (all_begun ls)) n)) (happened n what ls)

    ends : List Step
    ends = finished_steps routes n (acted routes n (does what) (all_begun ls))

pub event-stays : (routes : RouteMap) (n : ℕ) (what : Happening) (ls : List SwitchLine) → LinesStay ls (after routes n what ls)
event-stays routes n what ls = lines-then ls (happened n what ls) (after routes n what ls) (happened-stays n what ls) (others-stay routes n what ls)
