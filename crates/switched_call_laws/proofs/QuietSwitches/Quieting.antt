-- Each event leaves a quiet switch quiet.
use Rattle.std.specs.Prelude.{◌≡◌, ℕ, zero, suc, Bool, true, false, if◌then◌else◌, List, [], ◌∷◌, length, map, drop, slice_get, Option, Some, None}
use Rattle.std.proofs.Common.{refl, sym, ap, subst, ◌∙◌}
use Rattle.std.proofs.lemmas.Option.{none-some, same_Some}
use Rattle.link_timers.specs.declared.timers.TimerId.{TimerId}
use Rattle.lapb.specs.Machine.{Octets}
use Rattle.packet_end.specs.PacketEnd.{PacketEnd, elapsed, without_first_frame}
use Rattle.address_routes.specs.Routes.{RouteMap}
use Rattle.user_nodes.specs.Node.{Host}
use Rattle.node_laws.specs.Quiet.{IsQuiet}
use Rattle.node_laws.proofs.QuietTurns.{quiet-elapses}
use Rattle.switch_lines.specs.Lines.{SwitchLine, changed}
use Rattle.switch_lines.specs.Making.{made_line}
use Rattle.switch_lines.specs.Switch.{Switch, with_end, raised, to_relink, acted, all_begun, finished, timer_runs, on_expiry, without_joins}
use Rattle.switch_laws.specs.Steps.{Happening, does}
use Rattle.switch_laws.specs.Steps.Happening.{Brings, RunsOut, Relinks}
use Rattle.switch_laws.proofs.Relinking.{finished_end}
use Rattle.switched_call_laws.specs.SwitchRecords.Kept.{all_frames_out}
use Rattle.switched_call_laws.specs.QuietSwitches.Quiet.{AreQuiet, IsQuietSwitch, drained, all_gone_out, GoneOutLaw, FrameQuietLaw, TimerQuietLaw, RelinkQuietLaw, RestartQuietLaw, TimeQuietLaw, OutQuietLaw, MakingQuietLaw}
use Rattle.switched_call_laws.proofs.QuietSwitches.Ends.{IsRead, EndStays}
use Rattle.switched_call_laws.proofs.QuietSwitches.Lines.{LinesStay}
use Rattle.switched_call_laws.proofs.QuietSwitches.Events.{event-stays}

-- ---- an end whose frames went out

out-quiet : (l : SwitchLine) → IsRead l.end → l.end.layer.relink ≡ false → IsQuiet (Host (all_frames_out l).end)
out-quiet l h asks = record {
  node = record { read = h.notes; noted = refl; sent = refl };
  unread = h.unread;
  settled = asks;
}

stays-quiet : (l m : SwitchLine) → IsQuiet (Host l.end) → EndStays l.end m.end → m.end.layer.relink ≡ false → IsQuiet (Host (all_frames_out m).end)
stays-quiet l m q h asks =
    out-quiet m (h.read (record { notes = q.node.read; unread = q.unread })) asks

-- ---- lines

none-raised : (b : Bool) (o : Option ℕ) → (if b then Some 0 else raised o) ≡ None → (b ≡ false) × (o ≡ None)
none-raised true o e = absurd (none-some 0 (sym e))
none-raised false None e = (refl, refl)
none-raised false (Some n) e = absurd (none-some (suc n) (sym e))

lines-quiet : (ls ms : List SwitchLine) → LinesStay ls ms → to_relink ms ≡ None → AreQuiet ls → AreQuiet (map all_frames_out ms)
lines-quiet [] [] h asks q n x e = absurd (none-some x e)
lines-quiet [] (m ∷ ms) h asks q n x e = absurd h
lines-quiet (l ∷ ls) [] h asks q n x e = absurd h
lines-quiet (l ∷ ls) (m ∷ ms) h asks q zero x e =
    subst (λ (y : SwitchLine). IsQuiet (Host y.end)) (same_Some (all_frames_out m) x e)
    (stays-quiet l m (q 0 l refl) h.0 (none-raised m.end.layer.relink (to_relink ms) asks).0)
lines-quiet (l ∷ ls) (m ∷ ms) h asks q (suc n) x e =
    lines-quiet ls ms h.1 (none-raised m.end.layer.relink (to_relink ms) asks).1 (λ k y f. q (suc k) y f) n x e

event-quiet : (routes : RouteMap) (n : ℕ) (what : Happening) (ls : List SwitchLine) → AreQuiet ls
    → AreQuiet (map all_frames_out (finished routes n (acted routes n (does what) (all_begun ls))))
event-quiet routes n what ls q =
    let ms = acted routes n (does what) (all_begun ls) in
    lines-quiet ls (finished routes n ms) (event-stays routes n what ls) (finished_end routes n ms) q

pub frame-quiet : FrameQuietLaw
frame-quiet n octets s q = event-quiet s.routes n (Brings octets) s.lines q

pub relink-quiet : RelinkQuietLaw
relink-quiet n s q = event-quiet s.routes n Relinks s.lines q

abbrev KeepsQuiet : (SwitchLine → SwitchLine) → Type 0
KeepsQuiet f = (l : SwitchLine) → IsQuiet (Host l.end) → IsQuiet (Host (f l).end)

all-keep : (f : SwitchLine → SwitchLine) (ls : List SwitchLine) → KeepsQuiet f → AreQuiet ls → AreQuiet (map f ls)
all-keep f [] h q n x e = absurd (none-some x e)
all-keep f (l ∷ ls) h q zero x e = subst (λ (y : SwitchLine). IsQuiet (Host y.end)) (same_Some (f l) x e) (h l (q 0 l refl))
all-keep f (l ∷ ls) h q (suc n) x e = all-keep f ls h (λ k y g. q (suc k) y g) n x e

out-keep : KeepsQuiet all_frames_out
out-keep l h = out-quiet l (record { notes = h.node.read; unread = h.unread }) h.settled

either-quiet : (n : ℕ) (id : TimerId) (s : Switch) → IsQuietSwitch s → (ran : Bool) → IsQuietSwitch (drained (if ran then on_expiry n id s else s))
either-quiet n id s q true = event-quiet s.routes n (RunsOut id) s.lines q
either-quiet n id s q false = all-keep all_frames_out s.lines out-keep q

pub timer-quiet : TimerQuietLaw
timer-quiet n id s q = either-quiet n id s q (timer_runs (slice_get s.lines n) id)

-- ---- lines that are new or restart

all-quiet : {X : Type 0} (f : X → SwitchLine) (xs : List X) → ((x : X) → IsQuiet (Host (all_frames_out (f x)).end)) → AreQuiet (map all_frames_out (map f xs))
all-quiet f [] h n x e = absurd (none-some x e)
all-quiet f (y ∷ ys) h zero x e = subst (λ (l : SwitchLine). IsQuiet (Host l.end)) (same_Some (all_frames_out (f y)) x e) (h y)
all-quiet f (y ∷ ys) h (suc n) x e = all-quiet f ys h n x e

pub restart-quiet : RestartQuietLaw
restart-quiet s = all-quiet without_joins s.lines (λ l. out-quiet (without_joins l) (record { notes = refl; unread = refl }) refl)

pub made-quiet : MakingQuietLaw
made-quiet routes lines = all-quiet made_line lines (λ c. out-quiet (made_line c) (record { notes = refl; unread = refl }) refl)

-- ---- time, and a frame that is taken

one-keeps : (k : ℕ) (f : SwitchLine → SwitchLine) (ls : List SwitchLine) → KeepsQuiet f → AreQuiet ls → AreQuiet (changed k f ls)
one-keeps k f [] h q n x e = absurd (none-some x e)
one-keeps zero f (l ∷ ls) h q zero x e = subst (λ (y : SwitchLine). IsQuiet (Host y.end)) (same_Some (f l) x e) (h l (q 0 l refl))
one-keeps zero f (l ∷ ls) h q (suc n) x e = q (suc n) x e
one-keeps (suc k) f (l ∷ ls) h q zero x e = q zero x e
one-keeps (suc k) f (l ∷ ls) h q (suc n) x e = one-keeps k f ls h (λ i y g. q (suc i) y g) n x e

pub time-quiet : TimeQuietLaw
time-quiet ticks s q = all-keep (with_end (λ e. elapsed e ticks)) s.lines (λ l h. quiet-elapses (Host l.end) ticks h) q

first-out : (e : PacketEnd) → IsQuiet (Host e) → IsQuiet (Host (without_first_frame e))
first-out e q =
    record {
      node = record { read = q.node.read; noted = refl; sent = ap (λ (frames : List Octets). drop 1 frames) q.node.sent };
      unread = q.unread;
      settled = q.settled;
    }

pub out-keeps : OutQuietLaw
out-keeps n s q = one-keeps n (with_end without_first_frame) s.lines (λ l h. first-out l.end h) q

-- ---- the frames of one line after the other

behind : (count n : ℕ) (routes : RouteMap) (l : SwitchLine) (ls : List SwitchLine)
    → all_gone_out count (suc n) (record { routes = routes; lines = l ∷ ls })
    ≡ record { routes = routes; lines = l ∷ (all_gone_out count n (record { routes = routes; lines = ls })).lines }
behind zero n routes l ls = refl
behind (suc count) n routes l ls = behind count (suc n) routes l (changed n all_frames_out ls)

gone-all : (routes : RouteMap) (ls : List SwitchLine) → all_gone_out (length ls) 0 (record { routes = routes; lines = ls }) ≡ record { routes = routes; lines = map all_frames_out ls }
gone-all routes [] = refl
gone-all routes (l ∷ ls) =
    behind (length ls) 0 routes (all_frames_out l) ls
    ∙ ap (λ (s : Switch). record { routes = routes; lines = all_frames_out l ∷ s.lines }) (gone-all routes ls)

pub gone-out : GoneOutLaw
gone-out s = gone-all s.routes s.lines
