-- What always holds of a switch holds after each event, in which its own joins alone are relayed.
use Rattle.std.proofs.Common.{◌≡◌, ℕ, suc, map, List, [], ◌∷◌, ap, subst, sym, refl, inl, ◌∙◌}
use Rattle.std.proofs.lemmas.Option.{same_Some}
use Rattle.std.specs.Prelude.{Bool, true, false, if◌then◌else◌, slice_get, zero}
use Rattle.link_timers.specs.declared.timers.TimerId.{TimerId}
use Rattle.packet_end.specs.PacketEnd.{PacketEnd, received, after_timer, relinked, KeepsNothingBack}
use Rattle.packet_end.proofs.Restarting.{restart_keeps}
use Rattle.address_routes.specs.Routes.{RouteMap}
use Rattle.switch_lines.specs.Lines.{SwitchLine}
use Rattle.switch_lines.specs.Switch.{Switch, acted, all_begun, on_frame, timer_runs, on_expiry, on_timer, relink, restart, without_joins}
use Rattle.switch_lines.specs.Alone.{finished_alone}
use Rattle.switch_laws.specs.World.{World}
use Rattle.switch_laws.specs.Events.{Event, after_event, SwitchHolds, GoesOn, KeepsLegs}
use Rattle.switch_laws.specs.Events.Event.{Arrives, Expires, SetsUp}
use Rattle.switch_laws.specs.Isolated.{LeavesOthers}
use Rattle.switch_laws.specs.Joined.{HasRelayedAll}
use Rattle.switch_laws.specs.Offers.{EndsKeepNothingBack}
use Rattle.switch_laws.specs.Pairs.{JoinsByRoute, JoinsNone, noted_in}
use Rattle.switch_laws.specs.Sent.{AreAllSent}
use Rattle.switch_laws.specs.Steps.Happening.{Brings, RunsOut, Relinks}
use Rattle.switch_laws.proofs.SwitchAfterEvents.{events_hold}
use Rattle.switch_laws.proofs.Alone.{concerns_hold}
use Rattle.switch_laws.proofs.Pairing.{pairs_hold}
use Rattle.switch_laws.proofs.Untouched.{others_are_left}
use Rattle.switch_laws.proofs.Framing.{all_are_sent}

-- there are legs with which it holds
pub record Holds (s : Switch) : Type 0 where
  pub legs : World
  pub holds : SwitchHolds s legs

pub holds_after : (event : Event) (s t : Switch) (w : World) → SwitchHolds s w → t ≡ after_event event s → Holds t
holds_after event s t w h e =
    let a = events_hold.stays event s w h in
    subst (λ (x : Switch). Holds x) (sym e) (record { legs = a.world; holds = a.holds })

-- ---- what is promised of an event, whatever legs there are

pub goes_on : (event : Event) (s t : Switch) → t ≡ after_event event s → KeepsLegs event s t
goes_on event s t e w h =
    let a = events_hold.stays event s w h in
    subst (λ (x : Switch). GoesOn event s w x) (sym e) (record { world = a.world; moved = a.moved; holds = a.holds })

-- after a restart no link is up
map_keeps : (ls : List SwitchLine) → EndsKeepNothingBack (map without_joins ls)
map_keeps [] n l at = absurd (cc)
map_keeps (x ∷ ls) zero l at = subst (λ (y : SwitchLine). KeepsNothingBack y.end) (same_Some (without_joins x) l at) (restart_keeps x.end)
map_keeps (x ∷ ls) (suc n) l at = map_keeps ls n l at

pub restart_kept : (s t : Switch) → t ≡ restart s → EndsKeepNothingBack t.lines
restart_kept s t e = subst (λ (x : Switch). EndsKeepNothingBack x.lines) (sym e) (map_keeps s.lines)

pub record FrameKept (n : ℕ) (xs : List ℕ) (s t : Switch) : Type 0 where
  pub others : LeavesOthers n (Brings xs) s t
  pub relayed : HasRelayedAll t.lines
  pub nothing_kept_back : EndsKeepNothingBack t.lines
  pub routes : JoinsByRoute s.routes n (noted_in n (λ e. received e xs) s) s.lines t.lines
  pub legs : KeepsLegs (Arrives n xs) s t
  pub frames : AreAllSent n (Brings xs) s t

pub frame_kept : (n : ℕ) (xs : List ℕ) (s t v : Switch) (w : World) → SwitchHolds s w → t ≡ on_frame n xs s → s ≡ v → FrameKept n xs v t
frame_kept n xs s t v w h e old =
    let a = events_hold.stays (Arrives n xs) s w h in
    let k : FrameKept n xs s (on_frame n xs s) = record {
      others = others_are_left.frame n xs s w h;
      relayed = a.holds.relayed;
      nothing_kept_back = a.nothing_kept_back;
      routes = pairs_hold.frame_joins n xs s;
      legs = goes_on (Arrives n xs) s (on_frame n xs s) refl;
      frames = all_are_sent.frame n xs s w h;
    } in
    subst (λ (x : Switch). FrameKept n xs x t) old (subst (λ (x : Switch). FrameKept n xs s x) (sym e) k)

pub record TimerKept (n : ℕ) (id : TimerId) (s t : Switch) : Type 0 where
  pub others : LeavesOthers n (RunsOut id) s t
  pub relayed : HasRelayedAll t.lines
  pub nothing_kept_back : timer_runs (slice_get s.lines n) id ≡ true → EndsKeepNothingBack t.lines
  pub routes : JoinsByRoute s.routes n (noted_in n (λ e. after_timer e id) s) s.lines t.lines
  pub legs : KeepsLegs (Expires n id) s t
  pub frames : timer_runs (slice_get s.lines n) id ≡ true → AreAllSent n (RunsOut id) s t

either_routes : (n : ℕ) (id : TimerId) (s : Switch) (ran : Bool) → JoinsByRoute s.routes n (noted_in n (λ e. after_timer e id) s) s.lines (if ran then on_expiry n id s else s).lines
either_routes n id s true = pairs_hold.timer_joins n id s
either_routes n id s false = λ p j e. inl (record { old = j; joined = e; other = refl; came_in = refl })

pub timer_kept : (n : ℕ) (id : TimerId) (s t v : Switch) (w : World) → SwitchHolds s w → t ≡ on_timer n id s → s ≡ v → TimerKept n id v t
timer_kept n id s t v w h e old =
    let a = events_hold.stays (Expires n id) s w h in
    let k : TimerKept n id s (on_timer n id s) = record {
      others = others_are_left.timer n id s w h;
      relayed = a.holds.relayed;
      nothing_kept_back = a.nothing_kept_back;
      routes = either_routes n id s (timer_runs (slice_get s.lines n) id);
      legs = goes_on (Expires n id) s (on_timer n id s) refl;
      frames = λ ran. all_are_sent.timer n id s w h ran;
    } in
    subst (λ (x : Switch). TimerKept n id x t) old (subst (λ (x : Switch). TimerKept n id s x) (sym e) k)

pub record RelinkKept (n : ℕ) (s t : Switch) : Type 0 where
  pub others : LeavesOthers n Relinks s t
  pub relayed : HasRelayedAll t.lines
  pub nothing_kept_back : EndsKeepNothingBack t.lines
  pub routes : JoinsNone s.lines t.lines
  pub legs : KeepsLegs (SetsUp n) s t
  pub frames : AreAllSent n Relinks s t

pub relink_kept : (n : ℕ) (s t v : Switch) (w : World) → SwitchHolds s w → t ≡ relink n s → s ≡ v → RelinkKept n v t
relink_kept n s t v w h e old =
    let a = events_hold.stays (SetsUp n) s w h in
    let k : RelinkKept n s (relink n s) = record {
      others = others_are_left.relinks n s w h;
      relayed = a.holds.relayed;
      nothing_kept_back = a.nothing_kept_back;
      routes = pairs_hold.relink_joins_none n s;
      legs = goes_on (SetsUp n) s (relink n s) refl;
      frames = all_are_sent.relinks n s w h;
    } in
    subst (λ (x : Switch). RelinkKept n x t) old (subst (λ (x : Switch). RelinkKept n s x) (sym e) k)

-- ---- an event, call by call

abbrev pub of_lines : RouteMap → List SwitchLine → Switch
of_lines routes ls = record { routes = routes; lines = ls }

abbrev pub Acts : Type 0
Acts = PacketEnd → PacketEnd

-- the lines after each of its three calls
three_calls : (n : ℕ) (f : Acts) (routes : RouteMap) (ls bs rs fs : List SwitchLine) → bs ≡ all_begun ls → rs ≡ acted routes n f bs → fs ≡ finished_alone routes n rs
    → of_lines routes fs ≡ of_lines routes (finished_alone routes n (acted routes n f (all_begun ls)))
three_calls n f routes ls bs rs fs begins acts ends =
    ap (λ (xs : List SwitchLine). of_lines routes xs) (ends ∙ ap (λ (xs : List SwitchLine). finished_alone routes n xs) (acts ∙ ap (λ (xs : List SwitchLine). acted routes n f xs) begins))

pub frame_is : (n : ℕ) (xs : List ℕ) (routes : RouteMap) (ls bs rs fs : List SwitchLine) (w : World) → SwitchHolds (of_lines routes ls) w
    → bs ≡ all_begun ls → rs ≡ acted routes n (λ e. received e xs) bs → fs ≡ finished_alone routes n rs → of_lines routes fs ≡ on_frame n xs (of_lines routes ls)
frame_is n xs routes ls bs rs fs w h begins acts ends =
    three_calls n (λ e. received e xs) routes ls bs rs fs begins acts ends ∙ concerns_hold.frame_alone n xs (of_lines routes ls) w h.joins h.relayed

pub timer_is : (n : ℕ) (id : TimerId) (routes : RouteMap) (ls bs rs fs : List SwitchLine) (w : World) → timer_runs (slice_get ls n) id ≡ true → SwitchHolds (of_lines routes ls) w
    → bs ≡ all_begun ls → rs ≡ acted routes n (λ e. after_timer e id) bs → fs ≡ finished_alone routes n rs → of_lines routes fs ≡ on_timer n id (of_lines routes ls)
timer_is n id routes ls bs rs fs w ran h begins acts ends =
    three_calls n (λ e. after_timer e id) routes ls bs rs fs begins acts ends ∙ (concerns_hold.timer_alone n id (of_lines routes ls) w h.joins h.relayed
    ∙ ap (λ (b : Bool). if b then on_expiry n id (of_lines routes ls) else of_lines routes ls) (sym ran))

pub relink_is : (n : ℕ) (routes : RouteMap) (ls bs rs fs : List SwitchLine) (w : World) → SwitchHolds (of_lines routes ls) w
    → bs ≡ all_begun ls → rs ≡ acted routes n relinked bs → fs ≡ finished_alone routes n rs → of_lines routes fs ≡ relink n (of_lines routes ls)
relink_is n routes ls bs rs fs w h begins acts ends =
    three_calls n relinked routes ls bs rs fs begins acts ends ∙ concerns_hold.relinks_alone n (of_lines routes ls) w h.joins h.relayed
