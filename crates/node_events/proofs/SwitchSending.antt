-- The loop by which the frames of an own line of a switch are put, and how many lines a switch has.
use Rattle.std.proofs.Common.{◌≡◌, ℕ, ◌<◌, zero, suc, arith, length, List, [], ◌∷◌, ◌++◌, drop, map, Some, refl, sym, ap, ◌∙◌, subst, append_assoc}
use Rattle.std.specs.Prelude.{Bool, true, false, if◌then◌else◌, slice_get}
use Rattle.std.proofs.lemmas.List.{append-nil, length-map}
use Rattle.lapb.specs.Machine.{Octets}
use Rattle.packet_end.specs.PacketEnd.{PacketEnd, without_first_frame}
use Rattle.frame_lines.specs.declared.line.Direction.{Direction}
use Rattle.frame_lines.specs.Lines.{Flights, IsPut, LineService, ArePut}
use Rattle.switch_lines.specs.Lines.{SwitchLine, changed}
use Rattle.switch_lines.specs.Switch.{Switch, frames_on, timer_runs, on_expiry, with_end, quieted, without_frame, without_joins}
use Rattle.switch_lines.proofs.Places.{fused}
use Rattle.switch_laws.specs.Steps.{Happening, does, Step, lines_after, lines_after_all}
use Rattle.switch_laws.specs.Steps.Happening.{Brings, RunsOut, Relinks}
use Rattle.switch_laws.specs.Steps.Step.{Asks, Places, Keeps, Happens, Offers, Begins, Settles, Elapses}
use Rattle.switch_laws.specs.EventSteps.{event_steps}
use Rattle.switch_laws.proofs.Leading.{event_leads}
use Rattle.net_events.specs.AtSwitch as at_switch
use Rattle.net_events.specs.AtSwitch.{SwitchEvent, Hears, Expires, Restarts, switched, waiting_on, line_drained}
use Rattle.net_events.specs.declared.answer.Put.{Put}
use Rattle.node_events.specs.Switching.{puts_on}
use Rattle.node_events.proofs.Sending.{put-more}

-- ---- one line of a list changes

pub length_changed : {X : Type 0} (n : ℕ) (f : X → X) (xs : List X) → length (changed n f xs) ≡ length xs
length_changed n f [] = refl
length_changed zero f (x ∷ xs) = refl
length_changed (suc n) f (x ∷ xs) = ap suc (length_changed n f xs)

got_changed : {X : Type 0} (n : ℕ) (f : X → X) (xs : List X) (x : X) → slice_get xs n ≡ Some x → slice_get (changed n f xs) n ≡ Some (f x)
got_changed n f [] x e = absurd (cc)
got_changed zero f (y ∷ xs) x e = ap (λ o. Rattle.std.specs.Prelude.option_map f o) e
got_changed (suc n) f (y ∷ xs) x e = got_changed n f xs x e

there : {X : Type 0} (xs : List X) (n : ℕ) → n < length xs → (x : X) × (slice_get xs n ≡ Some x)
there [] n h = absurd (omega (arith, h))
there (x ∷ xs) zero h = (x, refl)
there (x ∷ xs) (suc n) h = there xs n (omega (arith, h))

-- ---- the frames of an own line

-- a line with these frames left
abbrev pub with_frames : List Octets → SwitchLine → SwitchLine
with_frames fs l = with_end (λ e. record e { line = record e.line { frames = fs } }) l

abbrev pub left_on : (own : ℕ) → List Octets → Switch → Switch
left_on own fs s = record s { lines = changed own (with_frames fs) s.lines }

waiting_left : (own : ℕ) (fs : List Octets) (s : Switch) → own < length s.lines → waiting_on own (left_on own fs s) ≡ fs
waiting_left own fs s h =
    let l = there s.lines own h in
    ap frames_on (got_changed own (with_frames fs) s.lines l.0 l.1)

same_frames : (own : ℕ) (ls : List SwitchLine) → ls ≡ changed own (with_frames (frames_on (slice_get ls own))) ls
same_frames own [] = refl
same_frames zero (l ∷ ls) = refl
same_frames (suc own) (l ∷ ls) = ap (λ ks. l ∷ ks) (same_frames own ls)

pub left_begins : (own : ℕ) (s : Switch) → s ≡ left_on own (waiting_on own s) s
left_begins own s = λ i. record s { lines = same_frames own s.lines i }

-- the first one was taken
pub left_less : (own : ℕ) (s t u : Switch) → own < length s.lines → t ≡ left_on own (waiting_on own t) s → u ≡ without_frame own t
    → u ≡ left_on own (waiting_on own u) s
left_less own s t u h is less =
    let fs = waiting_on own t in
    let so : u ≡ left_on own (drop 1 fs) s =
    less ∙ ap (without_frame own) is ∙ (λ i. record s { lines = fused (with_end without_first_frame) (with_frames fs) own s.lines i }) in
    so ∙ ap (λ x. left_on own x s) (sym (ap (waiting_on own) so ∙ waiting_left own (drop 1 fs) s h))

pub left_ends : (own : ℕ) (s t : Switch) → t ≡ left_on own (waiting_on own t) s → waiting_on own t ≡ [] → t ≡ record s { lines = changed own line_drained s.lines }
left_ends own s t is none = is ∙ ap (λ x. left_on own x s) none

-- frames that are being put: these are, those are left
pub record PuttingOn (L : LineService) (line : ℕ) (d : Direction) (start : List Octets) (before : Flights) (first puts : List Put) (left : List Octets) (now : Flights) : Type 0 where
  pub done : List Octets
  pub split : start ≡ done ++ left
  pub listed : puts ≡ first ++ puts_on line d done
  pub put : L.faithful → ArePut L d done before now

pub putting_begins : (L : LineService) (line : ℕ) (d : Direction) (start : List Octets) (before : Flights) (puts : List Put) → PuttingOn L line d start before puts puts start before
putting_begins L line d start before puts = record { done = []; split = refl; listed = sym (append-nil puts); put = λ f. refl }

puts_more : (line : ℕ) (d : Direction) (done : List Octets) (x : Octets) → puts_on line d (done ++ x ∷ []) ≡ puts_on line d done ++ puts_on line d (x ∷ [])
puts_more line d [] x = refl
puts_more line d (y ∷ done) x = ap (λ ps. record { line = line; direction = d; octets = y } ∷ ps) (puts_more line d done x)

pub putting_more : (L : LineService) (line : ℕ) (d : Direction) (start : List Octets) (before : Flights) (first puts more : List Put) (left : List Octets) (x : Octets) (rest : List Octets) (mid now : Flights)
    → PuttingOn L line d start before first puts left mid → left ≡ x ∷ rest → more ≡ puts ++ record { line = line; direction = d; octets = x } ∷ []
    → (L.faithful → IsPut L d x mid now) → PuttingOn L line d start before first more rest now
putting_more L line d start before first puts more left x rest mid now w e m put = record {
  done = w.done ++ x ∷ [];
  split = w.split ∙ ap (λ (l : List Octets). w.done ++ l) e ∙ sym (append_assoc {A = Octets} w.done (x ∷ []) rest);
  listed = m ∙ ap (λ ps. ps ++ puts_on line d (x ∷ [])) w.listed ∙ append_assoc first (puts_on line d w.done) (puts_on line d (x ∷ [])) ∙ ap (λ ps. first ++ ps) (sym (puts_more line d w.done x));
  put = λ f. put-more L d w.done x before mid now (w.put f) (put f);
}

-- all are put
pub record AllPut (L : LineService) (line : ℕ) (d : Direction) (start : List Octets) (before : Flights) (first puts : List Put) (now : Flights) : Type 0 where
  pub listed : puts ≡ first ++ puts_on line d start
  pub put : L.faithful → ArePut L d start before now

pub putting_ends : (L : LineService) (line : ℕ) (d : Direction) (start : List Octets) (before : Flights) (first puts : List Put) (left : List Octets) (now : Flights) → PuttingOn L line d start before first puts left now
    → left ≡ [] → AllPut L line d start before first puts now
putting_ends L line d start before first puts left now w e =
    let all : w.done ≡ start = sym (w.split ∙ ap (λ (l : List Octets). w.done ++ l) e ∙ append-nil w.done) in
    subst (λ (all_of : List Octets). AllPut L line d all_of before first puts now) all (record { listed = w.listed; put = w.put })

-- ---- how many lines a switch has

on_ends : (f : PacketEnd → PacketEnd) (ls : List SwitchLine) → length (map (with_end f) ls) ≡ length ls
on_ends f ls = length-map ls (with_end f)

step_lines : (s : Step) (ls : List SwitchLine) → length (lines_after s ls) ≡ length ls
step_lines (Asks p q) ls = length_changed p.line _ ls
step_lines (Places n parts) ls = length_changed n _ ls
step_lines (Keeps p o) ls = length_changed p.line _ ls
step_lines (Happens n what) ls = length_changed n _ (changed n (with_end (λ e. does what (quieted e))) ls) ∙ length_changed n _ ls
step_lines (Offers n) ls = length_changed n _ ls
step_lines Begins ls = on_ends _ ls
step_lines Settles ls = on_ends _ ls
step_lines (Elapses ticks) ls = on_ends _ ls

steps_lines : (steps : List Step) (ls : List SwitchLine) → length (lines_after_all steps ls) ≡ length ls
steps_lines [] ls = refl
steps_lines (s ∷ more) ls = steps_lines more (lines_after s ls) ∙ step_lines s ls

event_lines : (n : ℕ) (what : Happening) (s : Switch)
    → length (Rattle.switch_lines.specs.Switch.finished s.routes n (Rattle.switch_lines.specs.Switch.acted s.routes n (does what) (Rattle.switch_lines.specs.Switch.all_begun s.lines))) ≡ length s.lines
event_lines n what s = ap length (sym (event_leads s.routes n what s.lines)) ∙ steps_lines (event_steps s.routes n what s.lines) s.lines

-- no event changes it
pub switched_lines : (event : SwitchEvent) (s : Switch) → length (switched event s).lines ≡ length s.lines
switched_lines (Hears own octets) s = event_lines own (Brings octets) s
switched_lines (Expires own id) s = by_running (timer_runs (slice_get s.lines own) id)
  where
    by_running : (ran : Bool) → length (if ran then on_expiry own id s else s).lines ≡ length s.lines
    by_running true = event_lines own (RunsOut id) s
    by_running false = refl
switched_lines (at_switch.Relinks own) s = event_lines own Relinks s
switched_lines Restarts s = length-map s.lines without_joins
