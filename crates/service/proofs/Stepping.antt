-- Steps one after the other, and steps that are nothing at a terminal.
use Rattle.std.proofs.Common.{◌≡◌, ℕ, Bool, true, false, List, [], ◌∷◌, ◌++◌, refl, sym, ap, ◌∙◌, subst, append-nil, Result, Ok, Err, Option, Some, None, not, ◌&&◌, ◌||◌, map, arith}
use Rattle.std.specs.Prelude.{slice_get, if◌then◌else◌}
use Rattle.std.specs.List.{Contains, list_all}
use Rattle.std.proofs.lemmas.List.{map-append}
use Rattle.std.proofs.lemmas.Grind.{flat_map-append}
use Rattle.std.proofs.lemmas.List.Folds.{list_all-append}
use Rattle.std.proofs.lemmas.List.Elements.{Contains-append_left, Contains-append_right}
use Rattle.std.specs.Borrow.{Bor}
use Rattle.frame_lines.specs.Lines.{LineService}
use Rattle.user_nodes.specs.declared.terminal.TerminalEvent.TheVariants as what
use Rattle.net_events.specs.declared.event.Event.{Event}
use Rattle.net_events.specs.declared.event.Event.TheVariants.{AtTerminal, Call, Ask, Take, Deliver, Lose, Expire, Relink, GivesUp, Restart}
use Rattle.net_events.specs.declared.event.StepFault.{StepFault}
use Rattle.net_events.specs.declared.answer.Answer.{Answer}
use Rattle.net_process.specs.Process.{ProcessState, runs, IsDueFirst}
use Rattle.link_timers.specs.declared.timers.TimerId.{TimerId}
use Rattle.net_nodes.specs.Due.{due_in, expiry_at}
use Rattle.line_sim.specs.Stepping.{lent}
use Rattle.service.specs.declared.place.Place.{Place}
use Rattle.service.specs.Serving.{is_expiry}
use Rattle.service.specs.Steps.{Step, Makes, Steps, is_idle, is_idle_answer, AreIdle, HasTried, is_at_terminal, shown_by, typed_by, told_by, shown, typed, told, IsSilent, Does, PassesBy, Passes, AreAside, is_at_host}

pub steps-append : (L : LineService) (s m t : ProcessState) (xs ys : List Step) → Steps L s xs m → Steps L m ys t → Steps L s (xs ++ ys) t
steps-append L s m t [] ys none more = subst (λ n. Steps L n ys t) (sym none) more
steps-append L s m t (x ∷ xs) ys (mid, stepped, rest) more = (mid, stepped, steps-append L mid m t xs ys rest more)

pub shown-append : (at : Place) (xs ys : List Step) → shown at (xs ++ ys) ≡ shown at xs ++ shown at ys
shown-append at xs ys = flat_map-append (λ (step : Step). shown_by at step.event step.answer) xs ys

pub typed-append : (at : Place) (xs ys : List Step) → typed at (xs ++ ys) ≡ typed at xs ++ typed at ys
typed-append at xs ys = flat_map-append (λ (step : Step). typed_by at step.event step.answer) xs ys

pub told-append : (at : Place) (xs ys : List Step) → told at (xs ++ ys) ≡ told at xs ++ told at ys
told-append at xs ys = flat_map-append (λ (step : Step). told_by at step.event step.answer) xs ys

pub silent-none : (at : Place) → IsSilent at []
silent-none at = record { shows = refl; types = refl; tells = refl }

pub silent-append : (at : Place) (xs ys : List Step) → IsSilent at xs → IsSilent at ys → IsSilent at (xs ++ ys)
silent-append at xs ys one two = record {
  shows = shown-append at xs ys ∙ (λ i. one.shows i ++ two.shows i);
  types = typed-append at xs ys ∙ (λ i. one.types i ++ two.types i);
  tells = told-append at xs ys ∙ (λ i. one.tells i ++ two.tells i);
}

-- one step that is nothing there
pub silent_step : (at : Place) (event : Event) (answer : Result Answer StepFault) → shown_by at event answer ≡ []
    → typed_by at event answer ≡ [] → told_by at event answer ≡ []
    → IsSilent at (record { event = event; answer = answer } ∷ [])
silent_step at event answer shows types tells = record {
  shows = append-nil (shown_by at event answer) ∙ shows;
  types = append-nil (typed_by at event answer) ∙ types;
  tells = append-nil (told_by at event answer) ∙ tells;
}

-- ---- idle steps, and events that were tried

both : (a b : Bool) → a ≡ true → b ≡ true → (a && b) ≡ true
both true b one two = two
both false b one two = one

abbrev idle_all : List Step → Bool
idle_all steps = list_all (λ (step : Step). is_idle step.answer) steps

pub idle-append : (xs ys : List Step) → AreIdle xs → AreIdle ys → AreIdle (xs ++ ys)
idle-append xs ys one two =
    list_all-append (λ (step : Step). is_idle step.answer) xs ys ∙ both (idle_all xs) (idle_all ys) one two

pub idle_step : (event : Event) (answer : Result Answer StepFault) → is_idle answer ≡ true → AreIdle (record { event = event; answer = answer } ∷ [])
idle_step event answer idle = both (is_idle answer) true idle refl

-- steps at no host
pub aside-append : (xs ys : List Step) → AreAside xs → AreAside ys → AreAside (xs ++ ys)
aside-append xs ys one two =
    list_all-append (λ (step : Step). not (is_at_host step.event)) xs ys
    ∙ both (list_all (λ (step : Step). not (is_at_host step.event)) xs) (list_all (λ (step : Step). not (is_at_host step.event)) ys) one two

pub expiry_aside : (event : Event) (answer : Result Answer StepFault) → is_expiry event ≡ true
    → AreAside (record { event = event; answer = answer } ∷ [])
expiry_aside (Expire node line timer) answer is = refl
expiry_aside _ answer is = cc

abbrev events_of : List Step → List Event
events_of steps = map (λ (step : Step). step.event) steps

pub tried-left : (event : Event) (xs ys : List Step) → HasTried event xs → HasTried event (xs ++ ys)
tried-left event xs ys tried =
    subst (λ events. Contains events event) (sym (map-append (λ (step : Step). step.event) xs ys))
    (Contains-append_left (events_of xs) (events_of ys) event tried)

pub tried-right : (event : Event) (xs ys : List Step) → HasTried event ys → HasTried event (xs ++ ys)
tried-right event xs ys tried =
    subst (λ events. Contains events event) (sym (map-append (λ (step : Step). step.event) xs ys))
    (Contains-append_right (events_of xs) (events_of ys) event tried)

pub tried_step : (event other : Event) (answer : Result Answer StepFault) → other ≡ event → HasTried other (record { event = event; answer = answer } ∷ [])
tried_step event other answer is = (0, omega arith, sym is)

is_true : (b : Bool) → not b ≡ false → b ≡ true
is_true true e = refl
is_true false e = cc

is_false : (b : Bool) → not b ≡ true → b ≡ false
is_false true e = cc
is_false false e = refl

-- what was not done was idle, and what was done was not
pub not_done : (done : Bool) (answer : Result Answer StepFault) → done ≡ not (is_idle answer) → done ≡ false → is_idle answer ≡ true
not_done done answer is none = is_true (is_idle answer) (sym is ∙ none)

pub was_done : (done : Bool) (answer : Result Answer StepFault) → done ≡ not (is_idle answer) → done ≡ true → is_idle answer ≡ false
was_done done answer is some = is_false (is_idle answer) (sym is ∙ some)

-- ---- what happens elsewhere

-- it shows nothing at a terminal, types nothing there and tells nothing of it
pub elsewhere : (at : Place) (event : Event) (answer : Result Answer StepFault) → is_at_terminal event ≡ false
    → IsSilent at (record { event = event; answer = answer } ∷ [])
elsewhere at (AtTerminal node terminal event) answer e = cc
elsewhere at (Call node address octets) answer e = silent_step at (Call node address octets) answer refl refl refl
elsewhere at (Ask node channel request) answer e = silent_step at (Ask node channel request) answer refl refl refl
elsewhere at (Take node channel) answer e = silent_step at (Take node channel) answer refl refl refl
elsewhere at (Deliver line direction) answer e = silent_step at (Deliver line direction) answer refl refl refl
elsewhere at (Lose line direction) answer e = silent_step at (Lose line direction) answer refl refl refl
elsewhere at (Expire node line timer) answer e = silent_step at (Expire node line timer) answer refl refl refl
elsewhere at (Relink line) answer e = silent_step at (Relink line) answer refl refl refl
elsewhere at (GivesUp line) answer e = silent_step at (GivesUp line) answer refl refl refl
elsewhere at (Restart node) answer e = silent_step at (Restart node) answer refl refl refl

pub passes_none : (L : LineService) (more : Bool) (s : ProcessState) → Passes L more s s
passes_none L more s = ([], record { made = refl; silent = λ at. silent-none at; idle = λ none. refl })

pub passes_by-then : (L : LineService) (a b more : Bool) (s m t : ProcessState) (xs ys : List Step) → (more ≡ false → a ≡ false)
    → (more ≡ false → b ≡ false) → PassesBy L xs a s m → PassesBy L ys b m t → PassesBy L (xs ++ ys) more s t
passes_by-then L a b more s m t xs ys no_a no_b one two = record {
  made = steps-append L s m t xs ys one.made two.made;
  silent = λ at. silent-append at xs ys (one.silent at) (two.silent at);
  idle = λ none. idle-append xs ys (one.idle (no_a none)) (two.idle (no_b none));
}

pub neither_left : (a b : Bool) → (a || b) ≡ false → a ≡ false
neither_left true b none = none
neither_left false b none = refl

pub neither_right : (a b : Bool) → (a || b) ≡ false → b ≡ false
neither_right true b none = cc
neither_right false b none = none

pub passes-then : (L : LineService) (a b : Bool) (s m t : ProcessState) → Passes L a s m → Passes L b m t → Passes L (a || b) s t
passes-then L a b s m t one two =
    (one.0 ++ two.0, passes_by-then L a b (a || b) s m t one.0 two.0 (λ none. neither_left a b none) (λ none. neither_right a b none) one.1 two.1)

pub passes_at : (L : LineService) (a b : Bool) (s t : ProcessState) → a ≡ b → Passes L a s t → Passes L b s t
passes_at L a b s t is passes = subst (λ more. Passes L more s t) is passes

-- one step, at no terminal
pub passes_step : (L : LineService) (event : Event) (done : Bool) (s t : ProcessState) → is_at_terminal event ≡ false
    → (does : Does L event done s t) → PassesBy L (record { event = event; answer = does.answer } ∷ []) done s t
passes_step L event done s t other does = record {
  made = (t, does.stepped, refl);
  silent = λ at. elsewhere at event does.answer other;
  idle = λ none. idle_step event does.answer (not_done done does.answer does.done_is none);
}

pub passes_does : (L : LineService) (event : Event) (done : Bool) (s t : ProcessState) → is_at_terminal event ≡ false
    → Does L event done s t → Passes L done s t
passes_does L event done s t other does = (record { event = event; answer = does.answer } ∷ [], passes_step L event done s t other does)

-- what is due is no event at a terminal
abbrev IsElsewhere : Event → Type 0
IsElsewhere event = (is_at_terminal event ≡ false) × (is_expiry event ≡ true)

expiry_at_elsewhere : (place : ℕ) (due : Option (ℕ × TimerId)) (event : Event) → expiry_at place due ≡ Some event → IsElsewhere event
expiry_at_elsewhere place None event is = cc
expiry_at_elsewhere place (Some timer) event is =
    let same : event ≡ Expire place timer.0 timer.1 = cc in
    (ap is_at_terminal same, ap is_expiry same)

expiry_if_elsewhere : (here : Bool) (place : ℕ) (due : Option (ℕ × TimerId)) (event : Event)
    → (if here then expiry_at place due else None) ≡ Some event → IsElsewhere event
expiry_if_elsewhere true place due event is = expiry_at_elsewhere place due event is
expiry_if_elsewhere false place due event is = cc

pub expiry_elsewhere : (event : Event) (p : ProcessState) → IsDueFirst event p → IsElsewhere event
expiry_elsewhere event p first =
    expiry_if_elsewhere (runs p first.place) first.place (due_in (slice_get p.part.nodes first.place)) event first.here

-- ---- the answer that a step lends

abbrev pub Lent : Type 0
Lent = Result (Bor Answer) StepFault

pub does_lent : (L : LineService) (event : Event) (r : Lent) (answer : Bor Answer) (idle : Bool) (s t : ProcessState)
    → Makes L s (record { event = event; answer = lent r }) t → r ≡ Ok answer
    → idle ≡ is_idle_answer answer.now → Does L event (not idle) s t
does_lent L event r answer idle s t stepped ok idle_is = record {
  answer = lent r;
  stepped = stepped;
  done_is = ap not (idle_is ∙ sym (ap (λ a. is_idle (lent a)) ok));
}

pub does_refused : (L : LineService) (event : Event) (r : Lent) (fault : StepFault) (s t : ProcessState)
    → Makes L s (record { event = event; answer = lent r }) t → r ≡ Err fault → Does L event false s t
does_refused L event r fault s t stepped err = record {
  answer = lent r;
  stepped = stepped;
  done_is = sym (ap (λ a. not (is_idle (lent a))) err);
}
