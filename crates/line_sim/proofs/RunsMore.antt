-- A run and one event more.
use Rattle.std.proofs.Common.{◌≡◌, Bool, ℕ, zero, suc, ◌+◌, ◌<◌, List, [], ◌∷◌, ◌++◌, take, length, get_or, Option, Some, None, Result, Ok, Err, refl, sym, ap, ◌∙◌, subst, inl, inr, arith, append-nil, append_assoc}
use Rattle.std.specs.Prelude.{nat_lt, true, false, is_some, slice_get, if◌then◌else◌}
use Rattle.std.specs.Bool.{OnTrue}
use Rattle.std.proofs.lemmas.Option.{slice_get-get_or}
use Rattle.user_nodes.specs.declared.fault.NodeFault.{NodeFault}
use Rattle.frame_lines.specs.Lines.{LineService, memory_service}
use Rattle.net_events.specs.NodeEvents.{Calls}
use Rattle.net_events.specs.Network.{PlacedNode, Network}
use Rattle.net_config.specs.declared.config.Config.{Config}
use Rattle.net_events.specs.declared.answer.Answer.{Answer}
use Rattle.net_events.specs.EventView.{request_event}
use Rattle.node_events.specs.Outcomes.{event_fault}
use Rattle.net_events.specs.declared.event.Event.{Event}
use Rattle.net_events.specs.declared.event.Event.TheVariants.{AtTerminal, Call, Ask, Take, Deliver, Lose, Expire, Relink, GivesUp, Restart}
use Rattle.net_events.specs.declared.event.StepFault.{StepFault}
use Rattle.net_events.specs.declared.event.StepFault.TheVariants.{OutOfMemory, NoSuchNode, NoSuchTerminal, NoSuchCall}
use Rattle.net_nodes.specs.Places.{is_host_at, pad_terminals, user_at}
use Rattle.net_nodes.specs.Faults.{step_fault, refused, at_node, at_host, is_channel_at, on_channel, stands_at, at_terminal, where_there_is, takes_memory, MayWant}
use Rattle.net_nodes.specs.Happening.{Happens}
use Rattle.node_laws.specs.Pads.Happening.{PadEvent}
use Rattle.line_sim.specs.Courses.{brought, all_brought, CoursesLead}
use Rattle.line_sim.specs.Runs.{IsHandled, Ran, HasRun, HasStopped}
use Rattle.line_sim.specs.Stepping.{lent, HasStepped}
use Rattle.std.specs.Borrow.{Bor}

-- what was answered, or refused for another reason than want of memory, happened
pub happened : (L : LineService) (e : Event) (s : Network) (r : Result Answer StepFault) (t : Network) → Happens L e s r t → (r ≡ Err OutOfMemory → ⊥) → IsHandled L e s (step_fault e s) t
happened L e s (Ok answer) t h not_memory = let P : Option StepFault → Type 0 = λ o. IsHandled L e s o t in subst P (sym h.0) (answer, h.1)
happened L e s (Err fault) t h not_memory =
    let P : Option StepFault → Type 0 = λ o. IsHandled L e s o t in
    elim h.0 [
      | inl is ↦ subst P (sym is) h.1
      | inr memory ↦ absurd (not_memory (ap Err memory.1))
    ]

pub ran-more : (L : LineService) (es : List Event) (s t : Network) (e : Event) (u : Network) → Ran L s es t → IsHandled L e t (step_fault e t) u → Ran L s (es ++ e ∷ []) u
ran-more L [] s t e u r h = let P : Network → Type 0 = λ x. IsHandled L e x (step_fault e x) u in (u, subst P (sym r) h, refl)
ran-more L (x ∷ es) s t e u r h = (r.0, r.1, ran-more L es r.0 t e u r.2 h)

-- what the events of a longer run bring
pub all_brought-more : (place : ℕ) (L : LineService) (es : List Event) (s t : Network) (e : Event) (u : Network) (r : Ran L s es t) (h : IsHandled L e t (step_fault e t) u)
    → all_brought place L s (es ++ e ∷ []) u (ran-more L es s t e u r h) ≡ all_brought place L s es t r ++ brought place e t
unfolding ran-more
all_brought-more place L [] s t e u r h = append-nil (brought place e s) ∙ ap (λ (x : Network). brought place e x) r
all_brought-more place L (x ∷ es) s t e u r h =
    ap (λ (l : List PadEvent). brought place x s ++ l) (all_brought-more place L es r.0 t e u r.2 h)
    ∙ sym (append_assoc (brought place x s) (all_brought place L r.0 es t r.2) (brought place e t))

take-more : {A : Type 0} (xs : List A) (i : ℕ) (x d : A) → i < length xs → x ≡ get_or xs i d → take (suc i) xs ≡ take i xs ++ x ∷ []
take-more [] i x d h e = absurd (omega arith)
take-more (y ∷ ys) zero x d h e = ap (λ z. z ∷ []) (sym e)
take-more (y ∷ ys) (suc i) x d h e = ap (λ zs. y ∷ zs) (take-more ys i x d (omega arith) e)

-- the events up to the next one
pub take_next : {A : Type 0} (xs : List A) (i : ℕ) (d x : A) → i < length xs → x ≡ get_or xs i d → take (i + 1) xs ≡ take i xs ++ x ∷ []
take_next xs i d x h is = (let same : i + 1 ≡ suc i = omega arith in ap (λ n. take n xs) same ∙ take-more xs i x d h is)

pub run-more : (config : Config) (events : List Event) (i : ℕ) (d e : Event) (t u : Network) → i < length events → e ≡ get_or events i d
    → HasRun config (take i events) t → IsHandled memory_service e t (step_fault e t) u → HasRun config (take (i + 1) events) u
run-more config events i d e t u h is run happens =
    let P : List Event → Type 0 = λ es. Ran memory_service run.start es u in
    let next : take (i + 1) events ≡ take i events ++ e ∷ [] = take_next events i d e h is in
    record {
      start = run.start;
      made = run.made;
      ran = subst P (sym next) (ran-more memory_service (take i events) run.start t e u run.ran happens);
    }

no-such : (a : Bool) → where_there_is a ≡ Some OutOfMemory → ⊥
no-such true e = absurd (cc)
no-such false e = absurd (cc)

-- want of memory is no fault of an event
refused_so : (o : Option NodeFault) → refused o ≡ Some OutOfMemory → ⊥
refused_so None e = absurd (cc)
refused_so (Some fault) e = absurd (cc)

on_line : (has : Bool) (o : Option StepFault) → (o ≡ Some OutOfMemory → ⊥)
    → (if has then o else Some NoSuchCall) ≡ Some OutOfMemory → ⊥
on_line true o none e = none e
on_line false o none e = absurd (cc)

at_some : (o : Option PlacedNode) (fault : PlacedNode → Option StepFault)
    → ((n : PlacedNode) → fault n ≡ Some OutOfMemory → ⊥) → at_node o fault ≡ Some OutOfMemory → ⊥
at_some None fault none e = absurd (cc)
at_some (Some n) fault none e = none n e

on_host : (place : ℕ) (s : Network) (fault : PlacedNode → Option StepFault)
    → ((n : PlacedNode) → fault n ≡ Some OutOfMemory → ⊥) → at_host place s fault ≡ Some OutOfMemory → ⊥
on_host place s fault none = by (is_host_at place s)
  where
    by : (is_host : Bool) → (if is_host then at_node (user_at place s) fault else Some NoSuchNode) ≡ Some OutOfMemory → ⊥
    by true e = at_some (user_at place s) fault none e
    by false e = absurd (cc)

on_terminal : (terminal : ℕ) (o : Option ℕ) → at_terminal terminal o ≡ Some OutOfMemory → ⊥
on_terminal terminal None e = absurd (cc)
on_terminal terminal (Some terminals) e = by (nat_lt terminal terminals) e
  where
    by : (has : Bool) → (if has then None else Some NoSuchTerminal) ≡ Some OutOfMemory → ⊥
    by true e = absurd (cc)
    by false e = absurd (cc)

none : ◌≡◌ {A = Option StepFault} None (Some OutOfMemory) → ⊥
none e = absurd (cc)

not-memory : (e : Event) (s : Network) → step_fault e s ≡ Some OutOfMemory → ⊥
not-memory (AtTerminal node terminal event) s e = on_terminal terminal (pad_terminals node s) e
not-memory (Call node address user_data) s e =
    on_host node s (λ n. refused (event_fault (Calls address user_data.items) n.node))
    (λ n. refused_so (event_fault (Calls address user_data.items) n.node)) e
not-memory (Ask node channel request) s e =
    on_host node s (λ n. on_channel channel s n (refused (event_fault (request_event channel request) n.node)))
    (λ n. on_line (is_channel_at n.line channel s) (refused (event_fault (request_event channel request) n.node))
    (refused_so (event_fault (request_event channel request) n.node))) e
not-memory (Take node channel) s e =
    on_host node s (λ n. on_channel channel s n None) (λ n. on_line (is_channel_at n.line channel s) None none) e
not-memory (Deliver line direction) s e = no-such (is_some (slice_get s.lines line)) e
not-memory (Lose line direction) s e = no-such (is_some (slice_get s.lines line)) e
not-memory (Expire node line timer) s e = no-such (stands_at line (slice_get s.nodes node)) e
not-memory (Relink line) s e = no-such (is_some (slice_get s.lines line)) e
not-memory (GivesUp line) s e = no-such (is_some (slice_get s.lines line)) e
not-memory (Restart node) s e = no-such (is_some (slice_get s.nodes node)) e

-- where memory was wanting, the network itself does not refuse the event
pub wanting : (L : LineService) (e : Event) (s : Network) (r : Result Answer StepFault) (t : Network) → Happens L e s r t → r ≡ Err OutOfMemory → MayWant e s
wanting L e s (Ok answer) t h memory = absurd (cc)
wanting L e s (Err fault) t h memory =
    elim h.0 [
      | inl is ↦ absurd (not-memory e s (let same : fault ≡ OutOfMemory = cc in is ∙ ap Some same))
      | inr o ↦ o.0
    ]

-- an event that takes no memory finds no want of it
pub has-memory : (L : LineService) (e : Event) (s : Network) (r : Result Answer StepFault) (t : Network) → Happens L e s r t
    → takes_memory e ≡ false → r ≡ Err OutOfMemory → ⊥
has-memory L e s r t h none memory = absurd (let takes = (wanting L e s r t h memory).0 in cc)

-- ---- an answer that is lent

module _ (L : LineService) (e : Event) (s t : Network) (r : Result (Bor Answer) StepFault) (w : HasStepped L e s (lent r) t) where
  same_fault : (fault : StepFault) → r ≡ Err fault → lent r ≡ Err OutOfMemory → fault ≡ OutOfMemory
  same_fault fault is memory =
      let same : ◌≡◌ {A = Result Answer StepFault} (Err fault) (Err OutOfMemory) = ap lent (sym is) ∙ memory in cc

  pub lent_refused : (fault : StepFault) → r ≡ Err fault → (fault ≡ OutOfMemory → ⊥) → IsHandled L e s (step_fault e s) t
  lent_refused fault is not_memory = happened L e s (lent r) t w.happens (λ memory. not_memory (same_fault fault is memory))

  pub lent_answered : (answer : Bor Answer) → r ≡ Ok answer → IsHandled L e s (step_fault e s) t
  lent_answered answer is =
      happened L e s (lent r) t w.happens
      (λ memory. absurd (let same : ◌≡◌ {A = Result Answer StepFault} (Ok answer.now) (Err OutOfMemory) = ap lent (sym is) ∙ memory in cc))

  -- and the courses of the PADs went on, on faithful lines
  pub lent_courses : L.faithful → (answer : Bor Answer) → r ≡ Ok answer → CoursesLead e s t
  lent_courses faithful answer is =
      w.courses faithful (λ memory. absurd (let same : ◌≡◌ {A = Result Answer StepFault} (Ok answer.now) (Err OutOfMemory) = ap lent (sym is) ∙ memory in cc))

  pub refused_courses : L.faithful → (fault : StepFault) → r ≡ Err fault → (fault ≡ OutOfMemory → ⊥) → CoursesLead e s t
  refused_courses faithful fault is not_memory = w.courses faithful (λ memory. not_memory (same_fault fault is memory))

  pub lent_wanting : (fault : StepFault) → r ≡ Err fault → fault ≡ OutOfMemory → MayWant e s
  lent_wanting fault is memory = wanting L e s (lent r) t w.happens (ap lent is ∙ ap Err memory)

-- what holds where an answer is yes
pub if_so : (answer : Bool) (P : Type 0) → (answer ≡ true → P) → OnTrue answer P
if_so true P h = h refl
if_so false P h = tt

pub stops : (config : Config) (events : List Event) (i : ℕ) (d e : Event) (t : Network) → i < length events → e ≡ get_or events i d
    → HasRun config (take i events) t → MayWant e t → HasStopped config events i
stops config events i d e t h is run may =
    record { net = t; event = e; before = run; is_next = slice_get-get_or events i d h ∙ ap Some (sym is); may_want = may }
