-- Over a run the course of each PAD is what the events brought to it.
use Rattle.std.proofs.Common.{◌≡◌, ◌≢◌, ℕ, ◌+◌, ◌<◌, ◌≤◌, take, get_or, Bool, true, false, List, [], ◌∷◌, ◌++◌, length, Option, Some, None, refl, sym, ap, ap₂, ◌∙◌, subst, append_assoc, append-nil, arith}
use Rattle.std.specs.Prelude.{slice_get, ◌==◌, ◌&&◌, nat_lt, if◌then◌else◌}
use Rattle.std.proofs.lemmas.Bool.{eqb-true, ltb-false}
use Rattle.link_timers.specs.declared.role.Role.{Role}
use Rattle.link_timers.specs.declared.role.Role.TheVariants.{Dte, Dce}
use Rattle.link_timers.specs.declared.timers.TimerId.TheVariants.{Idle as idle_timer}
use Rattle.lapb.specs.Machine.{Octets}
use Rattle.x25_pad.specs.declared.config.PadConfig.{PadConfig}
use Rattle.node_laws.specs.Pads.Happening.{PadEvent, HasExpiry}
use Rattle.user_nodes.specs.Node.{NodeState}
use Rattle.user_nodes.specs.declared.terminal.TerminalEvent.{TerminalEvent}
use Rattle.user_nodes.specs.declared.terminal.TerminalEvent.TheVariants.{Key, Break, Idle, Print, Leaves, Arrives}
use Rattle.frame_lines.specs.declared.line.Direction.{Direction}
use Rattle.frame_lines.specs.Lines.{flying, memory_service}
use Rattle.net_node.specs.Node.{terminals_of, terminals_there}
use Rattle.net_config.specs.declared.config.Config.{Config}
use Rattle.net_events.specs.NodeEvents as node_event
use Rattle.net_events.specs.Network.{NetNode, NetLine, Network, place_at}
use Rattle.net_events.specs.declared.event.Event.{Event}
use Rattle.net_events.specs.declared.event.Event.TheVariants.{AtTerminal, Call, Ask, Take, Deliver, Lose, Expire, Relink, GivesUp, Restart}
use Rattle.net_events.specs.declared.event.StepFault.{StepFault}
use Rattle.net_events.specs.declared.event.StepFault.TheVariants.{NoSuchTerminal}
use Rattle.net_nodes.specs.Places.{user_in, pad_terminals}
use Rattle.net_nodes.specs.Faults.{step_fault, stands_at, where_there_is, at_terminal}
use Rattle.net_nodes.specs.Steps.{hearer}
use Rattle.network_laws.specs.Courses.{HasCourse, brought_by}
use Rattle.network_laws.specs.Switched.InnerPromise.{InnerPromise}
use Rattle.network_laws.proofs.Courses.{sent_course, typed_course}
use Rattle.line_sim.specs.Runs.{IsMadeBy, IsHandled}
use Rattle.line_sim.specs.Courses.{first_frame, brought_on, brought_to_end, unless_fault, brought, HaveNoEvent, CoursesLead, all_brought, had_in, had_at, given_in, given_to, PadHasRun, PadsHaveRun}
use Rattle.line_sim.proofs.Courses.{apart_false}
use Rattle.line_sim.proofs.RunsMore.{ran-more, all_brought-more, take_next}

-- ---- lists

had_append : (terminal : ℕ) (xs ys : List PadEvent) → had_at terminal (xs ++ ys) ≡ had_at terminal xs ++ had_at terminal ys
had_append terminal [] ys = refl
had_append terminal (x ∷ xs) ys =
    ap (λ (es : List TerminalEvent). had_in terminal x ++ es) (had_append terminal xs ys) ∙ sym (append_assoc (had_in terminal x) (had_at terminal xs) (had_at terminal ys))

given_more : (line place terminal : ℕ) (es : List Event) (e : Event) → given_to line place terminal (es ++ e ∷ []) ≡ given_to line place terminal es ++ given_in line place terminal e
given_more line place terminal [] e = append-nil (given_in line place terminal e)
given_more line place terminal (x ∷ es) e =
    ap (λ (l : List TerminalEvent). given_in line place terminal x ++ l) (given_more line place terminal es e)
    ∙ sym (append_assoc (given_in line place terminal x) (given_to line place terminal es) (given_in line place terminal e))

-- ---- what an event brings to a terminal

module _ (terminal : ℕ) where
  abbrev IsSilent : List PadEvent → Type 0
  IsSilent es = had_at terminal es ≡ []

  refused_silent : (o : Option StepFault) (es : List PadEvent) → IsSilent es → IsSilent (unless_fault o es)
  refused_silent None es silent = silent
  refused_silent (Some fault) es silent = refl

  chosen_silent : (v : Bool) (es : List PadEvent) → IsSilent es → IsSilent (if v then es else [])
  chosen_silent true es silent = silent
  chosen_silent false es silent = refl

  frame_silent : (frames : List Octets) → IsSilent (first_frame frames)
  frame_silent [] = refl
  frame_silent (octets ∷ frames) = refl

  heard_silent : (place : ℕ) (d : Direction) (o : Option NetLine) → IsSilent (brought_on place d o)
  heard_silent place d None = refl
  heard_silent place d (Some l) = chosen_silent (place_at (hearer d) l == place) (first_frame (flying d l.flights)) (frame_silent (flying d l.flights))

  relink_silent : (role : Role) (place : ℕ) (o : Option NetLine) → IsSilent (brought_to_end role place o)
  relink_silent role place None = refl
  relink_silent role place (Some l) = chosen_silent (place_at role l == place) (brought_by node_event.Relinks) refl

  had_there : (number : ℕ) (event : TerminalEvent) → had_at terminal (brought_by (node_event.AtTerminal number event)) ≡ (if number == terminal then event ∷ [] else [])
  had_there number (Key octet) = append-nil _
  had_there number Break = append-nil _
  had_there number Idle = append-nil _
  had_there number Print = append-nil _
  had_there number Leaves = append-nil _
  had_there number Arrives = append-nil _

-- the PAD has its terminals, and its line
module _ (s : Network) (c : PadConfig) (own place : ℕ) (events : List PadEvent) (h : HasCourse c own place events s) (terminal : ℕ) (less : terminal < c.terminals) where
  has_terminals : (node : ℕ) → node ≡ place → pad_terminals node s ≡ Some c.terminals
  has_terminals node same =
      ap (λ (k : ℕ). pad_terminals k s) same
      ∙ ap (λ (o : Option NetNode). terminals_there (user_in o)) h.node_there
      ∙ ap (λ (n : NodeState). terminals_of n) h.is_pad
      ∙ ap (λ (n : ℕ). Some n) h.has_terminals

  stands_there : (node at : ℕ) → node ≡ place → stands_at at (slice_get s.nodes node) ≡ (own == at)
  stands_there node at same =
      ap (λ (k : ℕ). stands_at at (slice_get s.nodes k)) same ∙ ap (λ (o : Option NetNode). stands_at at o) h.node_there ∙ ap (λ (line : ℕ). line == at) h.node_line

  terminal_given : (node number : ℕ) (event : TerminalEvent) (here : Bool) → (node == place) ≡ here
      → had_at terminal (unless_fault (at_terminal number (pad_terminals node s)) (if here then brought_by (node_event.AtTerminal number event) else []))
      ≡ (if here && number == terminal then event ∷ [] else [])
  terminal_given node number event false is = refused_silent terminal (at_terminal number (pad_terminals node s)) [] refl
  terminal_given node number event true is =
      ap (λ (o : Option ℕ). had_at terminal (unless_fault (at_terminal number o) (brought_by (node_event.AtTerminal number event)))) (has_terminals node (eqb-true node place is))
      ∙ by (nat_lt number c.terminals) refl
    where
      by : (v : Bool) → nat_lt number c.terminals ≡ v
          → had_at terminal (unless_fault (if v then None else Some NoSuchTerminal) (brought_by (node_event.AtTerminal number event))) ≡ (if number == terminal then event ∷ [] else [])
      by true e = had_there terminal number event
      by false e =
          let beyond : c.terminals ≤ number = ltb-false number c.terminals e in
          let other : number ≢ terminal = omega arith in
          sym (ap (λ (v : Bool). if v then event ∷ [] else []) (apart_false number terminal other))

  expiry_given : (node at number : ℕ) (here : Bool) → (node == place) ≡ here
      → had_at terminal (unless_fault (where_there_is (stands_at at (slice_get s.nodes node))) (if here then HasExpiry (idle_timer number) ∷ [] else []))
      ≡ (if here && own == at && number == terminal then Idle ∷ [] else [])
  expiry_given node at number false is = refused_silent terminal (where_there_is (stands_at at (slice_get s.nodes node))) [] refl
  expiry_given node at number true is =
      ap (λ (v : Bool). had_at terminal (unless_fault (where_there_is v) (HasExpiry (idle_timer number) ∷ []))) (stands_there node at (eqb-true node place is))
      ∙ by (own == at)
    where
      by : (v : Bool) → had_at terminal (unless_fault (where_there_is v) (HasExpiry (idle_timer number) ∷ [])) ≡ (if v && number == terminal then Idle ∷ [] else [])
      by true = append-nil _
      by false = refl

  given_so : (e : Event) → had_at terminal (brought place e s) ≡ given_in own place terminal e
  given_so (AtTerminal node number event) = terminal_given node number event (node == place) refl
  given_so (Expire node at (idle_timer number)) = expiry_given node at number (node == place) refl
  given_so (Expire node at timer) =
      refused_silent terminal (step_fault (Expire node at timer) s) (if node == place then HasExpiry timer ∷ [] else [])
      (chosen_silent terminal (node == place) (HasExpiry timer ∷ []) refl)
  given_so (Deliver line direction) =
      refused_silent terminal (step_fault (Deliver line direction) s) (brought_on place direction (slice_get s.lines line)) (heard_silent terminal place direction (slice_get s.lines line))
  given_so (Relink line) =
      refused_silent terminal (step_fault (Relink line) s) (brought_to_end Dte place (slice_get s.lines line)) (relink_silent terminal Dte place (slice_get s.lines line))
  given_so (GivesUp line) =
      refused_silent terminal (step_fault (GivesUp line) s) (brought_to_end Dce place (slice_get s.lines line)) (relink_silent terminal Dce place (slice_get s.lines line))
  given_so (Restart node) =
      refused_silent terminal (step_fault (Restart node) s) (if node == place then brought_by node_event.Restarts else []) (chosen_silent terminal (node == place) (brought_by node_event.Restarts) refl)
  given_so (Call node address user_data) = refused_silent terminal (step_fault (Call node address user_data) s) [] refl
  given_so (Ask node channel r) = refused_silent terminal (step_fault (Ask node channel r) s) [] refl
  given_so (Take node channel) = refused_silent terminal (step_fault (Take node channel) s) [] refl
  given_so (Lose line direction) = refused_silent terminal (step_fault (Lose line direction) s) [] refl

-- ---- a run

pub first_run : (config : Config) (net : Network) → IsMadeBy memory_service config net → HaveNoEvent config net → InnerPromise net → PadsHaveRun config [] net
first_run config net made none promise = record {
  run = record { start = net; made = made; ran = refl };
  pads = λ c line place planned. record {
    led = none c line place planned;
    given = λ terminal less. refl;
    sent = λ i r at is. sent_course net promise c line place [] (none c line place planned) i r at is;
    typed = typed_course net promise c line place [] (none c line place planned);
  };
}

next_run : (config : Config) (es : List Event) (e : Event) (s t : Network) → PadsHaveRun config es s → IsHandled memory_service e s (step_fault e s) t → CoursesLead e s t → InnerPromise t
    → PadsHaveRun config (es ++ e ∷ []) t
next_run config es e s t p handled leads promise = record {
  run = record { start = p.run.start; made = p.run.made; ran = ran-more memory_service es p.run.start s e t p.run.ran handled };
  pads = λ c line place planned.
      let old = p.pads c line place planned in
      let before : List PadEvent = all_brought place memory_service p.run.start es s p.run.ran in
      let led : HasCourse c line place (before ++ brought place e s) t = leads c line place before old.led in
      subst (λ (course : List PadEvent). PadHasRun c line place (es ++ e ∷ []) course t) (sym (all_brought-more place memory_service es p.run.start s e t p.run.ran handled)) (
      record {
        led = led;
        given = λ terminal less.
            had_append terminal before (brought place e s)
            ∙ ap₂ (λ (xs ys : List TerminalEvent). xs ++ ys) (old.given terminal less) (given_so s c line place before old.led terminal less e)
            ∙ sym (given_more line place terminal es e);
        sent = λ i r at is. sent_course t promise c line place (before ++ brought place e s) led i r at is;
        typed = typed_course t promise c line place (before ++ brought place e s) led;
      }
      );
}

-- the events up to the next one
pub runs_on : (config : Config) (events : List Event) (i : ℕ) (d e : Event) (t u : Network) → i < length events → e ≡ get_or events i d → PadsHaveRun config (take i events) t
    → IsHandled memory_service e t (step_fault e t) u → CoursesLead e t u → InnerPromise u → PadsHaveRun config (take (i + 1) events) u
runs_on config events i d e t u h is p handled leads promise =
    subst (λ (es : List Event). PadsHaveRun config es u) (sym (take_next events i d e h is)) (next_run config (take i events) e t u p handled leads promise)
