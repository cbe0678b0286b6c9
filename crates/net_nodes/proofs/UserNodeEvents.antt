-- What an event at a node with users is to the network.
use Rattle.std.proofs.Common.{◌≡◌, ℕ, ◌<◌, Bool, true, false, List, length, Option, Some, None, Result, Ok, Err, refl, sym, ap, ◌∙◌, subst, arith, inl, inr}
use Rattle.std.specs.Prelude.{slice_get, ◌⊎◌, if◌then◌else◌, is_some, not, [], ◌∷◌, set, drop, zero, suc}
use Rattle.std.proofs.lemmas.Option.{same_Some}
use Rattle.link_timers.specs.declared.role.Role.{Role}
use Rattle.link_timers.specs.declared.role.Role.TheVariants.{Dte, Dce}
use Rattle.frame_lines.specs.declared.line.Direction.{Direction}
use Rattle.node_laws.specs.Quiet.{IsQuiet}
use Rattle.user_nodes.specs.Node.{NodeState, Pad, Host, is_pad}
use Rattle.user_nodes.specs.declared.terminal.TerminalEvent.{TerminalEvent}
use Rattle.frame_lines.specs.declared.line.Direction.TheVariants.{FromDte, FromDce}
use Rattle.frame_lines.specs.Lines.{LineService, Flights, flying, without_first}
use Rattle.net_events.specs.declared.answer.Outcome.TheVariants.{Delivered}
use Rattle.net_events.specs.NodeEvents.{NodeEvent, Hears, Relinks, Restarts}
use Rattle.net_events.specs.EventView.{host_event_of, user_event_of}
use Rattle.net_events.specs.Network.{PlacedNode, User, NetLine, Network, place_at}
use Rattle.net_events.specs.declared.answer.Answer as answered
use Rattle.node_events.specs.Outcomes.{event_fault}
use Rattle.node_events.specs.Users.{IsRefusedWith, user_fault, is_channel, is_on_line}
use Rattle.net_events.specs.declared.event.Event.{Event}
use Rattle.net_events.specs.declared.event.Event.TheVariants.{AtTerminal, Deliver, Restart}
use Rattle.net_events.specs.declared.event.StepFault.{StepFault}
use Rattle.net_events.specs.declared.event.StepFault.TheVariants.{OutOfMemory, NoSuchNode, NoSuchCall}
use Rattle.net_events.specs.declared.node_event.HostEvent.{HostEvent}
use Rattle.net_events.specs.declared.node_event.UserEvent.{UserEvent}
use Rattle.net_events.specs.declared.node_event.UserEvent.TheVariants as user_event
use Rattle.net_nodes.specs.declared.nodes.LineSide.{LineSide}
use Rattle.net_nodes.specs.Places.{UserStands, IsStanding, IsPlaceOf}
use Rattle.net_node.specs.Node.{is_host, terminals_of, terminals_there}
use Rattle.net_nodes.specs.Faults.{refused, step_fault, takes_memory, IsLeftToNode, MayWant, at_node, at_host, at_terminal, where_there_is, on_channel, is_channel_at, has_channel}
use Rattle.net_nodes.specs.Turns.{CanAct, AtEnd, ActsSo, Acts, UserActs}
use Rattle.net_nodes.specs.Steps.{AtNode, StepOf, RelinkStep, relink_at, hearer}
use Rattle.net_nodes.specs.Happening.{Happens}
use Rattle.net_events.proofs.Users.{same_user, not_both}
use Rattle.net_nodes.proofs.Places.{user_there}
use Rattle.net_events.proofs.Lists.{within}

-- ---- the node of a place

pub at_end_of : (place : ℕ) (end : LineSide) (s : Network) (p : IsPlaceOf place end s) → slice_get s.nodes (place_at end.role p.line) ≡ Some (User p.node)
at_end_of place end s p = ap (λ i. slice_get s.nodes i) p.at_end ∙ p.node_there

pub registered_at : (line : ℕ) (l : NetLine) (s : Network) → IsStanding s → slice_get s.lines line ≡ Some l → line < length s.register.lines
registered_at line l s st there = let h = within s.lines line l there in let count = st.registered in omega (arith, h, count)

-- the node with users at an end of a line stands there
pub user_stands : (line : ℕ) (l : NetLine) (role : Role) (n : PlacedNode) (s : Network) → IsStanding s → slice_get s.lines line ≡ Some l
    → slice_get s.nodes (place_at role l) ≡ Some (User n) → UserStands s line l role
user_stands line l role n s st there node_there = elim (st.ends line l role there) [
  | inl e ↦ e
  | inr e ↦ absurd (not_both n e.node (sym node_there ∙ e.node_there))
]

pub quiet_at : (place : ℕ) (end : LineSide) (s : Network) → IsStanding s → (p : IsPlaceOf place end s) → IsQuiet p.node.node
quiet_at place end s st p =
    let e = user_stands end.line p.line end.role p.node s st p.line_there (at_end_of place end s p) in
    subst (λ (x : PlacedNode). IsQuiet x.node) (same_user e.node p.node (sym e.node_there ∙ at_end_of place end s p)) e.quiet

pub can_act : (place : ℕ) (end : LineSide) (s : Network) → IsStanding s → (p : IsPlaceOf place end s) → CanAct end s
can_act place end s st p = record {
  line = p.line;
  line_there = p.line_there;
  node = p.node;
  node_there = at_end_of place end s p;
  quiet = quiet_at place end s st p;
  registered = registered_at end.line p.line s st p.line_there;
}

pub own_node : (L : LineService) (place : ℕ) (end : LineSide) (event : NodeEvent) (s : Network) (a : answered.Answer) (t : Network) → IsPlaceOf place end s → AtEnd L end event s a t → AtNode L place event s a t
own_node L place end event s a t p w =
    let line : w.happened.line_is ≡ p.line = same_Some w.happened.line_is p.line (sym w.happened.line_there ∙ p.line_there) in
    let at : place_at end.role w.happened.line_is ≡ place = ap (place_at end.role) line ∙ p.at_end in
    let node : w.happened.node ≡ p.node = same_user w.happened.node p.node (sym w.happened.node_there ∙ ap (λ i. slice_get s.nodes i) at ∙ p.node_there) in
    record { end = end; does = w; own_line = ap (λ (x : PlacedNode). x.line) node ∙ p.node_line; own_place = at }

-- ---- what is refused, and want of memory

refused_so : (e : Event) (s : Network) (expected : Option StepFault) (fault : StepFault) → step_fault e s ≡ expected → takes_memory e ≡ true → IsRefusedWith expected fault
    → (step_fault e s ≡ Some fault) ⊎ MayWant e s × (fault ≡ OutOfMemory)
refused_so e s expected fault is takes (inl f) = inl (is ∙ f)
refused_so e s expected fault is takes (inr f) = inr ((takes, subst IsLeftToNode (sym is) f.0), f.1)

-- what comes at the line of a node with users
pub acted : (L : LineService) (e : Event) (place : ℕ) (event : NodeEvent) (end : LineSide) (s t : Network) (r : Result answered.Answer StepFault) (p : IsPlaceOf place end s)
    → step_fault e s ≡ None → takes_memory e ≡ true
    → ((a : answered.Answer) → AtNode L place event s a t → StepOf L e s a t) → Acts L end event s r t → Happens L e s r t
acted L e place event end s t (Ok a) p is takes step acts =
    (is, step a (own_node L place end event s a t p (acts p.line p.node p.line_there (at_end_of place end s p))))
acted L e place event end s t (Err fault) p is takes step acts =
    let so = acts p.line p.node p.line_there (at_end_of place end s p) in
    (refused_so e s None fault is takes (inr (tt, so.0)), so.1)

-- what a user does
pub user_acted : (L : LineService) (e : Event) (place : ℕ) (event : UserEvent) (end : LineSide) (s t : Network) (r : Result answered.Answer StepFault) (p : IsPlaceOf place end s)
    → step_fault e s ≡ user_fault p.line.channels event p.node.node → takes_memory e ≡ true
    → ((a : answered.Answer) → AtNode L place (user_event_of event) s a t → StepOf L e s a t) → UserActs L end event s r t → Happens L e s r t
user_acted L e place event end s t (Ok a) p is takes step acts =
    let so = acts p.line p.node p.line_there (at_end_of place end s p) in
    (is ∙ so.0, step a (own_node L place end (user_event_of event) s a t p so.1))
user_acted L e place event end s t (Err fault) p is takes step acts =
    let so = acts p.line p.node p.line_there (at_end_of place end s p) in
    (refused_so e s (user_fault p.line.channels event p.node.node) fault is takes so.0, so.1)

-- ---- what users are refused

terminal_refused : (channels terminal : ℕ) (event : TerminalEvent) (n : NodeState)
    → at_terminal terminal (terminals_of n) ≡ user_fault channels (user_event.AtTerminal terminal event) n
terminal_refused channels terminal event (Pad p) = refl
terminal_refused channels terminal event (Host e) = refl

pub terminal_fault_at : (place : ℕ) (end : LineSide) (s : Network) (p : IsPlaceOf place end s) (terminal : ℕ) (event : TerminalEvent)
    → step_fault (AtTerminal place terminal event) s ≡ user_fault p.line.channels (user_event.AtTerminal terminal event) p.node.node
terminal_fault_at place end s p terminal event =
    ap (λ o. at_terminal terminal (terminals_there o)) (user_there place s p.node p.node_there)
    ∙ terminal_refused p.line.channels terminal event p.node.node

-- what a node would be refused with, were it a host
abbrev asked_fault : (on_line : Bool) → HostEvent → NodeState → Option StepFault
asked_fault on_line event n = if on_line then refused (event_fault (host_event_of event) n) else Some NoSuchCall

host_refused : (channels : ℕ) (event : HostEvent) (n : NodeState)
    → (if not (is_pad n) then asked_fault (is_on_line event channels) event n else Some NoSuchNode) ≡ user_fault channels (user_event.AtHost event) n
host_refused channels event (Pad p) = refl
host_refused channels event (Host e) = refl

at_host_is : (place : ℕ) (end : LineSide) (s : Network) (p : IsPlaceOf place end s) (fault : PlacedNode → Option StepFault)
    → at_host place s fault ≡ (if not (is_pad p.node.node) then fault p.node else Some NoSuchNode)
at_host_is place end s p fault =
    ap (λ o. if is_host o then at_node o fault else Some NoSuchNode) (user_there place s p.node p.node_there)

channel_is : (place : ℕ) (end : LineSide) (s : Network) (p : IsPlaceOf place end s) (channel : ℕ)
    → is_channel_at p.node.line channel s ≡ is_channel p.line.channels channel
channel_is place end s p channel =
    ap (λ (k : ℕ). is_channel_at k channel s) p.node_line ∙ ap (has_channel channel) p.line_there

-- a call is on no channel yet
pub call_fault_at : (place : ℕ) (end : LineSide) (s : Network) (p : IsPlaceOf place end s) (event : HostEvent) → is_on_line event p.line.channels ≡ true
    → at_host place s (λ n. refused (event_fault (host_event_of event) n.node)) ≡ user_fault p.line.channels (user_event.AtHost event) p.node.node
call_fault_at place end s p event on =
    at_host_is place end s p (λ n. refused (event_fault (host_event_of event) n.node))
    ∙ (λ i. if not (is_pad p.node.node) then asked_fault (sym on i) event p.node.node else Some NoSuchNode)
    ∙ host_refused p.line.channels event p.node.node

-- what is asked is asked on a channel
pub ask_fault_at : (place : ℕ) (end : LineSide) (s : Network) (p : IsPlaceOf place end s) (channel : ℕ) (event : HostEvent) → is_on_line event p.line.channels ≡ is_channel p.line.channels channel
    → at_host place s (λ n. on_channel channel s n (refused (event_fault (host_event_of event) n.node))) ≡ user_fault p.line.channels (user_event.AtHost event) p.node.node
ask_fault_at place end s p channel event on =
    at_host_is place end s p (λ n. on_channel channel s n (refused (event_fault (host_event_of event) n.node)))
    ∙ (λ i. if not (is_pad p.node.node) then asked_fault ((channel_is place end s p channel ∙ sym on) i) event p.node.node else Some NoSuchNode)
    ∙ host_refused p.line.channels event p.node.node

-- ---- lines

pub can_relink : (line : ℕ) (role : Role) (s : Network) → IsStanding s → (l : NetLine) → slice_get s.lines line ≡ Some l → UserStands s line l role
    → CanAct (record { line = line; role = role }) s
can_relink line role s st l there e = record {
  line = l;
  line_there = there;
  node = e.node;
  node_there = e.node_there;
  quiet = e.quiet;
  registered = registered_at line l s st there;
}

-- at an end of the line
pub relink_not_refused : (role : Role) (line : ℕ) (s : Network) (l : NetLine) → slice_get s.lines line ≡ Some l → step_fault (relink_at role line) s ≡ None
relink_not_refused Dte line s l there = ap (λ o. where_there_is (is_some o)) there
relink_not_refused Dce line s l there = ap (λ o. where_there_is (is_some o)) there

pub relink_step : (L : LineService) (role : Role) (line : ℕ) (s : Network) (a : answered.Answer) (t : Network) → RelinkStep L line role s a t → StepOf L (relink_at role line) s a t
relink_step L Dte line s a t h = h
relink_step L Dce line s a t h = h

relink_takes : (role : Role) (line : ℕ) → takes_memory (relink_at role line) ≡ true
relink_takes Dte line = refl
relink_takes Dce line = refl

pub relinked : (L : LineService) (line : ℕ) (role : Role) (s t : Network) (r : Result answered.Answer StepFault) → (l : NetLine) → slice_get s.lines line ≡ Some l → UserStands s line l role
    → Acts L (record { line = line; role = role }) Relinks s r t → Happens L (relink_at role line) s r t
relinked L line role s t r l there e acts = by r (acts l e.node there e.node_there)
  where
    none : step_fault (relink_at role line) s ≡ None
    none = relink_not_refused role line s l there

    by : (r : Result answered.Answer StepFault) → ActsSo L (record { line = line; role = role }) Relinks s r t → Happens L (relink_at role line) s r t
    by (Ok a) so = (none, relink_step L role line s a t (inl so))
    by (Err fault) so = (refused_so (relink_at role line) s None fault none (relink_takes role line) (inr (tt, so.0)), so.1)

pub delivered : (L : LineService) (line : ℕ) (d : Direction) (end : LineSide) → end.line ≡ line → end.role ≡ hearer d → (octets : List ℕ) (s : Network) (l : NetLine)
    → slice_get s.lines line ≡ Some l → (r : Result answered.Answer StepFault) (t : Network)
    → (a : answered.Answer) × (r ≡ Ok a) × AtEnd L end (Hears octets) s a t → Happens L (Deliver line d) s r t
delivered L line d end is_line is_role octets s l there r t w =
    let same : end ≡ record { line = line; role = hearer d } = λ i. record { line = is_line i; role = is_role i } in
    let P : LineSide → Type 0 = λ e. AtEnd L e (Hears octets) s w.0 t in
    let Q : Result answered.Answer StepFault → Type 0 = λ x. Happens L (Deliver line d) s x t in
    subst Q (sym w.1) (ap (λ o. where_there_is (is_some o)) there, inr (octets, inl (subst P same w.2)))

pub began_anew : (L : LineService) (place : ℕ) (end : LineSide) (s : Network) (r : Result answered.Answer StepFault) (t : Network) → IsPlaceOf place end s
    → (a : answered.Answer) × (r ≡ Ok a) × AtEnd L end Restarts s a t → Happens L (Restart place) s r t
began_anew L place end s r t p w =
    let Q : Result answered.Answer StepFault → Type 0 = λ x. Happens L (Restart place) s x t in
    subst Q (sym w.1) (ap (λ o. where_there_is (is_some o)) p.node_there, inl (own_node L place end Restarts s w.0 t p w.2))

set_kept : {X : Type 0} (xs : List X) (n : ℕ) (x : X) → slice_get xs n ≡ Some x → set xs n x ≡ xs
set_kept [] n x h = refl
set_kept (y ∷ ys) zero x h = ap (λ z. z ∷ ys) (sym (same_Some y x h))
set_kept (y ∷ ys) (suc n) x h = ap (λ zs. y ∷ zs) (set_kept ys n x h)

-- nothing is in flight, and nothing changes
pub nothing_arrives : (L : LineService) (line : ℕ) (d : Direction) (s : Network) (l : NetLine) → slice_get s.lines line ≡ Some l → (L.faithful → flying d l.flights ≡ [])
    → (a : answered.Answer) → a.frames.items ≡ [] → a.notes.items ≡ [] → a.text.items ≡ [] → a.outcome ≡ Delivered false → Happens L (Deliver line d) s (Ok a) s
nothing_arrives L line d s l there empty a frames notes text outcome = (
  ap (λ o. where_there_is (is_some o)) there,
  inl (record {
    nothing = record {
      frames = frames;
      notes = notes;
      text = text;
      answered = outcome;
      lost = record {
        line_is = l;
        line_there = there;
        flights = l.flights;
        rest = λ f. stays d l.flights (empty f);
        others = ap (λ lines. record s { lines = lines }) (sym (set_kept s.lines line l there));
      };
    };
    none = λ f. ap (λ (frames : List (List ℕ)). slice_get frames 0) (empty f);
  }),
)
  where
    stays : (d : Direction) (f : Flights) → flying d f ≡ [] → f ≡ without_first d f
    stays FromDte f none = λ i. record f { from_dte = (none ∙ sym (ap (drop 1) none)) i }
    stays FromDce f none = λ i. record f { from_dce = (none ∙ sym (ap (drop 1) none)) i }
