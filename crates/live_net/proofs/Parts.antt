-- One process of a network in several goes on, also when frames are carried off or brought.
use Rattle.std.proofs.Common.{◌≡◌, ◌≢◌, ℕ, Bool, List, Option, Some, None, Result, Ok, Err, refl, sym, ◌∙◌, subst}
use Rattle.std.specs.Prelude.{IfOk, length, slice_get}
use Rattle.std.proofs.lemmas.List.{length-set}
use Rattle.call_records.specs.Register.{HasNoRecords}
use Rattle.frame_lines.specs.declared.line.Direction.{Direction}
use Rattle.frame_lines.specs.declared.line.Direction.TheVariants.{FromDte}
use Rattle.frame_lines.specs.Lines.{Flights, LineService}
use Rattle.net_config.specs.NetPlan.{NetPlan}
use Rattle.net_config.specs.declared.config.Config.{Config}
use Rattle.net_config.specs.Plan.{plan_of}
use Rattle.net_events.specs.Network.{NetLine, Network, LostAt}
use Rattle.net_events.specs.Opening.{IsMade}
use Rattle.net_events.specs.declared.answer.Answer.{Answer}
use Rattle.net_events.specs.declared.event.Event.{Event}
use Rattle.net_events.specs.declared.event.StepFault.{StepFault}
use Rattle.net_events.specs.declared.event.StepFault.TheVariants.{OutOfMemory}
use Rattle.net_nodes.specs.Carrying.{with_flights, HandedOn, PutAt, blind}
use Rattle.net_nodes.specs.Faults.{step_fault}
use Rattle.net_nodes.specs.Happening.{Happens, IsRefusedSo}
use Rattle.network_laws.proofs.Switched.UsersAny.{loss_any}
use Rattle.line_sim.proofs.Events.{made, happens}
use Rattle.node_events.specs.AnswerRoom.{IsWithinLimits, IsRoomy}
use Rattle.line_sim.proofs.Refusals.{refusals}
use Rattle.line_sim.proofs.Registered.{lost_registered}
use Rattle.line_sim.proofs.Stepped.{stepped}
use Rattle.live_laws.proofs.Blind.{happens_blind}
use Rattle.live_laws.specs.Registers.{on, bare}
use Rattle.live_laws.specs.Living.{IsLive}
use Rattle.live_laws.proofs.Apart.{happens_apart}
use Rattle.live_laws.proofs.Lives.{live_made}
use Rattle.live_net.specs.Making.{IsMadeBare}
use Rattle.live_net.specs.Parting.{HasLivedApart}
use Rattle.live_net.proofs.Events.{lives_answered, within, answer_is_none, refusal_is_none}

-- ---- the making

blind_made : (L : LineService) (plan : NetPlan) (s : Network) → IsMade L plan s → IsMade (blind L) plan s
blind_made L plan s m = record {
  node_count = m.node_count;
  nodes = m.nodes;
  line_count = m.line_count;
  lines = λ line l at.
      let x = m.lines line l at in
      record { flights = x.flights; there = x.there; sent = λ none. absurd none };
  register = m.register;
}

pub part_lives_made : (L : LineService) (config : Config) (left : Network) → IsMadeBare L config left
    → IsLive (blind L) left
part_lives_made L config left m =
    let between = made (blind L) (plan_of config) m.net m.made.planned (blind_made L (plan_of config) m.net m.made.made) in
    subst (λ (s : Network). IsLive (blind L) s) (sym m.left_is) (live_made (blind L) m.net between)

-- ---- an event

-- whatever register the process has
lived_apart : (L : LineService) (e : Event) (s : Network) (r : Result Answer StepFault) (t : Network)
    → Happens L e s r t → HasLivedApart L e s r (bare t)
lived_apart L e s r t h =
    let w = happens_apart L e s r t h in
    record {
      steps = λ g b.
          let blindly = happens_blind L e (on g s) r (on (w.write g) t) (w.happens g) in
          record {
            after = w.write g;
            happens = w.happens g;
            stepped = stepped (blind L) e (on g s) r (on (w.write g) t) b blindly;
            between = happens (blind L) e (on g s) r (on (w.write g) t) b blindly;
          };
      stored = record { records = refl; pairs = refl };
    }

-- once the records are forgotten
pub part_lives_answered : (L : LineService) (e : Event) (s : Network) (r : Result Answer StepFault) (t left : Network)
    → IsLive (blind L) s → Happens L e s r t → left ≡ bare t → IsLive (blind L) left
part_lives_answered L e s r t left live h is = lives_answered (blind L) e s r t left live (happens_blind L e s r t h) is

answered_apart : (L : LineService) (e : Event) (s : Network) (r : Result Answer StepFault) (t left : Network)
    → Happens L e s r t → left ≡ bare t → HasLivedApart L e s r left
answered_apart L e s r t left h is =
    subst (λ (x : Network). HasLivedApart L e s r x) (sym is) (lived_apart L e s r t h)

-- a refusal changed nothing
pub part_lives_refused : (L : LineService) (e : Event) (s : Network) (fault : StepFault) (t : Network)
    → IsLive (blind L) s → Happens L e s (Err fault) t → IsLive (blind L) t
part_lives_refused L e s fault t live h = subst (λ (x : Network). IsLive (blind L) x) (sym h.1) live

refused_apart : (L : LineService) (e : Event) (s : Network) (fault : StepFault) (t : Network) → IsLive (blind L) s
    → Happens L e s (Err fault) t → HasLivedApart L e s (Err fault) t
refused_apart L e s fault t live h =
    let forgotten = lived_apart L e s (Err fault) t h in
    record {
      steps = λ g b.
          let step = forgotten.steps g b in
          record { after = step.after; happens = step.happens; stepped = step.stepped; between = step.between };
      stored = subst (λ (x : Network). HasNoRecords x.register) (sym h.1) live.stored;
    }

-- what a step promises, of the process before it, the answer that is lent, and the process after it
pub record PartSteps (L : LineService) (e : Event) (old : Network) (r : Result Answer StepFault) (left : Network)
    : Type 0 where
  pub lived : HasLivedApart L e old r left
  pub faults : IsRefusedSo (step_fault e old) r
  pub memory : r ≢ Err OutOfMemory
  pub limits : IfOk r IsWithinLimits

pub part_answered : (L : LineService) (e : Event) (s old : Network) (answer : Answer) (t left : Network) → s ≡ old
    → Happens L e s (Ok answer) t → left ≡ bare t → IsRoomy answer → PartSteps L e old (Ok answer) left
part_answered L e s old answer t left same h is roomy =
    subst (λ (x : Network). PartSteps L e x (Ok answer) left) same (record {
      lived = answered_apart L e s (Ok answer) t left h is;
      faults = refusals L e s (Ok answer) t h;
      memory = answer_is_none answer;
      limits = within answer roomy;
    })

pub part_refused : (L : LineService) (e : Event) (s old : Network) (r : Result Answer StepFault) (fault : StepFault)
    (t : Network) → s ≡ old → Err fault ≡ r → IsLive (blind L) s → Happens L e s (Err fault) t
    → fault ≢ OutOfMemory → PartSteps L e old r t
part_refused L e s old r fault t same is live h wants_none =
    let at_fault : PartSteps L e s (Err fault) t = record {
      lived = refused_apart L e s fault t live h;
      faults = refusals L e s (Err fault) t h;
      memory = refusal_is_none fault wants_none;
      limits = tt;
    } in
    subst (λ (x : Network). PartSteps L e x r t) same
    (subst (λ (x : Result Answer StepFault). PartSteps L e s x t) is at_fault)

-- ---- frames that are carried off or brought

-- other frames are in flight on a line
with_flights_live : (L : LineService) (line : ℕ) (l : NetLine) (f : Flights) (s : Network)
    → slice_get s.lines line ≡ Some l → IsLive (blind L) s → IsLive (blind L) (with_flights line l f s)
with_flights_live L line l f s at live =
    let before : Network = on live.register s in
    let lost : LostAt (blind L) line FromDte before (with_flights line l f before)
    = record { line_is = l; line_there = at; flights = f; rest = λ none. absurd none; others = refl } in
    record {
      register = live.register;
      between = record {
        any = loss_any (blind L) line FromDte before (with_flights line l f before) live.between.any lost;
        registered =
            lost_registered (blind L) line FromDte before (with_flights line l f before) live.between.registered lost;
      };
      registered = live.registered ∙ sym (length-set s.lines line (record l { flights = f }));
      stored = live.stored;
    }

-- on a line that is there, and on one that is not
by_line : (L : LineService) (line : ℕ) (s t : Network) → IsLive (blind L) s
    → ((l : NetLine) → slice_get s.lines line ≡ Some l → IsLive (blind L) t) → (slice_get s.lines line ≡ None → t ≡ s)
    → IsLive (blind L) t
by_line L line s t live there none = by (slice_get s.lines line) refl
  where
    by : (found : Option NetLine) → slice_get s.lines line ≡ found → IsLive (blind L) t
    by None e = subst (λ (x : Network). IsLive (blind L) x) (sym (none e)) live
    by (Some l) e = there l e

pub carried_off : (L : LineService) (line : ℕ) (d : Direction) (s t : Network) (taken : Bool) (frame : List ℕ)
    → IsLive (blind L) s → ((l : NetLine) → slice_get s.lines line ≡ Some l → HandedOn L line d l s taken frame t)
    → (slice_get s.lines line ≡ None → t ≡ s) → IsLive (blind L) t
carried_off L line d s t taken frame live handed none =
    by_line L line s t live
    (λ l at.
    let h = handed l at in
    subst (λ (x : Network). IsLive (blind L) x) (sym h.others) (with_flights_live L line l h.flights s at live)) none

pub brought : (L : LineService) (line : ℕ) (d : Direction) (frame : List ℕ) (s t : Network) → IsLive (blind L) s
    → ((l : NetLine) → slice_get s.lines line ≡ Some l → PutAt L line d frame l s t)
    → (slice_get s.lines line ≡ None → t ≡ s) → IsLive (blind L) t
brought L line d frame s t live put none =
    by_line L line s t live
    (λ l at.
    let h = put l at in
    subst (λ (x : Network). IsLive (blind L) x) (sym h.others) (with_flights_live L line l h.flights s at live)) none
