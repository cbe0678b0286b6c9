-- What an event leaves of a network that forgets what was written of calls.
use Rattle.std.proofs.Common.{◌≡◌, ◌≢◌, Result, Ok, Err, sym, subst, arith}
use Rattle.std.specs.Prelude.{IfOk}
use Rattle.call_records.specs.Register.{HasNoRecords}
use Rattle.frame_lines.specs.Lines.{LineService}
use Rattle.net_events.specs.declared.answer.Answer.{Answer}
use Rattle.net_events.specs.declared.event.Event.{Event}
use Rattle.net_events.specs.declared.event.StepFault.{StepFault}
use Rattle.net_events.specs.declared.event.StepFault.TheVariants.{OutOfMemory}
use Rattle.net_events.specs.Network.{Network}
use Rattle.net_nodes.specs.Faults.{step_fault}
use Rattle.net_nodes.specs.Happening.{Happens, IsRefusedSo}
use Rattle.line_sim.proofs.Refusals.{refusals}
use Rattle.node_events.specs.AnswerRoom.{IsWithinLimits, IsRoomy}
use Rattle.live_laws.specs.Registers.{bare}
use Rattle.live_laws.specs.Living.{IsLive, HasLived}
use Rattle.live_laws.proofs.Lives.{lived, lives_on}

-- ---- what is left

-- once the records are forgotten
pub lives_answered : (L : LineService) (e : Event) (s : Network) (r : Result Answer StepFault) (t left : Network)
    → IsLive L s → Happens L e s r t → left ≡ bare t → IsLive L left
lives_answered L e s r t left live h is = subst (λ (x : Network). IsLive L x) (sym is) (lives_on L e s r t live h)

lived_answered : (L : LineService) (e : Event) (s : Network) (r : Result Answer StepFault) (t left : Network)
    → Happens L e s r t → left ≡ bare t → HasLived L e s r left
lived_answered L e s r t left h is = subst (λ (x : Network). HasLived L e s r x) (sym is) (lived L e s r t h)

-- a refusal changed nothing
pub lives_refused : (L : LineService) (e : Event) (s : Network) (fault : StepFault) (t : Network) → IsLive L s
    → Happens L e s (Err fault) t → IsLive L t
lives_refused L e s fault t live h = subst (λ (x : Network). IsLive L x) (sym h.1) live

lived_refused : (L : LineService) (e : Event) (s : Network) (fault : StepFault) (t : Network) → IsLive L s
    → Happens L e s (Err fault) t → HasLived L e s (Err fault) t
lived_refused L e s fault t live h =
    let forgotten = lived L e s (Err fault) t h in
    record {
      steps = λ g b.
          let step = forgotten.steps g b in
          record { after = step.after; stepped = step.stepped; between = step.between };
      stored = subst (λ (x : Network). HasNoRecords x.register) (sym h.1) live.stored;
    }

-- ---- memory

-- an answer with room for those of any event has no more than they may have
pub within : (a : Answer) → IsRoomy a → IsWithinLimits a
within a roomy = record {
  frames = roomy.put;
  notes = omega (arith, roomy.notes, a.notes.ok.0, a.notes.ok.1);
  text = roomy.shown;
}

pub answer_is_none : (a : Answer) → ◌≢◌ {A = Result Answer StepFault} (Ok a) (Err OutOfMemory)
answer_is_none a e = cc

pub refusal_is_none : (fault : StepFault) → fault ≢ OutOfMemory
    → ◌≢◌ {A = Result Answer StepFault} (Err fault) (Err OutOfMemory)
refusal_is_none fault wants_none e = wants_none (cc)

-- ---- what a step promises, of the network before it, the answer that is lent, and the network after it

pub record Steps (L : LineService) (e : Event) (old : Network) (r : Result Answer StepFault) (left : Network)
    : Type 0 where
  pub lived : HasLived L e old r left
  pub faults : IsRefusedSo (step_fault e old) r
  pub memory : r ≢ Err OutOfMemory
  pub limits : IfOk r IsWithinLimits

pub steps_answered : (L : LineService) (e : Event) (s old : Network) (answer : Answer) (t left : Network) → s ≡ old
    → Happens L e s (Ok answer) t → left ≡ bare t → IsRoomy answer → Steps L e old (Ok answer) left
steps_answered L e s old answer t left same h is roomy =
    subst (λ (x : Network). Steps L e x (Ok answer) left) same (record {
      lived = lived_answered L e s (Ok answer) t left h is;
      faults = refusals L e s (Ok answer) t h;
      memory = answer_is_none answer;
      limits = within answer roomy;
    })

pub steps_refused : (L : LineService) (e : Event) (s old : Network) (r : Result Answer StepFault) (fault : StepFault)
    (t : Network) → s ≡ old → Err fault ≡ r → IsLive L s → Happens L e s (Err fault) t
    → fault ≢ OutOfMemory → Steps L e old r t
steps_refused L e s old r fault t same is live h wants_none =
    let at_fault : Steps L e s (Err fault) t = record {
      lived = lived_refused L e s fault t live h;
      faults = refusals L e s (Err fault) t h;
      memory = refusal_is_none fault wants_none;
      limits = tt;
    } in
    subst (λ (x : Network). Steps L e x r t) same
    (subst (λ (x : Result Answer StepFault). Steps L e s x t) is at_fault)
