-- What is told of an event whose answer was lent.
use Rattle.std.proofs.Common.{◌≡◌, ◌≢◌, ◌<◌, Bool, false, Some, Result, Ok, Err, refl, sym, ap, ◌∙◌, subst}
use Rattle.std.specs.Borrow.{Bor}
use Rattle.frame_lines.specs.Lines.{LineService}
use Rattle.net_events.specs.declared.event.Event.{Event}
use Rattle.net_events.specs.declared.event.StepFault.{StepFault}
use Rattle.net_events.specs.declared.event.StepFault.TheVariants.{OutOfMemory}
use Rattle.net_events.specs.declared.answer.Answer.{Answer}
use Rattle.net_events.specs.Network.{Network}
use Rattle.network_laws.specs.DueCount.{all_due}
use Rattle.net_nodes.specs.Due.{net_due}
use Rattle.line_sim.specs.Stepping.{lent, HasStepped}
use Rattle.answer_texts.specs.Answers.{Names, answer_text}
use Rattle.net_player.specs.Playing.{Tells, has_arrived}

module _ (L : LineService) (e : Event) (s t : Network) (r : Result (Bor Answer) StepFault) (w : HasStepped L e s (lent r) t) where
  pub told : (names : Names) (traces arrived : Bool) (a : Bor Answer) → r ≡ Ok a → arrived ≡ has_arrived a.now.outcome
      → Tells L names traces arrived e s (answer_text names traces e (Ok a.now)) t
  told names traces arrived a is came = record {
    answer = Ok a.now;
    happens = subst (λ (x : Result (Bor Answer) StepFault). Rattle.net_nodes.specs.Happening.Happens L e s (lent x) t) is w.happens;
    had_memory = λ memory. absurd (cc);
    told = refl;
    came = came;
  }

  pub told_refusal : (names : Names) (traces : Bool) (fault : StepFault) → r ≡ Err fault → fault ≢ OutOfMemory
      → Tells L names traces false e s (answer_text names traces e (Err fault)) t
  told_refusal names traces fault is memory = record {
    answer = Err fault;
    happens = subst (λ (x : Result (Bor Answer) StepFault). Rattle.net_nodes.specs.Happening.Happens L e s (lent x) t) is w.happens;
    had_memory = λ wants. memory (let same : fault ≡ OutOfMemory = cc in same);
    told = refl;
    came = refl;
  }

  pub fewer_then : (fault : StepFault) → r ≡ Err fault → fault ≢ OutOfMemory → net_due s ≡ Some e → all_due t.nodes < all_due s.nodes
  fewer_then fault is memory due =
      w.fewer_due due (λ wants. memory (let same : ◌≡◌ {A = Result Answer StepFault} (Err fault) (Err OutOfMemory) = ap lent (sym is) ∙ wants in cc))

  pub fewer_answered : (a : Bor Answer) → r ≡ Ok a → net_due s ≡ Some e → all_due t.nodes < all_due s.nodes
  fewer_answered a is due =
      w.fewer_due due (λ wants. absurd (let same : ◌≡◌ {A = Result Answer StepFault} (Ok a.now) (Err OutOfMemory) = ap lent (sym is) ∙ wants in cc))

  -- what happened, and what did not
  pub happened : (a : Bor Answer) → r ≡ Ok a → Rattle.net_nodes.specs.Happening.Happens L e s (Ok a.now) t
  happened a is = subst (λ (x : Result (Bor Answer) StepFault). Rattle.net_nodes.specs.Happening.Happens L e s (lent x) t) is w.happens

  pub did_not_happen : (fault : StepFault) → r ≡ Err fault → Rattle.net_nodes.specs.Happening.Happens L e s (Err fault) t
  did_not_happen fault is = subst (λ (x : Result (Bor Answer) StepFault). Rattle.net_nodes.specs.Happening.Happens L e s (lent x) t) is w.happens
