-- A network that keeps no records goes on as one that keeps them.
use Rattle.std.proofs.Common.{◌≡◌, ℕ, Result, refl, sym, ap, ◌∙◌}
use Rattle.std.specs.Prelude.{length}
use Rattle.call_records.specs.Register.{Register}
use Rattle.frame_lines.specs.Lines.{LineService}
use Rattle.net_events.specs.Network.{Network, all_elapsed}
use Rattle.net_events.specs.declared.answer.Answer.{Answer}
use Rattle.net_events.specs.declared.event.Event.{Event}
use Rattle.net_events.specs.declared.event.StepFault.{StepFault}
use Rattle.net_nodes.specs.Happening.{Happens}
use Rattle.line_sim.specs.Between.{IsBetweenEvents}
use Rattle.line_sim.proofs.Events.{happens, elapsed}
use Rattle.line_sim.proofs.Stepped.{stepped}
use Rattle.live_laws.specs.Registers.{on, bare}
use Rattle.live_laws.specs.Writing.{WritesSo}
use Rattle.live_laws.specs.Living.{IsLive, StepsOn, HasLived}
use Rattle.live_laws.proofs.Apart.{happens_apart}

-- the event writes the same into each register with which the network was one between events
steps_on : (L : LineService) (e : Event) (s : Network) (r : Result Answer StepFault) (t : Network) → WritesSo L e s r t
    → (g : Register) → IsBetweenEvents L (on g s) → StepsOn L e g s r (bare t)
steps_on L e s r t w g b = record {
  after = w.write g;
  stepped = stepped L e (on g s) r (on (w.write g) t) b (w.happens g);
  between = happens L e (on g s) r (on (w.write g) t) b (w.happens g);
}

pub lived : (L : LineService) (e : Event) (s : Network) (r : Result Answer StepFault) (t : Network) → Happens L e s r t
    → HasLived L e s r (bare t)
lived L e s r t h = record {
  steps = steps_on L e s r t (happens_apart L e s r t h);
  stored = record { records = refl; pairs = refl };
}

pub lives_on : (L : LineService) (e : Event) (s : Network) (r : Result Answer StepFault) (t : Network) → IsLive L s
    → Happens L e s r t → IsLive L (bare t)
lives_on L e s r t live h =
    let w = happens_apart L e s r t h in
    let after = happens L e (on live.register s) r (on (w.write live.register) t) live.between (w.happens live.register) in
    record {
      register = w.write live.register;
      between = after;
      registered =
          ap (λ (g : Register). length g.lines) w.here ∙ w.lines s.register ∙ live.registered
          ∙ sym live.between.registered ∙ sym (w.lines live.register) ∙ after.registered;
      stored = record { records = refl; pairs = refl };
    }

-- time passes
pub live_elapsed : (L : LineService) (s : Network) (ticks : ℕ) → IsLive L s → IsLive L (all_elapsed ticks s)
live_elapsed L s ticks live = record {
  register = live.register;
  between = elapsed L (on live.register s) ticks live.between;
  registered = live.registered;
  stored = live.stored;
}

-- a network without records, as it is made
pub live_made : (L : LineService) (s : Network) → IsBetweenEvents L s → IsLive L (bare s)
live_made L s b = record {
  register = s.register;
  between = b;
  registered = b.registered;
  stored = record { records = refl; pairs = refl };
}
