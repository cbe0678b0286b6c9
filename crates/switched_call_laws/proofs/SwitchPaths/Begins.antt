-- A network of switches as it is made; and the laws together.
use Rattle.std.specs.Prelude.{◌≡◌, ℕ, suc, ◌<◌, List, [], ◌∷◌, length, map}
use Rattle.std.proofs.Common.{refl, ap, subst}
use Rattle.std.proofs.lemmas.Option.{none-some}
use Rattle.call_records.specs.Register.{LinePlan}
use Rattle.record_laws.specs.CallPaths.World.{Plan, AreBetween, made_world}
use Rattle.record_laws.specs.CallPaths.Lines.{free_book}
use Rattle.record_laws.proofs.CallPaths.Making.{made_seen}
use Rattle.record_laws.proofs.CallPaths.Freeing.{made_lines}
use Rattle.record_laws.proofs.CallPaths.Forwarding.{made_handed_on}
use Rattle.record_laws.proofs.CallPaths.Hopping.{made_paths}
use Rattle.switched_call_laws.specs.SwitchPaths.Sight.{OwnLines}
use Rattle.switched_call_laws.specs.SwitchPaths.Network.{AllSeen}
use Rattle.switched_call_laws.specs.SwitchPaths.SwitchPathLaws.{BeginLaw, SwitchPathLaw}
use Rattle.switched_call_laws.proofs.SwitchPaths.SwitchEvents.{frame_after, timer_after, relink_after, elapse_after, out_after, restart_after}
use Rattle.switched_call_laws.proofs.SwitchPaths.Users.{user_after}
use Rattle.switched_call_laws.proofs.SwitchPaths.Changing.{change_after}
use Rattle.switched_call_laws.proofs.SwitchPaths.Promised.{addresses_are, promise}
use Rattle.switched_call_laws.proofs.SwitchPaths.Along.{placed_so}
use Rattle.switched_call_laws.proofs.SwitchPaths.Resting.{network_rests}

length_books : (plans : List LinePlan) → length (map free_book plans) ≡ length plans
length_books [] = refl
length_books (plan ∷ plans) = ap suc (length_books plans)

-- nothing is written yet
seen_made : (plan : Plan) (ats : OwnLines) (plans : List LinePlan) → AreBetween plan 0 plans → AllSeen plan ats [] (map free_book plans) (made_world plans) (map (λ line. []) plans)
seen_made plan ats plans between = record {
  seen = made_seen plan plans between;
  paths = λ switches tree. made_paths plan plans;
  lines = made_lines plans;
  joins = tt;
  handed = made_handed_on plan plans;
  sends = λ a o r known switch there. absurd (none-some o known);
  accepts = λ i p o there made switch. absurd (none-some p there);
}

begins : BeginLaw
begins plan ats xs lines plans m = record {
  alike = m.alike;
  switches = m.switches;
  tree = m.tree;
  planned = λ place x e. (m.each place x e).planned;
  ends = λ line role h switch. m.ends line role (subst (λ (k : ℕ). line < k) (length_books plans) h) switch;
  stays = λ place x e.
      let k = m.each place x e in
      record {
        tied = k.tied;
        calls = k.calls;
        sight = k.sight;
      };
  seen = seen_made plan ats plans m.between;
}

pub network_holds : SwitchPathLaw
network_holds = record {
  begins = begins;
  frames = frame_after;
  timers = timer_after;
  relinks = relink_after;
  elapses = elapse_after;
  out = out_after;
  restarts = restart_after;
  users = user_after;
  changes = change_after;
  addresses = addresses_are;
  promise = promise;
  placed = placed_so;
  rest = network_rests;
}
