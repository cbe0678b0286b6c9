-- A network that was made, and whose records are forgotten, is as it was made with the register of its making.
use Rattle.std.proofs.Common.{◌≡◌, refl, sym, ap, ◌∙◌, subst}
use Rattle.call_records.specs.Register.{Register, HasNoRecords}
use Rattle.frame_lines.specs.Lines.{LineService}
use Rattle.net_config.specs.declared.config.Config.{Config}
use Rattle.net_events.specs.Network.{Network}
use Rattle.network_laws.specs.Switched.InnerPromise.{NetworkPromise}
use Rattle.network_laws.proofs.Switched.PromiseAny.{promise_any}
use Rattle.line_sim.specs.Between.{IsBetweenEvents}
use Rattle.line_sim.specs.Courses.{HaveNoEvent}
use Rattle.line_sim.specs.Runs.{IsMadeBy}
use Rattle.live_laws.specs.Registers.{on, bare}
use Rattle.live_laws.specs.Living.{IsLive}
use Rattle.live_laws.proofs.Lives.{live_made}
use Rattle.live_net.specs.Making.{register_made, IsMadeBare}

-- the nodes of a network that was made so, and what is left of them
pub made_bare : (L : LineService) (config : Config) (net nodes left : Network) → IsMadeBy L config net
    → HaveNoEvent config net → nodes ≡ net → IsBetweenEvents L nodes → left ≡ bare nodes → IsMadeBare L config left
made_bare L config net nodes left made courses same between is = record {
  net = net;
  made = made;
  between = subst (λ (s : Network). IsBetweenEvents L s) same between;
  courses = courses;
  left_is = is ∙ ap bare same;
}

as_made : (L : LineService) (config : Config) (left : Network) (m : IsMadeBare L config left)
    → m.net ≡ on (register_made config) left
as_made L config left m =
    ap (λ (g : Register). on g m.net) m.made.made.register
    ∙ ap (λ (s : Network). on (register_made config) s) (sym m.left_is)

pub made_on : (L : LineService) (config : Config) (left : Network) → IsMadeBare L config left
    → IsMadeBy L config (on (register_made config) left)
made_on L config left m = subst (λ (s : Network). IsMadeBy L config s) (as_made L config left m) m.made

pub between_on : (L : LineService) (config : Config) (left : Network) → IsMadeBare L config left
    → IsBetweenEvents L (on (register_made config) left)
between_on L config left m = subst (λ (s : Network). IsBetweenEvents L s) (as_made L config left m) m.between

pub courses_on : (L : LineService) (config : Config) (left : Network) → IsMadeBare L config left
    → HaveNoEvent config (on (register_made config) left)
courses_on L config left m = subst (λ (s : Network). HaveNoEvent config s) (as_made L config left m) m.courses

pub promise_on : (L : LineService) (config : Config) (left : Network) → IsMadeBare L config left → L.faithful
    → NetworkPromise (on (register_made config) left)
promise_on L config left m = promise_any L (on (register_made config) left) (between_on L config left m).any

pub lives_made : (L : LineService) (config : Config) (left : Network) → IsMadeBare L config left → IsLive L left
lives_made L config left m = subst (λ (s : Network). IsLive L s) (sym m.left_is) (live_made L m.net m.between)

pub stored_made : (L : LineService) (config : Config) (left : Network) → IsMadeBare L config left
    → HasNoRecords left.register
stored_made L config left m =
    subst (λ (s : Network). HasNoRecords s.register) (sym m.left_is) (record { records = refl; pairs = refl })
