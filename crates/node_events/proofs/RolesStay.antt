-- No event changes the role of a switch on a line.
use Rattle.std.proofs.Common.{◌≡◌, ℕ, Bool, true, false, if◌then◌else◌, refl, ap}
use Rattle.std.specs.Prelude.{slice_get, unwrap_or}
use Rattle.link_timers.specs.declared.role.Role.TheVariants.{Dce}
use Rattle.switch_lines.specs.Lines.{role_on}
use Rattle.switch_lines.specs.Switch.{Switch, timer_runs, on_expiry, without_joins}
use Rattle.switch_laws.specs.Steps.Happening.{Brings, RunsOut, Relinks}
use Rattle.switch_laws.proofs.RolesStay.{all_roles, event_role}
use Rattle.net_events.specs.AtSwitch as at_switch
use Rattle.net_events.specs.AtSwitch.{SwitchEvent, switched}
use Rattle.net_events.specs.Network.{own_role}

role_stays : (event : SwitchEvent) (s : Switch) (m : ℕ) → role_on (slice_get (switched event s).lines m) ≡ role_on (slice_get s.lines m)
role_stays (at_switch.Hears own octets) s m = event_role own (Brings octets) m s
role_stays (at_switch.Expires own id) s m = by_running (timer_runs (slice_get s.lines own) id)
  where
    by_running : (ran : Bool) → role_on (slice_get (if ran then on_expiry own id s else s).lines m) ≡ role_on (slice_get s.lines m)
    by_running true = event_role own (RunsOut id) m s
    by_running false = refl
role_stays (at_switch.Relinks own) s m = event_role own Relinks m s
role_stays at_switch.Restarts s m = all_roles without_joins (λ l. refl) m s.lines

pub own_role_stays : (event : SwitchEvent) (s : Switch) (own : ℕ) → own_role (switched event s) own ≡ own_role s own
own_role_stays event s own = ap (λ o. unwrap_or o Dce) (role_stays event s own)
