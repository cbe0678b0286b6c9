-- What is left to do at the end of an event if nothing waits on joins of other lines: only those of these lines are
-- relayed.
use Rattle.std.specs.Prelude.{ℕ, zero, suc, ◌*◌, if◌then◌else◌, List, length, map}
use Rattle.std.specs.List.{list_any}
use Rattle.link_timers.specs.declared.timers.TimerId.{TimerId}
use Rattle.lapb.specs.Machine.{Octets}
use Rattle.packet_end.specs.PacketEnd.{received, after_timer, relinked, settled}
use Rattle.address_routes.specs.Routes.{RouteMap}
use Rattle.switch_lines.specs.Lines.{SwitchLine}
use Rattle.switch_lines.specs.Relay.{relayed_from, legs_of}
use Rattle.switch_lines.specs.Switch.{Switch, with_end, acted, all_begun, all_relinked, may_offer, offering_from}
use Rattle.switch_lines.specs.Switch.{offered_from, lines_first}

abbrev pub relayed_alone : (lines : List ℕ) → List SwitchLine → List SwitchLine
relayed_alone lines ls = relayed_from (legs_of lines ls) ls

abbrev pub rounds_alone : (most : ℕ) → (lines : List ℕ) → List SwitchLine → List SwitchLine
rounds_alone zero lines ls = relayed_alone lines ls
rounds_alone (suc most) lines ls =
    if list_any may_offer (relayed_alone lines ls)
    then rounds_alone most (offering_from 0 (relayed_alone lines ls))
    (offered_from (length ls) 0 (relayed_alone lines ls))
    else relayed_alone lines ls

abbrev pub offered_alone : (lines : List ℕ) → List SwitchLine → List SwitchLine
offered_alone lines ls = rounds_alone (7 * length ls) lines ls

abbrev pub finished_alone : RouteMap → (line : ℕ) → List SwitchLine → List SwitchLine
finished_alone routes n ls =
    map (with_end settled) (offered_alone (lines_first n routes ls) (all_relinked (length ls) routes ls))

-- ---- events

abbrev pub on_frame_alone : (line : ℕ) → Octets → Switch → Switch
on_frame_alone n octets s = record s {
  lines = finished_alone s.routes n (acted s.routes n (λ e. received e octets) (all_begun s.lines));
}

abbrev pub on_expiry_alone : (line : ℕ) → TimerId → Switch → Switch
on_expiry_alone n id s = record s {
  lines = finished_alone s.routes n (acted s.routes n (λ e. after_timer e id) (all_begun s.lines));
}

abbrev pub relink_alone : (line : ℕ) → Switch → Switch
relink_alone n s = record s {
  lines = finished_alone s.routes n (acted s.routes n relinked (all_begun s.lines));
}
