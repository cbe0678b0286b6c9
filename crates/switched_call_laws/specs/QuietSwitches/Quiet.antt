-- A switch between two events, whatever arrives on its lines: each event leaves its ends as a host's end is left.
use Rattle.std.specs.Prelude.{◌≡◌, ℕ, zero, suc, List, length, map, slice_get, Some}
use Rattle.link_timers.specs.declared.timers.TimerId.{TimerId}
use Rattle.lapb.specs.Machine.{Octets}
use Rattle.address_routes.specs.Routes.{RouteMap}
use Rattle.user_nodes.specs.Node.{Host}
use Rattle.node_laws.specs.Quiet.{IsQuiet}
use Rattle.joined_line.specs.declared.config.SwitchLineConfig.{SwitchLineConfig}
use Rattle.switch_lines.specs.Lines.{SwitchLine}
use Rattle.switch_lines.specs.Making.{made}
use Rattle.switch_lines.specs.Switch.{Switch, on_frame, on_timer, relink, restart, elapse, without_frame}
use Rattle.switched_call_laws.specs.SwitchRecords.Kept.{all_frames_out}
use Rattle.switched_call_laws.specs.SwitchRecords.Tied.{gone_out}

-- at the end of each line nothing is left of the last event, as at a host with that end: no note, also none in its
-- layer, no frame, and no relink that is asked for
abbrev pub AreQuiet : List SwitchLine → Type 0
AreQuiet ls = (n : ℕ) (l : SwitchLine) → slice_get ls n ≡ Some l → IsQuiet (Host l.end)

abbrev pub IsQuietSwitch : Switch → Type 0
IsQuietSwitch s = AreQuiet s.lines

-- ---- the frames of the lines go out

abbrev pub drained : Switch → Switch
drained s = record s { lines = map all_frames_out s.lines }

-- those of so many lines, one line after the other, from this one on
abbrev pub all_gone_out : (count line : ℕ) → Switch → Switch
all_gone_out zero n s = s
all_gone_out (suc count) n s = all_gone_out count (suc n) (gone_out n s)

-- it makes no difference
abbrev pub GoneOutLaw : Type 0
GoneOutLaw = (s : Switch) → all_gone_out (length s.lines) 0 s ≡ drained s

-- ---- events

-- any octets, whoever sent them
abbrev pub FrameQuietLaw : Type 0
FrameQuietLaw = (n : ℕ) (octets : Octets) (s : Switch) → IsQuietSwitch s → IsQuietSwitch (drained (on_frame n octets s))

-- whether the timer runs or not
abbrev pub TimerQuietLaw : Type 0
TimerQuietLaw = (n : ℕ) (id : TimerId) (s : Switch) → IsQuietSwitch s → IsQuietSwitch (drained (on_timer n id s))

abbrev pub RelinkQuietLaw : Type 0
RelinkQuietLaw = (n : ℕ) (s : Switch) → IsQuietSwitch s → IsQuietSwitch (drained (relink n s))

-- from any state
abbrev pub RestartQuietLaw : Type 0
RestartQuietLaw = (s : Switch) → IsQuietSwitch (drained (restart s))

abbrev pub TimeQuietLaw : Type 0
TimeQuietLaw = (ticks : ℕ) (s : Switch) → IsQuietSwitch s → IsQuietSwitch (elapse ticks s)

abbrev pub OutQuietLaw : Type 0
OutQuietLaw = (n : ℕ) (s : Switch) → IsQuietSwitch s → IsQuietSwitch (without_frame n s)

-- ---- the making, of any lines, whatever the switch's role on each

abbrev pub MakingQuietLaw : Type 0
MakingQuietLaw = (routes : RouteMap) (lines : List SwitchLineConfig) → IsQuietSwitch (drained (made routes lines))
