-- Which joins an event has to relay: those with a leg on the line of the event, or on one whose link is set up anew.
use Rattle.std.specs.Prelude.{◌≡◌, ℕ, Bool, false, ◌||◌, ◌==◌, if◌then◌else◌, List, [], ◌∷◌, length}
use Rattle.std.specs.Prelude.{Option, Some, None}
use Rattle.std.specs.List.{list_any}
use Rattle.link_timers.specs.declared.timers.TimerId.{TimerId}
use Rattle.data_transfer.specs.Traffic.{Taken}
use Rattle.packet_end.specs.PacketEnd as end
use Rattle.packet_end.specs.PacketEnd.{PacketEnd}
use Rattle.switch_joins.specs.declared.channels.SwitchChannel.{SwitchChannel}
use Rattle.switch_joins.specs.Joins.{Joined}
use Rattle.switch_lines.specs.Lines.{SwitchLine, joined_at, front_at, takes_at, places}
use Rattle.switch_lines.specs.Relay.{due_at, relayed_from, all_relayed}
use Rattle.switch_lines.specs.Switch.{Switch, acted, all_begun, all_relinked, offered_from, offering_from, on_frame}
use Rattle.switch_lines.specs.Switch.{on_expiry, relink}
use Rattle.switch_lines.specs.Alone.{on_frame_alone, on_expiry_alone, relink_alone}
use Rattle.switch_laws.specs.World.{World}
use Rattle.switch_laws.specs.Joined.{IsSwitch, HasRelayedAll}
use Rattle.switch_laws.specs.Stays.{relinked_in}

abbrev pub is_one_of : List ℕ → ℕ → Bool
is_one_of lines n = list_any (λ m. m == n) lines

abbrev pub joined_to : List ℕ → Option Joined → Bool
joined_to lines None = false
joined_to lines (Some j) = is_one_of lines j.other.line

-- the channel is on one of the lines, or joined to one that is
abbrev pub is_concerned : List ℕ → List SwitchLine → SwitchChannel → Bool
is_concerned lines ls p = is_one_of lines p.line || joined_to lines (joined_at ls p)

abbrev pub concerned : List ℕ → List SwitchLine → List SwitchChannel → List SwitchChannel
concerned lines ls [] = []
concerned lines ls (p ∷ ps) = if is_concerned lines ls p then p ∷ concerned lines ls ps else concerned lines ls ps

-- all that waits is relayed on the joins of these lines alone
abbrev pub relayed_on : List ℕ → List SwitchLine → List SwitchLine
relayed_on lines ls = relayed_from (concerned lines ls (places ls)) ls

-- on no other channel anything waits that the other leg takes
abbrev pub HasRelayedBut : List ℕ → List SwitchLine → Type 0
HasRelayedBut lines ls = (p : SwitchChannel) (j : Joined) (t : Taken) → is_concerned lines ls p ≡ false
    → joined_at ls p ≡ Some j → front_at ls p ≡ Some t → takes_at ls j.other (due_at ls p j t) ≡ false

-- ---- the lines on which something happened in an event of line n, and the switch before its relay

abbrev pub lines_of_event : (line : ℕ) → (PacketEnd → PacketEnd) → Switch → List ℕ
lines_of_event n f s = n ∷ relinked_in n f s

abbrev pub before_relay : (line : ℕ) → (PacketEnd → PacketEnd) → Switch → List SwitchLine
before_relay n f s =
    let ls = acted s.routes n f (all_begun s.lines) in all_relinked (length ls) s.routes ls

-- its relay is that of the joins with a leg on one of these lines
abbrev pub RelaysItsOwn : (line : ℕ) → (PacketEnd → PacketEnd) → Switch → Type 0
RelaysItsOwn n f s = all_relayed (before_relay n f s) ≡ relayed_on (lines_of_event n f s) (before_relay n f s)

-- whatever joins are passed over, if nothing waits on them that is taken, the relay of the others is that of all; and
-- so it is in each event of a switch on which all was relayed before. Once packets were offered in turn, what has to be
-- relayed are the joins with a leg on a line whose link took one. So the event is that in which these are relayed alone
pub record ConcernLaw : Type 0 where
  pub relays : (lines : List ℕ) (ls : List SwitchLine) (w : World) → IsSwitch ls w → HasRelayedBut lines ls
      → all_relayed ls ≡ relayed_on lines ls
  pub frame : (n : ℕ) (octets : List ℕ) (s : Switch) (w : World) → IsSwitch s.lines w
      → HasRelayedAll s.lines → RelaysItsOwn n (λ e. end.received e octets) s
  pub timer : (n : ℕ) (id : TimerId) (s : Switch) (w : World) → IsSwitch s.lines w → HasRelayedAll s.lines
      → RelaysItsOwn n (λ e. end.after_timer e id) s
  pub relinks : (n : ℕ) (s : Switch) (w : World) → IsSwitch s.lines w → HasRelayedAll s.lines
      → RelaysItsOwn n end.relinked s
  pub offers : (ls : List SwitchLine) (w : World) → IsSwitch ls w → HasRelayedAll ls
      → all_relayed (offered_from (length ls) 0 ls) ≡ relayed_on (offering_from 0 ls) (offered_from (length ls) 0 ls)
  pub frame_alone : (n : ℕ) (octets : List ℕ) (s : Switch) (w : World) → IsSwitch s.lines w
      → HasRelayedAll s.lines → on_frame_alone n octets s ≡ on_frame n octets s
  pub timer_alone : (n : ℕ) (id : TimerId) (s : Switch) (w : World) → IsSwitch s.lines w → HasRelayedAll s.lines
      → on_expiry_alone n id s ≡ on_expiry n id s
  pub relinks_alone : (n : ℕ) (s : Switch) (w : World) → IsSwitch s.lines w → HasRelayedAll s.lines
      → relink_alone n s ≡ relink n s
