-- A line of a switch: its end, the address of its calls, and the channels of it whose calls are joined.
use Rattle.std.specs.Prelude.{ℕ, Bool, false, ◌&&◌, List, [], map, Option, Some, None, is_some, is_none}
use Rattle.std.specs.List.{list_all}
use Rattle.lapb.specs.Machine.{can_offer}
use Rattle.packet_layer.specs.Layer.{next_packet, unread}
use Rattle.packet_end.specs.PacketEnd.{PacketEnd, restarted, at_rest}
use Rattle.switch_joins.specs.Joins.{Joined, gathers_nothing}

-- its end, the address that calls from it get as their calling address, if it has one, and of its channels 1, 2 and so
-- on those that are joined
pub record SwitchLine : Type 0 where
  pub end : PacketEnd
  pub address : Option (List ℕ)
  pub joined : List (Option Joined)

-- a line without an address is a trunk: a switch is at its other end too
abbrev pub is_trunk : Option SwitchLine → Bool
is_trunk None = false
is_trunk (Some l) = is_none l.address

-- ---- what happens at its end

abbrev pub with_end : (PacketEnd → PacketEnd) → SwitchLine → SwitchLine
with_end f l = record l { end = f l.end }

-- no notes of before are left
abbrev pub quieted : PacketEnd → PacketEnd
quieted e = record e { layer = unread e.layer; notes = [] }

abbrev pub may_offer : SwitchLine → Bool
may_offer l = can_offer l.end.line.link && is_some (next_packet l.end.layer).packet

-- its link is set up anew, and no call is left
abbrev pub without_joins : SwitchLine → SwitchLine
without_joins l = record l { end = restarted l.end; joined = map (λ o. None) l.joined }

-- ---- at rest

-- its link is up with nothing unacknowledged, nothing is owed, nothing waits to be sent or to be carried on, and nothing
-- is gathered
abbrev pub line_rests : SwitchLine → Bool
line_rests l = at_rest l.end && list_all gathers_nothing l.joined
