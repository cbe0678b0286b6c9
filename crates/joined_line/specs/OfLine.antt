-- What changes on one line: requests are asked of a channel, or the direction from a joined channel changes.
use Rattle.std.specs.Prelude.{ℕ, List, [], ◌∷◌, Option, Some, None}
use Rattle.packet_channel.specs.Channel.{Request}
use Rattle.packet_channel.specs.Channel.Request.{Releasing}
use Rattle.packet_end.specs.PacketEnd.{asked}
use Rattle.switch_joins.specs.Direction.{Direction, releasable, released}
use Rattle.switch_joins.specs.Joins.{Joined, nth_joined, with_nth_kept}
use Rattle.joined_line.specs.SwitchLine.{SwitchLine}

-- this is asked of a channel, one after the other
abbrev pub asked_on : (channel : ℕ) → List Request → SwitchLine → SwitchLine
asked_on c [] l = l
asked_on c (q ∷ qs) l = asked_on c qs (record l { end = asked l.end c q })

-- the direction from a joined channel is changed
abbrev pub kept_on : (channel : ℕ) → (Direction → Direction) → SwitchLine → SwitchLine
kept_on c f l = record l { joined = with_nth_kept l.joined c f }

-- what may be released on a joined channel is
abbrev pub released_if : Option Joined → (channel : ℕ) → SwitchLine → SwitchLine
released_if None c l = l
released_if (Some j) c l = record l { end = asked l.end c (Releasing (releasable j.kept.held)) }

abbrev pub freed_on : (channel : ℕ) → SwitchLine → SwitchLine
freed_on c l = released_if (nth_joined l.joined c) c (kept_on c released l)
