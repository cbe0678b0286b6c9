-- Sets of channels of the lines of a switch.
use Rattle.std.specs.Prelude.{Bool, false, ◌&&◌, ◌||◌, nat_lt, slice_index_or, Option, Some, None}
use Rattle.number_set.specs.declared.NumberSet.{NumberSet}
use Rattle.number_set.specs.NumberSet as numbers
use Rattle.switch_joins.specs.declared.channels.SwitchChannel.{SwitchChannel}
use Rattle.switch_joins.specs.declared.channel_set.ChannelSet.{ChannelSet}
use Rattle.switch_joins.specs.Joins.{same_place}

-- no number
abbrev pub empty : NumberSet
empty = record { bits = 0 }

-- whether a channel is in a set
abbrev pub has : ChannelSet → SwitchChannel → Bool
has s p = numbers.has (slice_index_or s.by_line p.line empty) p.channel

-- whether a channel can be in a set
abbrev pub is_small : SwitchChannel → Bool
is_small p = nat_lt p.line 64 && nat_lt p.channel 63

-- what a join adds: both of its channels, each if it can be in a set
abbrev pub is_of_join : (p leg : SwitchChannel) → (other : Option SwitchChannel) → Bool
is_of_join p leg None = false
is_of_join p leg (Some other) = is_small leg && same_place p leg || is_small other && same_place p other
