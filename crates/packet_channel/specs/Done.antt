-- A step of a channel, done.
use Rattle.std.specs.Prelude.{◌≡◌, ◌≤◌, Bool, List, length}
use Rattle.data_transfer.specs.Packets.{Note}
use Rattle.packet_channel.specs.Channel.{Channel, Step, owing, passes_limit}

-- the channel owes what the step says; whether that is one packet too many, so that the link has to be set up anew;
-- and what is noted, at most two changes
pub record IsDone (st : Step) (channel : Channel) (relink : Bool) (notes : List Note) : Type 0 where
  pub channel_is : channel ≡ owing st
  pub relink_is : relink ≡ passes_limit st.channel.owed st.owes
  pub notes_are : notes ≡ st.notes
  pub few : length notes ≤ 2
