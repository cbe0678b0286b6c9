-- What each line of a network promises.
use Rattle.std.specs.Prelude.{◌≡◌, ℕ, true, false, length, slice_get, Some, is_some}
use Rattle.link_timers.specs.declared.role.Role.{Role}
use Rattle.link_timers.specs.declared.role.Role.TheVariants.{Dte}
use Rattle.packet_channel.specs.Channel.{Channel, may_accept, in_transfer}
use Rattle.packet_layer.specs.Layer.{channel_of}
use Rattle.x25_pad.specs.Pad.{PadState}
use Rattle.call_records.specs.Records.{RecordValue}
use Rattle.call_records.specs.Book.{Slot, side_of, slot_at}
use Rattle.call_records.specs.Register.{Register, book_at}
use Rattle.record_laws.specs.Books.Headline.{has_call, IsPaired, HasCallee}
use Rattle.node_laws.specs.Quiet.{IsQuiet}
use Rattle.node_laws.specs.Pads.Courses.{PadSends}
use Rattle.node_laws.specs.LineRecords.Confirmed.{SaysConfirmed}
use Rattle.node_laws.specs.LineRecords.Counted.{ShowsCounts}
use Rattle.user_nodes.specs.Node.{Pad, end_of}
use Rattle.net_events.specs.Network.{PlacedNode, User, NetLine, Network, place_at}

-- the register's slot of a channel at the end of a role of a line
abbrev pub its_slot : (line : ℕ) → Role → (channel : ℕ) → Register → Slot
its_slot line role channel g = slot_at role channel (book_at line g)

-- at the end of a role of a line: no frame or note waits at the node to be taken; the register has the end as this
-- node's, register and packet layer have the line's channels, and a channel has a present record exactly where the
-- packet layer has a call there; a call that may be accepted is one that came in, and in data transfer each that came
-- in is in a pair; and where the packet layer says of a channel that delivery is confirmed, and in data transfer there
-- alone, each packet with D = 1 of the last epoch that its present record sent is covered; and what this record counts
-- as covered and released agrees with the numbers of the channel
pub record EndHolds (s : Network) (line : ℕ) (l : NetLine) (role : Role) : Type 0 where
  pub node : PlacedNode
  pub node_there : slice_get s.nodes (place_at role l) ≡ Some (User node)
  pub node_line : node.line ≡ line
  pub quiet : IsQuiet node.node
  pub own : (side_of role (book_at line s.register)).node ≡ place_at role l
  pub slots : length (side_of role (book_at line s.register)).slots ≡ l.channels
  pub channels : length (end_of node.node).layer.channels ≡ l.channels
  pub present : (channel : ℕ) → is_some (its_slot line role channel s.register).present
      ≡ has_call (channel_of (end_of node.node).layer channel)
  pub came : (channel : ℕ) (ch : Channel) → channel_of (end_of node.node).layer channel ≡ Some ch
      → may_accept role ch.state ≡ true → is_some (its_slot line role channel s.register).caller ≡ true
  pub paired : (channel : ℕ) (ch : Channel) → channel_of (end_of node.node).layer channel ≡ Some ch
      → in_transfer ch.state ≡ true → is_some (its_slot line role channel s.register).caller ≡ true
      → IsPaired (its_slot line role channel s.register) s.register.pairs
  pub confirmed : (channel number : ℕ) (r : RecordValue)
      → (its_slot line role channel s.register).present ≡ Some number → slice_get s.register.records number ≡ Some r
      → SaysConfirmed (end_of node.node).layer channel r
  pub shown : (channel number : ℕ) (r : RecordValue)
      → (its_slot line role channel s.register).present ≡ Some number → slice_get s.register.records number ≡ Some r
      → ShowsCounts (end_of node.node).layer channel r

-- on the same end, in data transfer each call that was placed is the last one placed there and is in a pair
pub record PlacedHolds (s : Network) (line : ℕ) (l : NetLine) (role : Role) : Type 0 where
  pub node : PlacedNode
  pub node_there : slice_get s.nodes (place_at role l) ≡ Some (User node)
  pub placed : (channel : ℕ) (ch : Channel) → channel_of (end_of node.node).layer channel ≡ Some ch
      → in_transfer ch.state ≡ true → is_some (its_slot line role channel s.register).caller ≡ false
      → HasCallee (book_at line s.register) role channel

-- for each PAD there is one course of events, at it and at the other end of its line, which leads to it as it is. What a
-- terminal sent on a call is, block for block with its end, what the editing rules make of the keys and idle times of
-- the call; what else the PAD sent are, one each and in order, the answers to the messages that it took and the
-- indications of breaks in this course, and its interrupts are those of breaks and of INT
abbrev pub PadsSend : Network → Type 0
PadsSend s = (place : ℕ) (n : PlacedNode) (p : PadState) → slice_get s.nodes place ≡ Some (User n) → n.node ≡ Pad p
    → PadSends Dte p place s.register.records
