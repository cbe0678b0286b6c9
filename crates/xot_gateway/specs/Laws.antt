-- A connection, from when it began on: what its channel brought, and what was written to it.
use Rattle.std.specs.Prelude.{◌≡◌, ℕ, Bool, true, false, List, [], ◌∷◌, ◌++◌, take, position, slice_get, Some, Result}
use Rattle.packet_codec.specs.Packet.{ContentValue}
use Rattle.xot_codec.specs.Xot.{packet_form}
use Rattle.xot_gateway.specs.declared.line.XotLine.{XotLine}
use Rattle.xot_gateway.specs.declared.states.Phase.TheVariants.{DceWaiting}
use Rattle.xot_gateway.specs.declared.states.Move.TheVariants.{Passes}
use Rattle.xot_gateway.specs.declared.connection.Connection.{Connection}
use Rattle.xot_gateway.specs.Packets.{over_connection, clear_on, confirmation_on}
use Rattle.xot_gateway.specs.Connections.{elapsed, granted, heard_by, heard_on, is_absent, is_on, next_connection, next_served, opened, restarted, wished, written}
use Rattle.xot_gateway.specs.Calls.{come}

-- a packet of the line: its octets, and what they say
pub record Said : Type 0 where
  pub octets : List ℕ
  pub content : ContentValue

-- what happens at a connection: a Call of the line begins it, a packet of the line comes on the channel of a place, its
-- next packet is taken, octets come, octets are written, it stands, the line restarts, ticks pass, an order is given
pub data Deed : Type 0 where
  calls : (p : Said) → (place : ℕ) → Deed
  hears : (p : Said) → (place : ℕ) → Deed
  takes : (free : Result ℕ ℕ) → Deed
  comes : (octets : List ℕ) → Deed
  writes : (count : ℕ) → Deed
  stands : Deed
  restarts : Deed
  waits : (ticks : ℕ) → Deed
  orders : Deed

-- packets of other channels do not come to it
abbrev pub heard_if : XotLine → Said → (place : ℕ) → Connection → (own : Bool) → Connection
heard_if line p place c true = (heard_on line p.content p.octets place c).connection
heard_if line p place c false = c

abbrev pub after_deed : XotLine → Connection → Deed → Connection
after_deed line c (calls p place) = (heard_by line p.content p.octets place c (Passes DceWaiting)).connection
after_deed line c (hears p place) = heard_if line p place c (is_on place c)
after_deed line c (takes free) = next_connection c (next_served line free c)
after_deed line c (comes octets) = come octets c
after_deed line c (writes count) = written count c
after_deed line c stands = opened c
after_deed line c restarts = restarted line c
after_deed line c (waits ticks) = elapsed ticks c
after_deed line c orders = granted (wished c) c

-- the connection is there all the while
abbrev pub IsThere : XotLine → Connection → List Deed → Type 0
IsThere line c [] = is_absent c.socket ≡ false
IsThere line c (deed ∷ deeds) = (is_absent c.socket ≡ false) × IsThere line (after_deed line c deed) deeds

abbrev pub after_deeds : XotLine → Connection → List Deed → Connection
after_deeds line c [] = c
after_deeds line c (deed ∷ deeds) = after_deeds line (after_deed line c deed) deeds

-- the packets that came on the channel of its call
abbrev pub heard_when : (own : Bool) → Said → List Said
heard_when true p = p ∷ []
heard_when false p = []

abbrev pub heard_of : Connection → Deed → List Said
heard_of c (calls p place) = p ∷ []
heard_of c (hears p place) = heard_when (is_on place c) p
heard_of c _ = []

abbrev pub written_of : Connection → Deed → List ℕ
written_of c (writes count) = take count c.stream.output
written_of c _ = []

abbrev pub all_heard : XotLine → (so_far : List Said) → Connection → List Deed → List Said
all_heard line so_far c [] = so_far
all_heard line so_far c (deed ∷ deeds) = all_heard line (so_far ++ heard_of c deed) (after_deed line c deed) deeds

abbrev pub all_written : XotLine → (so_far : List ℕ) → Connection → List Deed → List ℕ
all_written line so_far c [] = so_far
all_written line so_far c (deed ∷ deeds) = all_written line (so_far ++ written_of c deed) (after_deed line c deed) deeds

-- what became of a packet of the line, or a Clear or Clear Confirmation of the gateway itself
pub data Fate : Type 0 where
  passed : (p : Said) → Fate
  dropped : (p : Said) → Fate
  cleared : (place cause : ℕ) → Fate
  confirmed : (place : ℕ) → Fate

abbrev pub heard_in : List Fate → List Said
heard_in [] = []
heard_in (passed p ∷ fates) = p ∷ heard_in fates
heard_in (dropped p ∷ fates) = p ∷ heard_in fates
heard_in (cleared place cause ∷ fates) = heard_in fates
heard_in (confirmed place ∷ fates) = heard_in fates

-- the packets that go out, each with its header
abbrev pub fate_form : XotLine → Fate → List ℕ
fate_form line (passed p) = packet_form (over_connection line.flow p.content p.octets)
fate_form line (dropped p) = []
fate_form line (cleared place cause) = packet_form (clear_on line place cause)
fate_form line (confirmed place) = packet_form (confirmation_on line place)

abbrev pub forms : XotLine → List Fate → List ℕ
forms line [] = []
forms line (fate ∷ fates) = fate_form line fate ++ forms line fates

-- What was written and what waits is packets that came on the channel of its call, in order, each once at most, with the
-- line's size and window in Call and Call Accepted, and between them the gateway's own Clears and confirmations.
pub record IsCarried (line : XotLine) (heard : List Said) (written : List ℕ) (c : Connection) : Type 0 where
  pub fates : List Fate
  pub came : heard ≡ heard_in fates
  pub went : written ++ c.stream.output ≡ forms line fates

-- so it is of each connection that begins with nothing to write, as those that came and those that are wanted do
abbrev pub CarryLaw : Type 0
CarryLaw = (line : XotLine) (c : Connection) (deeds : List Deed) → c.stream.output ≡ [] → IsThere line c deeds
    → IsCarried line (all_heard line [] c deeds) (all_written line [] c deeds) (after_deeds line c deeds)

-- a packet of the line comes to a connection whose call has its channel
abbrev pub ChannelLaw : Type 0
ChannelLaw = (place number : ℕ) (connections : List Connection) (c : Connection)
    → position (is_on place) connections ≡ Some number → slice_get connections number ≡ Some c → is_on place c ≡ true
