-- A bridge: the octets that wait either way, what is to be done next, and what its calls make of it.
use Rattle.std.specs.Prelude.{ℕ, ◌+◌, ◌-◌, ◌==◌, ◌&&◌, ◌||◌, min, Bool, nat_lt, nat_le, not, List, [], ◌++◌, take, drop, length, Option, Some, None, if◌then◌else◌}
use Rattle.octet_rings.specs.Places.{most_octets}
use Rattle.bridge_ports.specs.declared.bridge.Turn.{Turn}
use Rattle.bridge_ports.specs.declared.bridge.Turn.TheVariants as turn
use Rattle.bridge_ports.specs.declared.bridge.Order.{Order}
use Rattle.bridge_ports.specs.declared.bridge.Order.TheVariants.{Connect, EndWriting, Close}
use Rattle.bridge_ports.specs.declared.phases.BridgeTerms.{BridgeTerms}
use Rattle.bridge_ports.specs.declared.phases.CallPhase.{CallPhase}
use Rattle.bridge_ports.specs.declared.phases.CallPhase.TheVariants.{ToAnswer, ToRefuse, ToPlace, Standing, ToClear}
use Rattle.bridge_ports.specs.declared.phases.Connection.{Connection}
use Rattle.bridge_ports.specs.declared.phases.Connection.TheVariants.{Wanted, Open, Flushing, Closing, Closed}
use Rattle.bridge_ports.specs.declared.phases.FarEnd.{FarEnd}
use Rattle.bridge_ports.specs.declared.phases.FarSide.{FarSide}
use Rattle.bridge_ports.specs.declared.phases.FarSide.TheVariants.{EndTaken, Shut}
use Rattle.bridge_ports.specs.declared.phases.OwnSide.{OwnSide}
use Rattle.bridge_ports.specs.declared.phases.OwnSide.TheVariants.{Speaking, Ended, EndSaid, EndConfirmed}
use Rattle.bridge_ports.specs.declared.phases.Phases.{Phases}
use Rattle.bridge_ports.specs.Phases.{absent, no_terms, rung, attached, is_idle, is_standing, is_absent, is_open, is_flushing, is_speaking, is_coming, broken, timed, own_moved, connection_awaited}

-- what it is set to, the octets of the peer that wait to be said, those taken that wait to be written, and what the call
-- and the connection are at
pub record BridgeState : Type 0 where
  pub terms : BridgeTerms
  pub input : List ℕ
  pub output : List ℕ
  pub phases : Phases

-- how many octets a message has at most
abbrev pub most_message : ℕ
most_message = 1024

abbrev pub new_bridge : BridgeState
new_bridge = record { terms = no_terms; input = []; output = []; phases = absent }

-- it has a call, or is to place one
abbrev pub has_call : BridgeState → Bool
has_call b = not (is_idle b.phases.call)

-- a bridge begins, and the first that its peer is written are these octets
abbrev pub begun : BridgeTerms → (hello : List ℕ) → Phases → BridgeState
begun terms hello phases =
    record { terms = terms; input = []; output = take most_octets hello; phases = phases }

-- it has neither a call nor a connection
abbrev pub is_free : BridgeState → Bool
is_free b = is_idle b.phases.call && is_absent b.phases.connection

-- a call came to a bridge that was free
abbrev pub with_call : BridgeTerms → FarEnd → (hello : List ℕ) → BridgeState → BridgeState
with_call terms far_end hello b = if is_free b then begun terms hello (rung terms.wait far_end) else b

-- a connection came to a bridge that was free
abbrev pub with_connection : BridgeTerms → FarEnd → BridgeState → BridgeState
with_connection terms far_end b = if is_free b then begun terms [] (attached far_end) else b

-- ---- what is to be asked of the network

-- once our end is confirmed, the call is cleared when the far side has ended too, or was quiet for so long
abbrev pub clears : (linger quiet : ℕ) → FarSide → Bool
clears linger quiet far = not (is_coming far) || nat_le linger quiet

-- the octets of the peer go first, then the end of its side, which is to be confirmed
abbrev pub own_turn : (linger : ℕ) → FarSide → OwnSide → Turn
own_turn linger far Speaking = turn.Rest
own_turn linger far Ended = turn.SayEnd
own_turn linger far EndSaid = turn.AwaitConfirmation
own_turn linger far (EndConfirmed quiet) = if clears linger quiet far then turn.Clear else turn.Rest

abbrev pub turn_at : CallPhase → BridgeState → Turn
turn_at ToAnswer b = turn.Answer
turn_at ToRefuse b = turn.Refuse
turn_at ToPlace b = turn.Call
turn_at ToClear b = turn.Clear
turn_at Standing b =
    if length b.input == 0 then own_turn b.terms.linger b.phases.far b.phases.own else turn.Say
turn_at _ b = turn.Rest

abbrev pub turn_of : BridgeState → Turn
turn_of b = turn_at b.phases.call b

-- whether the next packet may be taken: the call stands, and there is room for the longest one
abbrev pub may_take : BridgeState → Bool
may_take b = is_standing b.phases.call && nat_le (length b.output + most_message) most_octets

-- ---- what became of it

-- the first octets that waited were said
abbrev pub said : (count : ℕ) → BridgeState → BridgeState
said count b = record b { input = drop count b.input }

-- whether a packet is an empty message
abbrev pub is_end : (more : Bool) → (octets : List ℕ) → Phases → Bool
is_end more octets p = length octets == 0 && not more && not p.in_message

-- A packet was taken of a call that stands and whose far side has not ended. If there is no room, which is so only if it
-- has over 1,024 octets, the bridge breaks off. An empty message is the end of the far side.
abbrev pub fits : (octets : List ℕ) → BridgeState → Bool
fits octets b = nat_le (length b.output + length octets) most_octets

abbrev pub is_taking : BridgeState → Bool
is_taking b = is_standing b.phases.call && is_coming b.phases.far

abbrev pub taken : (octets : List ℕ) → (more : Bool) → BridgeState → BridgeState
taken octets more b =
    if not (is_taking b) then b
    else if not (fits octets b) then record b { phases = broken b.phases }
    else if is_end more octets b.phases then record b { phases = record b.phases { far = EndTaken } }
    else record b {
      output = b.output ++ octets;
      phases = record b.phases { own = own_moved b.phases.own; in_message = more };
    }

-- ---- what the shell tells

-- whether octets of the peer are for the call
abbrev pub listens : BridgeState → Bool
listens b = is_open b.phases.connection && is_speaking b.phases.own

abbrev pub heard : (octets : List ℕ) → BridgeState → BridgeState
heard octets b = if listens b then record b { input = b.input ++ octets } else b

-- how many octets of the peer are taken: as many as there is room for, and all of those that are for no call
abbrev pub heard_count : (octets : List ℕ) → BridgeState → ℕ
heard_count octets b = if listens b then min (length octets) (most_octets - length b.input) else length octets

-- whether octets of the peer are to be read: there is room for them, or they are for no call any more, and only its end is
-- of interest
abbrev pub wants_octets : BridgeState → Bool
wants_octets b =
    (listens b && nat_lt (length b.input) most_octets) || (is_flushing b.phases.connection && is_speaking b.phases.own)

-- whether octets may be written
abbrev pub may_write : BridgeState → Bool
may_write b = is_open b.phases.connection || is_flushing b.phases.connection

abbrev pub written : (count : ℕ) → BridgeState → BridgeState
written count b = record b { output = drop count b.output }

abbrev pub elapsed : (ticks : ℕ) → BridgeState → BridgeState
elapsed ticks b = record b { phases = timed ticks (length b.output == 0) b.phases }

-- ---- orders

-- once all is written, a far side that has ended ends the connection for writing; once the peer has ended its side too,
-- the connection of a call that is over is closed
abbrev pub written_order : Connection → FarSide → OwnSide → Option Order
written_order Open EndTaken own = Some EndWriting
written_order (Flushing left) EndTaken own = Some EndWriting
written_order (Flushing left) far Speaking = None
written_order (Flushing left) far own = Some Close
written_order _ far own = None

abbrev pub order_at : Connection → BridgeState → Option Order
order_at (Wanted left) b = Some Connect
order_at Closing b = Some Close
order_at connection b =
    if length b.output == 0 then written_order connection b.phases.far b.phases.own else None

abbrev pub order_of : BridgeState → Option Order
order_of b = order_at b.phases.connection b

abbrev pub ordered : Option Order → Phases → Phases
ordered None p = p
ordered (Some Connect) p = record p { connection = connection_awaited p.connection }
ordered (Some EndWriting) p = record p { far = Shut }
ordered (Some Close) p = record p { connection = Closed }
