-- What a call and its connection are at, and what becomes of them.
use Rattle.std.specs.Prelude.{ℕ, ◌+◌, ◌-◌, ◌==◌, ◌&&◌, ◌||◌, min, Bool, true, false, nat_lt, not, if◌then◌else◌}
use Rattle.bridge_ports.specs.declared.phases.AtReset.{AtReset}
use Rattle.bridge_ports.specs.declared.phases.AtReset.TheVariants.{ClearCall, Continue}
use Rattle.bridge_ports.specs.declared.phases.BridgeTerms.{BridgeTerms}
use Rattle.bridge_ports.specs.declared.phases.CallPhase.{CallPhase}
use Rattle.bridge_ports.specs.declared.phases.CallPhase.TheVariants.{Idle, Incoming, ToAnswer, ToRefuse, ToPlace, Placed, Standing, ToClear}
use Rattle.bridge_ports.specs.declared.phases.Connection.{Connection}
use Rattle.bridge_ports.specs.declared.phases.Connection.TheVariants.{Absent, Wanted, Awaited, Open, Flushing, Closing, Closed}
use Rattle.bridge_ports.specs.declared.phases.FarEnd.{FarEnd}
use Rattle.bridge_ports.specs.declared.phases.FarEnd.TheVariants.{Host, Pad}
use Rattle.bridge_ports.specs.declared.phases.FarSide.{FarSide}
use Rattle.bridge_ports.specs.declared.phases.FarSide.TheVariants.{Coming, EndTaken, Shut}
use Rattle.bridge_ports.specs.declared.phases.OwnSide.{OwnSide}
use Rattle.bridge_ports.specs.declared.phases.OwnSide.TheVariants.{Speaking, Ended, EndSaid, EndConfirmed}
use Rattle.bridge_ports.specs.declared.phases.Phases.{Phases}

-- what a bridge is set to that has had no call yet
abbrev pub no_terms : BridgeTerms
no_terms = record { wait = 0; linger = 0; at_reset = ClearCall }

-- no call and no connection
abbrev pub absent : Phases
absent = record { call = Idle; connection = Absent; own = Speaking; far = Coming; far_end = Host; in_message = false }

-- a call came, and a connection is wanted within so many ticks
abbrev pub rung : (wait : ℕ) → FarEnd → Phases
rung wait far_end = record absent { call = Incoming; connection = Wanted wait; far_end = far_end }

-- a connection came, and a call is to be placed for it
abbrev pub attached : FarEnd → Phases
attached far_end = record absent { call = ToPlace; connection = Open; far_end = far_end }

abbrev pub is_idle : CallPhase → Bool
is_idle Idle = true
is_idle _ = false

abbrev pub is_standing : CallPhase → Bool
is_standing Standing = true
is_standing _ = false

abbrev pub is_absent : Connection → Bool
is_absent Absent = true
is_absent _ = false

abbrev pub is_open : Connection → Bool
is_open Open = true
is_open _ = false

abbrev pub is_flushing : Connection → Bool
is_flushing (Flushing left) = true
is_flushing _ = false

abbrev pub is_speaking : OwnSide → Bool
is_speaking Speaking = true
is_speaking _ = false

abbrev pub is_coming : FarSide → Bool
is_coming Coming = true
is_coming _ = false

abbrev pub is_pad : FarEnd → Bool
is_pad Pad = true
is_pad Host = false

-- a call whose connection is gone is refused if it was not answered yet, is not placed, and else is cleared
abbrev pub call_given_up : CallPhase → CallPhase
call_given_up Idle = Idle
call_given_up Incoming = ToRefuse
call_given_up ToAnswer = ToRefuse
call_given_up ToRefuse = ToRefuse
call_given_up ToPlace = Idle
call_given_up Placed = ToClear
call_given_up Standing = ToClear
call_given_up ToClear = ToClear

-- a connection that is to be closed; one that was not ordered yet is not
abbrev pub connection_closed : Connection → Connection
connection_closed Absent = Absent
connection_closed (Wanted left) = Absent
connection_closed Closed = Closed
connection_closed _ = Closing

-- a connection whose order was given
abbrev pub connection_awaited : Connection → Connection
connection_awaited (Wanted left) = Awaited left
connection_awaited connection = connection

-- a connection to which what waits is to be written within 200 ticks, and no more
abbrev pub connection_flushed : Connection → Connection
connection_flushed Open = Flushing 200
connection_flushed (Flushing left) = Flushing left
connection_flushed connection = connection_closed connection

abbrev pub far_ended : FarSide → FarSide
far_ended Coming = EndTaken
far_ended EndTaken = EndTaken
far_ended Shut = Shut

-- the connection cannot be used any more
abbrev pub broken : Phases → Phases
broken p = record p { call = call_given_up p.call; connection = connection_closed p.connection }

-- the call is over, and what waits is written out
abbrev pub whole_end : Phases → Phases
whole_end p = record p { call = Idle; connection = connection_flushed p.connection; far = far_ended p.far }

-- the call is over otherwise, and the connection is closed at once
abbrev pub other_end : Phases → Phases
other_end p = record p { call = Idle; connection = connection_closed p.connection }

-- ---- what the network tells and does

-- a call that is to be answered was, or could not be
abbrev pub answered_at : CallPhase → (done : Bool) → Phases → Phases
answered_at ToAnswer true p = record p { call = Standing }
answered_at ToAnswer false p = other_end p
answered_at _ done p = p

abbrev pub answered : (done : Bool) → Phases → Phases
answered done p = answered_at p.call done p

-- a call that is to be placed was, or could not be
abbrev pub placed_at : CallPhase → (done : Bool) → Phases → Phases
placed_at ToPlace true p = record p { call = Placed }
placed_at ToPlace false p = other_end p
placed_at _ done p = p

abbrev pub placed : (done : Bool) → Phases → Phases
placed done p = placed_at p.call done p

-- the far end accepted the call
abbrev pub connected_at : CallPhase → Phases → Phases
connected_at Placed p = record p { call = Standing }
connected_at _ p = p

abbrev pub connected : Phases → Phases
connected p = connected_at p.call p

-- the call was refused or cleared from here: one that stood has a whole end
abbrev pub cleared_at : CallPhase → Phases → Phases
cleared_at Standing p = whole_end p
cleared_at ToRefuse p = record p { call = Idle }
cleared_at ToClear p = record p { call = Idle }
cleared_at _ p = p

abbrev pub cleared : Phases → Phases
cleared p = cleared_at p.call p

-- a clear by the user of the far end is the whole end of a call whose far side has ended, and of one with a PAD
abbrev pub has_whole_end : (cause diagnostic : ℕ) → Phases → Bool
has_whole_end cause diagnostic p =
    cause == 0 && diagnostic == 0 && is_standing p.call && (is_pad p.far_end || not (is_coming p.far))

-- the call is over by the far end or the network
abbrev pub ended_at : CallPhase → (is_whole : Bool) → Phases → Phases
ended_at Idle is_whole p = p
ended_at ToRefuse is_whole p = record p { call = Idle }
ended_at ToClear is_whole p = record p { call = Idle }
ended_at _ true p = whole_end p
ended_at _ false p = other_end p

abbrev pub call_ended : (cause diagnostic : ℕ) → Phases → Phases
call_ended cause diagnostic p = ended_at p.call (has_whole_end cause diagnostic p) p

-- after a reset the end is said again, unless it was confirmed
abbrev pub own_reset : OwnSide → OwnSide
own_reset EndSaid = Ended
own_reset own = own

-- a call that stands is reset
abbrev pub reset_at : CallPhase → AtReset → Phases → Phases
reset_at Standing ClearCall p = broken p
reset_at Standing Continue p = record p { own = own_reset p.own; in_message = false }
reset_at _ at_reset p = p

abbrev pub reset : AtReset → Phases → Phases
reset at_reset p = reset_at p.call at_reset p

-- the empty message was said
abbrev pub own_end_said : OwnSide → OwnSide
own_end_said Ended = EndSaid
own_end_said own = own

-- what was said is confirmed
abbrev pub own_confirmed : OwnSide → OwnSide
own_confirmed EndSaid = EndConfirmed 0
own_confirmed own = own

-- ---- what the shell tells

-- the connection stands that a call waits for
abbrev pub call_opened : CallPhase → CallPhase
call_opened Incoming = ToAnswer
call_opened call = call

abbrev pub opened_at : Connection → Phases → Phases
opened_at (Awaited left) p = record p { call = call_opened p.call; connection = Open }
opened_at _ p = p

abbrev pub opened : Phases → Phases
opened p = opened_at p.connection p

-- the peer ended its side
abbrev pub own_ended : OwnSide → OwnSide
own_ended Speaking = Ended
own_ended own = own

-- the connection was closed
abbrev pub closed : Phases → Phases
closed p = record (broken p) { connection = Absent }

-- the bridge is to go: the call is refused or cleared, and what waits is written out
abbrev pub dismissed : Phases → Phases
dismissed p = record p {
  call = call_given_up p.call;
  connection = connection_flushed p.connection;
  far = far_ended p.far;
}

-- something came the other way
abbrev pub own_moved : OwnSide → OwnSide
own_moved (EndConfirmed quiet) = EndConfirmed 0
own_moved own = own

-- ticks pass: as long as something waits to be written, it is not quiet
abbrev pub own_waited : (ticks : ℕ) → (is_written : Bool) → OwnSide → OwnSide
own_waited ticks true (EndConfirmed quiet) = EndConfirmed (min (quiet + ticks) 65535)
own_waited ticks _ own = own_moved own

-- ticks pass: a connection that does not stand in time, and one to which is not all written in time, is closed
abbrev pub timed_at : Connection → (ticks : ℕ) → (is_written : Bool) → Phases → Phases
timed_at (Wanted left) ticks is_written p =
    if nat_lt ticks left then record p { connection = Wanted (left - ticks) } else broken p
timed_at (Awaited left) ticks is_written p =
    if nat_lt ticks left then record p { connection = Awaited (left - ticks) } else broken p
timed_at (Flushing left) ticks is_written p =
    if nat_lt ticks left then record p { connection = Flushing (left - ticks) } else broken p
timed_at Open ticks is_written p = record p { own = own_waited ticks is_written p.own }
timed_at _ ticks is_written p = p

abbrev pub timed : (ticks : ℕ) → (is_written : Bool) → Phases → Phases
timed ticks is_written p = timed_at p.connection ticks is_written p
