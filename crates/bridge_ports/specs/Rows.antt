-- What becomes of what, row by row.
use Rattle.std.specs.Prelude.{◌≡◌, ◌≢◌, ◌⊎◌, ℕ, ◌≤◌, ◌<◌, true, false, List, [], Some, None, length}
use Rattle.bridge_ports.specs.declared.bridge.Turn.TheVariants as turn
use Rattle.bridge_ports.specs.declared.bridge.Order.TheVariants.{Connect, EndWriting, Close}
use Rattle.bridge_ports.specs.declared.phases.AtReset.TheVariants.{ClearCall, Continue}
use Rattle.bridge_ports.specs.declared.phases.BridgeTerms.{BridgeTerms}
use Rattle.bridge_ports.specs.declared.phases.CallPhase.TheVariants as call
use Rattle.bridge_ports.specs.declared.phases.Connection.TheVariants as connection
use Rattle.bridge_ports.specs.declared.phases.FarEnd.{FarEnd}
use Rattle.bridge_ports.specs.declared.phases.FarEnd.TheVariants.{Pad}
use Rattle.bridge_ports.specs.declared.phases.FarSide.TheVariants.{Coming, EndTaken, Shut}
use Rattle.bridge_ports.specs.declared.phases.OwnSide.TheVariants.{Speaking, Ended, EndConfirmed}
use Rattle.bridge_ports.specs.declared.phases.Phases.{Phases}
use Rattle.bridge_ports.specs.Phases.{attached, broken, call_ended, cleared, connected, opened, own_end_said, own_ended, placed, reset, rung, timed}
use Rattle.bridge_ports.specs.Bridges.{BridgeState, is_free, may_take, may_write, order_of, ordered, taken, turn_of, wants_octets, with_call, with_connection}

-- A call that came waits for a connection, which is ordered at once. When it stands, the call is answered.
pub record AnswersWhenItStands (b : BridgeState) (terms : BridgeTerms) (far_end : FarEnd) (hello : List ℕ) : Type 0 where
  pub waits : turn_of (with_call terms far_end hello b) ≡ turn.Rest
  pub orders : order_of (with_call terms far_end hello b) ≡ Some Connect
  pub answers : turn_of (record b { phases = opened (ordered (Some Connect) (rung terms.wait far_end)) }) ≡ turn.Answer

-- A connection that is refused, or is late, refuses the call, and is closed.
pub record RefusesWithoutConnection (b : BridgeState) (p : Phases) (ticks left : ℕ) : Type 0 where
  pub refused : turn_of (record b { phases = broken p }) ≡ turn.Refuse
  pub late : left ≤ ticks → p.connection ≡ connection.Awaited left → timed ticks true p ≡ broken p
  pub closes : p.connection ≡ connection.Awaited left → order_of (record b { phases = broken p }) ≡ Some Close

-- A connection that came places a call, and octets go once the far end has accepted it. A call that is over before is the
-- end of the connection.
pub record PlacesCalls (b : BridgeState) (terms : BridgeTerms) (far_end : FarEnd) (cause diagnostic : ℕ) : Type 0 where
  pub places : turn_of (with_connection terms far_end b) ≡ turn.Call
  pub waits : turn_of (record b { phases = placed true (attached far_end) }) ≡ turn.Rest
  pub takes : may_take (record b { output = []; phases = connected (placed true (attached far_end)) }) ≡ true
  pub closes : order_of (record b { phases = call_ended cause diagnostic (placed true (attached far_end)) }) ≡ Some Close

abbrev pub ComingCalls : Type 0
ComingCalls = (b : BridgeState) (terms : BridgeTerms) (far_end : FarEnd) (hello : List ℕ) → is_free b ≡ true
    → AnswersWhenItStands b terms far_end hello

abbrev pub FailedConnections : Type 0
FailedConnections = (b : BridgeState) (p : Phases) (ticks left : ℕ) → p.call ≡ call.Incoming
    → RefusesWithoutConnection b p ticks left

abbrev pub PlacedCalls : Type 0
PlacedCalls = (b : BridgeState) (terms : BridgeTerms) (far_end : FarEnd) (cause diagnostic : ℕ) → is_free b ≡ true
    → PlacesCalls b terms far_end cause diagnostic

-- ---- the end of the peer's side

-- When the peer has ended its side and all that it sent is said, an empty message is said, and is to be confirmed. After a
-- reset it is said again.
pub record SaysItsEnd (b : BridgeState) (p : Phases) : Type 0 where
  pub says : turn_of (record b { input = []; phases = record p { own = own_ended p.own } }) ≡ turn.SayEnd
  pub awaits : turn_of (record b { input = []; phases = record p { own = own_end_said (own_ended p.own) } })
      ≡ turn.AwaitConfirmation
  pub again : turn_of (record b { input = []; phases = reset Continue (record p { own = own_end_said (own_ended p.own) }) })
      ≡ turn.SayEnd

abbrev pub EndsOfPeers : Type 0
EndsOfPeers = (b : BridgeState) (p : Phases) → p.call ≡ call.Standing → p.own ≡ Speaking → SaysItsEnd b p

-- Octets are said before the end.
abbrev pub SaysOctetsFirst : Type 0
SaysOctetsFirst = (b : BridgeState) → b.phases.call ≡ call.Standing → 0 < length b.input → turn_of b ≡ turn.Say

-- A call that stands is cleared only when our end is confirmed, and the far side has ended too or was quiet for long
-- enough.
pub record IsConfirmed (b : BridgeState) : Type 0 where
  pub quiet : ℕ
  pub confirmed : b.phases.own ≡ EndConfirmed quiet
  pub ended : (b.phases.far ≢ Coming) ⊎ (b.terms.linger ≤ quiet)
  pub said : b.input ≡ []

abbrev pub ClearsWhenConfirmed : Type 0
ClearsWhenConfirmed = (b : BridgeState) → b.phases.call ≡ call.Standing → turn_of b ≡ turn.Clear → IsConfirmed b

-- ---- the end of the far side

-- An empty message ends the far side. Once what waits is written, and not before, the connection is ended for writing, and
-- it is read on.
pub record EndsFarSide (b : BridgeState) (after : BridgeState) : Type 0 where
  pub ended : after.phases.far ≡ EndTaken
  pub same : after.output ≡ b.output
  pub waits : 0 < length b.output → order_of after ≡ None
  pub ends : order_of (record after { output = [] }) ≡ Some EndWriting
  pub reads : wants_octets (record after { phases = ordered (Some EndWriting) after.phases }) ≡ wants_octets b

abbrev pub EndsOfFarSides : Type 0
EndsOfFarSides = (b : BridgeState) → b.phases.call ≡ call.Standing → b.phases.connection ≡ connection.Open
    → b.phases.far ≡ Coming → b.phases.in_message ≡ false → length b.output ≤ 65536 → EndsFarSide b (taken [] false b)

-- ---- the end of the call

-- At a whole end what waits is written, within 200 ticks. Then the connection is ended for writing, and once the peer has
-- ended its side too, it is closed.
pub record EndsWhole (b : BridgeState) (p : Phases) : Type 0 where
  pub limit : p.connection ≡ connection.Flushing 200
  pub writes : may_write (record b { phases = p }) ≡ true
  pub waits : 0 < length b.output → order_of (record b { phases = p }) ≡ None
  pub ends : order_of (record b { output = []; phases = record p { far = EndTaken } }) ≡ Some EndWriting
  pub stays : order_of (record b { output = []; phases = record p { far = Shut; own = Speaking } }) ≡ None
  pub closes : order_of (record b { output = []; phases = record p { far = Shut; own = Ended } }) ≡ Some Close

-- such an end is a clear by the user at the far end after its empty message, or at a PAD, and our own clear
abbrev pub WholeEnds : Type 0
WholeEnds = (b : BridgeState) (p : Phases) → p.call ≡ call.Standing → p.connection ≡ connection.Open
    → (p.far ≢ Coming → EndsWhole b (call_ended 0 0 p)) × (p.far_end ≡ Pad → EndsWhole b (call_ended 0 0 p))
    × EndsWhole b (cleared p)

-- At any other end nothing is written or read any more, and the connection is closed.
pub record EndsAtOnce (b : BridgeState) (p : Phases) : Type 0 where
  pub writes : may_write (record b { phases = p }) ≡ false
  pub wants : wants_octets (record b { phases = p }) ≡ false
  pub closes : order_of (record b { phases = p }) ≡ Some Close

abbrev pub OtherEnds : Type 0
OtherEnds = (b : BridgeState) (p : Phases) (cause diagnostic : ℕ) → p.call ≡ call.Standing
    → p.connection ≡ connection.Open → 0 < cause → EndsAtOnce b (call_ended cause diagnostic p)

-- A broken connection clears the call, and a reset does so if it is set so.
pub record ClearsBroken (b : BridgeState) (p : Phases) : Type 0 where
  pub lost : turn_of (record b { phases = broken p }) ≡ turn.Clear
  pub reset : reset ClearCall p ≡ broken p
  pub ends : EndsAtOnce b (broken p)

abbrev pub BrokenConnections : Type 0
BrokenConnections = (b : BridgeState) (p : Phases) → p.call ≡ call.Standing → p.connection ≡ connection.Open
    → ClearsBroken b p

-- A bridge is free again only once its connection was closed.
abbrev pub FreeOnceClosed : Type 0
FreeOnceClosed = (p : Phases) (cause diagnostic : ℕ) → p.connection ≡ connection.Open
    → ((call_ended cause diagnostic p).connection ≢ connection.Absent) × ((broken p).connection ≢ connection.Absent)
