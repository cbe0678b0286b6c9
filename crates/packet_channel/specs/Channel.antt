-- One logical channel: the state tables of call set-up, clearing and reset (X.25 tables C-1 to C-4, 4.1, 4.4.3), seen
-- from one end: "own" is what this end began, "far" what the other end did.
use Rattle.std.specs.Prelude.{ℕ, Bool, true, false, if◌then◌else◌, not, ◌&&◌, ◌||◌, ◌==◌, nat_lt, nat_le, List}
use Rattle.std.specs.Prelude.{[], ◌∷◌, ◌++◌, length, Option, Some, None}
use Rattle.link_timers.specs.declared.role.Role.{Role}
use Rattle.link_timers.specs.declared.role.Role.TheVariants.{Dte, Dce}
use Rattle.packet_codec.specs.ClearCause as clear_cause
use Rattle.packet_codec.specs.ResetCause as reset_cause
use Rattle.packet_codec.specs.Diagnostic.{no_information, not_allowed_in_p, not_allowed_in_d1}
use Rattle.data_transfer.specs.Packets.{CallParts, Datum, Body, Note}
use Rattle.data_transfer.specs.Packets.Body.{Call, Accepted, Clear, ClearConfirmation, Data, Interrupt}
use Rattle.data_transfer.specs.Packets.Body.{InterruptConfirmation, ReceiveReady, ReceiveNotReady, Reset}
use Rattle.data_transfer.specs.Packets.Body.{ResetConfirmation}
use Rattle.data_transfer.specs.Packets.Note.{Incoming, Connected, Closed, WasReset, InterruptConfirmed, Covered}
use Rattle.data_transfer.specs.Packets.Reason.{FarEnd, LocalFault, Cancelled}
use Rattle.data_transfer.specs.Traffic.{Traffic, Heard, fresh, queue, queue_interrupt}
use Rattle.data_transfer.specs.Traffic.{interrupt_pending, stopping, taking, may_release, releasing, confirming}
use Rattle.data_transfer.specs.Traffic.{hears, says, rests}
use Rattle.data_transfer.specs.Traffic.Heard.{Keeps, Confirms, Wrong}
use Rattle.data_transfer.specs.declared.flow.Flow.{Flow}

-- p1; p2 of a DTE or p3 of a DCE; p3 of a DTE or p2 of a DCE; p4; p5; p6 of a DTE or p7 of a DCE
pub data ChannelState : Type 0 where
  Ready : ChannelState
  OwnWaiting : ChannelState
  FarWaiting : ChannelState
  Transfer : ChannelState
  Collision : ChannelState
  OwnClear : ChannelState

-- the number of the state p1 to p7
abbrev pub p_number : Role → ChannelState → ℕ
p_number role Ready = 1
p_number Dte OwnWaiting = 2
p_number Dce OwnWaiting = 3
p_number Dte FarWaiting = 3
p_number Dce FarWaiting = 2
p_number role Transfer = 4
p_number role Collision = 5
p_number Dte OwnClear = 6
p_number Dce OwnClear = 7

-- a channel: in p4, resetting says d2 of a DTE or d3 of a DCE, and not resetting d1; owed are the control packets not
-- yet handed to the link
pub record Channel : Type 0 where
  pub state : ChannelState
  pub resetting : Bool
  pub owed : List Body
  pub traffic : Traffic

abbrev pub closed_channel : Channel
closed_channel = record { state = Ready; resetting = false; owed = []; traffic = fresh }

-- what a step makes of a channel: the channel, the control packet that it owes further, and what is noted
pub record Step : Type 0 where
  pub channel : Channel
  pub owes : Option Body
  pub notes : List Note

abbrev pub quiet : Channel → Step
quiet ch = record { channel = ch; owes = None; notes = [] }

-- the cause of a procedure error is a DCE's; a DTE sends that it began
abbrev pub error_cause : Role → ℕ → ℕ
error_cause Dte cause = clear_cause.dte_originated
error_cause Dce cause = cause

abbrev pub entered : ChannelState → Channel → Channel
entered s ch = record ch { state = s }

-- a call's end drops the traffic
abbrev pub ended : ChannelState → Channel → Channel
ended s ch = record ch { state = s; resetting = false; traffic = fresh }

-- so does a reset, begun or learnt
abbrev pub renewed : Bool → Channel → Channel
renewed b ch = record ch { resetting = b; traffic = fresh }

abbrev pub moved : Traffic → Channel → Channel
moved t ch = record ch { traffic = t }

-- ---- procedure errors

abbrev pub clear_error : Role → ℕ → ℕ → Bool → Channel → Step
clear_error role c diagnostic had_call ch = record {
  channel = ended OwnClear ch;
  owes = Some (Clear (error_cause role clear_cause.local_procedure_error) diagnostic);
  notes = if had_call then Closed c clear_cause.local_procedure_error diagnostic LocalFault ∷ [] else [];
}

abbrev pub reset_error : Role → ℕ → ℕ → Channel → Step
reset_error role c diagnostic ch = record {
  channel = renewed true ch;
  owes = Some (Reset (error_cause role reset_cause.local_procedure_error) diagnostic);
  notes = WasReset c reset_cause.local_procedure_error diagnostic LocalFault ∷ [];
}

-- a packet that has no place in this state
abbrev pub not_allowed : Role → ℕ → Channel → Step
not_allowed role c ch = clear_error role c (not_allowed_in_p (p_number role ch.state)) true ch

-- ---- packets received in d1 and in the own reset

abbrev pub far_cleared : ℕ → ℕ → ℕ → Channel → Step
far_cleared c cause diagnostic ch =
    record { channel = ended Ready ch; owes = Some ClearConfirmation; notes = Closed c cause diagnostic FarEnd ∷ [] }

abbrev pub covered_note : ℕ → ℕ → List Note
covered_note c n = if n == 0 then [] else Covered c n ∷ []

abbrev pub after_heard : Role → ℕ → Channel → Heard → Step
after_heard role c ch (Keeps n t) = record { channel = moved t ch; owes = None; notes = covered_note c n }
after_heard role c ch (Confirms t) = record { channel = moved t ch; owes = None; notes = InterruptConfirmed c ∷ [] }
after_heard role c ch (Wrong diagnostic) = reset_error role c diagnostic ch

abbrev pub in_flow_ready : Role → Flow → ℕ → Channel → Body → Step
in_flow_ready role flow c ch (Clear cause diagnostic) = far_cleared c cause diagnostic ch
in_flow_ready role flow c ch (Reset cause diagnostic) =
    record {
      channel = renewed false ch;
      owes = Some ResetConfirmation;
      notes = WasReset c cause diagnostic FarEnd ∷ [];
    }
in_flow_ready role flow c ch ResetConfirmation = reset_error role c not_allowed_in_d1 ch
in_flow_ready role flow c ch (Data send receive d) =
    after_heard role c ch (hears flow ch.traffic (Data send receive d))
in_flow_ready role flow c ch (ReceiveReady receive) =
    after_heard role c ch (hears flow ch.traffic (ReceiveReady receive))
in_flow_ready role flow c ch (ReceiveNotReady receive) =
    after_heard role c ch (hears flow ch.traffic (ReceiveNotReady receive))
in_flow_ready role flow c ch (Interrupt octets) = after_heard role c ch (hears flow ch.traffic (Interrupt octets))
in_flow_ready role flow c ch InterruptConfirmation =
    after_heard role c ch (hears flow ch.traffic InterruptConfirmation)
in_flow_ready role flow c ch _ = not_allowed role c ch

abbrev pub in_own_reset : Role → ℕ → Channel → Body → Step
in_own_reset role c ch (Clear cause diagnostic) = far_cleared c cause diagnostic ch
in_own_reset role c ch (Reset cause diagnostic) = quiet (record ch { resetting = false })
in_own_reset role c ch ResetConfirmation = quiet (record ch { resetting = false })
in_own_reset role c ch (Data send receive d) = quiet ch
in_own_reset role c ch (ReceiveReady receive) = quiet ch
in_own_reset role c ch (ReceiveNotReady receive) = quiet ch
in_own_reset role c ch (Interrupt octets) = quiet ch
in_own_reset role c ch InterruptConfirmation = quiet ch
in_own_reset role c ch _ = not_allowed role c ch

-- ---- packets received, by the call's state

abbrev pub in_ready : Role → ℕ → Channel → Body → Step
in_ready role c ch (Call parts) = record { channel = entered FarWaiting ch; owes = None; notes = Incoming c parts ∷ [] }
in_ready role c ch (Clear cause diagnostic) = record { channel = ch; owes = Some ClearConfirmation; notes = [] }
in_ready role c ch _ = clear_error role c (not_allowed_in_p 1) false ch

-- in a call collision the DCE's own call is cancelled
abbrev pub collision_notes : Role → ℕ → CallParts → List Note
collision_notes Dte c parts = []
collision_notes Dce c parts = Closed c clear_cause.number_busy no_information Cancelled ∷ Incoming c parts ∷ []

abbrev pub in_own_waiting : Role → ℕ → Channel → Body → Step
in_own_waiting role c ch Accepted = record { channel = entered Transfer ch; owes = None; notes = Connected c ∷ [] }
in_own_waiting role c ch (Call parts) =
    record { channel = entered Collision ch; owes = None; notes = collision_notes role c parts }
in_own_waiting role c ch (Clear cause diagnostic) = far_cleared c cause diagnostic ch
in_own_waiting role c ch _ = not_allowed role c ch

abbrev pub in_far_waiting : Role → ℕ → Channel → Body → Step
in_far_waiting role c ch (Clear cause diagnostic) = far_cleared c cause diagnostic ch
in_far_waiting role c ch _ = not_allowed role c ch

abbrev pub in_collision : Role → ℕ → Channel → Body → Step
in_collision Dte c ch Accepted = record { channel = entered Transfer ch; owes = None; notes = Connected c ∷ [] }
in_collision role c ch (Clear cause diagnostic) = far_cleared c cause diagnostic ch
in_collision role c ch _ = not_allowed role c ch

abbrev pub in_own_clear : Channel → Body → Step
in_own_clear ch (Clear cause diagnostic) = quiet (entered Ready ch)
in_own_clear ch ClearConfirmation = quiet (entered Ready ch)
in_own_clear ch _ = quiet ch

abbrev pub received_in : ChannelState → Role → Flow → ℕ → Channel → Body → Step
received_in Ready role flow c ch body = in_ready role c ch body
received_in OwnWaiting role flow c ch body = in_own_waiting role c ch body
received_in FarWaiting role flow c ch body = in_far_waiting role c ch body
received_in Transfer role flow c ch body =
    if ch.resetting then in_own_reset role c ch body else in_flow_ready role flow c ch body
received_in Collision role flow c ch body = in_collision role c ch body
received_in OwnClear role flow c ch body = in_own_clear ch body

abbrev pub received : Role → Flow → ℕ → Channel → Body → Step
received role flow c ch body = received_in ch.state role flow c ch body

-- an unreadable packet counts as one that the state does not allow: in d1 it resets the call, and else it clears it
abbrev pub diagnostic_if : (unknown : Bool) → ℕ → ℕ
diagnostic_if unknown diagnostic = if unknown then diagnostic else no_information

abbrev pub unreadable_in : ChannelState → Role → ℕ → Bool → Channel → Step
unreadable_in Ready role c unknown ch = clear_error role c (diagnostic_if unknown (not_allowed_in_p 1)) false ch
unreadable_in OwnClear role c unknown ch = quiet ch
unreadable_in Transfer role c unknown ch =
    if ch.resetting
    then clear_error role c (diagnostic_if unknown (not_allowed_in_p 4)) true ch
    else reset_error role c (diagnostic_if unknown not_allowed_in_d1) ch
unreadable_in s role c unknown ch =
    clear_error role c (diagnostic_if unknown (not_allowed_in_p (p_number role s))) true ch

abbrev pub unreadable : Role → ℕ → Bool → Channel → Step
unreadable role c unknown ch = unreadable_in ch.state role c unknown ch

-- ---- what the user asks of a channel

pub data Request : Type 0 where
  Accept : Request
  Clearing : (cause diagnostic : ℕ) → Request
  Resetting : (cause diagnostic : ℕ) → Request
  Sending : Datum → Request
  Interrupting : List ℕ → Request
  Stopping : Bool → Request
  Taking : Request
  Releasing : ℕ → Request
  Confirming : Request

-- the refusals, in the order of their numbers
pub data Refusal : Type 0 where
  NotReady : Refusal
  NoChannel : Refusal
  NoCall : Refusal
  IsResetting : Refusal
  QueueFull : Refusal
  TooLong : Refusal
  InterruptPending : Refusal

abbrev pub may_accept : Role → ChannelState → Bool
may_accept role FarWaiting = true
may_accept Dce Collision = true
may_accept role _ = false

abbrev pub may_clear : ChannelState → Bool
may_clear Ready = false
may_clear OwnClear = false
may_clear _ = true

abbrev pub in_transfer : ChannelState → Bool
in_transfer Transfer = true
in_transfer _ = false

abbrev pub refused_if : Bool → Refusal → Option Refusal → Option Refusal
refused_if true r other = Some r
refused_if false r other = other

abbrev pub refusal : Role → Flow → Channel → Request → Option Refusal
refusal role flow ch Accept = refused_if (not (may_accept role ch.state)) Refusal.NoCall None
refusal role flow ch (Clearing cause diagnostic) = refused_if (not (may_clear ch.state)) Refusal.NoCall None
refusal role flow ch (Resetting cause diagnostic) =
    refused_if (not (in_transfer ch.state)) Refusal.NoCall (refused_if ch.resetting Refusal.IsResetting None)
refusal role flow ch (Sending d) =
    refused_if (not (in_transfer ch.state)) Refusal.NoCall
    (refused_if ch.resetting Refusal.IsResetting
    (refused_if (nat_le 8 (length ch.traffic.waiting)) Refusal.QueueFull
    (refused_if (nat_lt flow.size (length d.octets)) Refusal.TooLong None)))
refusal role flow ch (Interrupting octets) =
    refused_if (not (in_transfer ch.state)) Refusal.NoCall
    (refused_if ch.resetting Refusal.IsResetting
    (refused_if ((length octets == 0) || nat_lt 32 (length octets)) Refusal.TooLong
    (refused_if (interrupt_pending ch.traffic) Refusal.InterruptPending None)))
refusal role flow ch (Stopping b) = refused_if (not (in_transfer ch.state)) Refusal.NoCall None
-- (nothing can be taken, released or confirmed outside a call)
refusal role flow ch _ = refused_if (not (in_transfer ch.state)) Refusal.NoCall None

-- what a request in a call that is not refused makes of its traffic
abbrev pub traffic_after : Request → Traffic → Traffic
traffic_after (Request.Sending d) t = queue d t
traffic_after (Request.Interrupting octets) t = queue_interrupt octets t
traffic_after (Request.Stopping b) t = stopping b t
traffic_after Request.Taking t = taking t
traffic_after (Request.Releasing n) t = if may_release n t then releasing n t else t
traffic_after Request.Confirming t = if t.interrupt_taken then confirming t else t
traffic_after _ t = t

-- what a request that is not refused makes of the channel
abbrev pub carried_out : Channel → Request → Step
carried_out ch Accept = record { channel = entered Transfer ch; owes = Some Accepted; notes = [] }
carried_out ch (Clearing cause diagnostic) =
    record { channel = ended OwnClear ch; owes = Some (Clear cause diagnostic); notes = [] }
carried_out ch (Resetting cause diagnostic) =
    record { channel = renewed true ch; owes = Some (Reset cause diagnostic); notes = [] }
carried_out ch (Sending d) = quiet (moved (queue d ch.traffic) ch)
carried_out ch (Interrupting octets) = quiet (moved (queue_interrupt octets ch.traffic) ch)
carried_out ch (Stopping b) = quiet (moved (stopping b ch.traffic) ch)
carried_out ch Taking = quiet (moved (taking ch.traffic) ch)
carried_out ch (Releasing n) = quiet (moved (traffic_after (Releasing n) ch.traffic) ch)
carried_out ch Confirming = quiet (moved (traffic_after Confirming ch.traffic) ch)

abbrev pub unless : Option Refusal → Step → Channel → Step
unless None done ch = done
unless (Some r) done ch = quiet ch

abbrev pub requested : Role → Flow → Channel → Request → Step
requested role flow ch r = unless (refusal role flow ch r) (carried_out ch r) ch

-- data may be queued: a call in p4 without a reset of the own end unconfirmed
abbrev pub has_flow : Channel → Bool
has_flow ch = in_transfer ch.state && not ch.resetting

-- ---- what a channel owes: a fifth control packet is one too many, and is not kept

abbrev pub is_full : {P : Type 0} → List P → Bool
is_full owed = nat_le 4 (length owed)

abbrev pub with_owed : {P : Type 0} → List P → Option P → List P
with_owed owed None = owed
with_owed owed (Some p) = if is_full owed then owed else owed ++ p ∷ []

abbrev pub passes_limit : {P : Type 0} → List P → Option P → Bool
passes_limit owed None = false
passes_limit owed (Some p) = is_full owed

abbrev pub owing : Step → Channel
owing st = record st.channel { owed = with_owed st.channel.owed st.owes }

-- ---- what goes to the link: a control packet or, where none is owed, what the traffic says

pub record ChannelNext : Type 0 where
  pub channel : Channel
  pub body : Option Body

abbrev pub next_owed : Flow → List Body → Channel → ChannelNext
next_owed flow (b ∷ bs) ch = record { channel = record ch { owed = bs }; body = Some b }
next_owed flow [] ch =
    if has_flow ch
    then record { channel = moved (says flow ch.traffic).traffic ch; body = (says flow ch.traffic).body }
    else record { channel = ch; body = None }

abbrev pub next_of : Flow → Channel → ChannelNext
next_of flow ch = next_owed flow ch.owed ch

-- ---- placing a call

-- a channel can be given to a new call in p1, once all its control packets went
abbrev pub is_ready : ChannelState → Bool
is_ready Ready = true
is_ready _ = false

abbrev pub is_free : Channel → Bool
is_free ch = is_ready ch.state && (length ch.owed == 0)

abbrev pub placing : CallParts → Channel → Step
placing parts ch = record { channel = entered OwnWaiting ch; owes = Some (Call parts); notes = [] }

-- ---- questions

abbrev pub had_call : ChannelState → Bool
had_call Ready = false
had_call OwnClear = false
had_call _ = true

abbrev pub waits_for_call : Role → ChannelState → Bool
waits_for_call role OwnWaiting = true
waits_for_call Dte Collision = true
waits_for_call role _ = false

abbrev pub waits_for_clear : ChannelState → Bool
waits_for_clear OwnClear = true
waits_for_clear _ = false

-- nothing is owed or to be told, and nothing waits to be sent or taken
abbrev pub channel_rests : Channel → Bool
channel_rests ch = (length ch.owed == 0) && rests ch.traffic
