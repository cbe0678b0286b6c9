-- Worked runs of a line, by computation.
use Rattle.std.proofs.Common.{◌≡◌, ℕ, zero, suc, true, false, List, [], ◌∷◌, ◌++◌, ◌+◌, Some, refl, length, None, arith}
use Rattle.data_transfer.specs.Flow.{modulo_8, modulo_128}
use Rattle.data_transfer.specs.Packets.{CallParts, Datum, Body, Packet, Reason}
use Rattle.data_transfer.specs.Packets.Body.{Call, Accepted, Data, ReceiveReady, Reset, Restart}
use Rattle.data_transfer.specs.Packets.Note.{Incoming, Connected, Closed, Covered}
use Rattle.link_timers.specs.declared.role.Role.TheVariants.{Dte, Dce}
use Rattle.packet_channel.specs.Channel.{ChannelState, Refusal, closed_channel}
use Rattle.packet_channel.specs.Channel.Request.{Accept, Clearing, Resetting, Sending, Taking, Releasing}
use Rattle.packet_layer.specs.Layer.{confirmed, request_refusal}
use Rattle.packet_layer.specs.Layer.Timer.{ClearTimer}
use Rattle.packet_laws.specs.History.{empty_epoch}
use Rattle.packet_laws.specs.LayerLine.{Line, Happening, start_line, no_parts, after, turned, next_of_session}
use Rattle.packet_laws.specs.LayerLine.Happening.{Here, There}
use Rattle.packet_laws.specs.LayerLine.Event.{Up, Calls, Requests, Expires, Offers, Arrives}
use Rattle.packet_laws.specs.LayerLineLaw.{CallKnown, IsUnused, InUse}
use Rattle.packet_laws.proofs.Line.LineHolds.{line_holds}

abbrev packet : ℕ → Body → Packet
packet c b = record { channel = c; body = b }

abbrev parts : List ℕ → CallParts
parts digits = record { called = digits; calling = []; facilities = []; user_part = [] }

abbrev hi : Datum
hi = record { octets = 72 ∷ 73 ∷ []; more = false; qualified = false; delivery = true }

-- the link comes up, and both restart
abbrev set_up : List Happening
set_up = Here (Up 1) ∷ There (Up 1) ∷ Here Offers ∷ There Offers ∷ Here Arrives ∷ There Arrives ∷ []

abbrev run : ℕ → List Happening → Line
run channels hs = after hs (start_line channels (modulo_8 2) false)

restarts : (run 4 set_up).me.offered 1 ≡ packet 0 (Restart 0 0) ∷ []
restarts = refl

restarts_dce : (run 4 set_up).you.offered 1 ≡ packet 0 (Restart 7 0) ∷ []
restarts_dce = refl

-- a call of the DTE takes the highest channel
abbrev call_2001 : List Happening
call_2001 = set_up ++ Here (Calls (parts (2 ∷ 0 ∷ 0 ∷ 1 ∷ []))) ∷ Here Offers ∷ There Arrives ∷ []

called : (run 4 call_2001).me.offered 1 ≡ packet 0 (Restart 0 0) ∷ packet 4 (Call (parts (2 ∷ 0 ∷ 0 ∷ 1 ∷ []))) ∷ []
called = refl

incoming : (run 4 call_2001).you.layer.notes ≡ Incoming 4 (parts (2 ∷ 0 ∷ 0 ∷ 1 ∷ [])) ∷ []
incoming = refl

abbrev answered : List Happening
answered = call_2001 ++ There (Requests 4 Accept) ∷ There Offers ∷ Here Arrives ∷ []

accepted : (run 4 answered).you.offered 1 ≡ packet 0 (Restart 7 0) ∷ packet 4 Accepted ∷ []
accepted = refl

connected : (run 4 answered).me.layer.notes ≡ Connected 4 ∷ []
connected = refl

-- resets that cross: both are sent, neither is noted, and each end has one epoch more
abbrev resets : List Happening
resets = answered ++ Here (Requests 4 (Resetting 0 0)) ∷ There (Requests 4 (Resetting 0 0)) ∷ Here Offers ∷ There Offers ∷ Here Arrives ∷ There Arrives ∷ []

reset_sent : (run 4 resets).me.offered 1 ≡ packet 0 (Restart 0 0) ∷ packet 4 (Call (parts (2 ∷ 0 ∷ 0 ∷ 1 ∷ []))) ∷ packet 4 (Reset 0 0) ∷ []
reset_sent = refl

no_reset_noted : (run 4 resets).me.layer.notes ≡ []
no_reset_noted = refl

one_epoch_more : ((run 4 resets).me.histories 1 4).epoch ≡ 1
one_epoch_more = refl

one_epoch_more_there : ((run 4 resets).you.histories 1 4).epoch ≡ 1
one_epoch_more_there = refl

-- a call collision on a line with one channel: the DTE's call goes on
abbrev collision : List Happening
collision = set_up ++ Here (Calls (parts (1 ∷ []))) ∷ There (Calls (parts (2 ∷ []))) ∷ Here Offers ∷ There Offers ∷ Here Arrives ∷ There Arrives ∷ []

cancelled : (run 1 collision).you.layer.notes ≡ Closed 1 1 0 Reason.Cancelled ∷ Incoming 1 (parts (1 ∷ [])) ∷ []
cancelled = refl

goes_on : (run 1 (collision ++ There (Requests 1 Accept) ∷ There Offers ∷ Here Arrives ∷ [])).me.layer.notes ≡ Connected 1 ∷ []
goes_on = refl

-- the ninth packet waiting is refused: two go to the link, eight wait
abbrev say_x : Happening
say_x = Here (Requests 4 (Sending (record { octets = 88 ∷ []; more = false; qualified = false; delivery = false })))

abbrev ten : List Happening
ten = answered ++ say_x ∷ Here Offers ∷ say_x ∷ Here Offers ∷ say_x ∷ Here Offers ∷ say_x ∷ say_x ∷ say_x ∷ say_x ∷ say_x ∷ say_x ∷ say_x ∷ []

full : request_refusal (run 4 ten).me.layer 4 (Sending hi) ≡ Some Refusal.QueueFull
full = refl

two_sent : length ((run 4 ten).me.offered 1) ≡ 4
two_sent = refl

-- delivery confirmation: D = 1 is confirmed when P(R) covers the packet
abbrev delivery : List Happening
delivery = answered ++ Here (Requests 4 (Sending hi)) ∷ Here Offers ∷ There Arrives ∷ There (Requests 4 Taking) ∷ There (Requests 4 (Releasing 1)) ∷ There Offers ∷ []

sent_data : (run 4 delivery).me.offered 1 ≡ packet 0 (Restart 0 0) ∷ packet 4 (Call (parts (2 ∷ 0 ∷ 0 ∷ 1 ∷ []))) ∷ packet 4 (Data 0 0 hi) ∷ []
sent_data = refl

sent_ready : (run 4 delivery).you.offered 1 ≡ packet 0 (Restart 7 0) ∷ packet 4 Accepted ∷ packet 4 (ReceiveReady 1) ∷ []
sent_ready = refl

not_yet : confirmed (run 4 delivery).me.layer 4 ≡ false
not_yet = refl

now : confirmed (run 4 (delivery ++ Here Arrives ∷ [])).me.layer 4 ≡ true
now = refl

covered : (run 4 (delivery ++ Here Arrives ∷ [])).me.layer.notes ≡ Covered 4 1 ∷ []
covered = refl

took : ((run 4 delivery).you.histories 1 4).epochs 0 0 0 ≡ record { sent = []; taken = hi ∷ []; interrupts_sent = []; interrupts_taken = []; covered = 0; released = 1; called = None; answered = true }
took = refl

-- the caller knows the call that it placed, the other end that it accepted one, also after a reset
caller : ((run 4 delivery).me.histories 1 4).epochs 0 0 0 ≡ record { sent = hi ∷ []; taken = []; interrupts_sent = []; interrupts_taken = []; covered = 0; released = 0; called = Some (parts (2 ∷ 0 ∷ 0 ∷ 1 ∷ [])); answered = false }
caller = refl

callee_after_reset : ((run 4 resets).you.histories 1 4).epochs 0 0 1 ≡ record empty_epoch { answered = true }
callee_after_reset = refl

waits : InUse Dte ChannelState.OwnWaiting ((run 4 call_2001).me.histories 1 4)
waits = record { parts = parts (2 ∷ 0 ∷ 0 ∷ 1 ∷ []); first = refl; placed = λ g. refl }

is_called : InUse Dce ChannelState.FarWaiting ((run 4 call_2001).you.histories 1 4)
is_called = record { first = refl; empty = λ g. refl }

-- the DCE of a collision placed a call and accepted another one, which the DTE placed
abbrev resolved : List Happening
resolved = collision ++ There (Requests 1 Accept) ∷ There Offers ∷ Here Arrives ∷ []

resolved_there : ((run 1 resolved).you.histories 1 1).epochs 0 0 0 ≡ record empty_epoch { called = Some (parts (2 ∷ [])); answered = true }
resolved_there = refl

resolved_here : ((run 1 resolved).me.histories 1 1).epochs 0 0 0 ≡ record empty_epoch { called = Some (parts (1 ∷ [])); answered = false }
resolved_here = refl

-- a standing call counts as one that the DTE placed and the DCE accepted
standing_here : ((start_line 1 (modulo_8 2) true).me.histories 0 1).epochs 0 0 0 ≡ record empty_epoch { called = Some no_parts }
standing_here = refl

standing_there : ((start_line 1 (modulo_8 2) true).you.histories 0 1).epochs 0 0 0 ≡ record empty_epoch { answered = true }
standing_there = refl

-- the DCE's Call arrives when the DCE has cleared and begun a further restart meanwhile
abbrev overtaken : List Happening
overtaken = set_up ++ There (Calls (parts (2 ∷ []))) ∷ There Offers ∷ There (Requests 1 (Clearing 0 0)) ∷ There Offers ∷ There (Expires (ClearTimer 1)) ∷ []

further_restart : ((run 1 overtaken).you.histories 1 1).restart ≡ 1
further_restart = refl

call_still_known : CallKnown ((run 1 overtaken).me.histories 1 1) ((run 1 overtaken).you.histories 1 1) (parts (2 ∷ []))
call_still_known = ((line_holds 1 (modulo_8 2) false (omega arith) (omega arith) overtaken).0 1 1 (omega arith) (omega arith)).call_here (parts (2 ∷ []))
    (record { up = refl; next = refl; ready = refl; channel = closed_channel; found = refl; takes = tt })

-- a clear ends the use of the channel; the next call on it is another use
abbrev cleared : List Happening
cleared = delivery ++ Here (Requests 4 (Clearing 0 0)) ∷ Here Offers ∷ There Arrives ∷ There Offers ∷ Here Arrives ∷ Here Arrives ∷ []

closed : (run 4 cleared).you.layer.notes ≡ Closed 4 0 0 Reason.FarEnd ∷ []
closed = refl

next_use : ((run 4 cleared).me.histories 1 4).use_ ≡ 1
next_use = refl

unused_again : IsUnused ((run 4 cleared).me.histories 1 4)
unused_again = record { first = refl; empty = λ g. refl }

-- numbers modulo 128 and a window of 32 on a line with one channel, where a call stands: packets of one octet pass one by
-- one from the DTE to the DCE, which takes and releases each, and a P(R) covers it
abbrev one : ℕ → Datum
one n = record { octets = n ∷ []; more = false; qualified = false; delivery = false }

abbrev pass : ℕ → List Happening
pass n =
    Here (Requests 1 (Sending (one n))) ∷ Here Offers ∷ There Arrives
    ∷ There (Requests 1 Taking) ∷ There (Requests 1 (Releasing 1)) ∷ There Offers ∷ Here Arrives ∷ []

abbrev passes : ℕ → List Happening
passes zero = []
passes (suc n) = passes n ++ pass n

abbrev up_to : ℕ → List Datum
up_to zero = []
up_to (suc n) = up_to n ++ one n ∷ []

abbrev passed : Line
passed = after (passes 130) (start_line 1 (modulo_128 32) true)

all_taken : ((passed.you.histories 0 1).epochs 0 0 0).taken ≡ up_to 130
all_taken = refl

all_covered : ((passed.me.histories 0 1).epochs 0 0 0).covered ≡ 130
all_covered = refl

third_number : next_of_session (turned (after (Here (Requests 1 (Sending hi)) ∷ Here Offers ∷ []) passed)) 0 ≡ Some (packet 1 (Data 2 0 hi))
third_number = refl

-- after 120 of them 32 are on the way at once, beyond number 127, and one more waits
abbrev sends : (first count : ℕ) → List Happening
sends first zero = []
sends first (suc n) = sends first n ++ Here (Requests 1 (Sending (one (first + n)))) ∷ Here Offers ∷ []

abbrev filled : Line
filled = after (passes 120 ++ sends 120 33) (start_line 1 (modulo_128 32) true)

window_is_full : length (filled.me.offered 0) ≡ 152
window_is_full = refl

-- they come, and one P(R) covers them all
abbrev takes : ℕ → List Happening
takes zero = []
takes (suc n) = There Arrives ∷ There (Requests 1 Taking) ∷ There (Requests 1 (Releasing 1)) ∷ takes n

abbrev emptied : Line
emptied = after (takes 32 ++ There Offers ∷ Here Arrives ∷ Here Offers ∷ []) filled

all_32_taken : ((emptied.you.histories 0 1).epochs 0 0 0).taken ≡ up_to 152
all_32_taken = refl

all_32_covered : ((emptied.me.histories 0 1).epochs 0 0 0).covered ≡ 152
all_32_covered = refl

one_more : next_of_session (turned emptied) 0 ≡ Some (packet 1 (Data 24 0 (one 152)))
one_more = refl
