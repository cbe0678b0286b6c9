-- Worked runs of a line with one channel on which as much is owed as may be, by computation.
use Rattle.std.proofs.Common.{◌≡◌, ℕ, zero, suc, true, false, List, [], ◌∷◌, ◌++◌, Option, Some, refl}
use Rattle.link_timers.specs.declared.role.Role.TheVariants.{Dce}
use Rattle.data_transfer.specs.Flow.{modulo_8}
use Rattle.data_transfer.specs.Packets.{CallParts, Body, Received}
use Rattle.data_transfer.specs.Packets.Body.{Call, Accepted, Clear, Reset, Restart}
use Rattle.packet_channel.specs.Channel.{Channel, ChannelState}
use Rattle.packet_channel.specs.Channel.Request.{Accept, Clearing, Resetting}
use Rattle.packet_layer.specs.Layer.{Layer, channel_of, made, link_up, on_packet}
use Rattle.packet_layer.specs.Layer.Timer.{RestartTimer, ClearTimer}
use Rattle.packet_laws.specs.LayerLine.{Line, Happening, start_line, after}
use Rattle.packet_laws.specs.LayerLine.Happening.{Here, There}
use Rattle.packet_laws.specs.LayerLine.Event.{Up, Calls, Requests, Expires, Offers, Arrives}
use Rattle.packet_laws.specs.Owed.{asks}

abbrev parts : List ℕ → CallParts
parts digits = record { called = digits; calling = []; facilities = []; user_part = [] }

abbrev run : List Happening → Line
run hs = after hs (start_line 1 (modulo_8 2) false)

-- the state of the channel, and what it owes
abbrev Owes : Option Channel → ChannelState → List Body → Type 0
Owes (Some ch) state owed = (ch.state ≡ state) × (ch.owed ≡ owed)
Owes _ state owed = ⊥

abbrev set_up : List Happening
set_up = Here (Up 1) ∷ There (Up 1) ∷ Here Offers ∷ There Offers ∷ Here Arrives ∷ There Arrives ∷ []

placed : Owes (channel_of (run (set_up ++ Here (Calls (parts (1 ∷ []))) ∷ [])).me.layer 1) ChannelState.OwnWaiting (Call (parts (1 ∷ [])) ∷ [])
placed = (refl, refl)

-- two calls collide at the DCE before it hands over its own, it accepts the DTE's, resets and clears
abbrev collided : List Happening
collided = set_up ++ Here (Calls (parts (1 ∷ []))) ∷ There (Calls (parts (2 ∷ []))) ∷ Here Offers ∷ There Arrives ∷ []

one_owed : Owes (channel_of (run collided).you.layer 1) ChannelState.Collision (Call (parts (2 ∷ [])) ∷ [])
one_owed = (refl, refl)

abbrev reset : List Happening
reset = collided ++ There (Requests 1 Accept) ∷ There (Requests 1 (Resetting 0 0)) ∷ []

three_owed : Owes (channel_of (run reset).you.layer 1) ChannelState.Transfer (Call (parts (2 ∷ [])) ∷ Accepted ∷ Reset 0 0 ∷ [])
three_owed = (refl, refl)

abbrev cleared : List Happening
cleared = reset ++ There (Requests 1 (Clearing 0 0)) ∷ []

four_owed : Owes (channel_of (run cleared).you.layer 1) ChannelState.OwnClear (Call (parts (2 ∷ [])) ∷ Accepted ∷ Reset 0 0 ∷ Clear 0 0 ∷ [])
four_owed = (refl, refl)

-- the DTE's clear crosses it: the channel is in p1, and owes the four still
abbrev crossed : List Happening
crossed = cleared ++ Here (Requests 1 (Clearing 0 0)) ∷ Here Offers ∷ There Arrives ∷ []

four_owed_still : Owes (channel_of (run crossed).you.layer 1) ChannelState.Ready (Call (parts (2 ∷ [])) ∷ Accepted ∷ Reset 0 0 ∷ Clear 0 0 ∷ [])
four_owed_still = (refl, refl)

no_relink : (run crossed).you.layer.relink ≡ false
no_relink = refl

-- resets in a call whose packets the DTE keeps back: two are owed, since the first one crosses the DCE's
abbrev two_resets : List Happening
two_resets = set_up ++ Here (Calls (parts (1 ∷ []))) ∷ Here Offers ∷ There Arrives ∷ There (Requests 1 Accept) ∷ There Offers ∷ Here Arrives ∷ Here (Requests 1 (Resetting 1 0))
    ∷ There (Requests 1 (Resetting 2 0)) ∷ There Offers ∷ Here Arrives ∷ Here (Requests 1 (Resetting 3 0)) ∷ []

two_resets_owed : Owes (channel_of (run two_resets).me.layer 1) ChannelState.Transfer (Reset 1 0 ∷ Reset 3 0 ∷ [])
two_resets_owed = (refl, refl)

-- two restart packets: the DCE's restart is heard while the own one is owed, and the clear timer begins another
abbrev two_restarts : List Happening
two_restarts = Here (Up 1) ∷ There (Up 1) ∷ There Offers ∷ Here Arrives ∷ Here (Calls (parts (1 ∷ []))) ∷ Here (Requests 1 (Clearing 0 0)) ∷ Here (Expires (ClearTimer 1)) ∷ []

two_restarts_owed : (run two_restarts).me.layer.owed ≡ Restart 0 0 ∷ Restart 0 0 ∷ []
two_restarts_owed = refl

-- the restart timer asks for a relink
restart_expiry : asks (Expires RestartTimer) (run two_restarts) ≡ true
restart_expiry = refl

-- a stranger passes the limit: it clears five times what is in p1
abbrev cleared_by_stranger : ℕ → Layer → Layer
cleared_by_stranger zero l = l
cleared_by_stranger (suc n) l = cleared_by_stranger n (on_packet l (Received.Whole (record { channel = 1; body = Clear 0 0 })))

abbrev after_restart : Layer
after_restart = on_packet (link_up (made Dce 1 (modulo_8 2) false)) (Received.Whole (record { channel = 0; body = Restart 0 0 }))

four_clears : (cleared_by_stranger 4 after_restart).relink ≡ false
four_clears = refl

five_clears : (cleared_by_stranger 5 after_restart).relink ≡ true
five_clears = refl
