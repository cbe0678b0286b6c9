-- Case by case, in data transfer: a step of the machine follows the row of the reset table, and where there is none and the call
-- table leaves the packet to data transfer, numbers and interrupts decide.
use Rattle.std.proofs.Common.{◌≡◌, ℕ, Bool, true, false, List, refl, ap, subst, ◌∙◌}
use Rattle.std.specs.Prelude.{Option, Some, None, IfSome}
use Rattle.link_timers.specs.declared.role.Role.{Role}
use Rattle.link_timers.specs.declared.role.Role.TheVariants.{Dte, Dce}
use Rattle.data_transfer.specs.declared.flow.Flow.{Flow}
use Rattle.call_states.specs.declared.table.CallNote.TheVariants.{InDataTransfer}
use Rattle.call_states.specs.declared.table.CallStep.{CallStep}
use Rattle.reset_restart.specs.declared.reset.ResetStep.{ResetStep}
use Rattle.data_transfer.specs.Packets.{Body, Received}
use Rattle.data_transfer.specs.Packets.{Body as body}
use Rattle.data_transfer.specs.Packets.Received.{Whole, Unknown, Faulty}
use Rattle.data_transfer.specs.Traffic.{Traffic, Heard, hears}
use Rattle.packet_channel.specs.Channel.{ChannelState, Channel, received, after_heard}
use Rattle.packet_channel.specs.Channel.ChannelState.{Ready, OwnWaiting, FarWaiting, Transfer, Collision, OwnClear}
use Rattle.packet_laws.specs.Tables.States.{call_state, channel_named, body_read}
use Rattle.packet_laws.specs.Tables.Rows.{call_row, reset_row}
use Rattle.packet_laws.specs.Tables.Follows.{FollowsReset}
use Rattle.packet_laws.proofs.Tables.Channels.{channel_in, packet_on, step_by}

abbrev pub ResetAt : Role → Flow → Channel → Received → Type 0
ResetAt role flow ch r = IfSome (reset_row role ch r) (λ row. FollowsReset role (channel_named r) (body_read r) ch row (step_by role flow ch r))

in_transfer_reset : (role : Role) (flow : Flow) (resetting : Bool) (owed : List Body) (t : Traffic) (c : ℕ) (b : Body)
    → ResetAt role flow (channel_in Transfer resetting owed t) (Whole (packet_on c b))
in_transfer_reset Dte flow false owed t c (body.Call parts) = search
in_transfer_reset Dte flow false owed t c _ = search
in_transfer_reset Dte flow true owed t c (body.Call parts) = search
in_transfer_reset Dte flow true owed t c _ = search
in_transfer_reset Dce flow false owed t c (body.Call parts) = search
in_transfer_reset Dce flow false owed t c _ = search
in_transfer_reset Dce flow true owed t c (body.Call parts) = search
in_transfer_reset Dce flow true owed t c _ = search

whole_reset : (role : Role) (flow : Flow) (s : ChannelState) (resetting : Bool) (owed : List Body) (t : Traffic) (c : ℕ) (b : Body)
    → ResetAt role flow (channel_in s resetting owed t) (Whole (packet_on c b))
whole_reset role flow Transfer resetting owed t c b = in_transfer_reset role flow resetting owed t c b
whole_reset role flow _ resetting owed t c b = tt

unknown_reset : (role : Role) (flow : Flow) (s : ChannelState) (resetting : Bool) (owed : List Body) (t : Traffic) (c : ℕ) → ResetAt role flow (channel_in s resetting owed t) (Unknown c)
unknown_reset Dte flow Transfer true owed t c = search
unknown_reset Dte flow _ _ owed t c = search
unknown_reset Dce flow Transfer true owed t c = search
unknown_reset Dce flow _ _ owed t c = search

faulty_reset : (role : Role) (flow : Flow) (s : ChannelState) (resetting : Bool) (owed : List Body) (t : Traffic) (c : ℕ) → ResetAt role flow (channel_in s resetting owed t) (Faulty c)
faulty_reset Dte flow Transfer true owed t c = search
faulty_reset Dte flow _ _ owed t c = search
faulty_reset Dce flow Transfer true owed t c = search
faulty_reset Dce flow _ _ owed t c = search

pub reset_at : (role : Role) (flow : Flow) (ch : Channel) (r : Received) → ResetAt role flow ch r
reset_at role flow ch (Whole p) = whole_reset role flow ch.state ch.resetting ch.owed ch.traffic p.channel p.body
reset_at role flow ch (Unknown c) = unknown_reset role flow ch.state ch.resetting ch.owed ch.traffic c
reset_at role flow ch (Faulty c) = faulty_reset role flow ch.state ch.resetting ch.owed ch.traffic c

-- ---- numbers and interrupts

-- what is heard leaves the call in data transfer
heard_goes_on : (role : Role) (c : ℕ) (resetting : Bool) (owed : List Body) (t : Traffic) (h : Heard) → (after_heard role c (channel_in Transfer resetting owed t) h).channel.state ≡ Transfer
heard_goes_on role c resetting owed t (Heard.Keeps n u) = refl
heard_goes_on role c resetting owed t (Heard.Confirms u) = refl
heard_goes_on role c resetting owed t (Heard.Wrong d) = refl

abbrev pub Heeds : Role → Flow → ℕ → Channel → Body → CallStep → Type 0
Heeds role flow c ch b row = (received role flow c ch b ≡ after_heard role c ch (hears flow ch.traffic b)) × (call_state role (received role flow c ch b).channel.state ≡ row.state)

-- P of the row of the call table, where it leaves the packet to data transfer and the reset table has no row
abbrev pub LeftTo : Option ResetStep → Option CallStep → (CallStep → Type 0) → Type 0
LeftTo None (Some row) P = row.note ≡ InDataTransfer → P row
LeftTo _ _ P = Unit {0}

pub of_left : (reset : Option ResetStep) (found : Option CallStep) (row : CallStep) (P : CallStep → Type 0) → reset ≡ None → found ≡ Some row → row.note ≡ InDataTransfer → LeftTo reset found P → P row
of_left None None row P none e n h = absurd (cc)
of_left None (Some x) row P none e n h = let same : x ≡ row = cc in subst P same (h (ap (λ (r : CallStep). r.note) same ∙ n))
of_left (Some x) found row P none e n h = absurd (cc)

abbrev pub LeftAt : Role → Flow → Channel → ℕ → Body → Type 0
LeftAt role flow ch c b = LeftTo (reset_row role ch (Whole (packet_on c b))) (call_row role ch (Whole (packet_on c b))) (λ row. Heeds role flow c ch b row)

heeds : (role : Role) (flow : Flow) (owed : List Body) (t : Traffic) (c : ℕ) (h : Heard) → call_state role (after_heard role c (channel_in Transfer false owed t) h).channel.state ≡ call_state role Transfer
heeds role flow owed t c h = ap (λ (s : ChannelState). call_state role s) (heard_goes_on role c false owed t h)

whole_left : (role : Role) (flow : Flow) (s : ChannelState) (resetting : Bool) (owed : List Body) (t : Traffic) (c : ℕ) (b : Body) → LeftAt role flow (channel_in s resetting owed t) c b
whole_left Dte flow Ready resetting owed t c (body.Call parts) = λ n. absurd (cc)
whole_left Dte flow Ready resetting owed t c _ = λ n. absurd (cc)
whole_left Dte flow OwnWaiting resetting owed t c (body.Call parts) = λ n. absurd (cc)
whole_left Dte flow OwnWaiting resetting owed t c _ = λ n. absurd (cc)
whole_left Dte flow FarWaiting resetting owed t c (body.Call parts) = λ n. absurd (cc)
whole_left Dte flow FarWaiting resetting owed t c _ = λ n. absurd (cc)
whole_left Dte flow Transfer true owed t c (body.Data send receive d) = tt
whole_left Dte flow Transfer true owed t c (body.Interrupt octets) = tt
whole_left Dte flow Transfer true owed t c body.InterruptConfirmation = tt
whole_left Dte flow Transfer true owed t c (body.ReceiveReady receive) = tt
whole_left Dte flow Transfer true owed t c (body.ReceiveNotReady receive) = tt
whole_left Dte flow Transfer true owed t c (body.Reset cause diagnostic) = tt
whole_left Dte flow Transfer true owed t c body.ResetConfirmation = tt
whole_left Dte flow Transfer true owed t c _ = λ n. absurd (cc)
whole_left Dte flow Transfer false owed t c (body.Data send receive d) = λ n. (refl, heeds Dte flow owed t c (hears flow t (body.Data send receive d)))
whole_left Dte flow Transfer false owed t c (body.Interrupt octets) = λ n. (refl, heeds Dte flow owed t c (hears flow t (body.Interrupt octets)))
whole_left Dte flow Transfer false owed t c body.InterruptConfirmation = λ n. (refl, heeds Dte flow owed t c (hears flow t body.InterruptConfirmation))
whole_left Dte flow Transfer false owed t c (body.ReceiveReady receive) = λ n. (refl, heeds Dte flow owed t c (hears flow t (body.ReceiveReady receive)))
whole_left Dte flow Transfer false owed t c (body.ReceiveNotReady receive) = λ n. (refl, heeds Dte flow owed t c (hears flow t (body.ReceiveNotReady receive)))
whole_left Dte flow Transfer false owed t c (body.Reset cause diagnostic) = tt
whole_left Dte flow Transfer false owed t c body.ResetConfirmation = tt
whole_left Dte flow Transfer false owed t c _ = λ n. absurd (cc)
whole_left Dte flow Collision resetting owed t c (body.Call parts) = λ n. absurd (cc)
whole_left Dte flow Collision resetting owed t c _ = λ n. absurd (cc)
whole_left Dte flow OwnClear resetting owed t c (body.Call parts) = λ n. absurd (cc)
whole_left Dte flow OwnClear resetting owed t c _ = λ n. absurd (cc)
whole_left Dce flow Ready resetting owed t c (body.Call parts) = λ n. absurd (cc)
whole_left Dce flow Ready resetting owed t c _ = λ n. absurd (cc)
whole_left Dce flow OwnWaiting resetting owed t c (body.Call parts) = λ n. absurd (cc)
whole_left Dce flow OwnWaiting resetting owed t c _ = λ n. absurd (cc)
whole_left Dce flow FarWaiting resetting owed t c (body.Call parts) = λ n. absurd (cc)
whole_left Dce flow FarWaiting resetting owed t c _ = λ n. absurd (cc)
whole_left Dce flow Transfer true owed t c (body.Data send receive d) = tt
whole_left Dce flow Transfer true owed t c (body.Interrupt octets) = tt
whole_left Dce flow Transfer true owed t c body.InterruptConfirmation = tt
whole_left Dce flow Transfer true owed t c (body.ReceiveReady receive) = tt
whole_left Dce flow Transfer true owed t c (body.ReceiveNotReady receive) = tt
whole_left Dce flow Transfer true owed t c (body.Reset cause diagnostic) = tt
whole_left Dce flow Transfer true owed t c body.ResetConfirmation = tt
whole_left Dce flow Transfer true owed t c _ = λ n. absurd (cc)
whole_left Dce flow Transfer false owed t c (body.Data send receive d) = λ n. (refl, heeds Dce flow owed t c (hears flow t (body.Data send receive d)))
whole_left Dce flow Transfer false owed t c (body.Interrupt octets) = λ n. (refl, heeds Dce flow owed t c (hears flow t (body.Interrupt octets)))
whole_left Dce flow Transfer false owed t c body.InterruptConfirmation = λ n. (refl, heeds Dce flow owed t c (hears flow t body.InterruptConfirmation))
whole_left Dce flow Transfer false owed t c (body.ReceiveReady receive) = λ n. (refl, heeds Dce flow owed t c (hears flow t (body.ReceiveReady receive)))
whole_left Dce flow Transfer false owed t c (body.ReceiveNotReady receive) = λ n. (refl, heeds Dce flow owed t c (hears flow t (body.ReceiveNotReady receive)))
whole_left Dce flow Transfer false owed t c (body.Reset cause diagnostic) = tt
whole_left Dce flow Transfer false owed t c body.ResetConfirmation = tt
whole_left Dce flow Transfer false owed t c _ = λ n. absurd (cc)
whole_left Dce flow Collision resetting owed t c (body.Call parts) = λ n. absurd (cc)
whole_left Dce flow Collision resetting owed t c _ = λ n. absurd (cc)
whole_left Dce flow OwnClear resetting owed t c (body.Call parts) = λ n. absurd (cc)
whole_left Dce flow OwnClear resetting owed t c _ = λ n. absurd (cc)

pub left_at : (role : Role) (flow : Flow) (ch : Channel) (c : ℕ) (b : Body) → LeftAt role flow ch c b
left_at role flow ch c b = whole_left role flow ch.state ch.resetting ch.owed ch.traffic c b
