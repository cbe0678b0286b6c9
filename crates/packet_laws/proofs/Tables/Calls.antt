-- Case by case: a step of the machine follows the row of the call table, where there is none of the reset table.
use Rattle.std.proofs.Common.{◌≡◌, ℕ, Bool, true, false, List, refl, sym, ap, subst, ◌∙◌}
use Rattle.std.specs.Prelude.{◌≢◌, Option, Some, None}
use Rattle.link_timers.specs.declared.role.Role.{Role}
use Rattle.link_timers.specs.declared.role.Role.TheVariants.{Dte, Dce}
use Rattle.data_transfer.specs.declared.flow.Flow.{Flow}
use Rattle.call_states.specs.declared.table.CallNote.TheVariants.{InDataTransfer}
use Rattle.call_states.specs.declared.table.CallStep.{CallStep}
use Rattle.reset_restart.specs.declared.reset.ResetStep.{ResetStep}
use Rattle.data_transfer.specs.Packets.{Body, Received}
use Rattle.data_transfer.specs.Packets.{Body as body}
use Rattle.data_transfer.specs.Packets.Received.{Whole, Unknown, Faulty}
use Rattle.data_transfer.specs.Traffic.{Traffic}
use Rattle.packet_channel.specs.Channel.{ChannelState, Channel}
use Rattle.packet_channel.specs.Channel.ChannelState.{Ready, OwnWaiting, FarWaiting, Transfer, Collision, OwnClear}
use Rattle.packet_laws.specs.Tables.States.{channel_named, body_read}
use Rattle.packet_laws.specs.Tables.Rows.{call_row, reset_row}
use Rattle.packet_laws.specs.Tables.Follows.{FollowsCall}
use Rattle.packet_laws.proofs.Tables.Channels.{channel_in, packet_on, step_by}

-- P of the row of the call table that is followed: there is none of the reset table, and it does not leave the packet to data transfer
abbrev pub Followed : Option ResetStep → Option CallStep → (CallStep → Type 0) → Type 0
Followed None (Some row) P = row.note ≢ InDataTransfer → P row
Followed None None P = ⊥
Followed (Some row) found P = Unit {0}

pub of_followed : (reset : Option ResetStep) (found : Option CallStep) (row : CallStep) (P : CallStep → Type 0) → reset ≡ None → found ≡ Some row → row.note ≢ InDataTransfer → Followed reset found P → P row
of_followed None None row P none e ne h = absurd h
of_followed None (Some x) row P none e ne h = let same : x ≡ row = cc in subst P same (h (λ q. ne (ap (λ (r : CallStep). r.note) (sym same) ∙ q)))
of_followed (Some x) found row P none e ne h = absurd (cc)

abbrev pub FollowedAt : Role → Flow → Channel → Received → Type 0
FollowedAt role flow ch r = Followed (reset_row role ch r) (call_row role ch r) (λ row. FollowsCall role (channel_named r) (body_read r) ch row (step_by role flow ch r))

whole_followed : (role : Role) (flow : Flow) (s : ChannelState) (resetting : Bool) (owed : List Body) (t : Traffic) (c : ℕ) (b : Body)
    → FollowedAt role flow (channel_in s resetting owed t) (Whole (packet_on c b))
whole_followed Dte flow Ready resetting owed t c (body.Call parts) = search
whole_followed Dte flow Ready resetting owed t c _ = search
whole_followed Dte flow OwnWaiting resetting owed t c (body.Call parts) = search
whole_followed Dte flow OwnWaiting resetting owed t c _ = search
whole_followed Dte flow FarWaiting resetting owed t c (body.Call parts) = search
whole_followed Dte flow FarWaiting resetting owed t c _ = search
whole_followed Dte flow Transfer true owed t c (body.Call parts) = search
whole_followed Dte flow Transfer true owed t c _ = search
whole_followed Dte flow Transfer false owed t c (body.Data send receive d) = λ ne. absurd (ne refl)
whole_followed Dte flow Transfer false owed t c (body.Interrupt octets) = λ ne. absurd (ne refl)
whole_followed Dte flow Transfer false owed t c body.InterruptConfirmation = λ ne. absurd (ne refl)
whole_followed Dte flow Transfer false owed t c (body.ReceiveReady receive) = λ ne. absurd (ne refl)
whole_followed Dte flow Transfer false owed t c (body.ReceiveNotReady receive) = λ ne. absurd (ne refl)
whole_followed Dte flow Transfer false owed t c _ = search
whole_followed Dte flow Collision resetting owed t c (body.Call parts) = search
whole_followed Dte flow Collision resetting owed t c _ = search
whole_followed Dte flow OwnClear resetting owed t c (body.Call parts) = search
whole_followed Dte flow OwnClear resetting owed t c _ = search
whole_followed Dce flow Ready resetting owed t c (body.Call parts) = search
whole_followed Dce flow Ready resetting owed t c _ = search
whole_followed Dce flow OwnWaiting resetting owed t c (body.Call parts) = search
whole_followed Dce flow OwnWaiting resetting owed t c _ = search
whole_followed Dce flow FarWaiting resetting owed t c (body.Call parts) = search
whole_followed Dce flow FarWaiting resetting owed t c _ = search
whole_followed Dce flow Transfer true owed t c (body.Call parts) = search
whole_followed Dce flow Transfer true owed t c _ = search
whole_followed Dce flow Transfer false owed t c (body.Data send receive d) = λ ne. absurd (ne refl)
whole_followed Dce flow Transfer false owed t c (body.Interrupt octets) = λ ne. absurd (ne refl)
whole_followed Dce flow Transfer false owed t c body.InterruptConfirmation = λ ne. absurd (ne refl)
whole_followed Dce flow Transfer false owed t c (body.ReceiveReady receive) = λ ne. absurd (ne refl)
whole_followed Dce flow Transfer false owed t c (body.ReceiveNotReady receive) = λ ne. absurd (ne refl)
whole_followed Dce flow Transfer false owed t c _ = search
whole_followed Dce flow Collision resetting owed t c (body.Call parts) = search
whole_followed Dce flow Collision resetting owed t c _ = search
whole_followed Dce flow OwnClear resetting owed t c (body.Call parts) = search
whole_followed Dce flow OwnClear resetting owed t c _ = search

unknown_followed : (role : Role) (flow : Flow) (s : ChannelState) (resetting : Bool) (owed : List Body) (t : Traffic) (c : ℕ) → FollowedAt role flow (channel_in s resetting owed t) (Unknown c)
unknown_followed Dte flow Transfer true owed t c = search
unknown_followed Dte flow _ _ owed t c = search
unknown_followed Dce flow Transfer true owed t c = search
unknown_followed Dce flow _ _ owed t c = search

faulty_followed : (role : Role) (flow : Flow) (s : ChannelState) (resetting : Bool) (owed : List Body) (t : Traffic) (c : ℕ) → FollowedAt role flow (channel_in s resetting owed t) (Faulty c)
faulty_followed Dte flow Transfer true owed t c = search
faulty_followed Dte flow _ _ owed t c = search
faulty_followed Dce flow Transfer true owed t c = search
faulty_followed Dce flow _ _ owed t c = search

pub followed : (role : Role) (flow : Flow) (ch : Channel) (r : Received) → FollowedAt role flow ch r
followed role flow ch (Whole p) = whole_followed role flow ch.state ch.resetting ch.owed ch.traffic p.channel p.body
followed role flow ch (Unknown c) = unknown_followed role flow ch.state ch.resetting ch.owed ch.traffic c
followed role flow ch (Faulty c) = faulty_followed role flow ch.state ch.resetting ch.owed ch.traffic c
