-- Case by case: what a packet makes of the layer follows the row of the restart table.
use Rattle.std.proofs.Common.{◌≡◌, ℕ, Bool, true, false, List, refl, sym, true≢false}
use Rattle.std.specs.Prelude.{◌==◌, cond, Some, None, IfSome}
use Rattle.std.proofs.lemmas.Option.{none-some}
use Rattle.link_timers.specs.declared.role.Role.{Role}
use Rattle.link_timers.specs.declared.role.Role.TheVariants.{Dte, Dce}
use Rattle.packet_codec.specs.declared.packet_type.PacketType.{PacketType}
use Rattle.packet_codec.specs.declared.packet_type.PacketType.TheVariants as types
use Rattle.packet_codec.specs.Reading.{is_on_channel}
use Rattle.data_transfer.specs.declared.flow.Flow.{Flow}
use Rattle.reset_restart.specs.Restart.{restart_step}
use Rattle.data_transfer.specs.Packets.{Body, Packet, Received, Note}
use Rattle.data_transfer.specs.Packets.{Body as body}
use Rattle.data_transfer.specs.Packets.Received.{Whole, Unknown, Faulty}
use Rattle.packet_channel.specs.Channel.{Channel, Step, error_cause, received, unreadable}
use Rattle.packet_layer.specs.Layer.{Phase, Layer, restart_packet, on_channel, unread, on_packet}
use Rattle.packet_layer.specs.Layer.Phase.{PacketReady, OwnRestart, NoSession}
use Rattle.packet_laws.specs.Tables.States.{restart_state, type_of, body_read}
use Rattle.packet_laws.specs.Tables.Follows.{FollowsRestart}

abbrev layer_in : Role → Flow → List Channel → Phase → List Body → ℕ → Bool → List Note → Layer
layer_in role flow chs ph owed served relink notes = record { role = role; flow = flow; channels = chs; phase = ph; owed = owed; served_last = served; relink = relink; notes = notes }

abbrev pub RestartAt : Layer → Body → Layer → Type 0
RestartAt l b done = IfSome (restart_state l.role l.phase) (λ state. IfSome (restart_step l.role state (type_of b)) (λ row. FollowsRestart l row done))

-- a packet on channel 0, or on another one where it is not a restart packet
abbrev after : Layer → ℕ → Body → Bool → Layer
after l c b zero = cond zero (restart_packet l.phase b (unread l)) (on_channel l.phase (unread l) c (λ ch. received l.role l.flow c ch b))

restart_by : (role : Role) (flow : Flow) (chs : List Channel) (ph : Phase) (owed : List Body) (served : ℕ) (relink : Bool) (notes : List Note) (c : ℕ) (b : Body) (zero : Bool)
    → (c == 0) ≡ zero → is_on_channel (type_of b) c ≡ true → RestartAt (layer_in role flow chs ph owed served relink notes) b (after (layer_in role flow chs ph owed served relink notes) c b zero)
restart_by role flow chs NoSession owed served relink notes c b zero z h = tt
restart_by role flow chs _ owed served relink notes c (body.Restart cause diagnostic) false z h = absurd (cc)
restart_by role flow chs _ owed served relink notes c body.RestartConfirmation false z h = absurd (cc)
restart_by Dte flow chs PacketReady owed served relink notes c (body.Restart cause diagnostic) true z h = record { state = refl; owes = Some body.RestartConfirmation; owed = refl; error = search; kept = refl; relink = refl; told = search }
restart_by Dte flow chs PacketReady owed served relink notes c body.RestartConfirmation true z h = record { state = refl; owes = Some (body.Restart (error_cause Dte 1) 17); owed = refl; error = search; kept = refl; relink = refl; told = search }
restart_by Dte flow chs PacketReady owed served relink notes c _ _ z h = tt
restart_by Dte flow chs OwnRestart owed served relink notes c (body.Restart cause diagnostic) true z h = record { state = refl; owes = None; owed = refl; error = search; kept = refl; relink = refl; told = search }
restart_by Dte flow chs OwnRestart owed served relink notes c body.RestartConfirmation true z h = record { state = refl; owes = None; owed = refl; error = search; kept = refl; relink = refl; told = search }
restart_by Dte flow chs OwnRestart owed served relink notes c _ true z h = absurd (cc)
restart_by Dte flow chs OwnRestart owed served relink notes c _ false z h = record { state = refl; owes = None; owed = refl; error = search; kept = refl; relink = refl; told = search }
restart_by Dce flow chs PacketReady owed served relink notes c (body.Restart cause diagnostic) true z h = record { state = refl; owes = Some body.RestartConfirmation; owed = refl; error = search; kept = refl; relink = refl; told = search }
restart_by Dce flow chs PacketReady owed served relink notes c body.RestartConfirmation true z h = record { state = refl; owes = Some (body.Restart (error_cause Dce 1) 17); owed = refl; error = search; kept = refl; relink = refl; told = search }
restart_by Dce flow chs PacketReady owed served relink notes c _ _ z h = tt
restart_by Dce flow chs OwnRestart owed served relink notes c (body.Restart cause diagnostic) true z h = record { state = refl; owes = None; owed = refl; error = search; kept = refl; relink = refl; told = search }
restart_by Dce flow chs OwnRestart owed served relink notes c body.RestartConfirmation true z h = record { state = refl; owes = None; owed = refl; error = search; kept = refl; relink = refl; told = search }
restart_by Dce flow chs OwnRestart owed served relink notes c _ true z h = absurd (cc)
restart_by Dce flow chs OwnRestart owed served relink notes c _ false z h = record { state = refl; owes = None; owed = refl; error = search; kept = refl; relink = refl; told = search }

pub restart_at : (l : Layer) (p : Packet) → is_on_channel (type_of p.body) p.channel ≡ true → RestartAt l p.body (on_packet l (Whole p))
restart_at l p h = restart_by l.role l.flow l.channels l.phase l.owed l.served_last l.relink l.notes p.channel p.body (p.channel == 0) refl h

-- ---- what cannot be read

abbrev pub UnreadableAt : Layer → PacketType → Layer → Type 0
UnreadableAt l kind done = IfSome (restart_state l.role l.phase) (λ state. IfSome (restart_step l.role state kind) (λ row. FollowsRestart l row done))

unreadable_by : (role : Role) (flow : Flow) (chs : List Channel) (ph : Phase) (owed : List Body) (served : ℕ) (relink : Bool) (notes : List Note) (c : ℕ) (f : Channel → Step) (kind : PacketType)
    → is_on_channel kind 0 ≡ false → UnreadableAt (layer_in role flow chs ph owed served relink notes) kind (on_channel ph (unread (layer_in role flow chs ph owed served relink notes)) c f)
unreadable_by role flow chs NoSession owed served relink notes c f kind h = tt
unreadable_by role flow chs _ owed served relink notes c f types.RestartRequest h = absurd (true≢false h)
unreadable_by role flow chs _ owed served relink notes c f types.RestartConfirmation h = absurd (true≢false h)
unreadable_by Dte flow chs PacketReady owed served relink notes c f _ h = tt
unreadable_by Dce flow chs PacketReady owed served relink notes c f _ h = tt
unreadable_by Dte flow chs OwnRestart owed served relink notes c f _ h = record { state = refl; owes = None; owed = refl; error = search; kept = refl; relink = refl; told = search }
unreadable_by Dce flow chs OwnRestart owed served relink notes c f _ h = record { state = refl; owes = None; owed = refl; error = search; kept = refl; relink = refl; told = search }

pub unreadable_at : (l : Layer) (r : Received) (kind : PacketType) → body_read r ≡ None → is_on_channel kind 0 ≡ false → UnreadableAt l kind (on_packet l r)
unreadable_at l (Whole p) kind none h = absurd (none-some p.body (sym none))
unreadable_at l (Unknown c) kind none h = unreadable_by l.role l.flow l.channels l.phase l.owed l.served_last l.relink l.notes c (λ ch. unreadable l.role c true ch) kind h
unreadable_at l (Faulty c) kind none h = unreadable_by l.role l.flow l.channels l.phase l.owed l.served_last l.relink l.notes c (λ ch. unreadable l.role c false ch) kind h
