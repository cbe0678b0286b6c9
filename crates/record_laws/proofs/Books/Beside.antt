-- At each end the book has a present record exactly where the packet layer has a call.
use Rattle.std.specs.Prelude.{◌≡◌, ℕ, Bool, true, false, List, length, Option, Some, None, is_some}
use Rattle.std.proofs.Common.{refl, sym, ap, ◌∙◌}
use Rattle.link_timers.specs.declared.role.Role.{Role}
use Rattle.link_timers.specs.declared.role.Role.TheVariants.{Dte, Dce}
use Rattle.packet_channel.specs.Channel.{Channel, ChannelState}
use Rattle.packet_channel.specs.Channel.ChannelState.{Ready, OwnWaiting, FarWaiting, Transfer, Collision, OwnClear}
use Rattle.packet_layer.specs.Layer.{channel_of, had_call}
use Rattle.packet_laws.proofs.Line.LineHolds.{line_holds}
use Rattle.call_records.specs.Book.{Slot, side_of, slot_at}
use Rattle.record_laws.specs.Books.Told.{World, after_all, start, made_callers}
use Rattle.record_laws.specs.Books.Headline.{PresentLaw, IsBeside, has_call, layer_at}
use Rattle.record_laws.proofs.Books.Invariant.{EndView, CallStatus, Tag, SlotIs}
use Rattle.record_laws.proofs.Books.Invariant.CallStatus.{Idle, OwnCall, FarCall, Open}
use Rattle.record_laws.proofs.Books.EndSteps.{status_of, status_at, met_status}
use Rattle.record_laws.proofs.Books.Lines.{all_kept, KeptIn, start_counts}
use Rattle.record_laws.proofs.Books.Starting.{start_kept}

-- a status of a call
abbrev is_call : CallStatus → Bool
is_call Idle = false
is_call OwnCall = true
is_call FarCall = true
is_call Open = true

met_call : (x : Role) → is_call (met_status x) ≡ true
met_call Dte = refl
met_call Dce = refl

state_call : (x : Role) (s : ChannelState) → is_call (status_of x s) ≡ had_call s
state_call x Ready = refl
state_call x OwnWaiting = refl
state_call x FarWaiting = refl
state_call x Transfer = refl
state_call x Collision = met_call x
state_call x OwnClear = refl

status_call : (x : Role) (o : Option Channel) → is_call (status_at x o) ≡ has_call o
status_call x None = refl
status_call x (Some ch) = state_call x ch.state

slot_call : (m : CallStatus) (f : EndView) (tags : List Tag) (x : Role) (c : ℕ) (slot : Slot) → SlotIs m f tags x c slot → is_some slot.present ≡ is_call m
slot_call Idle f tags x c slot h = ap is_some h
slot_call OwnCall f tags x c slot h = ap is_some h.0.is_present
slot_call FarCall f tags x c slot h = ap is_some h.0.is_present
slot_call Open f tags x c slot h = ap is_some h.0.is_present

kept_beside : (n : ℕ) (w : World) (cs : List (Option ℕ)) → KeptIn n w cs → IsBeside w
kept_beside n w cs k = record { channels = λ role. channels role; present = λ role c. present role c }
  where
    channels : (role : Role) → length (side_of role w.book).slots ≡ length (layer_at role w).channels
    channels Dte = k.sizes.size Dte ∙ sym k.here.count
    channels Dce = k.sizes.size Dce ∙ sym k.there.count

    present : (role : Role) (c : ℕ) → is_some (slot_at role c w.book).present ≡ has_call (channel_of (layer_at role w) c)
    present Dte c = slot_call (status_at Dte (channel_of w.line.me.layer c)) _ k.tags Dte c (slot_at Dte c w.book) (k.right.slot Dte c) ∙ status_call Dte (channel_of w.line.me.layer c)
    present Dce c = slot_call (status_at Dce (channel_of w.line.you.layer c)) _ k.tags Dce c (slot_at Dce c w.book) (k.right.slot Dce c) ∙ status_call Dce (channel_of w.line.you.layer c)

pub is_beside : PresentLaw
is_beside dte_node dce_node channels flow standing some small ms allowed =
    kept_beside channels (after_all ms (start dte_node dce_node channels flow standing)) _
    (all_kept channels ms (start dte_node dce_node channels flow standing) (made_callers standing) (start_kept dte_node dce_node channels flow standing some)
    (λ hs. (line_holds channels flow standing some small hs).0) (start_counts channels flow standing some small) allowed).0
