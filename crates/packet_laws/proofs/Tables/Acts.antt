-- Case by case: what the user does follows the rows of the call table and of the reset table.
use Rattle.std.proofs.Common.{◌≡◌, ℕ, zero, suc, Bool, true, false, List, [], ◌∷◌, refl, subst}
use Rattle.std.specs.Prelude.{◌↔◌, ◌&&◌, ◌==◌, length, Option, Some, None, IfSome, IsSome}
use Rattle.link_timers.specs.declared.role.Role.{Role}
use Rattle.link_timers.specs.declared.role.Role.TheVariants.{Dte, Dce}
use Rattle.data_transfer.specs.declared.flow.Flow.{Flow}
use Rattle.packet_codec.specs.declared.packet_type.PacketType.TheVariants as types
use Rattle.call_states.specs.declared.state.CallState.TheVariants as states
use Rattle.call_states.specs.declared.table.CallNote.TheVariants.{Nothing}
use Rattle.call_states.specs.declared.table.CallStep.{CallStep}
use Rattle.call_states.specs.declared.table.UserAct.{UserAct}
use Rattle.call_states.specs.declared.table.UserAct.TheVariants as acts
use Rattle.call_states.specs.Table.{call_step}
use Rattle.reset_restart.specs.declared.reset.ResetEvent.TheVariants.{UserReset}
use Rattle.data_transfer.specs.Packets.{CallParts, Body}
use Rattle.data_transfer.specs.Traffic.{Traffic}
use Rattle.packet_channel.specs.Channel.{ChannelState, Channel, Request, refusal, requested}
use Rattle.packet_channel.specs.Channel.ChannelState.{Ready, Transfer}
use Rattle.packet_layer.specs.Layer.{Phase, Layer, nth_channel, channel_given, free_channel, lowest_free, highest_free, is_free, is_ready, raised, either_of, itself_if, placing}
use Rattle.packet_laws.specs.Tables.States.{packet_asked}
use Rattle.packet_laws.specs.Tables.Rows.{act_row, reset_row_of}
use Rattle.packet_laws.specs.Tables.Follows.{FollowsCall, FollowsReset}
use Rattle.packet_laws.proofs.Tables.Channels.{channel_in}

-- ---- accept and clear

pub record ActAt (role : Role) (flow : Flow) (c : ℕ) (ch : Channel) (r : Request) (act : UserAct) : Type 0 where
  pub allowed : (refusal role flow ch r ≡ None) ↔ IsSome (act_row role ch act)
  pub follows : IfSome (act_row role ch act) (λ row. FollowsCall role c None ch row (requested role flow ch r) × ((requested role flow ch r).owes ≡ packet_asked r))

pub accept_at : (role : Role) (flow : Flow) (c : ℕ) (s : ChannelState) (resetting : Bool) (owed : List Body) (t : Traffic) → ActAt role flow c (channel_in s resetting owed t) Request.Accept acts.Accept
accept_at Dte flow c Ready resetting owed t = record { allowed = (λ e. cc, λ e. cc); follows = search }
accept_at Dte flow c _ resetting owed t = record { allowed = (λ e. cc, λ e. cc); follows = search }
accept_at Dce flow c Ready resetting owed t = record { allowed = (λ e. cc, λ e. cc); follows = search }
accept_at Dce flow c _ resetting owed t = record { allowed = (λ e. cc, λ e. cc); follows = search }

pub clear_at : (role : Role) (flow : Flow) (c : ℕ) (s : ChannelState) (resetting : Bool) (owed : List Body) (t : Traffic) (cause diagnostic : ℕ)
    → ActAt role flow c (channel_in s resetting owed t) (Request.Clearing cause diagnostic) acts.Clear
clear_at Dte flow c Ready resetting owed t cause diagnostic = record { allowed = (λ e. cc, λ e. cc); follows = search }
clear_at Dte flow c _ resetting owed t cause diagnostic = record { allowed = (λ e. cc, λ e. cc); follows = search }
clear_at Dce flow c Ready resetting owed t cause diagnostic = record { allowed = (λ e. cc, λ e. cc); follows = search }
clear_at Dce flow c _ resetting owed t cause diagnostic = record { allowed = (λ e. cc, λ e. cc); follows = search }

-- ---- reset

pub record ResetActAt (role : Role) (flow : Flow) (c : ℕ) (ch : Channel) (r : Request) : Type 0 where
  pub allowed : (refusal role flow ch r ≡ None) ↔ IsSome (reset_row_of role ch UserReset)
  pub follows : IfSome (reset_row_of role ch UserReset) (λ row. FollowsReset role c None ch row (requested role flow ch r) × ((requested role flow ch r).owes ≡ packet_asked r))

reset_parts : (role : Role) (flow : Flow) (c : ℕ) (s : ChannelState) (resetting : Bool) (owed : List Body) (t : Traffic) (cause diagnostic : ℕ)
    → ResetActAt role flow c (channel_in s resetting owed t) (Request.Resetting cause diagnostic)
reset_parts Dte flow c Transfer true owed t cause diagnostic = record { allowed = (λ e. cc, λ e. cc); follows = search }
reset_parts Dte flow c _ _ owed t cause diagnostic = record { allowed = (λ e. cc, λ e. cc); follows = search }
reset_parts Dce flow c Transfer true owed t cause diagnostic = record { allowed = (λ e. cc, λ e. cc); follows = search }
reset_parts Dce flow c _ _ owed t cause diagnostic = record { allowed = (λ e. cc, λ e. cc); follows = search }

pub reset_act_at : (role : Role) (flow : Flow) (c : ℕ) (ch : Channel) (cause diagnostic : ℕ) → ResetActAt role flow c ch (Request.Resetting cause diagnostic)
reset_act_at role flow c ch cause diagnostic = reset_parts role flow c ch.state ch.resetting ch.owed ch.traffic cause diagnostic

-- ---- a call

-- a channel that is there and free
abbrev pub FreeAt : List Channel → ℕ → Type 0
FreeAt chs c = (ch : Channel) × (nth_channel chs c ≡ Some ch) × (is_free ch ≡ true)

one_up : (x : Channel) (xs : List Channel) (c : ℕ) → FreeAt xs c → FreeAt (x ∷ xs) (suc c)
one_up x xs zero h = let e = h.1 in absurd (cc)
one_up x xs (suc i) h = h

raised_free : (x : Channel) (xs : List Channel) (o : Option ℕ) (c : ℕ) → ((k : ℕ) → o ≡ Some k → FreeAt xs k) → raised o ≡ Some c → FreeAt (x ∷ xs) c
raised_free x xs None c h e = absurd (cc)
raised_free x xs (Some k) c h e = let same : suc k ≡ c = cc in subst (λ (j : ℕ). FreeAt (x ∷ xs) j) same (one_up x xs k (h k refl))

first_free : (x : Channel) (xs : List Channel) (b : Bool) (c : ℕ) → is_free x ≡ b → itself_if b ≡ Some c → FreeAt (x ∷ xs) c
first_free x xs true c f e = let same : 1 ≡ c = cc in subst (λ (j : ℕ). FreeAt (x ∷ xs) j) same (x, refl, f)
first_free x xs false c f e = absurd (cc)

either_free : (chs : List Channel) (a b : Option ℕ) (c : ℕ) → (a ≡ Some c → FreeAt chs c) → (b ≡ Some c → FreeAt chs c) → either_of a b ≡ Some c → FreeAt chs c
either_free chs None b c f g e = g e
either_free chs (Some n) b c f g e = f e

lowest_is : (chs : List Channel) (c : ℕ) → lowest_free chs ≡ Some c → FreeAt chs c
lowest_is [] c e = absurd (cc)
lowest_is (x ∷ xs) c e = either_free (x ∷ xs) (itself_if (is_free x)) (raised (lowest_free xs)) c (λ h. first_free x xs (is_free x) c refl h) (λ h. raised_free x xs (lowest_free xs) c (λ k q. lowest_is xs k q) h) e

highest_is : (chs : List Channel) (c : ℕ) → highest_free chs ≡ Some c → FreeAt chs c
highest_is [] c e = absurd (cc)
highest_is (x ∷ xs) c e = either_free (x ∷ xs) (raised (highest_free xs)) (itself_if (is_free x)) c (λ h. raised_free x xs (highest_free xs) c (λ k q. highest_is xs k q) h) (λ h. first_free x xs (is_free x) c refl h) e

free_is : (role : Role) (chs : List Channel) (c : ℕ) → free_channel role chs ≡ Some c → FreeAt chs c
free_is Dte chs c e = highest_is chs c e
free_is Dce chs c e = lowest_is chs c e

pub given_is : (l : Layer) (ph : Phase) (c : ℕ) → channel_given l ph ≡ Some c → FreeAt l.channels c
given_is l Phase.PacketReady c e = free_is l.role l.channels c e
given_is l _ c e = absurd (cc)

abbrev pub PlacesAt : Role → ℕ → CallParts → Channel → Type 0
PlacesAt role c parts ch = (row : CallStep) × (act_row role ch acts.Call ≡ Some row) × FollowsCall role c None ch row (placing parts ch)

place_in : (role : Role) (c : ℕ) (parts : CallParts) (s : ChannelState) (resetting : Bool) (owed : List Body) (t : Traffic) (last : Bool)
    → (is_ready s && last) ≡ true → PlacesAt role c parts (channel_in s resetting owed t)
place_in Dte c parts Ready resetting owed t last e = (call_step states.DteWaiting (Some types.CallRequest) Nothing None, refl, search)
place_in Dce c parts Ready resetting owed t last e = (call_step states.DceWaiting (Some types.CallRequest) Nothing None, refl, search)
place_in role c parts _ resetting owed t last e = absurd (cc)

pub place_at : (role : Role) (c : ℕ) (parts : CallParts) (ch : Channel) → is_free ch ≡ true → PlacesAt role c parts ch
place_at role c parts ch e = place_in role c parts ch.state ch.resetting ch.owed ch.traffic (length ch.owed == 0) e
