-- A channel has no packet for the link exactly if nothing that may go stays unsent.
use Rattle.std.proofs.Common.{◌≡◌, Bool, true, false, not, ◌&&◌, List, [], ◌∷◌, None, is_some, if◌then◌else◌, refl, sym, ap, subst, ◌∙◌}
use Rattle.std.specs.Bool.{OnFalse}
use Rattle.std.proofs.lemmas.Bool.{and_parts}
use Rattle.data_transfer.specs.Packets.{Body}
use Rattle.data_transfer.specs.declared.flow.Flow.{Flow}
use Rattle.data_transfer.proofs.Unsent.{said_all, says_none}
use Rattle.packet_channel.specs.Channel.{ChannelState, Channel, ChannelNext, in_transfer, has_flow, next_owed, next_of}
use Rattle.packet_channel.specs.Channel.ChannelState.{Ready, OwnWaiting, FarWaiting, Transfer, Collision, OwnClear}
use Rattle.packet_channel.specs.Unsent.{ChannelHasSaidAll}

flow_there : (state : ChannelState) (resetting : Bool) → state ≡ Transfer → resetting ≡ false →
    (in_transfer state && not resetting) ≡ true
flow_there state resetting at none =
    ap (λ (s : ChannelState). in_transfer s && not resetting) at ∙ ap (λ (b : Bool). not b) none

is_there : (b : Bool) (x y : ChannelNext) → b ≡ true → is_some (if b then x else y).body ≡ false →
    is_some x.body ≡ false
is_there true x y is silent = silent
is_there false x y is silent = absurd (cc)

none_owed : (flow : Flow) (owed : List Body) (ch : Channel) → ch.owed ≡ owed →
    is_some (next_owed flow owed ch).body ≡ false → ChannelHasSaidAll flow ch
none_owed flow [] ch is silent = record {
  owed = is;
  transfer = λ state resetting.
      said_all flow ch.traffic
      (is_there (has_flow ch) _ _ (flow_there ch.state ch.resetting state resetting) silent);
}
none_owed flow (b ∷ bs) ch is silent = absurd (cc)

pub channel_said_all : (flow : Flow) (ch : Channel) → is_some (next_of flow ch).body ≡ false → ChannelHasSaidAll flow ch
channel_said_all flow ch silent = none_owed flow ch.owed ch refl silent

-- so what is told of a channel after it was asked
pub unsent_after : {P : Type 0} (flow : Flow) (old new : Channel) (said : Bool) → (P → new ≡ old) → OnFalse said P →
    said ≡ is_some (next_of flow old).body → OnFalse said (ChannelHasSaidAll flow new)
unsent_after flow old new true same p is = tt
unsent_after flow old new false same p is =
    subst (λ (ch : Channel). ChannelHasSaidAll flow ch) (sym (same p)) (channel_said_all flow old (sym is))

-- ---- and back

state_of_flow : (state : ChannelState) → in_transfer state ≡ true → state ≡ Transfer
state_of_flow Transfer h = refl
state_of_flow Ready h = absurd (cc)
state_of_flow OwnWaiting h = absurd (cc)
state_of_flow FarWaiting h = absurd (cc)
state_of_flow Collision h = absurd (cc)
state_of_flow OwnClear h = absurd (cc)

not_false : (b : Bool) → not b ≡ true → b ≡ false
not_false true h = absurd (cc)
not_false false h = refl

either_none : (b : Bool) (x y : ChannelNext) → (b ≡ true → x.body ≡ None) → y.body ≡ None →
    (if b then x else y).body ≡ None
either_none true x y first second = first refl
either_none false x y first second = second

pub channel_says_none : (flow : Flow) (ch : Channel) → ChannelHasSaidAll flow ch → (next_of flow ch).body ≡ None
channel_says_none flow ch h =
    ap (λ (owed : List Body). (next_owed flow owed ch).body) h.owed
    ∙ either_none (has_flow ch) _ _
    (λ there.
    let parts = and_parts (in_transfer ch.state) (not ch.resetting) there in
    says_none flow ch.traffic (h.transfer (state_of_flow ch.state parts.0) (not_false ch.resetting parts.1)))
    refl
