-- A call that is refused is given no channel.
use Rattle.std.proofs.Common.{◌≡◌, ℕ, cond, Option, Some, None, refl}
use Rattle.std.specs.Prelude.{is_some}
use Rattle.packet_channel.specs.Channel.{Refusal}
use Rattle.packet_layer.specs.Layer.{Layer, Phase, free_channel, channel_given, call_refusal}
use Rattle.packet_layer.specs.Layer.Phase.{NoSession, OwnRestart, PacketReady}

given_none : (found : Option ℕ) (r : Refusal) → cond (is_some found) None (Some Refusal.NoChannel) ≡ Some r →
    found ≡ None
given_none None r h = refl
given_none (Some c) r h = cc

pub none_given : (l : Layer) (phase : Phase) (r : Refusal) → call_refusal l phase ≡ Some r →
    channel_given l phase ≡ None
none_given l NoSession r h = refl
none_given l OwnRestart r h = refl
none_given l PacketReady r h = given_none (free_channel l.role l.channels) r h
