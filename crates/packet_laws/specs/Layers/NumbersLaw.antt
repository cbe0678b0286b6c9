-- The law of the numbers of a packet layer: what holds on all its channels, whatever is called and whatever its partner
-- does.
use Rattle.std.specs.Prelude.{◌≡◌, ℕ, ◌<◌, ◌⊎◌, Bool, false, List, Some}
use Rattle.link_timers.specs.declared.role.Role.{Role}
use Rattle.data_transfer.specs.Flow.{modulus}
use Rattle.data_transfer.specs.declared.flow.Flow.{Flow}
use Rattle.packet_channel.specs.Channel.{Channel, in_transfer}
use Rattle.packet_layer.specs.Layer.{channel_of, next_packet}
use Rattle.packet_layer.specs.Params.{AreParams}
use Rattle.packet_laws.specs.History.{empty_epoch}
use Rattle.packet_laws.specs.Layers.Acts.{World, Act, start, after, run}
use Rattle.packet_laws.specs.Layers.Counts.{AllAgree, IsNamedAmong, Grows}

-- a layer as it is made agrees with epochs in which nothing was done
abbrev pub MadeLaw : Type 0
MadeLaw = (role : Role) (channels : ℕ) (flow : Flow) (standing : Bool) → AllAgree (start role channels flow standing)

-- whichever epochs agree with a layer before a call, those that the call makes of them agree with it after the call
abbrev pub CallsLaw : Type 0
CallsLaw = (w : World) (act : Act) → w.layer.flow.window < modulus w.layer.flow.numbering → AllAgree w → AllAgree (after act w)

-- it makes each of them longer, leaves it as it is, or begins it anew
abbrev pub GrowsLaw : Type 0
GrowsLaw = (w : World) (act : Act) (c : ℕ)
    → ((after act w).epochs c ≡ empty_epoch) ⊎ Grows (w.epochs c) ((after act w).epochs c)

-- the packet that goes to the link next is named
abbrev pub IsNextNamed : World → Type 0
IsNextNamed w = IsNamedAmong w.layer.flow w.epochs (next_packet w.layer).packet

abbrev pub NamedLaw : Type 0
NamedLaw = (w : World) → w.layer.flow.window < modulus w.layer.flow.numbering → AllAgree w → IsNextNamed w

-- it holds of whatever calls in any order make of a layer, with its epochs, from its making on
abbrev pub Always : (World → Type 0) → Type 0
Always P = (role : Role) (channels : ℕ) (flow : Flow) (standing : Bool) (acts : List Act)
    → AreParams channels flow → P (run acts (start role channels flow standing))

-- an own reset is unconfirmed in data transfer alone
abbrev pub ResetsInTransfer : World → Type 0
ResetsInTransfer w = (c : ℕ) (ch : Channel) → channel_of w.layer c ≡ Some ch → in_transfer ch.state ≡ false
    → ch.resetting ≡ false
