-- What the answer of a channel to a request is for its layer.
use Rattle.std.specs.Prelude.{◌≡◌, Bool, Result, Ok, Err}
use Rattle.packet_channel.specs.declared.fault.ChannelFault.{ChannelFault}
use Rattle.packet_layer.specs.Held.{Layer}
use Rattle.packet_layer.specs.Layer.{set_if}

-- it is passed on, with a relink if the channel asks for one
abbrev pub IsPassedOn : (old : Layer) → Result Bool ChannelFault → (new : Layer) → Result Unit ChannelFault → Type 0
IsPassedOn old (Ok relink) new result =
    (result ≡ Ok tt) × (new ≡ record old { layer = record old.layer { relink = set_if relink old.layer.relink } })
IsPassedOn old (Err fault) new result = (result ≡ Err fault) × (new ≡ old)
