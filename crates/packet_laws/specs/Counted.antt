-- Numbers and counts on a line: the numbers of each channel in data transfer name the counts of the present epoch in
-- its end's history.
use Rattle.std.specs.Prelude.{◌≡◌, ℕ, ◌<◌, ◌≤◌, Bool, true, List, Some}
use Rattle.data_transfer.specs.Flow.{modulus}
use Rattle.data_transfer.specs.declared.flow.Flow.{Flow}
use Rattle.packet_channel.specs.Channel.{Channel, in_transfer}
use Rattle.packet_layer.specs.Layer.{channel_of}
use Rattle.packet_laws.specs.LayerLineLaw.{epoch_now}
use Rattle.packet_laws.specs.Counts.{NamesCounts}
use Rattle.packet_laws.specs.LayerLine.{End, Happening, start_line, after}

-- at one end, on channel c in session s
abbrev pub IsCounted : (flow : Flow) → End → (s c : ℕ) → Type 0
IsCounted flow e s c = (ch : Channel) → e.session ≡ Some s → channel_of e.layer c ≡ Some ch
    → in_transfer ch.state ≡ true → NamesCounts flow ch.traffic (epoch_now (e.histories s c))

-- whatever happens on a line, at both its ends
abbrev pub LineCountsLaw : Type 0
LineCountsLaw = (channels : ℕ) (flow : Flow) (standing : Bool) → 1 ≤ channels → flow.window < modulus flow.numbering → (hs : List Happening)
    → let w = after hs (start_line channels flow standing) in
    (s c : ℕ) → 1 ≤ c → c ≤ channels → IsCounted flow w.me s c × IsCounted flow w.you s c
