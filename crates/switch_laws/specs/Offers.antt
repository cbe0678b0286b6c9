-- What the end of an event leaves at the links: no link takes a packet that its layer has, and none has one to send.
use Rattle.std.specs.Prelude.{◌≡◌, ℕ, ◌≤◌, List, length, slice_get, Some}
use Rattle.packet_end.specs.PacketEnd.{KeepsNothingBack}
use Rattle.switch_lines.specs.Lines.{SwitchLine}

-- links with a k of at most 7
abbrev pub HaveSmallLinks : List SwitchLine → Type 0
HaveSmallLinks ls = (n : ℕ) (l : SwitchLine) → slice_get ls n ≡ Some l → l.end.line.link.k ≤ 7

-- no link keeps more packets than its k
abbrev pub HaveFittingLinks : List SwitchLine → Type 0
HaveFittingLinks ls = (n : ℕ) (l : SwitchLine) → slice_get ls n ≡ Some l
    → length l.end.line.link.queue ≤ l.end.line.link.k

abbrev pub EndsKeepNothingBack : List SwitchLine → Type 0
EndsKeepNothingBack ls = (n : ℕ) (l : SwitchLine) → slice_get ls n ≡ Some l → KeepsNothingBack l.end
