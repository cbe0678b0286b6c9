-- Joined channels by place: what becomes of the lines where something of one of them changes.
use Rattle.std.specs.Prelude.{◌≡◌, ℕ, zero, suc, ◌≤◌, Bool, true, false, List, [], ◌∷◌, length, map}
use Rattle.std.specs.Prelude.{slice_get, Option, Some, None}
use Rattle.data_transfer.specs.Packets.{Note}
use Rattle.data_transfer.specs.Traffic.{Taken}
use Rattle.data_transfer.specs.Traffic.Taken.{TakenInterrupt, TakenPacket}
use Rattle.packet_channel.specs.Channel.{Request}
use Rattle.packet_channel.specs.Channel.Request.{Interrupting, Sending, Taking}
use Rattle.switch_joins.specs.Turning.{Sizes, Gathered, turned}
use Rattle.switch_joins.specs.Direction.{Direction, carried}
use Rattle.switch_joins.specs.Joins.{gathered_by}
use Rattle.joined_line.specs.OfLine.{kept_on, freed_on}
use Rattle.switch_lines.specs.Lines.{SwitchChannel, SwitchLine, changed, ask, ask_all, joined_at}
use Rattle.switch_lines.specs.Lines.{front_at, sizes_at, takes_at}
use Rattle.switch_lines.specs.Relay.{requests_for}
use Rattle.switch_lines.specs.Switch.{notes_of}

abbrev pub kept_at : SwitchChannel → (Direction → Direction) → List SwitchLine → List SwitchLine
kept_at p f ls = changed p.line (kept_on p.channel f) ls

abbrev pub freed_at : SwitchChannel → List SwitchLine → List SwitchLine
freed_at p ls = changed p.line (freed_on p.channel) ls

-- ---- what is taken on a joined channel

-- an interrupt has 1 to 32 octets
abbrev pub Fits : Taken → Type 0
Fits (TakenInterrupt octets) = (1 ≤ length octets) × (length octets ≤ 32)
Fits (TakenPacket d) = Unit {0}

-- what it makes due on q
abbrev pub made_due : List SwitchLine → (p q : SwitchChannel) → Taken → List Request
made_due ls p q t = requests_for (sizes_at ls p q) (gathered_by (joined_at ls p)) t

-- whether q takes every packet that the first one on p makes due
abbrev pub TakesFront : Bool → List SwitchLine → (p q : SwitchChannel) → Type 0
TakesFront true ls p q = (t : Taken) → front_at ls p ≡ Some t → Fits t → takes_at ls q (made_due ls p q t) ≡ true
TakesFront false ls p q = (t : Taken) → front_at ls p ≡ Some t → takes_at ls q (made_due ls p q t) ≡ false

-- what it makes due is asked of the other leg, and what may be released is
abbrev pub passed_on : Sizes → Gathered → Taken → (p q : SwitchChannel) → List SwitchLine → List SwitchLine
passed_on sizes g (TakenInterrupt octets) p q ls = ask q (Interrupting octets) ls
passed_on sizes g (TakenPacket d) p q ls =
    kept_at p (carried d.delivery (turned sizes g d)) (ask_all q (map Sending (turned sizes g d).made) ls)

abbrev pub sent_on : Sizes → Gathered → Taken → (p q : SwitchChannel) → List SwitchLine → List SwitchLine
sent_on sizes g t p q ls = freed_at p (passed_on sizes g t p q ls)

-- what waits first on a leg is taken there, and goes on to the other leg
abbrev pub MovesFront : Option Taken → (p q : SwitchChannel) → List SwitchLine → List SwitchLine → Type 0
MovesFront None p q old new = Unit {0}
MovesFront (Some t) p q old new =
    (new ≡ passed_on (sizes_at old p q) (gathered_by (joined_at old p)) t p q (ask p Taking old)) × Fits t

-- ---- the channels of a line, from this one on, so many

abbrev pub places_by : (line channel count : ℕ) → List SwitchChannel
places_by n c zero = []
places_by n c (suc count) = record { line = n; channel = c } ∷ places_by n (suc c) count

-- ---- the notes of a line

abbrev pub notes_on : List SwitchLine → (line : ℕ) → List Note
notes_on ls n = notes_of (slice_get ls n)

-- none is left on any line
abbrev pub AreRead : List SwitchLine → Type 0
AreRead ls = (n : ℕ) → notes_on ls n ≡ []
