-- Which calls an event joins: those that come in on its line and go on from another one.
use Rattle.std.specs.Prelude.{ℕ, List, [], ◌∷◌, ◌++◌, slice_get}
use Rattle.lapb.specs.Machine.{Octets}
use Rattle.data_transfer.specs.Packets.{Note}
use Rattle.data_transfer.specs.Packets.Note.{Incoming}
use Rattle.packet_end.specs.PacketEnd.{PacketEnd, received}
use Rattle.address_routes.specs.Routes.{RouteMap}
use Rattle.switch_lines.specs.Lines.{SwitchChannel, SwitchLine, changed}
use Rattle.switch_lines.specs.Switch.{Switch, Answer, answer, heed, notes_of, with_end, without_notes, quieted}
use Rattle.switch_lines.specs.Switch.{all_begun}
use Rattle.switch_lines.specs.Switch.Answer.{Clears, Joins}
-- a call that was joined: the channel on which it came in, and the one on which it goes on
pub use Rattle.switch_joins.specs.declared.channels.NewJoin.{NewJoin}

-- a call that came in on p is joined where its answer is a channel
abbrev pub join_of : Answer → SwitchChannel → List NewJoin
join_of (Clears cause) p = []
join_of (Joins q) p = record { came_in = p; placed = q } ∷ []

-- what a note of a line joins, and what all of its notes do, in order
abbrev pub joins_of_note : RouteMap → (line : ℕ) → Note → List SwitchLine → List NewJoin
joins_of_note routes n (Incoming c parts) ls = join_of (answer routes ls n parts) (record { line = n; channel = c })
joins_of_note routes n _ ls = []

abbrev pub joins_of_notes : RouteMap → (line : ℕ) → List Note → List SwitchLine → List NewJoin
joins_of_notes routes n [] ls = []
joins_of_notes routes n (x ∷ xs) ls = joins_of_note routes n x ls ++ joins_of_notes routes n xs (heed routes n x ls)

abbrev pub joins_heeded : RouteMap → (line : ℕ) → List SwitchLine → List NewJoin
joins_heeded routes n ls = joins_of_notes routes n (notes_of (slice_get ls n)) (changed n (with_end without_notes) ls)

-- what is joined where something happens at the end of a line, and where a frame comes
abbrev pub joins_acted : RouteMap → (line : ℕ) → (PacketEnd → PacketEnd) → List SwitchLine → List NewJoin
joins_acted routes n f ls = joins_heeded routes n (changed n (with_end (λ e. f (quieted e))) ls)

abbrev pub new_joins : (line : ℕ) → Octets → Switch → List NewJoin
new_joins n octets s = joins_acted s.routes n (λ e. received e octets) (all_begun s.lines)
