-- A switch with the legs of all its channels: what always holds of its joins.
use Rattle.std.specs.Prelude.{◌≡◌, ℕ, zero, suc, Bool, true, false, not, ◌⊎◌, List, [], ◌∷◌, slice_get}
use Rattle.std.specs.Prelude.{Option, Some, None, is_some}
use Rattle.data_transfer.specs.Packets.{Note}
use Rattle.data_transfer.specs.Packets.Note.{Closed}
use Rattle.packet_channel.specs.Channel.{may_accept, waits_for_call}
use Rattle.switch_joins.specs.Direction.{new_direction}
use Rattle.switch_lines.specs.Waiting.{IsStuck}
use Rattle.switch_joins.specs.declared.channels.SwitchChannel.{SwitchChannel}
use Rattle.switch_lines.specs.Lines.{Joined, SwitchLine, same_place, joined_at}
use Rattle.switch_laws.specs.Leg.{Leg}
use Rattle.switch_laws.specs.Join.{IsJoin}
use Rattle.packet_laws.specs.Readable.{Every}
use Rattle.packet_layer.specs.Layer.{Layer, unread, on_received, on_timer, link_up, link_down}
use Rattle.switch_laws.specs.World.Act.{Comes, Expires, GoesUp, GoesDown}
use Rattle.switch_laws.specs.World.{after_act, World, IsWorld, layers_of, shown_at, Act, MayHappen}
use Rattle.switch_laws.specs.World.{after_acts, world_after_all}

-- ---- two legs

-- the call came in on the one leg and can be accepted there, and the other one waits for its answer
pub record IsWaiting (caller callee : Leg) : Type 0 where
  pub can_accept : may_accept caller.role caller.channel.state ≡ true
  pub waits : waits_for_call callee.role callee.channel.state ≡ true

abbrev pub WaitsFor : (came_in : Bool) → Leg → Leg → Type 0
WaitsFor true g h = IsWaiting g h
WaitsFor false g h = IsWaiting h g

-- the call is connected, and the clause holds in both directions; or it is not yet
pub data IsPair (g h : Leg) (j k : Joined) : Type 0 where
  connected : IsJoin (record { a = g; b = h; there = j.kept; back = k.kept }) → IsPair g h j k
  waiting : j.kept ≡ new_direction → k.kept ≡ new_direction → WaitsFor j.came_in g h → IsPair g h j k

-- ---- all joins

-- of these notes of the line, still to be told, one says that the call on the channel is over
abbrev pub IsOver : (line : ℕ) → List Note → SwitchChannel → Type 0
IsOver n [] x = ⊥
IsOver n (Closed c cause diagnostic reason ∷ ns) x = (x ≡ record { line = n; channel = c }) ⊎ IsOver n ns x
IsOver n (note ∷ ns) x = IsOver n ns x

-- the channel p is joined with another one, and that one with p; the call came in on one of them; and they are a pair
-- as above, but where the switch still has to be told that one of the two calls is over
pub record IsJoinedAt (n : ℕ) (ns : List Note) (ls : List SwitchLine) (w : World) (p : SwitchChannel) (j : Joined)
    : Type 0 where
  pub there : is_some (shown_at (layers_of ls) p) ≡ true
  pub apart : same_place p j.other ≡ false
  pub other : Joined
  pub joined : joined_at ls j.other ≡ Some other
  pub back : other.other ≡ p
  pub one_came_in : other.came_in ≡ not j.came_in
  pub pair : IsPair (w p) (w j.other) j other ⊎ (IsOver n ns p ⊎ IsOver n ns j.other)

-- there is a place for a join at each channel
abbrev pub has_nth : {X : Type 0} → List X → (channel : ℕ) → Bool
has_nth xs zero = false
has_nth xs (suc i) = is_some (slice_get xs i)

abbrev pub has_place_on : Option SwitchLine → (channel : ℕ) → Bool
has_place_on None c = false
has_place_on (Some l) c = has_nth l.joined c

abbrev pub has_place : List SwitchLine → SwitchChannel → Bool
has_place ls p = has_place_on (slice_get ls p.line) p.channel

-- so it is while these notes of a line are still to be told
pub record IsSwitchBefore (n : ℕ) (ns : List Note) (ls : List SwitchLine) (w : World) : Type 0 where
  pub world : IsWorld (layers_of ls) w
  pub places : (x : SwitchChannel) → is_some (shown_at (layers_of ls) x) ≡ true → has_place ls x ≡ true
  pub joined : (p : SwitchChannel) (j : Joined) → joined_at ls p ≡ Some j → IsJoinedAt n ns ls w p j

-- and always
abbrev pub IsSwitch : List SwitchLine → World → Type 0
IsSwitch ls w = IsSwitchBefore 0 [] ls w

-- nothing waits on a joined channel that the other leg takes
abbrev pub HasRelayedAll : List SwitchLine → Type 0
HasRelayedAll ls = (p : SwitchChannel) → IsStuck ls p

-- the packet layers and the legs of one switch are reached from those of another one by these acts
pub record Reached (acts : List Act) (ls : List SwitchLine) (w : World) (ms : List SwitchLine) (v : World)
    : Type 0 where
  pub may : Every MayHappen acts
  pub layers : layers_of ms ≡ after_acts acts (layers_of ls)
  pub legs : v ≡ world_after_all acts (layers_of ls) w

-- and it is right again
pub record Becomes (acts : List Act) (ls : List SwitchLine) (w : World) (ms : List SwitchLine) : Type 0 where
  pub world : World
  pub reached : Reached acts ls w ms world
  pub right : IsSwitch ms world

-- ---- an act of a line's packet layer, before its notes are heeded

abbrev pub notes_made : Act → Option Layer → List Note
notes_made (Comes n r) (Some l) = (on_received (unread l) r).notes
notes_made (Expires n t) (Some l) = (on_timer (unread l) t).notes
notes_made (GoesUp n) (Some l) = (link_up l).notes
notes_made (GoesDown n) (Some l) = (link_down l).notes
notes_made act o = []

-- it changes no joins
pub record HasActed (act : Act) (ls ms : List SwitchLine) : Type 0 where
  pub layers : layers_of ms ≡ after_act act (layers_of ls)
  pub joined : (x : SwitchChannel) → joined_at ms x ≡ joined_at ls x
  pub places : (x : SwitchChannel) → has_place ms x ≡ has_place ls x

-- what a layer is told by its line
abbrev pub IsTold : Act → Type 0
IsTold (Comes n r) = Unit {0}
IsTold (Expires n t) = Unit {0}
IsTold (GoesUp n) = Unit {0}
IsTold (GoesDown n) = Unit {0}
IsTold act = ⊥
