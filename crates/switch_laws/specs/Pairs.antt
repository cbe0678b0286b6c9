-- What becomes of a call that comes in, and the two legs of a join.
use Rattle.std.specs.Prelude.{◌≡◌, ℕ, true, false, if◌then◌else◌, ◌⊎◌, List, [], ◌∷◌, slice_get, Some, None}
use Rattle.link_timers.specs.declared.timers.TimerId.{TimerId}
use Rattle.packet_codec.specs.ClearCause.{invalid_facility, not_obtainable, out_of_order, number_busy}
use Rattle.data_transfer.specs.Packets.{CallParts, Note}
use Rattle.data_transfer.specs.Packets.Note.{Incoming}
use Rattle.packet_layer.specs.Layer.{free_channel}
use Rattle.packet_layer.specs.Layer.Phase.{PacketReady}
use Rattle.packet_end.specs.PacketEnd as end
use Rattle.packet_end.specs.PacketEnd.{PacketEnd}
use Rattle.address_routes.specs.Routes.{RouteMap, line_for}
use Rattle.switch_joins.specs.declared.channels.SwitchChannel.{SwitchChannel}
use Rattle.switch_joins.specs.Joins.{Joined}
use Rattle.switch_lines.specs.Lines.{SwitchLine, changed, joined_at, is_trunk}
use Rattle.switch_lines.specs.Switch.{Switch, answer, has_any, on_frame, on_expiry, all_begun, with_end, quieted}
use Rattle.switch_lines.specs.Switch.{notes_of, relink, forwarded}
use Rattle.switch_lines.specs.Switch.Answer.{Clears, Joins}
use Rattle.switch_laws.specs.World.{World}
use Rattle.switch_laws.specs.Joined.{IsSwitch}
use Rattle.switch_laws.specs.Calls.{CallsAreJoined, HasCall}

-- the call of the channel p is joined to that of another one, which is joined to p and has its call
pub record HasPartner (ls : List SwitchLine) (p : SwitchChannel) : Type 0 where
  pub join : Joined
  pub joined : joined_at ls p ≡ Some join
  pub other : Joined
  pub back : joined_at ls join.other ≡ Some other
  pub to_p : other.other ≡ p
  pub call : HasCall ls join.other

-- ---- joins that are new after an event

-- the channel where the call of a join came in, and the one where it goes on
abbrev pub caller : SwitchChannel → Joined → SwitchChannel
caller p j = if j.came_in then p else j.other

abbrev pub callee : SwitchChannel → Joined → SwitchChannel
callee p j = if j.came_in then j.other else p

-- one of these notes says that a call came in on the channel, with these parts
abbrev pub IsNoted : List Note → (channel : ℕ) → CallParts → Type 0
IsNoted [] c parts = ⊥
IsNoted (note ∷ more) c parts = (note ≡ Incoming c parts) ⊎ IsNoted more c parts

-- the join was there before
pub record WasJoined (ls : List SwitchLine) (p : SwitchChannel) (j : Joined) : Type 0 where
  pub old : Joined
  pub joined : joined_at ls p ≡ Some old
  pub other : old.other ≡ j.other
  pub came_in : old.came_in ≡ j.came_in

-- the route of a call that came on line m may lead to line n: not back over a trunk
abbrev pub LeadsOn : (m n : ℕ) → List SwitchLine → Type 0
LeadsOn m n ls = m ≡ n → is_trunk (slice_get ls n) ≡ false

-- or it is that of a call that came in on the line, and goes on on the line of the longest prefix of its address, but
-- not back over a trunk
pub record IsNewJoin (routes : RouteMap) (n : ℕ) (notes : List Note) (ls : List SwitchLine) (p : SwitchChannel)
    (j : Joined) : Type 0 where
  pub channel : ℕ
  pub parts : CallParts
  pub noted : IsNoted notes channel parts
  pub came_on : caller p j ≡ record { line = n; channel = channel }
  pub route : line_for routes parts.called ≡ Some (callee p j).line
  pub onward : LeadsOn n (callee p j).line ls

abbrev pub JoinsByRoute : RouteMap → (line : ℕ) → List Note → (ls ms : List SwitchLine) → Type 0
JoinsByRoute routes n notes ls ms = (p : SwitchChannel) (j : Joined) → joined_at ms p ≡ Some j
    → WasJoined ls p j ⊎ IsNewJoin routes n notes ls p j

-- none is new
abbrev pub JoinsNone : (ls ms : List SwitchLine) → Type 0
JoinsNone ls ms = (p : SwitchChannel) (j : Joined) → joined_at ms p ≡ Some j → WasJoined ls p j

-- what the packet layer of line n notes in an event there
abbrev pub noted_in : (line : ℕ) → (PacketEnd → PacketEnd) → Switch → List Note
noted_in n f s = notes_of (slice_get (changed n (with_end (λ e. f (quieted e))) (all_begun s.lines)) n)

-- ---- the law

-- the causes in their order, for a call that came on line m: it is cleared for a facility (3), else where its address
-- has no route, or one to a line that is not there, or one back over the trunk that it came on (13), else where the
-- packet layer there is not in r1 (9), else where no channel is free there (1); else it goes on to the lowest free
-- channel of the line of its route, at a DTE's end the highest one, and so does each call by which an event makes a
-- join; a link that is set up anew makes none. From a trunk it goes on with its own calling address, from any other
-- line with that of the line. And while there is a join both its channels have a call; a channel has a call only while
-- it is joined: both legs begin and end together
pub record PairLaw : Type 0 where
  pub facility : (routes : RouteMap) (ls : List SwitchLine) (m : ℕ) (parts : CallParts)
      → has_any parts.facilities ≡ true → answer routes ls m parts ≡ Clears invalid_facility
  pub no_route : (routes : RouteMap) (ls : List SwitchLine) (m : ℕ) (parts : CallParts)
      → has_any parts.facilities ≡ false → line_for routes parts.called ≡ None
      → answer routes ls m parts ≡ Clears not_obtainable
  pub no_line : (routes : RouteMap) (ls : List SwitchLine) (m : ℕ) (parts : CallParts) (n : ℕ)
      → has_any parts.facilities ≡ false → line_for routes parts.called ≡ Some n → slice_get ls n ≡ None
      → answer routes ls m parts ≡ Clears not_obtainable
  pub back : (routes : RouteMap) (ls : List SwitchLine) (m : ℕ) (parts : CallParts)
      → has_any parts.facilities ≡ false → line_for routes parts.called ≡ Some m → is_trunk (slice_get ls m) ≡ true
      → answer routes ls m parts ≡ Clears not_obtainable
  pub not_ready : (routes : RouteMap) (ls : List SwitchLine) (m : ℕ) (parts : CallParts) (n : ℕ) (l : SwitchLine)
      → has_any parts.facilities ≡ false → line_for routes parts.called ≡ Some n → LeadsOn m n ls
      → slice_get ls n ≡ Some l → (l.end.layer.phase ≡ PacketReady → ⊥)
      → answer routes ls m parts ≡ Clears out_of_order
  pub no_channel : (routes : RouteMap) (ls : List SwitchLine) (m : ℕ) (parts : CallParts) (n : ℕ) (l : SwitchLine)
      → has_any parts.facilities ≡ false → line_for routes parts.called ≡ Some n → LeadsOn m n ls
      → slice_get ls n ≡ Some l → l.end.layer.phase ≡ PacketReady
      → free_channel l.end.layer.role l.end.layer.channels ≡ None → answer routes ls m parts ≡ Clears number_busy
  pub goes_on : (routes : RouteMap) (ls : List SwitchLine) (m : ℕ) (parts : CallParts) (n : ℕ) (l : SwitchLine) (c : ℕ)
      → has_any parts.facilities ≡ false → line_for routes parts.called ≡ Some n → LeadsOn m n ls
      → slice_get ls n ≡ Some l → l.end.layer.phase ≡ PacketReady
      → free_channel l.end.layer.role l.end.layer.channels ≡ Some c
      → answer routes ls m parts ≡ Joins (record { line = n; channel = c })
  pub keeps_calling : (ls : List SwitchLine) (m : ℕ) (parts : CallParts) → is_trunk (slice_get ls m) ≡ true
      → (forwarded ls m parts).calling ≡ parts.calling
  pub gives_calling : (ls : List SwitchLine) (m : ℕ) (parts : CallParts) (l : SwitchLine) (address : List ℕ)
      → slice_get ls m ≡ Some l → l.address ≡ Some address → (forwarded ls m parts).calling ≡ address
  pub frame_joins : (n : ℕ) (octets : List ℕ) (s : Switch)
      → JoinsByRoute s.routes n (noted_in n (λ e. end.received e octets) s) s.lines (on_frame n octets s).lines
  pub timer_joins : (n : ℕ) (id : TimerId) (s : Switch)
      → JoinsByRoute s.routes n (noted_in n (λ e. end.after_timer e id) s) s.lines (on_expiry n id s).lines
  pub relink_joins_none : (n : ℕ) (s : Switch) → JoinsNone s.lines (relink n s).lines
  pub have_calls : (ls : List SwitchLine) (w : World) (p : SwitchChannel) (j : Joined) → IsSwitch ls w
      → joined_at ls p ≡ Some j → HasCall ls p × HasCall ls j.other
  pub have_partners : (ls : List SwitchLine) (w : World) (p : SwitchChannel) → IsSwitch ls w → CallsAreJoined ls
      → HasCall ls p → HasPartner ls p
