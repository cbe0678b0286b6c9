-- A network of switches: the switches with the books of all lines, and the register of all calls.
use Rattle.std.specs.Prelude.{◌≡◌, ℕ, ◌<◌, ◌==◌, if◌then◌else◌, ◌⊎◌, false, List, [], ◌∷◌, length, map, slice_get, Some}
use Rattle.link_timers.specs.declared.role.Role.{Role}
use Rattle.address_routes.specs.Routes.{line_for}
use Rattle.epochs.specs.ConfirmedLaws.{AreEmpty}
use Rattle.call_records.specs.Records.{RecordValue, PairValue}
use Rattle.call_records.specs.Book.{Book, address_of}
use Rattle.call_records.specs.Register.{Register}
use Rattle.call_records.specs.Register as register
use Rattle.record_laws.specs.Words.{sent_by}
use Rattle.record_laws.specs.Registers.Seen.{positions}
use Rattle.switch_joins.specs.declared.channels.SwitchChannel.{SwitchChannel}
use Rattle.switch_lines.specs.Lines.{SwitchLine}
use Rattle.switch_lines.specs.Switch.{Switch}
use Rattle.switched_call_laws.specs.JoinedCalls.Calls.{JoinedCall}
use Rattle.record_laws.specs.CallPaths.World.{Origin, Join, World, Plan, ChannelEnd, far_end, AreAddressed}
use Rattle.record_laws.specs.CallPaths.Seen.{Seen, IsJoined}
use Rattle.record_laws.specs.CallPaths.Tree.{IsTree}
use Rattle.record_laws.specs.CallPaths.Paths.{ArePaths}
use Rattle.record_laws.specs.CallPaths.Lines.{LinesSeen}
use Rattle.record_laws.specs.CallPaths.Forwards.{AreHandedOn}
use Rattle.switched_call_laws.specs.SwitchPaths.Sight.{Switched, Switches, OwnLines, Lines, role_at, network_line, StaysInSight}

-- ---- the lines of a switch

-- a line of the network is none of the switch's
abbrev pub IsOther : (at : List ℕ) → (line : ℕ) → Type 0
IsOther at line = (n : ℕ) → n < length at → network_line at n ≡ line → ⊥

-- of the switch at a place, which has these roles on its lines: no line is two of its own; it is at its end of each of
-- them, and no user is; they have the addresses of the plan; and the routes are those of the switch
pub record IsPlanned (plan : Plan) (place : ℕ) (at : List ℕ) (roles : ℕ → Role) (s : Switch) : Type 0 where
  pub lines : length at ≡ length s.lines
  pub apart : (m n : ℕ) → m < length at → n < length at → network_line at m ≡ network_line at n → m ≡ n
  pub switch_end : (n : ℕ) → n < length at → plan.has_user (network_line at n) (roles n) ≡ false
  pub placed : (n : ℕ) → n < length at → plan.node (network_line at n) (roles n) ≡ place
  pub address : (n : ℕ) (l : SwitchLine) → slice_get s.lines n ≡ Some l
      → l.address ≡ address_of (plan.address (network_line at n))
  pub route : (called : List ℕ) (n : ℕ) → n < length at → line_for s.routes called ≡ Some n
      → plan.route place (address_of called) ≡ Some (network_line at n)

-- the end of this role of a line is that of the switch at a place, on one of its own lines
pub record IsAtSwitch (ats : OwnLines) (xs : Switches) (place line : ℕ) (role : Role) : Type 0 where
  pub it : Switched
  pub there : xs place ≡ Some it
  pub own : ℕ
  pub within : own < length (ats place)
  pub line_is : network_line (ats place) own ≡ line
  pub role_is : role_at it own ≡ role

-- ---- joined calls in the register

-- a channel of a switch is this one at its end of a line of the network
abbrev pub channel_end : (at : List ℕ) → (roles : ℕ → Role) → SwitchChannel → ChannelEnd
channel_end at roles p = record { line = network_line at p.line; role = roles p.line; channel = p.channel }

-- from the far end of the channel on which the call came in to that on which it goes on
abbrev pub handed_on : (at : List ℕ) → (roles : ℕ → Role) → JoinedCall → Register → Register
handed_on at roles c g = register.handed_on (far_end (channel_end at roles c.near)) (channel_end at roles c.far) g

abbrev pub all_handed : (at : List ℕ) → (roles : ℕ → Role) → List JoinedCall → Register → Register
all_handed at roles [] g = g
all_handed at roles (c ∷ cs) g = all_handed at roles cs (handed_on at roles c g)

-- a call that the switch at a place joined
pub record PlacedCall : Type 0 where
  pub place : ℕ
  pub call : JoinedCall

abbrev pub placed_at : (place : ℕ) → List JoinedCall → List PlacedCall
placed_at place cs = map (λ c. record { place = place; call = c }) cs

-- those of one switch, in order
abbrev pub of_switch : (place : ℕ) → List PlacedCall → List JoinedCall
of_switch place [] = []
of_switch place (c ∷ cs) = if c.place == place then c.call ∷ of_switch place cs else of_switch place cs

abbrev pub lines_of : List Origin → List ℕ
lines_of origins = map (λ o. o.line) origins

-- the record at this place of the book of an own line has this number in the whole register
abbrev pub HasNumber : (at : List ℕ) → List Origin → (own place number : ℕ) → Type 0
HasNumber at origins n k m =
    (n < length at) × (slice_get (positions (network_line at n) (lines_of origins)) k ≡ Some m)

-- the two records of a joined call are those of a join of the whole register
pub record JoinIs (at : List ℕ) (origins : List Origin) (c : JoinedCall) (j : Join) : Type 0 where
  pub near : HasNumber at origins c.near.line c.came_in j.came_in
  pub far : HasNumber at origins c.far.line c.placed j.placed

-- and the call came in at the switch that joined it
pub record IsJoinAt (plan : Plan) (ats : OwnLines) (origins : List Origin) (c : PlacedCall) (j : Join) : Type 0 where
  pub is : JoinIs (ats c.place) origins c.call j
  pub from : Origin
  pub from_there : slice_get origins j.came_in ≡ Some from
  pub at_switch : plan.node from.line from.role ≡ c.place

abbrev pub AreJoins : Plan → OwnLines → List Origin → List PlacedCall → List Join → Type 0
AreJoins plan ats origins [] [] = Unit {0}
AreJoins plan ats origins (c ∷ cs) (j ∷ js) = IsJoinAt plan ats origins c j × AreJoins plan ats origins cs js
AreJoins plan ats origins _ _ = ⊥

-- the record of a leg of a join
abbrev pub IsInJoin : List Join → ℕ → Type 0
IsInJoin joins a = ((b : ℕ) × IsJoined joins a b) ⊎ ((b : ℕ) × IsJoined joins b a)

-- a switch sends on the legs of joins alone
abbrev pub SendsOnJoins : Plan → World → Type 0
SendsOnJoins plan w = (a : ℕ) (o : Origin) (r : RecordValue) → slice_get w.origins a ≡ Some o
    → plan.has_user o.line o.role ≡ false → slice_get w.whole.records a ≡ Some r
    → AreEmpty (sent_by r) ⊎ IsInJoin w.joins a

-- the call of this record goes on with one that was accepted: the record of the far leg is in a pair
pub record GoesOnAccepted (w : World) (a : ℕ) : Type 0 where
  pub far : ℕ
  pub joined : IsJoined w.joins a far
  pub place : ℕ
  pub pair : PairValue
  pub there : slice_get w.whole.pairs place ≡ Some pair
  pub caller : pair.caller ≡ far

-- a switch accepts a call where the one with which it goes on was accepted; pairs stay, also of calls that are over
abbrev pub AcceptsAccepted : Plan → World → Type 0
AcceptsAccepted plan w = (i : ℕ) (pair : PairValue) (o : Origin) → slice_get w.whole.pairs i ≡ Some pair
    → slice_get w.origins pair.callee ≡ Some o → plan.has_user o.line o.role ≡ false → GoesOnAccepted w pair.callee

-- ---- the register beside the switches

-- the register has of the ends with users what the whole one has; the whole one has what the books of all lines have,
-- and its joins are the joined calls, with the addresses of these calls; in a tree of switches the path of each record
-- is that of its call
pub record AllSeen (plan : Plan) (ats : OwnLines) (cs : List PlacedCall) (books : List Book) (w : World)
    (traces : List (List Origin)) : Type 0 where
  pub seen : Seen plan w
  pub paths : (switches : List ℕ) → IsTree plan switches → ArePaths plan w
  pub lines : LinesSeen w.whole w.origins books traces
  pub joins : AreJoins plan ats w.origins cs w.joins
  pub handed : AreHandedOn plan w
  pub sends : SendsOnJoins plan w
  pub accepts : AcceptsAccepted plan w

-- `books` are the books of all lines of the network, and `traces` where their records come from; `cs` are the joined
-- calls of all switches, in the order of the whole register's joins. The switches are a tree, and each end without a
-- user is that of one of them, which has the line in its sight
pub record IsNetwork (plan : Plan) (ats : OwnLines) (xs : Switches) (cs : List PlacedCall) (lines : Lines)
    (books : List Book) (w : World) (traces : List (List Origin)) : Type 0 where
  pub alike : AreAddressed plan
  pub switches : List ℕ
  pub tree : IsTree plan switches
  pub planned : (place : ℕ) (x : Switched) → xs place ≡ Some x
      → IsPlanned plan place (ats place) (role_at x) x.switch
  pub ends : (line : ℕ) (role : Role) → line < length books → plan.has_user line role ≡ false
      → IsAtSwitch ats xs (plan.node line role) line role
  pub stays : (place : ℕ) (x : Switched) → xs place ≡ Some x
      → StaysInSight (ats place) x (of_switch place cs) lines books
  pub seen : AllSeen plan ats cs books w traces
