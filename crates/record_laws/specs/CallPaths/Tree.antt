-- A tree of switches. A call goes on over at most one hop for each switch, so a path has room for all its hops.
use Rattle.std.specs.Prelude.{◌≡◌, ℕ, ◌<◌, ◌≤◌, false, List, [], ◌∷◌, ◌++◌, length, slice_get, Some}
use Rattle.std.specs.List.{Contains}
use Rattle.link_timers.specs.declared.role.Role.{Role}
use Rattle.link_timers.specs.declared.role.Role.TheVariants.{Dte, Dce}
use Rattle.call_records.specs.Records.{HopValue}
use Rattle.record_laws.specs.CallPaths.World.{Origin, Join, World, Plan, ChannelEnd, MayJoin}
use Rattle.record_laws.specs.CallPaths.Seen.{CameFrom, IsJoined, Seen}

-- ---- the network

-- a line with a switch at both ends is a trunk
pub record IsTrunk (plan : Plan) (line : ℕ) : Type 0 where
  pub dte : plan.has_user line Dte ≡ false
  pub dce : plan.has_user line Dce ≡ false

-- there are at most 16 switches; each is the DTE of at most one trunk, whose DCE is a switch that stands earlier
pub record IsTree (plan : Plan) (switches : List ℕ) : Type 0 where
  pub few : length switches ≤ 16
  pub at_switch : (line : ℕ) (role : Role) → plan.has_user line role ≡ false
      → Contains switches (plan.node line role)
  pub rises : (line : ℕ) → IsTrunk plan line → plan.node line Dce < plan.node line Dte
  pub one_up : (line other : ℕ) → IsTrunk plan line → IsTrunk plan other
      → plan.node line Dte ≡ plan.node other Dte → line ≡ other

-- ---- the hops of a way

-- a way, with a hop for each join: the switch and the line onward
pub data WayOver : Plan → List Origin → List Join → List HopValue → (first last : ℕ) → Type 0 where
  here : {plan : Plan} {origins : List Origin} {joins : List Join} {x : ℕ} → WayOver plan origins joins [] x x
  onward : {plan : Plan} {origins : List Origin} {joins : List Join} {hops : List HopValue} {x y : ℕ} (a b : ℕ)
      (o : Origin) (channel : ℕ) → WayOver plan origins joins hops x y → CameFrom origins a y → IsJoined joins a b
      → slice_get origins b ≡ Some o
      → WayOver plan origins joins
      (hops ++ record { switch = plan.node o.line o.role; line = o.line; channel = channel } ∷ []) x b

-- ---- laws

-- in a tree a way has at most 16 hops
abbrev pub HopsLaw : Type 0
HopsLaw = (plan : Plan) (switches : List ℕ) (w : World) (hops : List HopValue) (x b : ℕ) → IsTree plan switches
    → Seen plan w → WayOver plan w.origins w.joins hops x b → length hops ≤ 16

-- and if a switch may join a call, there is room for its hop
abbrev pub RoomLaw : Type 0
RoomLaw = (plan : Plan) (switches : List ℕ) (w : World) (from to : ChannelEnd) (hops : List HopValue) (x : ℕ)
    → IsTree plan switches → Seen plan w → (m : MayJoin plan from to w)
    → WayOver plan w.origins w.joins hops x m.caller → length hops < 16
