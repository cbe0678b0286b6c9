-- The path of each record of the register: the hops of the way on which its call was placed onward.
use Rattle.std.specs.Prelude.{◌≡◌, ℕ, List, slice_get, Some}
use Rattle.call_records.specs.Records.{RecordValue, HopValue}
use Rattle.call_records.specs.Register.{LinePlan}
use Rattle.record_laws.specs.CallPaths.World.{Origin, Join, World, Plan, Event, after_event, MayHappen, made_world}
use Rattle.record_laws.specs.CallPaths.Seen.{numbers, Way, Seen}
use Rattle.record_laws.specs.CallPaths.Tree.{IsTree, WayOver}

-- the hops are those of a way, and each way from its first record goes on to its last one
pub record IsPath (plan : Plan) (origins : List Origin) (joins : List Join) (first : ℕ) (hops : List HopValue)
    : Type 0 where
  pub tip : ℕ
  pub way : WayOver plan origins joins hops first tip
  pub all : (b : ℕ) → Way origins joins first b → Way origins joins b tip

-- so are those of each record of the register
abbrev pub ArePaths : Plan → World → Type 0
ArePaths plan w = (n first : ℕ) (r : RecordValue) → slice_get (numbers plan w.origins) n ≡ Some first
    → slice_get w.register.records n ≡ Some r → IsPath plan w.origins w.joins first r.path

-- ---- laws

abbrev pub MadePathsLaw : Type 0
MadePathsLaw = (plan : Plan) (lines : List LinePlan) → ArePaths plan (made_world lines)

-- in a tree of switches, whatever happens
abbrev pub PathsLaw : Type 0
PathsLaw = (plan : Plan) (switches : List ℕ) (event : Event) (w : World) → IsTree plan switches
    → MayHappen plan event w → Seen plan w → ArePaths plan w → ArePaths plan (after_event event w)
