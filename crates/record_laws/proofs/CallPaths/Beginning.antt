-- From the making on, and a network without a switch.
use Rattle.std.proofs.Common.{◌≡◌, ℕ, suc, inr, true, List, [], ◌∷◌, map, refl, sym, ap, ap₂, ◌∙◌, true≢false}
use Rattle.link_timers.specs.declared.role.Role.{Role}
use Rattle.link_timers.specs.declared.role.Role.TheVariants.{Dce}
use Rattle.call_records.specs.Register.{Register, LinePlan, LineEnds, free_ends, all_written_at}
use Rattle.record_laws.specs.CallPaths.World.{World, Plan, AreAddressed, AreBetween, Event, after_event, after_all, MayAll, without_address, made_world}
use Rattle.record_laws.specs.CallPaths.World.Event.{Writes, SwitchWrites, Joins}
use Rattle.record_laws.specs.CallPaths.Seen.{Seen}
use Rattle.record_laws.specs.CallPaths.PathLaws.{PathLaw, MadeAlikeLaw, WithoutSwitchLaw}
use Rattle.record_laws.proofs.CallPaths.SeenAfterEvents.{happens}
use Rattle.record_laws.proofs.CallPaths.Making.{made_seen}
use Rattle.record_laws.specs.CallPaths.Tree.{IsTree}
use Rattle.record_laws.specs.CallPaths.Paths.{ArePaths}
use Rattle.record_laws.proofs.CallPaths.Hopping.{made_paths, paths_go}
use Rattle.record_laws.proofs.CallPaths.Promising.{promised}

pub all_happen : (plan : Plan) (events : List Event) (w : World) → MayAll plan events w → Seen plan w → Seen plan (after_all events w)
all_happen plan [] w may s = s
all_happen plan (event ∷ events) w may s = all_happen plan events (after_event event w) may.1 (happens plan event w may.0 s)

pub all_paths : (plan : Plan) (switches : List ℕ) (events : List Event) (w : World) → IsTree plan switches → MayAll plan events w → Seen plan w → ArePaths plan w → ArePaths plan (after_all events w)
all_paths plan switches [] w tree may s paths = paths
all_paths plan switches (event ∷ events) w tree may s paths =
    all_paths plan switches events (after_event event w) tree may.1 (happens plan event w may.0 s) (paths_go plan switches event w tree may.0 s paths)

pub paths_hold : PathLaw
paths_hold plan switches lines events tree addressed between may calls joins =
    let s : Seen plan (made_world lines) = made_seen plan lines between in
    promised plan (after_all events (made_world lines)) addressed (all_happen plan events (made_world lines) may s)
    (all_paths plan switches events (made_world lines) tree may s (made_paths plan lines)) calls joins

-- where all ends have users, no line has an address
bare : (plan : Plan) (lines : List LinePlan) (first : ℕ) → ((line : ℕ) (role : Role) → plan.has_user line role ≡ true) → AreAddressed plan
    → AreBetween plan first lines → map free_ends lines ≡ map free_ends (map without_address lines)
bare plan [] first users addressed between = refl
bare plan (l ∷ ls) first users addressed between =
    let none : l.address ≡ [] = between.1.1.0 ∙ addressed first (inr (users first Dce)) in
    ap₂ (λ (e : LineEnds) (es : List LineEnds). e ∷ es) (ap (λ (a : List ℕ). free_ends (record l { address = a })) none) (bare plan ls (suc first) users addressed between.1.1.1)

pub made_alike : MadeAlikeLaw
made_alike plan lines users addressed between =
    ap (λ (es : List LineEnds). record { records = []; pairs = []; lines = es }) (bare plan lines 0 users addressed between)

pub without_switch : WithoutSwitchLaw
without_switch plan [] w users same may = same
without_switch plan (Writes line role writes ∷ events) w users same may =
    without_switch plan events (after_event (Writes line role writes) w) users (ap (λ (g : Register). all_written_at line role writes g) same) may.1
without_switch plan (SwitchWrites line role writes ∷ events) w users same may =
    absurd (true≢false (sym (users line role) ∙ may.0.0.switch))
without_switch plan (Joins from to parts ∷ events) w users same may =
    absurd (true≢false (sym (users to.line to.role) ∙ may.0.to_end.switch))
