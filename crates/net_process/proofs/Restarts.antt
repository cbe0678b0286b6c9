-- Nothing is on its way on the lines of a node that starts.
use Rattle.std.proofs.Common.{◌≡◌, ◌≢◌, ℕ, List, [], Some, refl, sym, ap, ◌∙◌}
use Rattle.std.specs.Prelude.{slice_get}
use Rattle.link_timers.specs.declared.role.Role.{Role}
use Rattle.link_timers.specs.declared.role.Role.TheVariants.{Dte, Dce}
use Rattle.link_timers.specs.Role.{other_of}
use Rattle.frame_lines.specs.declared.line.Direction.{Direction}
use Rattle.frame_lines.specs.declared.line.Direction.TheVariants.{FromDte, FromDce}
use Rattle.frame_lines.specs.Lines.{Flights, no_flights, flying}
use Rattle.line_carriers.proofs.CutOffs.{cut_off_law}
use Rattle.net_events.specs.Network.{NetLine, place_at}
use Rattle.net_events.specs.OneLine.{direction_of, direction_to}
use Rattle.parted_laws.specs.Processes.{Processes, flights_at, ends_of}
use Rattle.parted_laws.specs.Events.{IsCutOff}
use Rattle.remote_lines.proofs.Frames.{restarts}
use Rattle.net_process.specs.Restart.{HasConnection, HasConnections, RestartLaw}

-- what holds in the direction out of an end and in the one to it holds in both
both : (P : Direction → Type 0) (role : Role) → P (direction_of role) → P (direction_to role) → (d : Direction) → P d
both P Dte out back FromDte = out
both P Dte out back FromDce = back
both P Dce out back FromDte = back
both P Dce out back FromDce = out

none_flying : (d : Direction) → flying d no_flights ≡ []
none_flying FromDte = refl
none_flying FromDce = refl

-- an end that is elsewhere is not the one here
by_end : (owner : ℕ → ℕ) (k : ℕ) (l : NetLine) (P : Role → Type 0) (role end : Role) → ends_of owner l role ≡ k
    → ends_of owner l end ≢ k → P (other_of role) → P end
by_end owner k l P Dte Dte here away p = absurd (away here)
by_end owner k l P Dte Dce here away p = p
by_end owner k l P Dce Dte here away p = p
by_end owner k l P Dce Dce here away p = absurd (away here)

other_away : (owner : ℕ → ℕ) (k : ℕ) (l : NetLine) (role end : Role) → ends_of owner l role ≡ k → ends_of owner l end ≢ k
    → ends_of owner l (other_of role) ≢ k
other_away owner k l Dte Dte here away = absurd (away here)
other_away owner k l Dte Dce here away = away
other_away owner k l Dce Dte here away = away
other_away owner k l Dce Dce here away = absurd (away here)

cut_off : (owner : ℕ → ℕ) (p : Processes) (line : ℕ) (role : Role) (l : NetLine) → HasConnection owner p line role l
    → (d : Direction) → (p.wires line d ≡ []) × (flying d (flights_at line (p.parts (ends_of owner l (other_of role)))) ≡ [])
cut_off owner p line role l c =
    let quiet = restarts cut_off_law c.here c.there c.deeds c.here_says c.there_says c.waits c.stands_here c.stands_there in
    both (λ d. (p.wires line d ≡ []) × (flying d (flights_at line (p.parts (ends_of owner l (other_of role)))) ≡ [])) role
    (quiet.out _ c.out, ap (λ (f : Flights). flying (direction_of role) f) (c.settled quiet.closed) ∙ none_flying (direction_of role))
    (quiet.back _ c.back, ap (λ (f : Flights). flying (direction_to role) f) (c.settled quiet.closed) ∙ none_flying (direction_to role))

pub may_restart : RestartLaw
may_restart owner p k node is connected line l role at ends end away =
    let here : ends_of owner l role ≡ k = ap owner ends ∙ is in
    let c = connected line l role at ends (other_away owner k l role end here away) in
    by_end owner k l (λ x. (d : Direction) → (p.wires line d ≡ []) × (flying d (flights_at line (p.parts (ends_of owner l x))) ≡ []))
    role end here away (cut_off owner p line role l c)
