-- The register has each line of the network, from the making on.
use Rattle.std.proofs.Common.{◌≡◌, ℕ, suc, ◌+◌, Bool, true, false, List, [], ◌∷◌, length, map, Some, refl, sym}
use Rattle.std.proofs.Common.{ap, ◌∙◌, arith}
use Rattle.std.specs.Prelude.{if◌then◌else◌}
use Rattle.std.proofs.lemmas.List.{length-set, length-map, length-append}
use Rattle.link_timers.specs.declared.role.Role.{Role}
use Rattle.link_timers.specs.declared.role.Role.TheVariants.{Dte}
use Rattle.frame_lines.specs.declared.line.Direction.{Direction}
use Rattle.frame_lines.specs.Lines.{LineService}
use Rattle.call_records.specs.Writes.Write.{Placed}
use Rattle.call_records.specs.Register.{Register, LinePlan, free_ends, all_written_at, handed_on, no_parts}
use Rattle.network_laws.proofs.Switched.Addressed.{lines_handed}
use Rattle.call_records.specs.Register.{with_standing_call, with_free_line, with_line, with_lines, made_register}
use Rattle.call_records.specs.Register.{empty_register}
use Rattle.switch_joins.specs.declared.channels.NewJoin.{NewJoin}
use Rattle.net_events.specs.NodeEvents.{NodeEvent}
use Rattle.net_events.specs.AtSwitch.{SwitchEvent, SwitchHappened, joins_of, all_handed, far_end, own_end}
use Rattle.net_events.specs.Network.{Network, HappenedAt, LostAt, own_role}
use Rattle.net_config.specs.NetPlan.{NetPlan}
use Rattle.net_events.specs.Opening.{IsMade, line_plan}

-- the register has each line
abbrev pub IsRegistered : Network → Type 0
IsRegistered s = length s.register.lines ≡ length s.lines

-- ---- the making

free_more : (plan : LinePlan) (g : Register) → length (with_free_line plan g).lines ≡ suc (length g.lines)
free_more plan g = length-append g.lines (free_ends plan ∷ []) ∙ omega arith

one_more : (plan : LinePlan) (g : Register) → length (with_line plan g).lines ≡ suc (length g.lines)
one_more plan g = by plan.standing
  where
    placed : Register
    placed = all_written_at (length g.lines) Dte (Placed (Some 1) no_parts ∷ []) (with_free_line plan g)

    by : (standing : Bool)
        → length (if standing then with_standing_call (length g.lines) (with_free_line plan g)
        else with_free_line plan g).lines
        ≡ suc (length g.lines)
    by true =
        length-set placed.lines (length g.lines) _
        ∙ length-set (with_free_line plan g).lines (length g.lines) _ ∙ free_more plan g
    by false = free_more plan g

all_lines : (plans : List LinePlan) (g : Register) → length (with_lines plans g).lines ≡ length g.lines + length plans
all_lines [] g = omega arith
all_lines (plan ∷ plans) g =
    let first = one_more plan g in
    let others = all_lines plans (with_line plan g) in
    omega arith

all_made : (plans : List LinePlan) → length (made_register plans).lines ≡ length plans
all_made plans = all_lines plans empty_register ∙ omega arith

pub made_registered : (L : LineService) (plan : NetPlan) (s : Network) → IsMade L plan s → IsRegistered s
made_registered L plan s m =
    ap (λ (g : Register). length g.lines) m.register ∙ all_made (map line_plan plan.lines)
    ∙ length-map plan.lines line_plan ∙ sym m.line_count

-- ---- events

pub happened_registered : (L : LineService) (event : NodeEvent) (line : ℕ) (role : Role) (s t : Network)
    → IsRegistered s → HappenedAt L event line role s t → IsRegistered t
happened_registered L event line role s t r h =
    ap (λ (x : Network). length x.register.lines) h.others ∙ length-set s.register.lines line _ ∙ r
    ∙ sym (length-set s.lines line _) ∙ sym (ap (λ (x : Network). length x.lines) h.others)

pub lost_registered : (L : LineService) (line : ℕ) (d : Direction) (s t : Network) → IsRegistered s
    → LostAt L line d s t → IsRegistered t
lost_registered L line d s t r w =
    ap (λ (x : Network). length x.register.lines) w.others ∙ r ∙ sym (length-set s.lines line _)
    ∙ sym (ap (λ (x : Network). length x.lines) w.others)

pub handed : (lines : List ℕ) (roles : ℕ → Role) (joins : List NewJoin) (g : Register)
    → length (all_handed lines roles joins g).lines ≡ length g.lines
handed lines roles [] g = refl
handed lines roles (j ∷ joins) g =
    handed lines roles joins (handed_on (far_end lines roles j.came_in) (own_end lines roles j.placed) g)
    ∙ lines_handed (far_end lines roles j.came_in) (own_end lines roles j.placed) g

pub switched_registered : (L : LineService) (event : SwitchEvent) (place : ℕ) (s t : Network) → IsRegistered s
    → SwitchHappened L event place s t → IsRegistered t
switched_registered L event place s t r h =
    ap (λ (g : Register). length g.lines) h.register
    ∙ handed h.node.lines (own_role h.node.switch) (joins_of event h.node.switch) s.register ∙ r
    ∙ sym h.lines.count
