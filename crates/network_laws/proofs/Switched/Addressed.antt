-- Each caller has the address of its line as its own, from the making on and after each event.
use Rattle.std.proofs.Common.{◌≡◌, ℕ, suc, ◌<◌, ◌+◌, Bool, true, false, List, [], ◌∷◌, length, map, Some, refl, sym, ap, subst, ◌∙◌, arith}
use Rattle.std.specs.Prelude.{slice_get, is_some, if◌then◌else◌}
use Rattle.std.proofs.lemmas.List.{length-set, length-map, length-append}
use Rattle.std.proofs.lemmas.Option.{slice_get_within}
use Rattle.link_timers.specs.declared.role.Role.{Role}
use Rattle.link_timers.specs.declared.role.Role.TheVariants.{Dte}
use Rattle.frame_lines.specs.declared.line.Direction.{Direction}
use Rattle.frame_lines.specs.Lines.{LineService}
use Rattle.call_records.specs.Book.{Book}
use Rattle.call_records.specs.Writes.Write.{Placed}
use Rattle.call_records.specs.Register.{Register, LinePlan, ChannelEnd, free_ends, book_at, with_book, written_at, all_written_at, holder_at, goes_on, handed_on, no_parts}
use Rattle.call_records.specs.Register.{with_standing_call, with_free_line, with_line, with_lines, made_register}
use Rattle.call_records.specs.Register.{empty_register}
use Rattle.switch_joins.specs.declared.channels.NewJoin.{NewJoin}
use Rattle.record_laws.specs.CallPaths.OwnAddresses.{HaveOwnAddresses}
use Rattle.record_laws.proofs.CallPaths.OwnAddresses.{made_owns, written_owns, handed_owns}
use Rattle.net_events.specs.NodeEvents.{NodeEvent}
use Rattle.net_events.specs.AtSwitch.{SwitchEvent, SwitchHappened, joins_of, all_handed, far_end, own_end}
use Rattle.net_events.specs.Network.{Network, HappenedAt, LostAt, own_role}
use Rattle.net_config.specs.NetPlan.{NetPlan}
use Rattle.net_events.specs.Opening.{IsMade, line_plan}
use Rattle.network_laws.proofs.Uniform.{uniform, none_given}
use Rattle.network_laws.specs.Switched.IsSwitched.{IsAddressed}

-- ---- the register has each line

free_more : (plan : LinePlan) (g : Register) → length (with_free_line plan g).lines ≡ suc (length g.lines)
free_more plan g = length-append g.lines (free_ends plan ∷ []) ∙ omega arith

one_more : (plan : LinePlan) (g : Register) → length (with_line plan g).lines ≡ suc (length g.lines)
one_more plan g = by plan.standing
  where
    placed : Register
    placed = all_written_at (length g.lines) Dte (Placed (Some 1) no_parts ∷ []) (with_free_line plan g)

    by : (standing : Bool)
        → length (if standing then with_standing_call (length g.lines) (with_free_line plan g)
        else with_free_line plan g).lines
        ≡ suc (length g.lines)
    by true =
        length-set placed.lines (length g.lines) _
        ∙ length-set (with_free_line plan g).lines (length g.lines) _ ∙ free_more plan g
    by false = free_more plan g

all_lines : (plans : List LinePlan) (g : Register) → length (with_lines plans g).lines ≡ length g.lines + length plans
all_lines [] g = omega arith
all_lines (plan ∷ plans) g =
    let first = one_more plan g in
    let others = all_lines plans (with_line plan g) in
    omega arith

all_made : (plans : List LinePlan) → length (made_register plans).lines ≡ length plans
all_made plans = all_lines plans empty_register ∙ omega arith

-- ---- the making

pub made_addressed : (L : LineService) (plan : NetPlan) (s : Network) → IsMade L plan s → IsAddressed s
made_addressed L plan s m = record {
  registered = ap (λ (g : Register). length g.lines) m.register ∙ all_made (map line_plan plan.lines) ∙ length-map plan.lines line_plan ∙ sym m.line_count;
  own = subst HaveOwnAddresses (sym m.register) (made_owns (map line_plan plan.lines));
}

-- ---- events

pub happened_addressed : (L : LineService) (event : NodeEvent) (line : ℕ) (role : Role) (s t : Network)
    → IsAddressed s → HappenedAt L event line role s t → IsAddressed t
happened_addressed L event line role s t a d =
    let u = uniform event role d.node.node in
    let less : line < length s.register.lines = subst (λ (n : ℕ). line < n) (sym a.registered) (slice_get_within s.lines line d.line_is d.line_there) in
    let is : t.register ≡ all_written_at line role u.writes s.register =
    ap (λ (x : Network). x.register) d.others ∙ ap (λ (b : Book). with_book line b s.register) (u.written (book_at line s.register)) in
    record {
      registered = ap (λ (x : Network). length x.register.lines) d.others ∙ length-set s.register.lines line _ ∙ a.registered
          ∙ sym (length-set s.lines line _) ∙ sym (ap (λ (x : Network). length x.lines) d.others);
      own = subst HaveOwnAddresses (sym is) (written_owns s.register line role u.writes less (none_given event role d.node.node) a.own);
    }

pub lost_addressed : (L : LineService) (line : ℕ) (d : Direction) (s t : Network) → IsAddressed s
    → LostAt L line d s t → IsAddressed t
lost_addressed L line d s t a w = record {
  registered = ap (λ (x : Network). length x.register.lines) w.others ∙ a.registered ∙ sym (length-set s.lines line _)
      ∙ sym (ap (λ (x : Network). length x.lines) w.others);
  own = subst (λ (x : Network). HaveOwnAddresses x.register) (sym w.others) a.own;
}

pub lines_handed : (from to : ChannelEnd) (g : Register) → length (handed_on from to g).lines ≡ length g.lines
lines_handed from to g = by (is_some (slice_get g.lines to.line))
  where
    by : (v : Bool) → length (if v then written_at to.line (goes_on to (holder_at from g)) g else g).lines ≡ length g.lines
    by true = length-set g.lines to.line _
    by false = refl

handed : (lines : List ℕ) (roles : ℕ → Role) (joins : List NewJoin) (g : Register)
    → length (all_handed lines roles joins g).lines ≡ length g.lines
handed lines roles [] g = refl
handed lines roles (j ∷ joins) g =
    handed lines roles joins
    (handed_on (far_end lines roles j.came_in) (own_end lines roles j.placed) g)
    ∙ lines_handed (far_end lines roles j.came_in) (own_end lines roles j.placed) g

all_handed_own : (lines : List ℕ) (roles : ℕ → Role) (joins : List NewJoin) (g : Register) → HaveOwnAddresses g → HaveOwnAddresses (all_handed lines roles joins g)
all_handed_own lines roles [] g h = h
all_handed_own lines roles (j ∷ joins) g h =
    all_handed_own lines roles joins (handed_on (far_end lines roles j.came_in) (own_end lines roles j.placed) g)
    (handed_owns g (far_end lines roles j.came_in) (own_end lines roles j.placed) h)

pub switched_addressed : (L : LineService) (event : SwitchEvent) (place : ℕ) (s t : Network) → IsAddressed s
    → SwitchHappened L event place s t → IsAddressed t
switched_addressed L event place s t a h = record {
  registered = ap (λ (g : Register). length g.lines) h.register ∙ handed h.node.lines (own_role h.node.switch) (joins_of event h.node.switch) s.register ∙ a.registered
      ∙ sym h.lines.count;
  own = subst HaveOwnAddresses (sym h.register) (all_handed_own h.node.lines (own_role h.node.switch) (joins_of event h.node.switch) s.register a.own);
}
