-- What the stages of making a network leave, while the lines begin one after the other.
use Rattle.std.proofs.Common.{◌≡◌, ◌≢◌, ℕ, ◌<◌, ◌≤◌, suc, ◌++◌, Bool, true, false, cond, List, [], ◌∷◌, length, set, Some, refl, sym, ap, ◌∙◌, subst, arith, inl, inr}
use Rattle.std.specs.Prelude.{◌⊎◌, slice_get, if◌then◌else◌, nat_lt}
use Rattle.std.proofs.lemmas.Option.{same_Some}
use Rattle.std.proofs.lemmas.Bool.{cases_eq, lt-ltb, ltb-true, ltb-false}
use Rattle.lapb.specs.Machine.{Octets}
use Rattle.link_timers.specs.declared.role.Role.{Role}
use Rattle.link_timers.specs.declared.role.Role.TheVariants.{Dte, Dce}
use Rattle.packet_end.specs.declared.params.EndParams.{EndParams}
use Rattle.record_laws.proofs.Books.Basics.{set_here, set_elsewhere, length_set, length_pushed, get_before, get_last}
use Rattle.user_nodes.specs.Node.{frames_of}
use Rattle.frame_lines.specs.declared.line.Direction.TheVariants.{FromDte, FromDce}
use Rattle.frame_lines.specs.Lines.{Flights, no_flights, LineService, ArePut}
use Rattle.net_events.specs.Network.{NetNode, User, Switching, NetLine}
use Rattle.net_config.specs.NetPlan.{NewNode, NewSwitch, Planned, PlannedUser, PlannedSwitch, NewLine, NetPlan, IsEndPlan}
use Rattle.net_config.specs.NetPlan.{IsKindOfLine, IsLinePlan, HasEndAt, IsPlan}
use Rattle.net_events.specs.Opening.{new_at, new_end, placed_new}
use Rattle.net_node.specs.Making.{waiting, waiting_switch, begun_to, AreNew}
use Rattle.net_events.proofs.Lists.{within}
use Rattle.net_node.proofs.NewNodes.{not_before, waits, has_begun}
use Rattle.net_node.proofs.Plans.{node_of_end}
use Rattle.line_sim.specs.Making.{begun, begun_node, users_frames, frames_put, ArePutSoFar, LineHasBegun, HaveBegun}
use Rattle.line_sim.specs.Making.{HasEnds, Begins}

-- ---- which nodes have begun

pub same_before : (a b : ℕ) → a ≢ b → nat_lt a (suc b) ≡ nat_lt a b
same_before a b apart = by (nat_lt a b) refl
  where
    by : (v : Bool) → nat_lt a b ≡ v → nat_lt a (suc b) ≡ nat_lt a b
    by true e = lt-ltb a (suc b) (let k = ltb-true a b e in omega (arith, k)) ∙ sym e
    by false e = not_before a (suc b) (let k = ltb-false a b e in omega (arith, k, apart)) ∙ sym e

as_before : (lines : ℕ) (n : NewNode) (params : EndParams) → n.line ≢ lines → begun_to (suc lines) n params ≡ begun_to lines n params
as_before lines n params h = λ i. if same_before n.line lines h i then placed_new n params else waiting n params

-- ---- what a switch has put

pub none_yet : (next place : ℕ) (n : NewSwitch) (role : Role) (l : NewLine) → next ≤ place → frames_put next place (PlannedSwitch n) role l ≡ []
none_yet next place n role l h =
    ap (λ b. cond b (frames_of (new_at (PlannedSwitch n) role l.params)) []) (not_before place next h)

pub now_put : (next place : ℕ) (n : NewSwitch) (role : Role) (l : NewLine) → place < next
    → frames_put next place (PlannedSwitch n) role l ≡ frames_of (new_at (PlannedSwitch n) role l.params)
now_put next place n role l h =
    ap (λ b. cond b (frames_of (new_at (PlannedSwitch n) role l.params)) []) (lt-ltb place next h)

-- ---- one line begins

pub ends_of : (lines : ℕ) (plan : NetPlan) (nodes : List NetNode) (l : NewLine) → IsPlan plan → AreNew lines plan nodes → slice_get plan.lines lines ≡ Some l → HasEnds l nodes
ends_of lines plan nodes l is new there =
    let p = is.lines lines l there in
    let count = new.count in
    record {
      dte = (let h = within plan.nodes l.dte p.dte p.dte_there in omega (arith, h, count));
      dce = (let h = within plan.nodes l.dce p.dce p.dce_there in omega (arith, h, count));
      apart = p.apart;
    }

waits_at : (lines : ℕ) (plan : NetPlan) (nodes : List NetNode) (place : ℕ) (n : NewNode) (l : NewLine) → AreNew lines plan nodes → slice_get plan.nodes place ≡ Some (PlannedUser n)
    → n.line ≡ lines → slice_get plan.lines lines ≡ Some l → slice_get nodes place ≡ Some (User (waiting n l.params))
waits_at lines plan nodes place n l new node_there at there =
    new.there place n l node_there (ap (λ i. slice_get plan.lines i) at ∙ there) ∙ ap (λ x. Some (User x)) (waits lines n l.params (let e = at in omega (arith, e)))

-- the nodes at its two places have begun then, and the others are as before
begun_at : (nodes : List NetNode) (i j place : ℕ) (d e x : NetNode) → i ≢ j → slice_get nodes i ≡ Some d → slice_get nodes j ≡ Some e
    → slice_get nodes place ≡ Some x → (i ≡ place) ⊎ (j ≡ place)
    → slice_get (set (set nodes i (begun_node d)) j (begun_node e)) place ≡ Some (begun_node x)
begun_at nodes i j place d e x apart at_i at_j at (inl w) =
    let same : d ≡ x = same_Some d x (sym at_i ∙ ap (λ k. slice_get nodes k) w ∙ at) in
    ap (λ k. slice_get (set (set nodes i (begun_node d)) j (begun_node e)) k) (sym w)
    ∙ set_elsewhere (set nodes i (begun_node d)) j i (begun_node e) apart
    ∙ set_here nodes i (begun_node d) d at_i ∙ ap (λ y. Some (begun_node y)) same
begun_at nodes i j place d e x apart at_i at_j at (inr w) =
    let same : e ≡ x = same_Some e x (sym at_j ∙ ap (λ k. slice_get nodes k) w ∙ at) in
    ap (λ k. slice_get (set (set nodes i (begun_node d)) j (begun_node e)) k) (sym w)
    ∙ set_here (set nodes i (begun_node d)) j (begun_node e) e
    (set_elsewhere nodes i j (begun_node d) (λ h. apart (sym h)) ∙ at_j)
    ∙ ap (λ y. Some (begun_node y)) same

begun_elsewhere : (nodes : List NetNode) (i j place : ℕ) (d e : NetNode) → place ≢ i → place ≢ j
    → slice_get (set (set nodes i d) j e) place ≡ slice_get nodes place
begun_elsewhere nodes i j place d e not_i not_j =
    set_elsewhere (set nodes i d) j place e not_j ∙ set_elsewhere nodes i place d not_i

pub one_more : (L : LineService) (lines : ℕ) (plan : NetPlan) (nodes new : List NetNode) (l : NewLine) (d e : NetNode) (flights : Flights) → IsPlan plan → AreNew lines plan nodes
    → slice_get plan.lines lines ≡ Some l → slice_get nodes l.dte ≡ Some d → slice_get nodes l.dce ≡ Some e → Begins L l d e nodes new flights
    → AreNew (suc lines) plan new
one_more L lines plan nodes new l d e flights is old there at_dte at_dce w = record {
  count = ap length w.nodes ∙ length_set (set nodes l.dte (begun_node d)) l.dce (begun_node e) ∙ length_set nodes l.dte (begun_node d) ∙ old.count;
  there = λ place n k node_there line_there. ap (λ xs. slice_get xs place) w.nodes ∙ user place n k node_there line_there (cases_eq n.line lines);
  switches = λ place n node_there. ap (λ xs. slice_get xs place) w.nodes ∙ switch place n node_there (cases_eq l.dte place) (cases_eq l.dce place);
}
  where
    p : IsLinePlan plan.nodes lines l
    p = is.lines lines l there

    at : (place : ℕ) (x : NetNode) → slice_get nodes place ≡ Some x → (l.dte ≡ place) ⊎ (l.dce ≡ place)
        → slice_get (set (set nodes l.dte (begun_node d)) l.dce (begun_node e)) place ≡ Some (begun_node x)
    at place x = begun_at nodes l.dte l.dce place d e x p.apart at_dte at_dce

    switch : (place : ℕ) (n : NewSwitch) → slice_get plan.nodes place ≡ Some (PlannedSwitch n) → (l.dte ≡ place) ⊎ (l.dte ≢ place) → (l.dce ≡ place) ⊎ (l.dce ≢ place)
        → slice_get (set (set nodes l.dte (begun_node d)) l.dce (begun_node e)) place ≡ Some (Switching (waiting_switch place n plan.lines))
    switch place n node_there (inl h) other = at place (Switching (waiting_switch place n plan.lines)) (old.switches place n node_there) (inl h)
    switch place n node_there (inr not_dte) (inl h) = at place (Switching (waiting_switch place n plan.lines)) (old.switches place n node_there) (inr h)
    switch place n node_there (inr not_dte) (inr not_dce) =
        begun_elsewhere nodes l.dte l.dce place (begun_node d) (begun_node e) (λ h. not_dte (sym h)) (λ h. not_dce (sym h))
        ∙ old.switches place n node_there

    -- a node with users of another line is at neither end
    elsewhere : (n : NewNode) (end place : ℕ) (q : Planned) (role : Role) → slice_get plan.nodes place ≡ Some (PlannedUser n) → slice_get plan.nodes end ≡ Some q
        → IsEndPlan lines role q → n.line ≢ lines → place ≢ end
    elsewhere n end place q role node_there end_there stands apart h =
        let same : q ≡ PlannedUser n = node_of_end plan end place q (PlannedUser n) end_there (sym h) node_there in
        let own : IsEndPlan lines role (PlannedUser n) = subst (IsEndPlan lines role) same stands in
        apart own.0

    user : (place : ℕ) (n : NewNode) (k : NewLine) → slice_get plan.nodes place ≡ Some (PlannedUser n) → slice_get plan.lines n.line ≡ Some k → (n.line ≡ lines) ⊎ (n.line ≢ lines)
        → slice_get (set (set nodes l.dte (begun_node d)) l.dce (begun_node e)) place ≡ Some (User (begun_to (suc lines) n k.params))
    user place n k node_there line_there (inl here) =
        let same : k ≡ l = same_Some k l (sym line_there ∙ ap (λ i. slice_get plan.lines i) here ∙ there) in
        let end : HasEndAt plan.lines place n.line = is.nodes place (PlannedUser n) node_there in
        let own : end.line_is ≡ k = same_Some end.line_is k (sym end.there ∙ line_there) in
        at place (User (waiting n l.params)) (waits_at lines plan nodes place n l old node_there here there)
        (subst (λ (x : NewLine). (x.dte ≡ place) ⊎ (x.dce ≡ place)) (own ∙ same) end.at_end)
        ∙ ap (λ (x : NewLine). Some (User (placed_new n x.params))) (sym same)
        ∙ ap (λ x. Some (User x)) (sym (has_begun (suc lines) n k.params (omega (arith, here))))
    user place n k node_there line_there (inr apart) =
        begun_elsewhere nodes l.dte l.dce place (begun_node d) (begun_node e)
        (elsewhere n l.dte place p.dte Dte node_there p.dte_there p.dte_stands apart)
        (elsewhere n l.dce place p.dce Dce node_there p.dce_there p.dce_stands apart)
        ∙ old.there place n k node_there line_there ∙ ap (λ x. Some (User x)) (sym (as_before lines n k.params apart))

-- ---- the lines after it

-- the frames that its nodes with users had for it, in the words of the plan
pub first_frames : (lines : ℕ) (plan : NetPlan) (nodes : List NetNode) (l : NewLine) → AreNew lines plan nodes → slice_get plan.lines lines ≡ Some l
    → (place : ℕ) (role : Role) (q : Planned) (x : NetNode) → slice_get plan.nodes place ≡ Some q → IsEndPlan lines role q → slice_get nodes place ≡ Some x
    → users_frames x ≡ frames_put 0 place q role l
first_frames lines plan nodes l new line_there place role (PlannedUser n) x there stands at =
    ap users_frames (same_Some x (User (waiting n l.params)) (sym at ∙ waits_at lines plan nodes place n l new there stands.0 line_there))
    ∙ ap (λ r. frames_of (new_end r n.as_dte l.params)) stands.1
first_frames lines plan nodes l new line_there place role (PlannedSwitch n) x there stands at =
    ap users_frames (same_Some x (Switching (waiting_switch place n plan.lines)) (sym at ∙ new.switches place n there))
    ∙ sym (none_yet 0 place n role l (omega arith))

pub begun_so_far : (L : LineService) (l : NewLine) (dte dce : Planned) (d e : NetNode) (old new : List NetNode) (flights : Flights) → L.faithful → IsKindOfLine l dte dce
    → users_frames d ≡ frames_put 0 l.dte dte Dte l → users_frames e ≡ frames_put 0 l.dce dce Dce l → Begins L l d e old new flights
    → ArePutSoFar L 0 l dte dce flights
begun_so_far L l (PlannedUser m) dce d e old new flights f kind first second w = record {
  between = w.between;
  from_first = subst (λ (o : List Octets). ArePut L FromDte o no_flights w.between) first (w.from_dte f);
  from_other = subst (λ (o : List Octets). ArePut L FromDce o w.between flights) second (w.from_dce f);
}
begun_so_far L l (PlannedSwitch m) (PlannedUser n) d e old new flights f kind first second w = absurd kind
begun_so_far L l (PlannedSwitch m) (PlannedSwitch n) d e old new flights f kind first second w =
    let no_first = none_yet 0 l.dte m Dte l (omega arith) in
    let no_second = none_yet 0 l.dce n Dce l (omega arith) in
    let one : w.between ≡ no_flights = subst (λ (o : List Octets). ArePut L FromDte o no_flights w.between) (first ∙ no_first) (w.from_dte f) in
    let two : flights ≡ w.between = subst (λ (o : List Octets). ArePut L FromDce o w.between flights) (second ∙ no_second) (w.from_dce f) in
    record {
      between = no_flights;
      from_first = subst (λ (o : List Octets). ArePut L FromDce o no_flights no_flights) (sym no_second) refl;
      from_other = subst (λ (o : List Octets). ArePut L FromDte o no_flights flights) (sym no_first) (two ∙ one);
    }

line_kept : (L : LineService) (plan : NetPlan) (lines : List NetLine) (x : NetLine) (line : ℕ) (l : NewLine) → LineHasBegun L 0 plan lines line l
    → LineHasBegun L 0 plan (lines ++ x ∷ []) line l
line_kept L plan lines x line l m = record { flights = m.flights; there = get_before lines (x ∷ []) line _ m.there; sent = m.sent }

pub line_more : (L : LineService) (begun : ℕ) (plan : NetPlan) (lines : List NetLine) (l : NewLine) (flights : Flights) (dte dce : Planned)
    → slice_get plan.nodes l.dte ≡ Some dte → slice_get plan.nodes l.dce ≡ Some dce
    → HaveBegun L 0 begun plan lines → slice_get plan.lines begun ≡ Some l
    → (L.faithful → ArePutSoFar L 0 l dte dce flights)
    → HaveBegun L 0 (suc begun) plan (lines ++ record { dte = l.dte; dce = l.dce; channels = l.params.channels; flights = flights } ∷ [])
line_more L begun plan lines l flights dte dce dte_there dce_there old there sent = record {
  count = length_pushed lines _ ∙ ap suc old.count;
  there = λ line k h line_there. by line k h line_there (cases_eq line begun);
}
  where
    by : (line : ℕ) (k : NewLine) → line < suc begun → slice_get plan.lines line ≡ Some k → (line ≡ begun) ⊎ (line ≢ begun)
        → LineHasBegun L 0 plan (lines ++ record { dte = l.dte; dce = l.dce; channels = l.params.channels; flights = flights } ∷ []) line k
    by line k h line_there (inl at) =
        let same : l ≡ k = same_Some l k (sym there ∙ ap (λ i. slice_get plan.lines i) (sym at) ∙ line_there) in
        let P : NewLine → ℕ → Type 0 = λ m i. LineHasBegun L 0 plan (lines ++ record { dte = l.dte; dce = l.dce; channels = l.params.channels; flights = flights } ∷ []) i m in
        let Q : NewLine → Type 0 = λ m. P m line in
        let R : ℕ → Type 0 = λ i. P l i in
        subst Q same (subst R (old.count ∙ sym at) (record {
          flights = flights;
          there = get_last lines _;
          sent = λ f a b a_there b_there.
              let A : Planned → Type 0 = λ x. ArePutSoFar L 0 l x b flights in
              let B : Planned → Type 0 = λ x. ArePutSoFar L 0 l dte x flights in
              subst A (same_Some dte a (sym dte_there ∙ a_there)) (subst B (same_Some dce b (sym dce_there ∙ b_there)) (sent f));
        }))
    by line k h line_there (inr apart) = line_kept L plan lines _ line k (old.there line k (omega (arith, h, apart)) line_there)

-- ---- as a network begins

pub none_begun : (L : LineService) (begun : ℕ) (plan : NetPlan) (lines : List NetLine) → begun ≡ 0 → lines ≡ [] → HaveBegun L 0 begun plan lines
none_begun L begun plan lines none empty = record {
  count = ap length empty ∙ sym none;
  there = λ line l h there. absurd (let e = none in omega (arith, h, e));
}
