-- A network whose lines have begun, and whose switches put their frames one after the other, is made by its plan.
use Rattle.std.proofs.Common.{◌≡◌, ◌≢◌, ℕ, ◌<◌, ◌≤◌, suc, false, cond, List, [], map, length, set, Some, refl, sym, ap, ◌∙◌, subst, arith, inl, inr}
use Rattle.std.specs.Prelude.{◌⊎◌, ◌==◌, slice_get, option_map, unwrap_or, Option, if◌then◌else◌, nat_lt}
use Rattle.std.proofs.lemmas.Option.{same_Some, slice_get-map}
use Rattle.std.proofs.lemmas.Bool.{cases_eq, lt-ltb, eq-eqb, ne_eqb}
use Rattle.std.proofs.lemmas.List.{length-map}
use Rattle.record_laws.proofs.Books.Basics.{set_here, set_elsewhere, length_set}
use Rattle.lapb.specs.Machine.{Octets}
use Rattle.link_timers.specs.declared.role.Role.{Role}
use Rattle.link_timers.specs.declared.role.Role.TheVariants.{Dte, Dce}
use Rattle.link_timers.specs.Role.{other_of}
use Rattle.call_records.specs.Book.{address_of}
use Rattle.call_records.specs.Register.{made_register}
use Rattle.user_nodes.specs.Node.{NodeState, frames_of}
use Rattle.frame_lines.specs.declared.line.Direction.TheVariants.{FromDte, FromDce}
use Rattle.frame_lines.specs.Lines.{Flights, no_flights, LineService, ArePut}
use Rattle.switch_lines.specs.Lines.{SwitchLine, role_on}
use Rattle.switch_lines.specs.Making.{made, made_line}
use Rattle.switch_lines.specs.Switch.{frames_on}
use Rattle.net_events.specs.AtSwitch.{waiting_on}
use Rattle.net_events.specs.Network.{PlacedNode, PlacedSwitch, NetNode, User, Switching, NetLine, own_role}
use Rattle.net_events.specs.OneLine.{direction_of}
use Rattle.net_config.specs.NetPlan.{NewNode, NewSwitch, Planned, PlannedUser, PlannedSwitch, NewLine, NetPlan, IsEndPlan}
use Rattle.net_config.specs.NetPlan.{IsKindOfLine, IsLinePlan, HasEndAt, IsSwitchPlan, IsPlan}
use Rattle.net_events.specs.Opening.{NodeIsMade, LineIsMade, AreSent}
use Rattle.net_events.specs.Opening.{new_at, end_of_two, placed_new, placed_switch, role_on_line, own_configs, line_plan}
use Rattle.net_node.specs.Making.{waiting_switch, AreNew}
use Rattle.net_events.proofs.Lists.{within, at_index}
use Rattle.net_node.proofs.NewNodes.{not_before, has_begun}
use Rattle.net_node.proofs.Plans.{never_both, same_new_switch, node_of_end, own_line_of, own_there, config_at, configs_count}
use Rattle.node_events.specs.Switching.{LinePut}
use Rattle.line_sim.specs.Making.{frames_put, put_at, first_end, ArePutSoFar, LineHasBegun, HaveBegun, CanBegin}
use Rattle.line_sim.specs.Making.{SwitchBegins, switch_to, HaveNodesBegun, IsMadeOf}
use Rattle.line_sim.proofs.LinesBegin.{same_before, none_yet, now_put}

-- a node with users is as it is made
user_made : (plan : NetPlan) (nodes : List NetNode) → AreNew (length plan.lines) plan nodes → (place : ℕ) (n : NewNode) → slice_get plan.nodes place ≡ Some (PlannedUser n)
    → (l : NewLine) → slice_get plan.lines n.line ≡ Some l → slice_get nodes place ≡ Some (User (placed_new n l.params))
user_made plan nodes new place n at l line_at =
    new.there place n l at line_at ∙ ap (λ x. Some (User x)) (has_begun (length plan.lines) n l.params (within plan.lines n.line l line_at))

-- where no switch has begun yet
pub no_switch_yet : (plan : NetPlan) (nodes : List NetNode) → AreNew (length plan.lines) plan nodes → HaveNodesBegun 0 plan nodes
no_switch_yet plan nodes new = record {
  count = new.count;
  users = λ place n l at line_at. user_made plan nodes new place n at l line_at;
  switches = λ place n at. new.switches place n at
      ∙ (λ i. Some (Switching (if sym (not_before place 0 (omega arith)) i then placed_switch place n plan.lines else waiting_switch place n plan.lines)));
}

-- ---- the frames of a switch

-- those of its own lines can be put
pub can_begin : (L : LineService) (plan : NetPlan) (next place : ℕ) (n : NewSwitch) (lines : List NetLine) → IsPlan plan → slice_get plan.nodes place ≡ Some (PlannedSwitch n)
    → HaveBegun L next (length plan.lines) plan lines → CanBegin (waiting_switch place n plan.lines) lines
can_begin L plan next place n lines is there begun = record {
  count = sym (length-map (own_configs place n.lines plan.lines) made_line ∙ configs_count place n.lines plan.lines (own_there plan place n is there));
  apart = (let stands : IsSwitchPlan plan.lines place n = is.nodes place (PlannedSwitch n) there in stands.apart);
  there = λ at line own.
      let o = own_line_of plan place n is there at line own in
      let h = within plan.lines line o.line_is o.there in
      let count = begun.count in
      omega (arith, h, count);
}

-- an own line as it is made
own_made : (plan : NetPlan) (place : ℕ) (n : NewSwitch) (at line : ℕ) (l : NewLine) → IsPlan plan → slice_get plan.nodes place ≡ Some (PlannedSwitch n)
    → slice_get n.lines at ≡ Some line → slice_get plan.lines line ≡ Some l
    → slice_get (made n.routes (own_configs place n.lines plan.lines)).lines at
    ≡ Some (made_line (record { params = l.params; role = role_on_line place l; address = address_of l.address }))
own_made plan place n at line l is there own line_there =
    slice_get-map made_line (own_configs place n.lines plan.lines) at
    ∙ ap (option_map made_line) (config_at place n.lines plan.lines (own_there plan place n is there) at line l own line_there)

-- the frames that it put on an own line
own_put : (L : LineService) (plan : NetPlan) (place : ℕ) (n : NewSwitch) (at line : ℕ) (l : NewLine) (role : Role) (before after : List NetLine) → IsPlan plan
    → slice_get plan.nodes place ≡ Some (PlannedSwitch n) → slice_get n.lines at ≡ Some line → slice_get plan.lines line ≡ Some l → role_on_line place l ≡ role
    → (w : LinePut L false line (own_role (made n.routes (own_configs place n.lines plan.lines)) at) (waiting_on at (made n.routes (own_configs place n.lines plan.lines))) before after)
    → L.faithful → ArePut L (direction_of role) (frames_of (new_at (PlannedSwitch n) role l.params)) w.line_is.flights w.flights
own_put L plan place n at line l role before after is there own line_there role_is w f =
    let at_role = ap (λ (o : Option SwitchLine). unwrap_or (role_on o) Dce) (own_made plan place n at line l is there own line_there) ∙ role_is in
    let frames = ap frames_on (own_made plan place n at line l is there own line_there)
    ∙ ap (λ r. frames_of (new_at (PlannedSwitch n) r l.params)) role_is in
    let P : Role → Type 0 = λ r. ArePut L (direction_of r) (frames_of (new_at (PlannedSwitch n) role l.params)) w.line_is.flights w.flights in
    let Q : List Octets → Type 0 = λ o. ArePut L (direction_of (own_role (made n.routes (own_configs place n.lines plan.lines)) at)) o w.line_is.flights w.flights in
    let R : Flights → Type 0 = λ b. ArePut L (direction_of (own_role (made n.routes (own_configs place n.lines plan.lines)) at)) (waiting_on at (made n.routes (own_configs place n.lines plan.lines))) b w.flights in
    subst P at_role (subst Q frames (subst R (w.left f) (w.put f)))

-- ---- what has been put on a line after the switch of this place

-- by the switch at its DCE
served_dce : (L : LineService) (l : NewLine) (dte : Planned) (n : NewSwitch) (place : ℕ) (before after : Flights) → IsKindOfLine l dte (PlannedSwitch n) → l.dce ≡ place
    → ArePutSoFar L place l dte (PlannedSwitch n) before → ArePut L FromDce (frames_of (new_at (PlannedSwitch n) Dce l.params)) before after
    → ArePutSoFar L (suc place) l dte (PlannedSwitch n) after
served_dce L l (PlannedUser m) n place before after kind at old put =
    let none = none_yet place l.dce n Dce l (omega (arith, at)) in
    let same : before ≡ old.between = subst (λ (o : List Octets). ArePut L FromDce o old.between before) none old.from_other in
    record {
      between = old.between;
      from_first = old.from_first;
      from_other = subst (λ (o : List Octets). ArePut L FromDce o old.between after) (sym (now_put (suc place) l.dce n Dce l (omega (arith, at))))
          (subst (λ (b : Flights). ArePut L FromDce (frames_of (new_at (PlannedSwitch n) Dce l.params)) b after) same put);
    }
served_dce L l (PlannedSwitch m) n place before after kind at old put =
    let earlier = kind.1 in
    let none = none_yet place l.dce n Dce l (omega (arith, at)) in
    let no_other = none_yet place l.dte m Dte l (omega (arith, at, earlier)) in
    let first : old.between ≡ no_flights = subst (λ (o : List Octets). ArePut L FromDce o no_flights old.between) none old.from_first in
    let second : before ≡ old.between = subst (λ (o : List Octets). ArePut L FromDte o old.between before) no_other old.from_other in
    record {
      between = after;
      from_first = subst (λ (o : List Octets). ArePut L FromDce o no_flights after) (sym (now_put (suc place) l.dce n Dce l (omega (arith, at))))
          (subst (λ (b : Flights). ArePut L FromDce (frames_of (new_at (PlannedSwitch n) Dce l.params)) b after) (second ∙ first) put);
      from_other = subst (λ (o : List Octets). ArePut L FromDte o after after) (sym (none_yet (suc place) l.dte m Dte l (omega (arith, at, earlier)))) refl;
    }

-- and by the one at its DTE
served_dte : (L : LineService) (l : NewLine) (dce : Planned) (n : NewSwitch) (place : ℕ) (before after : Flights) → IsKindOfLine l (PlannedSwitch n) dce → l.dte ≡ place
    → ArePutSoFar L place l (PlannedSwitch n) dce before → ArePut L FromDte (frames_of (new_at (PlannedSwitch n) Dte l.params)) before after
    → ArePutSoFar L (suc place) l (PlannedSwitch n) dce after
served_dte L l (PlannedUser m) n place before after kind at old put = absurd kind
served_dte L l (PlannedSwitch m) n place before after kind at old put =
    let earlier = kind.1 in
    let none = none_yet place l.dte n Dte l (omega (arith, at)) in
    let second : before ≡ old.between = subst (λ (o : List Octets). ArePut L FromDte o old.between before) none old.from_other in
    record {
      between = old.between;
      from_first = subst (λ (o : List Octets). ArePut L FromDce o no_flights old.between)
          (now_put place l.dce m Dce l (omega (arith, at, earlier)) ∙ sym (now_put (suc place) l.dce m Dce l (omega (arith, at, earlier)))) old.from_first;
      from_other = subst (λ (o : List Octets). ArePut L FromDte o old.between after) (sym (now_put (suc place) l.dte n Dte l (omega (arith, at))))
          (subst (λ (b : Flights). ArePut L FromDte (frames_of (new_at (PlannedSwitch n) Dte l.params)) b after) second put);
    }

-- an end at which this is no switch
end_stays : (next place : ℕ) (q : Planned) (role : Role) (l : NewLine) → ((n : NewSwitch) → q ≡ PlannedSwitch n → place ≢ next)
    → frames_put next place q role l ≡ frames_put (suc next) place q role l
end_stays next place (PlannedUser n) role l apart = refl
end_stays next place (PlannedSwitch n) role l apart =
    ap (λ b. cond b (frames_of (new_at (PlannedSwitch n) role l.params)) []) (sym (same_before place next (apart n refl)))

-- a line at neither end of which it is
line_stays : (L : LineService) (next : ℕ) (l : NewLine) (dte dce : Planned) (flights : Flights) → ((n : NewSwitch) → dte ≡ PlannedSwitch n → l.dte ≢ next)
    → ((n : NewSwitch) → dce ≡ PlannedSwitch n → l.dce ≢ next) → ArePutSoFar L next l dte dce flights → ArePutSoFar L (suc next) l dte dce flights
line_stays L next l dte dce flights not_dte not_dce old = record {
  between = old.between;
  from_first = subst (λ (o : List Octets). ArePut L (direction_of (first_end dte)) o no_flights old.between) (stays (first_end dte)) old.from_first;
  from_other = subst (λ (o : List Octets). ArePut L (direction_of (other_of (first_end dte))) o old.between flights) (stays (other_of (first_end dte))) old.from_other;
}
  where
    stays : (role : Role) → put_at role next l dte dce ≡ put_at role (suc next) l dte dce
    stays Dte = end_stays next l.dte dte Dte l not_dte
    stays Dce = end_stays next l.dce dce Dce l not_dce

-- ---- one switch more

-- the node that is next: one with users, or a switch whose frames wait
pub data IsNext (plan : NetPlan) (place : ℕ) (node : NetNode) : Type 0 where
  NextUser : (n : NewNode) → slice_get plan.nodes place ≡ Some (PlannedUser n) → (u : PlacedNode) → node ≡ User u → IsNext plan place node
  NextSwitch : (n : NewSwitch) → slice_get plan.nodes place ≡ Some (PlannedSwitch n) → node ≡ Switching (waiting_switch place n plan.lines)
      → IsNext plan place node

pub next_is : (plan : NetPlan) (place : ℕ) (nodes : List NetNode) (node : NetNode) → IsPlan plan → HaveNodesBegun place plan nodes → slice_get nodes place ≡ Some node
    → IsNext plan place node
next_is plan place nodes node is old at = by q.0 q.1
  where
    q : (p : Planned) × (slice_get plan.nodes place ≡ Some p)
    q = at_index plan.nodes place (let h = within nodes place node at in let count = old.count in omega (arith, h, count))

    by : (p : Planned) → slice_get plan.nodes place ≡ Some p → IsNext plan place node
    by (PlannedUser n) there =
        let end : HasEndAt plan.lines place n.line = is.nodes place (PlannedUser n) there in
        NextUser n there (placed_new n end.line_is.params)
        (same_Some node (User (placed_new n end.line_is.params)) (sym at ∙ old.users place n end.line_is there end.there))
    by (PlannedSwitch n) there =
        NextSwitch n there
        (same_Some node (Switching (switch_to place place n plan.lines)) (sym at ∙ old.switches place n there)
        ∙ (λ i. Switching (if not_before place place (omega arith) i then placed_switch place n plan.lines else waiting_switch place n plan.lines)))

switch_stays : (next place : ℕ) (n : NewSwitch) (lines : List NewLine) → place ≢ next → switch_to next place n lines ≡ switch_to (suc next) place n lines
switch_stays next place n lines apart = λ i. if sym (same_before place next apart) i then placed_switch place n lines else waiting_switch place n lines

at_dce : (place : ℕ) (l : NewLine) → l.dce ≡ place → role_on_line place l ≡ Dce
at_dce place l h = ap (λ b. cond b Dce Dte) (eq-eqb l.dce place h)

at_dte : (place : ℕ) (l : NewLine) → l.dte ≡ place → l.dte ≢ l.dce → role_on_line place l ≡ Dte
at_dte place l h apart = ap (λ b. cond b Dce Dte) (ne_eqb l.dce place (λ e. apart (h ∙ sym e)))

pub switch_more : (L : LineService) (plan : NetPlan) (place : ℕ) (n : NewSwitch) (nodes : List NetNode) (node : NetNode) (before after : List NetLine) → IsPlan plan
    → slice_get plan.nodes place ≡ Some (PlannedSwitch n) → HaveNodesBegun place plan nodes → HaveBegun L place (length plan.lines) plan before
    → SwitchBegins L (waiting_switch place n plan.lines) before node after
    → HaveNodesBegun (suc place) plan (set nodes place node) × HaveBegun L (suc place) (length plan.lines) plan after
switch_more L plan place n nodes node before after is there old begun w = (
  record {
    count = length_set nodes place node ∙ old.count;
    users = λ at m l e line_at.
        set_elsewhere nodes place at node (λ k. never_both m n (sym e ∙ ap (λ i. slice_get plan.nodes i) k ∙ there))
        ∙ old.users at m l e line_at;
    switches = λ at m e. switch at m e (cases_eq at place);
  },
  record {
    count = w.lines_put.count ∙ begun.count;
    there = λ line l h at. line_more line l h at (cases_eq l.dce place) (cases_eq l.dte place);
  },
)
  where
    switch : (at : ℕ) (m : NewSwitch) → slice_get plan.nodes at ≡ Some (PlannedSwitch m) → (at ≡ place) ⊎ (at ≢ place)
        → slice_get (set nodes place node) at ≡ Some (Switching (switch_to (suc place) at m plan.lines))
    switch at m e (inl here) =
        let same : n ≡ m = same_new_switch n m (sym there ∙ ap (λ i. slice_get plan.nodes i) (sym here) ∙ e) in
        ap (λ i. slice_get (set nodes place node) i) here
        ∙ set_here nodes place node (Switching (switch_to place place n plan.lines)) (old.switches place n there)
        ∙ ap (λ x. Some x) w.node_is
        ∙ (λ i. Some (Switching (if sym (lt-ltb place (suc place) (omega arith)) i then placed_switch place n plan.lines else waiting_switch place n plan.lines)))
        ∙ ap (λ k. Some (Switching (switch_to (suc place) k n plan.lines))) (sym here)
        ∙ ap (λ x. Some (Switching (switch_to (suc place) at x plan.lines))) same
    switch at m e (inr apart) =
        set_elsewhere nodes place at node apart ∙ old.switches at m e
        ∙ ap (λ x. Some (Switching x)) (switch_stays place at m plan.lines apart)

    -- the switch put its frames on one of its own lines
    own_line : (line : ℕ) (l : NewLine) (role : Role) (own : ℕ) → slice_get plan.lines line ≡ Some l → slice_get n.lines own ≡ Some line → role_on_line place l ≡ role
        → (m : LineHasBegun L place plan before line l)
        → ((f : L.faithful) (dte dce : Planned) (flights : Flights) → slice_get plan.nodes l.dte ≡ Some dte → slice_get plan.nodes l.dce ≡ Some dce
        → ArePut L (direction_of role) (frames_of (new_at (PlannedSwitch n) role l.params)) m.flights flights → ArePutSoFar L (suc place) l dte dce flights)
        → LineHasBegun L (suc place) plan after line l
    own_line line l role own at own_is role_is m goes_on =
        let x = w.lines_put.own_lines own line own_is in
        let kept : x.line_is ≡ record { dte = l.dte; dce = l.dce; channels = l.params.channels; flights = m.flights }
        = same_Some x.line_is _ (sym x.line_there ∙ m.there) in
        record {
          flights = x.flights;
          there = x.after_there ∙ ap (λ (k : NetLine). Some (record k { flights = x.flights })) kept;
          sent = λ f dte dce dte_there dce_there.
              goes_on f dte dce x.flights dte_there dce_there
              (subst (λ (b : Flights). ArePut L (direction_of role) (frames_of (new_at (PlannedSwitch n) role l.params)) b x.flights)
              (ap (λ (k : NetLine). k.flights) kept) (own_put L plan place n own line l role before after is there own_is at role_is x f));
        }

    line_more : (line : ℕ) (l : NewLine) → line < length plan.lines → slice_get plan.lines line ≡ Some l → (l.dce ≡ place) ⊎ (l.dce ≢ place) → (l.dte ≡ place) ⊎ (l.dte ≢ place)
        → LineHasBegun L (suc place) plan after line l
    line_more line l h at (inl here) other =
        let p = is.lines line l at in
        let m = begun.there line l h at in
        let same : p.dce ≡ PlannedSwitch n = node_of_end plan l.dce place p.dce (PlannedSwitch n) p.dce_there here there in
        let stands : IsEndPlan line Dce (PlannedSwitch n) = subst (IsEndPlan line Dce) same p.dce_stands in
        own_line line l Dce stands.0 at stands.1 (at_dce place l here) m
        (λ f dte dce flights dte_there dce_there put.
        let dte_is : p.dte ≡ dte = same_Some p.dte dte (sym p.dte_there ∙ dte_there) in
        let dce_is : PlannedSwitch n ≡ dce = sym same ∙ same_Some p.dce dce (sym p.dce_there ∙ dce_there) in
        let kind : IsKindOfLine l dte (PlannedSwitch n) = subst (λ (x : Planned). IsKindOfLine l x (PlannedSwitch n)) dte_is (subst (IsKindOfLine l p.dte) same p.kind) in
        let so_far = subst (λ (x : Planned). ArePutSoFar L place l dte x m.flights) (sym dce_is) (m.sent f dte dce dte_there dce_there) in
        subst (λ (x : Planned). ArePutSoFar L (suc place) l dte x flights) dce_is (served_dce L l dte n place m.flights flights kind here so_far put))
    line_more line l h at (inr not_dce) (inl here) =
        let p = is.lines line l at in
        let m = begun.there line l h at in
        let same : p.dte ≡ PlannedSwitch n = node_of_end plan l.dte place p.dte (PlannedSwitch n) p.dte_there here there in
        let stands : IsEndPlan line Dte (PlannedSwitch n) = subst (IsEndPlan line Dte) same p.dte_stands in
        own_line line l Dte stands.0 at stands.1 (at_dte place l here p.apart) m
        (λ f dte dce flights dte_there dce_there put.
        let dte_is : PlannedSwitch n ≡ dte = sym same ∙ same_Some p.dte dte (sym p.dte_there ∙ dte_there) in
        let dce_is : p.dce ≡ dce = same_Some p.dce dce (sym p.dce_there ∙ dce_there) in
        let kind : IsKindOfLine l (PlannedSwitch n) dce = subst (IsKindOfLine l (PlannedSwitch n)) dce_is (subst (λ (x : Planned). IsKindOfLine l x p.dce) same p.kind) in
        let so_far = subst (λ (x : Planned). ArePutSoFar L place l x dce m.flights) (sym dte_is) (m.sent f dte dce dte_there dce_there) in
        subst (λ (x : Planned). ArePutSoFar L (suc place) l x dce flights) dte_is (served_dte L l dce n place m.flights flights kind here so_far put))
    line_more line l h at (inr not_dce) (inr not_dte) =
        let m = begun.there line l h at in
        record {
          flights = m.flights;
          there = w.lines_put.others line (λ k own.
              let stands : IsSwitchPlan plan.lines place n = is.nodes place (PlannedSwitch n) there in
              let e = stands.each k line own in
              let same : e.line_is ≡ l = same_Some e.line_is l (sym e.there ∙ at) in
              elim (subst (λ (x : NewLine). (x.dte ≡ place) ⊎ (x.dce ≡ place)) same e.at_end) [ inl d ↦ not_dte d | inr d ↦ not_dce d ]) ∙ m.there;
          sent = λ f dte dce dte_there dce_there.
              line_stays L place l dte dce m.flights (λ _ _. not_dte) (λ _ _. not_dce) (m.sent f dte dce dte_there dce_there);
        }

-- where a node with users is at the place nothing is put
pub user_more : (L : LineService) (plan : NetPlan) (place : ℕ) (n : NewNode) (nodes : List NetNode) (node old_node : NetNode) (before after : List NetLine)
    → slice_get plan.nodes place ≡ Some (PlannedUser n) → slice_get nodes place ≡ Some old_node → node ≡ old_node → after ≡ before
    → HaveNodesBegun place plan nodes → HaveBegun L place (length plan.lines) plan before
    → HaveNodesBegun (suc place) plan (set nodes place node) × HaveBegun L (suc place) (length plan.lines) plan after
user_more L plan place n nodes node old_node before after there node_there node_is lines_are old begun = (
  record {
    count = length_set nodes place node ∙ old.count;
    users = λ at m l e line_at. same_at at (cases_eq at place) ∙ old.users at m l e line_at;
    switches = λ at m e. same_at at (cases_eq at place) ∙ old.switches at m e
        ∙ ap (λ x. Some (Switching x)) (switch_stays place at m plan.lines (apart at m e));
  },
  subst (λ (xs : List NetLine). HaveBegun L (suc place) (length plan.lines) plan xs) (sym lines_are) (record {
    count = begun.count;
    there = λ line l h at.
        let m = begun.there line l h at in
        record {
          flights = m.flights;
          there = m.there;
          sent = λ f dte dce dte_there dce_there.
              line_stays L place l dte dce m.flights (λ k same. apart l.dte k (dte_there ∙ ap (λ x. Some x) same)) (λ k same. apart l.dce k (dce_there ∙ ap (λ x. Some x) same))
              (m.sent f dte dce dte_there dce_there);
        };
  }),
)
  where
    apart : (at : ℕ) (m : NewSwitch) → slice_get plan.nodes at ≡ Some (PlannedSwitch m) → at ≢ place
    apart at m e here = never_both n m (sym there ∙ ap (λ i. slice_get plan.nodes i) (sym here) ∙ e)

    same_at : (at : ℕ) → (at ≡ place) ⊎ (at ≢ place) → slice_get (set nodes place node) at ≡ slice_get nodes at
    same_at at (inl here) =
        ap (λ i. slice_get (set nodes place node) i) here ∙ set_here nodes place node old_node node_there ∙ ap (λ x. Some x) node_is
        ∙ sym node_there ∙ ap (λ i. slice_get nodes i) (sym here)
    same_at at (inr other) = set_elsewhere nodes place at node other

-- ---- when all have begun

all_put : (next place : ℕ) (q : Planned) (role : Role) (l : NewLine) → place < next → frames_put next place q role l ≡ frames_of (new_at q role l.params)
all_put next place (PlannedUser n) role l h = refl
all_put next place (PlannedSwitch n) role l h = now_put next place n role l h

all_sent : (L : LineService) (next : ℕ) (l : NewLine) (dte dce : Planned) (flights : Flights) → l.dte < next → l.dce < next
    → ArePutSoFar L next l dte dce flights → AreSent L (new_at dte Dte l.params) (new_at dce Dce l.params) flights
all_sent L next l dte dce flights dte_less dce_less p = record {
  first = first_end dte;
  between = p.between;
  from_first = subst (λ (o : List Octets). ArePut L (direction_of (first_end dte)) o no_flights p.between) (all (first_end dte)) p.from_first;
  from_other = subst (λ (o : List Octets). ArePut L (direction_of (other_of (first_end dte))) o p.between flights) (all (other_of (first_end dte))) p.from_other;
}
  where
    all : (role : Role) → put_at role next l dte dce ≡ frames_of (end_of_two role (new_at dte Dte l.params) (new_at dce Dce l.params))
    all Dte = all_put next l.dte dte Dte l dte_less
    all Dce = all_put next l.dce dce Dce l dce_less

pub is_made : (L : LineService) (plan : NetPlan) (next : ℕ) (nodes : List NetNode) (lines : List NetLine) → next ≡ length nodes → HaveNodesBegun next plan nodes
    → HaveBegun L next (length plan.lines) plan lines → IsMadeOf L plan nodes lines
is_made L plan next nodes lines all new begun = record {
  node_count = new.count;
  nodes = λ place n at. node place n at;
  line_count = begun.count;
  lines = λ line l at.
      let m = begun.there line l (within plan.lines line l at) at in
      record {
        flights = m.flights;
        there = m.there;
        sent = λ f dte dce dte_there dce_there.
            all_sent L next l dte dce m.flights (less l.dte dte dte_there) (less l.dce dce dce_there) (m.sent f dte dce dte_there dce_there);
      };
  register = refl;
}
  where
    less : (place : ℕ) (n : Planned) → slice_get plan.nodes place ≡ Some n → place < next
    less place n at =
        let h = within plan.nodes place n at in
        let count = new.count in
        omega (arith, h, count, all)

    node : (place : ℕ) (n : Planned) → slice_get plan.nodes place ≡ Some n
        → NodeIsMade plan (record { nodes = nodes; lines = lines; register = made_register (map line_plan plan.lines) }) place n
    node place (PlannedUser n) at = λ l line_at. new.users place n l at line_at
    node place (PlannedSwitch n) at =
        new.switches place n at
        ∙ (λ i. Some (Switching (if lt-ltb place next (less place (PlannedSwitch n) at) i then placed_switch place n plan.lines else waiting_switch place n plan.lines)))
