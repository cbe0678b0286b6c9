-- Where the timer that is due expires, fewer are due then.
use Rattle.std.proofs.Common.{◌≡◌, ◌≢◌, ℕ, zero, suc, ◌+◌, ◌<◌, Bool, true, false, cond, List, [], ◌∷◌, Option, Some}
use Rattle.std.proofs.Common.{None, Result, Ok, Err}
use Rattle.std.proofs.Common.{refl, sym, ap, ◌∙◌, subst, arith, inl, inr}
use Rattle.std.specs.Prelude.{◌⊎◌, not, length, slice_get, is_some}
use Rattle.std.specs.List.{position, position_or_len}
use Rattle.std.proofs.lemmas.Bool.{eq-eqb, lt-ltb}
use Rattle.std.proofs.lemmas.Option.{same_Some, none-some}
use Rattle.link_timers.specs.declared.timers.TimerId.{TimerId}
use Rattle.packet_end.specs.PacketEnd as packet_end
use Rattle.user_nodes.specs.Node.{node_due}
use Rattle.frame_lines.specs.Lines.{LineService}
use Rattle.switch_lines.specs.Lines.{SwitchLine}
use Rattle.switch_lines.specs.Switch.{due_on}
use Rattle.net_events.specs.Network.{PlacedNode, PlacedSwitch, NetNode, User, Switching, Network, StandsAtLines}
use Rattle.net_events.proofs.Users.{same_user, not_both, same_switch}
use Rattle.net_events.specs.NextDue.{DueTimer, first_on, due_on_lines, due_at, due_of, due_from, next_due}
use Rattle.network_laws.specs.DueCount.{all_due}
use Rattle.net_events.specs.declared.answer.Answer.{Answer}
use Rattle.net_events.specs.declared.event.Event.{Event}
use Rattle.net_events.specs.declared.event.Event.TheVariants.{Expire}
use Rattle.net_events.specs.declared.event.StepFault.{StepFault}
use Rattle.net_events.specs.declared.event.StepFault.TheVariants.{OutOfMemory}
use Rattle.net_nodes.specs.Due.{expiry_of, net_due}
use Rattle.net_nodes.specs.Faults.{step_fault, has_line, stands_at, where_there_is, MayWant}
use Rattle.net_config.specs.Plan.{is_line}
use Rattle.net_nodes.specs.Steps.{ExpireStep}
use Rattle.net_nodes.specs.Happening.{Happens}
use Rattle.network_laws.proofs.Switched.FewerAny.{fewer_any, fewer_at_switch}
use Rattle.line_sim.specs.Between.{IsBetweenEvents}
use Rattle.line_sim.specs.Expiries.{FewerDue}
use Rattle.line_sim.proofs.CanBeServed.{standing}

-- ---- which timer it is

-- the timer is due at a node of the list, of which the first is at this place
record IsDueFrom (place : ℕ) (nodes : List NetNode) (d : DueTimer) : Type 0 where
  index : ℕ
  node : NetNode
  there : slice_get nodes index ≡ Some node
  at : d.place ≡ place + index
  due : due_at node ≡ Some (d.line, d.timer)

due_there : (place : ℕ) (nodes : List NetNode) (d : DueTimer) → due_from place nodes ≡ Some d → IsDueFrom place nodes d
due_there place [] d e = absurd (cc)
due_there place (n ∷ nodes) d e = by (λ h. due_there (suc place) nodes d h) (due_at n) refl e
  where
    later : IsDueFrom (suc place) nodes d → IsDueFrom place (n ∷ nodes) d
    later r = record {
      index = suc r.index;
      node = r.node;
      there = r.there;
      at = r.at ∙ omega arith;
      due = r.due;
    }

    by : (due_from (suc place) nodes ≡ Some d → IsDueFrom (suc place) nodes d) → (o : Option (ℕ × TimerId))
        → due_at n ≡ o → due_of place o (due_from (suc place) nodes) ≡ Some d → IsDueFrom place (n ∷ nodes) d
    by others None none h = later (others h)
    by others (Some timer) some h =
        let same : record { place = place; line = timer.0; timer = timer.1 } ≡ d = cc in
        record {
          index = 0;
          node = n;
          there = refl;
          at = sym (ap (λ (x : DueTimer). x.place) same) ∙ omega arith;
          due = some ∙ ap (λ (x : DueTimer). Some (x.line, x.timer)) same;
        }

-- at a node with users it is the node's, on its line
record IsDueAt (n : PlacedNode) (line : ℕ) (timer : TimerId) : Type 0 where
  line_is : n.line ≡ line
  due : node_due n.node ≡ Some timer

at_user : (n : PlacedNode) (line : ℕ) (timer : TimerId) → due_at (User n) ≡ Some (line, timer) → IsDueAt n line timer
at_user n line timer e = by (node_due n.node) refl e
  where
    by : (o : Option TimerId) → node_due n.node ≡ o → first_on n.line o None ≡ Some (line, timer) → IsDueAt n line timer
    by None none h = absurd (cc)
    by (Some x) some h =
        let same : (n.line, x) ≡ (line, timer) = same_Some (n.line, x) (line, timer) h in
        record { line_is = ap (λ p. p.0) same; due = some ∙ ap (λ p. Some p.1) same }

-- at a switch it is that of one of its own lines
record IsDueOn (lines : List ℕ) (of_switch : List SwitchLine) (line : ℕ) (timer : TimerId) : Type 0 where
  own : ℕ
  own_line : slice_get lines own ≡ Some line
  due : due_on (slice_get of_switch own) ≡ Some timer

at_switch : (lines : List ℕ) (of_switch : List SwitchLine) (line : ℕ) (timer : TimerId)
    → due_on_lines lines of_switch ≡ Some (line, timer) → IsDueOn lines of_switch line timer
at_switch [] of_switch line timer e = absurd (cc)
at_switch (x ∷ lines) [] line timer e = absurd (cc)
at_switch (x ∷ lines) (l ∷ of_switch) line timer e =
    by (λ h. at_switch lines of_switch line timer h) (packet_end.due l.end) refl e
  where
    later : IsDueOn lines of_switch line timer → IsDueOn (x ∷ lines) (l ∷ of_switch) line timer
    later r = record { own = suc r.own; own_line = r.own_line; due = r.due }

    by : (due_on_lines lines of_switch ≡ Some (line, timer) → IsDueOn lines of_switch line timer) → (o : Option TimerId)
        → packet_end.due l.end ≡ o → first_on x o (due_on_lines lines of_switch) ≡ Some (line, timer)
        → IsDueOn (x ∷ lines) (l ∷ of_switch) line timer
    by others None none h = later (others h)
    by others (Some y) some h =
        let same : (x, y) ≡ (line, timer) = same_Some (x, y) (line, timer) h in
        record { own = 0; own_line = ap (λ p. Some p.0) same; due = some ∙ ap (λ p. Some p.1) same }

-- the event is the expiry of a timer that is due, at its node and on the line of it
record IsDueEvent (s : Network) (e : Event) : Type 0 where
  place : ℕ
  line : ℕ
  timer : TimerId
  is : Expire place line timer ≡ e
  node : NetNode
  there : slice_get s.nodes place ≡ Some node
  due : due_at node ≡ Some (line, timer)

due_event : (s : Network) (e : Event) → net_due s ≡ Some e → IsDueEvent s e
due_event s e h = by (next_due s) refl h
  where
    by : (o : Option DueTimer) → next_due s ≡ o → expiry_of o ≡ Some e → IsDueEvent s e
    by None none x = absurd (cc)
    by (Some d) some x =
        let r = due_there 0 s.nodes d some in
        let here : r.index ≡ d.place = sym (r.at ∙ omega arith) in
        record {
          place = d.place;
          line = d.line;
          timer = d.timer;
          is = cc;
          node = r.node;
          there = subst (λ (i : ℕ). slice_get s.nodes i ≡ Some r.node) here r.there;
          due = r.due;
        }

-- ---- it is no fault

is_within : (line : ℕ) (lines : List ℕ) (own : ℕ) → slice_get lines own ≡ Some line
    → position_or_len (is_line line) lines < length lines
is_within line [] own e = absurd (none-some line e)
is_within line (x ∷ lines) zero e =
    let passes : is_line line x ≡ true = eq-eqb x line (same_Some x line e) in
    let first : position_or_len (is_line line) (x ∷ lines) ≡ 0
    = ap (λ (b : Bool). cond (not b) (1 + position_or_len (is_line line) lines) 0) passes in
    omega arith
is_within line (x ∷ lines) (suc own) e = by (is_line line x) (is_within line lines own e)
  where
    by : (b : Bool) → position_or_len (is_line line) lines < length lines
        → cond (not b) (1 + position_or_len (is_line line) lines) 0 < suc (length lines)
    by true later = omega arith
    by false later = omega arith

is_found : (line : ℕ) (lines : List ℕ) (own : ℕ) → slice_get lines own ≡ Some line
    → is_some (position (is_line line) lines) ≡ true
is_found line lines own at =
    let first : ℕ = position_or_len (is_line line) lines in
    ap (λ (b : Bool). is_some (cond b (Some first) None)) (lt-ltb first (length lines) (is_within line lines own at))

has_due_line : (n : NetNode) (line : ℕ) (timer : TimerId) → due_at n ≡ Some (line, timer) → has_line line n ≡ true
has_due_line (User n) line timer e = eq-eqb n.line line (at_user n line timer e).line_is
has_due_line (Switching n) line timer e =
    let d = at_switch n.lines n.switch.lines line timer e in
    is_found line n.lines d.own d.own_line

no_fault : (s : Network) (place line : ℕ) (timer : TimerId) (n : NetNode) → slice_get s.nodes place ≡ Some n
    → due_at n ≡ Some (line, timer) → step_fault (Expire place line timer) s ≡ None
no_fault s place line timer n there due =
    ap (λ (o : Option NetNode). where_there_is (stands_at line o)) there
    ∙ ap where_there_is (has_due_line n line timer due)

-- ---- how many are due then

fewer_there : (L : LineService) (place line : ℕ) (timer : TimerId) (s : Network) (a : Answer) (t : Network)
    → (n : NetNode) → IsBetweenEvents L s → slice_get s.nodes place ≡ Some n → due_at n ≡ Some (line, timer)
    → ExpireStep L place line timer s a t → all_due t.nodes < all_due s.nodes
fewer_there L place line timer s a t (User n) holds there due (inr d) =
    absurd (not_both n d.does.happened.node (sym there ∙ d.does.happened.node_there))
fewer_there L place line timer s a t (User n) holds there due (inl d) =
    let h = d.does.happened in
    let P : ℕ → Type 0 = λ i. slice_get s.nodes i ≡ Some (User h.node) in
    let at : slice_get s.nodes place ≡ Some (User h.node) = subst P d.own_place h.node_there in
    let same : h.node ≡ n = same_user h.node n (sym at ∙ there) in
    fewer_any L d.end.line d.end.role timer s t holds.any h
    (ap (λ (x : PlacedNode). node_due x.node) same ∙ (at_user n line timer due).due)
fewer_there L place line timer s a t (Switching n) holds there due (inl d) =
    let h = d.does.happened in
    let P : ℕ → Type 0 = λ i. slice_get s.nodes i ≡ Some (User h.node) in
    absurd (not_both h.node n (sym (subst P d.own_place h.node_there) ∙ there))
fewer_there L place line timer s a t (Switching n) holds there due (inr d) =
    let h = d.does.happened in
    let same : h.node ≡ n = same_switch h.node n (sym h.node_there ∙ there) in
    let own = at_switch n.lines n.switch.lines line timer due in
    let stands : StandsAtLines s.lines place n = (standing L s holds).nodes place (Switching n) there in
    let at : slice_get n.lines d.own ≡ Some line
    = ap (λ (x : PlacedSwitch). slice_get x.lines d.own) (sym same) ∙ d.own_line in
    let is_own : own.own ≡ d.own = stands.apart own.own d.own line own.own_line at in
    let due_here : due_on (slice_get h.node.switch.lines d.own) ≡ Some timer =
    ap (λ (x : PlacedSwitch). due_on (slice_get x.switch.lines d.own)) same
    ∙ ap (λ (i : ℕ). due_on (slice_get n.switch.lines i)) (sym is_own) ∙ own.due in
    fewer_at_switch L d.own timer place s t holds.any h due_here

happened : (L : LineService) (s : Network) (e : Event) (d : IsDueEvent s e) (r : Result Answer StepFault) (t : Network)
    → IsBetweenEvents L s → Happens L (Expire d.place d.line d.timer) s r t → r ≢ Err OutOfMemory
    → all_due t.nodes < all_due s.nodes
happened L s e d (Ok a) t n h memory = fewer_there L d.place d.line d.timer s a t d.node n d.there d.due h.1
happened L s e d (Err fault) t n h memory = by h.0
  where
    by : (step_fault (Expire d.place d.line d.timer) s ≡ Some fault)
        ⊎ MayWant (Expire d.place d.line d.timer) s × (fault ≡ OutOfMemory) → all_due t.nodes < all_due s.nodes
    by (inl own) = absurd (let none = no_fault s d.place d.line d.timer d.node d.there d.due in cc)
    by (inr want) = absurd (memory (ap Err want.1))

pub fewer_due : (L : LineService) (e : Event) (s : Network) (r : Result Answer StepFault) (t : Network)
    → IsBetweenEvents L s → Happens L e s r t → FewerDue e s r t
fewer_due L e s r t n h due memory =
    let d = due_event s e due in
    happened L s e d r t n (subst (λ (x : Event). Happens L x s r t) (sym d.is) h) memory
