-- An event at a switch has one answer, and leaves one network.
use Rattle.std.proofs.Common.{◌≡◌, ℕ, suc, List, [], ◌∷◌, set, Some, refl, sym, ap, ◌∙◌, subst, inl, inr}
use Rattle.std.specs.Prelude.{◌⊎◌, slice_get}
use Rattle.std.proofs.lemmas.Option.{same_Some, none-some}
use Rattle.record_laws.proofs.Books.Basics.{number_is}
use Rattle.link_timers.specs.declared.role.Role.{Role}
use Rattle.frame_lines.specs.Lines.{Flights, memory_service}
use Rattle.net_events.specs.AtSwitch.{SwitchEvent, Hears, Expires, Relinks, Restarts, LeftOn, OwnLineServed, LinesServed}
use Rattle.net_events.specs.AtSwitch.{SwitchHappened, switched, switch_drained, joins_of, waiting_on, all_handed}
use Rattle.net_events.specs.OneLine.{direction_of}
use Rattle.net_events.specs.Network.{PlacedSwitch, Switching, NetLine, Network, StandsAtLines, place_at, own_role}
use Rattle.net_events.specs.NodeEvents.{NodeEvent}
use Rattle.net_events.specs.declared.answer.Answer.{Answer}
use Rattle.net_events.proofs.Users.{not_both, same_switch}
use Rattle.net_nodes.specs.Turns.{AtEnd}
use Rattle.node_events.specs.Switching.{all_puts}
use Rattle.net_nodes.specs.Steps.{AtSwitch, OnOwnLine, AtSwitchEnd}
use Rattle.network_laws.proofs.Switched.OwnLines.{own_or_none}
use Rattle.line_sim.specs.Between.{IsBetweenEvents}
use Rattle.line_sim.proofs.CanBeServed.{standing}
use Rattle.run_laws.specs.Determined.{IsSameAnswer}
use Rattle.run_laws.proofs.Puts.{puts_once}

-- lists with the same at each place are the same
pub same_lists : {A : Type 0} (xs ys : List A) → ((i : ℕ) → slice_get xs i ≡ slice_get ys i) → xs ≡ ys
same_lists [] [] same = refl
same_lists [] (y ∷ ys) same = absurd (none-some y (same 0))
same_lists (x ∷ xs) [] same = absurd (none-some x (sym (same 0)))
same_lists (x ∷ xs) (y ∷ ys) same =
    let first : x ≡ y = same_Some x y (same 0) in
    let rest : xs ≡ ys = same_lists xs ys (λ i. same (suc i)) in
    λ i. first i ∷ rest i

-- ---- the lines of a switch

left_once : (event : SwitchEvent) (own : ℕ) (role : Role) (before between other : Flights)
    → LeftOn event own role before between → LeftOn event own role before other → between ≡ other
left_once (Hears at octets) own role before between other p q = elim (number_is own at) [
  | inl here ↦ (p.0 here).1 ∙ sym (q.0 here).1
  | inr away ↦ p.1 away ∙ sym (q.1 away)
]
left_once (Expires at id) own role before between other p q = p ∙ sym q
left_once (Relinks at) own role before between other p q = p ∙ sym q
left_once Restarts own role before between other p q = p ∙ sym q

own_once : (event : SwitchEvent) (own line : ℕ) (role : Role) (frames : List (List ℕ)) (before after other : List NetLine)
    → OwnLineServed memory_service event own line role frames before after
    → OwnLineServed memory_service event own line role frames before other → slice_get after line ≡ slice_get other line
own_once event own line role frames before after other p q =
    let line_is : p.line_is ≡ q.line_is = same_Some p.line_is q.line_is (sym p.line_there ∙ q.line_there) in
    let between : p.between ≡ q.between
    = left_once event own role p.line_is.flights p.between q.between (p.left tt)
    (subst (λ (l : NetLine). LeftOn event own role l.flights q.between) (sym line_is) (q.left tt)) in
    let flights : p.flights ≡ q.flights
    = puts_once frames (direction_of role) p.between q.between p.flights q.flights between (p.put tt) (q.put tt) in
    p.after_there ∙ (λ i. Some (record (line_is i) { flights = flights i })) ∙ sym q.after_there

lines_once : (event : SwitchEvent) (n : PlacedSwitch) (before after other : List NetLine)
    → LinesServed memory_service event n before after → LinesServed memory_service event n before other
    → after ≡ other
lines_once event n before after other p q =
    same_lists after other (λ line. at line (own_or_none n.lines line))
  where
    at : (line : ℕ)
        → ((own : ℕ) × (slice_get n.lines own ≡ Some line)) ⊎ ((own : ℕ) → slice_get n.lines own ≡ Some line → ⊥)
        → slice_get after line ≡ slice_get other line
    at line (inl own) =
        own_once event own.0 line (own_role n.switch own.0) (waiting_on own.0 (switched event n.switch)) before after other
        (p.own_lines own.0 line own.1) (q.own_lines own.0 line own.1)
    at line (inr none) = p.others line none ∙ sym (q.others line none)

-- ---- the network

module _ (event : SwitchEvent) (place : ℕ) (s t u : Network) (h : SwitchHappened memory_service event place s t)
    (k : SwitchHappened memory_service event place s u) where
  pub switch_once : h.node ≡ k.node
  switch_once = same_switch h.node k.node (sym h.node_there ∙ k.node_there)

  nodes_once : t.nodes ≡ u.nodes
  nodes_once =
      h.nodes
      ∙ ap (λ (n : PlacedSwitch).
      set s.nodes place (Switching (record n { switch = switch_drained (switched event n.switch) }))) switch_once
      ∙ sym k.nodes

  register_once : t.register ≡ u.register
  register_once =
      h.register ∙ ap (λ (n : PlacedSwitch). all_handed n.lines (own_role n.switch) (joins_of event n.switch) s.register) switch_once
      ∙ sym k.register

  all_lines_once : t.lines ≡ u.lines
  all_lines_once =
      lines_once event h.node s.lines t.lines u.lines h.lines
      (subst (λ (n : PlacedSwitch). LinesServed memory_service event n s.lines u.lines) (sym switch_once) k.lines)

  switched_once : t ≡ u
  switched_once = λ i. record { nodes = nodes_once i; lines = all_lines_once i; register = register_once i }

pub at_switch_once : (place : ℕ) (event : SwitchEvent) (s t u : Network) (a b : Answer)
    → AtSwitch memory_service place event s a t → AtSwitch memory_service place event s b u
    → IsSameAnswer a b × (t ≡ u)
at_switch_once place event s t u a b p q =
    let node = switch_once event place s t u p.happened q.happened in (
      record {
        frames =
            p.puts ∙ ap (λ (n : PlacedSwitch). all_puts n.lines (switched event n.switch).lines) node ∙ sym q.puts;
        notes = p.notes ∙ sym q.notes;
        text = p.text ∙ sym q.text;
        outcome = p.outcome ∙ sym q.outcome;
      },
      switched_once event place s t u p.happened q.happened,
    )

pub on_line_once : (place line : ℕ) (event : ℕ → SwitchEvent) (s t u : Network) (a b : Answer)
    → IsBetweenEvents memory_service s → OnOwnLine memory_service place line event s a t
    → OnOwnLine memory_service place line event s b u → IsSameAnswer a b × (t ≡ u)
on_line_once place line event s t u a b holds p q =
    let h = p.does.happened in
    let k = q.does.happened in
    let node : h.node ≡ k.node = same_switch h.node k.node (sym h.node_there ∙ k.node_there) in
    let stands : StandsAtLines s.lines place h.node
    = (standing memory_service s holds).nodes place (Switching h.node) h.node_there in
    let own : p.own ≡ q.own
    = stands.apart p.own q.own line p.own_line
    (ap (λ (n : PlacedSwitch). slice_get n.lines q.own) node ∙ q.own_line) in
    at_switch_once place (event p.own) s t u a b p.does
    (subst (λ (i : ℕ). AtSwitch memory_service place (event i) s b u) (sym own) q.does)

-- ---- the switch at an end of a line

pub switch_at : (line : ℕ) (role : Role) (event : ℕ → SwitchEvent) (s : Network) (a : Answer) (t : Network)
    → IsBetweenEvents memory_service s → (p : AtSwitchEnd memory_service line role event s a t) → (l : NetLine)
    → slice_get s.lines line ≡ Some l → place_at role l ≡ p.place
switch_at line role event s a t holds p l at =
    let h = p.there.does.happened in
    let stands : StandsAtLines s.lines p.place h.node
    = (standing memory_service s holds).nodes p.place (Switching h.node) h.node_there in
    let e = stands.each p.there.own line p.there.own_line in
    ap (λ (r : Role). place_at r l) (sym p.role_is)
    ∙ ap (λ (x : NetLine). place_at (own_role h.node.switch p.there.own) x) (same_Some l e.line_is (sym at ∙ e.there))
    ∙ e.at_end

pub at_switch_end_once : (line : ℕ) (role : Role) (event : ℕ → SwitchEvent) (s t u : Network) (a b : Answer)
    → IsBetweenEvents memory_service s → AtSwitchEnd memory_service line role event s a t
    → AtSwitchEnd memory_service line role event s b u → IsSameAnswer a b × (t ≡ u)
at_switch_end_once line role event s t u a b holds p q =
    let h = p.there.does.happened in
    let x = h.lines.own_lines p.there.own line p.there.own_line in
    let place : p.place ≡ q.place
    = sym (switch_at line role event s a t holds p x.line_is x.line_there)
    ∙ switch_at line role event s b u holds q x.line_is x.line_there in
    on_line_once p.place line event s t u a b holds p.there
    (subst (λ (i : ℕ). OnOwnLine memory_service i line event s b u) (sym place) q.there)

-- a node with users and a switch do not both stand at an end
pub not_both_there : (line : ℕ) (role : Role) (happening : NodeEvent) (event : ℕ → SwitchEvent) (s t u : Network) (a b : Answer)
    → IsBetweenEvents memory_service s → AtEnd memory_service (record { line = line; role = role }) happening s a t
    → AtSwitchEnd memory_service line role event s b u → ⊥
not_both_there line role happening event s t u a b holds p q =
    let h = p.happened in
    let k = q.there.does.happened in
    let place : place_at role h.line_is ≡ q.place = switch_at line role event s b u holds q h.line_is h.line_there in
    not_both h.node k.node
    (sym h.node_there ∙ ap (λ (i : ℕ). slice_get s.nodes i) place ∙ k.node_there)
