-- Where nodes stand, and what is at a place of a list.
use Rattle.std.proofs.Common.{◌≡◌, ◌≢◌, ℕ, ◌<◌, zero, suc, List, [], ◌∷◌, length, Some, None, refl, sym, ap, ◌∙◌, subst, arith}
use Rattle.std.specs.Prelude.{slice_get, map, option_map, ◌⊎◌}
use Rattle.std.proofs.Common.{inl, inr}
use Rattle.std.proofs.lemmas.Option.{same_Some, none-some, slice_get-map}
use Rattle.link_timers.specs.declared.role.Role.{Role}
use Rattle.link_timers.specs.declared.role.Role.TheVariants.{Dte, Dce}
use Rattle.net_events.specs.Network.{PlacedNode, NetNode, User, Switching, NetLine, Network, StandsAtLine}
use Rattle.net_nodes.specs.Places.{IsStanding, IsPlaceOf, UserStands, HearsAt, user_in, user_at}
use Rattle.net_node.specs.Node.{user_of}
use Rattle.net_events.proofs.Lists.{within}

pub none_from : {X : Type 0} (xs : List X) (i : ℕ) → (i < length xs → ⊥) → slice_get xs i ≡ None
none_from [] i h = refl
none_from (x ∷ xs) zero h = absurd (h (omega arith))
none_from (x ∷ xs) (suc i) h = none_from xs i (λ k. h (omega (arith, k)))

-- a node of a network that stands has a line
pub has_line : (s : Network) (place : ℕ) (n : PlacedNode) → IsStanding s → slice_get s.nodes place ≡ Some (User n) → n.line < length s.lines
has_line s place n st e = let at : StandsAtLine s.lines place n = st.nodes place (User n) e in within s.lines n.line at.line at.there

pub as_dte : (s : Network) (place : ℕ) (n : PlacedNode) (l : NetLine) → slice_get s.nodes place ≡ Some (User n) → slice_get s.lines n.line ≡ Some l
    → l.dte ≡ place → IsPlaceOf place (record { line = n.line; role = Dte }) s
as_dte s place n l node line e = record { node = n; node_there = node; node_line = refl; line = l; line_there = line; at_end = e }

pub as_dce : (s : Network) (place : ℕ) (n : PlacedNode) (l : NetLine) → IsStanding s → slice_get s.nodes place ≡ Some (User n) → slice_get s.lines n.line ≡ Some l
    → l.dte ≢ place → IsPlaceOf place (record { line = n.line; role = Dce }) s
as_dce s place n l st node line not_dte = record {
  node = n;
  node_there = node;
  node_line = refl;
  line = l;
  line_there = line;
  at_end = by (let at : StandsAtLine s.lines place n = st.nodes place (User n) node in subst (λ (x : NetLine). (x.dte ≡ place) ⊎ (x.dce ≡ place)) (same_Some at.line l (sym at.there ∙ line)) at.at_end);
}
  where
    by : (l.dte ≡ place) ⊎ (l.dce ≡ place) → l.dce ≡ place
    by (inl e) = absurd (not_dte e)
    by (inr e) = e

pub at_line : (place line : ℕ) (role : Role) (s : Network) {k : ℕ} → k ≡ line → IsPlaceOf place (record { line = k; role = role }) s
    → IsPlaceOf place (record { line = line; role = role }) s
at_line place line role s e h = subst (λ i. IsPlaceOf place (record { line = i; role = role }) s) e h

pub mapped : {X Y : Type 0} (f : X → Y) (xs : List X) (i : ℕ) (x : X) → slice_get xs i ≡ Some x → slice_get (map f xs) i ≡ Some (f x)
mapped f xs i x e = slice_get-map f xs i ∙ ap (option_map f) e

-- the node with users of a place
pub user_there : (place : ℕ) (s : Network) (n : PlacedNode) → slice_get s.nodes place ≡ Some (User n) → user_at place s ≡ Some n
user_there place s n e = ap user_in e

-- the node with users that hears on a line, whatever the line is called
pub hears_there : (line : ℕ) (hears role : Role) → role ≡ hears → (s : Network) (l : NetLine) → HearsAt line hears s → slice_get s.lines line ≡ Some l → UserStands s line l role
hears_there line hears role is s l h there =
    let P : NetLine → Type 0 = λ x. UserStands s line x hears in
    let Q : Role → Type 0 = λ r. UserStands s line l r in
    subst Q (sym is) (subst P (same_Some h.line_is l (sym h.line_there ∙ there)) h.stands)

-- a node that has a line of its own is one with users
pub of_user : (m : NetNode) (line : ℕ) → option_map (λ (n : PlacedNode). n.line) (user_of m) ≡ Some line → (n : PlacedNode) × ((m ≡ User n) × (n.line ≡ line))
of_user (User n) line e = (n, (refl, same_Some n.line line e))
of_user (Switching n) line e = absurd (none-some line e)
