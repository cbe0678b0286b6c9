-- On a line between two nodes with users the far address of a callee is none.
use Rattle.std.proofs.Common.{◌≡◌, ℕ, zero, suc, ◌≤◌, ◌<◌, true, true≢false, List, [], ◌∷◌, length, Option, Some, None, refl, sym, ap, ◌∙◌, arith}
use Rattle.std.specs.Prelude.{slice_get}
use Rattle.std.proofs.lemmas.Option.{none-some, same_Some, slice_get_within}
use Rattle.link_timers.specs.declared.role.Role.{Role}
use Rattle.link_timers.specs.declared.role.Role.TheVariants.{Dte, Dce}
use Rattle.link_timers.specs.Role.{other_of}
use Rattle.call_records.specs.Records.{RecordValue, HopValue, PairValue}
use Rattle.call_records.specs.Book.{side_of, address_of}
use Rattle.call_records.specs.Register.{book_at}
use Rattle.record_laws.proofs.Books.Basics.{get_there}
use Rattle.record_laws.specs.CallPaths.World.{Plan}
use Rattle.record_laws.specs.CallPaths.PathPromise.{address_at, PathIsRight, PathHolds, PathsHold, IsPlacedAt, by_caller, by_switch}
use Rattle.record_laws.specs.CallPaths.OwnAddresses.{HasOwnAddress}
use Rattle.net_events.specs.Network.{PlacedNode, User, NetLine, Network, place_at}
use Rattle.network_laws.specs.Switched.Histories.{HasUserAt}
use Rattle.network_laws.specs.Switched.Plans.{IsPlanOf}
use Rattle.network_laws.specs.Switched.IsSwitched.{IsAddressed}

pub past : (ls : List NetLine) (n : ℕ) → slice_get ls n ≡ None → length ls ≤ n
past [] n e = omega arith
past (x ∷ xs) zero e = absurd (none-some x (sym e))
past (x ∷ xs) (suc n) e = let rest = past xs n e in omega arith

-- a call that is placed at an end with a user is placed by the caller
placed_near : (plan : Plan) (caller : RecordValue) (first : ℕ) (hops : List HopValue) (line : ℕ) (role : Role) → plan.has_user line role ≡ true → IsPlacedAt plan caller first hops line role → caller.node ≡ plan.node line role
placed_near plan caller first hops line role user (by_caller node own) = node
placed_near plan caller first hops line role user (by_switch from end channel p same none route) = absurd (true≢false (sym user ∙ none))

-- the ends of lines, in the network and in its register
pub record AreEnds (plan : Plan) (s : Network) : Type 0 where
  pub at_line : (line : ℕ) (l : NetLine) (role : Role) (n : PlacedNode) → slice_get s.lines line ≡ Some l
      → slice_get s.nodes (place_at role l) ≡ Some (User n) → n.line ≡ line
  pub dte : (line : ℕ) (l : NetLine) → slice_get s.lines line ≡ Some l → HasUserAt s l Dce → HasUserAt s l Dte
  pub nodes : (line : ℕ) (l : NetLine) (role : Role) → slice_get s.lines line ≡ Some l → (side_of role (book_at line s.register)).node ≡ place_at role l
  pub addresses : (line : ℕ) (l : NetLine) (role : Role) → slice_get s.lines line ≡ Some l → (side_of role (book_at line s.register)).address ≡ address_at plan line role
  pub bare : (line : ℕ) (l : NetLine) (role : Role) → slice_get s.lines line ≡ Some l → HasUserAt s l Dce → (side_of role (book_at line s.register)).address ≡ []

module _ (s : Network) (plan : Plan) (plan_is : IsPlanOf s plan) (paths : PathsHold plan s.register) (a : IsAddressed s) (ends : AreEnds plan s) where
  -- the line of the plan at which a user stands
  line_of : (line other : ℕ) (l : NetLine) (role its : Role) (node : ℕ) → slice_get s.lines line ≡ Some l → node ≡ place_at role l → HasUserAt s l role → node ≡ plan.node other its → other ≡ line
  line_of line other l role its node at here user there = by (slice_get s.lines other) refl
    where
      by : (o : Option NetLine) → slice_get s.lines other ≡ o → other ≡ line
      by (Some m) e =
          let place : place_at its m ≡ place_at role l = sym (plan_is.node other m its e) ∙ sym there ∙ here in
          sym (ends.at_line other m its user.0 e (ap (λ (k : ℕ). slice_get s.nodes k) place ∙ user.1)) ∙ ends.at_line line l role user.0 at user.1
      by None e =
          let within : place_at role l < length s.nodes = slice_get_within s.nodes (place_at role l) (User user.0) user.1 in
          let far : length s.nodes ≤ plan.node other its = plan_is.nowhere other its (past s.lines other e) in
          let same : plan.node other its ≡ place_at role l = sym there ∙ here in
          absurd (omega arith)

  user_at : (line : ℕ) (l : NetLine) (role : Role) → slice_get s.lines line ≡ Some l → HasUserAt s l Dce → HasUserAt s l role
  user_at line l Dte at user = ends.dte line l at user
  user_at line l Dce at user = user

  pub far_none : (i line : ℕ) (pair : PairValue) (callee : RecordValue) (l : NetLine) (role : Role) → slice_get s.register.pairs i ≡ Some pair → slice_get s.register.records pair.callee ≡ Some callee
      → slice_get s.lines line ≡ Some l → callee.node ≡ place_at role l → HasUserAt s l Dce → callee.far ≡ None
  far_none i line pair callee l role there is at node user =
      let h : PathHolds plan s.register pair = paths.pairs_hold i pair there in
      let r : PathIsRight plan h.caller h.callee = h.is_right in
      let same : h.callee ≡ callee = same_Some h.callee callee (sym h.callee_there ∙ is) in
      let own_node : h.callee.node ≡ place_at role l = ap (λ (x : RecordValue). x.node) same ∙ node in
      let on : r.line ≡ line = line_of line r.line l role r.role h.callee.node at own_node (user_at line l role at user) r.node in
      let u : HasUserAt s l (other_of r.role) = user_at line l (other_of r.role) at user in
      let near : h.caller.node ≡ plan.node r.line (other_of r.role) =
      placed_near plan h.caller r.first h.caller.path r.line (other_of r.role) (ap (λ (n : ℕ). plan.has_user n (other_of r.role)) on ∙ plan_is.user line l (other_of r.role) (User u.0) at u.1) r.placed in
      let caller_node : h.caller.node ≡ place_at (other_of r.role) l = near ∙ ap (λ (n : ℕ). plan.node n (other_of r.role)) on ∙ plan_is.node line l (other_of r.role) at in
      let o : HasOwnAddress s.register pair.caller = a.own.pairs i pair there in
      let value : o.value ≡ h.caller = same_Some o.value h.caller (sym o.there ∙ h.caller_there) in
      let m = get_there s.lines o.own.line (let w = o.own.within in let c = a.registered in omega arith) in
      let place : place_at o.own.role m.0 ≡ place_at (other_of r.role) l =
      sym (ends.nodes o.own.line m.0 o.own.role m.1) ∙ sym o.own.at_end ∙ ap (λ (x : RecordValue). x.node) value ∙ caller_node in
      let lines : o.own.line ≡ line =
      sym (ends.at_line o.own.line m.0 o.own.role u.0 m.1 (ap (λ (k : ℕ). slice_get s.nodes k) place ∙ u.1)) ∙ ends.at_line line l (other_of r.role) u.0 at u.1 in
      let none : o.value.own ≡ None =
      o.own.is ∙ ap (λ (n : ℕ). address_of (side_of o.own.role (book_at n s.register)).address) lines ∙ ap address_of (ends.bare line l o.own.role at user) in
      ap (λ (x : RecordValue). x.far) (sym same) ∙ r.far ∙ ap (λ (x : RecordValue). x.own) (sym value) ∙ none
