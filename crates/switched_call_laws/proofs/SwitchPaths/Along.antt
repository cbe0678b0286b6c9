-- A call that a user placed is in a pair of the register where it is in one of its line's book: also over switches.
use Rattle.std.specs.Prelude.{◌≡◌, ℕ, zero, suc, ◌<◌, ◌≤◌, ◌+◌, ◌⊎◌, true, false, List, [], ◌∷◌, ◌++◌, length, slice_get, Some}
use Rattle.std.proofs.Common.{inl, inr, refl, sym, ap, subst, ◌∙◌, arith}
use Rattle.link_timers.specs.declared.role.Role.{Role}
use Rattle.link_timers.specs.Role.{other_of}
use Rattle.call_records.specs.Records.{HopValue, PairValue}
use Rattle.call_records.specs.Book.{Book}
use Rattle.call_records.specs.Register.{book_at}
use Rattle.record_laws.specs.Books.Headline.{HasCallee}
use Rattle.record_laws.proofs.Books.Placed.{pair_is}
use Rattle.record_laws.proofs.Registers.Having.{callee_seen}
use Rattle.record_laws.proofs.Registers.Seeing.{line_within}
use Rattle.switch_joins.proofs.Apart.{decided}
use Rattle.record_laws.specs.CallPaths.World.{Origin, World, Plan}
use Rattle.record_laws.specs.CallPaths.Seen.{JoinIsSeen, PairCame, Way}
use Rattle.record_laws.specs.CallPaths.Tree.{WayOver}
use Rattle.record_laws.specs.CallPaths.Tree.WayOver.{here, onward}
use Rattle.record_laws.proofs.CallPaths.Path.{hops_bounded}
use Rattle.record_laws.proofs.CallPaths.Hopping.{way_of}
use Rattle.record_laws.proofs.CallPaths.Ending.{ends_seen, placed_along}
use Rattle.switched_call_laws.specs.SwitchPaths.Sight.{Switches, OwnLines, Lines}
use Rattle.switched_call_laws.specs.SwitchPaths.Network.{PlacedCall, GoesOnAccepted, IsNetwork}
use Rattle.switched_call_laws.specs.SwitchPaths.SwitchPathLaws.{PlacedLaw}

length_last : (hops : List HopValue) (hop : HopValue) → length (hops ++ hop ∷ []) ≡ suc (length hops)
length_last [] hop = refl
length_last (x ∷ hops) hop = ap suc (length_last hops hop)

module _ (plan : Plan) (ats : OwnLines) (xs : Switches) (cs : List PlacedCall) (lines : Lines) (books : List Book) (w : World) (traces : List (List Origin)) (i : IsNetwork plan ats xs cs lines books w traces) where
  -- on its way onward the call of this record was accepted by a user
  record IsAccepted (first : ℕ) : Type 0 where
    pub far : ℕ
    pub place : ℕ
    pub callee : ℕ
    pub way : Way w.origins w.joins first far
    pub there : slice_get w.whole.pairs place ≡ Some (record { caller = far; callee = callee })
    pub origin : Origin
    pub made : slice_get w.origins callee ≡ Some origin
    pub user : plan.has_user origin.line origin.role ≡ true

  -- in a tree there are at most 16 hops
  along : (fuel first place : ℕ) (pair : PairValue) (hops : List HopValue) → slice_get w.whole.pairs place ≡ Some pair → WayOver plan w.origins w.joins hops first pair.caller → 17 ≤ fuel + length hops → IsAccepted first
  along zero first place pair hops there way most =
      let few = hops_bounded plan i.switches w hops first pair.caller i.tree i.seen.seen way in
      absurd (omega arith)
  along (suc fuel) first place pair hops there way most =
      go (λ place next more at on most. along fuel first place next more at on most) (decided (plan.has_user c.origin.line c.origin.role))
    where
      c : PairCame plan w.origins i.seen.seen.kinds place pair
      c = i.seen.seen.pairs.came place pair there

      go : ((place : ℕ) (next : PairValue) (more : List HopValue) → slice_get w.whole.pairs place ≡ Some next → WayOver plan w.origins w.joins more first next.caller → 17 ≤ fuel + length more → IsAccepted first)
          → (plan.has_user c.origin.line c.origin.role ≡ true) ⊎ (plan.has_user c.origin.line c.origin.role ≡ false) → IsAccepted first
      go next (inl user) = record {
        far = pair.caller;
        place = place;
        callee = pair.callee;
        way = way_of plan w.origins w.joins hops first pair.caller way;
        there = there ∙ ap (λ (q : PairValue). Some q) (pair_is pair pair.caller pair.callee refl refl);
        origin = c.origin;
        made = c.there;
        user = user;
      }
      go next (inr switch) =
          let g : GoesOnAccepted w pair.callee = i.seen.accepts place pair c.origin there c.there switch in
          let join : JoinIsSeen plan w.origins pair.callee g.far = i.seen.seen.records.joined pair.callee g.far g.joined in
          let hop : HopValue = record { switch = plan.node join.to.line join.to.role; line = join.to.line; channel = 0 } in
          let longer : length (hops ++ hop ∷ []) ≡ suc (length hops) = length_last hops hop in
          next g.place g.pair (hops ++ hop ∷ []) g.there
          (subst (λ (n : ℕ). WayOver plan w.origins w.joins (hops ++ hop ∷ []) first n) (sym g.caller)
          (onward pair.callee g.far join.to 0 way (record { origin = c.origin; there = c.there; came = c.came }) g.joined join.to_there))
          (omega arith)

  placed_here : (line : ℕ) (b : Book) (role : Role) (channel : ℕ) → slice_get books line ≡ Some b → plan.has_user line role ≡ true → HasCallee b role channel → HasCallee (book_at line w.register) role channel
  placed_here line b role channel there user has = elim (decided (plan.has_user line (other_of role))) [
    | inl both ↦ (ends_seen plan w books traces line b role i.seen.seen i.seen.lines there user).placed channel both has
    | inr switch ↦
        (let less : line < length w.whole.lines = line_within w.whole books line b there i.seen.lines.seen in
        let whole : HasCallee (book_at line w.whole) role channel = callee_seen w.whole books line b role channel there i.seen.lines.seen has in
        let enough : 17 ≤ 17 + 0 = omega arith in
        let a : IsAccepted whole.caller = along 17 whole.caller whole.place (record { caller = whole.caller; callee = whole.callee }) [] whole.there here enough in
        placed_along plan w i.seen.seen line role channel less user switch whole a.far a.place a.callee a.way a.there a.origin a.made a.user)
  ]

pub placed_so : PlacedLaw
placed_so plan ats xs cs lines books w traces i line b role channel there user has = placed_here plan ats xs cs lines books w traces i line b role channel there user has
