-- In a tree of switches those of a way are all different: it goes up, and then down.
use Rattle.std.proofs.Math.Dec.{eqb}
use Rattle.std.proofs.Common.{◌≡◌, ℕ, suc, ◌≤◌, ◌<◌, ◌⊎◌, inl, inr, false, List, [], ◌∷◌, ◌++◌, length, Some, refl, sym, ap, subst, ◌∙◌, arith}
use Rattle.std.specs.Prelude.{slice_get}
use Rattle.std.specs.List.{Contains, AllByRecursion, IsDistinct}
use Rattle.std.proofs.lemmas.Option.{same_Some}
use Rattle.std.proofs.lemmas.Cmp.{nat_eq_equiv}
use Rattle.std.proofs.lemmas.Map.Keys.{IsDistinct-cons}
use Rattle.std.proofs.lemmas.Bool.{ne_eqb}
use Rattle.std.proofs.lemmas.List.Elements.{All-from_recursion, All-contains}
use Rattle.std.proofs.lemmas.Bool.Decides.{Decides-eqb}
use Rattle.std.proofs.lemmas.Map.Made.{length-le_from_is_member, is_member-Decides}
use Rattle.link_timers.specs.declared.role.Role.{Role}
use Rattle.link_timers.specs.declared.role.Role.TheVariants.{Dte, Dce}
use Rattle.link_timers.specs.Role.{other_of}
use Rattle.call_records.specs.Records.{HopValue}
use Rattle.record_laws.specs.CallPaths.World.{Origin, placing, World, Plan, ChannelEnd, MayJoin}
use Rattle.record_laws.specs.CallPaths.Seen.{JoinIsSeen, Seen}
use Rattle.record_laws.specs.CallPaths.Tree.{IsTrunk, IsTree, WayOver, HopsLaw, RoomLaw}
use Rattle.record_laws.specs.CallPaths.Tree.WayOver.{here, onward}
use Rattle.record_laws.proofs.CallPaths.Above.Above.{itself}
use Rattle.record_laws.proofs.CallPaths.Above.{Above, above_le, above_up, apart_below}

every : (P Q : ℕ → Type 0) → ((x : ℕ) → P x → Q x) → (xs : List ℕ) → AllByRecursion P xs → AllByRecursion Q xs
every P Q f [] h = tt
every P Q f (x ∷ xs) h = (f x h.0, every P Q f xs h.1)

length_pushed : {X : Type 0} (xs : List X) (x : X) → length (xs ++ x ∷ []) ≡ suc (length xs)
length_pushed [] x = refl
length_pushed (y ∷ ys) x = ap suc (length_pushed ys x)

nothing_apart : IsDistinct eqb []
unfolding IsDistinct
nothing_apart = tt

-- how a call came to a switch, of which it goes onward on a line: there, up over a trunk, when all before were at its DTE
-- or below it, or down over one, when none before was here or below
data Came (plan : Plan) (x onward : ℕ) (before : List ℕ) : Type 0 where
  begins : before ≡ [] → Came plan x onward before
  up : (line : ℕ) → IsTrunk plan line → plan.node line Dce ≡ x → (line ≡ onward → ⊥) → AllByRecursion (λ y. Above plan (plan.node line Dte) y) before → Came plan x onward before
  down : (line : ℕ) → IsTrunk plan line → plan.node line Dte ≡ x → (line ≡ onward → ⊥) → AllByRecursion (λ y. Above plan x y → ⊥) before → Came plan x onward before

-- a call is at a switch, after those before it, the latest first, and all are different
record Passed (plan : Plan) (switches : List ℕ) (x onward : ℕ) (before : List ℕ) : Type 0 where
  pub came : Came plan x onward before
  pub apart : IsDistinct eqb (x ∷ before)
  pub among : AllByRecursion (λ y. Contains switches y) (x ∷ before)

bounded : (plan : Plan) (switches : List ℕ) (x line : ℕ) (before : List ℕ) → Passed plan switches x line before → suc (length before) ≤ length switches
bounded plan switches x line before p =
    length-le_from_is_member nat_eq_equiv (x ∷ before) switches p.apart (λ q m.
    (is_member-Decides Decides-eqb switches q).1
    (All-contains (λ y. Contains switches y) (x ∷ before) q (All-from_recursion (λ y. Contains switches y) (x ∷ before) p.among)
    ((is_member-Decides Decides-eqb (x ∷ before) q).0 m)))

module _ (plan : Plan) (switches : List ℕ) (tree : IsTree plan switches) where
  -- on the way up over a trunk
  all_below : (line : ℕ) (before : List ℕ) → IsTrunk plan line → Came plan (plan.node line Dte) line before → AllByRecursion (λ y. Above plan (plan.node line Dte) y) before
  all_below line before trunk (begins e) = subst (λ (xs : List ℕ). AllByRecursion (λ y. Above plan (plan.node line Dte) y) xs) (sym e) tt
  all_below line before trunk (up l t at apart above) =
      every (λ y. Above plan (plan.node l Dte) y) (λ y. Above plan (plan.node line Dte) y)
      (λ y h. subst (λ (k : ℕ). Above plan k y) at (above_up plan l t (plan.node l Dte) y h refl)) before above
  all_below line before trunk (down l t at apart none) = absurd (apart (tree.one_up l line t trunk at))

  -- and on the way down
  none_below : (line : ℕ) (before : List ℕ) → IsTrunk plan line → Came plan (plan.node line Dce) line before → AllByRecursion (λ y. Above plan (plan.node line Dte) y → ⊥) before
  none_below line before trunk (begins e) = subst (λ (xs : List ℕ). AllByRecursion (λ y. Above plan (plan.node line Dte) y → ⊥) xs) (sym e) tt
  none_below line before trunk (up l t at apart above) =
      every (λ y. Above plan (plan.node l Dte) y) (λ y. Above plan (plan.node line Dte) y → ⊥)
      (λ y h a. apart_below plan switches tree l line y t trunk apart at h a) before above
  none_below line before trunk (down l t at apart none) =
      every (λ y. Above plan (plan.node line Dce) y → ⊥) (λ y. Above plan (plan.node line Dte) y → ⊥)
      (λ y h a. h (above_up plan line trunk (plan.node line Dte) y a refl)) before none

  -- over a trunk, from its other end to this one, and onward on a line
  passes : (line : ℕ) (role : Role) (onward_on : ℕ) (before : List ℕ) → IsTrunk plan line → (line ≡ onward_on → ⊥) → Contains switches (plan.node line role)
      → Passed plan switches (plan.node line (other_of role)) line before → Passed plan switches (plan.node line role) onward_on (plan.node line (other_of role) ∷ before)
  passes line Dce onward_on before trunk ne among p =
      let above = all_below line before trunk p.came in
      let rises = tree.rises line trunk in
      record {
        came = up line trunk refl ne (itself, above);
        apart = IsDistinct-cons eqb (plan.node line Dce) (plan.node line Dte ∷ before) (
          ne_eqb (plan.node line Dce) (plan.node line Dte) (λ e. absurd (omega arith)),
          every (λ y. Above plan (plan.node line Dte) y) (λ y. eqb (plan.node line Dce) y ≡ false)
              (λ y h. ne_eqb (plan.node line Dce) y (λ e. let le = above_le plan switches tree (plan.node line Dte) y h in absurd (omega arith))) before above,
        ) p.apart;
        among = (among, p.among);
      }
  passes line Dte onward_on before trunk ne among p =
      let none = none_below line before trunk p.came in
      let rises = tree.rises line trunk in
      record {
        came = down line trunk refl ne ((λ a. let le = above_le plan switches tree (plan.node line Dte) (plan.node line Dce) a in absurd (omega arith)), none);
        apart = IsDistinct-cons eqb (plan.node line Dte) (plan.node line Dce ∷ before) (
          ne_eqb (plan.node line Dte) (plan.node line Dce) (λ e. absurd (omega arith)),
          every (λ y. Above plan (plan.node line Dte) y → ⊥) (λ y. eqb (plan.node line Dte) y ≡ false)
              (λ y h. ne_eqb (plan.node line Dte) y (λ e. h (subst (λ (k : ℕ). Above plan (plan.node line Dte) k) e itself))) before none,
        ) p.apart;
        among = (among, p.among);
      }

  trunk_at : (line : ℕ) (role : Role) → plan.has_user line role ≡ false → plan.has_user line (other_of role) ≡ false → IsTrunk plan line
  trunk_at line Dte e f = record { dte = e; dce = f }
  trunk_at line Dce e f = record { dte = f; dce = e }

  -- ---- along a way

  -- a way with hops ends where a switch placed the call
  record Stands (os : List Origin) (hops : List HopValue) (b : ℕ) : Type 0 where
    pub origin : Origin
    pub there : slice_get os b ≡ Some origin
    pub switch : plan.has_user origin.line origin.role ≡ false
    pub before : List ℕ
    pub count : length hops ≡ suc (length before)
    pub passed : Passed plan switches (plan.node origin.line origin.role) origin.line before

  -- the call then came to a switch, which places it onward on a line
  record ComesTo (hops : List HopValue) (x onward_on : ℕ) : Type 0 where
    pub before : List ℕ
    pub count : length hops ≡ length before
    pub passed : Passed plan switches x onward_on before

  comes_to : (os : List Origin) (hops : List HopValue) (y line : ℕ) (role : Role) (onward_on : ℕ) → (hops ≡ []) ⊎ Stands os hops y
      → slice_get os y ≡ Some (placing line (other_of role)) → plan.has_user line role ≡ false
      → (plan.has_user line (other_of role) ≡ false → line ≡ onward_on → ⊥) → ComesTo hops (plan.node line role) onward_on
  comes_to os hops y line role onward_on (inl e) at switch ne = record {
    before = [];
    count = ap (λ (hs : List HopValue). length hs) e;
    passed = record { came = begins refl; apart = IsDistinct-cons eqb (plan.node line role) [] tt nothing_apart; among = (tree.at_switch line role switch, tt) };
  }
  comes_to os hops y line role onward_on (inr s) at switch ne =
      let same : s.origin ≡ placing line (other_of role) = same_Some s.origin (placing line (other_of role)) (sym s.there ∙ at) in
      let other : plan.has_user line (other_of role) ≡ false = ap (λ (o : Origin). plan.has_user o.line o.role) (sym same) ∙ s.switch in
      record {
        before = plan.node line (other_of role) ∷ s.before;
        count = s.count;
        passed = passes line role onward_on s.before (trunk_at line role switch other) (ne other) (tree.at_switch line role switch)
            (subst (λ (o : Origin). Passed plan switches (plan.node o.line o.role) o.line s.before) same s.passed);
      }

  module _ (w : World) (seen : Seen plan w) where
    stands : (hops : List HopValue) (x b : ℕ) → WayOver plan w.origins w.joins hops x b → (hops ≡ []) ⊎ Stands w.origins hops b
    stands hops x b here = inl refl
    stands hops x b (onward {hops = earlier} {y = y} a c o channel way came joined there) =
        let j : JoinIsSeen plan w.origins a c = seen.records.joined a c joined in
        let to : j.to ≡ o = same_Some j.to o (sym j.to_there ∙ there) in
        let from : came.origin ≡ j.from = same_Some came.origin j.from (sym came.there ∙ j.from_there) in
        let placer : slice_get w.origins y ≡ Some (placing j.from.line (other_of j.from.role)) =
        seen.records.callers a y j.from j.from_there (ap (λ (p : Origin). p.caller) (sym from) ∙ came.came) in
        let next : ComesTo earlier (plan.node j.from.line j.from.role) j.to.line =
        comes_to w.origins earlier y j.from.line j.from.role j.to.line (stands earlier x y way) placer j.from_switch j.not_back in
        inr (record {
          origin = j.to;
          there = j.to_there;
          switch = j.to_switch;
          before = next.before;
          count = length_pushed earlier (record { switch = plan.node o.line o.role; line = o.line; channel = channel }) ∙ ap suc next.count;
          passed = subst (λ (k : ℕ). Passed plan switches k j.to.line next.before) j.one_switch next.passed;
        })

    few_hops : (hops : List HopValue) (x b : ℕ) → WayOver plan w.origins w.joins hops x b → length hops ≤ 16
    few_hops hops x b way =
        elim (stands hops x b way) [
          | inl e ↦ subst (λ (hs : List HopValue). length hs ≤ 16) (sym e) (omega arith)
          | inr s ↦
              let most = bounded plan switches (plan.node s.origin.line s.origin.role) s.origin.line s.before s.passed in
              let few = tree.few in
              let count = s.count in
              omega arith
        ]

    has_room : (from to : ChannelEnd) (hops : List HopValue) (x : ℕ) → (m : MayJoin plan from to w) → WayOver plan w.origins w.joins hops x m.caller → length hops < 16
    has_room from to hops x m way =
        let placer : slice_get w.origins m.caller ≡ Some (placing from.line (other_of from.role)) =
        ((seen.sides from.line (other_of from.role) m.from_end.there).slot from.channel).placed_origin m.caller m.last in
        let next : ComesTo hops (plan.node from.line from.role) to.line =
        comes_to w.origins hops m.caller from.line from.role to.line (stands hops x m.caller way) placer m.from_end.switch m.not_back in
        let most = bounded plan switches (plan.node from.line from.role) to.line next.before next.passed in
        let few = tree.few in
        let count = next.count in
        omega arith

pub hops_bounded : HopsLaw
hops_bounded plan switches w hops x b tree seen way = few_hops plan switches tree w seen hops x b way

pub hops_room : RoomLaw
hops_room plan switches w from to hops x tree seen m way = has_room plan switches tree w seen from to hops x m way
