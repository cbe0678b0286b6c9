-- What the register promises where the lines and the joins hold.
use Rattle.std.proofs.Common.{◌≡◌, ℕ, zero, suc, ◌+◌, ◌<◌, ◌≤◌, ◌⊎◌, inl, inr, Bool, true, false, List, length, Option, Some, None, refl, sym, ap, ap₂, subst, ◌∙◌, arith}
use Rattle.std.specs.Prelude.{slice_get, map, [], ◌∷◌, ◌++◌}
use Rattle.std.proofs.lemmas.Bool.{cases_Bool}
use Rattle.std.proofs.lemmas.List.{length-append}
use Rattle.std.proofs.lemmas.Option.{none-some, same_Some, slice_get_within}
use Rattle.link_timers.specs.declared.role.Role.{Role}
use Rattle.link_timers.specs.declared.role.Role.TheVariants.{Dte, Dce}
use Rattle.link_timers.specs.Role.{other_of}
use Rattle.epochs.specs.Confirmed.{Confirms}
use Rattle.epochs.specs.ConfirmedLaws.{AreEmpty}
use Rattle.epochs.proofs.Confirms.{confirms_trans}
use Rattle.call_records.specs.Records.{RecordValue, HopValue, PairValue, taken_epochs}
use Rattle.call_records.specs.Register.{LineEnds, found_ends}
use Rattle.record_laws.specs.Words.{IsTakenFrom, IsIn, TookNothing, sent_by, taken_by}
use Rattle.record_laws.proofs.Books.Basics.{get_there, order}
use Rattle.record_laws.specs.Registers.Seen.{positions}
use Rattle.record_laws.specs.CallPaths.PathPromise.{IsOfEnd, address_at, IsPlacedAt, PathHolds, PathsHold}
use Rattle.record_laws.proofs.Registers.Positions.{IsNth, place_of, rises_from}
use Rattle.record_laws.proofs.Registers.Steps.{same_place}
use Rattle.record_laws.specs.CallPaths.World.{Origin, Join, placing, World, Plan, AreAddressed, calling_on}
use Rattle.record_laws.specs.CallPaths.Seen.{kind, numbers, CameFrom, Way, Begins, BeginsIf, own_on, own_of, shown, RecordIsShown, JoinIsSeen, PairIsSeen, PairCame, Seen}
use Rattle.record_laws.specs.CallPaths.Seen.Way.{here, onward}
use Rattle.record_laws.specs.CallPaths.Tree.{WayOver}
use Rattle.record_laws.specs.CallPaths.Tree.WayOver.{here as stands_here, onward as goes_on}
use Rattle.record_laws.specs.CallPaths.Paths.{IsPath, ArePaths}
use Rattle.record_laws.specs.CallPaths.Parts.{CallsHold, JoinsHold, JoinHolds}
use Rattle.record_laws.specs.CallPaths.PathPromise.IsPlacedAt.{by_caller, by_switch}
use Rattle.record_laws.specs.CallPaths.PathLaws.{PromiseLaw}
use Rattle.record_laws.proofs.CallPaths.Ways.{along, from_first, stops, one_callee, one_first, numbered_user, kind_user}
use Rattle.record_laws.proofs.CallPaths.Hopping.{way_of}
use Rattle.record_laws.proofs.CallPaths.Carrying.{line_confirms, Carried, CarriedTo, carried_along, all_confirmed, all_match, empty_of_empty, took_nothing, are_empty}

-- the number of the caller's record does not matter
placed_like : {plan : Plan} {c : RecordValue} {first line : ℕ} {hops : List HopValue} {role : Role} → IsPlacedAt plan c first hops line role → (r : RecordValue) → r.node ≡ c.node → r.far ≡ c.far
    → IsPlacedAt plan r first hops line role
placed_like (by_caller e u) r node far = by_caller (node ∙ e) u
placed_like {plan} {line = line} {role = role} (by_switch from end channel p same switch routed) r node far =
    by_switch from end channel (placed_like p r node far) same switch (ap (λ (d : Option (List ℕ)). plan.route (plan.node line role) d) far ∙ routed)

-- of a call that came in, the register has the own address of the whole one
own_came : (plan : Plan) (o : Origin) (x : ℕ) (given : Option (List ℕ)) → o.caller ≡ Some x → own_of plan o given ≡ given
own_came plan o x given e = ap (λ (k : Option ℕ). own_on o.placed_here k (address_at plan o.line o.role) given) e ∙ at_end o.placed_here where
  at_end : (z : Bool) → own_on z (Some x) (address_at plan o.line o.role) given ≡ given
  at_end true = refl
  at_end false = refl

calling_again : (address : List ℕ) (given : Option (List ℕ)) → calling_on address (calling_on address given) ≡ calling_on address given
calling_again [] given = refl
calling_again (digit ∷ digits) given = refl

-- a way over no hop stays where it begins
pushed_some : (hops : List HopValue) (hop : HopValue) → hops ++ hop ∷ [] ≡ [] → ⊥
pushed_some hops hop e = let some = length-append hops (hop ∷ []) in let none : length (hops ++ hop ∷ []) ≡ 0 = ap length e in omega arith

over_none : {plan : Plan} {origins : List Origin} {joins : List Join} {hops : List HopValue} {x y : ℕ} → WayOver plan origins joins hops x y → hops ≡ [] → x ≡ y
over_none stands_here e = refl
over_none (goes_on {hops = hops} a b o channel way came join at) e = absurd (pushed_some hops _ e)

module _ (plan : Plan) (w : World) (s : Seen plan w) where
  -- the pair of the whole register whose callee is a user's, in the register
  pub record PairFor (i : ℕ) (whole : PairValue) : Type 0 where
    pub place : ℕ
    pub pair : PairValue
    pub there : slice_get w.register.pairs place ≡ Some pair
    pub callee : slice_get (numbers plan w.origins) pair.callee ≡ Some whole.callee
    pub caller : Begins plan w.origins w.joins pair.caller whole.caller

  pub pair_for : (i : ℕ) (whole : PairValue) → slice_get w.whole.pairs i ≡ Some whole → (c : PairCame plan w.origins s.kinds i whole)
      → plan.has_user c.origin.line c.origin.role ≡ true → PairFor i whole
  pair_for i whole at c user =
      let q : IsNth (positions 1 s.kinds) i = place_of 1 s.kinds i (c.of_kind ∙ ap (λ (k : ℕ). Some k) (kind_user plan c.origin user)) in
      let p : PairIsSeen plan w.origins w.joins w.register.pairs w.whole.pairs q.place i = s.pairs.pairs q.place i q.there in
      let same : p.whole_pair ≡ whole = same_Some p.whole_pair whole (sym p.whole_there ∙ at) in
      record {
        place = q.place;
        pair = p.seen_pair;
        there = p.seen_there;
        callee = p.callee ∙ ap (λ (z : PairValue). Some z.callee) same;
        caller = subst (λ (z : PairValue). Begins plan w.origins w.joins p.seen_pair.caller z.caller) same p.caller;
      }

module _ (plan : Plan) (w : World) (addressed : AreAddressed plan) (s : Seen plan w) (paths : ArePaths plan w) (calls : CallsHold w) (joins : JoinsHold plan w) where
  -- ---- pairs of the two registers

  record PairOf (q : ℕ) (pair : PairValue) : Type 0 where
    pub place : ℕ
    pub numbered : slice_get (positions 1 s.kinds) q ≡ Some place
    pub whole : PairValue
    pub whole_there : slice_get w.whole.pairs place ≡ Some whole
    pub callee : slice_get (numbers plan w.origins) pair.callee ≡ Some whole.callee
    pub caller : Begins plan w.origins w.joins pair.caller whole.caller
    pub came : PairCame plan w.origins s.kinds place whole

  pair_of : (q : ℕ) (pair : PairValue) → slice_get w.register.pairs q ≡ Some pair → PairOf q pair
  pair_of q pair at =
      let less : q < length (positions 1 s.kinds) = subst (λ (k : ℕ). q < k) s.pairs.seen_count (slice_get_within w.register.pairs q pair at) in
      let place = get_there (positions 1 s.kinds) q less in
      let p : PairIsSeen plan w.origins w.joins w.register.pairs w.whole.pairs q place.0 = s.pairs.pairs q place.0 place.1 in
      let same : p.seen_pair ≡ pair = same_Some p.seen_pair pair (sym p.seen_there ∙ at) in
      record {
        place = place.0;
        numbered = place.1;
        whole = p.whole_pair;
        whole_there = p.whole_there;
        callee = ap (λ (x : PairValue). slice_get (numbers plan w.origins) x.callee) (sym same) ∙ p.callee;
        caller = subst (λ (x : PairValue). Begins plan w.origins w.joins x.caller p.whole_pair.caller) same p.caller;
        came = s.pairs.came place.0 p.whole_pair p.whole_there;
      }

  came_from : (q : ℕ) (pair : PairValue) (p : PairOf q pair) → CameFrom w.origins p.whole.callee p.whole.caller
  came_from q pair p = record { origin = p.came.origin; there = p.came.there; came = p.came.came }

  -- the callee's record names the one at the beginning of the way
  named_first : (q : ℕ) (pair : PairValue) (p : PairOf q pair) (o whole : Option ℕ) → BeginsIf plan w.origins w.joins o whole → whole ≡ Some p.whole.caller → o ≡ Some pair.caller
  named_first q pair p None None b e = absurd (none-some p.whole.caller e)
  named_first q pair p (Some n) None b e = absurd b
  named_first q pair p None (Some last) b e = absurd b
  named_first q pair p (Some n) (Some last) b e =
      let same : last ≡ p.whole.caller = same_Some last p.whole.caller e in
      let first : b.first ≡ p.caller.first =
      one_first plan w.origins w.joins s.records.placed_once s.records.joined b.first p.whole.caller
      (subst (λ (k : ℕ). Way w.origins w.joins b.first k) same b.way) p.caller.first p.caller.way
      (record { number = n; numbered = b.numbered }) (record { number = pair.caller; numbered = p.caller.numbered }) in
      ap (λ (k : ℕ). Some k) (same_place 1 (map (kind plan) w.origins) n pair.caller b.first b.numbered (p.caller.numbered ∙ ap (λ (k : ℕ). Some k) (sym first)))

  -- ---- each pair holds

  ordered : (x y n k : ℕ) → slice_get (numbers plan w.origins) n ≡ Some x → slice_get (numbers plan w.origins) k ≡ Some y → x < y → n < k
  ordered x y n k at there less =
      elim (order k n) [
        | inr h ↦ h
        | inl h ↦ elim (order n k) [
          | inl e ↦
              let same : n ≡ k = omega arith in
              let equal : x ≡ y = same_Some x y (sym at ∙ ap (λ (i : ℕ). slice_get (numbers plan w.origins) i) same ∙ there) in
              absurd (omega arith)
          | inr e ↦
              let more = rises_from 0 1 (map (kind plan) w.origins) k n y x there at e in
              absurd (omega arith)
        ]
      ]

  record_number : (x : ℕ) (r : RecordValue) → slice_get w.whole.records x ≡ Some r → r.number ≡ x
  record_number x r at = calls.register.paired.numbers x r at

  caller_first : (a x : ℕ) → CameFrom w.origins a x → x < a
  caller_first a x came =
      let h = calls.came a x came in
      let less : h.caller.number < h.callee.number = h.is_right.order in
      let caller : h.caller.number ≡ x = record_number x h.caller h.caller_there in
      let callee : h.callee.number ≡ a = record_number a h.callee h.callee_there in
      omega arith

  no_later : (x b : ℕ) → Way w.origins w.joins x b → x ≤ b
  no_later x b here = omega arith
  no_later x b (onward {y = y} a c way came joined) =
      let rest = no_later x y way in
      let less = caller_first a y came in
      let j : JoinIsSeen plan w.origins a b = s.records.joined a b joined in
      let next = j.order in
      omega arith

  -- the calling address on the way: that of the caller's record at its own end; at a switch's that of its line
  data CallingAt (first : Origin) (x b : RecordValue) (o : Origin) : Type 0 where
    at_caller : b.own ≡ x.own → o ≡ first → CallingAt first x b o
    at_switch : b.own ≡ calling_on (plan.address first.line) x.own → plan.has_user o.line o.role ≡ false → CallingAt first x b o

  no_users : (line : ℕ) (role : Role) → plan.has_user line role ≡ false → plan.has_user line (other_of role) ≡ false → plan.address line ≡ []
  no_users line Dte e f = addressed line (inl e)
  no_users line Dce e f = addressed line (inl f)

  only_users : (line : ℕ) (role : Role) → plan.has_user line role ≡ true → plan.has_user line (other_of role) ≡ true → plan.address line ≡ []
  only_users line Dte e f = addressed line (inr f)
  only_users line Dce e f = addressed line (inr e)

  calling_handed : (first : Origin) (x y b : RecordValue) (line : ℕ) (role : Role) (o : Origin) → CallingAt first x y (placing line (other_of role))
      → plan.has_user line role ≡ false → plan.has_user o.line o.role ≡ false → b.own ≡ calling_on (plan.address line) y.own → CallingAt first x b o
  calling_handed first x y b line role o (at_caller e same) from to own =
      at_switch (own ∙ ap (λ (a : Option (List ℕ)). calling_on (plan.address line) a) e ∙ ap (λ (p : Origin). calling_on (plan.address p.line) x.own) same) to
  calling_handed first x y b line role o (at_switch e switch) from to own =
      at_switch (own ∙ ap (λ (a : List ℕ). calling_on a y.own) (no_users line role from switch) ∙ e) to

  calling_at : (x b : ℕ) → Way w.origins w.joins x b → (first : Origin) → slice_get w.origins x ≡ Some first → (r : RecordValue) → slice_get w.whole.records x ≡ Some r
      → (o : Origin) → slice_get w.origins b ≡ Some o → (q : RecordValue) → slice_get w.whole.records b ≡ Some q → CallingAt first r q o
  calling_at = along w.origins w.joins
      (λ x b. (first : Origin) → slice_get w.origins x ≡ Some first → (r : RecordValue) → slice_get w.whole.records x ≡ Some r
      → (o : Origin) → slice_get w.origins b ≡ Some o → (q : RecordValue) → slice_get w.whole.records b ≡ Some q → CallingAt first r q o)
      (λ x first begins r there o at q is. at_caller (ap (λ (p : RecordValue). p.own) (same_Some q r (sym is ∙ there))) (same_Some o first (sym at ∙ begins)))
      (λ x y a b way before came joined first begins r there o at q is.
      let j : JoinIsSeen plan w.origins a b = s.records.joined a b joined in
      let k : JoinHolds plan w a b = joins.joins a b joined in
      let from : came.origin ≡ j.from = same_Some came.origin j.from (sym came.there ∙ j.from_there) in
      let origin : slice_get w.origins y ≡ Some (placing j.from.line (other_of j.from.role)) =
      s.records.callers a y j.from j.from_there (ap (λ (p : Origin). p.caller) (sym from) ∙ came.came) in
      let h = calls.came a y came in
      let callee : h.callee ≡ k.from = same_Some h.callee k.from (sym h.callee_there ∙ k.from_there) in
      let to : k.to ≡ q = same_Some k.to q (sym k.to_there ∙ is) in
      calling_handed first r h.caller q j.from.line j.from.role o (before first begins r there (placing j.from.line (other_of j.from.role)) origin h.caller h.caller_there)
      j.from_switch (ap (λ (p : Origin). plan.has_user p.line p.role) (sym (same_Some j.to o (sym j.to_there ∙ at))) ∙ j.to_switch)
      (ap (λ (p : RecordValue). p.own) (sym to) ∙ k.own j.from j.from_there
      ∙ ap (λ (p : RecordValue). calling_on (plan.address j.from.line) p.far) (sym callee)
      ∙ ap (λ (d : Option (List ℕ)). calling_on (plan.address j.from.line) d) h.is_right.far))

  -- to a user's end the call comes with that of the caller's line
  calling_to_user : (first : Origin) (x b : RecordValue) (line : ℕ) (role : Role) → CallingAt first x b (placing line (other_of role))
      → plan.has_user line role ≡ true → plan.has_user first.line first.role ≡ true → b.own ≡ calling_on (plan.address first.line) x.own
  calling_to_user first x b line role (at_switch e switch) user caller = e
  calling_to_user first x b line role (at_caller e same) user caller =
      let other : plan.has_user line (other_of role) ≡ true = ap (λ (p : Origin). plan.has_user p.line p.role) same ∙ caller in
      let none : plan.address first.line ≡ [] = ap (λ (p : Origin). plan.address p.line) (sym same) ∙ only_users line role user other in
      e ∙ ap (λ (a : List ℕ). calling_on a x.own) (sym none)

  -- the record of each end on the way is where the call was placed
  placed_at : (hops : List HopValue) (x b : ℕ) → WayOver plan w.origins w.joins hops x b → (begin_ : Origin) → slice_get w.origins x ≡ Some begin_ → plan.has_user begin_.line begin_.role ≡ true
      → (first : RecordValue) → slice_get w.whole.records x ≡ Some first → (o : Origin) → slice_get w.origins b ≡ Some o → IsPlacedAt plan first begin_.line hops o.line o.role
  placed_at hops x b stands_here begin_ begins user first there o at =
      subst (λ (p : Origin). IsPlacedAt plan first begin_.line [] p.line p.role) (same_Some begin_ o (sym begins ∙ at)) (by_caller (s.records.nodes x begin_ first begins there) user)
  placed_at hops x b (goes_on {hops = earlier} {y = y} a c p channel way came joined its) begin_ begins user first there o at =
      let j : JoinIsSeen plan w.origins a c = s.records.joined a c joined in
      let r : JoinHolds plan w a c = joins.joins a c joined in
      let to : j.to ≡ p = same_Some j.to p (sym j.to_there ∙ its) in
      let from : came.origin ≡ j.from = same_Some came.origin j.from (sym came.there ∙ j.from_there) in
      let origin : slice_get w.origins y ≡ Some (placing j.from.line (other_of j.from.role)) =
      s.records.callers a y j.from j.from_there (ap (λ (q : Origin). q.caller) (sym from) ∙ came.came) in
      let carried : CarriedTo w first c = carried_along plan w calls joins x c (onward a c (way_of plan w.origins w.joins earlier x y way) came joined) first there in
      let same : r.to ≡ carried.record_ = same_Some r.to carried.record_ (sym r.to_there ∙ carried.there) in
      let node : r.to.node ≡ plan.node p.line p.role = s.records.nodes c p r.to its r.to_there in
      subst (λ (q : Origin). IsPlacedAt plan first begin_.line (earlier ++ record { switch = plan.node p.line p.role; line = p.line; channel = channel } ∷ []) q.line q.role) (same_Some p o (sym its ∙ at))
      (by_switch j.from.line j.from.role channel (placed_at earlier x y way begin_ begins user first there (placing j.from.line (other_of j.from.role)) origin)
      (j.one_switch ∙ ap (λ (q : Origin). plan.node q.line q.role) to)
      (ap (λ (q : Origin). plan.has_user q.line q.role) (sym to) ∙ j.to_switch)
      (ap (λ (d : Option (List ℕ)). plan.route (plan.node p.line p.role) d) (sym (ap (λ (q : RecordValue). q.far) same ∙ carried.carried.far))
      ∙ (ap (λ (n : ℕ). plan.route n r.to.far) (sym node) ∙ r.routed p its)))

  -- where a call was placed by a user, the register has the address of the line
  user_address : (o : Origin) → plan.has_user o.line o.role ≡ true → address_at plan o.line o.role ≡ plan.address o.line
  user_address o user = at_role o.role user where
    at_role : (role : Role) → plan.has_user o.line role ≡ true → address_at plan o.line role ≡ plan.address o.line
    at_role Dte at = refl
    at_role Dce at = sym (addressed o.line (inr at))

  own_placed : (o : Origin) (given : Option (List ℕ)) → plan.has_user o.line o.role ≡ true → (o.caller ≡ None) × (o.placed_here ≡ true)
      → own_of plan o given ≡ calling_on (plan.address o.line) given
  own_placed o given user placed =
      ap₂ (λ (z : Bool) (k : Option ℕ). own_on z k (address_at plan o.line o.role) given) placed.1 placed.0 ∙ ap (λ (a : List ℕ). calling_on a given) (user_address o user)

  -- the first record of a way is that of a call that was placed
  first_placed : (x b y : ℕ) → Way w.origins w.joins x b → CameFrom w.origins y b → (o : Origin) → slice_get w.origins x ≡ Some o → (o.caller ≡ None) × (o.placed_here ≡ true)
  first_placed x b y way came o at =
      elim (from_first w.origins w.joins x b way) [
        | inl e ↦
            let before = s.records.callers y b came.origin came.there came.came in
            of_placing came.origin.line (other_of came.origin.role) (sym (same_Some o (placing came.origin.line (other_of came.origin.role))
            (sym at ∙ ap (λ (k : ℕ). slice_get w.origins k) e ∙ before)))
        | inr f ↦
            let before = s.records.callers f.callee x f.came.origin f.came.there f.came.came in
            of_placing f.came.origin.line (other_of f.came.origin.role) (sym (same_Some o (placing f.came.origin.line (other_of f.came.origin.role)) (sym at ∙ before)))
      ]
    where
      of_placing : (line : ℕ) (role : Role) → placing line role ≡ o → (o.caller ≡ None) × (o.placed_here ≡ true)
      of_placing line role e = (ap (λ (z : Origin). z.caller) (sym e), ap (λ (z : Origin). z.placed_here) (sym e))

  pair_holds : (q : ℕ) (pair : PairValue) → slice_get w.register.pairs q ≡ Some pair → PathHolds plan w.register pair
  pair_holds q pair at =
      let p : PairOf q pair = pair_of q pair at in
      let x : ℕ = p.caller.first in
      let y : ℕ = p.whole.callee in
      let from : RecordIsShown plan w.origins w.joins w.register.records w.whole.records pair.caller x = s.records.records pair.caller x p.caller.numbered in
      let to : RecordIsShown plan w.origins w.joins w.register.records w.whole.records pair.callee y = s.records.records pair.callee y p.callee in
      let caller_shown : RecordValue = shown plan from.origin pair.caller from.caller from.path from.value in
      let callee_shown : RecordValue = shown plan to.origin pair.callee to.caller to.path to.value in
      let h = calls.came y p.whole.caller (came_from q pair p) in
      let c : CarriedTo w from.value p.whole.caller = carried_along plan w calls joins x p.whole.caller p.caller.way from.value from.whole_there in
      let caller : h.caller ≡ c.record_ = same_Some h.caller c.record_ (sym h.caller_there ∙ c.there) in
      let callee : h.callee ≡ to.value = same_Some h.callee to.value (sym h.callee_there ∙ to.whole_there) in
      let carried : Carried from.value h.caller = subst (λ (r : RecordValue). Carried from.value r) (sym caller) c.carried in
      let on : Confirms (taken_by to.value) (sent_by from.value) =
      subst (λ (r : RecordValue). Confirms (taken_by r) (sent_by from.value)) callee
      (confirms_trans carried.onward (taken_by h.callee) (line_confirms h.caller h.callee h.matches.onward_aligned)) in
      let back : Confirms (taken_by from.value) (sent_by to.value) =
      subst (λ (r : RecordValue). Confirms (taken_by from.value) (sent_by r)) callee
      (confirms_trans (line_confirms h.callee h.caller h.matches.backward_aligned) (taken_by from.value) carried.backward) in
      let user : plan.has_user from.origin.line from.origin.role ≡ true = numbered_user plan w.origins pair.caller x from.origin p.caller.numbered from.origin_there in
      let placer : slice_get w.origins p.whole.caller ≡ Some (placing p.came.origin.line (other_of p.came.origin.role)) =
      s.records.callers y p.whole.caller p.came.origin p.came.there p.came.came in
      let own : caller_shown.own ≡ calling_on (plan.address from.origin.line) from.value.own =
      own_placed from.origin from.value.own user (first_placed x p.whole.caller y p.caller.way (came_from q pair p) from.origin from.origin_there) in
      let origin : to.origin ≡ p.came.origin = same_Some to.origin p.came.origin (sym to.origin_there ∙ p.came.there) in
      let path : IsPath plan w.origins w.joins x from.path = paths pair.caller x caller_shown p.caller.numbered from.seen_there in
      let tip : p.whole.caller ≡ path.tip =
      stops plan w.origins w.joins calls.once s.records.joined p.whole.caller path.tip y pair.callee (path.all p.whole.caller p.caller.way) (came_from q pair p) p.callee in
      let over : WayOver plan w.origins w.joins from.path x p.whole.caller = subst (λ (k : ℕ). WayOver plan w.origins w.joins from.path x k) (sym tip) path.way in
      let less : x < y =
      let first = no_later x p.whole.caller p.caller.way in
      let last = caller_first y p.whole.caller (came_from q pair p) in omega arith in
      record {
        caller = caller_shown;
        callee = callee_shown;
        caller_there = from.seen_there;
        callee_there = to.seen_there;
        named = named_first q pair p to.caller to.value.caller to.begins (s.records.named y p.came.origin to.value p.came.there to.whole_there ∙ p.came.came);
        matches = record {
          onward = all_match to.value from.value on;
          backward = all_match from.value to.value back;
          onward_confirmed = all_confirmed to.value from.value on;
          backward_confirmed = all_confirmed from.value to.value back;
        };
        direct = λ none.
            let first : h.caller ≡ from.value =
            same_Some h.caller from.value (sym h.caller_there ∙ ap (λ (n : ℕ). slice_get w.whole.records n) (sym (over_none over none)) ∙ from.whole_there) in (
              subst (λ (r : RecordValue). IsTakenFrom r to.value) first (subst (λ (r : RecordValue). IsTakenFrom h.caller r) callee h.matches.onward_aligned),
              subst (λ (r : RecordValue). IsTakenFrom to.value r) first (subst (λ (r : RecordValue). IsTakenFrom r h.caller) callee h.matches.backward_aligned),
            );
        is_right = record {
          order = ordered x y pair.caller pair.callee p.caller.numbered p.callee less;
          own =
              own_came plan to.origin p.whole.caller to.value.own (ap (λ (o : Origin). o.caller) origin ∙ p.came.came)
              ∙ ap (λ (r : RecordValue). r.own) (sym callee) ∙ h.is_right.own ∙ carried.far;
          first = from.origin.line;
          far =
              ap (λ (r : RecordValue). r.far) (sym callee)
              ∙ h.is_right.far
              ∙ calling_to_user from.origin from.value h.caller p.came.origin.line p.came.origin.role
              (calling_at x p.whole.caller p.caller.way from.origin from.origin_there from.value from.whole_there (placing p.came.origin.line (other_of p.came.origin.role))
              placer h.caller h.caller_there)
              (numbered_user plan w.origins pair.callee y p.came.origin p.callee p.came.there) user
              ∙ sym own;
          calling = own ∙ sym (calling_again (plan.address from.origin.line) from.value.own) ∙ ap (λ (d : Option (List ℕ)). calling_on (plan.address from.origin.line) d) (sym own);
          line = p.came.origin.line;
          role = p.came.origin.role;
          node = s.records.nodes y p.came.origin to.value p.came.there to.whole_there;
          user = numbered_user plan w.origins pair.callee y p.came.origin p.callee p.came.there;
          placed = placed_like
              (placed_at from.path x p.whole.caller over from.origin from.origin_there user from.value from.whole_there (placing p.came.origin.line (other_of p.came.origin.role)) placer)
              caller_shown refl refl;
        };
      }

  -- ---- numbers and nodes

  end_there : (node : ℕ) (h : IsOfEnd w.whole node) → h.line < length w.whole.lines → IsOfEnd w.register node
  end_there node h within =
      let ends = get_there w.register.lines h.line (subst (λ (k : ℕ). h.line < k) (sym s.lines) within) in
      record { line = h.line; line_ends = ends.0; line_there = ends.1; at_end = one_of ends.0 ends.1 h.at_end }
    where
      one_of : (ends : LineEnds) → slice_get w.register.lines h.line ≡ Some ends → (node ≡ h.line_ends.dte.node) ⊎ (node ≡ h.line_ends.dce.node)
          → (node ≡ ends.dte.node) ⊎ (node ≡ ends.dce.node)
      one_of ends there (inl e) = inl (e ∙ ap (λ (o : Option LineEnds). (found_ends o).dte.node) (sym h.line_there) ∙ (s.sides h.line Dte within).whole_node
          ∙ sym (s.sides h.line Dte within).seen_node ∙ ap (λ (o : Option LineEnds). (found_ends o).dte.node) there)
      one_of ends there (inr e) = inr (e ∙ ap (λ (o : Option LineEnds). (found_ends o).dce.node) (sym h.line_there) ∙ (s.sides h.line Dce within).whole_node
          ∙ sym (s.sides h.line Dce within).seen_node ∙ ap (λ (o : Option LineEnds). (found_ends o).dce.node) there)

  nodes : (n : ℕ) (r : RecordValue) → slice_get w.register.records n ≡ Some r → IsOfEnd w.register r.node
  nodes n r at =
      let less : n < length (numbers plan w.origins) = subst (λ (k : ℕ). n < k) s.records.seen_count (slice_get_within w.register.records n r at) in
      let m = get_there (numbers plan w.origins) n less in
      let seen : RecordIsShown plan w.origins w.joins w.register.records w.whole.records n m.0 = s.records.records n m.0 m.1 in
      let same : shown plan seen.origin n seen.caller seen.path seen.value ≡ r = same_Some (shown plan seen.origin n seen.caller seen.path seen.value) r (sym seen.seen_there ∙ at) in
      let h : IsOfEnd w.whole seen.value.node = calls.register.nodes m.0 seen.value seen.whole_there in
      let within : h.line < length w.whole.lines = slice_get_within w.whole.lines h.line h.line_ends h.line_there in
      subst (λ (v : RecordValue). IsOfEnd w.register v.node) same (end_there seen.value.node h within)

  -- ---- a record is in at most one pair

  one_place : (i j : ℕ) (p q : PairValue) (a : PairOf i p) (c : PairOf j q) → a.whole.callee ≡ c.whole.callee → i ≡ j
  one_place i j p q a c same =
      let place : a.place ≡ c.place = calls.register.paired.in_one a.place c.place a.whole c.whole c.whole.callee a.whole_there c.whole_there (inr same) (inr refl) in
      same_place 1 s.kinds i j a.place a.numbered (c.numbered ∙ ap (λ (k : ℕ). Some k) (sym place))

  same_callee : (i j : ℕ) (p q : PairValue) (a : PairOf i p) (c : PairOf j q) → p.callee ≡ q.callee → i ≡ j
  same_callee i j p q a c e =
      one_place i j p q a c (same_Some a.whole.callee c.whole.callee (sym a.callee ∙ ap (λ (k : ℕ). slice_get (numbers plan w.origins) k) e ∙ c.callee))

  same_caller : (i j : ℕ) (p q : PairValue) (a : PairOf i p) (c : PairOf j q) → p.caller ≡ q.caller → i ≡ j
  same_caller i j p q a c e =
      let first : c.caller.first ≡ a.caller.first =
      same_Some c.caller.first a.caller.first (sym c.caller.numbered ∙ ap (λ (k : ℕ). slice_get (numbers plan w.origins) k) (sym e) ∙ a.caller.numbered) in
      one_place i j p q a c
      (one_callee plan w.origins w.joins calls.once s.records.joined_once s.records.joined a.caller.first a.whole.caller c.whole.caller a.whole.callee c.whole.callee p.callee q.callee
      a.caller.way (subst (λ (k : ℕ). Way w.origins w.joins k c.whole.caller) first c.caller.way) (came_from i p a) (came_from j q c) a.callee c.callee)

  none_here : (o : Option ℕ) (b : ℕ) → o ≡ None → o ≡ Some b → ⊥
  none_here o b e f = none-some b (sym e ∙ f)

  not_both : (i j : ℕ) (p q : PairValue) (a : PairOf i p) (c : PairOf j q) → p.caller ≡ q.callee → ⊥
  not_both i j p q a c e =
      let same : a.caller.first ≡ c.whole.callee =
      same_Some a.caller.first c.whole.callee (sym a.caller.numbered ∙ ap (λ (k : ℕ). slice_get (numbers plan w.origins) k) e ∙ c.callee) in
      let none : c.came.origin.caller ≡ None =
      (first_placed a.caller.first a.whole.caller a.whole.callee a.caller.way (came_from i p a) c.came.origin (ap (λ (k : ℕ). slice_get w.origins k) same ∙ c.came.there)).0 in
      none_here c.came.origin.caller c.whole.caller none c.came.came

  in_one : (i j : ℕ) (p q : PairValue) (number : ℕ) → slice_get w.register.pairs i ≡ Some p → slice_get w.register.pairs j ≡ Some q → IsIn p number → IsIn q number → i ≡ j
  in_one i j p q number at there (inl x) (inl y) = same_caller i j p q (pair_of i p at) (pair_of j q there) (x ∙ sym y)
  in_one i j p q number at there (inr x) (inr y) = same_callee i j p q (pair_of i p at) (pair_of j q there) (x ∙ sym y)
  in_one i j p q number at there (inl x) (inr y) = absurd (not_both i j p q (pair_of i p at) (pair_of j q there) (x ∙ sym y))
  in_one i j p q number at there (inr x) (inl y) = absurd (not_both j i q p (pair_of j q there) (pair_of i p at) (y ∙ sym x))

  -- ---- a record that took anything is in a pair

  abbrev InPair : ℕ → Type 0
  InPair n = (i : ℕ) × (p : PairValue) × (slice_get w.register.pairs i ≡ Some p) × IsIn p n

  -- where nothing was sent on a call that came in, or nothing taken on the call with which it was placed onward, nothing
  -- was taken at the end that placed it
  nothing_back : (y b : ℕ) (rb ry : RecordValue) → CameFrom w.origins y b → slice_get w.whole.records b ≡ Some rb → slice_get w.whole.records y ≡ Some ry
      → AreEmpty (sent_by ry) → AreEmpty (taken_by rb)
  nothing_back y b rb ry came at there none =
      let h = calls.came y b came in
      let caller : h.caller ≡ rb = same_Some h.caller rb (sym h.caller_there ∙ at) in
      let callee : h.callee ≡ ry = same_Some h.callee ry (sym h.callee_there ∙ there) in
      let taken : Confirms (taken_by rb) (sent_by ry) =
      subst (λ (q : RecordValue). Confirms (taken_by rb) (sent_by q)) callee
      (subst (λ (q : RecordValue). Confirms (taken_by q) (sent_by h.callee)) caller (line_confirms h.callee h.caller h.matches.backward_aligned)) in
      empty_of_empty taken none

  nothing_over : (y b c : ℕ) (rb : RecordValue) → CameFrom w.origins y b → slice_get w.whole.records b ≡ Some rb → (j : JoinHolds plan w y c)
      → AreEmpty (taken_by j.to) → AreEmpty (taken_by rb)
  nothing_over y b c rb came at j none = nothing_back y b rb j.from came at j.from_there (empty_of_empty j.backward none)

  for_user : (i : ℕ) (whole : PairValue) (n x : ℕ) → PairFor plan w s i whole → slice_get (numbers plan w.origins) n ≡ Some x → Way w.origins w.joins x whole.caller → InPair n
  for_user i whole n x p at way =
      let first : p.caller.first ≡ x =
      one_first plan w.origins w.joins s.records.placed_once s.records.joined p.caller.first whole.caller p.caller.way x way
      (record { number = p.pair.caller; numbered = p.caller.numbered }) (record { number = n; numbered = at }) in
      let same : p.pair.caller ≡ n = same_place 1 (map (kind plan) w.origins) p.pair.caller n x (p.caller.numbered ∙ ap (λ (k : ℕ). Some k) first) at in
      (p.place, p.pair, p.there, inl same)

  -- from the pair of an end that placed a call on, along the way to the user's end at which it arrived
  reach : (fuel i : ℕ) (whole : PairValue) → slice_get w.whole.pairs i ≡ Some whole → (n x : ℕ) → slice_get (numbers plan w.origins) n ≡ Some x
      → Way w.origins w.joins x whole.caller → length w.whole.records ≤ whole.caller + fuel
      → (rb : RecordValue) → slice_get w.whole.records whole.caller ≡ Some rb → AreEmpty (taken_by rb) ⊎ InPair n
  reach zero i whole there n x at way bound rb rb_there =
      let less = slice_get_within w.whole.records whole.caller rb rb_there in absurd (omega arith)
  reach (suc fuel) i whole there n x at way bound rb rb_there =
      let c : PairCame plan w.origins s.kinds i whole = s.pairs.came i whole there in
      let came : CameFrom w.origins whole.callee whole.caller = record { origin = c.origin; there = c.there; came = c.came } in
      let h = calls.came whole.callee whole.caller came in
      elim (cases_Bool (plan.has_user c.origin.line c.origin.role)) [
        | inl user ↦ inr (for_user i whole n x (pair_for plan w s i whole there c user) at way)
        | inr switch ↦ elim (joins.sent whole.callee whole.caller c.origin h.callee c.there c.came switch h.callee_there) [
          | inl none ↦ inl (nothing_back whole.callee whole.caller rb h.callee came rb_there h.callee_there none)
          | inr next ↦
              let j : JoinHolds plan w whole.callee next.0 = joins.joins whole.callee next.0 next.1 in
              let seen : JoinIsSeen plan w.origins whole.callee next.0 = s.records.joined whole.callee next.0 next.1 in
              let on : Way w.origins w.joins x next.0 = onward whole.callee next.0 way came next.1 in
              elim (calls.register.paired.took next.0 j.to j.to_there) [
                | inl none ↦ inl (nothing_over whole.callee whole.caller next.0 rb came rb_there j (are_empty (j.to.taken_before ++ j.to.taken ∷ []) none))
                | inr pair ↦ elim pair.3 [
                  | inr e ↦
                      let d : PairCame plan w.origins s.kinds pair.0 pair.1 = s.pairs.came pair.0 pair.1 pair.2 in
                      let origin : d.origin ≡ seen.to = same_Some d.origin seen.to (sym d.there ∙ ap (λ (k : ℕ). slice_get w.origins k) e ∙ seen.to_there) in
                      absurd (none_here d.origin.caller pair.1.caller (ap (λ (o : Origin). o.caller) origin ∙ seen.placed) d.came)
                  | inl e ↦
                      let first = caller_first whole.callee whole.caller came in
                      let later = seen.order in
                      elim (reach fuel pair.0 pair.1 pair.2 n x at (subst (λ (k : ℕ). Way w.origins w.joins x k) (sym e) on) (omega arith) j.to
                      (ap (λ (k : ℕ). slice_get w.whole.records k) e ∙ j.to_there)) [
                        | inl none ↦ inl (nothing_over whole.callee whole.caller next.0 rb came rb_there j none)
                        | inr found ↦ inr found
                      ]
                ]
              ]
        ]
      ]

  took : (n : ℕ) (r : RecordValue) → slice_get w.register.records n ≡ Some r → TookNothing (taken_epochs r) ⊎ InPair n
  took n r at =
      let less : n < length (numbers plan w.origins) = subst (λ (k : ℕ). n < k) s.records.seen_count (slice_get_within w.register.records n r at) in
      let m = get_there (numbers plan w.origins) n less in
      let seen : RecordIsShown plan w.origins w.joins w.register.records w.whole.records n m.0 = s.records.records n m.0 m.1 in
      let same : shown plan seen.origin n seen.caller seen.path seen.value ≡ r = same_Some (shown plan seen.origin n seen.caller seen.path seen.value) r (sym seen.seen_there ∙ at) in
      subst (λ (v : RecordValue). TookNothing (taken_epochs v) ⊎ InPair n) same
      (elim (calls.register.paired.took m.0 seen.value seen.whole_there) [
        | inl none ↦ inl none
        | inr pair ↦ elim pair.3 [
          | inl e ↦ elim (reach (length w.whole.records) pair.0 pair.1 pair.2 n m.0 m.1
              (subst (λ (k : ℕ). Way w.origins w.joins m.0 k) (sym e) here) (omega arith) seen.value (ap (λ (k : ℕ). slice_get w.whole.records k) e ∙ seen.whole_there)) [
                | inl none ↦ inl (took_nothing (seen.value.taken_before ++ seen.value.taken ∷ []) none)
                | inr found ↦ inr found
              ]
          | inr e ↦
              let c : PairCame plan w.origins s.kinds pair.0 pair.1 = s.pairs.came pair.0 pair.1 pair.2 in
              let user : plan.has_user c.origin.line c.origin.role ≡ true =
              numbered_user plan w.origins n m.0 c.origin m.1 (ap (λ (k : ℕ). slice_get w.origins k) (sym e) ∙ c.there) in
              let p : PairFor plan w s pair.0 pair.1 = pair_for plan w s pair.0 pair.1 pair.2 c user in
              let number : p.pair.callee ≡ n = same_place 1 (map (kind plan) w.origins) p.pair.callee n m.0 (p.callee ∙ ap (λ (k : ℕ). Some k) e) m.1 in
              inr (p.place, p.pair, p.there, inr number)
        ]
      ])

  paths_hold : PathsHold plan w.register
  paths_hold = record { pairs_hold = pair_holds; paired = record { numbers = s.records.numbered; in_one = in_one; took = took }; nodes = nodes }

pub promised : PromiseLaw
promised plan w addressed s paths calls joins = paths_hold plan w addressed s paths calls joins
