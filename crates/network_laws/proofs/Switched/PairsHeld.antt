-- The pairs of a network of switches are those of its lines' books of which users accepted the calls.
use Rattle.std.proofs.Common.{◌≡◌, ℕ, Bool, true, List, Option, Some, refl, sym, ap, ◌∙◌, subst}
use Rattle.std.specs.Prelude.{slice_get, if◌then◌else◌}
use Rattle.std.proofs.lemmas.Option.{same_Some}
use Rattle.link_timers.specs.declared.role.Role.{Role}
use Rattle.call_records.specs.Records.{RecordValue, HopValue, PairValue}
use Rattle.call_records.specs.Book.{Book}
use Rattle.call_records.specs.Register.{book_at}
use Rattle.record_laws.proofs.Books.Basics.{map_at}
use Rattle.record_laws.specs.Registers.Seen.{positions, LineIsSeen}
use Rattle.record_laws.proofs.Registers.Positions.{is_place, place_of}
use Rattle.record_laws.proofs.Registers.Steps.{same_place}
use Rattle.record_laws.specs.CallPaths.World.{Origin, World, Plan}
use Rattle.record_laws.specs.CallPaths.Seen.{kind, numbers, shown, RecordIsShown, PairIsSeen, PairCame, Seen}
use Rattle.record_laws.specs.CallPaths.Lines.{LinesSeen}
use Rattle.record_laws.specs.CallPaths.Ends.{IsOf, IsOfUser}
use Rattle.record_laws.proofs.CallPaths.Ending.{users_own}
use Rattle.net_events.specs.Network.{User, NetLine, Network, place_at}
use Rattle.network_laws.specs.Switched.Histories.{HasUserAt}
use Rattle.network_laws.specs.Switched.Plans.{IsPlanOf}
use Rattle.network_laws.proofs.Switched.Histories.{IsOwned, IsPairAt, PairsAre}
use Rattle.network_laws.proofs.Switched.PairsUsers as lines
use Rattle.network_laws.proofs.Switched.PromiseLines.{fellow}

module _ (plan : Plan) (w : World) (books : List Book) (traces : List (List Origin)) (seen : Seen plan w) (alike : LinesSeen w.whole w.origins books traces) where
  abbrev pub PairOf : ℕ → ℕ → ℕ → Type 0
  PairOf i line j = (p : ℕ) × (slice_get (positions 1 seen.kinds) i ≡ Some p) × (slice_get (positions line alike.seen.pair_owners) j ≡ Some p)

  renumbered_is : (own value : RecordValue) → IsOf own value → (o : Origin) (n : ℕ) (a : Option ℕ) (path : List HopValue) → IsOf own (shown plan o n a path value)
  renumbered_is own value e o n a path = subst (λ (v : RecordValue). IsOf own (shown plan o n a path v)) (sym e) refl

  pair_at : (i line j : ℕ) → PairOf i line j → IsPairAt w.register books i line j
  pair_at i line j (p, at, there) =
      let x : IsPairAt w.whole books p line j = lines.pair_at w.whole books alike.seen p line j there in
      let q : PairIsSeen plan w.origins w.joins w.register.pairs w.whole.pairs i p = seen.pairs.pairs i p at in
      let same : q.whole_pair ≡ x.pair = same_Some q.whole_pair x.pair (sym q.whole_there ∙ x.pair_there) in
      let numbered : slice_get (numbers plan w.origins) q.seen_pair.callee ≡ Some x.pair.callee = q.callee ∙ ap (λ (z : PairValue). Some z.callee) same in
      let r : RecordIsShown plan w.origins w.joins w.register.records w.whole.records q.seen_pair.callee x.pair.callee = seen.records.records q.seen_pair.callee x.pair.callee numbered in
      let value : x.callee ≡ r.value = same_Some x.callee r.value (sym x.callee_there ∙ r.whole_there) in
      record {
        book = x.book;
        there = x.there;
        own_pair = x.own_pair;
        own_there = x.own_there;
        pair = q.seen_pair;
        pair_there = q.seen_there;
        own = x.own;
        own_record = x.own_record;
        callee = shown plan r.origin q.seen_pair.callee r.caller r.path r.value;
        callee_there = r.seen_there;
        same = renumbered_is x.own r.value (subst (IsOf x.own) value x.same) r.origin q.seen_pair.callee r.caller r.path;
      }

  every_pair : (i : ℕ) (p : PairValue) → slice_get w.register.pairs i ≡ Some p → (line : ℕ) × (j : ℕ) × PairOf i line j
  every_pair i p at =
      let m = fellow (positions 1 seen.kinds) w.register.pairs i p (sym seen.pairs.seen_count) at in
      let whole_pair = fellow w.whole.pairs seen.kinds m.0 1 (sym seen.pairs.count) (is_place 1 seen.kinds i m.0 m.1) in
      let e = lines.every_pair w.whole books alike.seen m.0 whole_pair.0 whole_pair.1 in
      (e.0, e.1, (m.0, m.1, e.2))

  one_place : (i line j other k : ℕ) → PairOf i line j → PairOf i other k → (line ≡ other) × (j ≡ k)
  one_place i line j other k (p, at, there) (q, here, is) =
      let same : q ≡ p = same_Some q p (sym here ∙ at) in
      lines.one_place w.whole books alike.seen p line j other k there (is ∙ ap (λ (n : ℕ). Some n) same)

  back : (i h line j : ℕ) → PairOf i line j → PairOf h line j → i ≡ h
  back i h line j (p, at, there) (q, here, is) =
      let same : q ≡ p = same_Some q p (sym is ∙ there) in
      same_place 1 seen.kinds i h p at (here ∙ ap (λ (n : ℕ). Some n) same)

  its_kind : (o : Origin) → plan.has_user o.line o.role ≡ true → kind plan o ≡ 1
  its_kind o e = ap (λ (b : Bool). if b then 1 else 0) e

  -- the end at which a record came in is that of its node
  users : (s : Network) → IsPlanOf s plan → (line : ℕ) (l : NetLine) (b : Book) (role : Role) (j : ℕ) (q : PairValue) (own : RecordValue)
      → slice_get s.lines line ≡ Some l → slice_get books line ≡ Some b → HasUserAt s l role
      → slice_get b.pairs j ≡ Some q → slice_get b.records q.callee ≡ Some own → own.node ≡ place_at role l
      → (i : ℕ) × PairOf i line j
  users s plan_is line l b role j q own ls bs user at there node =
      let p = lines.its_pair w.whole books alike.seen line b j q bs at in
      let x : IsPairAt w.whole books p.0 line j = lines.pair_at w.whole books alike.seen p.0 line j p.1 in
      let book : x.book ≡ b = same_Some x.book b (sym x.there ∙ bs) in
      let pair : x.own_pair ≡ q = same_Some x.own_pair q (sym x.own_there ∙ ap (λ (y : Book). slice_get y.pairs j) book ∙ at) in
      let record_is : x.own ≡ own =
      same_Some x.own own (sym x.own_record ∙ ap (λ (y : Book). slice_get y.records x.own_pair.callee) book ∙ ap (λ (y : PairValue). slice_get b.records y.callee) pair ∙ there) in
      let came : PairCame plan w.origins seen.kinds p.0 x.pair = seen.pairs.came p.0 x.pair x.pair_there in
      let o : Origin = came.origin in
      let trace = fellow traces books line b alike.count bs in
      let owners = (alike.lines line trace.0 trace.1).owners_are in
      let seen_line : LineIsSeen (positions line alike.seen.owners) (positions line alike.seen.pair_owners) b (book_at line w.whole) = alike.seen.line line b bs in
      let numbered = seen_line.pairs j p.0 p.1 in
      let whole_pair : numbered.seen_pair ≡ x.pair = same_Some numbered.seen_pair x.pair (sym numbered.seen_there ∙ x.pair_there) in
      let owner : slice_get alike.seen.owners x.pair.callee ≡ Some line =
      is_place line alike.seen.owners numbered.own_pair.callee x.pair.callee (numbered.callee ∙ ap (λ (y : PairValue). Some y.callee) whole_pair) in
      let m = map_at (λ (y : Origin). y.line) w.origins x.pair.callee line (ap (λ (ns : List ℕ). slice_get ns x.pair.callee) (sym owners) ∙ owner) in
      let line_is : o.line ≡ line = ap (λ (y : Origin). y.line) (same_Some o m.0 (sym came.there ∙ m.1)) ∙ m.2 in
      let its_node : x.callee.node ≡ place_at role l = ap (λ (y : RecordValue). y.node) x.same ∙ ap (λ (y : RecordValue). y.node) record_is ∙ node in
      let place : place_at o.role l ≡ place_at role l =
      sym (plan_is.node line l o.role ls) ∙ ap (λ (n : ℕ). plan.node n o.role) (sym line_is) ∙ sym (seen.records.nodes x.pair.callee o x.callee came.there x.callee_there) ∙ its_node in
      let has : plan.has_user o.line o.role ≡ true =
      ap (λ (n : ℕ). plan.has_user n o.role) line_is ∙ plan_is.user line l o.role (User user.0) ls (ap (λ (k : ℕ). slice_get s.nodes k) place ∙ user.1) in
      let i = place_of 1 seen.kinds p.0 (came.of_kind ∙ ap (λ (n : ℕ). Some n) (its_kind o has)) in
      (i.place, (p.0, i.there, p.1))

  pub held_pairs : (s : Network) → IsPlanOf s plan → PairsAre s w.register books PairOf
  held_pairs s plan_is = record {
    is_at = pair_at;
    every = every_pair;
    one = one_place;
    back = back;
    users = users s plan_is;
  }

  pub all_owned : (i : ℕ) (r : RecordValue) → slice_get w.register.records i ≡ Some r → IsOwned books r
  all_owned i r at =
      let o : IsOfUser plan books r = users_own plan w books traces i r seen alike at in
      record {
        line = o.line;
        book = o.line_book;
        there = o.line_there;
        place = o.place;
        own = o.own;
        own_there = o.own_there;
        same = o.same;
      }
