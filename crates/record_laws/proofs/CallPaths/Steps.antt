-- Steps of a write, made in the register and in the whole one, or in the whole one alone.
use Rattle.std.proofs.Common.{◌≡◌, ℕ, Bool, true, false, List, [], ◌∷◌, ◌++◌, length, Option, Some, None, refl, sym, ap, subst, ◌∙◌}
use Rattle.std.specs.Prelude.{slice_get}
use Rattle.std.proofs.lemmas.Option.{same_Some}
use Rattle.link_timers.specs.declared.role.Role.{Role}
use Rattle.link_timers.specs.declared.role.Role.TheVariants.{Dte, Dce}
use Rattle.call_records.specs.Records.{RecordValue, PairValue, changed_at}
use Rattle.call_records.specs.Book.{Book, Slot, slot_at, with_slot, with_change, with_record, with_pair}
use Rattle.record_laws.proofs.Books.Basics.{get_last}
use Rattle.record_laws.specs.Registers.Seen.{IsNumbered}
use Rattle.record_laws.proofs.Registers.Steps.{records_put, pairs_put}
use Rattle.record_laws.specs.CallPaths.World.{Origin, Join, Plan}
use Rattle.record_laws.specs.CallPaths.Seen.{kind, numbers, BeginsIf, shown, IsMadeAt, SlotIsSeen, RecordsAreSeen, PairsAreSeen}
use Rattle.record_laws.proofs.CallPaths.Ways.{kind_user}
use Rattle.record_laws.proofs.CallPaths.Growing.{Extends, extends_itself, extends_twice, more_side, user_extends, switch_extends, switch_kind, numbers_user}
use Rattle.record_laws.proofs.CallPaths.Slots.{Sides, sides_both, sides_whole}
use Rattle.record_laws.proofs.CallPaths.Records.{IsMild, CallerIsThere, changed_both, changed_whole, added_both, added_whole, paired_both, paired_whole, more_pairs_seen}

-- ---- what the two registers have of a line, side by side

pub record Beside : Type 0 where
  pub origins : List Origin
  pub kinds : List ℕ
  pub seen : Book
  pub whole : Book

pub record IsRight (plan : Plan) (js : List Join) (line : ℕ) (x : Beside) : Type 0 where
  pub records : RecordsAreSeen plan x.origins js x.seen.records x.whole.records
  pub pairs : PairsAreSeen plan x.origins js x.kinds x.seen.pairs x.whole.pairs
  pub sides : Sides plan x.origins js line x.seen x.whole

pub record Leads (plan : Plan) (js : List Join) (line : ℕ) (x : Beside) (origins : List Origin) (seen whole : Book) : Type 0 where
  pub kinds : List ℕ
  pub is_right : IsRight plan js line (record { origins = origins; kinds = kinds; seen = seen; whole = whole })
  pub extends : Extends plan x.origins js origins js

module _ (plan : Plan) (js : List Join) (line : ℕ) where
  abbrev pub after : (x : Beside) (origins : List Origin) (seen whole : Book) → Leads plan js line x origins seen whole → Beside
  after x origins seen whole h = record { origins = origins; kinds = h.kinds; seen = seen; whole = whole }

  pub no_step : (x : Beside) → IsRight plan js line x → Leads plan js line x x.origins x.seen x.whole
  no_step x h = record {
    kinds = x.kinds;
    is_right = record { records = h.records; pairs = h.pairs; sides = h.sides };
    extends = extends_itself plan x.origins js;
  }

  pub then : (x : Beside) (os : List Origin) (seen whole : Book) (ps : List Origin) (seen2 whole2 : Book) (h : Leads plan js line x os seen whole)
      → Leads plan js line (after x os seen whole h) ps seen2 whole2 → Leads plan js line x ps seen2 whole2
  then x os seen whole ps seen2 whole2 h g = record { kinds = g.kinds; is_right = g.is_right; extends = extends_twice h.extends g.extends }

  -- ---- records and pairs by themselves

  sides_kept : (os : List Origin) (b c : Book) (rs ts : List RecordValue) (ps qs : List PairValue) → Sides plan os js line b c
      → Sides plan os js line (record b { records = rs; pairs = ps }) (record c { records = ts; pairs = qs })
  sides_kept os b c rs ts ps qs h Dte = h Dte
  sides_kept os b c rs ts ps qs h Dce = h Dce

  records_step : (x : Beside) (rs ts : List RecordValue) → IsRight plan js line x → RecordsAreSeen plan x.origins js rs ts
      → Leads plan js line x x.origins (record x.seen { records = rs }) (record x.whole { records = ts })
  records_step x rs ts h w = record {
    kinds = x.kinds;
    is_right = record { records = w; pairs = h.pairs; sides = sides_kept x.origins x.seen x.whole rs ts x.seen.pairs x.whole.pairs h.sides };
    extends = extends_itself plan x.origins js;
  }

  pairs_step : (x : Beside) (kinds : List ℕ) (ps qs : List PairValue) → IsRight plan js line x → PairsAreSeen plan x.origins js kinds ps qs
      → Leads plan js line x x.origins (record x.seen { pairs = ps }) (record x.whole { pairs = qs })
  pairs_step x kinds ps qs h w = record {
    kinds = kinds;
    is_right = record { records = h.records; pairs = w; sides = sides_kept x.origins x.seen x.whole x.seen.records x.whole.records ps qs h.sides };
    extends = extends_itself plan x.origins js;
  }

  added_sides : (os ps : List Origin) → Extends plan os js ps js → (b c : Book) (rs ts : List RecordValue) → Sides plan os js line b c
      → Sides plan ps js line (record b { records = rs }) (record c { records = ts })
  added_sides os ps x b c rs ts h Dte = more_side plan os js ps js x line Dte b.dte c.dte (h Dte)
  added_sides os ps x b c rs ts h Dce = more_side plan os js ps js x line Dce b.dce c.dce (h Dce)

  adds : (x : Beside) (os : List Origin) (rs ts : List RecordValue) → Extends plan x.origins js os js → IsRight plan js line x → RecordsAreSeen plan os js rs ts
      → Leads plan js line x os (record x.seen { records = rs }) (record x.whole { records = ts })
  adds x os rs ts e h w = record {
    kinds = x.kinds;
    is_right = record {
      records = w;
      pairs = more_pairs_seen plan x.origins js os js e x.kinds x.seen.pairs x.whole.pairs h.pairs;
      sides = added_sides x.origins os e x.seen x.whole rs ts h.sides;
    };
    extends = e;
  }

  -- ---- channels

  pub puts_both : (x : Beside) (role : Role) (c : ℕ) (s t : Slot) → IsRight plan js line x → SlotIsSeen plan x.origins js line role s t
      → Leads plan js line x x.origins (with_slot role c s x.seen) (with_slot role c t x.whole)
  puts_both x role c s t h w = record {
    kinds = x.kinds;
    is_right = record {
      records = subst (λ (rs : List RecordValue). RecordsAreSeen plan x.origins js rs (with_slot role c t x.whole).records) (sym (records_put role c s x.seen))
          (subst (λ (rs : List RecordValue). RecordsAreSeen plan x.origins js x.seen.records rs) (sym (records_put role c t x.whole)) h.records);
      pairs = subst (λ (ps : List PairValue). PairsAreSeen plan x.origins js x.kinds ps (with_slot role c t x.whole).pairs) (sym (pairs_put role c s x.seen))
          (subst (λ (ps : List PairValue). PairsAreSeen plan x.origins js x.kinds x.seen.pairs ps) (sym (pairs_put role c t x.whole)) h.pairs);
      sides = sides_both plan x.origins js line role c s t x.seen x.whole h.sides w;
    };
    extends = extends_itself plan x.origins js;
  }

  pub puts_whole : (x : Beside) (role : Role) (c : ℕ) (t : Slot) → IsRight plan js line x → SlotIsSeen plan x.origins js line role (slot_at role c x.seen) t
      → Leads plan js line x x.origins x.seen (with_slot role c t x.whole)
  puts_whole x role c t h w = record {
    kinds = x.kinds;
    is_right = record {
      records = subst (λ (rs : List RecordValue). RecordsAreSeen plan x.origins js x.seen.records rs) (sym (records_put role c t x.whole)) h.records;
      pairs = subst (λ (ps : List PairValue). PairsAreSeen plan x.origins js x.kinds x.seen.pairs ps) (sym (pairs_put role c t x.whole)) h.pairs;
      sides = sides_whole plan x.origins js line role c t x.seen x.whole h.sides w;
    };
    extends = extends_itself plan x.origins js;
  }

  -- ---- the record of the present call changes

  abbrev OriginHere : (role : Role) → List Origin → (present caller : Option ℕ) → Type 0
  OriginHere role os present caller = (m : ℕ) → present ≡ Some m → IsMadeAt os line role caller m

  pub changes_both : (x : Beside) (f : RecordValue → RecordValue) (o p : Option ℕ) → IsMild f → IsRight plan js line x → IsNumbered (numbers plan x.origins) o p
      → Leads plan js line x x.origins (with_change o f x.seen) (with_change p f x.whole)
  changes_both x f None None mild h w = no_step x h
  changes_both x f (Some n) (Some m) mild h w =
      records_step x (changed_at n f x.seen.records) (changed_at m f x.whole.records) h (changed_both plan x.origins js x.seen.records x.whole.records f n m mild w h.records)
  changes_both x f None (Some m) mild h w = absurd w
  changes_both x f (Some n) None mild h w = absurd w

  pub changes_whole : (x : Beside) (role : Role) (f : RecordValue → RecordValue) (p caller : Option ℕ) → IsMild f → IsRight plan js line x
      → plan.has_user line role ≡ false → OriginHere role x.origins p caller
      → Leads plan js line x x.origins x.seen (with_change p f x.whole)
  changes_whole x role f None caller mild h switch here = no_step x h
  changes_whole x role f (Some m) caller mild h switch here =
      let made : IsMadeAt x.origins line role caller m = here m refl in
      records_step x x.seen.records (changed_at m f x.whole.records) h
      (changed_whole plan x.origins js x.seen.records x.whole.records f m (record { line = line; role = role; placed_here = made.placed_here; caller = caller }) mild made.there switch h.records)

  -- ---- a record more

  pub adds_both : (x : Beside) (o : Origin) (r t : RecordValue) (c : Option ℕ) → plan.has_user o.line o.role ≡ true → CallerIsThere plan x.origins js o
      → r ≡ shown plan o (length x.seen.records) c [] t → BeginsIf plan x.origins js c t.caller → t.node ≡ plan.node o.line o.role → t.caller ≡ o.caller → IsRight plan js line x
      → Leads plan js line x (x.origins ++ o ∷ []) (with_record r x.seen) (with_record t x.whole)
  adds_both x o r t c user caller is begins node name h =
      adds x (x.origins ++ o ∷ []) (x.seen.records ++ r ∷ []) (x.whole.records ++ t ∷ []) (user_extends plan x.origins js o user) h
      (added_both plan x.origins js x.seen.records x.whole.records o r t c user caller is begins node name h.records)

  pub adds_whole : (x : Beside) (o : Origin) (t : RecordValue) → plan.has_user o.line o.role ≡ false → CallerIsThere plan x.origins js o
      → t.node ≡ plan.node o.line o.role → t.caller ≡ o.caller → IsRight plan js line x
      → Leads plan js line x (x.origins ++ o ∷ []) x.seen (with_record t x.whole)
  adds_whole x o t switch caller node name h =
      adds x (x.origins ++ o ∷ []) x.seen.records (x.whole.records ++ t ∷ []) (switch_extends plan x.origins js o switch) h
      (added_whole plan x.origins js x.seen.records x.whole.records o t switch caller node name h.records)

  pub newest : (x : Beside) (o : Origin) → plan.has_user o.line o.role ≡ true → IsRight plan js line x
      → slice_get (numbers plan (x.origins ++ o ∷ [])) (length x.seen.records) ≡ Some (length x.whole.records)
  newest x o user h =
      ap (λ (ns : List ℕ). slice_get ns (length x.seen.records)) (numbers_user plan x.origins o user)
      ∙ ap (λ (n : ℕ). slice_get (numbers plan x.origins ++ length x.origins ∷ []) n) h.records.seen_count
      ∙ get_last (numbers plan x.origins) (length x.origins) ∙ ap (λ (n : ℕ). Some n) h.records.count

  pub last_origin : (x : Beside) (o : Origin) → IsRight plan js line x → (m : ℕ) → Some (length x.whole.records) ≡ Some m → slice_get (x.origins ++ o ∷ []) m ≡ Some o
  last_origin x o h m e =
      ap (λ (n : ℕ). slice_get (x.origins ++ o ∷ []) n) (sym (same_Some (length x.whole.records) m e) ∙ sym h.records.count) ∙ get_last x.origins o

  pub last_made : (x : Beside) (role : Role) (placed_here : Bool) (caller : Option ℕ) → IsRight plan js line x → (m : ℕ) → Some (length x.whole.records) ≡ Some m
      → IsMadeAt (x.origins ++ record { line = line; role = role; placed_here = placed_here; caller = caller } ∷ []) line role caller m
  last_made x role placed_here caller h m e =
      record { placed_here = placed_here; there = last_origin x (record { line = line; role = role; placed_here = placed_here; caller = caller }) h m e }

  -- ---- a pair more

  pub pairs_both : (x : Beside) (role : Role) (a b c d : Option ℕ) → plan.has_user line role ≡ true → IsRight plan js line x → BeginsIf plan x.origins js a b
      → IsNumbered (numbers plan x.origins) c d → OriginHere role x.origins d b
      → Leads plan js line x x.origins (with_pair a c x.seen) (with_pair b d x.whole)
  pairs_both x role None None c d user h v w here = no_step x h
  pairs_both x role (Some a) (Some b) None None user h v w here = no_step x h
  pairs_both x role (Some a) (Some b) (Some c) (Some d) user h v w here =
      let made : IsMadeAt x.origins line role (Some b) d = here d refl in
      let o : Origin = record { line = line; role = role; placed_here = made.placed_here; caller = Some b } in
      pairs_step x (x.kinds ++ kind plan o ∷ []) (x.seen.pairs ++ record { caller = a; callee = c } ∷ []) (x.whole.pairs ++ record { caller = b; callee = d } ∷ []) h
      (paired_both plan x.origins js x.kinds x.seen.pairs x.whole.pairs o (record { caller = b; callee = d }) (record { caller = a; callee = c }) made.there refl
      (kind_user plan o user) w v h.pairs)
  pairs_both x role (Some a) (Some b) None (Some d) user h v w here = absurd w
  pairs_both x role (Some a) (Some b) (Some c) None user h v w here = absurd w
  pairs_both x role None (Some b) c d user h v w here = absurd v
  pairs_both x role (Some a) None c d user h v w here = absurd v

  pub pairs_whole : (x : Beside) (role : Role) (b d : Option ℕ) → plan.has_user line role ≡ false → IsRight plan js line x → OriginHere role x.origins d b
      → Leads plan js line x x.origins x.seen (with_pair b d x.whole)
  pairs_whole x role None d switch h here = no_step x h
  pairs_whole x role (Some b) None switch h here = no_step x h
  pairs_whole x role (Some b) (Some d) switch h here =
      let made : IsMadeAt x.origins line role (Some b) d = here d refl in
      let o : Origin = record { line = line; role = role; placed_here = made.placed_here; caller = Some b } in
      pairs_step x (x.kinds ++ kind plan o ∷ []) x.seen.pairs (x.whole.pairs ++ record { caller = b; callee = d } ∷ []) h
      (paired_whole plan x.origins js x.kinds x.seen.pairs x.whole.pairs o (record { caller = b; callee = d }) made.there refl (switch_kind plan o switch) h.pairs)
