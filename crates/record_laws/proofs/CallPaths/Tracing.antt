-- Writes at a line, with where the records come from.
use Rattle.std.proofs.Common.{◌≡◌, ℕ, zero, suc, inl, inr, Bool, true, false, List, [], ◌∷◌, ◌++◌, length, Option, Some, None, refl, sym, ap, subst, ◌∙◌}
use Rattle.std.specs.Prelude.{slice_get, map}
use Rattle.link_timers.specs.declared.role.Role.{Role}
use Rattle.link_timers.specs.Role.{other_of}
use Rattle.data_transfer.specs.Packets.{CallParts}
use Rattle.call_records.specs.Records.{RecordValue, with_closed}
use Rattle.call_records.specs.Book.{Book, Slot, slot_at, side_of, with_slot, with_change, with_record, with_pair, changed, comes, answers, closes, places_from}
use Rattle.call_records.specs.Closing.{closes_if, closes_present, closed_from, all_closed}
use Rattle.call_records.specs.Carried.{placed_on}
use Rattle.call_records.specs.Writes.{Write, all_written}
use Rattle.call_records.specs.Register.{book_at}
use Rattle.record_laws.proofs.Books.Basics.{get_before, get_set, length_changed, length_pushed, length_set}
use Rattle.record_laws.specs.Registers.Seen.{positions, IsNumbered}
use Rattle.record_laws.proofs.Registers.Steps.{Beside, IsRight, Leads, Leaves, after, no_step, records_put}
use Rattle.record_laws.proofs.Registers.Writing.{changed_goes, comes_goes, places_goes, answers_goes, closes_goes, all_closed_goes, slot_seen}
use Rattle.record_laws.proofs.Registers.Seeing.{beside, is_beside, led_seen}
use Rattle.record_laws.specs.CallPaths.World.{Origin, with_placed, all_traced}
use Rattle.record_laws.specs.CallPaths.Lines.{OriginIsSeen, OriginsSeen, AreRecorded, TraceLaw}
use Rattle.record_laws.proofs.CallPaths.Inducing.{Property, Holds, Each, writes_hold}
use Rattle.record_laws.proofs.CallPaths.Owning.{kept, grown}
use Rattle.record_laws.proofs.CallPaths.Recording.{writes_recorded}

-- ---- how many records a book has after a step

change_length : (o : Option ℕ) (f : RecordValue → RecordValue) (b : Book) → length (with_change o f b).records ≡ length b.records
change_length None f b = refl
change_length (Some n) f b = length_changed b.records n f

pair_length : (o p : Option ℕ) (b : Book) → length (with_pair o p b).records ≡ length b.records
pair_length None p b = refl
pair_length (Some n) None b = refl
pair_length (Some n) (Some m) b = refl

slot_length : (role : Role) (c : ℕ) (s : Slot) (b : Book) → length (with_slot role c s b).records ≡ length b.records
slot_length role c s b = ap (λ (rs : List RecordValue). length rs) (records_put role c s b)

closes_length : (role : Role) (c : ℕ) (b : Book) → length (closes role c b).records ≡ length b.records
closes_length role c b =
    slot_length role c (record (slot_at role c b) { present = None; caller = None }) (changed role c with_closed b) ∙ change_length (slot_at role c b).present with_closed b

closes_if_length : (o : Option ℕ) (role : Role) (c : ℕ) (b : Book) → length (closes_if o role c b).records ≡ length b.records
closes_if_length None role c b = refl
closes_if_length (Some n) role c b = closes_length role c b

closed_length : (count c : ℕ) (role : Role) (b : Book) → length (closed_from count c role b).records ≡ length b.records
closed_length zero c role b = refl
closed_length (suc count) c role b = closed_length count (suc c) role (closes_present role c b) ∙ closes_if_length (slot_at role c b).present role c b

-- ---- a write

module _ (lines line : ℕ) (role : Role) where
  pub record Traces (x : Beside) (own seen : Book) (t os before : List Origin) : Type 0 where
    pub leads : Leads lines line x own seen
    pub origins : OriginsSeen line leads.owners t os
    pub extends : (n : ℕ) (o : Origin) → slice_get before n ≡ Some o → slice_get os n ≡ Some o

  abbrev pub Runs : Property
  Runs f s = (x : Beside) → IsRight lines line x → (t os : List Origin) → OriginsSeen line x.owners t os
      → Traces x (f x.own) (f x.seen) (s x.own t) (s x.seen os) os

  -- as many records as before
  as_many : (x : Beside) (own seen : Book) (t os : List Origin) → Leads lines line x own seen → IsRight lines line x → length seen.records ≡ length x.seen.records
      → OriginsSeen line x.owners t os → Traces x own seen t os os
  as_many x own seen t os l h count o = record { leads = l; origins = kept lines line x own seen l t os h count o; extends = λ n p e. e }

  one_more : (x : Beside) (own seen : Book) (t os : List Origin) (here : Bool) (a b : Option ℕ) → Leads lines line x own seen → IsRight lines line x → length seen.records ≡ suc (length x.seen.records)
      → IsNumbered (positions line x.owners) a b → OriginsSeen line x.owners t os
      → Traces x own seen (t ++ record { line = line; role = role; placed_here = here; caller = a } ∷ []) (os ++ record { line = line; role = role; placed_here = here; caller = b } ∷ []) os
  one_more x own seen t os here a b l h count caller o = record {
    leads = l;
    origins = grown lines line x own seen l t os role here a b h count caller o;
    extends = λ n p e. get_before os (record { line = line; role = role; placed_here = here; caller = b } ∷ []) n p e;
  }

  both_leave : (x : Beside) (own seen own2 seen2 : Book) (h : Leads lines line x own seen) (g : Leads lines line (after lines line x own seen h) own2 seen2)
      → Leaves line x (record { owners = g.owners; pair_owners = g.pair_owners; own = own2; seen = seen2 })
  both_leave x own seen own2 seen2 h g = record {
    owners = λ k other. g.leaves.owners k other ∙ h.leaves.owners k other;
    pair_owners = λ k other. g.leaves.pair_owners k other ∙ h.leaves.pair_owners k other;
    records = λ k i n other at.
        g.leaves.records k i n other (ap (λ (ns : List ℕ). slice_get ns i) (h.leaves.owners k other) ∙ at) ∙ h.leaves.records k i n other at;
    pairs = λ k i n other at.
        g.leaves.pairs k i n other (ap (λ (ns : List ℕ). slice_get ns i) (h.leaves.pair_owners k other) ∙ at) ∙ h.leaves.pairs k i n other at;
  }

  in_turn : (f g : Book → Book) (s u : Book → List Origin → List Origin) → Runs f s → Runs g u → Runs (λ b. g (f b)) (λ b os. u (f b) (s b os))
  in_turn f g s u a b x h t os o =
      let first : Traces x (f x.own) (f x.seen) (s x.own t) (s x.seen os) os = a x h t os o in
      let y : Beside = after lines line x (f x.own) (f x.seen) first.leads in
      let rest : Traces y (g (f x.own)) (g (f x.seen)) (u (f x.own) (s x.own t)) (u (f x.seen) (s x.seen os)) (s x.seen os) = b y first.leads.is_right (s x.own t) (s x.seen os) first.origins in
      record {
        leads = record {
          owners = rest.leads.owners;
          pair_owners = rest.leads.pair_owners;
          is_right = rest.leads.is_right;
          leaves = both_leave x (f x.own) (f x.seen) (g (f x.own)) (g (f x.seen)) first.leads rest.leads;
        };
        origins = rest.origins;
        extends = λ n p e. rest.extends n p (first.extends n p e);
      }

  places_runs : (o : Option ℕ) (parts : CallParts) → Unit {0} → Runs (placed_on role o parts) (λ b os. with_placed line role o os)
  places_runs None parts may x h t os o = as_many x x.own x.seen t os (no_step lines line x h) h refl o
  places_runs (Some c) parts may x h t os o =
      one_more x (places_from role c parts.calling parts.called x.own) (places_from role c parts.calling parts.called x.seen) t os true None None
      (places_goes lines line role c parts.calling parts.called x h) h (slot_length role c _ (with_record _ x.seen) ∙ length_pushed x.seen.records _) tt o

  runs_hold : Holds line role (λ write. Unit {0}) Runs
  runs_hold = record {
    same = λ x h t os o. as_many x x.own x.seen t os (no_step lines line x h) h refl o;
    in_turn = in_turn;
    changes = λ c f mild x h t os o. as_many x (changed role c f x.own) (changed role c f x.seen) t os (changed_goes lines line role c f mild.blind x h) h
        (change_length (slot_at role c x.seen).present f x.seen) o;
    comes_in = λ c parts x h t os o. one_more x (comes role c parts x.own) (comes role c parts x.seen) t os false (slot_at (other_of role) c x.own).placed (slot_at (other_of role) c x.seen).placed
        (comes_goes lines line role c parts x h) h (slot_length role c _ (with_record _ x.seen) ∙ length_pushed x.seen.records _) (slot_seen lines line x h (other_of role) c).placed o;
    accepts = λ c x h t os o. as_many x (answers role c x.own) (answers role c x.seen) t os (answers_goes lines line role c x h) h
        (pair_length (slot_at role c x.seen).caller (slot_at role c x.seen).present x.seen) o;
    ends = λ c x h t os o. as_many x (closes role c x.own) (closes role c x.seen) t os (closes_goes lines line role c x h) h (closes_length role c x.seen) o;
    ends_all = λ x h t os o. as_many x (all_closed role x.own) (all_closed role x.seen) t os (all_closed_goes lines line role x h) h
        (closed_length (length (side_of role x.seen).slots) 1 role x.seen) o;
    places = places_runs;
  }

  each_may : (writes : List Write) → Each (λ write. Unit {0}) writes
  each_may [] = tt
  each_may (write ∷ writes) = (tt, each_may writes)

  pub writes_run : (writes : List Write) → Runs (all_written role writes) (all_traced line role writes)
  writes_run writes = writes_hold line role (λ write. Unit {0}) Runs runs_hold writes (each_may writes)

-- ---- all lines

length_map : {X Y : Type 0} (f : X → Y) (xs : List X) → length (map f xs) ≡ length xs
length_map f [] = refl
length_map f (x ∷ xs) = ap suc (length_map f xs)

other_traced : (k : ℕ) (owners after : List ℕ) (t os more : List Origin) → positions k after ≡ positions k owners → after ≡ map (λ (o : Origin). o.line) more
    → ((n : ℕ) (o : Origin) → slice_get os n ≡ Some o → slice_get more n ≡ Some o) → OriginsSeen k owners t os → OriginsSeen k after t more
other_traced k owners after t os more same are extends h = record {
  owners_are = are;
  count = h.count ∙ ap (λ (ns : List ℕ). length ns) (sym same);
  origins = λ i n at.
      let o : OriginIsSeen (positions k owners) t os i n = h.origins i n (ap (λ (ns : List ℕ). slice_get ns i) (sym same) ∙ at) in
      record {
        line = o.line;
        role = o.role;
        placed_here = o.placed_here;
        own_caller = o.own_caller;
        whole_caller = o.whole_caller;
        own_there = o.own_there;
        whole_there = extends n (record { line = o.line; role = o.role; placed_here = o.placed_here; caller = o.whole_caller }) o.whole_there;
        caller = subst (λ (ns : List ℕ). IsNumbered ns o.own_caller o.whole_caller) (sym same) o.caller;
      };
}

pub traced : TraceLaw
unfolding led_seen
traced g os books traces line b own role writes at trace w =
    let x : Beside = beside g books line b w.seen in
    let h : IsRight (length books) line x = is_beside g books line b at w.seen in
    let r = writes_run (length books) line role writes x h own os (w.lines line own trace) in
    record {
      seen = led_seen g books line b (all_written role writes b) (all_written role writes (book_at line g)) at w.seen r.leads;
      owned = sym (length_map (λ (o : Origin). o.line) (all_traced line role writes (book_at line g) os)) ∙ ap (λ (ns : List ℕ). length ns) (sym r.origins.owners_are)
          ∙ r.leads.is_right.records_owned;
      count = length_set traces line (all_traced line role writes b own) ∙ w.count ∙ sym (length_set books line (all_written role writes b));
      lines = λ k t there. elim (get_set traces line (all_traced line role writes b own) k t there) [
        | inl here ↦
            subst (λ (z : List Origin). OriginsSeen k r.leads.owners z (all_traced line role writes (book_at line g) os)) (sym here.1)
            (subst (λ (n : ℕ). OriginsSeen n r.leads.owners (all_traced line role writes b own) (all_traced line role writes (book_at line g) os)) (sym here.0) r.origins)
        | inr other ↦
            other_traced k w.seen.owners r.leads.owners t os (all_traced line role writes (book_at line g) os) (r.leads.leaves.owners k other.0) r.origins.owners_are r.extends (w.lines k t other.1)
      ];
      recorded = λ k c t is there. elim (get_set traces line (all_traced line role writes b own) k t there) [
        | inl here ↦ elim (get_set books line (all_written role writes b) k c is) [
          | inl book ↦
              subst (λ (z : List Origin). AreRecorded z c.records) (sym here.1)
              (subst (λ (z : Book). AreRecorded (all_traced line role writes b own) z.records) (sym book.1)
              (writes_recorded line role writes b own (w.recorded line b own at trace)))
          | inr other ↦ absurd (other.0 here.0)
        ]
        | inr other ↦ elim (get_set books line (all_written role writes b) k c is) [
          | inl book ↦ absurd (other.0 book.0)
          | inr older ↦ w.recorded k c t older.1 other.1
        ]
      ];
    }
