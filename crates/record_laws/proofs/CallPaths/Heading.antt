-- No write changes the node or the addresses of a record, nor where a record comes from.
use Rattle.std.proofs.Common.{◌≡◌, ℕ, zero, suc, List, [], ◌∷◌, ◌++◌, length, Option, Some, None, refl, ap, ◌∙◌}
use Rattle.std.specs.Prelude.{slice_get}
use Rattle.std.proofs.lemmas.Option.{none-some, same_Some}
use Rattle.link_timers.specs.declared.role.Role.{Role}
use Rattle.link_timers.specs.declared.role.Role.TheVariants.{Dte, Dce}
use Rattle.data_transfer.specs.Packets.{CallParts}
use Rattle.call_records.specs.Records.{RecordValue, changed_at, with_closed}
use Rattle.call_records.specs.Book.{Book, Slot, side_of, slot_at, with_slot, with_record, with_change, changed, with_pair, closes}
use Rattle.call_records.specs.Closing.{closes_if, closes_present, closed_from}
use Rattle.call_records.specs.Carried.{placed_on}
use Rattle.call_records.specs.Writes.{Write, all_written}
use Rattle.record_laws.proofs.Books.Basics.{get_before}
use Rattle.record_laws.specs.CallPaths.World.{Origin, with_placed, all_traced}
use Rattle.record_laws.proofs.CallPaths.Records.{KeepsHead, keeps_head}
use Rattle.record_laws.proofs.CallPaths.Inducing.{Holds, Each, writes_hold}
use Rattle.record_laws.proofs.CallPaths.Writing.{closing_mild}

-- the record of this number has the node and the addresses of that one
pub record IsHeaded (r : RecordValue) (n : ℕ) (rs : List RecordValue) : Type 0 where
  pub it : RecordValue
  pub there : slice_get rs n ≡ Some it
  pub node : it.node ≡ r.node
  pub own : it.own ≡ r.own
  pub far : it.far ≡ r.far

record Stays (f : Book → Book) (t : Book → List Origin → List Origin) : Type 0 where
  pub headed : (n : ℕ) (r : RecordValue) (b : Book) → IsHeaded r n b.records → IsHeaded r n (f b).records
  pub origin : (b : Book) (os : List Origin) (i : ℕ) (o : Origin) → slice_get os i ≡ Some o → slice_get (t b os) i ≡ Some o

changed_headed : (rs : List RecordValue) (m n : ℕ) (f : RecordValue → RecordValue) (r : RecordValue) → KeepsHead f → IsHeaded r n rs → IsHeaded r n (changed_at m f rs)
changed_headed [] m n f r mild h = absurd (none-some h.it h.there)
changed_headed (s ∷ rs) zero zero f r mild h =
    let same : s ≡ h.it = same_Some s h.it h.there in
    record {
      it = f s;
      there = refl;
      node = mild.node s ∙ ap (λ (x : RecordValue). x.node) same ∙ h.node;
      own = mild.own s ∙ ap (λ (x : RecordValue). x.own) same ∙ h.own;
      far = mild.far s ∙ ap (λ (x : RecordValue). x.far) same ∙ h.far;
    }
changed_headed (s ∷ rs) zero (suc n) f r mild h = record { it = h.it; there = h.there; node = h.node; own = h.own; far = h.far }
changed_headed (s ∷ rs) (suc m) zero f r mild h = record { it = h.it; there = h.there; node = h.node; own = h.own; far = h.far }
changed_headed (s ∷ rs) (suc m) (suc n) f r mild h =
    let k = changed_headed rs m n f r mild (record { it = h.it; there = h.there; node = h.node; own = h.own; far = h.far }) in
    record { it = k.it; there = k.there; node = k.node; own = k.own; far = k.far }

pub change_headed : (o : Option ℕ) (f : RecordValue → RecordValue) (n : ℕ) (r : RecordValue) (b : Book) → KeepsHead f → IsHeaded r n b.records → IsHeaded r n (with_change o f b).records
change_headed None f n r b mild h = h
change_headed (Some m) f n r b mild h = changed_headed b.records m n f r mild h

pub more_headed : (n : ℕ) (r new : RecordValue) (rs : List RecordValue) → IsHeaded r n rs → IsHeaded r n (rs ++ new ∷ [])
more_headed n r new rs h = record { it = h.it; there = get_before rs (new ∷ []) n h.it h.there; node = h.node; own = h.own; far = h.far }

pub slot_records : (x : Role) (c : ℕ) (z : Slot) (b : Book) → (with_slot x c z b).records ≡ b.records
slot_records Dte c z b = refl
slot_records Dce c z b = refl

pub same_headed : (n : ℕ) (r : RecordValue) (rs ss : List RecordValue) → ss ≡ rs → IsHeaded r n rs → IsHeaded r n ss
same_headed n r rs ss e h = record { it = h.it; there = ap (λ (xs : List RecordValue). slice_get xs n) e ∙ h.there; node = h.node; own = h.own; far = h.far }

pub closes_headed : (x : Role) (c n : ℕ) (r : RecordValue) (b : Book) → IsHeaded r n b.records → IsHeaded r n (closes x c b).records
closes_headed x c n r b h =
    same_headed n r (changed x c with_closed b).records (closes x c b).records (slot_records x c (record (slot_at x c b) { present = None; caller = None }) (changed x c with_closed b))
    (change_headed (slot_at x c b).present with_closed n r b (keeps_head with_closed closing_mild) h)

close_headed : (x : Role) (o : Option ℕ) (c n : ℕ) (r : RecordValue) (b : Book) → IsHeaded r n b.records → IsHeaded r n (closes_if o x c b).records
close_headed x None c n r b h = h
close_headed x (Some k) c n r b h = closes_headed x c n r b h

pub closed_headed : (x : Role) (count c n : ℕ) (r : RecordValue) (b : Book) → IsHeaded r n b.records → IsHeaded r n (closed_from count c x b).records
closed_headed x zero c n r b h = h
closed_headed x (suc count) c n r b h = closed_headed x count (suc c) n r (closes_present x c b) (close_headed x (slot_at x c b).present c n r b h)

pub pair_headed : (o p : Option ℕ) (n : ℕ) (r : RecordValue) (b : Book) → IsHeaded r n b.records → IsHeaded r n (with_pair o p b).records
pair_headed None p n r b h = h
pair_headed (Some k) None n r b h = h
pair_headed (Some k) (Some m) n r b h = h

pub new_headed : (x : Role) (c : ℕ) (z : Slot) (new : RecordValue) (n : ℕ) (r : RecordValue) (b : Book) → IsHeaded r n b.records → IsHeaded r n (with_slot x c z (with_record new b)).records
new_headed x c z new n r b h = same_headed n r (b.records ++ new ∷ []) _ (slot_records x c z (with_record new b)) (more_headed n r new b.records h)

placed_headed : (x : Role) (o : Option ℕ) (parts : CallParts) (n : ℕ) (r : RecordValue) (b : Book) → IsHeaded r n b.records → IsHeaded r n (placed_on x o parts b).records
placed_headed x None parts n r b h = h
placed_headed x (Some c) parts n r b h = new_headed x c _ _ n r b h

placed_origin : (line : ℕ) (x : Role) (p : Option ℕ) (os : List Origin) (i : ℕ) (o : Origin) → slice_get os i ≡ Some o → slice_get (with_placed line x p os) i ≡ Some o
placed_origin line x None os i o e = e
placed_origin line x (Some c) os i o e = get_before os _ i o e

abbrev Any : Write → Type 0
Any write = Unit {0}

any_each : (writes : List Write) → Each Any writes
any_each [] = tt
any_each (write ∷ writes) = (tt, any_each writes)

stays : (line : ℕ) (x : Role) → Holds line x Any Stays
stays line x = record {
  same = record { headed = λ n r b h. h; origin = λ b os i o e. e };
  in_turn = λ f g s t p q. record { headed = λ n r b h. q.headed n r (f b) (p.headed n r b h); origin = λ b os i o e. q.origin (f b) (s b os) i o (p.origin b os i o e) };
  changes = λ c f mild. record { headed = λ n r b h. change_headed (slot_at x c b).present f n r b (keeps_head f mild) h; origin = λ b os i o e. e };
  comes_in = λ c parts. record { headed = λ n r b h. new_headed x c _ _ n r b h; origin = λ b os i o e. get_before os _ i o e };
  accepts = λ c. record { headed = λ n r b h. pair_headed (slot_at x c b).caller (slot_at x c b).present n r b h; origin = λ b os i o e. e };
  ends = λ c. record { headed = λ n r b h. closes_headed x c n r b h; origin = λ b os i o e. e };
  ends_all = record { headed = λ n r b h. closed_headed x (length (side_of x b).slots) 1 n r b h; origin = λ b os i o e. e };
  places = λ o parts may. record { headed = λ n r b h. placed_headed x o parts n r b h; origin = λ b os i p e. placed_origin line x o os i p e };
}

pub all_headed : (line : ℕ) (x : Role) (writes : List Write) (n : ℕ) (r : RecordValue) (b : Book) → IsHeaded r n b.records → IsHeaded r n (all_written x writes b).records
all_headed line x writes = (writes_hold line x Any Stays (stays line x) writes (any_each writes)).headed

pub all_origins : (line : ℕ) (x : Role) (writes : List Write) (b : Book) (os : List Origin) (i : ℕ) (o : Origin) → slice_get os i ≡ Some o → slice_get (all_traced line x writes b os) i ≡ Some o
all_origins line x writes = (writes_hold line x Any Stays (stays line x) writes (any_each writes)).origin
