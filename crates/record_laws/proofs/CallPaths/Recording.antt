-- Each origin has the caller that its record has, whatever is written.
use Rattle.std.proofs.Common.{◌≡◌, ℕ, zero, suc, List, [], ◌∷◌, ◌++◌, length, map, Option, Some, None, refl, sym, ap, ap₂, ◌∙◌}
use Rattle.link_timers.specs.declared.role.Role.{Role}
use Rattle.link_timers.specs.Role.{other_of}
use Rattle.data_transfer.specs.Packets.{CallParts}
use Rattle.call_records.specs.Records.{RecordValue, changed_at, with_closed}
use Rattle.call_records.specs.Book.{Book, Slot, side_of, slot_at, with_slot, with_record, with_change, changed, with_pair, closes}
use Rattle.call_records.specs.Closing.{closes_if, closes_present, closed_from}
use Rattle.call_records.specs.Carried.{placed_on}
use Rattle.call_records.specs.Writes.{Write, all_written}
use Rattle.record_laws.proofs.Books.Basics.{map_pushed}
use Rattle.record_laws.proofs.Registers.Steps.{records_put}
use Rattle.record_laws.specs.CallPaths.World.{Origin, placing, coming, with_placed, all_traced}
use Rattle.record_laws.specs.CallPaths.Lines.{AreRecorded}
use Rattle.record_laws.proofs.CallPaths.Records.{IsMild}
use Rattle.record_laws.proofs.CallPaths.Writing.{closing_mild}
use Rattle.record_laws.proofs.CallPaths.Inducing.{Property, Holds, Each, writes_hold}

abbrev callers_in : List RecordValue → List (Option ℕ)
callers_in rs = map (λ (r : RecordValue). r.caller) rs

-- ---- steps that add no record

callers_changed : (rs : List RecordValue) (n : ℕ) (f : RecordValue → RecordValue) → IsMild f → callers_in (changed_at n f rs) ≡ callers_in rs
callers_changed [] n f mild = refl
callers_changed (r ∷ rs) zero f mild = ap (λ (c : Option ℕ). c ∷ callers_in rs) (mild.caller r)
callers_changed (r ∷ rs) (suc n) f mild = ap (λ (cs : List (Option ℕ)). r.caller ∷ cs) (callers_changed rs n f mild)

change_recorded : (o : Option ℕ) (f : RecordValue → RecordValue) (b : Book) → IsMild f → callers_in (with_change o f b).records ≡ callers_in b.records
change_recorded None f b mild = refl
change_recorded (Some n) f b mild = callers_changed b.records n f mild

put_recorded : (x : Role) (c : ℕ) (s : Slot) (b : Book) → callers_in (with_slot x c s b).records ≡ callers_in b.records
put_recorded x c s b = ap callers_in (records_put x c s b)

closes_recorded : (x : Role) (c : ℕ) (b : Book) → callers_in (closes x c b).records ≡ callers_in b.records
closes_recorded x c b =
    put_recorded x c (record (slot_at x c b) { present = None; caller = None }) (changed x c with_closed b) ∙ change_recorded (slot_at x c b).present with_closed b closing_mild

close_recorded : (o : Option ℕ) (x : Role) (c : ℕ) (b : Book) → callers_in (closes_if o x c b).records ≡ callers_in b.records
close_recorded None x c b = refl
close_recorded (Some n) x c b = closes_recorded x c b

closed_recorded : (count c : ℕ) (x : Role) (b : Book) → callers_in (closed_from count c x b).records ≡ callers_in b.records
closed_recorded zero c x b = refl
closed_recorded (suc count) c x b = closed_recorded count (suc c) x (closes_present x c b) ∙ close_recorded (slot_at x c b).present x c b

pair_recorded : (o p : Option ℕ) (b : Book) → callers_in (with_pair o p b).records ≡ callers_in b.records
pair_recorded None p b = refl
pair_recorded (Some n) None b = refl
pair_recorded (Some n) (Some m) b = refl

-- ---- a record more

added : (os : List Origin) (rs : List RecordValue) (o : Origin) (r : RecordValue) → o.caller ≡ r.caller → AreRecorded os rs → AreRecorded (os ++ o ∷ []) (rs ++ r ∷ [])
added os rs o r e h =
    map_pushed (λ (p : Origin). p.caller) os o ∙ ap₂ (λ (cs : List (Option ℕ)) (c : Option ℕ). cs ++ c ∷ []) h e ∙ sym (map_pushed (λ (q : RecordValue). q.caller) rs r)

new_recorded : (os : List Origin) (o : Origin) (x : Role) (c : ℕ) (s : Slot) (r : RecordValue) (b : Book) → o.caller ≡ r.caller → AreRecorded os b.records
    → AreRecorded (os ++ o ∷ []) (with_slot x c s (with_record r b)).records
new_recorded os o x c s r b e h = added os b.records o r e h ∙ sym (put_recorded x c s (with_record r b))

-- ---- all writes

abbrev Records : Property
Records f s = (b : Book) (os : List Origin) → AreRecorded os b.records → AreRecorded (s b os) (f b).records

abbrev Any : Write → Type 0
Any write = Unit {0}

any_each : (writes : List Write) → Each Any writes
any_each [] = tt
any_each (write ∷ writes) = (tt, any_each writes)

placed_recorded : (line : ℕ) (x : Role) (o : Option ℕ) (parts : CallParts) (b : Book) (os : List Origin) → AreRecorded os b.records
    → AreRecorded (with_placed line x o os) (placed_on x o parts b).records
placed_recorded line x None parts b os h = h
placed_recorded line x (Some c) parts b os h = new_recorded os (placing line x) x c _ _ b refl h

all_recorded : (line : ℕ) (x : Role) → Holds line x Any Records
all_recorded line x = record {
  same = λ b os h. h;
  in_turn = λ f g s t p q b os h. q (f b) (s b os) (p b os h);
  changes = λ c f mild b os h. h ∙ sym (change_recorded (slot_at x c b).present f b mild);
  comes_in = λ c parts b os h. new_recorded os (coming line x (slot_at (other_of x) c b).placed) x c _ _ b refl h;
  accepts = λ c b os h. h ∙ sym (pair_recorded (slot_at x c b).caller (slot_at x c b).present b);
  ends = λ c b os h. h ∙ sym (closes_recorded x c b);
  ends_all = λ b os h. h ∙ sym (closed_recorded (length (side_of x b).slots) 1 x b);
  places = λ o parts may b os h. placed_recorded line x o parts b os h;
}

pub writes_recorded : (line : ℕ) (x : Role) (writes : List Write) (b : Book) (os : List Origin) → AreRecorded os b.records
    → AreRecorded (all_traced line x writes b os) (all_written x writes b).records
writes_recorded line x writes = writes_hold line x Any Records (all_recorded line x) writes (any_each writes)
