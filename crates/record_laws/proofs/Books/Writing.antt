-- What is written into a book: which slots and records it changes.
use Rattle.std.specs.Prelude.{◌≡◌, ◌≢◌, ℕ, zero, suc, ◌+◌, ◌≤◌, ◌⊎◌, Bool, true, false, cond, List, [], ◌∷◌, ◌++◌, length, slice_get, Option, Some, None}
use Rattle.std.proofs.Common.{inl, inr, refl, sym, ap, subst, ◌∙◌, arith}
use Rattle.std.proofs.lemmas.Option.{none-some, same_Some}
use Rattle.link_timers.specs.declared.role.Role.{Role}
use Rattle.link_timers.specs.declared.role.Role.TheVariants.{Dte, Dce}
use Rattle.link_timers.specs.Role.{other_of}
use Rattle.data_transfer.specs.Packets.{Note, Reason}
use Rattle.data_transfer.specs.Packets.Note.{Closed}
use Rattle.packet_channel.specs.Channel.{Channel}
use Rattle.packet_layer.specs.Layer.{closing_notes, had_call}
use Rattle.call_records.specs.Records.{RecordValue, PairValue, with_closed}
use Rattle.call_records.specs.Writes.{Write, written_by, all_written}
use Rattle.call_records.specs.Book.{Book, Slot, side_of, nth_slot, with_nth, found_slot, slot_at, with_slot, with_change, changed, with_record, closes, all_told}
use Rattle.record_laws.proofs.Books.Basics.{all_same, get_changed, length_changed, length_set, set_elsewhere, set_here, get_there, number_is, role_is}
use Rattle.record_laws.proofs.Books.Invariant.{AreOpen, book_parts}
use Rattle.record_laws.proofs.Books.Presence.{closing_open}
use Rattle.record_laws.proofs.Books.Ending.{Alike, alike}

-- ---- slots

pub nth_here : (slots : List Slot) (d : ℕ) (z : Slot) → 1 ≤ d → d ≤ length slots → nth_slot (with_nth slots d z) d ≡ z
nth_here slots zero z lo hi = absurd (omega arith)
nth_here slots (suc i) z lo hi =
    let g = get_there slots i (omega arith) in
    ap found_slot (set_here slots i z g.0 g.1)

pub nth_else : (slots : List Slot) (d c : ℕ) (z : Slot) → c ≢ d → nth_slot (with_nth slots d z) c ≡ nth_slot slots c
nth_else slots zero c z e = refl
nth_else slots (suc i) zero z e = refl
nth_else slots (suc i) (suc j) z e = ap found_slot (set_elsewhere slots i j z (λ h. e (ap suc h)))

pub slot_here : (x : Role) (d : ℕ) (z : Slot) (b : Book) → 1 ≤ d → d ≤ length (side_of x b).slots → slot_at x d (with_slot x d z b) ≡ z
slot_here Dte d z b lo hi = nth_here b.dte.slots d z lo hi
slot_here Dce d z b lo hi = nth_here b.dce.slots d z lo hi

pub slot_else : (x : Role) (d c : ℕ) (z : Slot) (b : Book) → c ≢ d → slot_at x c (with_slot x d z b) ≡ slot_at x c b
slot_else Dte d c z b e = nth_else b.dte.slots d c z e
slot_else Dce d c z b e = nth_else b.dce.slots d c z e

pub slot_there : (x : Role) (d c : ℕ) (z : Slot) (b : Book) → slot_at (other_of x) c (with_slot x d z b) ≡ slot_at (other_of x) c b
slot_there Dte d c z b = refl
slot_there Dce d c z b = refl

pub slot_changed : (y : Role) (c : ℕ) (o : Option ℕ) (f : RecordValue → RecordValue) (b : Book) → slot_at y c (with_change o f b) ≡ slot_at y c b
slot_changed Dte c None f b = refl
slot_changed Dte c (Some n) f b = refl
slot_changed Dce c None f b = refl
slot_changed Dce c (Some n) f b = refl

-- the numbers of slots
length_nth : (slots : List Slot) (d : ℕ) (z : Slot) → length (with_nth slots d z) ≡ length slots
length_nth slots zero z = refl
length_nth slots (suc i) z = length_set slots i z

-- what stays of a book
pub record SameSize (b b' : Book) : Type 0 where
  pub size : (y : Role) → length (side_of y b').slots ≡ length (side_of y b).slots
  pub node : (y : Role) → (side_of y b').node ≡ (side_of y b).node
  pub address : (y : Role) → (side_of y b').address ≡ (side_of y b).address

pub size_refl : (b : Book) → SameSize b b
size_refl b = record { size = λ y. refl; node = λ y. refl; address = λ y. refl }

pub size_trans : (a b c : Book) → SameSize a b → SameSize b c → SameSize a c
size_trans a b c p q = record { size = λ y. q.size y ∙ p.size y; node = λ y. q.node y ∙ p.node y; address = λ y. q.address y ∙ p.address y }

pub size_slot : (x : Role) (d : ℕ) (z : Slot) (b : Book) → SameSize b (with_slot x d z b)
size_slot x d z b = record { size = λ y. size x y; node = λ y. node x y; address = λ y. address x y }
  where
    size : (x y : Role) → length (side_of y (with_slot x d z b)).slots ≡ length (side_of y b).slots
    size Dte Dte = length_nth b.dte.slots d z
    size Dte Dce = refl
    size Dce Dte = refl
    size Dce Dce = length_nth b.dce.slots d z

    node : (x y : Role) → (side_of y (with_slot x d z b)).node ≡ (side_of y b).node
    node Dte Dte = refl
    node Dte Dce = refl
    node Dce Dte = refl
    node Dce Dce = refl

    address : (x y : Role) → (side_of y (with_slot x d z b)).address ≡ (side_of y b).address
    address Dte Dte = refl
    address Dte Dce = refl
    address Dce Dte = refl
    address Dce Dce = refl

pub size_changed : (o : Option ℕ) (f : RecordValue → RecordValue) (b : Book) → SameSize b (with_change o f b)
size_changed o f b = record { size = λ y. size o y; node = λ y. node o y; address = λ y. address o y }
  where
    size : (o : Option ℕ) (y : Role) → length (side_of y (with_change o f b)).slots ≡ length (side_of y b).slots
    size None y = refl
    size (Some n) Dte = refl
    size (Some n) Dce = refl

    node : (o : Option ℕ) (y : Role) → (side_of y (with_change o f b)).node ≡ (side_of y b).node
    node None y = refl
    node (Some n) Dte = refl
    node (Some n) Dce = refl

    address : (o : Option ℕ) (y : Role) → (side_of y (with_change o f b)).address ≡ (side_of y b).address
    address None y = refl
    address (Some n) Dte = refl
    address (Some n) Dce = refl

pub size_record : (r : RecordValue) (b : Book) → SameSize b (with_record r b)
size_record r b = record { size = λ y. size y; node = λ y. node y; address = λ y. address y }
  where
    size : (y : Role) → length (side_of y (with_record r b)).slots ≡ length (side_of y b).slots
    size Dte = refl
    size Dce = refl

    node : (y : Role) → (side_of y (with_record r b)).node ≡ (side_of y b).node
    node Dte = refl
    node Dce = refl

    address : (y : Role) → (side_of y (with_record r b)).address ≡ (side_of y b).address
    address Dte = refl
    address Dce = refl

-- pairs stay, and the book has its old parts with other slots and records
pub book_parts_same : (b b' : Book) → b'.pairs ≡ b.pairs → ((y : Role) → (side_of y b').node ≡ (side_of y b).node)
    → record (book_parts b) { slots = (book_parts b').slots; records = b'.records } ≡ book_parts b'
book_parts_same b b' p n =
    let e : (book_parts b).nodes ≡ (book_parts b').nodes = all_same (book_parts b).nodes (book_parts b').nodes (λ y. sym (n y)) in
    ap (λ (q : List PairValue). record { records = b'.records; pairs = q; slots = (book_parts b').slots; nodes = (book_parts b).nodes }) (sym p)
    ∙ ap (λ (m : Role → ℕ). record { records = b'.records; pairs = b'.pairs; slots = (book_parts b').slots; nodes = m }) e

-- ---- records

pub kept_changed : (o : Option ℕ) (f : RecordValue → RecordValue) (b : Book) → ((r : RecordValue) → Alike r (f r)) → (n : ℕ) (r' : RecordValue) → slice_get (with_change o f b).records n ≡ Some r'
    → (r : RecordValue) × (slice_get b.records n ≡ Some r) × Alike r r'
kept_changed None f b a n r' e = (r', e, alike r')
kept_changed (Some m) f b a n r' e =
    let g = get_changed b.records m f n r' e in (
      g.0,
      g.1,
      elim g.2 [
        | inl h ↦ subst (λ (z : RecordValue). Alike g.0 z) (sym h.1) (a g.0)
        | inr h ↦ subst (λ (z : RecordValue). Alike g.0 z) (sym h.1) (alike g.0)
      ],
    )

pub count_changed : (o : Option ℕ) (f : RecordValue → RecordValue) (b : Book) → length (with_change o f b).records ≡ length b.records
count_changed None f b = refl
count_changed (Some m) f b = length_changed b.records m f

pub pairs_changed : (o : Option ℕ) (f : RecordValue → RecordValue) (b : Book) → (with_change o f b).pairs ≡ b.pairs
pairs_changed None f b = refl
pairs_changed (Some m) f b = refl

records_slot : (x : Role) (d : ℕ) (z : Slot) (b : Book) → (with_slot x d z b).records ≡ b.records
records_slot Dte d z b = refl
records_slot Dce d z b = refl

pairs_slot : (x : Role) (d : ℕ) (z : Slot) (b : Book) → (with_slot x d z b).pairs ≡ b.pairs
pairs_slot Dte d z b = refl
pairs_slot Dce d z b = refl

-- ---- calls close

alike_trans : (a b c : RecordValue) → Alike a b → Alike b c → Alike a c
alike_trans a b c p q = record {
  head = record { number = q.head.number ∙ p.head.number; node = q.head.node ∙ p.head.node; own = q.head.own ∙ p.head.own; far = q.head.far ∙ p.head.far; caller = q.head.caller ∙ p.head.caller };
  sent_before = q.sent_before ∙ p.sent_before;
  sent = q.sent ∙ p.sent;
  taken_before = q.taken_before ∙ p.taken_before;
  taken = q.taken ∙ p.taken;
}

-- some calls of x closed
pub record Closes (x : Role) (b b' : Book) : Type 0 where
  pub size : SameSize b b'
  pub pairs : b'.pairs ≡ b.pairs
  pub there : (c : ℕ) → slot_at (other_of x) c b' ≡ slot_at (other_of x) c b
  pub placed : (c : ℕ) → (slot_at x c b').placed ≡ (slot_at x c b).placed
  pub present : (c : ℕ) → ((slot_at x c b').present ≡ None) ⊎ (slot_at x c b' ≡ slot_at x c b)
  pub opened : AreOpen (book_parts b).slots b.records → AreOpen (book_parts b').slots b'.records
  pub count : length b'.records ≡ length b.records
  pub kept : (n : ℕ) (r' : RecordValue) → slice_get b'.records n ≡ Some r' → (r : RecordValue) × (slice_get b.records n ≡ Some r) × Alike r r'

pub closes_none : (x : Role) (b : Book) → Closes x b b
closes_none x b = record {
  size = size_refl b;
  pairs = refl;
  there = λ c. refl;
  placed = λ c. refl;
  present = λ c. inr refl;
  opened = λ w. w;
  count = refl;
  kept = λ n r e. (r, e, alike r);
}

none_stays : (u v : Slot) → (v.present ≡ None) ⊎ (v ≡ u) → u.present ≡ None → v.present ≡ None
none_stays u v (inl e) h = e
none_stays u v (inr e) h = ap (λ (z : Slot). z.present) e ∙ h

closes_trans : (x : Role) (a b c : Book) → Closes x a b → Closes x b c → Closes x a c
closes_trans x a b c p q = record {
  size = size_trans a b c p.size q.size;
  pairs = q.pairs ∙ p.pairs;
  there = λ d. q.there d ∙ p.there d;
  placed = λ d. q.placed d ∙ p.placed d;
  present = λ d. elim (q.present d) [
    | inl e ↦ inl e
    | inr e ↦ elim (p.present d) [
      | inl h ↦ inl (ap (λ (z : Slot). z.present) e ∙ h)
      | inr h ↦ inr (e ∙ h)
    ]
  ];
  opened = λ w. q.opened (p.opened w);
  count = q.count ∙ p.count;
  kept = λ n r'' e. let k = q.kept n r'' e in let h = p.kept n k.0 k.1 in (h.0, h.1, alike_trans h.0 k.0 r'' h.2 k.2);
}

nth_closed : (slots : List Slot) (d : ℕ) (placed : Option ℕ) → (nth_slot slots d).placed ≡ placed
    → ((nth_slot (with_nth slots d (record { present = None; placed = placed; caller = None })) d).present ≡ None) × ((nth_slot (with_nth slots d (record { present = None; placed = placed; caller = None })) d).placed ≡ placed)
nth_closed slots zero p e = (refl, e)
nth_closed [] (suc i) p e = (refl, e)
nth_closed (z ∷ slots) (suc zero) p e = (refl, refl)
nth_closed (z ∷ slots) (suc (suc i)) p e = nth_closed slots (suc i) p e

closed_alike : (r : RecordValue) → Alike r (with_closed r)
closed_alike r = record { head = record { number = refl; node = refl; own = refl; far = refl; caller = refl }; sent_before = refl; sent = refl; taken_before = refl; taken = refl }

closed_slot : (x : Role) (d : ℕ) (b : Book) → ((slot_at x d (closes x d b)).present ≡ None) × ((slot_at x d (closes x d b)).placed ≡ (slot_at x d b).placed)
closed_slot Dte d b = nth_closed (side_of Dte (changed Dte d with_closed b)).slots d (slot_at Dte d b).placed (ap (λ (z : Slot). z.placed) (slot_changed Dte d (slot_at Dte d b).present with_closed b))
closed_slot Dce d b = nth_closed (side_of Dce (changed Dce d with_closed b)).slots d (slot_at Dce d b).placed (ap (λ (z : Slot). z.placed) (slot_changed Dce d (slot_at Dce d b).present with_closed b))

-- the other channels
closed_other : (x : Role) (d : ℕ) (b : Book) (y : Role) (c : ℕ) → ((y ≡ x) × (c ≡ d) → ⊥) → slot_at y c (closes x d b) ≡ slot_at y c b
closed_other x d b y c apart =
    let z : Slot = record (slot_at x d b) { present = None; caller = None } in
    let o : Option ℕ = (slot_at x d b).present in
    let v : Book = changed x d with_closed b in
    elim (role_is x y) [
      | inl e ↦ subst (λ (k : Role). slot_at k c (closes x d b) ≡ slot_at k c b) (sym e) (slot_else x d c z v (λ h. apart (e, h)) ∙ slot_changed x c o with_closed b)
      | inr e ↦ subst (λ (k : Role). slot_at k c (closes x d b) ≡ slot_at k c b) (sym e) (slot_there x d c z v ∙ slot_changed (other_of x) c o with_closed b)
    ]

-- the record of the call is closed, and any other one is as it was
closed_kept : (o : Option ℕ) (b : Book) (n : ℕ) (r' : RecordValue) → slice_get (with_change o with_closed b).records n ≡ Some r'
    → (r : RecordValue) × (slice_get b.records n ≡ Some r) × (((o ≡ Some n) × (r'.closed ≡ true)) ⊎ ((o ≡ Some n → ⊥) × (r'.closed ≡ r.closed)))
closed_kept None b n r' e = (r', e, inr (λ h. none-some n h, refl))
closed_kept (Some m) b n r' e =
    let g = get_changed b.records m with_closed n r' e in (
      g.0,
      g.1,
      elim g.2 [
        | inl h ↦ inl (ap (λ (k : ℕ). Some k) (sym h.0), ap (λ (r : RecordValue). r.closed) h.1)
        | inr h ↦ inr (λ k. h.0 (sym (same_Some m n k)), ap (λ (r : RecordValue). r.closed) h.1)
      ],
    )

pub closes_one : (x : Role) (d : ℕ) (b : Book) → Closes x b (closes x d b)
closes_one x d b =
    let z : Slot = record (slot_at x d b) { present = None; caller = None } in
    let o : Option ℕ = (slot_at x d b).present in
    let v : Book = changed x d with_closed b in
    record {
      size = size_trans b v (closes x d b) (size_changed o with_closed b) (size_slot x d z v);
      pairs = pairs_slot x d z v ∙ pairs_changed o with_closed b;
      there = λ c. slot_there x d c z v ∙ slot_changed (other_of x) c o with_closed b;
      placed = λ c. elim (number_is c d) [
        | inl e ↦ subst (λ (k : ℕ). (slot_at x k (closes x d b)).placed ≡ (slot_at x k b).placed) (sym e) (closed_slot x d b).1
        | inr e ↦ ap (λ (s : Slot). s.placed) (slot_else x d c z v e ∙ slot_changed x c o with_closed b)
      ];
      present = λ c. elim (number_is c d) [
        | inl e ↦ inl (subst (λ (k : ℕ). (slot_at x k (closes x d b)).present ≡ None) (sym e) (closed_slot x d b).0)
        | inr e ↦ inr (slot_else x d c z v e ∙ slot_changed x c o with_closed b)
      ];
      opened = closing_open x d (book_parts b).slots (book_parts (closes x d b)).slots b.records (closes x d b).records (closed_slot x d b).0 (closed_other x d b)
          (λ n r' e. closed_kept o b n r' (ap (λ (l : List RecordValue). slice_get l n) (sym (records_slot x d z v)) ∙ e));
      count = ap length (records_slot x d z v) ∙ count_changed o with_closed b;
      kept = λ n r' e. kept_changed o with_closed b closed_alike n r' (ap (λ (l : List RecordValue). slice_get l n) (sym (records_slot x d z v)) ∙ e);
    }

pub closed_here : (x : Role) (d : ℕ) (b : Book) → (slot_at x d (closes x d b)).present ≡ None
closed_here x d b = (closed_slot x d b).0

closes_by : (x : Role) (k : ℕ) (reason : Reason) (v : Bool) (notes : List Note) (b : Book) → ((u : Book) → Closes x u (all_told x notes u)) → Closes x b (all_told x (cond v (Closed k 9 0 reason ∷ notes) notes) b)
closes_by x k reason true notes b h = closes_trans x b (closes x k b) (all_told x notes (closes x k b)) (closes_one x k b) (h (closes x k b))
closes_by x k reason false notes b h = h b

told_by : (x : Role) (k : ℕ) (reason : Reason) (v : Bool) (notes : List Note) (n : ℕ) (b : Book) → ((u : Book) → (slot_at x n (all_told x notes u)).present ≡ None) → (slot_at x n (all_told x (cond v (Closed k 9 0 reason ∷ notes) notes) b)).present ≡ None
told_by x k reason true notes n b h = h (closes x k b)
told_by x k reason false notes n b h = h b

pub closed_else : (x : Role) (d : ℕ) (b : Book) (c : ℕ) → c ≢ d → slot_at x c (closes x d b) ≡ slot_at x c b
closed_else x d b c e = slot_else x d c (record (slot_at x d b) { present = None; caller = None }) (changed x d with_closed b) e ∙ slot_changed x c (slot_at x d b).present with_closed b

-- ---- shelves

pub slots_same : (b b' : Book) → ((y : Role) (c : ℕ) → slot_at y c b' ≡ slot_at y c b) → (book_parts b').slots ≡ (book_parts b).slots
slots_same b b' h = all_same (book_parts b').slots (book_parts b).slots (λ y. all_same ((book_parts b').slots y) ((book_parts b).slots y) (h y))

-- the book has its old parts with other records
pub book_parts_records : (b b' : Book) → b'.pairs ≡ b.pairs → ((y : Role) → (side_of y b').node ≡ (side_of y b).node) → ((y : Role) (c : ℕ) → slot_at y c b' ≡ slot_at y c b)
    → record (book_parts b) { records = b'.records } ≡ book_parts b'
book_parts_records b b' p n h =
    ap (λ (z : Role → ℕ → Slot). record { records = b'.records; pairs = b.pairs; slots = z; nodes = (book_parts b).nodes }) (sym (slots_same b b' h))
    ∙ book_parts_same b b' p n

pair_slots : (b : Book) (ps : List PairValue) (y : Role) (c : ℕ) → slot_at y c (record b { pairs = ps }) ≡ slot_at y c b
pair_slots b ps Dte c = refl
pair_slots b ps Dce c = refl

pair_nodes : (b : Book) (ps : List PairValue) (y : Role) → (side_of y (record b { pairs = ps })).node ≡ (side_of y b).node
pair_nodes b ps Dte = refl
pair_nodes b ps Dce = refl

pub book_parts_pairs : (b : Book) (ps : List PairValue) → record (book_parts b) { pairs = ps } ≡ book_parts (record b { pairs = ps })
book_parts_pairs b ps =
    ap (λ (z : Role → ℕ → Slot). record { records = b.records; pairs = ps; slots = z; nodes = (book_parts b).nodes }) (sym (slots_same b (record b { pairs = ps }) (pair_slots b ps)))
    ∙ ap (λ (m : Role → ℕ). record { records = b.records; pairs = ps; slots = (book_parts (record b { pairs = ps })).slots; nodes = m })
    (all_same (book_parts b).nodes (book_parts (record b { pairs = ps })).nodes (λ y. sym (pair_nodes b ps y)))

-- all calls of the channels from k on close
pub closes_all : (x : Role) (k : ℕ) (reason : Reason) (chs : List Channel) (b : Book) → Closes x b (all_told x (closing_notes k reason chs) b)
closes_all x k reason [] b = closes_none x b
closes_all x k reason (ch ∷ chs) b = closes_by x k reason (had_call ch.state) (closing_notes (suc k) reason chs) b (λ v. closes_all x (suc k) reason chs v)

pub closed_all : (x : Role) (k : ℕ) (reason : Reason) (chs : List Channel) (b : Book) (i : ℕ) (ch : Channel) → slice_get chs i ≡ Some ch → had_call ch.state ≡ true → (slot_at x (k + i) (all_told x (closing_notes k reason chs) b)).present ≡ None
closed_all x k reason [] b i ch e h = absurd (none-some ch e)
closed_all x k reason (c ∷ chs) b zero ch e h =
    let is : had_call c.state ≡ true = ap (λ (z : Channel). had_call z.state) (same_Some c ch e) ∙ h in
    let number : k + 0 ≡ k = omega arith in
    subst (λ (n : ℕ). (slot_at x n (all_told x (cond (had_call c.state) (Closed k 9 0 reason ∷ closing_notes (suc k) reason chs) (closing_notes (suc k) reason chs)) b)).present ≡ None) (sym number)
    (subst (λ (v : Bool). (slot_at x k (all_told x (cond v (Closed k 9 0 reason ∷ closing_notes (suc k) reason chs) (closing_notes (suc k) reason chs)) b)).present ≡ None) (sym is)
    (none_stays (slot_at x k (closes x k b)) (slot_at x k (all_told x (closing_notes (suc k) reason chs) (closes x k b))) ((closes_all x (suc k) reason chs (closes x k b)).present k) (closed_here x k b)))
closed_all x k reason (c ∷ chs) b (suc i) ch e h =
    let number : suc k + i ≡ k + suc i = omega arith in
    told_by x k reason (had_call c.state) (closing_notes (suc k) reason chs) (k + suc i) b
    (λ u. subst (λ (n : ℕ). (slot_at x n (all_told x (closing_notes (suc k) reason chs) u)).present ≡ None) number (closed_all x (suc k) reason chs u i ch e h))

-- ---- writes, one after the other

pub written_append : (role : Role) (xs ys : List Write) (b : Book) → all_written role (xs ++ ys) b ≡ all_written role ys (all_written role xs b)
written_append role [] ys b = refl
written_append role (x ∷ xs) ys b = written_append role xs ys (written_by role x b)
