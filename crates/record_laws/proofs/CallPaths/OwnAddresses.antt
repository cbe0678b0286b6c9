-- The own address of a call that a user placed is that of its line.
use Rattle.std.proofs.Common.{◌≡◌, ℕ, zero, suc, ◌<◌, ◌+◌, ◌⊎◌, inl, inr, Bool, true, false, List, [], ◌∷◌, ◌++◌, length, set, replicate, Option, Some, None, refl, sym, ap, subst, ◌∙◌, length-append, arith}
use Rattle.std.specs.Prelude.{slice_get, is_some, if◌then◌else◌}
use Rattle.std.proofs.lemmas.Option.{none-some, same_Some, slice_get_within}
use Rattle.std.proofs.lemmas.List.{length-set}
use Rattle.link_timers.specs.declared.role.Role.{Role}
use Rattle.link_timers.specs.declared.role.Role.TheVariants.{Dte, Dce}
use Rattle.link_timers.specs.Role.{other_of}
use Rattle.data_transfer.specs.Packets.{CallParts}
use Rattle.data_transfer.specs.Packets.Note.{Incoming}
use Rattle.packet_channel.specs.Channel.Request.{Accept}
use Rattle.call_records.specs.Records.{RecordValue, HopValue, PairValue, new_record, with_closed, with_hop}
use Rattle.call_records.specs.Book.{Book, Side, Slot, free_slot, side_of, nth_slot, with_nth, found_slot, slot_at, with_slot, with_change, changed, with_record, with_pair, address_of, calling_from, closes, answers}
use Rattle.call_records.specs.Closing.{closes_if, closes_present, closed_from}
use Rattle.call_records.specs.Carried.{placed_on}
use Rattle.call_records.specs.Writes.{Write, all_written}
use Rattle.call_records.specs.Writes.Write.{Told, Placed, Asked}
use Rattle.call_records.specs.Register.{Register, LineEnds, LinePlan, ChannelEnd, book_at, found_ends, with_book, written_at, all_written_at, holds, holder_at, goes_on, free_ends, with_free_line, with_line, with_lines, with_standing_call, no_parts, made_register, empty_register}
use Rattle.record_laws.proofs.Books.Basics.{get_before, get_last, get_pushed, get_there, number_is}
use Rattle.record_laws.proofs.Books.Writing.{SameSize, size_refl, size_trans, size_slot, size_changed, size_record, slot_changed, pairs_changed}
use Rattle.record_laws.specs.Registers.Giving.{GivesNone, AllGiveNone}
use Rattle.record_laws.specs.CallPaths.World.{Origin, all_traced}
use Rattle.record_laws.specs.CallPaths.OwnAddresses.{IsAddressAt, HasOwnAddress, HaveOwnAddresses, MadeOwnLaw, WriteOwnLaw, HandedOwnLaw, two_lines, calls_two, OwnRun}
use Rattle.record_laws.proofs.CallPaths.Records.{KeepsHead, keeps_head, hop_keeps_head}
use Rattle.record_laws.proofs.CallPaths.Writing.{closing_mild}
use Rattle.record_laws.proofs.CallPaths.Inducing.{Holds, Each, writes_hold}
use Rattle.record_laws.proofs.CallPaths.Heading.{IsHeaded, change_headed, closes_headed, pair_headed, new_headed}
use Rattle.record_laws.proofs.CallPaths.SeenAfterEvents.{IsWritten, book_written}

-- ---- slots

-- what holds of all slots, and of one that is put, holds of all then
put_all : (P : Slot → Type 0) (xs : List Slot) (n : ℕ) (z : Slot) → ((i : ℕ) → P (found_slot (slice_get xs i))) → P z → (i : ℕ) → P (found_slot (slice_get (set xs n z) i))
put_all P [] n z h w i = h i
put_all P (x ∷ xs) zero z h w zero = w
put_all P (x ∷ xs) zero z h w (suc i) = h (suc i)
put_all P (x ∷ xs) (suc n) z h w zero = h 0
put_all P (x ∷ xs) (suc n) z h w (suc i) = put_all P xs n z (λ k. h (suc k)) w i

nth_all : (P : Slot → Type 0) (xs : List Slot) (c : ℕ) (z : Slot) → ((d : ℕ) → P (nth_slot xs d)) → P z → (d : ℕ) → P (nth_slot (with_nth xs c z) d)
nth_all P xs zero z h w d = h d
nth_all P xs (suc c) z h w zero = h 0
nth_all P xs (suc c) z h w (suc d) = put_all P xs c z (λ i. h (suc i)) w d

slots_all : (P : Slot → Type 0) (x : Role) (c : ℕ) (z : Slot) (b : Book) → ((y : Role) (d : ℕ) → P (slot_at y d b)) → P z → (y : Role) (d : ℕ) → P (slot_at y d (with_slot x c z b))
slots_all P Dte c z b h w Dte d = nth_all P b.dte.slots c z (λ k. h Dte k) w d
slots_all P Dte c z b h w Dce d = h Dce d
slots_all P Dce c z b h w Dte d = h Dte d
slots_all P Dce c z b h w Dce d = nth_all P b.dce.slots c z (λ k. h Dce k) w d

free_at : (n i : ℕ) → found_slot (slice_get (replicate n free_slot) i) ≡ free_slot
free_at zero i = refl
free_at (suc n) zero = refl
free_at (suc n) (suc i) = free_at n i

free_slots : (n c : ℕ) → nth_slot (replicate n free_slot) c ≡ free_slot
free_slots n zero = refl
free_slots n (suc i) = free_at n i

-- ---- one book, where this is the relation of a node to the address of its line

module _ (At : ℕ → Option (List ℕ) → Type 0) where
  record Owns (rs : List RecordValue) (n : ℕ) : Type 0 where
    value : RecordValue
    there : slice_get rs n ≡ Some value
    own : At value.node value.own

  record SlotOwns (rs : List RecordValue) (z : Slot) : Type 0 where
    placed : (n : ℕ) → z.placed ≡ Some n → Owns rs n
    came : (n : ℕ) → z.caller ≡ Some n → Owns rs n

  record BookOwns (b : Book) : Type 0 where
    sides : (x : Role) → At (side_of x b).node (address_of (side_of x b).address)
    slots : (x : Role) (c : ℕ) → SlotOwns b.records (slot_at x c b)
    pairs : (i : ℕ) (p : PairValue) → slice_get b.pairs i ≡ Some p → Owns b.records p.caller

  owns_headed : (r : RecordValue) (rs : List RecordValue) (n : ℕ) → At r.node r.own → IsHeaded r n rs → Owns rs n
  owns_headed r rs n a h = record { value = h.it; there = h.there; own = subst (λ (own : Option (List ℕ)). At h.it.node own) (sym h.own) (subst (λ (node : ℕ). At node r.own) (sym h.node) a) }

  headed : (rs : List RecordValue) (n : ℕ) (o : Owns rs n) → IsHeaded o.value n rs
  headed rs n o = record { it = o.value; there = o.there; node = refl; own = refl; far = refl }

  slot_owns : (rs ss : List RecordValue) (z : Slot) → ((n : ℕ) → Owns rs n → Owns ss n) → SlotOwns rs z → SlotOwns ss z
  slot_owns rs ss z more s = record { placed = λ n e. more n (s.placed n e); came = λ n e. more n (s.came n e) }

  sides_kept : (b c : Book) → SameSize b c → ((x : Role) → At (side_of x b).node (address_of (side_of x b).address)) → (x : Role) → At (side_of x c).node (address_of (side_of x c).address)
  sides_kept b c same h x =
      subst (λ (node : ℕ). At node (address_of (side_of x c).address)) (sym (same.node x))
      (subst (λ (address : List ℕ). At (side_of x b).node (address_of address)) (sym (same.address x)) (h x))

  -- what a write does: it leaves the ends as they are, and each record has its own address still
  record Step (f : Book → Book) (t : Book → List Origin → List Origin) : Type 0 where
    size : (b : Book) → SameSize b (f b)
    keeps : (b : Book) (n : ℕ) → Owns b.records n → Owns (f b).records n
    owns : (b : Book) → BookOwns b → BookOwns (f b)

  change_owns : (o : Option ℕ) (f : RecordValue → RecordValue) (b : Book) → KeepsHead f → (n : ℕ) → Owns b.records n → Owns (with_change o f b).records n
  change_owns o f b mild n h = owns_headed h.value (with_change o f b).records n h.own (change_headed o f n h.value b mild (headed b.records n h))

  change_step : (o : Option ℕ) (f : RecordValue → RecordValue) (b : Book) → KeepsHead f → BookOwns b → BookOwns (with_change o f b)
  change_step o f b mild w = record {
    sides = sides_kept b (with_change o f b) (size_changed o f b) w.sides;
    slots = λ x c. subst (λ (z : Slot). SlotOwns (with_change o f b).records z) (sym (slot_changed x c o f b))
        (slot_owns b.records (with_change o f b).records (slot_at x c b) (change_owns o f b mild) (w.slots x c));
    pairs = λ i p e. change_owns o f b mild p.caller (w.pairs i p (ap (λ (ps : List PairValue). slice_get ps i) (sym (pairs_changed o f b)) ∙ e));
  }

  slot_pairs : (x : Role) (c : ℕ) (z : Slot) (b : Book) → (with_slot x c z b).pairs ≡ b.pairs
  slot_pairs Dte c z b = refl
  slot_pairs Dce c z b = refl

  slot_records : (x : Role) (c : ℕ) (z : Slot) (b : Book) → (with_slot x c z b).records ≡ b.records
  slot_records Dte c z b = refl
  slot_records Dce c z b = refl

  same_records : (b c : Book) → c.records ≡ b.records → (n : ℕ) → Owns b.records n → Owns c.records n
  same_records b c e n h = subst (λ (rs : List RecordValue). Owns rs n) (sym e) h

  put_step : (x : Role) (c : ℕ) (z : Slot) (b : Book) → SlotOwns b.records z → BookOwns b → BookOwns (with_slot x c z b)
  put_step x c z b own w =
      let same = slot_records x c z b in
      record {
        sides = sides_kept b (with_slot x c z b) (size_slot x c z b) w.sides;
        slots = slots_all (λ (s : Slot). SlotOwns (with_slot x c z b).records s) x c z b
            (λ y d. slot_owns b.records (with_slot x c z b).records (slot_at y d b) (same_records b (with_slot x c z b) same) (w.slots y d))
            (slot_owns b.records (with_slot x c z b).records z (same_records b (with_slot x c z b) same) own);
        pairs = λ i p e. same_records b (with_slot x c z b) same p.caller (w.pairs i p (ap (λ (ps : List PairValue). slice_get ps i) (sym (slot_pairs x c z b)) ∙ e));
      }

  more_owns : (r : RecordValue) (b : Book) (n : ℕ) → Owns b.records n → Owns (with_record r b).records n
  more_owns r b n h = record { value = h.value; there = get_before b.records (r ∷ []) n h.value h.there; own = h.own }

  record_slots : (r : RecordValue) (b : Book) (x : Role) (c : ℕ) → slot_at x c (with_record r b) ≡ slot_at x c b
  record_slots r b Dte c = refl
  record_slots r b Dce c = refl

  record_step : (r : RecordValue) (b : Book) → BookOwns b → BookOwns (with_record r b)
  record_step r b w = record {
    sides = sides_kept b (with_record r b) (size_record r b) w.sides;
    slots = λ x c. subst (λ (z : Slot). SlotOwns (with_record r b).records z) (sym (record_slots r b x c))
        (slot_owns b.records (with_record r b).records (slot_at x c b) (more_owns r b) (w.slots x c));
    pairs = λ i p e. more_owns r b p.caller (w.pairs i p e);
  }

  new_keeps : (x : Role) (c : ℕ) (z : Slot) (r : RecordValue) (b : Book) (n : ℕ) → Owns b.records n → Owns (with_slot x c z (with_record r b)).records n
  new_keeps x c z r b n h = owns_headed h.value _ n h.own (new_headed x c z r n h.value b (headed b.records n h))

  new_size : (x : Role) (c : ℕ) (z : Slot) (r : RecordValue) (b : Book) → SameSize b (with_slot x c z (with_record r b))
  new_size x c z r b = size_trans b (with_record r b) (with_slot x c z (with_record r b)) (size_record r b) (size_slot x c z (with_record r b))

  -- ---- pairs

  pair_size : (o p : Option ℕ) (b : Book) → SameSize b (with_pair o p b)
  pair_size None p b = size_refl b
  pair_size (Some k) None b = size_refl b
  pair_size (Some k) (Some m) b = record { size = size; node = node; address = address }
    where
      size : (y : Role) → length (side_of y (with_pair (Some k) (Some m) b)).slots ≡ length (side_of y b).slots
      size Dte = refl
      size Dce = refl

      node : (y : Role) → (side_of y (with_pair (Some k) (Some m) b)).node ≡ (side_of y b).node
      node Dte = refl
      node Dce = refl

      address : (y : Role) → (side_of y (with_pair (Some k) (Some m) b)).address ≡ (side_of y b).address
      address Dte = refl
      address Dce = refl

  pair_step : (o p : Option ℕ) (b : Book) → ((n : ℕ) → o ≡ Some n → Owns b.records n) → BookOwns b → BookOwns (with_pair o p b)
  pair_step None p b own w = w
  pair_step (Some k) None b own w = w
  pair_step (Some k) (Some m) b own w = record { sides = sides; slots = slots; pairs = pairs }
    where
      sides : (x : Role) → At (side_of x (with_pair (Some k) (Some m) b)).node (address_of (side_of x (with_pair (Some k) (Some m) b)).address)
      sides Dte = w.sides Dte
      sides Dce = w.sides Dce

      slots : (x : Role) (c : ℕ) → SlotOwns b.records (slot_at x c (with_pair (Some k) (Some m) b))
      slots Dte c = w.slots Dte c
      slots Dce c = w.slots Dce c

      pairs : (i : ℕ) (p : PairValue) → slice_get (b.pairs ++ record { caller = k; callee = m } ∷ []) i ≡ Some p → Owns b.records p.caller
      pairs i p e = elim (get_pushed b.pairs (record { caller = k; callee = m }) i p e) [
        | inl h ↦ w.pairs i p h
        | inr h ↦ subst (λ (n : ℕ). Owns b.records n) (sym (ap (λ (q : PairValue). q.caller) h.1)) (own k refl)
      ]

  -- ---- calls end

  closes_step : (x : Role) (c : ℕ) → Step (closes x c) (λ b os. os)
  closes_step x c = record {
    size = λ b. size_trans b (changed x c with_closed b) (closes x c b) (size_changed (slot_at x c b).present with_closed b)
        (size_slot x c (record (slot_at x c b) { present = None; caller = None }) (changed x c with_closed b));
    keeps = λ b n h. owns_headed h.value (closes x c b).records n h.own (closes_headed x c n h.value b (headed b.records n h));
    owns = λ b w. put_step x c (record (slot_at x c b) { present = None; caller = None }) (changed x c with_closed b)
        (record {
          placed = λ n e. change_owns (slot_at x c b).present with_closed b (keeps_head with_closed closing_mild) n ((w.slots x c).placed n e);
          came = λ n e. absurd (none-some n e);
        })
        (change_step (slot_at x c b).present with_closed b (keeps_head with_closed closing_mild) w);
  }

  still : Step (λ b. b) (λ b os. os)
  still = record { size = size_refl; keeps = λ b n h. h; owns = λ b w. w }

  in_turn : (f g : Book → Book) (s t : Book → List Origin → List Origin) → Step f s → Step g t → Step (λ b. g (f b)) (λ b os. t (f b) (s b os))
  in_turn f g s t p q = record {
    size = λ b. size_trans b (f b) (g (f b)) (p.size b) (q.size (f b));
    keeps = λ b n h. q.keeps (f b) n (p.keeps b n h);
    owns = λ b w. q.owns (f b) (p.owns b w);
  }

  if_step : (o : Option ℕ) (x : Role) (c : ℕ) → Step (closes_if o x c) (λ b os. os)
  if_step None x c = still
  if_step (Some n) x c = closes_step x c

  present_step : (x : Role) (c : ℕ) → Step (closes_present x c) (λ b os. os)
  present_step x c = record {
    size = λ b. (if_step (slot_at x c b).present x c).size b;
    keeps = λ b n h. (if_step (slot_at x c b).present x c).keeps b n h;
    owns = λ b w. (if_step (slot_at x c b).present x c).owns b w;
  }

  from_step : (count c : ℕ) (x : Role) → Step (closed_from count c x) (λ b os. os)
  from_step zero c x = still
  from_step (suc count) c x = in_turn (closes_present x c) (closed_from count (suc c) x) (λ b os. os) (λ b os. os) (present_step x c) (from_step count (suc c) x)

  -- ---- calls begin

  none_given : (address : List ℕ) → calling_from address [] ≡ address
  none_given [] = refl
  none_given (digit ∷ digits) = refl

  places_step : (x : Role) (o : Option ℕ) (parts : CallParts) (t : Book → List Origin → List Origin) → parts.calling ≡ [] → Step (placed_on x o parts) t
  places_step x None parts t none = record { size = size_refl; keeps = λ b n h. h; owns = λ b w. w }
  places_step x (Some c) parts t none = record {
    size = λ b. new_size x c _ _ b;
    keeps = λ b n h. new_keeps x c _ _ b n h;
    owns = λ b w.
        let own : Option (List ℕ) = address_of (calling_from (side_of x b).address parts.calling) in
        let r : RecordValue = new_record (length b.records) (side_of x b).node own (address_of parts.called) None in
        let same : own ≡ address_of (side_of x b).address = ap (λ (given : List ℕ). address_of (calling_from (side_of x b).address given)) none ∙ ap address_of (none_given (side_of x b).address) in
        let new : Owns (with_record r b).records (length b.records) = record { value = r; there = get_last b.records r; own = subst (λ (a : Option (List ℕ)). At (side_of x b).node a) (sym same) (w.sides x) } in
        put_step x c (record { present = Some (length b.records); placed = Some (length b.records); caller = None }) (with_record r b)
        (record {
          placed = λ n e. subst (λ (k : ℕ). Owns (with_record r b).records k) (same_Some (length b.records) n e) new;
          came = λ n e. absurd (none-some n e);
        })
        (record_step r b w);
  }

  all_steps : (line : ℕ) (x : Role) → Holds line x GivesNone Step
  all_steps line x = record {
    same = record { size = size_refl; keeps = λ b n h. h; owns = λ b w. w };
    in_turn = in_turn;
    changes = λ c f mild. record {
      size = λ b. size_changed (slot_at x c b).present f b;
      keeps = λ b n h. change_owns (slot_at x c b).present f b (keeps_head f mild) n h;
      owns = λ b w. change_step (slot_at x c b).present f b (keeps_head f mild) w;
    };
    comes_in = λ c parts. record {
      size = λ b. new_size x c _ _ b;
      keeps = λ b n h. new_keeps x c _ _ b n h;
      owns = λ b w.
          let r : RecordValue = new_record (length b.records) (side_of x b).node (address_of parts.called) (address_of parts.calling) (slot_at (other_of x) c b).placed in
          put_step x c (record { present = Some (length b.records); placed = (slot_at x c b).placed; caller = (slot_at (other_of x) c b).placed }) (with_record r b)
          (record {
            placed = λ n e. more_owns r b n ((w.slots x c).placed n e);
            came = λ n e. more_owns r b n ((w.slots (other_of x) c).placed n e);
          })
          (record_step r b w);
    };
    accepts = λ c. record {
      size = λ b. pair_size (slot_at x c b).caller (slot_at x c b).present b;
      keeps = λ b n h. owns_headed h.value (answers x c b).records n h.own (pair_headed (slot_at x c b).caller (slot_at x c b).present n h.value b (headed b.records n h));
      owns = λ b w. pair_step (slot_at x c b).caller (slot_at x c b).present b (λ n e. (w.slots x c).came n e) w;
    };
    ends = λ c. record { size = (closes_step x c).size; keeps = (closes_step x c).keeps; owns = (closes_step x c).owns };
    ends_all = record {
      size = λ b. (from_step (length (side_of x b).slots) 1 x).size b;
      keeps = λ b n h. (from_step (length (side_of x b).slots) 1 x).keeps b n h;
      owns = λ b w. (from_step (length (side_of x b).slots) 1 x).owns b w;
    };
    places = λ o parts none. places_step x o parts _ none;
  }

  each_none : (writes : List Write) → AllGiveNone writes → Each GivesNone writes
  each_none [] h = tt
  each_none (write ∷ writes) h = (h.0, each_none writes h.1)

  all_owned : (line : ℕ) (x : Role) (writes : List Write) → AllGiveNone writes → Step (all_written x writes) (all_traced line x writes)
  all_owned line x writes h = writes_hold line x GivesNone Step (all_steps line x) writes (each_none writes h)

-- ---- the register

-- the relation is that of the register, whose ends of lines stay as they are
sides_there : (g : Register) (line : ℕ) → line < length g.lines → (x : Role) → IsAddressAt g (side_of x (book_at line g)).node (address_of (side_of x (book_at line g)).address)
sides_there g line less x = record { line = line; within = less; role = x; at_end = refl; is = refl }

owned_there : (g : Register) (n : ℕ) → HasOwnAddress g n → Owns (IsAddressAt g) g.records n
owned_there g n o = record { value = o.value; there = o.there; own = o.own }

slots_there : (g : Register) (line : ℕ) → HaveOwnAddresses g → (x : Role) (c : ℕ) → SlotOwns (IsAddressAt g) g.records (slot_at x c (book_at line g))
slots_there g line h x c = record { placed = λ n e. owned_there g n (h.placed line x c n e); came = λ n e. owned_there g n (h.came line x c n e) }

book_owns : (g : Register) (line : ℕ) → line < length g.lines → HaveOwnAddresses g → BookOwns (IsAddressAt g) (book_at line g)
book_owns g line less h = record { sides = sides_there g line less; slots = slots_there g line h; pairs = λ i p e. owned_there g p.caller (h.pairs i p e) }

-- after a change of one line's book
module _ (g h : Register) (line : ℕ) (b : Book) (w : IsWritten line g b h) (size : SameSize (book_at line g) b)
    (keeps : (n : ℕ) → Owns (IsAddressAt g) g.records n → Owns (IsAddressAt g) b.records n) (owns : BookOwns (IsAddressAt g) b) where
  side_node : (k : ℕ) (x : Role) → (side_of x (book_at k h)).node ≡ (side_of x (book_at k g)).node
  side_node k x = elim (number_is k line) [
    | inl e ↦ subst (λ (n : ℕ). (side_of x (book_at n h)).node ≡ (side_of x (book_at n g)).node) (sym e) (ap (λ (s : Side). s.node) (w.here x) ∙ size.node x)
    | inr e ↦ ap (λ (s : Side). s.node) (w.elsewhere k x e)
  ]

  side_address : (k : ℕ) (x : Role) → (side_of x (book_at k h)).address ≡ (side_of x (book_at k g)).address
  side_address k x = elim (number_is k line) [
    | inl e ↦ subst (λ (n : ℕ). (side_of x (book_at n h)).address ≡ (side_of x (book_at n g)).address) (sym e) (ap (λ (s : Side). s.address) (w.here x) ∙ size.address x)
    | inr e ↦ ap (λ (s : Side). s.address) (w.elsewhere k x e)
  ]

  still_at : (node : ℕ) (address : Option (List ℕ)) → IsAddressAt g node address → IsAddressAt h node address
  still_at node address a = record {
    line = a.line;
    within = subst (λ (n : ℕ). a.line < n) (sym w.lines) a.within;
    role = a.role;
    at_end = a.at_end ∙ sym (side_node a.line a.role);
    is = a.is ∙ ap address_of (sym (side_address a.line a.role));
  }

  has_own : (n : ℕ) → Owns (IsAddressAt g) b.records n → HasOwnAddress h n
  has_own n o = record {
    value = o.value;
    there = ap (λ (rs : List RecordValue). slice_get rs n) w.records ∙ o.there;
    own = still_at o.value.node o.value.own o.own;
  }

  slot_of : (x : Role) (k : ℕ) (c : ℕ) → side_of x (book_at k h) ≡ side_of x (book_at k g) → slot_at x c (book_at k h) ≡ slot_at x c (book_at k g)
  slot_of Dte k c e = ap (λ (s : Side). nth_slot s.slots c) e
  slot_of Dce k c e = ap (λ (s : Side). nth_slot s.slots c) e

  slot_here : (x : Role) (c : ℕ) → slot_at x c (book_at line h) ≡ slot_at x c b
  slot_here Dte c = ap (λ (s : Side). nth_slot s.slots c) (w.here Dte)
  slot_here Dce c = ap (λ (s : Side). nth_slot s.slots c) (w.here Dce)

  slot_owned : (old : HaveOwnAddresses g) (k : ℕ) (x : Role) (c : ℕ) → SlotOwns (IsAddressAt g) b.records (slot_at x c (book_at k h))
  slot_owned old k x c = elim (number_is k line) [
    | inl e ↦ subst (λ (n : ℕ). SlotOwns (IsAddressAt g) b.records (slot_at x c (book_at n h))) (sym e)
        (subst (λ (z : Slot). SlotOwns (IsAddressAt g) b.records z) (sym (slot_here x c)) (owns.slots x c))
    | inr e ↦ subst (λ (z : Slot). SlotOwns (IsAddressAt g) b.records z) (sym (slot_of x k c (w.elsewhere k x e)))
        (slot_owns (IsAddressAt g) g.records b.records (slot_at x c (book_at k g)) keeps (slots_there g k old x c))
  ]

  changed_owns : HaveOwnAddresses g → HaveOwnAddresses h
  changed_owns old = record {
    placed = λ k x c n e. has_own n ((slot_owned old k x c).placed n e);
    came = λ k x c n e. has_own n ((slot_owned old k x c).came n e);
    pairs = λ i p e. has_own p.caller (owns.pairs i p (ap (λ (ps : List PairValue). slice_get ps i) (sym w.pairs) ∙ e));
  }

pub written_owns : WriteOwnLaw
written_owns g line role writes less none h =
    let b : Book = all_written role writes (book_at line g) in
    let step = all_owned (IsAddressAt g) line role writes none in
    changed_owns g (all_written_at line role writes g) line b (book_written line g b less) (step.size (book_at line g)) (λ n o. step.keeps (book_at line g) n o)
    (step.owns (book_at line g) (book_owns g line less h)) h

-- the line onward is there
handed_there : (g : Register) (from to : ChannelEnd) → to.line < length g.lines → HaveOwnAddresses g → HaveOwnAddresses (written_at to.line (goes_on to (holder_at from g)) g)
handed_there g from to less h =
    let old : Book = book_at to.line g in
    let z : Slot = record (slot_at to.role to.channel old) { placed = holder_at from g } in
    let held : Book = holds to.role to.channel (holder_at from g) old in
    let hop : HopValue = record { switch = (side_of to.role old).node; line = to.line; channel = to.channel } in
    let b : Book = with_change (holder_at from g) (with_hop hop) held in
    let w : BookOwns (IsAddressAt g) old = book_owns g to.line less h in
    let put : BookOwns (IsAddressAt g) held =
    put_step (IsAddressAt g) to.role to.channel z old
    (record {
      placed = λ n e. (slots_there g from.line h from.role from.channel).placed n e;
      came = λ n e. (w.slots to.role to.channel).came n e;
    }) w in
    changed_owns g (with_book to.line b g) to.line b (book_written to.line g b less) (size_trans old held b (size_slot to.role to.channel z old) (size_changed (holder_at from g) (with_hop hop) held))
    (λ n o. change_owns (IsAddressAt g) (holder_at from g) (with_hop hop) held (hop_keeps_head hop) n (same_records (IsAddressAt g) old held (slot_records (IsAddressAt g) to.role to.channel z old) n o))
    (change_step (IsAddressAt g) (holder_at from g) (with_hop hop) held (hop_keeps_head hop) put) h

pub handed_owns : HandedOwnLaw
handed_owns g from to h = by (slice_get g.lines to.line) refl
  where
    by : (o : Option LineEnds) → slice_get g.lines to.line ≡ o → HaveOwnAddresses (if is_some o then written_at to.line (goes_on to (holder_at from g)) g else g)
    by (Some ends) e = handed_there g from to (slice_get_within g.lines to.line ends e) h
    by None e = h

-- ---- the making

free_more : (plan : LinePlan) (g : Register) (k : ℕ) → (slice_get (g.lines ++ free_ends plan ∷ []) k ≡ slice_get g.lines k) ⊎ (slice_get (g.lines ++ free_ends plan ∷ []) k ≡ Some (free_ends plan))
free_more plan g k = by (slice_get (g.lines ++ free_ends plan ∷ []) k) refl
  where
    by : (o : Option LineEnds) → slice_get (g.lines ++ free_ends plan ∷ []) k ≡ o → (o ≡ slice_get g.lines k) ⊎ (o ≡ Some (free_ends plan))
    by (Some ends) e = elim (get_pushed g.lines (free_ends plan) k ends e) [
      | inl h ↦ inl (sym h)
      | inr h ↦ inr (ap (λ (x : LineEnds). Some x) h.1)
    ]
    by None e = inl (sym (absent (slice_get g.lines k) refl))
      where
        absent : (o : Option LineEnds) → slice_get g.lines k ≡ o → slice_get g.lines k ≡ None
        absent None h = h
        absent (Some ends) h = absurd (none-some ends (sym e ∙ get_before g.lines (free_ends plan ∷ []) k ends h))

free_owns : (plan : LinePlan) (g : Register) → HaveOwnAddresses g → HaveOwnAddresses (with_free_line plan g)
free_owns plan g h = record {
  placed = λ k x c n e. owned n (slot_placed k x c n e);
  came = λ k x c n e. owned n (slot_came k x c n e);
  pairs = λ i p e. owned p.caller (h.pairs i p e);
}
  where
    -- a line that was there has its old ends
    older : (k : ℕ) (ends : LineEnds) → slice_get g.lines k ≡ Some ends → slice_get (with_free_line plan g).lines k ≡ slice_get g.lines k
    older k ends e = get_before g.lines (free_ends plan ∷ []) k ends e ∙ sym e

    still : (k : ℕ) (x : Role) → slice_get (with_free_line plan g).lines k ≡ slice_get g.lines k → side_of x (book_at k (with_free_line plan g)) ≡ side_of x (book_at k g)
    still k Dte e = ap (λ (y : Option LineEnds). (found_ends y).dte) e
    still k Dce e = ap (λ (y : Option LineEnds). (found_ends y).dce) e

    slot_still : (k : ℕ) (x : Role) (c : ℕ) → slice_get (with_free_line plan g).lines k ≡ slice_get g.lines k → slot_at x c (book_at k (with_free_line plan g)) ≡ slot_at x c (book_at k g)
    slot_still k Dte c e = ap (λ (y : Option LineEnds). nth_slot (found_ends y).dte.slots c) e
    slot_still k Dce c e = ap (λ (y : Option LineEnds). nth_slot (found_ends y).dce.slots c) e

    slot_free : (k : ℕ) (x : Role) (c : ℕ) → slice_get (with_free_line plan g).lines k ≡ Some (free_ends plan) → slot_at x c (book_at k (with_free_line plan g)) ≡ free_slot
    slot_free k Dte c e = ap (λ (y : Option LineEnds). nth_slot (found_ends y).dte.slots c) e ∙ free_slots plan.channels c
    slot_free k Dce c e = ap (λ (y : Option LineEnds). nth_slot (found_ends y).dce.slots c) e ∙ free_slots plan.channels c

    slot_placed : (k : ℕ) (x : Role) (c n : ℕ) → (slot_at x c (book_at k (with_free_line plan g))).placed ≡ Some n → HasOwnAddress g n
    slot_placed k x c n e = elim (free_more plan g k) [
      | inl same ↦ h.placed k x c n (ap (λ (z : Slot). z.placed) (sym (slot_still k x c same)) ∙ e)
      | inr is ↦ absurd (none-some n (ap (λ (z : Slot). z.placed) (sym (slot_free k x c is)) ∙ e))
    ]

    slot_came : (k : ℕ) (x : Role) (c n : ℕ) → (slot_at x c (book_at k (with_free_line plan g))).caller ≡ Some n → HasOwnAddress g n
    slot_came k x c n e = elim (free_more plan g k) [
      | inl same ↦ h.came k x c n (ap (λ (z : Slot). z.caller) (sym (slot_still k x c same)) ∙ e)
      | inr is ↦ absurd (none-some n (ap (λ (z : Slot). z.caller) (sym (slot_free k x c is)) ∙ e))
    ]

    owned : (n : ℕ) → HasOwnAddress g n → HasOwnAddress (with_free_line plan g) n
    owned n o =
        let a = o.own in
        let ends = get_there g.lines a.line a.within in
        let side = still a.line a.role (older a.line ends.0 ends.1) in
        record {
          value = o.value;
          there = o.there;
          own = record {
            line = a.line;
            within = let long = length-append g.lines (free_ends plan ∷ []) in let less = a.within in omega arith;
            role = a.role;
            at_end = a.at_end ∙ ap (λ (y : Side). y.node) (sym side);
            is = a.is ∙ ap (λ (y : Side). address_of y.address) (sym side);
          };
        }

line_owns : (plan : LinePlan) (g : Register) → HaveOwnAddresses g → HaveOwnAddresses (with_line plan g)
line_owns plan g h = by plan.standing
  where
    long : length (with_free_line plan g).lines ≡ length g.lines + 1
    long = length-append g.lines (free_ends plan ∷ [])

    less : length g.lines < length (with_free_line plan g).lines
    less = let l = long in omega arith

    same : length (all_written_at (length g.lines) Dte (Placed (Some 1) no_parts ∷ []) (with_free_line plan g)).lines ≡ length (with_free_line plan g).lines
    same = length-set (with_free_line plan g).lines (length g.lines) _

    by : (standing : Bool) → HaveOwnAddresses (if standing then with_standing_call (length g.lines) (with_free_line plan g) else (with_free_line plan g))
    by true = written_owns (all_written_at (length g.lines) Dte (Placed (Some 1) no_parts ∷ []) (with_free_line plan g)) (length g.lines) Dce (Told (Incoming 1 no_parts ∷ []) ∷ Asked None 1 Accept None ∷ []) (let s = same in let l = less in omega arith) (tt, (tt, tt))
        (written_owns (with_free_line plan g) (length g.lines) Dte (Placed (Some 1) no_parts ∷ []) less (refl, tt) (free_owns plan g h))
    by false = free_owns plan g h

lines_own : (plans : List LinePlan) (g : Register) → HaveOwnAddresses g → HaveOwnAddresses (with_lines plans g)
lines_own [] g h = h
lines_own (plan ∷ plans) g h = lines_own plans (with_line plan g) (line_owns plan g h)

none_own : HaveOwnAddresses empty_register
none_own = record {
  placed = λ k x c n e. absurd (none-some n (sym (nothing x k c) ∙ e));
  came = λ k x c n e. absurd (none-some n (sym (no_caller x k c) ∙ e));
  pairs = λ i p e. absurd (none-some p e);
}
  where
    nothing : (x : Role) (k c : ℕ) → (slot_at x c (book_at k empty_register)).placed ≡ None
    nothing Dte k zero = refl
    nothing Dte k (suc c) = refl
    nothing Dce k zero = refl
    nothing Dce k (suc c) = refl

    no_caller : (x : Role) (k c : ℕ) → (slot_at x c (book_at k empty_register)).caller ≡ None
    no_caller Dte k zero = refl
    no_caller Dte k (suc c) = refl
    no_caller Dce k zero = refl
    no_caller Dce k (suc c) = refl

pub made_owns : MadeOwnLaw
made_owns plans = lines_own plans empty_register none_own

pub own_run : OwnRun
own_run =
    let first : Register = all_written_at 0 Dte calls_two (made_register two_lines) in
    record {
      none_given = (refl, tt);
      has_own = written_owns first 1 Dte calls_two (omega arith) (refl, tt) (written_owns (made_register two_lines) 0 Dte calls_two (omega arith) (refl, tt) (made_owns two_lines));
      first = refl;
    }
