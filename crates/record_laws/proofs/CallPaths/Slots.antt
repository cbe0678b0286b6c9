-- Channels of an end, in the register and in the whole register.
use Rattle.std.proofs.Common.{◌≡◌, ℕ, zero, suc, List, [], ◌∷◌, length, set, refl, sym, ◌∙◌, arith}
use Rattle.std.specs.Prelude.{slice_get}
use Rattle.link_timers.specs.declared.role.Role.{Role}
use Rattle.link_timers.specs.declared.role.Role.TheVariants.{Dte, Dce}
use Rattle.call_records.specs.Book.{Book, Slot, Side, nth_slot, with_nth, found_slot, side_of, slot_at, with_slot}
use Rattle.record_laws.proofs.Books.Basics.{length_set}
use Rattle.record_laws.specs.CallPaths.World.{Origin, Join, Plan}
use Rattle.record_laws.specs.CallPaths.Seen.{SlotIsSeen, SideIsSeen}

put_both : (P : Slot → Slot → Type 0) (xs ys : List Slot) (n : ℕ) (s t : Slot) → length xs ≡ length ys
    → ((i : ℕ) → P (found_slot (slice_get xs i)) (found_slot (slice_get ys i))) → P s t
    → (i : ℕ) → P (found_slot (slice_get (set xs n s) i)) (found_slot (slice_get (set ys n t) i))
put_both P [] [] n s t e h w i = h i
put_both P [] (y ∷ ys) n s t e h w i = absurd (omega arith)
put_both P (x ∷ xs) [] n s t e h w i = absurd (omega arith)
put_both P (x ∷ xs) (y ∷ ys) zero s t e h w zero = w
put_both P (x ∷ xs) (y ∷ ys) zero s t e h w (suc i) = h (suc i)
put_both P (x ∷ xs) (y ∷ ys) (suc n) s t e h w zero = h 0
put_both P (x ∷ xs) (y ∷ ys) (suc n) s t e h w (suc i) = put_both P xs ys n s t (omega arith) (λ k. h (suc k)) w i

put_whole : (P : Slot → Slot → Type 0) (xs ys : List Slot) (n : ℕ) (t : Slot) → length xs ≡ length ys
    → ((i : ℕ) → P (found_slot (slice_get xs i)) (found_slot (slice_get ys i))) → P (found_slot (slice_get xs n)) t
    → (i : ℕ) → P (found_slot (slice_get xs i)) (found_slot (slice_get (set ys n t) i))
put_whole P [] [] n t e h w i = h i
put_whole P [] (y ∷ ys) n t e h w i = absurd (omega arith)
put_whole P (x ∷ xs) [] n t e h w i = absurd (omega arith)
put_whole P (x ∷ xs) (y ∷ ys) zero t e h w zero = w
put_whole P (x ∷ xs) (y ∷ ys) zero t e h w (suc i) = h (suc i)
put_whole P (x ∷ xs) (y ∷ ys) (suc n) t e h w zero = h 0
put_whole P (x ∷ xs) (y ∷ ys) (suc n) t e h w (suc i) = put_whole P xs ys n t (omega arith) (λ k. h (suc k)) w i

nth_both : (P : Slot → Slot → Type 0) (xs ys : List Slot) (c : ℕ) (s t : Slot) → length xs ≡ length ys
    → ((d : ℕ) → P (nth_slot xs d) (nth_slot ys d)) → P s t → (d : ℕ) → P (nth_slot (with_nth xs c s) d) (nth_slot (with_nth ys c t) d)
nth_both P xs ys zero s t e h w d = h d
nth_both P xs ys (suc c) s t e h w zero = h 0
nth_both P xs ys (suc c) s t e h w (suc d) = put_both P xs ys c s t e (λ i. h (suc i)) w d

nth_whole : (P : Slot → Slot → Type 0) (xs ys : List Slot) (c : ℕ) (t : Slot) → length xs ≡ length ys
    → ((d : ℕ) → P (nth_slot xs d) (nth_slot ys d)) → P (nth_slot xs c) t → (d : ℕ) → P (nth_slot xs d) (nth_slot (with_nth ys c t) d)
nth_whole P xs ys zero t e h w d = h d
nth_whole P xs ys (suc c) t e h w zero = h 0
nth_whole P xs ys (suc c) t e h w (suc d) = put_whole P xs ys c t e (λ i. h (suc i)) w d

nth_length : (xs : List Slot) (c : ℕ) (s : Slot) → length (with_nth xs c s) ≡ length xs
nth_length xs zero s = refl
nth_length xs (suc c) s = length_set xs c s

module _ (plan : Plan) (os : List Origin) (js : List Join) (line : ℕ) where
  abbrev pub Sides : Book → Book → Type 0
  Sides seen whole = (end : Role) → SideIsSeen plan os js line end (side_of end seen) (side_of end whole)

  side_both : (role : Role) (own whole : Side) (c : ℕ) (s t : Slot) → SideIsSeen plan os js line role own whole → SlotIsSeen plan os js line role s t
      → SideIsSeen plan os js line role (record own { slots = with_nth own.slots c s }) (record whole { slots = with_nth whole.slots c t })
  side_both role own whole c s t h w = record {
    seen_node = h.seen_node;
    whole_node = h.whole_node;
    seen_address = h.seen_address;
    whole_address = h.whole_address;
    channels = nth_length own.slots c s ∙ h.channels ∙ sym (nth_length whole.slots c t);
    slot = nth_both (λ a b. SlotIsSeen plan os js line role a b) own.slots whole.slots c s t h.channels h.slot w;
  }

  side_whole : (role : Role) (own whole : Side) (c : ℕ) (t : Slot) → SideIsSeen plan os js line role own whole → SlotIsSeen plan os js line role (nth_slot own.slots c) t
      → SideIsSeen plan os js line role own (record whole { slots = with_nth whole.slots c t })
  side_whole role own whole c t h w = record {
    seen_node = h.seen_node;
    whole_node = h.whole_node;
    seen_address = h.seen_address;
    whole_address = h.whole_address;
    channels = h.channels ∙ sym (nth_length whole.slots c t);
    slot = nth_whole (λ a b. SlotIsSeen plan os js line role a b) own.slots whole.slots c t h.channels h.slot w;
  }

  pub sides_both : (role : Role) (c : ℕ) (s t : Slot) (own whole : Book) → Sides own whole → SlotIsSeen plan os js line role s t
      → Sides (with_slot role c s own) (with_slot role c t whole)
  sides_both Dte c s t own whole h w Dte = side_both Dte own.dte whole.dte c s t (h Dte) w
  sides_both Dte c s t own whole h w Dce = h Dce
  sides_both Dce c s t own whole h w Dte = h Dte
  sides_both Dce c s t own whole h w Dce = side_both Dce own.dce whole.dce c s t (h Dce) w

  pub sides_whole : (role : Role) (c : ℕ) (t : Slot) (own whole : Book) → Sides own whole → SlotIsSeen plan os js line role (slot_at role c own) t
      → Sides own (with_slot role c t whole)
  sides_whole Dte c t own whole h w Dte = side_whole Dte own.dte whole.dte c t (h Dte) w
  sides_whole Dte c t own whole h w Dce = h Dce
  sides_whole Dce c t own whole h w Dte = h Dte
  sides_whole Dce c t own whole h w Dce = side_whole Dce own.dce whole.dce c t (h Dce) w
