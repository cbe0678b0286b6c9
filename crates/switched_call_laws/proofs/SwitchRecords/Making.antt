-- A line as it is made has no records.
use Rattle.std.specs.Prelude.{◌≡◌, ℕ, zero, suc, ◌≤◌, true, false, List, length, replicate, slice_get, Option, None, is_some}
use Rattle.std.proofs.Common.{refl, sym, subst, ◌∙◌, arith, true≢false}
use Rattle.std.proofs.lemmas.Option.{none-some}
use Rattle.link_timers.specs.declared.role.Role.{Role}
use Rattle.link_timers.specs.declared.role.Role.TheVariants.{Dte, Dce}
use Rattle.packet_channel.specs.Channel.{closed_channel}
use Rattle.packet_layer.specs.Layer.{nth_channel}
use Rattle.call_records.specs.Book.{Slot, side_of, slot_at, nth_slot, found_slot, free_slot, made_book}
use Rattle.switch_laws.specs.Leg.{Leg}
use Rattle.switched_call_laws.specs.SwitchRecords.Records.{Has, call_on}
use Rattle.switched_call_laws.specs.SwitchRecords.SwitchRecordLaws.{MadeLaw}

free_at : (n i : ℕ) → (found_slot (slice_get (replicate n free_slot) i)).present ≡ None
free_at zero i = refl
free_at (suc n) zero = refl
free_at (suc n) (suc i) = free_at n i

free_nth : (n c : ℕ) → (nth_slot (replicate n free_slot) c).present ≡ None
free_nth n zero = refl
free_nth n (suc i) = free_at n i

no_present : (role : Role) (channels dte_node dce_node c : ℕ) → (slot_at role c (made_book dte_node dce_node channels false)).present ≡ None
no_present Dte channels dte_node dce_node c = free_nth channels c
no_present Dce channels dte_node dce_node c = free_nth channels c

closed_at : (n i : ℕ) (g : Leg) → call_on (slice_get (replicate n closed_channel) i) g ≡ None
closed_at zero i g = refl
closed_at (suc n) zero g = refl
closed_at (suc n) (suc i) g = closed_at n i g

closed_nth : (n c : ℕ) (g : Leg) → call_on (nth_channel (replicate n closed_channel) c) g ≡ None
closed_nth n zero g = refl
closed_nth n (suc i) g = closed_at n i g

within : (n i : ℕ) → is_some (slice_get (replicate n closed_channel) i) ≡ true → suc i ≤ length (replicate n free_slot)
within zero i e = absurd (true≢false (sym e))
within (suc n) zero e = omega arith
within (suc n) (suc i) e = let h = within n i e in omega arith

has_slot : (n c : ℕ) → is_some (nth_channel (replicate n closed_channel) c) ≡ true → (1 ≤ c) × (c ≤ length (replicate n free_slot))
has_slot n zero e = absurd (true≢false (sym e))
has_slot n (suc i) e = (omega arith, within n i e)

slots_of : (role : Role) (channels dte_node dce_node : ℕ) → (side_of role (made_book dte_node dce_node channels false)).slots ≡ replicate channels free_slot
slots_of Dte channels dte_node dce_node = refl
slots_of Dce channels dte_node dce_node = refl

pub made_records : MadeLaw
made_records role own channels flow dte_node dce_node legs = record {
  slots = λ c e. let h = has_slot channels c e in (h.0, subst (λ (xs : List Slot). c ≤ length xs) (sym (slots_of role channels dte_node dce_node)) h.1);
  apart = record {
    there = λ y c n e. absurd (none-some n (sym (no_present y channels dte_node dce_node c) ∙ e));
    apart = λ y z c d n e f. absurd (none-some n (sym (no_present y channels dte_node dce_node c) ∙ e));
  };
  has = λ c. subst (λ (o : Option Leg). Has role c o (made_book dte_node dce_node channels false)) (sym (closed_nth channels c (legs c))) (no_present role channels dte_node dce_node c);
}
