-- The book of a line as it is made is right, standing or not.
use Rattle.std.specs.Prelude.{◌≡◌, ◌≢◌, ℕ, zero, suc, ◌≤◌, ◌⊎◌, Bool, true, false, List, [], ◌∷◌, length, replicate, slice_get, is_some, Some, None}
use Rattle.std.proofs.Common.{inl, inr, refl, sym, ap, subst, ◌∙◌, arith, true≢false}
use Rattle.std.specs.Option.{IsSome}
use Rattle.std.proofs.lemmas.Option.{none-some, same_Some}
use Rattle.std.proofs.lemmas.Bool.{lt-ltb}
use Rattle.link_timers.specs.declared.role.Role.{Role}
use Rattle.link_timers.specs.declared.role.Role.TheVariants.{Dte, Dce}
use Rattle.link_timers.specs.Role.{other_of}
use Rattle.data_transfer.specs.declared.flow.Flow.{Flow}
use Rattle.packet_channel.specs.Channel.{closed_channel}
use Rattle.packet_layer.specs.Layer.{nth_channel}
use Rattle.packet_laws.specs.History.{Epoch, new_history, with_call, with_answer}
use Rattle.packet_laws.specs.LayerLine.{End, start_end, start_history, no_parts}
use Rattle.call_records.specs.Records.{RecordValue, PairValue, new_record}
use Rattle.call_records.specs.Book.{Book, Slot, free_slot, slot_at, side_of, nth_slot, new_book, standing_book}
use Rattle.record_laws.specs.Books.Told.{start, made_callers}
use Rattle.record_laws.proofs.Books.Basics.{dte_not_dce}
use Rattle.record_laws.proofs.Books.Invariant.{EndView, CallStatus, ChannelUse, Tag, AreOpen, book_parts, IsLive, IsCallee, Stands, Means, Fits, SlotIs, PlacedIs, UpTo, IsPair, CameIn, IsRight, called_at, answered_at, own_sent, own_taken, nothing_passed, nothing_sent_yet, nothing_taken_yet}
use Rattle.record_laws.proofs.Books.Invariant.CallStatus.{Idle}
use Rattle.record_laws.proofs.Books.Invariant.Kind.{Caller, Callee}
use Rattle.record_laws.proofs.Books.Cancelling.{caller_not_callee, caller_not_cancelled, callee_not_cancelled}
use Rattle.record_laws.proofs.Books.Calling.{none_sent, none_taken, callee_number}
use Rattle.record_laws.proofs.Books.EndSteps.{status_at, view_of, views_of}
use Rattle.record_laws.proofs.Books.Histories.{in_use_cases, in_use_keeps}
use Rattle.record_laws.proofs.Books.ChannelSteps.{KeptAt, HasSize}
use Rattle.record_laws.proofs.Books.Placing.{no_session_not_ready}
use Rattle.record_laws.proofs.Books.Lines.{KeptIn}

-- ---- free channels

idle_at : (x : Role) (n i : ℕ) → status_at x (slice_get (replicate n closed_channel) i) ≡ Idle
idle_at x zero i = refl
idle_at x (suc n) zero = refl
idle_at x (suc n) (suc i) = idle_at x n i

idle_all : (x : Role) (n c : ℕ) → status_at x (nth_channel (replicate n closed_channel) c) ≡ Idle
idle_all x n zero = refl
idle_all x n (suc i) = idle_at x n i

free_all : (n c : ℕ) → nth_slot (replicate n free_slot) c ≡ free_slot
free_all n zero = refl
free_all zero (suc i) = refl
free_all (suc n) (suc zero) = refl
free_all (suc n) (suc (suc i)) = free_all n (suc i)

slots_length : (n : ℕ) → length (replicate n free_slot) ≡ n
slots_length zero = refl
slots_length (suc n) = ap suc (slots_length n)

channels_length : (n : ℕ) → length (replicate n closed_channel) ≡ n
channels_length zero = refl
channels_length (suc n) = ap suc (channels_length n)

-- ---- a line that is not up

module _ (a b n : ℕ) (flow : Flow) where
  abbrev me : End
  me = start_end Dte n flow false

  abbrev you : End
  you = start_end Dce n flow false

  down_slot : (x : Role) (c : ℕ) → SlotIs ((views_of Dte me you 0 0 x).status c) (views_of Dte me you 0 0 x) [] x c (slot_at x c (new_book a b n))
  down_slot Dte c = subst (λ (m : CallStatus). SlotIs m (view_of Dte me 0) [] Dte c (slot_at Dte c (new_book a b n))) (sym (idle_all Dte n c)) (ap (λ (z : Slot). z.present) (free_all n c))
  down_slot Dce c = subst (λ (m : CallStatus). SlotIs m (view_of Dce you 0) [] Dce c (slot_at Dce c (new_book a b n))) (sym (idle_all Dce n c)) (ap (λ (z : Slot). z.present) (free_all n c))

  down_placed : (x : Role) (c : ℕ) → PlacedIs (slot_at x c (new_book a b n)).placed (views_of Dte me you 0 0 x) [] x c
  down_placed Dte c = subst (λ (z : Slot). PlacedIs z.placed (view_of Dte me 0) [] Dte c) (sym (free_all n c)) (λ k e. refl)
  down_placed Dce c = subst (λ (z : Slot). PlacedIs z.placed (view_of Dce you 0) [] Dce c) (sym (free_all n c)) (λ k e. refl)

  down_tops : (x : Role) (s : ℕ) → (views_of Dte me you 0 0 x).session ≡ Some s → s ≡ (views_of Dte me you 0 0 x).top
  down_tops Dte s e = absurd (none-some s e)
  down_tops Dce s e = absurd (none-some s e)

  down_free : (x : Role) (c : ℕ) → (slot_at x c (new_book a b n)).present ≡ None
  down_free Dte c = ap (λ (z : Slot). z.present) (free_all n c)
  down_free Dce c = ap (λ (z : Slot). z.present) (free_all n c)

  down_accepted : (x : Role) (k : ChannelUse) → answered_at (views_of Dte me you 0 0 x) k ≡ true → CameIn [] x k
  down_accepted Dte k e = absurd (true≢false (sym e))
  down_accepted Dce k e = absurd (true≢false (sym e))

  down_right : IsRight (views_of Dte me you 0 0) (book_parts (new_book a b n)) []
  down_right = record {
    stands = λ i t e. absurd (none-some t e);
    means = λ i t e. absurd (none-some t e);
    fits = λ i t r e g. absurd (none-some t e);
    slot = down_slot;
    placed = down_placed;
    tops = down_tops;
    alone = λ i j t u e g. absurd (none-some t e);
    pairs = λ i p e. absurd (none-some p e);
    accepted = down_accepted;
    once = λ i j p q e g. absurd (none-some p e);
    count = refl;
    opened = record {
      somewhere = λ i r e. absurd (none-some r e);
      is_open = λ x c i r e g. absurd (none-some r g);
      one_place = λ x y c d i e g. absurd (none-some i (sym (down_free x c) ∙ e));
    };
  }

  down_sizes : HasSize n (new_book a b n)
  down_sizes = record { size = size; address = address }
    where
      size : (z : Role) → length (side_of z (new_book a b n)).slots ≡ n
      size Dte = slots_length n
      size Dce = slots_length n

      address : (z : Role) → (side_of z (new_book a b n)).address ≡ []
      address Dte = refl
      address Dce = refl

  pub down_kept : KeptAt n Dte me you 0 0 (new_book a b n) []
  down_kept = record {
    tags = [];
    callers = refl;
    right = down_right;
    sizes = down_sizes;
    here = record { role = refl; count = channels_length n; up = λ p. absurd (no_session_not_ready p) };
    there = record { role = refl; count = channels_length n; up = λ p. absurd (no_session_not_ready p) };
  }

-- ---- a standing line

-- the use of the standing call
abbrev first : ChannelUse
first = record { session = 0; channel = 1; restart = 0; use_ = 0 }

abbrev caller_tag : Tag
caller_tag = record { role = Dte; channel_use = first; kind = Caller; own = None; far = None }

abbrev callee_tag : Tag
callee_tag = record { role = Dce; channel_use = first; kind = Callee 0; own = None; far = None }

abbrev both : List Tag
both = caller_tag ∷ callee_tag ∷ []

two_cases : {X : Type 0} (a b : X) (n : ℕ) (t : X) → slice_get (a ∷ b ∷ []) n ≡ Some t → ((n ≡ 0) × (t ≡ a)) ⊎ ((n ≡ 1) × (t ≡ b))
two_cases a b zero t e = inl (refl, sym (same_Some a t e))
two_cases a b (suc zero) t e = inr (refl, sym (same_Some b t e))
two_cases a b (suc (suc n)) t e = absurd (none-some t e)

one_case : {X : Type 0} (a : X) (n : ℕ) (t : X) → slice_get (a ∷ []) n ≡ Some t → (n ≡ 0) × (t ≡ a)
one_case a zero t e = (refl, sym (same_Some a t e))
one_case a (suc n) t e = absurd (none-some t e)

-- what was called before anything happened
dte_called : (s c r u : ℕ) → is_some ((start_history Dte true s c).epochs r u 0).called ≡ true → (s ≡ 0) × (c ≡ 1) × (r ≡ 0) × (u ≡ 0)
dte_called zero (suc zero) r u e =
    elim (in_use_cases (λ z. with_call no_parts z) new_history r u) [
      | inl h ↦ (refl, refl, h.0.0, h.0.1)
      | inr h ↦ absurd (true≢false (sym e ∙ ap (λ (z : Epoch). is_some z.called) (h.1 0)))
    ]
dte_called zero zero r u e = absurd (true≢false (sym e))
dte_called zero (suc (suc c)) r u e = absurd (true≢false (sym e))
dte_called (suc s) c r u e = absurd (true≢false (sym e))

dte_none : (s c r u : ℕ) → c ≢ 1 → ((start_history Dte true s c).epochs r u 0).called ≡ None
dte_none zero zero r u h = refl
dte_none zero (suc zero) r u h = absurd (h refl)
dte_none zero (suc (suc c)) r u h = refl
dte_none (suc s) c r u h = refl

dce_none : (s c r u : ℕ) → ((start_history Dce true s c).epochs r u 0).called ≡ None
dce_none zero zero r u = refl
dce_none zero (suc zero) r u = in_use_keeps (λ z. z.called) (λ z. with_answer z) new_history (λ z. refl) r u 0
dce_none zero (suc (suc c)) r u = refl
dce_none (suc s) c r u = refl

-- and what was accepted
dte_accepted : (s c r u : ℕ) → ((start_history Dte true s c).epochs r u 0).answered ≡ false
dte_accepted zero zero r u = refl
dte_accepted zero (suc zero) r u = in_use_keeps (λ z. z.answered) (λ z. with_call no_parts z) new_history (λ z. refl) r u 0
dte_accepted zero (suc (suc c)) r u = refl
dte_accepted (suc s) c r u = refl

dce_accepted : (s c r u : ℕ) → ((start_history Dce true s c).epochs r u 0).answered ≡ true → (s ≡ 0) × (c ≡ 1) × (r ≡ 0) × (u ≡ 0)
dce_accepted zero (suc zero) r u e =
    elim (in_use_cases (λ z. with_answer z) new_history r u) [
      | inl h ↦ (refl, refl, h.0.0, h.0.1)
      | inr h ↦ absurd (true≢false (sym e ∙ ap (λ (z : Epoch). z.answered) (h.1 0)))
    ]
dce_accepted zero zero r u e = absurd (true≢false (sym e))
dce_accepted zero (suc (suc c)) r u e = absurd (true≢false (sym e))
dce_accepted (suc s) c r u e = absurd (true≢false (sym e))

use_is : (s c r u : ℕ) → (s ≡ 0) × (c ≡ 1) × (r ≡ 0) × (u ≡ 0) → first ≡ record { session = s; channel = c; restart = r; use_ = u }
use_is s c r u e = let a = e.0 in let b = e.1 in let d = e.2 in let f = e.3 in cc

module _ (a b m : ℕ) (flow : Flow) where
  abbrev me_up : End
  me_up = start_end Dte (suc m) flow true

  abbrev you_up : End
  you_up = start_end Dce (suc m) flow true

  abbrev book_up : Book
  book_up = standing_book (new_book a b (suc m))

  abbrev up_views : Role → EndView
  up_views = views_of Dte me_up you_up 0 0

  up_stands : (n : ℕ) (t : Tag) → slice_get both n ≡ Some t → Stands (up_views t.role) (λ c. slot_at t.role c book_up) n t
  up_stands n t e =
      elim (two_cases caller_tag callee_tag n t e) [
        | inl h ↦ subst (λ (u : Tag). Stands (up_views u.role) (λ c. slot_at u.role c book_up) n u) (sym h.1) (subst (λ (i : ℕ). Stands (up_views Dte) (λ c. slot_at Dte c book_up) i caller_tag) (sym h.0)
            (record { begun = lt-ltb 0 (suc (length (replicate m closed_channel))) (omega arith); top = omega arith; past = λ up. record { restarts = omega arith; uses = λ k. omega arith }; present = λ up is live. refl }))
        | inr h ↦ subst (λ (u : Tag). Stands (up_views u.role) (λ c. slot_at u.role c book_up) n u) (sym h.1) (subst (λ (i : ℕ). Stands (up_views Dce) (λ c. slot_at Dce c book_up) i callee_tag) (sym h.0)
            (record { begun = lt-ltb 0 (suc (length (replicate m closed_channel))) (omega arith); top = omega arith; past = λ up. record { restarts = omega arith; uses = λ k. omega arith }; present = λ up is live. refl }))
      ]

  caller_means : Means (up_views Dte) (up_views Dce) book_up.pairs both 0 caller_tag
  caller_means = record {
    caller = λ e. record { called = refl; not_answered = refl; paired = λ v. (0, record { caller = 0; callee = 1 }, refl, refl) };
    callee = λ k e. absurd (caller_not_callee k e);
    cancelled = λ e. absurd (caller_not_cancelled e);
  }

  callee_means : Means (up_views Dce) (up_views Dte) book_up.pairs both 1 callee_tag
  callee_means = record {
    caller = λ e. absurd (caller_not_callee 0 (sym e));
    callee = λ k e. subst (λ (i : ℕ). IsCallee (up_views Dce) book_up.pairs both 1 i callee_tag) (callee_number 0 k e) (record {
      far = refl;
      order = omega arith;
      mate = caller_tag;
      there = refl;
      calls = refl;
      role = refl;
      channel_use = refl;
      address = refl;
      free = λ d. absurd (dte_not_dce (sym d));
      paired = λ v. (0, record { caller = 0; callee = 1 }, refl, refl);
    });
    cancelled = λ e. absurd (callee_not_cancelled 0 e);
  }

  up_means : (n : ℕ) (t : Tag) → slice_get both n ≡ Some t → Means (up_views t.role) (up_views (other_of t.role)) book_up.pairs both n t
  up_means n t e =
      elim (two_cases caller_tag callee_tag n t e) [
        | inl h ↦ subst (λ (u : Tag). Means (up_views u.role) (up_views (other_of u.role)) book_up.pairs both n u) (sym h.1) (subst (λ (i : ℕ). Means (up_views Dte) (up_views Dce) book_up.pairs both i caller_tag) (sym h.0) caller_means)
        | inr h ↦ subst (λ (u : Tag). Means (up_views u.role) (up_views (other_of u.role)) book_up.pairs both n u) (sym h.1) (subst (λ (i : ℕ). Means (up_views Dce) (up_views Dte) book_up.pairs both i callee_tag) (sym h.0) callee_means)
      ]

  caller_fits : Fits (up_views Dte) a 0 caller_tag (new_record 0 a None None None)
  caller_fits = record {
    number = refl;
    node_is = refl;
    own = refl;
    far = refl;
    caller = refl;
    tells = λ live. record { sent = λ g. own_sent nothing_passed _ _ (none_sent g) nothing_sent_yet; taken = λ g. own_taken nothing_passed _ _ (none_taken g) nothing_taken_yet };
    none = λ k. absurd (caller_not_cancelled k);
    epochs = λ up is live. record { sent = refl; taken = refl };
  }

  callee_fits : Fits (up_views Dce) b 1 callee_tag (new_record 1 b None None (Some 0))
  callee_fits = record {
    number = refl;
    node_is = refl;
    own = refl;
    far = refl;
    caller = refl;
    tells = λ live. record { sent = λ g. own_sent nothing_passed _ _ (none_sent g) nothing_sent_yet; taken = λ g. own_taken nothing_passed _ _ (none_taken g) nothing_taken_yet };
    none = λ k. absurd (callee_not_cancelled 0 k);
    epochs = λ up is live. record { sent = refl; taken = refl };
  }

  abbrev node_of : Role → ℕ
  node_of z = (side_of z book_up).node

  up_fits : (n : ℕ) (t : Tag) (r : RecordValue) → slice_get both n ≡ Some t → slice_get book_up.records n ≡ Some r → Fits (up_views t.role) (node_of t.role) n t r
  up_fits n t r e g =
      elim (two_cases caller_tag callee_tag n t e) [
        | inl h ↦
            let is : r ≡ new_record 0 a None None None = sym (same_Some (new_record 0 a None None None) r (ap (λ (i : ℕ). slice_get book_up.records i) (sym h.0) ∙ g)) in
            subst (λ (z : RecordValue). Fits (up_views t.role) (node_of t.role) n t z) (sym is)
            (subst (λ (u : Tag). Fits (up_views u.role) (node_of u.role) n u (new_record 0 a None None None)) (sym h.1) (subst (λ (i : ℕ). Fits (up_views Dte) a i caller_tag (new_record 0 a None None None)) (sym h.0) caller_fits))
        | inr h ↦
            let is : r ≡ new_record 1 b None None (Some 0) = sym (same_Some (new_record 1 b None None (Some 0)) r (ap (λ (i : ℕ). slice_get book_up.records i) (sym h.0) ∙ g)) in
            subst (λ (z : RecordValue). Fits (up_views t.role) (node_of t.role) n t z) (sym is)
            (subst (λ (u : Tag). Fits (up_views u.role) (node_of u.role) n u (new_record 1 b None None (Some 0))) (sym h.1) (subst (λ (i : ℕ). Fits (up_views Dce) b i callee_tag (new_record 1 b None None (Some 0))) (sym h.0) callee_fits))
      ]

  up_slot : (x : Role) (c : ℕ) → SlotIs ((up_views x).status c) (up_views x) both x c (slot_at x c book_up)
  up_slot Dte zero = refl
  up_slot Dte (suc zero) = (record { session = 0; number = 0; tag = caller_tag; up = refl; is_present = refl; there = refl; role = refl; channel_use = refl; live = caller_not_cancelled }, λ a e. absurd (none-some a e), λ none. refl)
  up_slot Dte (suc (suc i)) = subst (λ (v : CallStatus). SlotIs v (up_views Dte) both Dte (suc (suc i)) (slot_at Dte (suc (suc i)) book_up)) (sym (idle_at Dte m i)) (ap (λ (z : Slot). z.present) (free_all m (suc i)))
  up_slot Dce zero = refl
  up_slot Dce (suc zero) = (record { session = 0; number = 1; tag = callee_tag; up = refl; is_present = refl; there = refl; role = refl; channel_use = refl; live = callee_not_cancelled 0 }, λ a e. (ap (λ (k : ℕ). Callee k) (same_Some 0 a e), refl), λ none. absurd (none-some 0 (sym none)))
  up_slot Dce (suc (suc i)) = subst (λ (v : CallStatus). SlotIs v (up_views Dce) both Dce (suc (suc i)) (slot_at Dce (suc (suc i)) book_up)) (sym (idle_at Dce m i)) (ap (λ (z : Slot). z.present) (free_all m (suc i)))

  up_last : (k : ChannelUse) → k.channel ≡ 1 → IsSome (called_at (up_views Dte) k) → UpTo k first
  up_last k e some =
      let h = dte_called k.session k.channel k.restart k.use_ some in
      let s = h.0 in let r = h.2 in let u = h.3 in
      record { sessions = omega arith; restarts = λ z. omega arith; uses = λ z v. omega arith }

  two_up : (i : ℕ) → ◌≡◌ {A = ℕ} (suc (suc i)) 1 → ⊥
  two_up i e = omega arith

  zero_up : ◌≡◌ {A = ℕ} 0 1 → ⊥
  zero_up e = omega arith

  up_placed : (x : Role) (c : ℕ) → PlacedIs (slot_at x c book_up).placed (up_views x) both x c
  up_placed Dte zero = λ k e. dte_none k.session k.channel k.restart k.use_ (λ h. zero_up (sym e ∙ h))
  up_placed Dte (suc zero) = record {
    tag = caller_tag;
    parts = no_parts;
    there = refl;
    role = refl;
    channel = refl;
    session = omega arith;
    called = refl;
    own = refl;
    far = refl;
    placed = λ k e. caller_not_callee k e;
    last = up_last;
  }
  up_placed Dte (suc (suc i)) = subst (λ (z : Slot). PlacedIs z.placed (up_views Dte) both Dte (suc (suc i))) (sym (free_all m (suc i))) (λ k e. dte_none k.session k.channel k.restart k.use_ (λ h. two_up i (sym e ∙ h)))
  up_placed Dce zero = λ k e. dce_none k.session k.channel k.restart k.use_
  up_placed Dce (suc zero) = λ k e. dce_none k.session k.channel k.restart k.use_
  up_placed Dce (suc (suc i)) = subst (λ (z : Slot). PlacedIs z.placed (up_views Dce) both Dce (suc (suc i))) (sym (free_all m (suc i))) (λ k e. dce_none k.session k.channel k.restart k.use_)

  up_tops : (x : Role) (s : ℕ) → (up_views x).session ≡ Some s → s ≡ (up_views x).top
  up_tops Dte s e = sym (same_Some 0 s e)
  up_tops Dce s e = sym (same_Some 0 s e)

  up_alone : (i j : ℕ) (t u : Tag) → slice_get both i ≡ Some t → slice_get both j ≡ Some u → IsLive t.kind → IsLive u.kind → t.role ≡ u.role → t.channel_use ≡ u.channel_use → i ≡ j
  up_alone i j t u ei ej lt lu role channel_use =
      elim (two_cases caller_tag callee_tag i t ei) [
        | inl h ↦ elim (two_cases caller_tag callee_tag j u ej) [
          | inl g ↦ h.0 ∙ sym g.0
          | inr g ↦ absurd (dte_not_dce (ap (λ (z : Tag). z.role) (sym h.1) ∙ role ∙ ap (λ (z : Tag). z.role) g.1))
        ]
        | inr h ↦ elim (two_cases caller_tag callee_tag j u ej) [
          | inl g ↦ absurd (dte_not_dce (ap (λ (z : Tag). z.role) (sym g.1) ∙ sym role ∙ ap (λ (z : Tag). z.role) h.1))
          | inr g ↦ h.0 ∙ sym g.0
        ]
      ]

  up_accepted : (x : Role) (k : ChannelUse) → answered_at (up_views x) k ≡ true → CameIn both x k
  up_accepted Dte k e = absurd (true≢false (sym e ∙ dte_accepted k.session k.channel k.restart k.use_))
  up_accepted Dce k e = record {
    number = 1;
    caller = 0;
    tag = callee_tag;
    there = refl;
    role = refl;
    channel_use = use_is k.session k.channel k.restart k.use_ (dce_accepted k.session k.channel k.restart k.use_ e);
    kind = refl;
  }

  abbrev the_pair : PairValue
  the_pair = record { caller = 0; callee = 1 }

  -- the DTE's channel 1 has record 0, the DCE's record 1, and no other channel has any
  up_present : (x : Role) (c i : ℕ) → (slot_at x c book_up).present ≡ Some i → ((x ≡ Dte) × (c ≡ 1) × (i ≡ 0)) ⊎ ((x ≡ Dce) × (c ≡ 1) × (i ≡ 1))
  up_present Dte zero i e = absurd (none-some i e)
  up_present Dte (suc zero) i e = inl (refl, refl, sym (same_Some 0 i e))
  up_present Dte (suc (suc c)) i e = absurd (none-some i (sym (ap (λ (z : Slot). z.present) (free_all m (suc c))) ∙ e))
  up_present Dce zero i e = absurd (none-some i e)
  up_present Dce (suc zero) i e = inr (refl, refl, sym (same_Some 1 i e))
  up_present Dce (suc (suc c)) i e = absurd (none-some i (sym (ap (λ (z : Slot). z.present) (free_all m (suc c))) ∙ e))

  not_zero_one : (i : ℕ) → i ≡ 0 → i ≡ 1 → ⊥
  not_zero_one i e h = omega arith

  up_opened : AreOpen (book_parts book_up).slots book_up.records
  up_opened = record {
    somewhere = λ i r e closed. elim (two_cases (new_record 0 a None None None) (new_record 1 b None None (Some 0)) i r e) [
      | inl h ↦ (Dte, 1, ap (λ (k : ℕ). Some k) (sym h.0))
      | inr h ↦ (Dce, 1, ap (λ (k : ℕ). Some k) (sym h.0))
    ];
    is_open = λ x c i r e g. elim (two_cases (new_record 0 a None None None) (new_record 1 b None None (Some 0)) i r g) [
      | inl h ↦ ap (λ (z : RecordValue). z.closed) h.1
      | inr h ↦ ap (λ (z : RecordValue). z.closed) h.1
    ];
    one_place = λ x y c d i e g. elim (up_present x c i e) [
      | inl h ↦ elim (up_present y d i g) [
        | inl k ↦ (h.0 ∙ sym k.0, h.1 ∙ sym k.1)
        | inr k ↦ absurd (not_zero_one i h.2 k.2)
      ]
      | inr h ↦ elim (up_present y d i g) [
        | inl k ↦ absurd (not_zero_one i k.2 h.2)
        | inr k ↦ (h.0 ∙ sym k.0, h.1 ∙ sym k.1)
      ]
    ];
  }

  up_right : IsRight up_views (book_parts book_up) both
  up_right = record {
    stands = up_stands;
    means = up_means;
    fits = up_fits;
    slot = up_slot;
    placed = up_placed;
    tops = up_tops;
    alone = up_alone;
    pairs = λ i p e. subst (λ (z : PairValue). IsPair up_views both z) (sym (one_case the_pair i p e).1) (record { tag = callee_tag; there = refl; kind = refl; answered = refl });
    accepted = up_accepted;
    once = λ i j p q e g h. (one_case the_pair i p e).0 ∙ sym (one_case the_pair j q g).0;
    count = refl;
    opened = up_opened;
  }

  up_sizes : HasSize (suc m) book_up
  up_sizes = record { size = size; address = address }
    where
      size : (z : Role) → length (side_of z book_up).slots ≡ suc m
      size Dte = ap suc (slots_length m)
      size Dce = ap suc (slots_length m)

      address : (z : Role) → (side_of z book_up).address ≡ []
      address Dte = refl
      address Dce = refl

  pub up_kept : KeptAt (suc m) Dte me_up you_up 0 0 book_up (None ∷ Some 0 ∷ [])
  up_kept = record {
    tags = both;
    callers = refl;
    right = up_right;
    sizes = up_sizes;
    here = record { role = refl; count = ap suc (channels_length m); up = λ p. (0, refl, refl) };
    there = record { role = refl; count = ap suc (channels_length m); up = λ p. (0, refl, refl) };
  }

pub start_kept : (a b n : ℕ) (flow : Flow) (standing : Bool) → 1 ≤ n → KeptIn n (start a b n flow standing) (made_callers standing)
start_kept a b n flow false some = down_kept a b n flow
start_kept a b zero flow true some = absurd (omega arith)
start_kept a b (suc m) flow true some = up_kept a b m flow
