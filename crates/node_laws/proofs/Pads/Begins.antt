-- What holds of a PAD and of the book of its line at the making.
use Rattle.std.proofs.Common.{◌≡◌, ℕ, zero, suc, ◌-◌, ◌≤◌, inl, inr, Bool, true, false, if◌then◌else◌, List, [], ◌∷◌, Some, None, refl, sym, ap, subst, ◌∙◌, true≢false, arith}
use Rattle.std.specs.Prelude.{slice_get, replicate}
use Rattle.std.proofs.lemmas.Option.{none-some, same_Some}
use Rattle.link_timers.specs.declared.role.Role.{Role}
use Rattle.link_timers.specs.declared.role.Role.TheVariants.{Dte, Dce}
use Rattle.link_timers.specs.Role.{other_of}
use Rattle.pad_editing.specs.Edited.{edit_of}
use Rattle.packet_channel.specs.Channel.{closed_channel}
use Rattle.packet_layer.specs.Layer.{nth_channel, standing_channels}
use Rattle.record_laws.specs.Books.Headline.{has_call}
use Rattle.call_records.specs.Records.{RecordValue, new_record}
use Rattle.call_records.specs.Book.{Book, Slot, free_slot, nth_slot, with_nth, new_book, standing_book, made_book}
use Rattle.pad_ports.specs.Ports.{PortState, has_channel, new_port}
use Rattle.record_laws.specs.Words.{HasTyped}
use Rattle.node_laws.specs.Pads.Holds.{node_at, HasItsRecords, HasEachOnce, IsPort, IsOn}
use Rattle.node_laws.specs.Pads.Holds.{PadTypes}
use Rattle.x25_pad.specs.Making.{made, IsConfig}
use Rattle.x25_pad.specs.declared.config.PadConfig.{PadConfig}
use Rattle.node_laws.proofs.Pads.Lists.{nth_cases}
use Rattle.node_laws.proofs.Pads.Records.{new_has}
use Rattle.node_laws.proofs.Pads.Typing.{same_channel}

-- ---- slots

none_present : (channels c : ℕ) → (nth_slot (replicate channels free_slot) c).present ≡ None
none_present channels zero = refl
none_present zero (suc i) = refl
none_present (suc channels) (suc zero) = refl
none_present (suc channels) (suc (suc i)) = none_present channels (suc i)

-- where one slot is written its present call is the only one, and on that channel
only_present : (channels c n k : ℕ) (z : Slot) → z.present ≡ Some k → (nth_slot (with_nth (replicate channels free_slot) 1 z) c).present ≡ Some n → (k ≡ n) × (c ≡ 1)
only_present channels c n k z e present =
    elim (nth_cases (replicate channels free_slot) 1 z c) [
      | inl q ↦ absurd (none-some n (sym (none_present channels c) ∙ sym (ap (λ (s : Slot). s.present) q) ∙ present))
      | inr q ↦ (same_Some k n (sym e ∙ sym (ap (λ (s : Slot). s.present) q.0) ∙ present), q.1)
    ]

-- ---- a book

-- each end has its records, each once; they have sent what a PAD sends, and no steps are written
record BookBegins (b : Book) : Type 0 where
  has : (y : Role) → HasItsRecords y b
  once : (y : Role) → HasEachOnce y b
  sent : (n : ℕ) (r : RecordValue) → slice_get b.records n ≡ Some r → HasTyped r
  nothing : (n : ℕ) (r : RecordValue) → slice_get b.records n ≡ Some r → (edit_of r.steps).held ≡ []

new_begins : (dte_node dce_node channels : ℕ) → BookBegins (new_book dte_node dce_node channels)
new_begins dte_node dce_node channels = record {
  has = λ y. has y;
  once = λ y. once y;
  sent = λ n r e. absurd (none-some r e);
  nothing = λ n r e. absurd (none-some r e);
}
  where
    has : (y : Role) → HasItsRecords y (new_book dte_node dce_node channels)
    has Dte c n e = absurd (none-some n (sym (none_present channels c) ∙ e))
    has Dce c n e = absurd (none-some n (sym (none_present channels c) ∙ e))

    once : (y : Role) → HasEachOnce y (new_book dte_node dce_node channels)
    once Dte c d n e f = absurd (none-some n (sym (none_present channels c) ∙ e))
    once Dce c d n e f = absurd (none-some n (sym (none_present channels c) ∙ e))

standing_begins : (dte_node dce_node channels : ℕ) → BookBegins (standing_book (new_book dte_node dce_node channels))
standing_begins dte_node dce_node channels = record { has = λ y. has y; once = λ y. once y; sent = λ n r e. sent n r e; nothing = λ n r e. nothing n r e }
  where
    has : (y : Role) → HasItsRecords y (standing_book (new_book dte_node dce_node channels))
    has Dte c n e =
        let k : 0 ≡ n = (only_present channels c n 0 (record { present = Some 0; placed = Some 0; caller = None }) refl e).0 in
        (new_record 0 dte_node None None None, ap (λ (i : ℕ). slice_get (standing_book (new_book dte_node dce_node channels)).records i) (sym k), refl)
    has Dce c n e =
        let k : 1 ≡ n = (only_present channels c n 1 (record { present = Some 1; placed = None; caller = Some 0 }) refl e).0 in
        (new_record 1 dce_node None None (Some 0), ap (λ (i : ℕ). slice_get (standing_book (new_book dte_node dce_node channels)).records i) (sym k), refl)

    once : (y : Role) → HasEachOnce y (standing_book (new_book dte_node dce_node channels))
    once Dte c d n e f =
        (only_present channels c n 0 (record { present = Some 0; placed = Some 0; caller = None }) refl e).1
        ∙ sym (only_present channels d n 0 (record { present = Some 0; placed = Some 0; caller = None }) refl f).1
    once Dce c d n e f =
        (only_present channels c n 1 (record { present = Some 1; placed = None; caller = Some 0 }) refl e).1
        ∙ sym (only_present channels d n 1 (record { present = Some 1; placed = None; caller = Some 0 }) refl f).1

    sent : (n : ℕ) (r : RecordValue) → slice_get (standing_book (new_book dte_node dce_node channels)).records n ≡ Some r → HasTyped r
    sent zero r e = subst (λ (z : RecordValue). HasTyped z) (same_Some (new_record 0 dte_node None None None) r e) (new_has 0 dte_node None None None)
    sent (suc zero) r e = subst (λ (z : RecordValue). HasTyped z) (same_Some (new_record 1 dce_node None None (Some 0)) r e) (new_has 1 dce_node None None (Some 0))
    sent (suc (suc n)) r e = absurd (none-some r e)

    nothing : (n : ℕ) (r : RecordValue) → slice_get (standing_book (new_book dte_node dce_node channels)).records n ≡ Some r → (edit_of r.steps).held ≡ []
    nothing zero r e = ap (λ (z : RecordValue). (edit_of z.steps).held) (sym (same_Some (new_record 0 dte_node None None None) r e))
    nothing (suc zero) r e = ap (λ (z : RecordValue). (edit_of z.steps).held) (sym (same_Some (new_record 1 dce_node None None (Some 0)) r e))
    nothing (suc (suc n)) r e = absurd (none-some r e)

book_begins : (dte_node dce_node channels : ℕ) (standing : Bool) → BookBegins (made_book dte_node dce_node channels standing)
book_begins dte_node dce_node channels true = standing_begins dte_node dce_node channels
book_begins dte_node dce_node channels false = new_begins dte_node dce_node channels

made_apart : (role : Role) (dte_node dce_node channels : ℕ) (standing : Bool) → (dte_node ≡ dce_node → ⊥)
    → node_at role (made_book dte_node dce_node channels standing) ≡ node_at (other_of role) (made_book dte_node dce_node channels standing) → ⊥
made_apart Dte dte_node dce_node channels true h e = h e
made_apart Dte dte_node dce_node channels false h e = h e
made_apart Dce dte_node dce_node channels true h e = h (sym e)
made_apart Dce dte_node dce_node channels false h e = h (sym e)

-- ---- the ports

new_is_port : (params : List ℕ) (standing : Bool) → IsPort (new_port params (if standing then Some 1 else None))
new_is_port params true = record { free = λ e. absurd (none-some 1 (sym e)); bare = λ e. absurd (true≢false e); empty = λ e. refl; short = omega arith }
new_is_port params false = record { free = λ e. refl; bare = λ e. refl; empty = λ e. refl; short = omega arith }

others_are : (n : ℕ) (x : PortState) (j : ℕ) (q : PortState) → slice_get (replicate n x) j ≡ Some q → x ≡ q
others_are zero x j q e = absurd (none-some q e)
others_are (suc n) x zero q e = same_Some x q e
others_are (suc n) x (suc j) q e = others_are n x j q e

module _ (params : List ℕ) (standing : Bool) (n : ℕ) where
  abbrev first : PortState
  first = new_port params (if standing then Some 1 else None)

  abbrev other : PortState
  other = new_port params None

  abbrev ports : List PortState
  ports = first ∷ replicate n other

  each_port : (j : ℕ) (q : PortState) → slice_get ports j ≡ Some q → IsPort q
  each_port zero q e = subst (λ (z : PortState). IsPort z) (same_Some first q e) (new_is_port params standing)
  each_port (suc j) q e = subst (λ (z : PortState). IsPort z) (others_are n other j q e) (new_is_port params false)

  -- no text is held
  no_text : (j : ℕ) (q : PortState) → slice_get ports j ≡ Some q → q.terminal.held ≡ []
  no_text zero q e = ap (λ (z : PortState). z.terminal.held) (sym (same_Some first q e))
  no_text (suc j) q e = ap (λ (z : PortState). z.terminal.held) (sym (others_are n other j q e))

  -- only the first has a call
  first_alone : (j c : ℕ) (q : PortState) → IsOn ports j c q → (j ≡ 0) × (has_channel first.call c ≡ true)
  first_alone zero c q on = (refl, ap (λ (z : PortState). has_channel z.call c) (same_Some first q on.0) ∙ on.1)
  first_alone (suc j) c q on = absurd (true≢false (sym (ap (λ (z : PortState). has_channel z.call c) (others_are n other j q on.0) ∙ on.1)))

-- its channel has the call that stands
standing_call : (standing : Bool) (params : List ℕ) (channels c : ℕ) → 1 ≤ channels → has_channel (new_port params (if standing then Some 1 else None)).call c ≡ true
    → has_call (nth_channel (standing_channels standing (replicate channels closed_channel)) c) ≡ true
standing_call false params channels c some on = absurd (true≢false (sym on))
standing_call true params zero c some on = absurd (omega arith)
standing_call true params (suc channels) c some on =
    ap (λ (k : ℕ). has_call (nth_channel (standing_channels true (replicate (suc channels) closed_channel)) k)) (sym (same_channel 1 c on))

pub made_types : (role : Role) (c : PadConfig) (dte_node dce_node channels : ℕ) → (dte_node ≡ dce_node → ⊥) → IsConfig c
    → PadTypes role (made c) (made_book dte_node dce_node channels c.line.standing)
made_types role c dte_node dce_node channels differ config =
    let s : Bool = c.line.standing in
    let b : Book = made_book dte_node dce_node channels s in
    let begins = book_begins dte_node dce_node channels s in
    let n : ℕ = c.terminals - 1 in
    record {
      size = config.size;
      book = record {
        apart = made_apart role dte_node dce_node channels s differ;
        own = begins.has role;
        far = begins.has (other_of role);
        once = begins.once role;
        sent = λ i r e own. begins.sent i r e;
        left = λ d t x i r e g. begins.nothing i r g ∙ sym (no_text c.params s n x.0 x.1 x.2) ∙ x.4;
      };
      read = refl;
      unread = refl;
      ports = each_port c.params s n;
      alone = λ i j d q r e f. (first_alone c.params s n i d q e).0 ∙ sym (first_alone c.params s n j d r f).0;
      calls = λ i d q on. standing_call s c.params c.line.channels d config.line.layer.channels_least (first_alone c.params s n i d q on).1;
    }
