-- The room of a book, as its parts change.
use Rattle.std.proofs.Common.{◌≡◌, ℕ, zero, suc, ◌+◌, ◌<◌, ◌≤◌, List, map, length, sym, ap, subst, ◌∙◌, inl, inr, arith}
use Rattle.std.specs.Prelude.{◌⊎◌, [], ◌∷◌, Some, None}
use Rattle.std.proofs.lemmas.Option.{none-some}
use Rattle.link_timers.specs.declared.role.Role.{Role}
use Rattle.link_timers.specs.declared.role.Role.TheVariants.{Dte, Dce}
use Rattle.call_records.specs.Book.{Book, Slot, Side, side_of, nth_slot, with_nth, with_slot}
use Rattle.call_records.specs.RecordView.{shown, pair_of, PlacesAt}
use Rattle.call_records.specs.BookView.{book_with, book_of, CallsHavePlaces, HasRoom}
use Rattle.call_records.specs.declared.ends.Ends.{Ends}
use Rattle.call_records.specs.declared.book.Book.TheInside.{Inside}
use Rattle.call_records.proofs.Growing.{fewer_at}
use Rattle.call_records.proofs.Sides.{nth_or, beyond}
use Rattle.call_records.specs.declared.record.Record.{Record}

le_or_next : (m n : ℕ) → m ≤ n + 1 → (m ≤ n) ⊎ (m ≡ n + 1)
le_or_next zero n h = inl (omega arith)
le_or_next (suc m) zero h = inr (omega arith)
le_or_next (suc m) (suc n) h = elim (le_or_next m n (omega arith)) [ inl k ↦ inl (omega arith) | inr k ↦ inr (omega arith) ]

le_or_more : (m n : ℕ) → (m ≤ n) ⊎ (n < m)
le_or_more zero n = inl (omega arith)
le_or_more (suc m) zero = inr (omega arith)
le_or_more (suc m) (suc n) = elim (le_or_more m n) [ inl k ↦ inl (omega arith) | inr k ↦ inr (omega arith) ]

-- where there is no record, no call's record lacks places
pub no_places : (k : ℕ) (slots : List Slot) (rs : List Record) → length rs ≡ 0 → CallsHavePlaces k slots rs
no_places k slots [] e = λ channel number h r at. absurd (none-some r at)
no_places k slots (r ∷ rs) e = absurd (omega arith)

same_number : (m n : ℕ) → Some m ≡ Some n → m ≡ n
same_number m n e = cc

pub fewer_calls : (k j : ℕ) (slots : List Slot) (rs : List Record) → j ≤ k → CallsHavePlaces k slots rs → CallsHavePlaces j slots rs
fewer_calls k j slots rs h p channel number e = fewer_at k j number rs h (p channel number e)

pub fewer_places : (a : Inside) (room k : ℕ) → room ≤ k → k ≤ a.places → HasRoom a →
    HasRoom (record a { room = room; places = k })
fewer_places a room k less h p = record {
  room = less;
  records = omega (arith, p.records);
  pairs = omega (arith, p.pairs);
  pair_room = p.pair_room;
  most_records = p.most_records;
  most_pairs = p.most_pairs;
  counted = p.counted;
  dte = fewer_calls a.places k a.ends.dte.slots a.records.items h p.dte;
  dce = fewer_calls a.places k a.ends.dce.slots a.records.items h p.dce;
}

has_places : (a : Inside) (role : Role) (channel n : ℕ) → HasRoom a → (nth_slot (side_of role (book_of a)).slots channel).present ≡ Some n → PlacesAt a.places n a.records.items
has_places a Dte channel n p e = p.dte channel n e
has_places a Dce channel n p e = p.dce channel n e

-- the record of the present call on a channel has places
pub present_has : (a : Inside) (role : Role) (channel n : ℕ) (side : Side) (slot : Slot) → side ≡ side_of role (book_of a) → slot ≡ nth_slot side.slots channel → slot.present ≡ Some n → HasRoom a
    → PlacesAt a.places n a.records.items
present_has a role channel n side slot s t h p =
    has_places a role channel n p (ap (λ (x : Slot). x.present) (sym (t ∙ ap (λ (x : Side). nth_slot x.slots channel) s)) ∙ h)

put_places : (k channel : ℕ) (slots old : List Slot) (slot : Slot) (rs : List Record) → slots ≡ with_nth old channel slot → slot.present ≡ None → CallsHavePlaces k old rs → CallsHavePlaces k slots rs
put_places k channel slots old slot rs e none p d number h =
    let P : Slot → Type 0 = λ s. s.present ≡ Some number → PlacesAt k number rs in
    nth_or P old channel d slot (λ q. absurd (cc)) (p d number) (ap (λ (l : List Slot). (nth_slot l d).present) (sym e) ∙ h)

same_places : (k : ℕ) (slots old : List Slot) (rs : List Record) → slots ≡ old → CallsHavePlaces k old rs → CallsHavePlaces k slots rs
same_places k slots old rs e p = let P : List Slot → Type 0 = λ l. CallsHavePlaces k l rs in subst P (sym e) p

-- no call is present any more where something is kept of a channel
pub put_room : (a : Inside) (ends : Ends) (role : Role) (channel : ℕ) (slot : Slot)
    → book_with (map shown a.records.items) (map pair_of a.pairs.items) ends ≡ with_slot role channel slot (book_of a) → slot.present ≡ None → HasRoom a → HasRoom (record a { ends = ends })
put_room a ends Dte channel slot e none p = record {
  room = p.room;
  records = p.records;
  pairs = p.pairs;
  pair_room = p.pair_room;
  most_records = p.most_records;
  most_pairs = p.most_pairs;
  counted = p.counted;
  dte = put_places a.places channel ends.dte.slots a.ends.dte.slots slot a.records.items (ap (λ (b : Book). b.dte.slots) e) none p.dte;
  dce = same_places a.places ends.dce.slots a.ends.dce.slots a.records.items (ap (λ (b : Book). b.dce.slots) e) p.dce;
}
put_room a ends Dce channel slot e none p = record {
  room = p.room;
  records = p.records;
  pairs = p.pairs;
  pair_room = p.pair_room;
  most_records = p.most_records;
  most_pairs = p.most_pairs;
  counted = p.counted;
  dte = same_places a.places ends.dte.slots a.ends.dte.slots a.records.items (ap (λ (b : Book). b.dte.slots) e) p.dte;
  dce = put_places a.places channel ends.dce.slots a.ends.dce.slots slot a.records.items (ap (λ (b : Book). b.dce.slots) e) none p.dce;
}

-- the record of the present call on each channel up to the next one has the places, where it is a call's
pub this_or_before : (slots : List Slot) (place count this : ℕ) (rs : List Record) → (nth_slot slots (place + 1)).present ≡ Some this → PlacesAt count this rs
    → ((channel number : ℕ) → channel ≤ place → (nth_slot slots channel).present ≡ Some number → PlacesAt count number rs)
    → (channel number : ℕ) → channel ≤ place + 1 → (nth_slot slots channel).present ≡ Some number → PlacesAt count number rs
this_or_before slots place count this rs t at before channel number le e = elim (le_or_next channel place le) [
  | inl h ↦ before channel number h e
  | inr h ↦
      let same : this ≡ number = same_number this number (sym t ∙ ap (λ (n : ℕ). (nth_slot slots n).present) (sym h) ∙ e) in
      let P : ℕ → Type 0 = λ n. PlacesAt count n rs in
      subst P same at
]

pub none_or_before : (slots : List Slot) (place count : ℕ) (rs : List Record) → (nth_slot slots (place + 1)).present ≡ None
    → ((channel number : ℕ) → channel ≤ place → (nth_slot slots channel).present ≡ Some number → PlacesAt count number rs)
    → (channel number : ℕ) → channel ≤ place + 1 → (nth_slot slots channel).present ≡ Some number → PlacesAt count number rs
none_or_before slots place count rs t before channel number le e = elim (le_or_next channel place le) [
  | inl h ↦ before channel number h e
  | inr h ↦
      let no : None ≡ Some number = sym t ∙ ap (λ (n : ℕ). (nth_slot slots n).present) (sym h) ∙ e in
      absurd (cc)
]

-- no call is present beyond the channels
pub before_all : (slots : List Slot) (count : ℕ) (rs : List Record)
    → ((channel number : ℕ) → channel ≤ length slots → (nth_slot slots channel).present ≡ Some number → PlacesAt count number rs)
    → CallsHavePlaces count slots rs
before_all slots count rs before channel number e = elim (le_or_more channel (length slots)) [
  | inl h ↦ before channel number h e
  | inr h ↦
      let no : None ≡ Some number = ap (λ (s : Slot). s.present) (sym (beyond slots channel h)) ∙ e in
      absurd (cc)
]
