-- What is written into the book of a line with a PAD.
use Rattle.std.specs.Prelude.{◌≡◌, ℕ, zero, suc, false, ◌⊎◌, List, [], ◌∷◌, ◌++◌, length, slice_get, Option, Some, None}
use Rattle.std.proofs.Common.{inl, inr, refl, sym, ap, subst, ◌∙◌}
use Rattle.std.proofs.lemmas.Option.{none-some, same_Some}
use Rattle.link_timers.specs.declared.role.Role.{Role}
use Rattle.link_timers.specs.declared.role.Role.TheVariants.{Dte, Dce}
use Rattle.link_timers.specs.Role.{other_of}
use Rattle.pad_editing.specs.Edited.{Step, edit_of, effect_of}
use Rattle.data_transfer.specs.Packets.{Datum, CallParts, Note}
use Rattle.data_transfer.specs.Packets.Note.{Incoming, Connected, Closed, WasReset, InterruptConfirmed, Covered}
use Rattle.data_transfer.specs.Traffic.{Taken}
use Rattle.data_transfer.specs.Traffic.Taken.{TakenInterrupt, TakenPacket}
use Rattle.packet_channel.specs.Channel.{Request, Refusal}
use Rattle.packet_channel.specs.Channel.Request.{Accept, Clearing, Resetting, Sending, Interrupting, Stopping, Taking, Releasing, Confirming}
use Rattle.call_records.specs.Records.{RecordValue, PairValue, new_record, changed_at, with_closed, with_epoch, with_sent, with_step, with_taken, with_interrupt_taken, with_interrupt_sent, with_released, with_covered}
use Rattle.call_records.specs.Book.{Book, Side, Slot, free_slot, side_of, nth_slot, slot_at, with_slot, with_change, changed, with_record, address_of, calling_from, with_pair, answers, closes, sends, takes, edits, packet_of, told, all_told}
use Rattle.call_records.specs.Carried.{carried, unless_refused, placed_on}
use Rattle.call_records.specs.Closing.{closes_if, closes_present, closed_from, all_closed}
use Rattle.call_records.specs.Writes.{Write, Write as write, all_sent, let_go, written_by, all_written}
use Rattle.pad_ports.specs.PadLine.{datum}
use Rattle.record_laws.specs.Words.{HasTyped}
use Rattle.node_laws.specs.Pads.Holds.{node_at, HasItsRecords, HasEachOnce, IsLeft, BookHolds}
use Rattle.node_laws.proofs.Pads.Records.{IsQuiet, taken_quiet, interrupt_taken_quiet, released_quiet, covered_quiet, epoch_quiet, closed_quiet, with_edit, edit_node, edit_has, edit_held, new_has}
use Rattle.node_laws.proofs.Pads.Lists.{get_before, get_last, get_pushed, get_changed, changed_here, changed_there, changed_twice, nth_cases, nth_here, other_differs, below_length}

pub narrowed : (role : Role) (X Y : ℕ → List ℕ → Type 0) (b : Book) → ((c : ℕ) (t : List ℕ) → Y c t → X c t) → BookHolds role X b → BookHolds role Y b
narrowed role X Y b f h = record {
  apart = h.apart;
  own = h.own;
  far = h.far;
  once = h.once;
  sent = h.sent;
  left = λ c t y. h.left c t (f c t y);
}

-- ---- what stays

-- the slots of an end stay, and each record stays where it is, of its node
pub has_kept : (y : Role) (b b' : Book) → side_of y b' ≡ side_of y b
    → ((n : ℕ) (r : RecordValue) → slice_get b.records n ≡ Some r → (r' : RecordValue) × (slice_get b'.records n ≡ Some r') × (r'.node ≡ r.node))
    → HasItsRecords y b → HasItsRecords y b'
has_kept y b b' s keep h c n e =
    let old = h c n (ap (λ (z : Side). (nth_slot z.slots c).present) (sym s) ∙ e) in
    let now = keep n old.0 old.1 in
    (now.0, now.1, now.2 ∙ old.2 ∙ ap (λ (z : Side). z.node) (sym s))

apart_kept : (role : Role) (b b' : Book) → ((y : Role) → node_at y b' ≡ node_at y b) → (node_at role b ≡ node_at (other_of role) b → ⊥) → node_at role b' ≡ node_at (other_of role) b' → ⊥
apart_kept role b b' s h e = h (sym (s role) ∙ e ∙ s (other_of role))

once_kept : (y : Role) (b b' : Book) → side_of y b' ≡ side_of y b → HasEachOnce y b → HasEachOnce y b'
once_kept y b b' s h c d n e f =
    h c d n (ap (λ (z : Side). (nth_slot z.slots c).present) (sym s) ∙ e) (ap (λ (z : Side). (nth_slot z.slots d).present) (sym s) ∙ f)

-- ---- a record changes

pub side_changed : (y : Role) (o : Option ℕ) (f : RecordValue → RecordValue) (b : Book) → side_of y (with_change o f b) ≡ side_of y b
side_changed y None f b = refl
side_changed Dte (Some n) f b = refl
side_changed Dce (Some n) f b = refl

pub change_keeps : (o : Option ℕ) (f : RecordValue → RecordValue) (b : Book) → ((x : RecordValue) → (f x).node ≡ x.node) → (n : ℕ) (r : RecordValue) → slice_get b.records n ≡ Some r
    → (r' : RecordValue) × (slice_get (with_change o f b).records n ≡ Some r') × (r'.node ≡ r.node)
change_keeps None f b h n r e = (r, e, refl)
change_keeps (Some m) f b h n r e = changed_there b.records m f n r h e

pub change_of : (o : Option ℕ) (f : RecordValue → RecordValue) (b : Book) (n : ℕ) (r' : RecordValue) → slice_get (with_change o f b).records n ≡ Some r'
    → (r : RecordValue) × (slice_get b.records n ≡ Some r) × (((o ≡ Some n) × (r' ≡ f r)) ⊎ (r' ≡ r))
change_of None f b n r' e = (r', e, inr refl)
change_of (Some m) f b n r' e =
    let g = get_changed b.records m f n r' e in (
      g.0,
      g.1,
      elim g.2 [
        | inl q ↦ inl (ap (λ (k : ℕ). Some k) q.0, q.1)
        | inr q ↦ inr q
      ],
    )

change_holds : (role : Role) (X Y : ℕ → List ℕ → Type 0) (b : Book) (o : Option ℕ) (f : RecordValue → RecordValue) → ((x : RecordValue) → (f x).node ≡ x.node)
    → ((n : ℕ) (r : RecordValue) → o ≡ Some n → slice_get b.records n ≡ Some r → r.node ≡ node_at role b → HasTyped r → HasTyped (f r))
    → ((c : ℕ) (t : List ℕ) → Y c t → IsLeft role c t (with_change o f b)) → BookHolds role X b → BookHolds role Y (with_change o f b)
change_holds role X Y b o f node has left h =
    let b' : Book = with_change o f b in
    let stays : (y : Role) → node_at y b' ≡ node_at y b = λ y. ap (λ (z : Side). z.node) (side_changed y o f b) in
    record {
      apart = apart_kept role b b' stays h.apart;
      own = has_kept role b b' (side_changed role o f b) (change_keeps o f b node) h.own;
      far = has_kept (other_of role) b b' (side_changed (other_of role) o f b) (change_keeps o f b node) h.far;
      once = once_kept role b b' (side_changed role o f b) h.once;
      sent = λ n r' e of_pad.
          let g = change_of o f b n r' e in
          elim g.2 [
            | inl q ↦
                let here : g.0.node ≡ node_at role b = sym (node g.0) ∙ sym (ap (λ (z : RecordValue). z.node) q.1) ∙ of_pad ∙ stays role in
                subst (λ (z : RecordValue). HasTyped z) (sym q.1) (has n g.0 q.0 g.1 here (h.sent n g.0 g.1 here))
            | inr q ↦
                subst (λ (z : RecordValue). HasTyped z) (sym q) (h.sent n g.0 g.1 (sym (ap (λ (z : RecordValue). z.node) q) ∙ of_pad ∙ stays role))
          ];
      left = left;
    }

-- the record that is to change
change_here : (o : Option ℕ) (f : RecordValue → RecordValue) (b : Book) (n : ℕ) (r' : RecordValue) → o ≡ Some n → slice_get (with_change o f b).records n ≡ Some r'
    → (r : RecordValue) × (slice_get b.records n ≡ Some r) × (r' ≡ f r)
change_here None f b n r' e g = absurd (none-some n e)
change_here (Some m) f b n r' e g =
    let same : m ≡ n = same_Some m n e in
    changed_here b.records n f r' (ap (λ (k : ℕ). slice_get (changed_at k f b.records) n) (sym same) ∙ g)

change_twice : (o : Option ℕ) (f g : RecordValue → RecordValue) (b : Book) → with_change o g (with_change o f b) ≡ with_change o (λ r. g (f r)) b
change_twice None f g b = refl
change_twice (Some n) f g b = ap (λ (l : List RecordValue). record b { records = l }) (changed_twice b.records n f g)

-- of two changes of a present call the second finds the same record
pub changed_again : (x : Role) (c : ℕ) (f g : RecordValue → RecordValue) (b : Book) → changed x c g (changed x c f b) ≡ with_change (slot_at x c b).present (λ r. g (f r)) b
changed_again x c f g b =
    let o : Option ℕ = (slot_at x c b).present in
    ap (λ (z : Side). with_change (nth_slot z.slots c).present g (with_change o f b)) (side_changed x o f b) ∙ change_twice o f g b

-- the present call of a channel stays
present_before : (role : Role) (c : ℕ) (o : Option ℕ) (f : RecordValue → RecordValue) (b : Book) (n : ℕ) → (slot_at role c (with_change o f b)).present ≡ Some n → (slot_at role c b).present ≡ Some n
present_before role c o f b n e = ap (λ (z : Side). (nth_slot z.slots c).present) (sym (side_changed role o f b)) ∙ e

-- a quiet change
quiet_holds : (role : Role) (X : ℕ → List ℕ → Type 0) (b : Book) (o : Option ℕ) (f : RecordValue → RecordValue) → IsQuiet f → BookHolds role X b → BookHolds role X (with_change o f b)
quiet_holds role X b o f quiet h =
    change_holds role X X b o f quiet.node (λ n r e g own t. quiet.has_typed r t)
    (λ c t x n r' e g.
    let old = change_of o f b n r' g in
    let before = h.left c t x n old.0 (present_before role c o f b n e) old.1 in
    elim old.2 [
      | inl q ↦ ap (λ (z : RecordValue). (edit_of z.steps).held) q.1 ∙ ap (λ (s : List Step). (edit_of s).held) (quiet.steps old.0) ∙ before
      | inr q ↦ ap (λ (z : RecordValue). (edit_of z.steps).held) q ∙ before
    ]) h

-- a quiet change of the present call on a channel
pub quiet_at : (role : Role) (X : ℕ → List ℕ → Type 0) (b : Book) (x : Role) (c : ℕ) (f : RecordValue → RecordValue) → IsQuiet f → BookHolds role X b → BookHolds role X (changed x c f b)
quiet_at role X b x c f quiet h = quiet_holds role X b (slot_at x c b).present f quiet h

-- a step of editing at the PAD's end, and its block
pub edit_holds : (role : Role) (X Y : ℕ → List ℕ → Type 0) (b : Book) (c : ℕ) (step : Step) (o : Option (List ℕ)) (u : List ℕ) → X c u → (effect_of step u).block ≡ o
    → ((d : ℕ) (t : List ℕ) → Y d t → ((d ≡ c) × (t ≡ (effect_of step u).held)) ⊎ ((d ≡ c → ⊥) × X d t)) → BookHolds role X b
    → BookHolds role Y (with_change (slot_at role c b).present (with_edit step o) b)
edit_holds role X Y b c step o u x block texts h =
    let present : Option ℕ = (slot_at role c b).present in
    change_holds role X Y b present (with_edit step o) (edit_node step o)
    (λ n r e g own t. edit_has step o r (ap (λ (z : List ℕ). (effect_of step z).block) (h.left c u x n r e g) ∙ block) t)
    (λ d t y n r' e g.
    let before : (slot_at role d b).present ≡ Some n = present_before role d present (with_edit step o) b n e in
    elim (texts d t y) [
      | inl q ↦
          let there : present ≡ Some n = ap (λ (k : ℕ). (slot_at role k b).present) (sym q.0) ∙ before in
          let old = change_here present (with_edit step o) b n r' there g in
          ap (λ (z : RecordValue). (edit_of z.steps).held) old.2 ∙ edit_held step o old.0
          ∙ ap (λ (z : List ℕ). (effect_of step z).held) (h.left c u x n old.0 there old.1) ∙ sym q.1
      | inr q ↦
          let old = change_of present (with_edit step o) b n r' g in
          elim old.2 [
            | inl k ↦ absurd (q.0 (h.once d c n before k.0))
            | inr k ↦ ap (λ (z : RecordValue). (edit_of z.steps).held) k ∙ h.left d t q.1 n old.0 before old.1
          ]
    ]) h

abbrev pub with_block : Option (List ℕ) → Role → (c : ℕ) → Book → Book
with_block None role c b = b
with_block (Some block) role c b = sends role c (datum block false) b

-- as it is written
pub edited_holds : (role : Role) (X Y : ℕ → List ℕ → Type 0) (b : Book) (c : ℕ) (step : Step) (o : Option (List ℕ)) (u : List ℕ) → X c u → (effect_of step u).block ≡ o
    → ((d : ℕ) (t : List ℕ) → Y d t → ((d ≡ c) × (t ≡ (effect_of step u).held)) ⊎ ((d ≡ c → ⊥) × X d t)) → BookHolds role X b
    → BookHolds role Y (with_block o role c (edits role c step b))
edited_holds role X Y b c step None u x block texts h = edit_holds role X Y b c step None u x block texts h
edited_holds role X Y b c step (Some text) u x block texts h =
    subst (λ (z : Book). BookHolds role Y z) (sym (changed_again role c (with_step step) (with_sent (packet_of (datum text false))) b))
    (edit_holds role X Y b c step (Some text) u x block texts h)

-- no present call of the other end has a record of the PAD's node
pub not_ours : (role : Role) (X : ℕ → List ℕ → Type 0) (b : Book) → BookHolds role X b → (c n : ℕ) (r : RecordValue) → (slot_at (other_of role) c b).present ≡ Some n → slice_get b.records n ≡ Some r
    → r.node ≡ node_at role b → ⊥
not_ours role X b h c n r e g own =
    let there = h.far c n e in
    h.apart (sym own ∙ ap (λ (z : RecordValue). z.node) (same_Some r there.0 (sym g ∙ there.1)) ∙ there.2)

-- any change of a present call at the other end
pub far_holds : (role : Role) (X : ℕ → List ℕ → Type 0) (b : Book) (c : ℕ) (f : RecordValue → RecordValue) → ((x : RecordValue) → (f x).node ≡ x.node) → BookHolds role X b
    → BookHolds role X (changed (other_of role) c f b)
far_holds role X b c f node h =
    let o : Option ℕ = (slot_at (other_of role) c b).present in
    change_holds role X X b o f node (λ n r e g own t. absurd (not_ours role X b h c n r e g own))
    (λ d t x n r' e g.
    let old = change_of o f b n r' g in
    let here = present_before role d o f b n e in
    let mine = h.own d n here in
    let before = h.left d t x n old.0 here old.1 in
    elim old.2 [
      | inl q ↦ absurd (not_ours role X b h c n mine.0 q.0 mine.1 mine.2)
      | inr q ↦ ap (λ (z : RecordValue). (edit_of z.steps).held) q ∙ before
    ]) h

-- ---- a slot changes

pub slot_cases : (x : Role) (d : ℕ) (z : Slot) (b : Book) (y : Role) (c : ℕ)
    → (slot_at y c (with_slot x d z b) ≡ slot_at y c b) ⊎ ((slot_at y c (with_slot x d z b) ≡ z) × (y ≡ x) × (c ≡ d))
slot_cases Dte d z b Dte c =
    elim (nth_cases b.dte.slots d z c) [
      | inl q ↦ inl q
      | inr q ↦ inr (q.0, refl, q.1)
    ]
slot_cases Dte d z b Dce c = inl refl
slot_cases Dce d z b Dte c = inl refl
slot_cases Dce d z b Dce c =
    elim (nth_cases b.dce.slots d z c) [
      | inl q ↦ inl q
      | inr q ↦ inr (q.0, refl, q.1)
    ]

pub slot_here : (x : Role) (d : ℕ) (z : Slot) (b : Book) → (slot_at x d (with_slot x d z b) ≡ z) ⊎ (slot_at x d (with_slot x d z b) ≡ free_slot)
slot_here Dte d z b = nth_here b.dte.slots d z
slot_here Dce d z b = nth_here b.dce.slots d z

pub slot_records : (x : Role) (d : ℕ) (z : Slot) (b : Book) → (with_slot x d z b).records ≡ b.records
slot_records Dte d z b = refl
slot_records Dce d z b = refl

pub slot_node : (x : Role) (d : ℕ) (z : Slot) (b : Book) (y : Role) → node_at y (with_slot x d z b) ≡ node_at y b
slot_node Dte d z b Dte = refl
slot_node Dte d z b Dce = refl
slot_node Dce d z b Dte = refl
slot_node Dce d z b Dce = refl

pub has_slot : (x : Role) (d : ℕ) (z : Slot) (b : Book) (y : Role) → ((n : ℕ) → z.present ≡ Some n → (r : RecordValue) × (slice_get b.records n ≡ Some r) × (r.node ≡ node_at x b))
    → HasItsRecords y b → HasItsRecords y (with_slot x d z b)
has_slot x d z b y new h c n e =
    let there : (r : RecordValue) × (slice_get b.records n ≡ Some r) × (r.node ≡ node_at y b) =
    elim (slot_cases x d z b y c) [
      | inl q ↦ h c n (ap (λ (s : Slot). s.present) (sym q) ∙ e)
      | inr q ↦ (let k = new n (ap (λ (s : Slot). s.present) (sym q.0) ∙ e) in (k.0, k.1, k.2 ∙ ap (λ (role : Role). node_at role b) (sym q.1)))
    ] in
    (there.0, ap (λ (l : List RecordValue). slice_get l n) (slot_records x d z b) ∙ there.1, there.2 ∙ sym (slot_node x d z b y))

once_slot : (role x : Role) (d : ℕ) (z : Slot) (b : Book) → (role ≡ x → (c n : ℕ) → z.present ≡ Some n → (slot_at role c b).present ≡ Some n → ⊥) → HasEachOnce role b → HasEachOnce role (with_slot x d z b)
once_slot role x d z b fresh h c k n e f =
    elim (slot_cases x d z b role c) [
      | inl q ↦
          let old : (slot_at role c b).present ≡ Some n = ap (λ (s : Slot). s.present) (sym q) ∙ e in
          elim (slot_cases x d z b role k) [
            | inl p ↦ h c k n old (ap (λ (s : Slot). s.present) (sym p) ∙ f)
            | inr p ↦ absurd (fresh p.1 c n (ap (λ (s : Slot). s.present) (sym p.0) ∙ f) old)
          ]
      | inr q ↦
          elim (slot_cases x d z b role k) [
            | inl p ↦ absurd (fresh q.1 k n (ap (λ (s : Slot). s.present) (sym q.0) ∙ e) (ap (λ (s : Slot). s.present) (sym p) ∙ f))
            | inr p ↦ q.2 ∙ sym p.2
          ]
    ]

slot_holds : (role : Role) (X Y : ℕ → List ℕ → Type 0) (b : Book) (x : Role) (d : ℕ) (z : Slot)
    → ((n : ℕ) → z.present ≡ Some n → (r : RecordValue) × (slice_get b.records n ≡ Some r) × (r.node ≡ node_at x b))
    → (role ≡ x → (c n : ℕ) → z.present ≡ Some n → (slot_at role c b).present ≡ Some n → ⊥)
    → ((c : ℕ) (t : List ℕ) → Y c t → X c t ⊎ ((role ≡ x) × (c ≡ d)))
    → (role ≡ x → (t : List ℕ) → Y d t → (n : ℕ) (r : RecordValue) → z.present ≡ Some n → slice_get b.records n ≡ Some r → (edit_of r.steps).held ≡ t)
    → BookHolds role X b → BookHolds role Y (with_slot x d z b)
slot_holds role X Y b x d z new fresh texts here h =
    let b' : Book = with_slot x d z b in
    let same : (n : ℕ) → slice_get b'.records n ≡ slice_get b.records n = λ n. ap (λ (l : List RecordValue). slice_get l n) (slot_records x d z b) in
    let on_it : role ≡ x → (c : ℕ) → c ≡ d → (t : List ℕ) → Y c t → IsLeft role c t b' =
    λ is c one t y n r e g.
    let at : (slot_at x d b').present ≡ Some n = ap (λ (k : ℕ). (slot_at x k b').present) (sym one) ∙ ap (λ (w : Role). (slot_at w c b').present) (sym is) ∙ e in
    elim (slot_here x d z b) [
      | inl q ↦ here is t (subst (λ (k : ℕ). Y k t) one y) n r (ap (λ (s : Slot). s.present) (sym q) ∙ at) (sym (same n) ∙ g)
      | inr q ↦ absurd (none-some n (ap (λ (s : Slot). s.present) (sym q) ∙ at))
    ] in
    record {
      apart = apart_kept role b b' (slot_node x d z b) h.apart;
      own = has_slot x d z b role new h.own;
      far = has_slot x d z b (other_of role) new h.far;
      once = once_slot role x d z b fresh h.once;
      sent = λ n r e own. h.sent n r (sym (same n) ∙ e) (own ∙ slot_node x d z b role);
      left = λ c t y n r e g.
          elim (slot_cases x d z b role c) [
            | inl q ↦
                elim (texts c t y) [
                  | inl w ↦ h.left c t w n r (ap (λ (s : Slot). s.present) (sym q) ∙ e) (sym (same n) ∙ g)
                  | inr w ↦ on_it w.0 c w.1 t y n r e g
                ]
            | inr q ↦ on_it q.1 c q.2 t y n r e g
          ];
    }

-- ---- a record more

pub side_record : (r : RecordValue) (b : Book) (y : Role) → side_of y (with_record r b) ≡ side_of y b
side_record r b Dte = refl
side_record r b Dce = refl

record_holds : (role : Role) (X : ℕ → List ℕ → Type 0) (b : Book) (r : RecordValue) → HasTyped r → BookHolds role X b → BookHolds role X (with_record r b)
record_holds role X b r has h =
    let b' : Book = with_record r b in
    let stays : (y : Role) → node_at y b' ≡ node_at y b = λ y. ap (λ (z : Side). z.node) (side_record r b y) in
    let keep : (n : ℕ) (q : RecordValue) → slice_get b.records n ≡ Some q → (q' : RecordValue) × (slice_get b'.records n ≡ Some q') × (q'.node ≡ q.node) =
    λ n q e. (q, get_before b.records (r ∷ []) n q e, refl) in
    record {
      apart = apart_kept role b b' stays h.apart;
      own = has_kept role b b' (side_record r b role) keep h.own;
      far = has_kept (other_of role) b b' (side_record r b (other_of role)) keep h.far;
      once = once_kept role b b' (side_record r b role) h.once;
      sent = λ n q e own.
          elim (get_pushed b.records r n q e) [
            | inl k ↦ h.sent n q k (own ∙ stays role)
            | inr k ↦ subst (λ (z : RecordValue). HasTyped z) (sym k) has
          ];
      left = λ c t x n q e g.
          let here = ap (λ (z : Side). (nth_slot z.slots c).present) (sym (side_record r b role)) ∙ e in
          let mine = h.own c n here in
          let same : q ≡ mine.0 = same_Some q mine.0 (sym g ∙ get_before b.records (r ∷ []) n mine.0 mine.1) in
          ap (λ (z : RecordValue). (edit_of z.steps).held) same ∙ h.left c t x n mine.0 here mine.1;
    }

-- a call begins at an end: at that of the PAD no text is held for it
pub opens_holds : (role : Role) (X Y : ℕ → List ℕ → Type 0) (b : Book) (x : Role) (c : ℕ) (z : Slot) (near far : Option (List ℕ)) (caller : Option ℕ) → z.present ≡ Some (length b.records)
    → ((d : ℕ) (t : List ℕ) → Y d t → X d t ⊎ ((role ≡ x) × (d ≡ c))) → (role ≡ x → (t : List ℕ) → Y c t → t ≡ []) → BookHolds role X b
    → BookHolds role Y (with_slot x c z (with_record (new_record (length b.records) (side_of x b).node near far caller) b))
opens_holds role X Y b x c z near far caller new texts none h =
    let r : RecordValue = new_record (length b.records) (side_of x b).node near far caller in
    let last : (n : ℕ) → z.present ≡ Some n → slice_get (b.records ++ r ∷ []) n ≡ Some r =
    λ n e. ap (λ (k : ℕ). slice_get (b.records ++ r ∷ []) k) (same_Some n (length b.records) (sym e ∙ new)) ∙ get_last b.records r in
    slot_holds role X Y (with_record r b) x c z (λ n e. (r, last n e, ap (λ (s : Side). s.node) (sym (side_record r b x))))
    (λ same d n e f.
    let there = h.own d n (ap (λ (s : Side). (nth_slot s.slots d).present) (sym (side_record r b role)) ∙ f) in
    below_length b.records n there.0 there.1 (same_Some n (length b.records) (sym e ∙ new)))
    texts
    (λ same t y n q e g. ap (λ (w : RecordValue). (edit_of w.steps).held) (same_Some q r (sym g ∙ last n e)) ∙ sym (none same t y))
    (record_holds role X b r (new_has (length b.records) (side_of x b).node near far caller) h)

-- ---- what is written

pub closes_holds : (role : Role) (X : ℕ → List ℕ → Type 0) (x : Role) (c : ℕ) (b : Book) → BookHolds role X b → BookHolds role X (closes x c b)
closes_holds role X x c b h =
    slot_holds role X X (changed x c with_closed b) x c (record (slot_at x c b) { present = None; caller = None })
    (λ n e. absurd (none-some n e)) (λ same d n e f. absurd (none-some n e)) (λ d t y. inl y) (λ same t y n r e g. absurd (none-some n e))
    (quiet_holds role X b (slot_at x c b).present with_closed closed_quiet h)

closes_if_holds : (role : Role) (X : ℕ → List ℕ → Type 0) (o : Option ℕ) (x : Role) (c : ℕ) (b : Book) → BookHolds role X b → BookHolds role X (closes_if o x c b)
closes_if_holds role X None x c b h = h
closes_if_holds role X (Some n) x c b h = closes_holds role X x c b h

closed_from_holds : (role : Role) (X : ℕ → List ℕ → Type 0) (count c : ℕ) (x : Role) (b : Book) → BookHolds role X b → BookHolds role X (closed_from count c x b)
closed_from_holds role X zero c x b h = h
closed_from_holds role X (suc count) c x b h =
    closed_from_holds role X count (suc c) x (closes_present x c b) (closes_if_holds role X (slot_at x c b).present x c b h)

pub all_closed_holds : (role : Role) (X : ℕ → List ℕ → Type 0) (x : Role) (b : Book) → BookHolds role X b → BookHolds role X (all_closed x b)
all_closed_holds role X x b h = closed_from_holds role X (length (side_of x b).slots) 1 x b h

-- a pair more
pub side_pairs : (ps : List PairValue) (b : Book) (y : Role) → side_of y (record b { pairs = ps }) ≡ side_of y b
side_pairs ps b Dte = refl
side_pairs ps b Dce = refl

pairs_hold : (role : Role) (X : ℕ → List ℕ → Type 0) (b : Book) (ps : List PairValue) → BookHolds role X b → BookHolds role X (record b { pairs = ps })
pairs_hold role X b ps h =
    let b' : Book = record b { pairs = ps } in
    let stays : (y : Role) → node_at y b' ≡ node_at y b = λ y. ap (λ (z : Side). z.node) (side_pairs ps b y) in
    record {
      apart = apart_kept role b b' stays h.apart;
      own = has_kept role b b' (side_pairs ps b role) (λ n r e. (r, e, refl)) h.own;
      far = has_kept (other_of role) b b' (side_pairs ps b (other_of role)) (λ n r e. (r, e, refl)) h.far;
      once = once_kept role b b' (side_pairs ps b role) h.once;
      sent = λ n r e own. h.sent n r e (own ∙ stays role);
      left = λ c t x n r e g. h.left c t x n r (ap (λ (z : Side). (nth_slot z.slots c).present) (sym (side_pairs ps b role)) ∙ e) g;
    }

pair_holds : (role : Role) (X : ℕ → List ℕ → Type 0) (x y : Option ℕ) (b : Book) → BookHolds role X b → BookHolds role X (with_pair x y b)
pair_holds role X (Some caller) (Some callee) b h = pairs_hold role X b (b.pairs ++ record { caller = caller; callee = callee } ∷ []) h
pair_holds role X None y b h = h
pair_holds role X (Some caller) None b h = h

pub answers_holds : (role : Role) (X : ℕ → List ℕ → Type 0) (x : Role) (c : ℕ) (b : Book) → BookHolds role X b → BookHolds role X (answers x c b)
answers_holds role X x c b h = pair_holds role X (slot_at x c b).caller (slot_at x c b).present b h

pub takes_holds : (role : Role) (X : ℕ → List ℕ → Type 0) (x : Role) (c : ℕ) (o : Option Taken) (b : Book) → BookHolds role X b → BookHolds role X (takes x c o b)
takes_holds role X x c None b h = h
takes_holds role X x c (Some (TakenInterrupt octets)) b h = quiet_at role X b x c (with_interrupt_taken octets) (interrupt_taken_quiet octets) h
takes_holds role X x c (Some (TakenPacket d)) b h = quiet_at role X b x c (with_taken (packet_of d)) (taken_quiet (packet_of d)) h

pub let_go_holds : (role : Role) (X : ℕ → List ℕ → Type 0) (x : Role) (c : ℕ) (t : Taken) (b : Book) → BookHolds role X b → BookHolds role X (let_go t x c b)
let_go_holds role X x c (TakenInterrupt octets) b h = h
let_go_holds role X x c (TakenPacket d) b h = quiet_at role X b x c (with_released 1) (released_quiet 1) h

-- what the packet layer tells, but of calls that come in to the PAD
pub told_holds : (role : Role) (X : ℕ → List ℕ → Type 0) (x : Role) (note : Note) (b : Book)
    → ((c : ℕ) (parts : CallParts) → note ≡ Incoming c parts → role ≡ x → (t : List ℕ) → X c t → ⊥) → BookHolds role X b → BookHolds role X (told x note b)
told_holds role X x (Incoming c parts) b none h =
    opens_holds role X X b x c (record { present = Some (length b.records); placed = (slot_at x c b).placed; caller = (slot_at (other_of x) c b).placed })
    (address_of parts.called) (address_of parts.calling) (slot_at (other_of x) c b).placed refl (λ d t y. inl y) (λ same t y. absurd (none c parts refl same t y)) h
told_holds role X x (Connected c) b none h = h
told_holds role X x (Closed c cause diagnostic reason) b none h = closes_holds role X x c b h
told_holds role X x (WasReset c cause diagnostic reason) b none h = quiet_at role X b x c with_epoch epoch_quiet h
told_holds role X x (InterruptConfirmed c) b none h = h
told_holds role X x (Covered c count) b none h = quiet_at role X b x c (with_covered count) (covered_quiet count) h

-- ---- at the other end, whatever is written there

far_told : (role : Role) (X : ℕ → List ℕ → Type 0) (notes : List Note) (b : Book) → BookHolds role X b → BookHolds role X (all_told (other_of role) notes b)
far_told role X [] b h = h
far_told role X (note ∷ notes) b h =
    far_told role X notes (told (other_of role) note b) (told_holds role X (other_of role) note b (λ c parts e same t x. other_differs role (sym same)) h)

far_placed : (role : Role) (X : ℕ → List ℕ → Type 0) (o : Option ℕ) (parts : CallParts) (b : Book) → BookHolds role X b → BookHolds role X (placed_on (other_of role) o parts b)
far_placed role X None parts b h = h
far_placed role X (Some c) parts b h =
    opens_holds role X X b (other_of role) c (record { present = Some (length b.records); placed = Some (length b.records); caller = None })
    (address_of (calling_from (side_of (other_of role) b).address parts.calling)) (address_of parts.called) None refl (λ d t y. inl y) (λ same t y. absurd (other_differs role (sym same))) h

far_carried : (role : Role) (X : ℕ → List ℕ → Type 0) (c : ℕ) (r : Request) (front : Option Taken) (b : Book) → BookHolds role X b → BookHolds role X (carried (other_of role) c r front b)
far_carried role X c Accept front b h = answers_holds role X (other_of role) c b h
far_carried role X c (Clearing cause diagnostic) front b h = closes_holds role X (other_of role) c b h
far_carried role X c (Resetting cause diagnostic) front b h = quiet_at role X b (other_of role) c with_epoch epoch_quiet h
far_carried role X c (Sending d) front b h = far_holds role X b c (with_sent (packet_of d)) (λ r. refl) h
far_carried role X c (Interrupting octets) front b h = far_holds role X b c (with_interrupt_sent octets) (λ r. refl) h
far_carried role X c (Stopping v) front b h = h
far_carried role X c Taking front b h = takes_holds role X (other_of role) c front b h
far_carried role X c (Releasing count) front b h = quiet_at role X b (other_of role) c (with_released count) (released_quiet count) h
far_carried role X c Confirming front b h = h

unless_holds : (role : Role) (X : ℕ → List ℕ → Type 0) (o : Option Refusal) (done old : Book) → BookHolds role X done → BookHolds role X old → BookHolds role X (unless_refused o done old)
unless_holds role X None done old h k = h
unless_holds role X (Some r) done old h k = k

far_sent : (role : Role) (X : ℕ → List ℕ → Type 0) (c : ℕ) (ds : List Datum) (b : Book) → BookHolds role X b → BookHolds role X (all_sent (other_of role) c ds b)
far_sent role X c [] b h = h
far_sent role X c (d ∷ ds) b h = far_sent role X c ds (sends (other_of role) c d b) (far_holds role X b c (with_sent (packet_of d)) (λ r. refl) h)

pub far_one : (role : Role) (X : ℕ → List ℕ → Type 0) (w : Write) (b : Book) → BookHolds role X b → BookHolds role X (written_by (other_of role) w b)
far_one role X (write.Told notes) b h = far_told role X notes b h
far_one role X (write.Placed o parts) b h = far_placed role X o parts b h
far_one role X (write.Asked refusal c r front) b h = unless_holds role X refusal (carried (other_of role) c r front b) b (far_carried role X c r front b h) h
far_one role X (write.Said refusal c ds) b h = unless_holds role X refusal (all_sent (other_of role) c ds b) b (far_sent role X c ds b h) h
far_one role X (write.Took c x) b h = let_go_holds role X (other_of role) c x (takes (other_of role) c (Some x) b) (takes_holds role X (other_of role) c (Some x) b h)
far_one role X (write.Cleared refusal c) b h = unless_holds role X refusal (closes (other_of role) c b) b (closes_holds role X (other_of role) c b h) h
far_one role X (write.Edited c step) b h = far_holds role X b c (with_step step) (λ r. refl) h
far_one role X write.AllClosed b h = all_closed_holds role X (other_of role) b h

pub far_written : (role : Role) (X : ℕ → List ℕ → Type 0) (ws : List Write) (b : Book) → BookHolds role X b → BookHolds role X (all_written (other_of role) ws b)
far_written role X [] b h = h
far_written role X (w ∷ ws) b h = far_written role X ws (written_by (other_of role) w b) (far_one role X w b h)
