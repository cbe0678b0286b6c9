-- What the records of a PAD said of themselves grows with what the PAD notes, and stays as it is otherwise.
use Rattle.std.specs.Prelude.{◌≡◌, ℕ, zero, suc, ◌⊎◌, Bool, true, false, ◌&&◌, ◌==◌, if◌then◌else◌, List, [], ◌∷◌, ◌++◌, length, slice_get, Option, Some, None}
use Rattle.std.proofs.Common.{inl, inr, refl, sym, ap, subst, ◌∙◌, append_assoc, append-nil, arith}
use Rattle.std.proofs.lemmas.Bool.{eqb-true, eqb-false}
use Rattle.std.proofs.lemmas.Option.{none-some, same_Some}
use Rattle.link_timers.specs.declared.role.Role.{Role}
use Rattle.link_timers.specs.Role.{other_of}
use Rattle.epochs.specs.Item.{Item, End, QualifiedEnd, DataPacket, items_of}
use Rattle.epochs.specs.Epoch.{TakenEpoch}
use Rattle.pad_editing.specs.Edited.{Step}
use Rattle.data_transfer.specs.Packets.{Note, Datum, CallParts}
use Rattle.data_transfer.specs.Packets.Note.{Incoming, Connected, Closed, WasReset, InterruptConfirmed, Covered}
use Rattle.data_transfer.specs.Traffic.{Taken}
use Rattle.data_transfer.specs.Traffic.Taken.{TakenInterrupt, TakenPacket}
use Rattle.packet_channel.specs.Channel.{Request, Refusal}
use Rattle.packet_channel.specs.Channel.Request.{Accept, Clearing, Resetting, Sending, Interrupting, Stopping, Taking, Releasing, Confirming}
use Rattle.packet_laws.specs.Readable.{Every}
use Rattle.call_records.specs.Records.{RecordValue, PairValue, sent_epochs, changed_at, new_record, with_step, with_sent, with_interrupt_sent, with_taken, with_interrupt_taken, with_released, with_covered, with_epoch, with_closed}
use Rattle.call_records.specs.Book.{Book, Side, Slot, side_of, nth_slot, slot_at, with_slot, with_change, changed, with_record, packet_of, address_of, calling_from, with_pair, closes, sends, takes, told, all_told}
use Rattle.call_records.specs.Closing.{closes_if, closes_present, closed_from, all_closed}
use Rattle.call_records.specs.Carried.{carried, unless_refused, placed_on}
use Rattle.call_records.specs.Writes.{Write, Write as write, all_sent, let_go, written_by, all_written}
use Rattle.pad_ports.specs.Notes as notes
use Rattle.pad_ports.specs.Notes.{ChannelNote}
use Rattle.pad_ports.specs.PadLine.{datum}
use Rattle.user_nodes.specs.PadWriting.{write_of, parts_to}
use Rattle.node_laws.specs.Pads.Occasions.{Occasion}
use Rattle.node_laws.specs.Pads.Sending.{interrupts_of_epochs, qualified_items, qualified_messages, qualified_octets, packets_of_epochs, messages_read, HasSaid}
use Rattle.record_laws.specs.Words.{items_sent}
use Rattle.node_laws.specs.Pads.Holds.{node_at, BookHolds, HaveSaid}
use Rattle.node_laws.specs.Pads.Happening.{is_record}
use Rattle.node_laws.proofs.Pads.Asking.{noted}
use Rattle.node_laws.proofs.Pads.Records.{qualified_append, qualified_more, qualified_user, qualified_qualified, sent_more, same_sent, renewed_sent, interrupts_more, same_interrupts, renewed_interrupts}
use Rattle.node_laws.proofs.Pads.Books.{side_changed, change_of, change_keeps, slot_records, slot_node, side_record, side_pairs, changed_again, not_ours, far_holds, far_one}
use Rattle.node_laws.proofs.Pads.Lists.{get_before}
use Rattle.node_laws.proofs.Pads.QualifiedPackets.{Octets, message_in, told_in, interrupt_in, all_in}

-- ---- messages that a record took

packets_more : (es fs : List TakenEpoch) → packets_of_epochs (es ++ fs) ≡ packets_of_epochs es ++ packets_of_epochs fs
packets_more [] fs = refl
packets_more (e ∷ es) fs = ap (λ (l : List DataPacket). e.packets ++ l) (packets_more es fs) ∙ sym (append_assoc e.packets (packets_of_epochs es) (packets_of_epochs fs))

octets_more : (ps qs : List DataPacket) → qualified_octets (ps ++ qs) ≡ qualified_octets ps ++ qualified_octets qs
octets_more [] qs = refl
octets_more (p ∷ ps) qs =
    let here : Octets = if p.qualified then p.octets ∷ [] else [] in
    ap (λ (l : Octets). here ++ l) (octets_more ps qs) ∙ sym (append_assoc here (qualified_octets ps) (qualified_octets qs))

read_is : (r : RecordValue) → messages_read r ≡ qualified_octets (packets_of_epochs r.taken_before) ++ qualified_octets r.taken.packets
read_is r =
    ap qualified_octets (packets_more r.taken_before (r.taken ∷ []) ∙ ap (λ (l : List DataPacket). packets_of_epochs r.taken_before ++ l) (append-nil r.taken.packets))
    ∙ octets_more (packets_of_epochs r.taken_before) r.taken.packets

read_more : (p : DataPacket) (r : RecordValue) → messages_read (with_taken p r) ≡ messages_read r ++ (if p.qualified then p.octets ∷ [] else [])
read_more p r =
    let before : Octets = qualified_octets (packets_of_epochs r.taken_before) in
    let now : Octets = qualified_octets r.taken.packets in
    let one : Octets = if p.qualified then p.octets ∷ [] else [] in
    read_is (with_taken p r)
    ∙ ap (λ (l : Octets). before ++ l) (octets_more r.taken.packets (p ∷ []) ∙ ap (λ (l : Octets). now ++ l) (append-nil one))
    ∙ sym (append_assoc before now one) ∙ ap (λ (l : Octets). l ++ one) (sym (read_is r))

same_read : (r q : RecordValue) → q.taken_before ≡ r.taken_before → q.taken.packets ≡ r.taken.packets → messages_read q ≡ messages_read r
same_read r q before now =
    read_is q ∙ ap (λ (es : List TakenEpoch). qualified_octets (packets_of_epochs es) ++ qualified_octets q.taken.packets) before
    ∙ ap (λ (ps : List DataPacket). qualified_octets (packets_of_epochs r.taken_before) ++ qualified_octets ps) now ∙ sym (read_is r)

renewed_read : (r : RecordValue) → messages_read (with_epoch r) ≡ messages_read r
renewed_read r = read_is (with_epoch r) ∙ append-nil (messages_read r)

-- ---- a record that has said this

pub record HasRaw (m t i : Octets) (r : RecordValue) : Type 0 where
  pub messages : messages_read r ≡ m
  pub told : qualified_items (items_sent r) ≡ qualified_messages t
  pub interrupts : interrupts_of_epochs (sent_epochs r) ≡ i

-- a change that neither takes a message nor says anything
record IsMute (f : RecordValue → RecordValue) : Type 0 where
  node : (r : RecordValue) → (f r).node ≡ r.node
  messages : (r : RecordValue) → messages_read (f r) ≡ messages_read r
  told : (r : RecordValue) → qualified_items (items_sent (f r)) ≡ qualified_items (items_sent r)
  interrupts : (r : RecordValue) → interrupts_of_epochs (sent_epochs (f r)) ≡ interrupts_of_epochs (sent_epochs r)

mute_said : (f : RecordValue → RecordValue) → IsMute f → (os : List Occasion) (r : RecordValue) → HasSaid os r → HasSaid os (f r)
mute_said f mute os r h = record { messages = mute.messages r ∙ h.messages; told = mute.told r ∙ h.told; interrupts = mute.interrupts r ∙ h.interrupts }

-- where the packets and interrupts stay
same_mute : (f : RecordValue → RecordValue) → ((r : RecordValue) → (f r).node ≡ r.node) → ((r : RecordValue) → (f r).taken_before ≡ r.taken_before) → ((r : RecordValue) → (f r).taken.packets ≡ r.taken.packets)
    → ((r : RecordValue) → (f r).sent_before ≡ r.sent_before) → ((r : RecordValue) → (f r).sent.packets ≡ r.sent.packets) → ((r : RecordValue) → (f r).sent.interrupts ≡ r.sent.interrupts) → IsMute f
same_mute f node taken_before taken sent_before packets interrupts = record {
  node = node;
  messages = λ r. same_read r (f r) (taken_before r) (taken r);
  told = λ r. same_sent qualified_items qualified_append r (f r) (sent_before r) (packets r);
  interrupts = λ r. same_interrupts r (f r) (sent_before r) (interrupts r);
}

closed_mute : IsMute with_closed
closed_mute = same_mute with_closed (λ r. refl) (λ r. refl) (λ r. refl) (λ r. refl) (λ r. refl) (λ r. refl)

covered_mute : (n : ℕ) → IsMute (with_covered n)
covered_mute n = same_mute (with_covered n) (λ r. refl) (λ r. refl) (λ r. refl) (λ r. refl) (λ r. refl) (λ r. refl)

epoch_mute : IsMute with_epoch
epoch_mute = record {
  node = λ r. refl;
  messages = renewed_read;
  told = λ r. renewed_sent qualified_items qualified_append refl r;
  interrupts = renewed_interrupts;
}

-- ---- a note of which a record alone changes

-- the present call of its channel has more said, by what it says of this channel
pub record IsPlain (role : Role) (note : ChannelNote) : Type 0 where
  pub channel : ℕ
  pub change : RecordValue → RecordValue
  pub written : (b : Book) → written_by role (write_of note) b ≡ changed role channel change b
  pub node : (r : RecordValue) → (change r).node ≡ r.node
  pub messages : (r : RecordValue) → messages_read (change r) ≡ messages_read r ++ message_in (λ c. true) note
  pub told : (r : RecordValue) → qualified_items (items_sent (change r)) ≡ qualified_items (items_sent r) ++ qualified_messages (told_in (λ c. true) note)
  pub interrupts : (r : RecordValue) → interrupts_of_epochs (sent_epochs (change r)) ≡ interrupts_of_epochs (sent_epochs r) ++ interrupt_in (λ c. true) note
  -- by the test of its channel
  pub messages_by : (test : ℕ → Bool) → message_in test note ≡ (if test channel then message_in (λ c. true) note else [])
  pub told_by : (test : ℕ → Bool) → told_in test note ≡ (if test channel then told_in (λ c. true) note else [])
  pub interrupts_by : (test : ℕ → Bool) → interrupt_in test note ≡ (if test channel then interrupt_in (λ c. true) note else [])

none_by : (v : Bool) → [] ≡ (if v then (let none : Octets = [] in none) else [])
none_by true = refl
none_by false = refl

mute_plain : (role : Role) (note : ChannelNote) (channel : ℕ) (f : RecordValue → RecordValue) → ((b : Book) → written_by role (write_of note) b ≡ changed role channel f b) → IsMute f
    → ((test : ℕ → Bool) → message_in test note ≡ []) → ((test : ℕ → Bool) → told_in test note ≡ []) → ((test : ℕ → Bool) → interrupt_in test note ≡ []) → IsPlain role note
mute_plain role note channel f written mute m t i = record {
  channel = channel;
  change = f;
  written = written;
  node = mute.node;
  messages = λ r. mute.messages r ∙ sym (ap (λ (l : Octets). messages_read r ++ l) (m (λ c. true)) ∙ append-nil (messages_read r));
  told = λ r. mute.told r ∙ sym (ap (λ (l : Octets). qualified_items (items_sent r) ++ qualified_messages l) (t (λ c. true)) ∙ append-nil (qualified_items (items_sent r)));
  interrupts = λ r. mute.interrupts r ∙ sym (ap (λ (l : Octets). interrupts_of_epochs (sent_epochs r) ++ l) (i (λ c. true)) ∙ append-nil (interrupts_of_epochs (sent_epochs r)));
  messages_by = λ test. m test ∙ none_by (test channel) ∙ ap (λ (l : Octets). if test channel then l else []) (sym (m (λ c. true)));
  told_by = λ test. t test ∙ none_by (test channel) ∙ ap (λ (l : Octets). if test channel then l else []) (sym (t (λ c. true)));
  interrupts_by = λ test. i test ∙ none_by (test channel) ∙ ap (λ (l : Octets). if test channel then l else []) (sym (i (λ c. true)));
}

pub edited_plain : (role : Role) (channel : ℕ) (step : Step) → IsPlain role (notes.Edited channel step)
edited_plain role channel step =
    mute_plain role (notes.Edited channel step) channel (with_step step) (λ b. refl)
    (same_mute (with_step step) (λ r. refl) (λ r. refl) (λ r. refl) (λ r. refl) (λ r. refl) (λ r. refl)) (λ test. refl) (λ test. refl) (λ test. refl)

pub reset_plain : (role : Role) (channel : ℕ) → IsPlain role (notes.WasReset channel)
reset_plain role channel = mute_plain role (notes.WasReset channel) channel with_epoch (λ b. refl) epoch_mute (λ test. refl) (λ test. refl) (λ test. refl)

both_by : (q v : Bool) (octets : List ℕ) → (if q && v then octets ∷ [] else []) ≡ (if v then (if q && true then octets ∷ [] else []) else [])
both_by true true octets = refl
both_by true false octets = refl
both_by false true octets = refl
both_by false false octets = refl

-- a block, and a message
sent_items : (q : Bool) (octets : List ℕ) → qualified_items (items_of (packet_of (datum octets q))) ≡ qualified_messages (if q && true then octets ∷ [] else [])
sent_items true octets = qualified_qualified octets (QualifiedEnd ∷ [])
sent_items false octets = qualified_user octets (End ∷ [])

pub sent_plain : (role : Role) (channel : ℕ) (octets : List ℕ) (q : Bool) → IsPlain role (notes.Sent channel (datum octets q))
sent_plain role channel octets q = record {
  channel = channel;
  change = with_sent (packet_of (datum octets q));
  written = λ b. refl;
  node = λ r. refl;
  messages = λ r. same_read r (with_sent (packet_of (datum octets q)) r) refl refl ∙ sym (append-nil (messages_read r));
  told = λ r. sent_more qualified_items qualified_append (packet_of (datum octets q)) r ∙ ap (λ (l : List Item). qualified_items (items_sent r) ++ l) (sent_items q octets);
  interrupts = λ r. same_interrupts r (with_sent (packet_of (datum octets q)) r) refl refl ∙ sym (append-nil (interrupts_of_epochs (sent_epochs r)));
  messages_by = λ test. none_by (test channel);
  told_by = λ test. both_by q (test channel) octets;
  interrupts_by = λ test. none_by (test channel);
}

pub interrupted_plain : (role : Role) (channel : ℕ) (octets : List ℕ) → IsPlain role (notes.Interrupted channel octets)
interrupted_plain role channel octets = record {
  channel = channel;
  change = with_interrupt_sent octets;
  written = λ b. refl;
  node = λ r. refl;
  messages = λ r. same_read r (with_interrupt_sent octets r) refl refl ∙ sym (append-nil (messages_read r));
  told = λ r. same_sent qualified_items qualified_append r (with_interrupt_sent octets r) refl refl ∙ sym (append-nil (qualified_items (items_sent r)));
  interrupts = λ r. interrupts_more octets r;
  messages_by = λ test. none_by (test channel);
  told_by = λ test. none_by (test channel);
  interrupts_by = λ test. refl;
}

interrupt_taken_mute : (octets : List ℕ) → IsMute (with_interrupt_taken octets)
interrupt_taken_mute octets = same_mute (with_interrupt_taken octets) (λ r. refl) (λ r. refl) (λ r. refl) (λ r. refl) (λ r. refl) (λ r. refl)

released_mute : (n : ℕ) → IsMute (with_released n)
released_mute n = same_mute (with_released n) (λ r. refl) (λ r. refl) (λ r. refl) (λ r. refl) (λ r. refl) (λ r. refl)

with_true : (q : Bool) (l : Octets) → (if q then l else []) ≡ (if q && true then l else [])
with_true true l = refl
with_true false l = refl

pub took_plain : (role : Role) (channel : ℕ) (taken : Taken) → IsPlain role (notes.Took channel taken)
took_plain role channel (TakenInterrupt octets) =
    mute_plain role (notes.Took channel (TakenInterrupt octets)) channel (with_interrupt_taken octets) (λ b. refl) (interrupt_taken_mute octets) (λ test. refl) (λ test. refl) (λ test. refl)
took_plain role channel (TakenPacket d) =
    let p : DataPacket = packet_of d in
    let f : RecordValue → RecordValue = λ r. with_released 1 (with_taken p r) in
    record {
      channel = channel;
      change = f;
      written = λ b. changed_again role channel (with_taken p) (with_released 1) b;
      node = λ r. refl;
      messages = λ r. same_read (with_taken p r) (f r) refl refl ∙ read_more p r ∙ ap (λ (l : Octets). messages_read r ++ l) (with_true d.qualified (d.octets ∷ []));
      told = λ r. same_sent qualified_items qualified_append r (f r) refl refl ∙ sym (append-nil (qualified_items (items_sent r)));
      interrupts = λ r. same_interrupts r (f r) refl refl ∙ sym (append-nil (interrupts_of_epochs (sent_epochs r)));
      messages_by = λ test. both_by d.qualified (test channel) d.octets;
      told_by = λ test. none_by (test channel);
      interrupts_by = λ test. none_by (test channel);
    }

-- ---- the record that changes, and no other

same_test : (m n : ℕ) → m ≡ n → (m == n) ≡ true
same_test m n e = by (m == n) refl
  where
    by : (v : Bool) → (m == n) ≡ v → v ≡ true
    by true f = refl
    by false f = absurd (eqb-false m n f e)

pub is_true : (n : ℕ) (o : Option ℕ) → o ≡ Some n → is_record n o ≡ true
is_true n None e = absurd (none-some n e)
is_true n (Some m) e = same_test m n (same_Some m n e)

pub is_false : (n : ℕ) (o : Option ℕ) → (o ≡ Some n → ⊥) → is_record n o ≡ false
is_false n None ne = refl
is_false n (Some m) ne = by (m == n) refl
  where
    by : (v : Bool) → (m == n) ≡ v → v ≡ false
    by true f = absurd (ne (ap (λ (k : ℕ). Some k) (eqb-true m n f)))
    by false f = refl

get_split : (rs : List RecordValue) (n : ℕ) (f : RecordValue → RecordValue) (m : ℕ) (r' : RecordValue) → slice_get (changed_at n f rs) m ≡ Some r'
    → (r : RecordValue) × (slice_get rs m ≡ Some r) × (((n ≡ m) × (r' ≡ f r)) ⊎ ((n ≡ m → ⊥) × (r' ≡ r)))
get_split [] n f m r' e = absurd (none-some r' e)
get_split (r ∷ rs) zero f zero r' e = (r, refl, inl (refl, sym (same_Some (f r) r' e)))
get_split (r ∷ rs) zero f (suc m) r' e = (r', e, inr (λ k. omega (arith, k), refl))
get_split (r ∷ rs) (suc n) f zero r' e = (r, refl, inr (λ k. omega (arith, k), sym (same_Some r r' e)))
get_split (r ∷ rs) (suc n) f (suc m) r' e =
    let h = get_split rs n f m r' e in (
      h.0,
      h.1,
      elim h.2 [
        | inl q ↦ inl (ap suc q.0, q.1)
        | inr q ↦ inr (λ k. q.0 (let s : n ≡ m = omega (arith, k) in s), q.1)
      ],
    )

pub change_split : (o : Option ℕ) (f : RecordValue → RecordValue) (b : Book) (n : ℕ) (r' : RecordValue) → slice_get (with_change o f b).records n ≡ Some r'
    → (r : RecordValue) × (slice_get b.records n ≡ Some r) × (((o ≡ Some n) × (r' ≡ f r)) ⊎ ((o ≡ Some n → ⊥) × (r' ≡ r)))
change_split None f b n r' e = (r', e, inr (λ k. none-some n k, refl))
change_split (Some m) f b n r' e =
    let h = get_split b.records m f n r' e in (
      h.0,
      h.1,
      elim h.2 [
        | inl q ↦ inl (ap (λ (k : ℕ). Some k) q.0, q.1)
        | inr q ↦ inr (λ k. q.0 (same_Some m n k), q.1)
      ],
    )

-- ---- plain notes, one after the other

-- the channels whose present call has the record of this number
abbrev pub test_of : ℕ → Side → ℕ → Bool
test_of n side = λ channel. is_record n (nth_slot side.slots channel).present

abbrev pub AreRaw : (messages told interrupts : ℕ → Octets) → Role → Book → Type 0
AreRaw messages told interrupts role b =
    (n : ℕ) (r : RecordValue) → slice_get b.records n ≡ Some r → r.node ≡ node_at role b → HasRaw (messages n) (told n) (interrupts n) r

module _ (role : Role) where
  plain_step : (note : ChannelNote) → IsPlain role note → (m t i : ℕ → Octets) (b : Book) → AreRaw m t i role b
      → AreRaw (λ n. m n ++ message_in (test_of n (side_of role b)) note) (λ n. t n ++ told_in (test_of n (side_of role b)) note)
      (λ n. i n ++ interrupt_in (test_of n (side_of role b)) note) role (written_by role (write_of note) b)
  plain_step note p m t i b h =
      subst (λ (z : Book). AreRaw (λ n. m n ++ message_in (test_of n (side_of role b)) note) (λ n. t n ++ told_in (test_of n (side_of role b)) note)
      (λ n. i n ++ interrupt_in (test_of n (side_of role b)) note) role z) (sym (p.written b)) at
    where
      o : Option ℕ
      o = (slot_at role p.channel b).present

      own_before : (r : RecordValue) → r.node ≡ node_at role (changed role p.channel p.change b) → r.node ≡ node_at role b
      own_before r own = own ∙ ap (λ (z : Side). z.node) (side_changed role o p.change b)

      met : (n : ℕ) → o ≡ Some n → (f : (ℕ → Bool) → Octets) → f (test_of n (side_of role b)) ≡ (if test_of n (side_of role b) p.channel then f (λ c. true) else []) → f (test_of n (side_of role b)) ≡ f (λ c. true)
      met n e f by = by ∙ ap (λ (v : Bool). if v then f (λ c. true) else []) (is_true n o e)

      missed : (n : ℕ) → (o ≡ Some n → ⊥) → (f : (ℕ → Bool) → Octets) → f (test_of n (side_of role b)) ≡ (if test_of n (side_of role b) p.channel then f (λ c. true) else []) → f (test_of n (side_of role b)) ≡ []
      missed n e f by = by ∙ ap (λ (v : Bool). if v then f (λ c. true) else []) (is_false n o e)

      at : AreRaw (λ n. m n ++ message_in (test_of n (side_of role b)) note) (λ n. t n ++ told_in (test_of n (side_of role b)) note)
          (λ n. i n ++ interrupt_in (test_of n (side_of role b)) note) role (changed role p.channel p.change b)
      at n r' e own =
          let s = change_split o p.change b n r' e in
          let test : ℕ → Bool = test_of n (side_of role b) in
          elim s.2 [
            | inl q ↦
                let g = h n s.0 s.1 (sym (p.node s.0) ∙ sym (ap (λ (z : RecordValue). z.node) q.1) ∙ own_before r' own) in
                let changed_has : HasRaw (m n ++ message_in test note) (t n ++ told_in test note) (i n ++ interrupt_in test note) (p.change s.0) = record {
                  messages = p.messages s.0 ∙ ap (λ (l : Octets). l ++ message_in (λ c. true) note) g.messages
                      ∙ ap (λ (l : Octets). m n ++ l) (sym (met n q.0 (λ u. message_in u note) (p.messages_by test)));
                  told = p.told s.0 ∙ ap (λ (l : List Item). l ++ qualified_messages (told_in (λ c. true) note)) g.told
                      ∙ sym (qualified_more (t n) (told_in (λ c. true) note))
                      ∙ ap (λ (l : Octets). qualified_messages (t n ++ l)) (sym (met n q.0 (λ u. told_in u note) (p.told_by test)));
                  interrupts = p.interrupts s.0 ∙ ap (λ (l : Octets). l ++ interrupt_in (λ c. true) note) g.interrupts
                      ∙ ap (λ (l : Octets). i n ++ l) (sym (met n q.0 (λ u. interrupt_in u note) (p.interrupts_by test)));
                } in
                subst (λ (z : RecordValue). HasRaw (m n ++ message_in test note) (t n ++ told_in test note) (i n ++ interrupt_in test note) z) (sym q.1) changed_has
            | inr q ↦
                let g = h n s.0 s.1 (sym (ap (λ (z : RecordValue). z.node) q.1) ∙ own_before r' own) in
                let stays : HasRaw (m n ++ message_in test note) (t n ++ told_in test note) (i n ++ interrupt_in test note) s.0 = record {
                  messages = g.messages ∙ sym (append-nil (m n)) ∙ ap (λ (l : Octets). m n ++ l) (sym (missed n q.0 (λ u. message_in u note) (p.messages_by test)));
                  told = g.told ∙ ap qualified_messages (sym (append-nil (t n)) ∙ ap (λ (l : Octets). t n ++ l) (sym (missed n q.0 (λ u. told_in u note) (p.told_by test))));
                  interrupts = g.interrupts ∙ sym (append-nil (i n)) ∙ ap (λ (l : Octets). i n ++ l) (sym (missed n q.0 (λ u. interrupt_in u note) (p.interrupts_by test)));
                } in
                subst (λ (z : RecordValue). HasRaw (m n ++ message_in test note) (t n ++ told_in test note) (i n ++ interrupt_in test note) z) (sym q.1) stays
          ]

  -- the slots stay
  plain_side : (note : ChannelNote) → IsPlain role note → (b : Book) → side_of role (written_by role (write_of note) b) ≡ side_of role b
  plain_side note p b = ap (λ (z : Book). side_of role z) (p.written b) ∙ side_changed role (slot_at role p.channel b).present p.change b

  pub plain_list : (ns : List ChannelNote) → Every (λ note. IsPlain role note) ns → (m t i : ℕ → Octets) (b : Book) → AreRaw m t i role b
      → AreRaw (λ n. m n ++ all_in (message_in (test_of n (side_of role b))) ns) (λ n. t n ++ all_in (told_in (test_of n (side_of role b))) ns)
      (λ n. i n ++ all_in (interrupt_in (test_of n (side_of role b))) ns) role (noted role ns b)
  plain_list [] ps m t i b h = λ n r e own.
      let g = h n r e own in
      record { messages = g.messages ∙ sym (append-nil (m n)); told = g.told ∙ ap qualified_messages (sym (append-nil (t n))); interrupts = g.interrupts ∙ sym (append-nil (i n)) }
  plain_list (note ∷ ns) ps m t i b h = λ n r e own.
      let b1 : Book = written_by role (write_of note) b in
      let test : ℕ → Bool = test_of n (side_of role b) in
      let g = plain_list ns ps.1 _ _ _ b1 (plain_step note ps.0 m t i b h) n r e own in
      let side : side_of role b1 ≡ side_of role b = plain_side note ps.0 b in
      record {
        messages = g.messages ∙ ap (λ (z : Side). (m n ++ message_in test note) ++ all_in (message_in (test_of n z)) ns) side ∙ append_assoc (m n) (message_in test note) (all_in (message_in test) ns);
        told = g.told ∙ ap qualified_messages (ap (λ (z : Side). (t n ++ told_in test note) ++ all_in (told_in (test_of n z)) ns) side ∙ append_assoc (t n) (told_in test note) (all_in (told_in test) ns));
        interrupts = g.interrupts ∙ ap (λ (z : Side). (i n ++ interrupt_in test note) ++ all_in (interrupt_in (test_of n z)) ns) side ∙ append_assoc (i n) (interrupt_in test note) (all_in (interrupt_in test) ns);
      }

  -- no record is added
  pub plain_none : (ns : List ChannelNote) → Every (λ note. IsPlain role note) ns → (b : Book) (n : ℕ) → slice_get (noted role ns b).records n ≡ None → slice_get b.records n ≡ None
  plain_none [] ps b n e = e
  plain_none (note ∷ ns) ps b n e = by (slice_get b.records n) refl (plain_none ns ps.1 (written_by role (write_of note) b) n e)
    where
      by : (o : Option RecordValue) → slice_get b.records n ≡ o → slice_get (written_by role (write_of note) b).records n ≡ None → slice_get b.records n ≡ None
      by None f rest = f
      by (Some r) f rest =
          let keeps = change_keeps (slot_at role ps.0.channel b).present ps.0.change b ps.0.node n r f in
          absurd (none-some keeps.0 (sym rest ∙ ap (λ (z : Book). slice_get z.records n) (ps.0.written b) ∙ keeps.1))

-- ---- what says nothing

-- a note that says nothing, and that may begin or end a call
abbrev pub IsMuteNote : ChannelNote → Type 0
IsMuteNote (notes.Told note) = Unit {0}
IsMuteNote (notes.Placed channel address) = Unit {0}
IsMuteNote (notes.Accepted channel) = Unit {0}
IsMuteNote (notes.Cleared channel) = Unit {0}
IsMuteNote _ = ⊥

module _ (os : ℕ → List Occasion) (role : Role) where
  mute_change : (o : Option ℕ) (f : RecordValue → RecordValue) → IsMute f → (b : Book) → HaveSaid os role b → HaveSaid os role (with_change o f b)
  mute_change o f mute b h = record {
    said = λ n r' e own.
        let s = change_of o f b n r' e in
        let before : r'.node ≡ node_at role b = own ∙ ap (λ (z : Side). z.node) (side_changed role o f b) in
        elim s.2 [
          | inl q ↦
              subst (λ (z : RecordValue). HasSaid (os n) z) (sym q.1)
              (mute_said f mute (os n) s.0 (h.said n s.0 s.1 (sym (mute.node s.0) ∙ sym (ap (λ (z : RecordValue). z.node) q.1) ∙ before)))
          | inr q ↦ subst (λ (z : RecordValue). HasSaid (os n) z) (sym q) (h.said n s.0 s.1 (sym (ap (λ (z : RecordValue). z.node) q) ∙ before))
        ];
    none = λ n e. h.none n (none_before o f mute b n e);
  }
    where
      none_before : (o : Option ℕ) (f : RecordValue → RecordValue) → IsMute f → (b : Book) (n : ℕ) → slice_get (with_change o f b).records n ≡ None → slice_get b.records n ≡ None
      none_before o f mute b n e = by (slice_get b.records n) refl
        where
          by : (x : Option RecordValue) → slice_get b.records n ≡ x → slice_get b.records n ≡ None
          by None g = g
          by (Some r) g = (let keeps = change_keeps o f b mute.node n r g in absurd (none-some keeps.0 (sym e ∙ keeps.1)))

  mute_at : (x : Role) (c : ℕ) (f : RecordValue → RecordValue) → IsMute f → (b : Book) → HaveSaid os role b → HaveSaid os role (changed x c f b)
  mute_at x c f mute b h = mute_change (slot_at x c b).present f mute b h

  slot_said : (x : Role) (d : ℕ) (z : Slot) (b : Book) → HaveSaid os role b → HaveSaid os role (with_slot x d z b)
  slot_said x d z b h = record {
    said = λ n r e own. h.said n r (ap (λ (l : List RecordValue). slice_get l n) (sym (slot_records x d z b)) ∙ e) (own ∙ slot_node x d z b role);
    none = λ n e. h.none n (ap (λ (l : List RecordValue). slice_get l n) (sym (slot_records x d z b)) ∙ e);
  }

  pushed_split : (xs : List RecordValue) (y : RecordValue) (i : ℕ) (x : RecordValue) → slice_get (xs ++ y ∷ []) i ≡ Some x → (slice_get xs i ≡ Some x) ⊎ ((x ≡ y) × (slice_get xs i ≡ None))
  pushed_split [] y zero x e = inr (sym (same_Some y x e), refl)
  pushed_split [] y (suc i) x e = absurd (none-some x e)
  pushed_split (z ∷ xs) y zero x e = inl e
  pushed_split (z ∷ xs) y (suc i) x e = pushed_split xs y i x e

  pushed_none : (xs : List RecordValue) (y : RecordValue) (i : ℕ) → slice_get (xs ++ y ∷ []) i ≡ None → slice_get xs i ≡ None
  pushed_none xs y i e = by (slice_get xs i) refl
    where
      by : (o : Option RecordValue) → slice_get xs i ≡ o → slice_get xs i ≡ None
      by None f = f
      by (Some x) f = absurd (none-some x (sym e ∙ get_before xs (y ∷ []) i x f))

  record_said : (r : RecordValue) → HasSaid [] r → (b : Book) → HaveSaid os role b → HaveSaid os role (with_record r b)
  record_said r new b h = record {
    said = λ n x e own.
        elim (pushed_split b.records r n x e) [
          | inl k ↦ h.said n x k (own ∙ ap (λ (z : Side). z.node) (side_record r b role))
          | inr k ↦ subst (λ (z : RecordValue). HasSaid (os n) z) (sym k.0) (subst (λ (l : List Occasion). HasSaid l r) (sym (h.none n k.1)) new)
        ];
    none = λ n e. h.none n (pushed_none b.records r n e);
  }

  new_said : (number node : ℕ) (own far : Option (List ℕ)) (caller : Option ℕ) → HasSaid [] (new_record number node own far caller)
  new_said number node own far caller = record { messages = refl; told = refl; interrupts = refl }

  closes_said : (x : Role) (c : ℕ) (b : Book) → HaveSaid os role b → HaveSaid os role (closes x c b)
  closes_said x c b h = slot_said x c _ (changed x c with_closed b) (mute_at x c with_closed closed_mute b h)

  pairs_said : (ps : List PairValue) (b : Book) → HaveSaid os role b → HaveSaid os role (record b { pairs = ps })
  pairs_said ps b h = record { said = λ n r e own. h.said n r e (own ∙ ap (λ (z : Side). z.node) (side_pairs ps b role)); none = h.none }

  pair_said : (x y : Option ℕ) (b : Book) → HaveSaid os role b → HaveSaid os role (with_pair x y b)
  pair_said (Some caller) (Some callee) b h = pairs_said (b.pairs ++ record { caller = caller; callee = callee } ∷ []) b h
  pair_said None y b h = h
  pair_said (Some caller) None b h = h

  told_said : (x : Role) (note : Note) (b : Book) → HaveSaid os role b → HaveSaid os role (told x note b)
  told_said x (Incoming c parts) b h = slot_said x c _ (with_record _ b) (record_said _ (new_said (length b.records) (side_of x b).node (address_of parts.called) (address_of parts.calling) (slot_at (other_of x) c b).placed) b h)
  told_said x (Connected c) b h = h
  told_said x (Closed c cause diagnostic reason) b h = closes_said x c b h
  told_said x (WasReset c cause diagnostic reason) b h = mute_at x c with_epoch epoch_mute b h
  told_said x (InterruptConfirmed c) b h = h
  told_said x (Covered c count) b h = mute_at x c (with_covered count) (covered_mute count) b h

  all_told_said : (x : Role) (ns : List Note) (b : Book) → HaveSaid os role b → HaveSaid os role (all_told x ns b)
  all_told_said x [] b h = h
  all_told_said x (note ∷ ns) b h = all_told_said x ns (told x note b) (told_said x note b h)

  placed_said : (x : Role) (o : Option ℕ) (parts : CallParts) (b : Book) → HaveSaid os role b → HaveSaid os role (placed_on x o parts b)
  placed_said x None parts b h = h
  placed_said x (Some c) parts b h =
      slot_said x c _ (with_record _ b)
      (record_said _ (new_said (length b.records) (side_of x b).node (address_of (calling_from (side_of x b).address parts.calling)) (address_of parts.called) None) b h)

  closes_if_said : (o : Option ℕ) (x : Role) (c : ℕ) (b : Book) → HaveSaid os role b → HaveSaid os role (closes_if o x c b)
  closes_if_said None x c b h = h
  closes_if_said (Some n) x c b h = closes_said x c b h

  closed_from_said : (count c : ℕ) (x : Role) (b : Book) → HaveSaid os role b → HaveSaid os role (closed_from count c x b)
  closed_from_said zero c x b h = h
  closed_from_said (suc count) c x b h = closed_from_said count (suc c) x (closes_present x c b) (closes_if_said (slot_at x c b).present x c b h)

  pub all_closed_said : (x : Role) (b : Book) → HaveSaid os role b → HaveSaid os role (all_closed x b)
  all_closed_said x b h = closed_from_said (length (side_of x b).slots) 1 x b h

  mute_note : (note : ChannelNote) → IsMuteNote note → (b : Book) → HaveSaid os role b → HaveSaid os role (written_by role (write_of note) b)
  mute_note (notes.Told note) mute b h = told_said role note b h
  mute_note (notes.Placed channel address) mute b h = placed_said role (Some channel) (parts_to address) b h
  mute_note (notes.Accepted channel) mute b h = pair_said (slot_at role channel b).caller (slot_at role channel b).present b h
  mute_note (notes.Cleared channel) mute b h = closes_said role channel b h
  mute_note (notes.WasReset channel) mute b h = absurd mute
  mute_note (notes.Edited channel step) mute b h = absurd mute
  mute_note (notes.Sent channel d) mute b h = absurd mute
  mute_note (notes.Interrupted channel octets) mute b h = absurd mute
  mute_note (notes.Took channel taken) mute b h = absurd mute

  pub mute_list : (ns : List ChannelNote) → Every IsMuteNote ns → (b : Book) → HaveSaid os role b → HaveSaid os role (noted role ns b)
  mute_list [] ms b h = h
  mute_list (note ∷ ns) ms b h = mute_list ns ms.1 (written_by role (write_of note) b) (mute_note note ms.0 b h)

  -- ---- at the other end, whatever is written there

  far_change : (X : ℕ → List ℕ → Type 0) (c : ℕ) (f : RecordValue → RecordValue) → ((r : RecordValue) → (f r).node ≡ r.node) → (b : Book) → BookHolds role X b → HaveSaid os role b
      → HaveSaid os role (changed (other_of role) c f b)
  far_change X c f node b book h = record {
    said = λ n r' e own.
        let s = change_of o f b n r' e in
        let before : r'.node ≡ node_at role b = own ∙ ap (λ (z : Side). z.node) (side_changed role o f b) in
        elim s.2 [
          | inl q ↦ absurd (not_ours role X b book c n s.0 q.0 s.1 (sym (node s.0) ∙ sym (ap (λ (z : RecordValue). z.node) q.1) ∙ before))
          | inr q ↦ subst (λ (z : RecordValue). HasSaid (os n) z) (sym q) (h.said n s.0 s.1 (sym (ap (λ (z : RecordValue). z.node) q) ∙ before))
        ];
    none = λ n e. h.none n (none_before n e);
  }
    where
      o : Option ℕ
      o = (slot_at (other_of role) c b).present

      none_before : (n : ℕ) → slice_get (with_change o f b).records n ≡ None → slice_get b.records n ≡ None
      none_before n e = by (slice_get b.records n) refl
        where
          by : (x : Option RecordValue) → slice_get b.records n ≡ x → slice_get b.records n ≡ None
          by None g = g
          by (Some r) g = (let keeps = change_keeps o f b node n r g in absurd (none-some keeps.0 (sym e ∙ keeps.1)))

  unless_said : (o : Option Refusal) (done old : Book) → HaveSaid os role done → HaveSaid os role old → HaveSaid os role (unless_refused o done old)
  unless_said None done old h k = h
  unless_said (Some r) done old h k = k

  module _ (X : ℕ → List ℕ → Type 0) where
    far_takes : (c : ℕ) (o : Option Taken) (b : Book) → BookHolds role X b → HaveSaid os role b → HaveSaid os role (takes (other_of role) c o b)
    far_takes c None b book h = h
    far_takes c (Some (TakenInterrupt octets)) b book h = mute_at (other_of role) c (with_interrupt_taken octets) (interrupt_taken_mute octets) b h
    far_takes c (Some (TakenPacket d)) b book h = far_change X c (with_taken (packet_of d)) (λ r. refl) b book h

    far_lets_go : (c : ℕ) (x : Taken) (b : Book) → HaveSaid os role b → HaveSaid os role (let_go x (other_of role) c b)
    far_lets_go c (TakenInterrupt octets) b h = h
    far_lets_go c (TakenPacket d) b h = mute_at (other_of role) c (with_released 1) (released_mute 1) b h

    far_carried : (c : ℕ) (r : Request) (front : Option Taken) (b : Book) → BookHolds role X b → HaveSaid os role b → HaveSaid os role (carried (other_of role) c r front b)
    far_carried c Accept front b book h = pair_said (slot_at (other_of role) c b).caller (slot_at (other_of role) c b).present b h
    far_carried c (Clearing cause diagnostic) front b book h = closes_said (other_of role) c b h
    far_carried c (Resetting cause diagnostic) front b book h = mute_at (other_of role) c with_epoch epoch_mute b h
    far_carried c (Sending d) front b book h = far_change X c (with_sent (packet_of d)) (λ r. refl) b book h
    far_carried c (Interrupting octets) front b book h = far_change X c (with_interrupt_sent octets) (λ r. refl) b book h
    far_carried c (Stopping v) front b book h = h
    far_carried c Taking front b book h = far_takes c front b book h
    far_carried c (Releasing count) front b book h = mute_at (other_of role) c (with_released count) (released_mute count) b h
    far_carried c Confirming front b book h = h

    far_sent : (c : ℕ) (ds : List Datum) (b : Book) → BookHolds role X b → HaveSaid os role b → HaveSaid os role (all_sent (other_of role) c ds b)
    far_sent c [] b book h = h
    far_sent c (d ∷ ds) b book h =
        far_sent c ds (sends (other_of role) c d b) (far_holds role X b c (with_sent (packet_of d)) (λ r. refl) book) (far_change X c (with_sent (packet_of d)) (λ r. refl) b book h)

    far_write : (w : Write) (b : Book) → BookHolds role X b → HaveSaid os role b → HaveSaid os role (written_by (other_of role) w b)
    far_write (write.Told notes) b book h = all_told_said (other_of role) notes b h
    far_write (write.Placed o parts) b book h = placed_said (other_of role) o parts b h
    far_write (write.Asked refusal c r front) b book h = unless_said refusal (carried (other_of role) c r front b) b (far_carried c r front b book h) h
    far_write (write.Said refusal c ds) b book h = unless_said refusal (all_sent (other_of role) c ds b) b (far_sent c ds b book h) h
    far_write (write.Took c x) b book h = far_lets_go c x (takes (other_of role) c (Some x) b) (far_takes c (Some x) b book h)
    far_write (write.Cleared refusal c) b book h = unless_said refusal (closes (other_of role) c b) b (closes_said (other_of role) c b h) h
    far_write (write.Edited c step) b book h = mute_at (other_of role) c (with_step step) (same_mute (with_step step) (λ r. refl) (λ r. refl) (λ r. refl) (λ r. refl) (λ r. refl) (λ r. refl)) b h
    far_write write.AllClosed b book h = all_closed_said (other_of role) b h

    pub far_said : (ws : List Write) (b : Book) → BookHolds role X b → HaveSaid os role b → HaveSaid os role (all_written (other_of role) ws b)
    far_said [] b book h = h
    far_said (w ∷ ws) b book h = far_said ws (written_by (other_of role) w b) (far_one role X w b book) (far_write w b book h)
