-- What is written at an end of a line leaves the records of each other node as they are.
use Rattle.std.proofs.Common.{◌≡◌, ◌≢◌, ℕ, zero, suc, List, [], ◌∷◌, ◌++◌, length, Option, Some, None, refl, sym, ap, ◌∙◌, inl, inr}
use Rattle.std.specs.Prelude.{slice_get}
use Rattle.std.proofs.lemmas.Option.{none-some, same_Some}
use Rattle.link_timers.specs.declared.role.Role.{Role}
use Rattle.link_timers.specs.declared.role.Role.TheVariants.{Dte, Dce}
use Rattle.link_timers.specs.Role.{other_of}
use Rattle.data_transfer.specs.Packets.{CallParts, Datum, Note}
use Rattle.data_transfer.specs.Packets.Note.{Incoming, Connected, Closed, WasReset, InterruptConfirmed, Covered}
use Rattle.data_transfer.specs.Traffic.{Taken}
use Rattle.data_transfer.specs.Traffic.Taken.{TakenInterrupt, TakenPacket}
use Rattle.packet_channel.specs.Channel.{Request, Refusal}
use Rattle.packet_channel.specs.Channel.Request.{Accept, Clearing, Resetting, Sending, Interrupting, Stopping, Taking, Releasing, Confirming}
use Rattle.call_records.specs.Records.{RecordValue, PairValue, new_record, with_step, with_sent, with_interrupt_sent, with_taken, with_interrupt_taken, with_released, with_covered, with_epoch, with_closed}
use Rattle.call_records.specs.Book.{Book, Side, Slot, side_of, slot_at, with_slot, with_change, changed, with_record, packet_of, address_of, calling_from, with_pair, answers, closes, sends, takes, told, all_told}
use Rattle.call_records.specs.Carried.{carried, unless_refused, placed_on}
use Rattle.call_records.specs.Closing.{closes_if, closes_present, closed_from, all_closed}
use Rattle.call_records.specs.Writes.{Write, Write as write, all_sent, let_go, written_by, all_written}
use Rattle.node_laws.specs.Pads.Holds.{node_at, HasItsRecords}
use Rattle.node_laws.proofs.Pads.Books.{has_kept, side_changed, change_keeps, change_of, slot_records, slot_node, has_slot, side_record, side_pairs}
use Rattle.node_laws.proofs.Pads.Lists.{get_before, get_last, get_pushed}

-- after writes at the end of this role, at which a node of another place is: the nodes and the other end are as before,
-- each record keeps its node, and those of the place are the same
pub record IsAway (place : ℕ) (role : Role) (before after : Book) : Type 0 where
  pub nodes : (side : Role) → node_at side after ≡ node_at side before
  pub other : side_of (other_of role) after ≡ side_of (other_of role) before
  pub own : HasItsRecords role after
  pub kept : (n : ℕ) (r : RecordValue) → slice_get before.records n ≡ Some r
      → (now : RecordValue) × (slice_get after.records n ≡ Some now) × (now.node ≡ r.node) × (r.node ≡ place → now ≡ r)
  pub was : (n : ℕ) (now : RecordValue) → slice_get after.records n ≡ Some now → now.node ≡ place → slice_get before.records n ≡ Some now

module _ (place : ℕ) (role : Role) (start : Book) (apart : node_at role start ≢ place) where
  abbrev Away : Book → Type 0
  Away b = IsAway place role start b

  -- no present call of this end has a record of the place
  not_there : (b : Book) → Away b → (c n : ℕ) (r : RecordValue) → (slot_at role c b).present ≡ Some n → slice_get b.records n ≡ Some r → r.node ≡ place → ⊥
  not_there b h c n r e at is =
      let mine = h.own c n e in
      apart (sym (h.nodes role) ∙ sym mine.2 ∙ ap (λ (z : RecordValue). z.node) (same_Some mine.0 r (sym mine.1 ∙ at)) ∙ is)

  change_away : (c : ℕ) (f : RecordValue → RecordValue) → ((r : RecordValue) → (f r).node ≡ r.node) → (b : Book) → Away b → Away (changed role c f b)
  change_away c f node b h = record {
    nodes = λ side. ap (λ (z : Side). z.node) (side_changed side o f b) ∙ h.nodes side;
    other = side_changed (other_of role) o f b ∙ h.other;
    own = has_kept role b b' (side_changed role o f b) (change_keeps o f b node) h.own;
    kept = λ n r at.
        let k = h.kept n r at in
        let now = change_keeps o f b node n k.0 k.1 in
        (now.0, now.1, now.2 ∙ k.2, λ is. same n k.0 now.0 k.1 now.1 (k.2 ∙ is) ∙ k.3 is);
    was = λ n now at is.
        let r = change_of o f b n now at in
        elim r.2 [
          | inl q ↦ absurd (not_there b h c n r.0 q.0 r.1 (sym (node r.0) ∙ sym (ap (λ (z : RecordValue). z.node) q.1) ∙ is))
          | inr q ↦ h.was n now (r.1 ∙ ap (λ (z : RecordValue). Some z) (sym q)) is
        ];
  }
    where
      o : Option ℕ
      o = (slot_at role c b).present

      b' : Book
      b' = changed role c f b

      same : (n : ℕ) (r now : RecordValue) → slice_get b.records n ≡ Some r → slice_get b'.records n ≡ Some now → r.node ≡ place → now ≡ r
      same n r now at there is =
          let q = change_of o f b n now there in
          let one : q.0 ≡ r = same_Some q.0 r (sym q.1 ∙ at) in
          elim q.2 [
            | inl k ↦ absurd (not_there b h c n r k.0 at is)
            | inr k ↦ k ∙ one
          ]

  slot_away : (c : ℕ) (z : Slot) (b : Book) → ((n : ℕ) → z.present ≡ Some n → (r : RecordValue) × (slice_get b.records n ≡ Some r) × (r.node ≡ node_at role b))
      → Away b → Away (with_slot role c z b)
  slot_away c z b new h = record {
    nodes = λ side. slot_node role c z b side ∙ h.nodes side;
    other = other_side role ∙ h.other;
    own = has_slot role c z b role new h.own;
    kept = λ n r at. (let k = h.kept n r at in (k.0, same n ∙ k.1, k.2, k.3));
    was = λ n now at is. h.was n now (sym (same n) ∙ at) is;
  }
    where
      same : (n : ℕ) → slice_get (with_slot role c z b).records n ≡ slice_get b.records n
      same n = ap (λ (rs : List RecordValue). slice_get rs n) (slot_records role c z b)

      other_side : (x : Role) → side_of (other_of x) (with_slot x c z b) ≡ side_of (other_of x) b
      other_side Dte = refl
      other_side Dce = refl

  record_away : (r : RecordValue) (b : Book) → r.node ≡ node_at role b → Away b → Away (with_record r b)
  record_away r b own h = record {
    nodes = λ side. ap (λ (z : Side). z.node) (side_record r b side) ∙ h.nodes side;
    other = side_record r b (other_of role) ∙ h.other;
    own = has_kept role b (with_record r b) (side_record r b role) (λ n q at. (q, get_before b.records (r ∷ []) n q at, refl)) h.own;
    kept = λ n q at. (let k = h.kept n q at in (k.0, get_before b.records (r ∷ []) n k.0 k.1, k.2, k.3));
    was = λ n now at is. elim (get_pushed b.records r n now at) [
      | inl k ↦ h.was n now k is
      | inr k ↦ absurd (apart (sym (h.nodes role) ∙ sym own ∙ ap (λ (z : RecordValue). z.node) (sym k) ∙ is))
    ];
  }

  -- a call begins
  opens_away : (c : ℕ) (z : Slot) (near far : Option (List ℕ)) (caller : Option ℕ) (b : Book) → z.present ≡ Some (length b.records) → Away b
      → Away (with_slot role c z (with_record (new_record (length b.records) (side_of role b).node near far caller) b))
  opens_away c z near far caller b new h =
      let r : RecordValue = new_record (length b.records) (side_of role b).node near far caller in
      slot_away c z (with_record r b)
      (λ n e. (
        r,
        ap (λ (k : ℕ). slice_get (b.records ++ r ∷ []) k) (same_Some n (length b.records) (sym e ∙ new)) ∙ get_last b.records r,
        ap (λ (s : Side). s.node) (sym (side_record r b role)),
      ))
      (record_away r b refl h)

  closes_away : (c : ℕ) (b : Book) → Away b → Away (closes role c b)
  closes_away c b h =
      slot_away c (record (slot_at role c b) { present = None; caller = None }) (changed role c with_closed b) (λ n e. absurd (none-some n e))
      (change_away c with_closed (λ r. refl) b h)

  closes_if_away : (o : Option ℕ) (c : ℕ) (b : Book) → Away b → Away (closes_if o role c b)
  closes_if_away None c b h = h
  closes_if_away (Some n) c b h = closes_away c b h

  closed_from_away : (count c : ℕ) (b : Book) → Away b → Away (closed_from count c role b)
  closed_from_away zero c b h = h
  closed_from_away (suc count) c b h = closed_from_away count (suc c) (closes_present role c b) (closes_if_away (slot_at role c b).present c b h)

  pair_away : (x y : Option ℕ) (b : Book) → Away b → Away (with_pair x y b)
  pair_away None y b h = h
  pair_away (Some caller) None b h = h
  pair_away (Some caller) (Some callee) b h =
      let ps : List PairValue = b.pairs ++ record { caller = caller; callee = callee } ∷ [] in
      record {
        nodes = λ side. ap (λ (z : Side). z.node) (side_pairs ps b side) ∙ h.nodes side;
        other = side_pairs ps b (other_of role) ∙ h.other;
        own = has_kept role b (record b { pairs = ps }) (side_pairs ps b role) (λ n r at. (r, at, refl)) h.own;
        kept = h.kept;
        was = h.was;
      }

  takes_away : (c : ℕ) (o : Option Taken) (b : Book) → Away b → Away (takes role c o b)
  takes_away c None b h = h
  takes_away c (Some (TakenInterrupt octets)) b h = change_away c (with_interrupt_taken octets) (λ r. refl) b h
  takes_away c (Some (TakenPacket d)) b h = change_away c (with_taken (packet_of d)) (λ r. refl) b h

  lets_go_away : (x : Taken) (c : ℕ) (b : Book) → Away b → Away (let_go x role c b)
  lets_go_away (TakenInterrupt octets) c b h = h
  lets_go_away (TakenPacket d) c b h = change_away c (with_released 1) (λ r. refl) b h

  told_away : (note : Note) (b : Book) → Away b → Away (told role note b)
  told_away (Incoming c parts) b h =
      opens_away c (record { present = Some (length b.records); placed = (slot_at role c b).placed; caller = (slot_at (other_of role) c b).placed })
      (address_of parts.called) (address_of parts.calling) (slot_at (other_of role) c b).placed b refl h
  told_away (Connected c) b h = h
  told_away (Closed c cause diagnostic reason) b h = closes_away c b h
  told_away (WasReset c cause diagnostic reason) b h = change_away c with_epoch (λ r. refl) b h
  told_away (InterruptConfirmed c) b h = h
  told_away (Covered c count) b h = change_away c (with_covered count) (λ r. refl) b h

  all_told_away : (notes : List Note) (b : Book) → Away b → Away (all_told role notes b)
  all_told_away [] b h = h
  all_told_away (note ∷ notes) b h = all_told_away notes (told role note b) (told_away note b h)

  placed_away : (o : Option ℕ) (parts : CallParts) (b : Book) → Away b → Away (placed_on role o parts b)
  placed_away None parts b h = h
  placed_away (Some c) parts b h =
      opens_away c (record { present = Some (length b.records); placed = Some (length b.records); caller = None })
      (address_of (calling_from (side_of role b).address parts.calling)) (address_of parts.called) None b refl h

  carried_away : (c : ℕ) (r : Request) (front : Option Taken) (b : Book) → Away b → Away (carried role c r front b)
  carried_away c Accept front b h = pair_away (slot_at role c b).caller (slot_at role c b).present b h
  carried_away c (Clearing cause diagnostic) front b h = closes_away c b h
  carried_away c (Resetting cause diagnostic) front b h = change_away c with_epoch (λ r. refl) b h
  carried_away c (Sending d) front b h = change_away c (with_sent (packet_of d)) (λ r. refl) b h
  carried_away c (Interrupting octets) front b h = change_away c (with_interrupt_sent octets) (λ r. refl) b h
  carried_away c (Stopping v) front b h = h
  carried_away c Taking front b h = takes_away c front b h
  carried_away c (Releasing count) front b h = change_away c (with_released count) (λ r. refl) b h
  carried_away c Confirming front b h = h

  sent_away : (c : ℕ) (ds : List Datum) (b : Book) → Away b → Away (all_sent role c ds b)
  sent_away c [] b h = h
  sent_away c (d ∷ ds) b h = sent_away c ds (sends role c d b) (change_away c (with_sent (packet_of d)) (λ r. refl) b h)

  unless_away : (o : Option Refusal) (done old : Book) → Away done → Away old → Away (unless_refused o done old)
  unless_away None done old h k = h
  unless_away (Some r) done old h k = k

  write_away : (w : Write) (b : Book) → Away b → Away (written_by role w b)
  write_away (write.Told notes) b h = all_told_away notes b h
  write_away (write.Placed o parts) b h = placed_away o parts b h
  write_away (write.Asked refusal c r front) b h = unless_away refusal (carried role c r front b) b (carried_away c r front b h) h
  write_away (write.Said refusal c ds) b h = unless_away refusal (all_sent role c ds b) b (sent_away c ds b h) h
  write_away (write.Took c x) b h = lets_go_away x c (takes role c (Some x) b) (takes_away c (Some x) b h)
  write_away (write.Cleared refusal c) b h = unless_away refusal (closes role c b) b (closes_away c b h) h
  write_away (write.Edited c step) b h = change_away c (with_step step) (λ r. refl) b h
  write_away write.AllClosed b h = closed_from_away (length (side_of role b).slots) 1 b h

  writes_away : (ws : List Write) (b : Book) → Away b → Away (all_written role ws b)
  writes_away [] b h = h
  writes_away (w ∷ ws) b h = writes_away ws (written_by role w b) (write_away w b h)

pub all_away : (place : ℕ) (role : Role) (ws : List Write) (b : Book) → node_at role b ≢ place → HasItsRecords role b → IsAway place role b (all_written role ws b)
all_away place role ws b apart own =
    writes_away place role b apart ws b
    (record { nodes = λ side. refl; other = refl; own = own; kept = λ n r at. (r, at, refl, λ is. refl); was = λ n now at is. at })
