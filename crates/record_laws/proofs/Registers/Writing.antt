-- Each write at a line, made in the line's book and in what the register has of the line alike.
use Rattle.std.proofs.Common.{◌≡◌, ℕ, zero, suc, List, [], ◌∷◌, length, Option, Some, None, refl, sym, ap, subst, ◌∙◌}
use Rattle.link_timers.specs.declared.role.Role.{Role}
use Rattle.link_timers.specs.declared.role.Role.TheVariants.{Dte, Dce}
use Rattle.link_timers.specs.Role.{other_of}
use Rattle.data_transfer.specs.Packets.{CallParts, Datum, Note}
use Rattle.data_transfer.specs.Packets.Note.{Incoming, Connected, Closed, WasReset, InterruptConfirmed, Covered}
use Rattle.data_transfer.specs.Traffic.{Taken}
use Rattle.data_transfer.specs.Traffic.Taken.{TakenInterrupt, TakenPacket}
use Rattle.packet_channel.specs.Channel.{Request, Refusal}
use Rattle.packet_channel.specs.Channel.Request.{Accept, Clearing, Resetting, Sending, Interrupting, Taking, Releasing}
use Rattle.call_records.specs.Records.{RecordValue, new_record, with_step, with_sent, with_interrupt_sent, with_taken, with_interrupt_taken, with_released, with_covered, with_epoch, with_closed}
use Rattle.call_records.specs.Book.{Book, Slot, side_of, slot_at, with_slot, with_change, changed, address_of, calling_from, packet_of, places_from, comes, answers, closes, sends, takes, told, all_told}
use Rattle.call_records.specs.Closing.{closes_if, closes_present, closed_from, all_closed}
use Rattle.call_records.specs.Carried.{carried, unless_refused, placed_on}
use Rattle.call_records.specs.Writes.{Write, all_sent, let_go, written_by, all_written}
use Rattle.call_records.specs.Writes.Write.{Told, Placed, Asked, Said, Took, Cleared, Edited, AllClosed}
use Rattle.record_laws.specs.Registers.Seen.{positions, IsNumbered, renumbered, SlotIsSeen}
use Rattle.record_laws.proofs.Registers.Steps.{Beside, IsRight, Leads, IsBlind, after, no_step, then, puts, changes, added, with_owner, adds_right, adds_leaves, more_numbered, last_number, pairs_up}

-- a write, of which it is to be shown that it goes the same way in both
abbrev pub Goes : (lines line : ℕ) → (Book → Book) → Type 0
Goes lines line write = (x : Beside) → IsRight lines line x → Leads lines line x (write x.own) (write x.seen)

module _ (lines line : ℕ) where
  in_turn : (x : Beside) (first : Book → Book) (rest : Book → Book) → IsRight lines line x → Goes lines line first → Goes lines line rest
      → Leads lines line x (rest (first x.own)) (rest (first x.seen))
  in_turn x first rest h f g =
      let a : Leads lines line x (first x.own) (first x.seen) = f x h in
      then lines line x (first x.own) (first x.seen) (rest (first x.own)) (rest (first x.seen)) a (g (after lines line x (first x.own) (first x.seen) a) a.is_right)

  pub slot_seen : (x : Beside) → IsRight lines line x → (role : Role) (c : ℕ) → SlotIsSeen (positions line x.owners) (slot_at role c x.own) (slot_at role c x.seen)
  slot_seen x h role c = (h.line.sides role).slot c

  -- ---- the record of the present call

  pub changed_goes : (role : Role) (c : ℕ) (f : RecordValue → RecordValue) → IsBlind f → Goes lines line (changed role c f)
  changed_goes role c f blind x h =
      changes lines line x f (slot_at role c x.own).present (slot_at role c x.seen).present blind h (slot_seen x h role c).present

  slot_stays : (role : Role) (c : ℕ) (o : Option ℕ) (f : RecordValue → RecordValue) (b : Book) → slot_at role c (with_change o f b) ≡ slot_at role c b
  slot_stays role c None f b = refl
  slot_stays Dte c (Some n) f b = refl
  slot_stays Dce c (Some n) f b = refl

  pub closes_goes : (role : Role) (c : ℕ) → Goes lines line (closes role c)
  closes_goes role c x h =
      let own : Book = changed role c with_closed x.own in
      let seen : Book = changed role c with_closed x.seen in
      let a : Leads lines line x own seen = changed_goes role c with_closed (λ n o r. (refl, refl)) x h in
      let y : Beside = after lines line x own seen a in
      let placed : IsNumbered (positions line y.owners) (slot_at role c x.own).placed (slot_at role c x.seen).placed =
      subst (λ (s : Slot). IsNumbered (positions line y.owners) s.placed (slot_at role c x.seen).placed) (slot_stays role c (slot_at role c x.own).present with_closed x.own)
      (subst (λ (s : Slot). IsNumbered (positions line y.owners) (slot_at role c own).placed s.placed) (slot_stays role c (slot_at role c x.seen).present with_closed x.seen)
      (slot_seen y a.is_right role c).placed) in
      then lines line x own seen (closes role c x.own) (closes role c x.seen) a
      (puts lines line y role c (record (slot_at role c x.own) { present = None; caller = None }) (record (slot_at role c x.seen) { present = None; caller = None }) a.is_right
      (record { present = tt; placed = placed; caller = tt }))

  -- ---- calls begin

  adds_and_puts : (x : Beside) (r t : RecordValue) (caller : Option ℕ) (role : Role) (c : ℕ) (s u : Slot) → IsRight lines line x
      → t ≡ renumbered (length x.seen.records) caller r → IsNumbered (positions line x.owners) r.caller caller
      → SlotIsSeen (positions line (with_owner line x.owners)) s u
      → Leads lines line x (with_slot role c s (added line x r t).own) (with_slot role c u (added line x r t).seen)
  adds_and_puts x r t caller role c s u h is came w =
      let y : Beside = added line x r t in
      let a : Leads lines line x y.own y.seen = record { owners = y.owners; pair_owners = y.pair_owners; is_right = adds_right lines line x r t caller is came h; leaves = adds_leaves lines line x r t h } in
      then lines line x y.own y.seen (with_slot role c s y.own) (with_slot role c u y.seen) a (puts lines line y role c s u (adds_right lines line x r t caller is came h) w)

  newest : (x : Beside) → IsRight lines line x → IsNumbered (positions line (with_owner line x.owners)) (Some (length x.own.records)) (Some (length x.seen.records))
  newest x h = last_number line x.owners (length x.own.records) h.line.count ∙ ap (λ (n : ℕ). Some n) h.records_owned

  new_same : (x : Beside) (role : Role) (own far : Option (List ℕ)) (o p : Option ℕ) → IsRight lines line x
      → new_record (length x.seen.records) (side_of role x.seen).node own far p
      ≡ renumbered (length x.seen.records) p (new_record (length x.own.records) (side_of role x.own).node own far o)
  new_same x role own far o p h = ap (λ (node : ℕ). new_record (length x.seen.records) node own far p) (h.line.sides role).node

  pub places_goes : (role : Role) (c : ℕ) (calling called : List ℕ) → Goes lines line (places_from role c calling called)
  places_goes role c calling called x h =
      let own : Option (List ℕ) = address_of (calling_from (side_of role x.own).address calling) in
      let seen : Option (List ℕ) = address_of (calling_from (side_of role x.seen).address calling) in
      let same : seen ≡ own = ap (λ (address : List ℕ). address_of (calling_from address calling)) (h.line.sides role).address in
      adds_and_puts x (new_record (length x.own.records) (side_of role x.own).node own (address_of called) None)
      (new_record (length x.seen.records) (side_of role x.seen).node seen (address_of called) None) None role c
      (record { present = Some (length x.own.records); placed = Some (length x.own.records); caller = None })
      (record { present = Some (length x.seen.records); placed = Some (length x.seen.records); caller = None }) h
      (ap (λ (a : Option (List ℕ)). new_record (length x.seen.records) (side_of role x.seen).node a (address_of called) None) same ∙ new_same x role own (address_of called) None None h) tt
      (record { present = newest x h; placed = newest x h; caller = tt })

  pub comes_goes : (role : Role) (c : ℕ) (parts : CallParts) → Goes lines line (comes role c parts)
  comes_goes role c parts x h =
      let mine : Option ℕ = (slot_at (other_of role) c x.own).placed in
      let seen : Option ℕ = (slot_at (other_of role) c x.seen).placed in
      adds_and_puts x (new_record (length x.own.records) (side_of role x.own).node (address_of parts.called) (address_of parts.calling) mine)
      (new_record (length x.seen.records) (side_of role x.seen).node (address_of parts.called) (address_of parts.calling) seen) seen role c
      (record { present = Some (length x.own.records); placed = (slot_at role c x.own).placed; caller = (slot_at (other_of role) c x.own).placed })
      (record { present = Some (length x.seen.records); placed = (slot_at role c x.seen).placed; caller = (slot_at (other_of role) c x.seen).placed })
      h (new_same x role (address_of parts.called) (address_of parts.calling) mine seen h) (slot_seen x h (other_of role) c).placed
      (record {
        present = newest x h;
        placed = more_numbered line x.owners (slot_at role c x.own).placed (slot_at role c x.seen).placed (slot_seen x h role c).placed;
        caller = more_numbered line x.owners (slot_at (other_of role) c x.own).placed (slot_at (other_of role) c x.seen).placed (slot_seen x h (other_of role) c).placed;
      })

  pub answers_goes : (role : Role) (c : ℕ) → Goes lines line (answers role c)
  answers_goes role c x h =
      pairs_up lines line x (slot_at role c x.own).caller (slot_at role c x.seen).caller (slot_at role c x.own).present (slot_at role c x.seen).present h
      (slot_seen x h role c).caller (slot_seen x h role c).present

  -- ---- what passes on a call

  takes_goes : (role : Role) (c : ℕ) (o : Option Taken) → Goes lines line (takes role c o)
  takes_goes role c None x h = no_step lines line x h
  takes_goes role c (Some (TakenInterrupt octets)) x h = changed_goes role c (with_interrupt_taken octets) (λ n o r. (refl, refl)) x h
  takes_goes role c (Some (TakenPacket d)) x h = changed_goes role c (with_taken (packet_of d)) (λ n o r. (refl, refl)) x h

  sent_goes : (role : Role) (c : ℕ) (ds : List Datum) → Goes lines line (all_sent role c ds)
  sent_goes role c [] x h = no_step lines line x h
  sent_goes role c (d ∷ ds) x h =
      in_turn x (sends role c d) (all_sent role c ds) h (changed_goes role c (with_sent (packet_of d)) (λ n o r. (refl, refl))) (sent_goes role c ds)

  let_go_goes : (t : Taken) (role : Role) (c : ℕ) → Goes lines line (let_go t role c)
  let_go_goes (TakenInterrupt octets) role c x h = no_step lines line x h
  let_go_goes (TakenPacket d) role c x h = changed_goes role c (with_released 1) (λ n o r. (refl, refl)) x h

  -- ---- what a packet layer tells

  told_goes : (role : Role) (note : Note) → Goes lines line (told role note)
  told_goes role (Incoming c parts) x h = comes_goes role c parts x h
  told_goes role (Connected c) x h = no_step lines line x h
  told_goes role (Closed c cause diagnostic reason) x h = closes_goes role c x h
  told_goes role (WasReset c cause diagnostic reason) x h = changed_goes role c with_epoch (λ n o r. (refl, refl)) x h
  told_goes role (InterruptConfirmed c) x h = no_step lines line x h
  told_goes role (Covered c count) x h = changed_goes role c (with_covered count) (λ n o r. (refl, refl)) x h

  all_told_goes : (role : Role) (notes : List Note) → Goes lines line (all_told role notes)
  all_told_goes role [] x h = no_step lines line x h
  all_told_goes role (note ∷ notes) x h = in_turn x (told role note) (all_told role notes) h (told_goes role note) (all_told_goes role notes)

  -- ---- the calls on all channels

  closes_if_goes : (o p : Option ℕ) (role : Role) (c : ℕ) (x : Beside) → IsRight lines line x → IsNumbered (positions line x.owners) o p
      → Leads lines line x (closes_if o role c x.own) (closes_if p role c x.seen)
  closes_if_goes None None role c x h w = no_step lines line x h
  closes_if_goes (Some a) (Some m) role c x h w = closes_goes role c x h
  closes_if_goes None (Some m) role c x h w = absurd w
  closes_if_goes (Some a) None role c x h w = absurd w

  closes_present_goes : (role : Role) (c : ℕ) → Goes lines line (closes_present role c)
  closes_present_goes role c x h = closes_if_goes (slot_at role c x.own).present (slot_at role c x.seen).present role c x h (slot_seen x h role c).present

  closed_from_goes : (count c : ℕ) (role : Role) → Goes lines line (closed_from count c role)
  closed_from_goes zero c role x h = no_step lines line x h
  closed_from_goes (suc count) c role x h = in_turn x (closes_present role c) (closed_from count (suc c) role) h (closes_present_goes role c) (closed_from_goes count (suc c) role)

  pub all_closed_goes : (role : Role) → Goes lines line (all_closed role)
  all_closed_goes role x h =
      subst (λ (count : ℕ). Leads lines line x (all_closed role x.own) (closed_from count 1 role x.seen)) (sym (h.line.sides role).channels)
      (closed_from_goes (length (side_of role x.own).slots) 1 role x h)

  -- ---- what a user asks

  carried_goes : (role : Role) (c : ℕ) (r : Request) (front : Option Taken) → Goes lines line (carried role c r front)
  carried_goes role c Accept front x h = answers_goes role c x h
  carried_goes role c (Clearing cause diagnostic) front x h = closes_goes role c x h
  carried_goes role c (Resetting cause diagnostic) front x h = changed_goes role c with_epoch (λ n o r. (refl, refl)) x h
  carried_goes role c (Sending d) front x h = changed_goes role c (with_sent (packet_of d)) (λ n o r. (refl, refl)) x h
  carried_goes role c (Interrupting octets) front x h = changed_goes role c (with_interrupt_sent octets) (λ n o r. (refl, refl)) x h
  carried_goes role c Taking front x h = takes_goes role c front x h
  carried_goes role c (Releasing count) front x h = changed_goes role c (with_released count) (λ n o r. (refl, refl)) x h
  carried_goes role c _ front x h = no_step lines line x h

  unless_goes : (refusal : Option Refusal) (write : Book → Book) → Goes lines line write → Goes lines line (λ b. unless_refused refusal (write b) b)
  unless_goes None write g x h = g x h
  unless_goes (Some r) write g x h = no_step lines line x h

  placed_goes : (role : Role) (o : Option ℕ) (parts : CallParts) → Goes lines line (placed_on role o parts)
  placed_goes role None parts x h = no_step lines line x h
  placed_goes role (Some c) parts x h = places_goes role c parts.calling parts.called x h

  -- ---- all writes

  write_goes : (role : Role) (write : Write) → Goes lines line (written_by role write)
  write_goes role (Told notes) x h = all_told_goes role notes x h
  write_goes role (Placed o parts) x h = placed_goes role o parts x h
  write_goes role (Asked refusal c r front) x h = unless_goes refusal (carried role c r front) (carried_goes role c r front) x h
  write_goes role (Said refusal c ds) x h = unless_goes refusal (all_sent role c ds) (sent_goes role c ds) x h
  write_goes role (Took c t) x h = in_turn x (takes role c (Some t)) (let_go t role c) h (takes_goes role c (Some t)) (let_go_goes t role c)
  write_goes role (Cleared refusal c) x h = unless_goes refusal (closes role c) (closes_goes role c) x h
  write_goes role (Edited c step) x h = changed_goes role c (with_step step) (λ n o r. (refl, refl)) x h
  write_goes role AllClosed x h = all_closed_goes role x h

  pub writes_go : (role : Role) (writes : List Write) → Goes lines line (all_written role writes)
  writes_go role [] x h = no_step lines line x h
  writes_go role (write ∷ writes) x h = in_turn x (written_by role write) (all_written role writes) h (write_goes role write) (writes_go role writes)
