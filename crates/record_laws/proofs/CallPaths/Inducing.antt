-- What holds of each step of a write holds of all writes.
use Rattle.std.proofs.Common.{◌≡◌, ℕ, List, [], ◌∷◌, ◌++◌, Option, Some, None, refl}
use Rattle.link_timers.specs.declared.role.Role.{Role}
use Rattle.link_timers.specs.Role.{other_of}
use Rattle.data_transfer.specs.Packets.{CallParts, Datum, Note}
use Rattle.data_transfer.specs.Packets.Note.{Incoming, Connected, Closed, WasReset, InterruptConfirmed, Covered}
use Rattle.data_transfer.specs.Traffic.{Taken}
use Rattle.data_transfer.specs.Traffic.Taken.{TakenInterrupt, TakenPacket}
use Rattle.packet_channel.specs.Channel.{Request, Refusal}
use Rattle.packet_channel.specs.Channel.Request.{Accept, Clearing, Resetting, Sending, Interrupting, Taking, Releasing}
use Rattle.call_records.specs.Records.{RecordValue, HopValue, with_step, with_sent, with_interrupt_sent, with_taken, with_interrupt_taken, with_released, with_covered, with_epoch}
use Rattle.call_records.specs.Book.{Book, slot_at, changed, packet_of, comes, answers, closes, sends, takes, told, all_told}
use Rattle.call_records.specs.Closing.{all_closed}
use Rattle.call_records.specs.Carried.{carried, unless_refused, placed_on}
use Rattle.call_records.specs.Writes.{Write, all_sent, let_go, written_by, all_written}
use Rattle.call_records.specs.Writes.Write.{Told, Placed, Asked, Said, Took, Cleared, Edited, AllClosed}
use Rattle.record_laws.proofs.Registers.Steps.{IsBlind}
use Rattle.record_laws.specs.CallPaths.World.{Origin, coming, noted, all_noted, with_placed, traced, all_traced}
use Rattle.record_laws.proofs.CallPaths.Records.{IsMild}

-- what a write makes of a book, and of the origins beside it
abbrev pub Property : Type 1
Property = (Book → Book) → (Book → List Origin → List Origin) → Type 0

abbrev pub keeps : Book → List Origin → List Origin
keeps b os = os

abbrev pub comes_at : (line : ℕ) → Role → (channel : ℕ) → Book → List Origin → List Origin
comes_at line role channel b os = os ++ coming line role (slot_at (other_of role) channel b).placed ∷ []

pub record Holds (line : ℕ) (role : Role) (May : Write → Type 0) (R : Property) : Type 0 where
  pub same : R (λ b. b) keeps
  pub in_turn : (f g : Book → Book) (s t : Book → List Origin → List Origin) → R f s → R g t → R (λ b. g (f b)) (λ b os. t (f b) (s b os))
  pub changes : (c : ℕ) (f : RecordValue → RecordValue) → IsMild f → R (changed role c f) keeps
  pub comes_in : (c : ℕ) (parts : CallParts) → R (comes role c parts) (comes_at line role c)
  pub accepts : (c : ℕ) → R (answers role c) keeps
  pub ends : (c : ℕ) → R (closes role c) keeps
  pub ends_all : R (all_closed role) keeps
  pub places : (o : Option ℕ) (parts : CallParts) → May (Placed o parts) → R (placed_on role o parts) (λ b os. with_placed line role o os)

abbrev pub Each : (Write → Type 0) → List Write → Type 0
Each May [] = Unit {0}
Each May (write ∷ writes) = May write × Each May writes

mild : (f : RecordValue → RecordValue) → ((r : RecordValue) → (f r).number ≡ r.number) → ((r : RecordValue) → (f r).node ≡ r.node)
    → ((r : RecordValue) → (f r).own ≡ r.own) → ((r : RecordValue) → (f r).far ≡ r.far) → ((r : RecordValue) → (f r).caller ≡ r.caller) → ((r : RecordValue) → (f r).path ≡ r.path) → IsBlind f
    → ((n : ℕ) (own : Option (List ℕ)) (caller : Option ℕ) (path : List HopValue) (r : RecordValue) → f (record r { number = n; own = own; caller = caller; path = path }) ≡ record (f r) { number = n; own = own; caller = caller; path = path }) → IsMild f
mild f number node own far caller path blind beside = record { blind = blind; beside = beside; path = path; number = number; node = node; own = own; far = far; caller = caller }

module _ (line : ℕ) (role : Role) (May : Write → Type 0) (R : Property) (h : Holds line role May R) where
  changes_by : (c : ℕ) (f : RecordValue → RecordValue) → ((r : RecordValue) → (f r).number ≡ r.number) → ((r : RecordValue) → (f r).node ≡ r.node)
      → ((r : RecordValue) → (f r).own ≡ r.own) → ((r : RecordValue) → (f r).far ≡ r.far) → ((r : RecordValue) → (f r).caller ≡ r.caller) → ((r : RecordValue) → (f r).path ≡ r.path) → IsBlind f
      → ((n : ℕ) (own : Option (List ℕ)) (caller : Option ℕ) (path : List HopValue) (r : RecordValue) → f (record r { number = n; own = own; caller = caller; path = path }) ≡ record (f r) { number = n; own = own; caller = caller; path = path }) → R (changed role c f) keeps
  changes_by c f number node own far caller path blind beside = h.changes c f (mild f number node own far caller path blind beside)

  takes_hold : (c : ℕ) (o : Option Taken) → R (takes role c o) keeps
  takes_hold c None = h.same
  takes_hold c (Some (TakenInterrupt octets)) = changes_by c (with_interrupt_taken octets) (λ r. refl) (λ r. refl) (λ r. refl) (λ r. refl) (λ r. refl) (λ r. refl) (λ n k r. (refl, refl)) (λ n a k p r. refl)
  takes_hold c (Some (TakenPacket d)) = changes_by c (with_taken (packet_of d)) (λ r. refl) (λ r. refl) (λ r. refl) (λ r. refl) (λ r. refl) (λ r. refl) (λ n k r. (refl, refl)) (λ n a k p r. refl)

  sent_hold : (c : ℕ) (ds : List Datum) → R (all_sent role c ds) keeps
  sent_hold c [] = h.same
  sent_hold c (d ∷ ds) =
      h.in_turn (sends role c d) (all_sent role c ds) keeps keeps (changes_by c (with_sent (packet_of d)) (λ r. refl) (λ r. refl) (λ r. refl) (λ r. refl) (λ r. refl) (λ r. refl) (λ n k r. (refl, refl)) (λ n a k p r. refl)) (sent_hold c ds)

  let_go_hold : (t : Taken) (c : ℕ) → R (let_go t role c) keeps
  let_go_hold (TakenInterrupt octets) c = h.same
  let_go_hold (TakenPacket d) c = changes_by c (with_released 1) (λ r. refl) (λ r. refl) (λ r. refl) (λ r. refl) (λ r. refl) (λ r. refl) (λ n k r. (refl, refl)) (λ n a k p r. refl)

  told_hold : (note : Note) → R (told role note) (noted line role note)
  told_hold (Incoming c parts) = h.comes_in c parts
  told_hold (Connected c) = h.same
  told_hold (Closed c cause diagnostic reason) = h.ends c
  told_hold (WasReset c cause diagnostic reason) = changes_by c with_epoch (λ r. refl) (λ r. refl) (λ r. refl) (λ r. refl) (λ r. refl) (λ r. refl) (λ n k r. (refl, refl)) (λ n a k p r. refl)
  told_hold (InterruptConfirmed c) = h.same
  told_hold (Covered c count) = changes_by c (with_covered count) (λ r. refl) (λ r. refl) (λ r. refl) (λ r. refl) (λ r. refl) (λ r. refl) (λ n k r. (refl, refl)) (λ n a k p r. refl)

  all_told_hold : (notes : List Note) → R (all_told role notes) (all_noted line role notes)
  all_told_hold [] = h.same
  all_told_hold (note ∷ notes) =
      h.in_turn (told role note) (all_told role notes) (noted line role note) (all_noted line role notes) (told_hold note) (all_told_hold notes)

  carried_hold : (c : ℕ) (r : Request) (front : Option Taken) → R (carried role c r front) keeps
  carried_hold c Accept front = h.accepts c
  carried_hold c (Clearing cause diagnostic) front = h.ends c
  carried_hold c (Resetting cause diagnostic) front = changes_by c with_epoch (λ r. refl) (λ r. refl) (λ r. refl) (λ r. refl) (λ r. refl) (λ r. refl) (λ n k r. (refl, refl)) (λ n a k p r. refl)
  carried_hold c (Sending d) front = changes_by c (with_sent (packet_of d)) (λ r. refl) (λ r. refl) (λ r. refl) (λ r. refl) (λ r. refl) (λ r. refl) (λ n k r. (refl, refl)) (λ n a k p r. refl)
  carried_hold c (Interrupting octets) front = changes_by c (with_interrupt_sent octets) (λ r. refl) (λ r. refl) (λ r. refl) (λ r. refl) (λ r. refl) (λ r. refl) (λ n k r. (refl, refl)) (λ n a k p r. refl)
  carried_hold c Taking front = takes_hold c front
  carried_hold c (Releasing count) front = changes_by c (with_released count) (λ r. refl) (λ r. refl) (λ r. refl) (λ r. refl) (λ r. refl) (λ r. refl) (λ n k r. (refl, refl)) (λ n a k p r. refl)
  carried_hold c _ front = h.same

  unless_hold : (refusal : Option Refusal) (f : Book → Book) → R f keeps → R (λ b. unless_refused refusal (f b) b) keeps
  unless_hold None f g = g
  unless_hold (Some r) f g = h.same

  write_holds : (write : Write) → May write → R (written_by role write) (traced line role write)
  write_holds (Told notes) may = all_told_hold notes
  write_holds (Placed o parts) may = h.places o parts may
  write_holds (Asked refusal c r front) may = unless_hold refusal (carried role c r front) (carried_hold c r front)
  write_holds (Said refusal c ds) may = unless_hold refusal (all_sent role c ds) (sent_hold c ds)
  write_holds (Took c t) may = h.in_turn (takes role c (Some t)) (let_go t role c) keeps keeps (takes_hold c (Some t)) (let_go_hold t c)
  write_holds (Cleared refusal c) may = unless_hold refusal (closes role c) (h.ends c)
  write_holds (Edited c step) may = changes_by c (with_step step) (λ r. refl) (λ r. refl) (λ r. refl) (λ r. refl) (λ r. refl) (λ r. refl) (λ n k r. (refl, refl)) (λ n a k p r. refl)
  write_holds AllClosed may = h.ends_all

  pub writes_hold : (writes : List Write) → Each May writes → R (all_written role writes) (all_traced line role writes)
  writes_hold [] may = h.same
  writes_hold (write ∷ writes) may =
      h.in_turn (written_by role write) (all_written role writes) (traced line role write) (all_traced line role writes) (write_holds write may.0) (writes_hold writes may.1)
