-- Each record is of one use of a channel, and no epoch of it is lost.
use Rattle.std.specs.Prelude.{◌≡◌, ℕ, ◌<◌, ◌≤◌, Bool, List, length, slice_get, Option, Some, None}
use Rattle.data_transfer.specs.Flow.{modulus}
use Rattle.data_transfer.specs.declared.flow.Flow.{Flow}
use Rattle.epochs.specs.Epoch.{SentEpoch, TakenEpoch}
use Rattle.packet_laws.specs.History.{empty_epoch}
use Rattle.call_records.specs.Records.{RecordValue}
use Rattle.call_records.specs.Book.{side_of}
use Rattle.record_laws.specs.Books.Told.{World, Move, after_move, after_all, AreAllowed, start}
use Rattle.record_laws.specs.Books.Counts.{HasEpochs}
use Rattle.record_laws.specs.Books.AcceptedCalls.{CallUse, epochs_at}

-- a record is of this use of a channel by the end of its node; that of a call that a collision cancelled is of none, and
-- nothing passed in it
abbrev pub IsOf : World → RecordValue → Option CallUse → Type 0
IsOf w r (Some u) = (r.node ≡ (side_of u.role w.book).node) × HasEpochs (epochs_at u.role u w.line) r
IsOf w r None = HasEpochs (λ g. empty_epoch) r

-- the use of each record; no two records are of one use
pub record AreOf (w : World) (uses : List (Option CallUse)) : Type 0 where
  pub count : length uses ≡ length w.book.records
  pub records : (i : ℕ) (o : Option CallUse) (r : RecordValue) → slice_get uses i ≡ Some o
      → slice_get w.book.records i ≡ Some r → IsOf w r o
  pub once : (i j : ℕ) (u : CallUse) → slice_get uses i ≡ Some (Some u) → slice_get uses j ≡ Some (Some u) → i ≡ j

abbrev pub UsesLaw : Type 0
UsesLaw = (dte_node dce_node channels : ℕ) (flow : Flow) (standing : Bool) → 1 ≤ channels → flow.window < modulus flow.numbering
    → (ms : List Move) → AreAllowed ms (start dte_node dce_node channels flow standing)
    → (uses : List (Option CallUse)) × AreOf (after_all ms (start dte_node dce_node channels flow standing)) uses

-- a record later: each epoch that was over is there as it was
pub record KeepsEpochs (r later : RecordValue) : Type 0 where
  pub sent : (g : ℕ) (e : SentEpoch) → slice_get r.sent_before g ≡ Some e → slice_get later.sent_before g ≡ Some e
  pub taken : (g : ℕ) (e : TakenEpoch) → slice_get r.taken_before g ≡ Some e → slice_get later.taken_before g ≡ Some e

-- whatever happens, the close of a call too
abbrev pub KeepingLaw : Type 0
KeepingLaw = (m : Move) (w : World) (i : ℕ) (r : RecordValue) → slice_get w.book.records i ≡ Some r
    → (later : RecordValue) × (slice_get (after_move m w).book.records i ≡ Some later) × KeepsEpochs r later
