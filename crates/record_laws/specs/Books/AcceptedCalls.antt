-- The pairs of a book are the calls that were accepted, one for each.
use Rattle.std.specs.Prelude.{◌≡◌, ℕ, ◌<◌, ◌≤◌, Bool, true, List, [], ◌∷◌, length, slice_get, Some}
use Rattle.link_timers.specs.declared.role.Role.{Role}
use Rattle.link_timers.specs.declared.role.Role.TheVariants.{Dce}
use Rattle.link_timers.specs.Role.{other_of}
use Rattle.data_transfer.specs.Flow.{modulus, modulo_8}
use Rattle.data_transfer.specs.declared.flow.Flow.{Flow}
use Rattle.packet_channel.specs.Channel.Request.{Clearing}
use Rattle.packet_laws.specs.History.{Epoch}
use Rattle.packet_laws.specs.LayerLine.{Line}
use Rattle.packet_laws.specs.LayerLine.Event.{Requests}
use Rattle.packet_laws.specs.LayerLine.Happening.{Here}
use Rattle.call_records.specs.Records.{RecordValue, PairValue, taken_epochs}
use Rattle.call_records.specs.Book.{side_of}
use Rattle.record_laws.specs.Books.Told.{World, Move, after_all, AreAllowed, start}
use Rattle.record_laws.specs.Books.Told.Move.{Happens}
use Rattle.record_laws.specs.Words.{TookNothing}
use Rattle.record_laws.specs.Books.Open.{layers_at}
use Rattle.record_laws.specs.Books.Counts.{HasEpochs}

-- a use of a channel at an end of the line: the session of the link, the restart of the packet layer in it, and the use
-- since that restart, from one clear to the next
pub record CallUse : Type 0 where
  pub role : Role
  pub session : ℕ
  pub channel : ℕ
  pub restart : ℕ
  pub use_ : ℕ

-- what the end of a role did in it, epoch by epoch
abbrev pub epochs_at : Role → CallUse → Line → ℕ → Epoch
epochs_at role u v g = ((layers_at role v).histories u.session u.channel).epochs u.restart u.use_ g

-- the end accepted the call that came in
abbrev pub was_accepted : CallUse → Line → Bool
was_accepted u v = (epochs_at u.role u v 0).answered

-- a pair is of the call that was accepted in this use: the callee's record has what this end did in it, and that of the
-- caller what the other end did
pub record IsOfAccepted (w : World) (u : CallUse) (pair : PairValue) : Type 0 where
  pub caller : RecordValue
  pub callee : RecordValue
  pub caller_there : slice_get w.book.records pair.caller ≡ Some caller
  pub callee_there : slice_get w.book.records pair.callee ≡ Some callee
  pub caller_node : caller.node ≡ (side_of (other_of u.role) w.book).node
  pub callee_node : callee.node ≡ (side_of u.role w.book).node
  pub caller_epochs : HasEpochs (epochs_at (other_of u.role) u w.line) caller
  pub callee_epochs : HasEpochs (epochs_at u.role u w.line) callee

-- one use for each pair: in it the call of this pair was accepted, and in no other use was any call
pub record AreAccepted (w : World) (uses : List CallUse) : Type 0 where
  pub count : length uses ≡ length w.book.pairs
  pub accepted : (i : ℕ) (u : CallUse) → slice_get uses i ≡ Some u → was_accepted u w.line ≡ true
  pub pairs : (i : ℕ) (u : CallUse) (pair : PairValue) → slice_get uses i ≡ Some u
      → slice_get w.book.pairs i ≡ Some pair → IsOfAccepted w u pair
  pub once : (i j : ℕ) (u : CallUse) → slice_get uses i ≡ Some u → slice_get uses j ≡ Some u → i ≡ j
  pub all : (u : CallUse) → was_accepted u w.line ≡ true → (i : ℕ) × (slice_get uses i ≡ Some u)

-- so the pairs are the calls that were accepted, one for each
abbrev pub PairsAreAccepted : World → Type 0
PairsAreAccepted w = (uses : List CallUse) × AreAccepted w uses

abbrev pub AcceptedLaw : Type 0
AcceptedLaw = (dte_node dce_node channels : ℕ) (flow : Flow) (standing : Bool) → 1 ≤ channels → flow.window < modulus flow.numbering
    → (ms : List Move) → AreAllowed ms (start dte_node dce_node channels flow standing)
    → PairsAreAccepted (after_all ms (start dte_node dce_node channels flow standing))

-- ---- a run

-- a call that stands is cleared by the DTE before anything was sent
abbrev pub cleared : List Move
cleared = Happens (Here (Requests 1 (Clearing 0 0))) ∷ []

abbrev pub standing_use : CallUse
standing_use = record { role = Dce; session = 0; channel = 1; restart = 0; use_ = 0 }

-- the DCE had accepted it, and it is a pair then too
pub record AcceptedRun : Type 0 where
  pub allowed : AreAllowed cleared (start 0 1 1 (modulo_8 2) true)
  pub accepted : was_accepted standing_use (after_all cleared (start 0 1 1 (modulo_8 2) true)).line ≡ true
  pub caller : RecordValue
  pub there : slice_get (after_all cleared (start 0 1 1 (modulo_8 2) true)).book.records 0 ≡ Some caller
  pub over : caller.closed ≡ true
  pub took_nothing : TookNothing (taken_epochs caller)
  pub pairs : (after_all cleared (start 0 1 1 (modulo_8 2) true)).book.pairs ≡ record { caller = 0; callee = 1 } ∷ []
