-- What records count and what the packet layers of their ends counted: epoch by epoch, of a call that is over too, the
-- packets and interrupts that passed, how many of the packets sent a P(R) covered, and how many of those taken were
-- released.
use Rattle.std.specs.Prelude.{◌≡◌, ℕ, ◌<◌, ◌≤◌, ◌⊎◌, Bool, List, [], ◌∷◌, ◌++◌, length, map, slice_get, Some}
use Rattle.link_timers.specs.declared.role.Role.{Role}
use Rattle.epochs.specs.Epoch.{SentEpoch, TakenEpoch, nothing_sent, nothing_taken}
use Rattle.data_transfer.specs.Flow.{modulus}
use Rattle.data_transfer.specs.declared.flow.Flow.{Flow}
use Rattle.packet_laws.specs.History.{Epoch, empty_epoch}
use Rattle.packet_laws.specs.LayerLine.{End}
use Rattle.call_records.specs.Records.{RecordValue}
use Rattle.call_records.specs.Book.{side_of, packet_of}
use Rattle.record_laws.specs.Books.Told.{World, Move, after_all, AreAllowed, start}
use Rattle.record_laws.specs.Books.Open.{layers_at}

-- an epoch of a record is this one of its end, with as many packets covered, which were all sent
pub record IsSentIn (e : Epoch) (s : SentEpoch) : Type 0 where
  pub packets : s.packets ≡ map packet_of e.sent
  pub interrupts : s.interrupts ≡ e.interrupts_sent
  pub covered : s.covered ≡ e.covered
  pub within : s.covered ≤ length s.packets

-- and with as many released, which were all taken
pub record IsTakenIn (e : Epoch) (t : TakenEpoch) : Type 0 where
  pub packets : t.packets ≡ map packet_of e.taken
  pub interrupts : t.interrupts ≡ e.interrupts_taken
  pub released : t.released ≡ e.released
  pub within : t.released ≤ length t.packets

-- the epochs of a record are these, in order, and they are all: in any further one nothing passed
pub record HasEpochs (epochs : ℕ → Epoch) (r : RecordValue) : Type 0 where
  pub sent : (g : ℕ) (s : SentEpoch) → slice_get (r.sent_before ++ r.sent ∷ []) g ≡ Some s → IsSentIn (epochs g) s
  pub taken : (g : ℕ) (t : TakenEpoch) → slice_get (r.taken_before ++ r.taken ∷ []) g ≡ Some t
      → IsTakenIn (epochs g) t
  pub all_sent : (g : ℕ) → length (r.sent_before ++ r.sent ∷ []) ≤ g → IsSentIn (epochs g) nothing_sent
  pub all_taken : (g : ℕ) → length (r.taken_before ++ r.taken ∷ []) ≤ g → IsTakenIn (epochs g) nothing_taken

-- they are those of its end in one use of a channel, from one clear to the next; a call that was placed and met one
-- that came in has no use of its own, and nothing passed on it
pub record IsOfUse (e : End) (r : RecordValue) : Type 0 where
  pub session : ℕ
  pub channel : ℕ
  pub restart : ℕ
  pub use_ : ℕ
  pub epochs : HasEpochs (λ g. (e.histories session channel).epochs restart use_ g) r

abbrev pub HasCounted : End → RecordValue → Type 0
HasCounted e r = IsOfUse e r ⊎ HasEpochs (λ g. empty_epoch) r

-- each record is of one of the line's two ends
pub record IsCountedAt (w : World) (r : RecordValue) : Type 0 where
  pub role : Role
  pub node : r.node ≡ (side_of role w.book).node
  pub counts : HasCounted (layers_at role w.line) r

abbrev pub CountsLaw : Type 0
CountsLaw = (dte_node dce_node channels : ℕ) (flow : Flow) (standing : Bool) → 1 ≤ channels → flow.window < modulus flow.numbering
    → (ms : List Move) → AreAllowed ms (start dte_node dce_node channels flow standing)
    → let w = after_all ms (start dte_node dce_node channels flow standing) in
    (i : ℕ) (r : RecordValue) → slice_get w.book.records i ≡ Some r → IsCountedAt w r
