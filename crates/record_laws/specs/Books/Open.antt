-- The records of open calls and the two packet layers: the last epochs of such a record are the present ones of its
-- channel.
use Rattle.std.specs.Prelude.{◌≡◌, ℕ, ◌<◌, ◌≤◌, Bool, false, List, map, slice_get, Some}
use Rattle.link_timers.specs.declared.role.Role.{Role}
use Rattle.link_timers.specs.declared.role.Role.TheVariants.{Dte, Dce}
use Rattle.link_timers.specs.Role.{other_of}
use Rattle.data_transfer.specs.Flow.{modulus}
use Rattle.data_transfer.specs.declared.flow.Flow.{Flow}
use Rattle.packet_laws.specs.History.{Epoch}
use Rattle.packet_laws.specs.LayerLine.{End, Line}
use Rattle.packet_laws.specs.LayerLineLaw.{epoch_now}
use Rattle.call_records.specs.Records.{RecordValue, PairValue}
use Rattle.call_records.specs.Book.{packet_of, slot_at}
use Rattle.record_laws.specs.Books.Told.{World, Move, after_all, AreAllowed, start}

-- ---- one end

abbrev pub layers_at : Role → Line → End
layers_at Dte v = v.me
layers_at Dce v = v.you

-- the last epochs of a record are what its end sent and took in this epoch, with as many packets covered and released
pub record HasLast (r : RecordValue) (e : Epoch) : Type 0 where
  pub sent : r.sent.packets ≡ map packet_of e.sent
  pub interrupts_sent : r.sent.interrupts ≡ e.interrupts_sent
  pub covered : r.sent.covered ≡ e.covered
  pub taken : r.taken.packets ≡ map packet_of e.taken
  pub interrupts_taken : r.taken.interrupts ≡ e.interrupts_taken
  pub released : r.taken.released ≡ e.released

-- the record is the present one of a channel at an end that is up in this session, and has the present epoch last
pub record IsInEpoch (w : World) (role : Role) (session channel number : ℕ) (r : RecordValue) : Type 0 where
  pub present : (slot_at role channel w.book).present ≡ Some number
  pub up : (layers_at role w.line).session ≡ Some session
  pub last : HasLast r (epoch_now ((layers_at role w.line).histories session channel))

abbrev pub PresentInEpoch : World → Type 0
PresentInEpoch w = (role : Role) (channel number : ℕ) (r : RecordValue)
    → (slot_at role channel w.book).present ≡ Some number → slice_get w.book.records number ≡ Some r
    → (session : ℕ) × IsInEpoch w role session channel number r

-- ---- a pair

-- two records are present on one channel, one at each end, in one session
pub record ShareChannel (w : World) (pair : PairValue) (caller callee : RecordValue) : Type 0 where
  pub role : Role
  pub session : ℕ
  pub channel : ℕ
  pub at_caller : IsInEpoch w role session channel pair.caller caller
  pub at_callee : IsInEpoch w (other_of role) session channel pair.callee callee

-- so it is where both records of a pair are open
abbrev pub OpenPairsShare : World → Type 0
OpenPairsShare w = (i : ℕ) (pair : PairValue) (caller callee : RecordValue) → slice_get w.book.pairs i ≡ Some pair
    → slice_get w.book.records pair.caller ≡ Some caller → slice_get w.book.records pair.callee ≡ Some callee
    → caller.closed ≡ false → callee.closed ≡ false → ShareChannel w pair caller callee

-- ---- the law

pub record OpenHold (w : World) : Type 0 where
  pub present : PresentInEpoch w
  pub pairs : OpenPairsShare w

abbrev pub OpenLaw : Type 0
OpenLaw = (dte_node dce_node channels : ℕ) (flow : Flow) (standing : Bool) → 1 ≤ channels → flow.window < modulus flow.numbering
    → (ms : List Move) → AreAllowed ms (start dte_node dce_node channels flow standing)
    → OpenHold (after_all ms (start dte_node dce_node channels flow standing))
