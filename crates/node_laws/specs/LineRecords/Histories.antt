-- What a network keeps of a line and no node stores: one list of moves leads to both packet layers and to the book. So
-- what the records of the line count, and which calls are pairs, is what these moves say.
use Rattle.std.specs.Prelude.{◌≡◌, ℕ, List, slice_get, Some}
use Rattle.link_timers.specs.declared.role.Role.{Role}
use Rattle.packet_layer.specs.Layer.{unread}
use Rattle.node_laws.specs.Lines.NodeLine.{Line}
use Rattle.call_records.specs.Records.{RecordValue}
use Rattle.call_records.specs.Book.{Book}
use Rattle.record_laws.specs.Books.Told.{World, Move, after_all, AreAllowed}
use Rattle.record_laws.specs.Books.Open.{layers_at}
use Rattle.record_laws.specs.Books.Counts.{IsCountedAt}
use Rattle.record_laws.specs.Books.AcceptedCalls.{PairsAreAccepted}
use Rattle.node_laws.specs.LineRecords.Kept.{Setting, IsSetting, Kept, beginning, end_at}

-- how the ends of a line are made, and what happens at its packet layers from the making on
pub record LineHistory : Type 0 where
  pub setting : Setting
  pub moves : List Move

-- to which packet layers and to which book it leads
abbrev pub led : LineHistory → World
led h = after_all h.moves (beginning h.setting)

-- its links allow it
pub record IsPossible (h : LineHistory) : Type 0 where
  pub setting : IsSetting h.setting
  pub allowed : AreAllowed h.moves (beginning h.setting)

-- it leads to the layers of this line, once their notes are read, and to this book; each record, open or closed, has
-- the epochs that the layer of its end counted in it, and the pairs are the calls that were accepted in it
pub record IsHistory (h : LineHistory) (b : Book) (l : Line) : Type 0 where
  pub possible : IsPossible h
  pub layers : (role : Role) → unread (layers_at role (led h).line).layer ≡ (end_at role l).layer
  pub book : (led h).book ≡ b
  pub counts : (i : ℕ) (r : RecordValue) → slice_get b.records i ≡ Some r → IsCountedAt (led h) r
  pub accepted : PairsAreAccepted (led h)

-- each line of which all is kept has one
abbrev pub HistoryLaw : Type 0
HistoryLaw = (s : Setting) (b : Book) (l : Line) → Kept s b l → (h : LineHistory) × IsHistory h b l
