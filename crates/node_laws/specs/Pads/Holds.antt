-- What always holds of a PAD and of the book of its line.
use Rattle.std.specs.Prelude.{◌≡◌, ℕ, ◌<◌, true, false, List, [], length, slice_get, Some, None}
use Rattle.link_timers.specs.declared.role.Role.{Role}
use Rattle.link_timers.specs.Role.{other_of}
use Rattle.pad_editing.specs.Edited.{edit_of, limit}
use Rattle.packet_layer.specs.Layer.{channel_of}
use Rattle.record_laws.specs.Books.Headline as calls
use Rattle.call_records.specs.Records.{RecordValue}
use Rattle.call_records.specs.Book.{Book, side_of, slot_at}
use Rattle.pad_terminal.specs.Terminal.{has_call}
use Rattle.pad_ports.specs.Ports.{PortState, has_channel}
use Rattle.x25_pad.specs.Pad.{PadState}
use Rattle.node_laws.specs.Pads.Occasions.{Occasion}
use Rattle.node_laws.specs.Pads.Sending.{HasSaid}
use Rattle.record_laws.specs.Words.{HasTyped}

-- ---- the book

-- the node at an end of the line
abbrev pub node_at : Role → Book → ℕ
node_at role b = (side_of role b).node

-- the present call of each channel at an end has its record in the book, and that is a record of the end's node
abbrev pub HasItsRecords : Role → Book → Type 0
HasItsRecords role b =
    (channel n : ℕ) → (slot_at role channel b).present ≡ Some n → (r : RecordValue) × (slice_get b.records n ≡ Some r)
    × (r.node ≡ node_at role b)

-- no two channels of an end have the same
abbrev pub HasEachOnce : Role → Book → Type 0
HasEachOnce role b =
    (c d n : ℕ) → (slot_at role c b).present ≡ Some n → (slot_at role d b).present ≡ Some n → c ≡ d

-- of a channel and the text that is held for its call: the steps of the present call leave this text
abbrev pub IsLeft : Role → (channel : ℕ) → (text : List ℕ) → Book → Type 0
IsLeft role channel text b =
    (n : ℕ) (r : RecordValue) → (slot_at role channel b).present ≡ Some n → slice_get b.records n ≡ Some r
    → (edit_of r.steps).held ≡ text

-- the line has two nodes, and the present calls of each have their records; each record of the PAD's node has sent
-- what was typed; and the texts that are held for calls are what their steps leave
pub record BookHolds (role : Role) (Text : ℕ → List ℕ → Type 0) (b : Book) : Type 0 where
  pub apart : node_at role b ≡ node_at (other_of role) b → ⊥
  pub own : HasItsRecords role b
  pub far : HasItsRecords (other_of role) b
  pub once : HasEachOnce role b
  pub sent : (n : ℕ) (r : RecordValue) → slice_get b.records n ≡ Some r → r.node ≡ node_at role b → HasTyped r
  pub left : (channel : ℕ) (text : List ℕ) → Text channel text → IsLeft role channel text b

-- ---- the terminals

-- a terminal has a call in its mode exactly where the port has one, and without it holds no text; it never holds a
-- block
pub record IsPort (q : PortState) : Type 0 where
  pub free : q.call ≡ None → has_call q.terminal.mode ≡ false
  pub bare : has_call q.terminal.mode ≡ false → q.call ≡ None
  pub empty : has_call q.terminal.mode ≡ false → q.terminal.held ≡ []
  pub short : length q.terminal.held < limit

-- the port of this number has its call on this channel
abbrev pub IsOn : List PortState → (number channel : ℕ) → PortState → Type 0
IsOn ports number channel q = (slice_get ports number ≡ Some q) × (has_channel q.call channel ≡ true)

-- a terminal with its call on this channel holds this text
abbrev pub TextOf : List PortState → (channel : ℕ) → List ℕ → Type 0
TextOf ports channel text =
    (number : ℕ) × (q : PortState) × (slice_get ports number ≡ Some q) × (has_channel q.call channel ≡ true)
    × (q.terminal.held ≡ text)

-- ---- a PAD between two events

pub record PadTypes (role : Role) (p : PadState) (b : Book) : Type 0 where
  -- a packet of the line has at most 128 octets
  pub size : p.line.end.layer.flow.size ≡ 128
  pub book : BookHolds role (TextOf p.ports) b
  -- nothing is unread
  pub read : p.line.end.notes ≡ []
  pub unread : p.line.end.layer.notes ≡ []
  pub ports : (number : ℕ) (q : PortState) → slice_get p.ports number ≡ Some q → IsPort q
  -- each call is of one terminal, and the packet layer has it
  pub alone : (i j channel : ℕ) (q r : PortState) → IsOn p.ports i channel q → IsOn p.ports j channel r → i ≡ j
  pub calls : (number channel : ℕ) (q : PortState) → IsOn p.ports number channel q
      → calls.has_call (channel_of p.line.end.layer channel) ≡ true

-- what each record of the PAD's node said of itself, by its number, is what these occasions ask for; a record that is
-- not there yet has none
pub record HaveSaid (occasions : ℕ → List Occasion) (role : Role) (b : Book) : Type 0 where
  pub said : (n : ℕ) (r : RecordValue) → slice_get b.records n ≡ Some r → r.node ≡ node_at role b
      → HasSaid (occasions n) r
  pub none : (n : ℕ) → slice_get b.records n ≡ None → occasions n ≡ []
