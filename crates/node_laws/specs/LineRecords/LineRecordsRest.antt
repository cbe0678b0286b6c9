-- A line at rest, and an end after an event.
use Rattle.std.specs.Prelude.{◌≡◌, false}
use Rattle.packet_end.specs.PacketEnd.{PacketEnd, finished}
use Rattle.node_laws.specs.Lines.NodeLine.{Line}
use Rattle.node_laws.specs.Lines.LineRest.{AreAtRest}
use Rattle.call_records.specs.Book.{Book}
use Rattle.record_laws.specs.Books.BookRest.{NothingMissing}
use Rattle.node_laws.specs.LineRecords.Kept.{Setting, Kept}

-- where both ends are at rest, nothing is missing in the book: it has all that each end sent since the last reset of an
-- open call as taken at the other end
abbrev pub RestLaw : Type 0
RestLaw = (s : Setting) (b : Book) (l : Line) → Kept s b l → AreAtRest l.dte l.dce → NothingMissing b.records b.pairs

-- after an event an end asks for no relink
abbrev pub SettledLaw : Type 0
SettledLaw = (e : PacketEnd) → (finished e).layer.relink ≡ false
