-- What holds of the books of a switch's lines, whatever its partners send.
use Rattle.std.specs.Prelude.{◌≡◌, ℕ, false, List, [], Some}
use Rattle.link_timers.specs.declared.role.Role.{Role}
use Rattle.link_timers.specs.Role.{other_of}
use Rattle.link_timers.specs.declared.timers.TimerId.{TimerId}
use Rattle.data_transfer.specs.declared.flow.Flow.{Flow}
use Rattle.packet_layer.specs.Layer.{Layer, made}
use Rattle.packet_laws.specs.Readable.{Every, AreOctets}
use Rattle.call_records.specs.Records.{RecordValue}
use Rattle.call_records.specs.Book.{Book, made_book}
use Rattle.call_records.specs.Writes.{Write, all_written}
use Rattle.switch_joins.specs.declared.channels.SwitchChannel.{SwitchChannel}
use Rattle.switch_joins.specs.Joins.{Joined}
use Rattle.switch_lines.specs.Lines.{SwitchLine, joined_at}
use Rattle.switch_lines.specs.Switch.{Switch, on_frame, on_expiry, relink, restart, elapse}
use Rattle.switch_laws.specs.Leg.{Leg}
use Rattle.switch_laws.specs.World.{World, IsWorld, Act, MayHappen, layers_of, after_acts, world_after_all, closed}
use Rattle.switch_laws.specs.Steps.Happening.{Brings, RunsOut, Relinks}
use Rattle.switch_laws.specs.EventSteps.{event_acts}
use Rattle.switch_laws.specs.Joined.{IsSwitch, Reached}
use Rattle.switched_call_laws.specs.SwitchRecords.Records.{AreRecords}
use Rattle.switched_call_laws.specs.SwitchRecords.Written.{Books, writes, act_writes, books_after_all, HaveRecords, restarted_books}
use Rattle.switched_call_laws.specs.SwitchRecords.Rests.{Rests}
use Rattle.switched_call_laws.specs.SwitchRecords.Joined.{JoinsRecords}

-- ---- the making

-- on a line without a standing call no channel has a record, at either side of the book, whatever the role of the layer
abbrev pub MadeLaw : Type 0
MadeLaw = (side own : Role) (channels : ℕ) (flow : Flow) (dte_node dce_node : ℕ) (legs : ℕ → Leg)
    → AreRecords side (made own channels flow false) legs (made_book dte_node dce_node channels false)

-- ---- acts

-- what an act writes is a list of writes
abbrev pub WritesLaw : Type 0
WritesLaw = (role : Role) (act : Act) (l : Layer) (b : Book)
    → writes role act l b ≡ all_written role (act_writes act l) b

-- acts that move the legs move the books, so that the present records are the legs
abbrev pub ActsLaw : Type 0
ActsLaw = (acts : List Act) (ys : List Layer) (w : World) (bs : Books) → Every MayHappen acts → IsWorld ys w
    → HaveRecords ys w bs
    → HaveRecords (after_acts acts ys) (world_after_all acts ys w) (books_after_all acts ys bs)

-- whatever is written at the other end of a line leaves the records of this end as they are
abbrev pub PartnerLaw : Type 0
PartnerLaw = (role : Role) (l : Layer) (legs : ℕ → Leg) (written : List Write) (b : Book) → AreRecords role l legs b
    → AreRecords role l legs (all_written (other_of role) written b)

-- a record that is of no present call stays as it is, whatever is written at an end of its line
abbrev pub RestLaw : Type 0
RestLaw = (role : Role) (written : List Write) (n : ℕ) (r : RecordValue) (b : Book) → Rests n r b
    → Rests n r (all_written role written b)

abbrev pub RestsLaw : Type 0
RestsLaw = (acts : List Act) (ys : List Layer) (bs : Books) (line n : ℕ) (r : RecordValue) → Rests n r (bs line)
    → Rests n r (books_after_all acts ys bs line)

-- ---- joins

abbrev pub JoinsLaw : Type 0
JoinsLaw = (ls : List SwitchLine) (w : World) (bs : Books) → IsSwitch ls w → HaveRecords (layers_of ls) w bs
    → (p : SwitchChannel) (j : Joined) → joined_at ls p ≡ Some j → JoinsRecords bs p j.other

-- ---- events of a switch

-- these acts move the switch, its legs and its books to a switch whose joins hold and whose present records are its
-- legs
pub record Goes (acts : List Act) (ls : List SwitchLine) (w : World) (bs : Books) (ms : List SwitchLine) : Type 0 where
  pub world : World
  pub reached : Reached acts ls w ms world
  pub right : IsSwitch ms world
  pub records : HaveRecords (layers_of ms) world (books_after_all acts (layers_of ls) bs)

abbrev pub FrameLaw : Type 0
FrameLaw = (n : ℕ) (octets : List ℕ) (s : Switch) (w : World) (bs : Books) → AreOctets octets
    → IsSwitch s.lines w → HaveRecords (layers_of s.lines) w bs
    → Goes (event_acts s.routes n (Brings octets) s.lines) s.lines w bs (on_frame n octets s).lines

abbrev pub TimerLaw : Type 0
TimerLaw = (n : ℕ) (id : TimerId) (s : Switch) (w : World) (bs : Books) → IsSwitch s.lines w
    → HaveRecords (layers_of s.lines) w bs
    → Goes (event_acts s.routes n (RunsOut id) s.lines) s.lines w bs (on_expiry n id s).lines

abbrev pub RelinkLaw : Type 0
RelinkLaw = (n : ℕ) (s : Switch) (w : World) (bs : Books) → IsSwitch s.lines w → HaveRecords (layers_of s.lines) w bs
    → Goes (event_acts s.routes n Relinks s.lines) s.lines w bs (relink n s).lines

abbrev pub ElapseLaw : Type 0
ElapseLaw = (ticks : ℕ) (s : Switch) (w : World) (bs : Books) → IsSwitch s.lines w
    → HaveRecords (layers_of s.lines) w bs → Goes [] s.lines w bs (elapse ticks s).lines

-- a restart of the switch closes all calls
abbrev pub RestartLaw : Type 0
RestartLaw = (s : Switch) (w : World) (bs : Books) → HaveRecords (layers_of s.lines) w bs
    → HaveRecords (layers_of (restart s).lines) (λ x. closed (w x)) (restarted_books (layers_of s.lines) bs)
