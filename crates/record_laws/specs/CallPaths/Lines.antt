-- The whole register and the books of the lines: where each record of a line's book comes from, in its numbers, and in
-- those of the whole register.
use Rattle.std.specs.Prelude.{◌≡◌, ℕ, ◌<◌, ◌≤◌, Bool, if◌then◌else◌, List, [], ◌∷◌, length, map, slice_get, set}
use Rattle.std.specs.Prelude.{Option, Some}
use Rattle.link_timers.specs.declared.role.Role.{Role}
use Rattle.link_timers.specs.declared.role.Role.TheVariants.{Dte, Dce}
use Rattle.data_transfer.specs.Flow.{modulus}
use Rattle.data_transfer.specs.declared.flow.Flow.{Flow}
use Rattle.packet_layer.specs.Layer.{channel_given, request_refusal, front_on}
use Rattle.packet_laws.specs.LayerLine.{Line, Event, turned}
use Rattle.packet_laws.specs.LayerLine.Event.{Calls, Requests}
use Rattle.packet_laws.specs.LayerLine.Happening.{Here, There}
use Rattle.call_records.specs.Records.{RecordValue}
use Rattle.call_records.specs.Book.{Book, new_book}
use Rattle.call_records.specs.Writes.{Write, all_written}
use Rattle.call_records.specs.Writes.Write.{Told, Placed, Asked, Edited}
use Rattle.call_records.specs.Register.{Register, LinePlan, book_at, all_written_at}
use Rattle.record_laws.specs.Books.Told.{Move, written, notes_of, after_move, after_all, AreAllowed, start}
use Rattle.record_laws.specs.Books.Told.Move.{Happens, Edits}
use Rattle.record_laws.specs.Books.Told as told
use Rattle.record_laws.specs.Books.Headline.{BookHolds}
use Rattle.record_laws.specs.Books.Headline as book
use Rattle.record_laws.specs.Registers.Seen.{positions, IsNumbered}
use Rattle.record_laws.specs.Registers.Seen as line
use Rattle.record_laws.specs.CallPaths.World.{Origin, placing, coming, World, all_traced, free_register, without_address}
use Rattle.record_laws.specs.CallPaths.Seen.{CameFrom}
use Rattle.record_laws.specs.CallPaths.Parts.{CallsHold}

-- the origin of a record in the line's numbers, and in those of the whole register
pub record OriginIsSeen (numbers : List ℕ) (own whole : List Origin) (i n : ℕ) : Type 0 where
  pub line : ℕ
  pub role : Role
  pub placed_here : Bool
  pub own_caller : Option ℕ
  pub whole_caller : Option ℕ
  pub own_there : slice_get own i
      ≡ Some (record { line = line; role = role; placed_here = placed_here; caller = own_caller })
  pub whole_there : slice_get whole n
      ≡ Some (record { line = line; role = role; placed_here = placed_here; caller = whole_caller })
  pub caller : IsNumbered numbers own_caller whole_caller

-- `owners` are the lines of the whole register's records
pub record OriginsSeen (line : ℕ) (owners : List ℕ) (own whole : List Origin) : Type 0 where
  pub owners_are : owners ≡ map (λ o. o.line) whole
  pub count : length own ≡ length (positions line owners)
  pub origins : (i n : ℕ) → slice_get (positions line owners) i ≡ Some n
      → OriginIsSeen (positions line owners) own whole i n

-- each origin has the caller that the record of this place has
abbrev pub AreRecorded : List Origin → List RecordValue → Type 0
AreRecorded origins records = map (λ o. o.caller) origins ≡ map (λ r. r.caller) records

pub record LinesSeen (g : Register) (origins : List Origin) (books : List Book) (traces : List (List Origin))
    : Type 0 where
  pub seen : line.Seen g books
  pub owned : length origins ≡ length g.records
  pub count : length traces ≡ length books
  pub lines : (j : ℕ) (own : List Origin) → slice_get traces j ≡ Some own → OriginsSeen j seen.owners own origins
  pub recorded : (j : ℕ) (b : Book) (own : List Origin) → slice_get books j ≡ Some b → slice_get traces j ≡ Some own
      → AreRecorded own b.records

-- of a line's book: each call that came in holds as a pair does, accepted or not, and it came in once
pub record BookCallsHold (line_book : Book) (origins : List Origin) : Type 0 where
  pub holds : BookHolds line_book
  pub came : (a x : ℕ) → CameFrom origins a x → book.PairHolds line_book (record { caller = x; callee = a })
  pub once : (a b x : ℕ) → CameFrom origins a x → CameFrom origins b x → a ≡ b

-- ---- laws

-- what is written at a line leaves the whole register with what the books of all lines have
abbrev pub TraceLaw : Type 0
TraceLaw = (g : Register) (origins : List Origin) (books : List Book) (traces : List (List Origin))
    (line : ℕ) (b : Book) (own : List Origin) (role : Role) (writes : List Write)
    → slice_get books line ≡ Some b → slice_get traces line ≡ Some own → LinesSeen g origins books traces
    → LinesSeen (all_written_at line role writes g) (all_traced line role writes (book_at line g) origins)
    (set books line (all_written role writes b)) (set traces line (all_traced line role writes b own))

-- where the calls of each line hold, so do those of the whole register
abbrev pub LinesLaw : Type 0
LinesLaw = (w : World) (books : List Book) (traces : List (List Origin)) → LinesSeen w.whole w.origins books traces
    → ((j : ℕ) (b : Book) (own : List Origin) → slice_get books j ≡ Some b → slice_get traces j ≡ Some own
    → BookCallsHold b own)
    → CallsHold w

-- free lines, of which nothing is known yet
abbrev pub free_book : LinePlan → Book
free_book plan = new_book plan.dte_node plan.dce_node plan.channels

abbrev pub MadeLinesLaw : Type 0
MadeLinesLaw = (plans : List LinePlan)
    → LinesSeen (free_register (map without_address plans)) [] (map free_book plans) (map (λ plan. []) plans)

-- ---- the calls of a line's book

-- what an event at an end of a line writes, at `me`
abbrev pub writes_of : Event → Line → List Write
writes_of (Calls parts) w = Placed (channel_given w.me.layer w.me.layer.phase) parts ∷ []
writes_of (Requests channel r) w =
    Asked (request_refusal w.me.layer channel r) channel r (front_on w.me.layer channel) ∷ []
writes_of event w = Told (notes_of event w) ∷ []

abbrev pub WrittenLaw : Type 0
WrittenLaw = (role : Role) (event : Event) (w : Line) (b : Book)
    → all_written role (writes_of event w) b ≡ written role event w b

-- where the records come from that it adds
abbrev pub traced_by : (line : ℕ) → Move → told.World → List Origin → List Origin
traced_by line (Happens (Here event)) v origins = all_traced line Dte (writes_of event v.line) v.book origins
traced_by line (Happens (There event)) v origins = all_traced line Dce (writes_of event (turned v.line)) v.book origins
traced_by line (Edits role channel step) v origins = all_traced line role (Edited channel step ∷ []) v.book origins

abbrev pub traced_by_all : (line : ℕ) → List Move → told.World → List Origin → List Origin
traced_by_all line [] v origins = origins
traced_by_all line (m ∷ ms) v origins = traced_by_all line ms (after_move m v) (traced_by line m v origins)

-- at the making: of a call that stands, the DTE counts as the end that placed it
abbrev pub made_origins : (line : ℕ) → (standing : Bool) → List Origin
made_origins line standing =
    if standing then placing line Dte ∷ coming line Dce (Some 0) ∷ [] else []

-- whatever happens on a line whose sessions come in rising order, its calls hold
abbrev pub BookCallsLaw : Type 0
BookCallsLaw = (line dte_node dce_node channels : ℕ) (flow : Flow) (standing : Bool) → 1 ≤ channels → flow.window < modulus flow.numbering
    → (ms : List Move) → AreAllowed ms (start dte_node dce_node channels flow standing)
    → BookCallsHold (after_all ms (start dte_node dce_node channels flow standing)).book
    (traced_by_all line ms (start dte_node dce_node channels flow standing) (made_origins line standing))

-- and so they hold of any origins with the callers that its records have
abbrev pub RecordedLaw : Type 0
RecordedLaw = (dte_node dce_node channels : ℕ) (flow : Flow) (standing : Bool) → 1 ≤ channels → flow.window < modulus flow.numbering
    → (ms : List Move) → AreAllowed ms (start dte_node dce_node channels flow standing)
    → (own : List Origin)
    → AreRecorded own (after_all ms (start dte_node dce_node channels flow standing)).book.records
    → BookCallsHold (after_all ms (start dte_node dce_node channels flow standing)).book own
