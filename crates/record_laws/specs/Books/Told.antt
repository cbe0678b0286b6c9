-- A line and its book, side by side: whatever happens at an end's packet layer is written into the book.
use Rattle.std.specs.Prelude.{ℕ, ◌≤◌, Bool, if◌then◌else◌, List, [], ◌∷◌, ◌++◌, Option, Some, None}
use Rattle.link_timers.specs.declared.role.Role.{Role}
use Rattle.link_timers.specs.declared.role.Role.TheVariants.{Dte, Dce}
use Rattle.link_timers.specs.Role.{other_of}
use Rattle.data_transfer.specs.declared.flow.Flow.{Flow}
use Rattle.pad_editing.specs.Edited.{Step}
use Rattle.data_transfer.specs.Packets.{Packet, Note}
use Rattle.data_transfer.specs.Packets.Note.{Incoming}
use Rattle.data_transfer.specs.Packets.Received.{Whole}
use Rattle.packet_layer.specs.Layer.{Layer, runs, link_up, link_down, on_packet, on_timer, channel_given}
use Rattle.packet_layer.specs.Layer.{request_refusal, front_on}
use Rattle.packet_laws.specs.LayerLine.{Line, Event, Happening, turned, start_line, may_begin, next_of_session, after_one}
use Rattle.packet_laws.specs.LayerLine.Event.{Up, Down, Calls, Requests, Expires, Arrives}
use Rattle.packet_laws.specs.LayerLine.Happening.{Here, There}
use Rattle.call_records.specs.Book.{Book, slot_at, edits, told, all_told, made_book}
pub use Rattle.call_records.specs.Carried.{carried, unless_refused, placed_on}

-- ---- what an end's packet layer tells by an event

abbrev pub notes_by_packet : Layer → Option Packet → List Note
notes_by_packet l None = []
notes_by_packet l (Some p) = (on_packet l (Whole p)).notes

abbrev pub notes_in : Option ℕ → Line → List Note
notes_in None w = []
notes_in (Some s) w = notes_by_packet w.me.layer (next_of_session w s)

-- at `me`
abbrev pub notes_of : Event → Line → List Note
notes_of (Up s) w = if may_begin s w then (link_up w.me.layer).notes else []
notes_of Down w = (link_down w.me.layer).notes
notes_of (Expires t) w = if runs w.me.layer t then (on_timer w.me.layer t).notes else []
notes_of Arrives w = notes_in w.me.session w
notes_of _ w = []

-- ---- what is written

-- at `me`, which has this role
abbrev pub written : Role → Event → Line → Book → Book
written role (Calls parts) w b = placed_on role (channel_given w.me.layer w.me.layer.phase) parts b
written role (Requests channel r) w b =
    unless_refused (request_refusal w.me.layer channel r) (carried role channel r (front_on w.me.layer channel) b) b
written role event w b = all_told role (notes_of event w) b

-- ---- the two together

-- and for each end the last session in which it came up
pub record World : Type 0 where
  pub line : Line
  pub book : Book
  pub top_me : ℕ
  pub top_you : ℕ

-- an event at an end of the line, or a step of editing at a PAD
pub data Move : Type 0 where
  Happens : Happening → Move
  Edits : Role → (channel : ℕ) → Step → Move

abbrev pub top_after : Event → Line → ℕ → ℕ
top_after (Up s) w top = if may_begin s w then s else top
top_after event w top = top

-- the DTE is `me`
abbrev pub after_move : Move → World → World
after_move (Happens (Here event)) v = record {
  line = after_one (Here event) v.line;
  book = written Dte event v.line v.book;
  top_me = top_after event v.line v.top_me;
  top_you = v.top_you;
}
after_move (Happens (There event)) v = record {
  line = after_one (There event) v.line;
  book = written Dce event (turned v.line) v.book;
  top_me = v.top_me;
  top_you = top_after event (turned v.line) v.top_you;
}
after_move (Edits role channel step) v = record v { book = edits role channel step v.book }

abbrev pub after_all : List Move → World → World
after_all [] v = v
after_all (m ∷ ms) v = after_all ms (after_move m v)

-- ---- where calls come from
-- of each record of the book, in order: the record of the end that placed the call, where the call came in

abbrev pub came_by : Role → Note → Book → List (Option ℕ) → List (Option ℕ)
came_by role (Incoming channel parts) b callers = callers ++ (slot_at (other_of role) channel b).placed ∷ []
came_by role note b callers = callers

abbrev pub all_came_by : Role → List Note → Book → List (Option ℕ) → List (Option ℕ)
all_came_by role [] b callers = callers
all_came_by role (note ∷ notes) b callers = all_came_by role notes (told role note b) (came_by role note b callers)

abbrev pub placed_by : Option ℕ → List (Option ℕ) → List (Option ℕ)
placed_by None callers = callers
placed_by (Some channel) callers = callers ++ None ∷ []

-- at `me`, which has this role
abbrev pub callers_by : Role → Event → Line → Book → List (Option ℕ) → List (Option ℕ)
callers_by role (Calls parts) w b callers = placed_by (channel_given w.me.layer w.me.layer.phase) callers
callers_by role (Requests channel r) w b callers = callers
callers_by role event w b callers = all_came_by role (notes_of event w) b callers

abbrev pub callers_after : Move → World → List (Option ℕ) → List (Option ℕ)
callers_after (Happens (Here event)) v callers = callers_by Dte event v.line v.book callers
callers_after (Happens (There event)) v callers = callers_by Dce event (turned v.line) v.book callers
callers_after (Edits role channel step) v callers = callers

abbrev pub all_callers : List Move → World → List (Option ℕ) → List (Option ℕ)
all_callers [] v callers = callers
all_callers (m ∷ ms) v callers = all_callers ms (after_move m v) (callers_after m v callers)

-- at the making: of a call that stands, the DTE counts as the end that placed it
abbrev pub made_callers : Bool → List (Option ℕ)
made_callers standing = if standing then None ∷ Some 0 ∷ [] else []

-- ---- what the links promise
-- of sessions: they come in rising order, and a packet that arrives in a session comes from an end that was up in none
-- later

abbrev pub InOrder : Event → Option ℕ → (top other_top : ℕ) → Type 0
InOrder (Up s) session top other_top = top ≤ s
InOrder Arrives (Some s) top other_top = other_top ≤ s
InOrder _ session top other_top = Unit {0}

abbrev pub IsAllowed : Move → World → Type 0
IsAllowed (Happens (Here event)) v = InOrder event v.line.me.session v.top_me v.top_you
IsAllowed (Happens (There event)) v = InOrder event v.line.you.session v.top_you v.top_me
IsAllowed (Edits role channel step) v = Unit {0}

abbrev pub AreAllowed : List Move → World → Type 0
AreAllowed [] v = Unit {0}
AreAllowed (m ∷ ms) v = IsAllowed m v × AreAllowed ms (after_move m v)

-- ---- the making

abbrev pub start : (dte_node dce_node channels : ℕ) (flow : Flow) → (standing : Bool) → World
start dte_node dce_node channels flow standing = record {
  line = start_line channels flow standing;
  book = made_book dte_node dce_node channels standing;
  top_me = 0;
  top_you = 0;
}
