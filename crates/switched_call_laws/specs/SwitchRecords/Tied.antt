-- One list of acts moves the legs of a switch's channels, the books of its lines, and what is at the other ends of
-- them. So what is promised of joins and of lines is promised of the same epochs.
use Rattle.std.specs.Prelude.{◌≡◌, ℕ, Bool, List, slice_get, Some}
use Rattle.link_timers.specs.declared.timers.TimerId.{TimerId}
use Rattle.lapb.specs.Machine.{Octets}
use Rattle.address_routes.specs.Routes.{RouteMap}
use Rattle.joined_line.specs.declared.config.SwitchLineConfig.{SwitchLineConfig}
use Rattle.switch_joins.specs.declared.channels.SwitchChannel.{SwitchChannel}
use Rattle.switch_joins.specs.Joins.{Joined}
use Rattle.switch_lines.specs.Lines.{SwitchLine, joined_at, changed}
use Rattle.switch_lines.specs.Making.{IsConfig, made}
use Rattle.switch_lines.specs.Switch.{Switch, on_frame, on_expiry, relink, elapse, restart}
use Rattle.packet_laws.specs.Readable.{AreOctets}
use Rattle.switch_laws.specs.World.{World, layers_of, world_after_all, closed}
use Rattle.switch_laws.specs.Events.{SwitchHolds, new_legs}
use Rattle.switch_laws.specs.Steps.{Happening}
use Rattle.switch_laws.specs.Steps.Happening.{Brings, RunsOut, Relinks}
use Rattle.switch_laws.specs.Steps.Step.{Happens}
use Rattle.switch_laws.specs.EventSteps.{event_acts}
use Rattle.switched_call_laws.specs.SwitchRecords.Written.{Books, books_after_all, restarted_books, HaveRecords}
use Rattle.switched_call_laws.specs.SwitchRecords.Joined.{JoinsRecords}
use Rattle.switched_call_laws.specs.SwitchRecords.Kept.{Partners, AreKept, partners_after, BeginWith, HaveAddresses}
use Rattle.switched_call_laws.specs.SwitchRecords.Kept.{restarted_partner, with_sent, all_frames_out}

-- what nobody stores of a switch
pub record Histories : Type 0 where
  pub legs : World
  pub books : Books
  pub partners : Partners

-- all joins hold, each line is kept with its book, and the present records of the books are the legs
pub record IsTied (s : Switch) (h : Histories) : Type 0 where
  pub holds : SwitchHolds s h.legs
  pub kept : AreKept h.partners h.books s.lines
  pub records : HaveRecords (layers_of s.lines) h.legs h.books
  pub addresses : HaveAddresses s.lines

-- ---- what an event makes of them: its acts move the legs and write the books

abbrev pub happened : (line : ℕ) → Happening → Switch → Histories → Histories
happened n what s h = record {
  legs = world_after_all (event_acts s.routes n what s.lines) (layers_of s.lines) h.legs;
  books = books_after_all (event_acts s.routes n what s.lines) (layers_of s.lines) h.books;
  partners = partners_after (Happens n what) h.partners;
}

abbrev pub restarted : Switch → Histories → Histories
restarted s h = record {
  legs = λ x. closed (h.legs x);
  books = restarted_books (layers_of s.lines) h.books;
  partners = λ n. restarted_partner (h.partners n);
}

-- the frames of a line go out
abbrev pub gone_out : (line : ℕ) → Switch → Switch
gone_out n s = record s { lines = changed n all_frames_out s.lines }

abbrev pub sent_out : (line : ℕ) → SwitchLine → (kept : List Bool) → Histories → Histories
sent_out n l kept h = record h { partners = with_sent n l kept h.partners }

-- ---- the law

abbrev pub BeginTied : Type 0
BeginTied = (routes : RouteMap) (lines : List SwitchLineConfig) (books : Books) (partners : Partners) → IsConfig lines
    → HaveAddresses (made routes lines).lines → AreKept partners books (made routes lines).lines
    → HaveRecords (layers_of (made routes lines).lines) (new_legs lines) books
    → IsTied (made routes lines) (record { legs = new_legs lines; books = books; partners = partners })

abbrev pub FrameTied : Type 0
FrameTied = (n : ℕ) (octets : Octets) (s : Switch) (h : Histories) → AreOctets octets
    → BeginWith octets (h.partners n).up → IsTied s h → IsTied (on_frame n octets s) (happened n (Brings octets) s h)

abbrev pub TimerTied : Type 0
TimerTied = (n : ℕ) (id : TimerId) (s : Switch) (h : Histories) → IsTied s h
    → IsTied (on_expiry n id s) (happened n (RunsOut id) s h)

abbrev pub RelinkTied : Type 0
RelinkTied = (n : ℕ) (s : Switch) (h : Histories) → IsTied s h → IsTied (relink n s) (happened n Relinks s h)

abbrev pub ElapseTied : Type 0
ElapseTied = (ticks : ℕ) (s : Switch) (h : Histories) → IsTied s h → IsTied (elapse ticks s) h

abbrev pub RestartTied : Type 0
RestartTied = (s : Switch) (h : Histories) → IsTied s h → IsTied (restart s) (restarted s h)

abbrev pub OutTied : Type 0
OutTied = (n : ℕ) (l : SwitchLine) (kept : List Bool) (s : Switch) (h : Histories) → slice_get s.lines n ≡ Some l
    → IsTied s h → IsTied (gone_out n s) (sent_out n l kept h)

-- so the present records of the two legs of each join are those of which the relay's clause holds
abbrev pub JoinsTied : Type 0
JoinsTied = (s : Switch) (h : Histories) (p : SwitchChannel) (j : Joined) → IsTied s h → joined_at s.lines p ≡ Some j
    → JoinsRecords h.books p j.other

pub record TiedLaw : Type 0 where
  pub begins : BeginTied
  pub frames : FrameTied
  pub timers : TimerTied
  pub relinks : RelinkTied
  pub elapses : ElapseTied
  pub restarts : RestartTied
  pub out : OutTied
  pub joins : JoinsTied
