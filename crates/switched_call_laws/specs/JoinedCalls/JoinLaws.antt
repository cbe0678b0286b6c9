-- What becomes of the calls that a switch joined, whatever its partners send.
use Rattle.std.specs.Prelude.{◌≡◌, ℕ, List, [], ◌++◌, map, slice_get, Some}
use Rattle.link_timers.specs.declared.role.Role.{Role}
use Rattle.link_timers.specs.declared.role.Role.TheVariants.{Dte, Dce}
use Rattle.link_timers.specs.declared.timers.TimerId.{TimerId}
use Rattle.lapb.specs.Machine.{Octets}
use Rattle.packet_laws.specs.Readable.{Every, AreOctets}
use Rattle.call_records.specs.Records.{RecordValue}
use Rattle.call_records.specs.Book.{Book}
use Rattle.call_records.specs.Writes.{Write, all_written}
use Rattle.address_routes.specs.Routes.{RouteMap}
use Rattle.joined_line.specs.declared.config.SwitchLineConfig.{SwitchLineConfig}
use Rattle.switch_lines.specs.Making.{IsConfig, made}
use Rattle.switch_joins.specs.declared.channels.NewJoin.{NewJoin}
use Rattle.switch_lines.specs.NewJoins.{new_joins}
use Rattle.switch_lines.specs.Switch.{Switch, on_frame, on_expiry, relink, elapse, restart}
use Rattle.switch_laws.specs.Steps.{Happening}
use Rattle.switch_laws.specs.Steps.Happening.{Brings, RunsOut, Relinks}
use Rattle.switch_laws.specs.EventSteps.{event_steps}
use Rattle.switched_call_laws.specs.SwitchRecords.Written.{Books}
use Rattle.switched_call_laws.specs.SwitchRecords.Kept.{AreKept, BeginWith}
use Rattle.switched_call_laws.specs.SwitchRecords.Relayed.{AreRelayed}
use Rattle.switched_call_laws.specs.SwitchRecords.Tied.{Histories, IsTied, happened, restarted, gone_out}
use Rattle.switched_call_laws.specs.JoinedCalls.Calls.{JoinedCall, AreCalls, calls_of_all}

-- those that an event on line n joins
abbrev pub calls_in : (line : ℕ) → Happening → Switch → Histories → List JoinedCall
calls_in n what s h = calls_of_all (event_steps s.routes n what s.lines) s.lines h.books

-- they are those of which a switch tells when it has taken a frame; an expiry joins none, and so does a link that is set
-- up anew
abbrev pub join_of_call : JoinedCall → NewJoin
join_of_call c = record { came_in = c.near; placed = c.far }

pub record NewJoinsLaw : Type 0 where
  pub frames : (n : ℕ) (octets : Octets) (s : Switch) (h : Histories) → AreOctets octets → IsTied s h
      → map join_of_call (calls_in n (Brings octets) s h) ≡ new_joins n octets s
  pub timers : (n : ℕ) (id : TimerId) (s : Switch) (h : Histories) → IsTied s h → calls_in n (RunsOut id) s h ≡ []
  pub relinks : (n : ℕ) (s : Switch) (h : Histories) → IsTied s h → calls_in n Relinks s h ≡ []

-- a switch as it is made has none
abbrev pub BeginCalls : Type 0
BeginCalls = (routes : RouteMap) (lines : List SwitchLineConfig) (books : Books) → IsConfig lines
    → AreCalls (made routes lines).lines books []

-- over each event the calls that were joined stand or are over, and those that it joins come behind them
abbrev pub FrameCalls : Type 0
FrameCalls = (n : ℕ) (octets : Octets) (s : Switch) (h : Histories) (cs : List JoinedCall) → AreOctets octets
    → BeginWith octets (h.partners n).up → IsTied s h → AreCalls s.lines h.books cs
    → AreCalls (on_frame n octets s).lines (happened n (Brings octets) s h).books (cs ++ calls_in n (Brings octets) s h)

abbrev pub TimerCalls : Type 0
TimerCalls = (n : ℕ) (id : TimerId) (s : Switch) (h : Histories) (cs : List JoinedCall) → IsTied s h
    → AreCalls s.lines h.books cs
    → AreCalls (on_expiry n id s).lines (happened n (RunsOut id) s h).books (cs ++ calls_in n (RunsOut id) s h)

abbrev pub RelinkCalls : Type 0
RelinkCalls = (n : ℕ) (s : Switch) (h : Histories) (cs : List JoinedCall) → IsTied s h → AreCalls s.lines h.books cs
    → AreCalls (relink n s).lines (happened n Relinks s h).books (cs ++ calls_in n Relinks s h)

abbrev pub ElapseCalls : Type 0
ElapseCalls = (ticks : ℕ) (s : Switch) (h : Histories) (cs : List JoinedCall) → IsTied s h
    → AreCalls s.lines h.books cs → AreCalls (elapse ticks s).lines h.books cs

-- a restart ends all calls
abbrev pub RestartCalls : Type 0
RestartCalls = (s : Switch) (h : Histories) (cs : List JoinedCall) → IsTied s h → AreCalls s.lines h.books cs
    → AreCalls (restart s).lines (restarted s h).books cs

-- the frames of a line go out
abbrev pub OutCalls : Type 0
OutCalls = (n : ℕ) (s : Switch) (h : Histories) (cs : List JoinedCall) → IsTied s h → AreCalls s.lines h.books cs
    → AreCalls (gone_out n s).lines h.books cs

-- what is written at an end of a line
pub record IsWritten (role : Role) (old new : Book) : Type 0 where
  pub writes : List Write
  pub is : new ≡ all_written role writes old

-- an event of the switch writes at its own ends alone
pub record WritesLaw : Type 0 where
  pub events : (n : ℕ) (what : Happening) (s : Switch) (h : Histories) (line : ℕ)
      → IsWritten Dce (h.books line) ((happened n what s h).books line)
  pub restarts : (s : Switch) (h : Histories) (line : ℕ) → IsWritten Dce (h.books line) ((restarted s h).books line)

-- nothing happens at the switch, and whatever is written at the other ends of its lines, each line is kept with it
pub record HappenedOutside (s : Switch) (h i : Histories) : Type 0 where
  pub legs : i.legs ≡ h.legs
  pub written : (line : ℕ) → IsWritten Dte (h.books line) (i.books line)
  pub kept : AreKept i.partners i.books s.lines

abbrev pub OutsideLaw : Type 0
OutsideLaw = (s : Switch) (h i : Histories) (cs : List JoinedCall) → HappenedOutside s h i → IsTied s h
    → AreCalls s.lines h.books cs → IsTied s i × AreCalls s.lines i.books cs

-- so of each call that was joined, whether it stands or is over, what the switch sent on each leg is what it took on
-- the other one
pub record HasRelayed (bs : Books) (c : JoinedCall) : Type 0 where
  pub near_record : RecordValue
  pub far_record : RecordValue
  pub near_there : slice_get (bs c.near.line).records c.came_in ≡ Some near_record
  pub far_there : slice_get (bs c.far.line).records c.placed ≡ Some far_record
  pub relayed : AreRelayed near_record far_record

abbrev pub RelayedCalls : Type 0
RelayedCalls = (s : Switch) (h : Histories) (cs : List JoinedCall) → IsTied s h → AreCalls s.lines h.books cs
    → Every (HasRelayed h.books) cs

pub record CallsLaw : Type 0 where
  pub begins : BeginCalls
  pub frames : FrameCalls
  pub timers : TimerCalls
  pub relinks : RelinkCalls
  pub elapses : ElapseCalls
  pub restarts : RestartCalls
  pub out : OutCalls
  pub outside : OutsideLaw
  pub writes : WritesLaw
  pub relayed : RelayedCalls
  pub new : NewJoinsLaw
