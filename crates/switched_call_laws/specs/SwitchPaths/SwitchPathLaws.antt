-- What holds of the register of a network of switches, whatever happens.
use Rattle.std.specs.Prelude.{◌≡◌, ℕ, ◌<◌, Bool, ◌==◌, if◌then◌else◌, true, false, List, [], ◌++◌, length, map, set}
use Rattle.std.specs.Prelude.{slice_get, Some}
use Rattle.link_timers.specs.declared.role.Role.{Role}
use Rattle.link_timers.specs.Role.{other_of}
use Rattle.link_timers.specs.declared.timers.TimerId.{TimerId}
use Rattle.lapb.specs.Machine.{Octets}
use Rattle.call_records.specs.Records.{RecordValue}
use Rattle.call_records.specs.Book.{Book}
use Rattle.call_records.specs.Writes.{Write, all_written}
use Rattle.call_records.specs.Register.{Register, LinePlan, book_at}
use Rattle.record_laws.specs.Books.Headline.{HasCallee}
use Rattle.record_laws.specs.Books.BookRest.{NothingMissing}
use Rattle.node_laws.specs.Lines.NodeLine.{Line, Restarts, other_after}
use Rattle.node_laws.specs.Lines.LineRest.{AreAtRest}
use Rattle.node_laws.specs.LineRecords.Kept.{Setting, Kept, end_at}
use Rattle.switch_lines.specs.Lines.{SwitchChannel, Joined, SwitchLine, joined_at}
use Rattle.switch_lines.specs.Switch.{on_frame, on_expiry, relink, elapse, restart}
use Rattle.packet_laws.specs.Readable.{AreOctets}
use Rattle.switch_laws.specs.Steps.Happening.{Brings, RunsOut, Relinks}
use Rattle.switched_call_laws.specs.SwitchRecords.Written.{Books}
use Rattle.switched_call_laws.specs.SwitchRecords.Kept.{BeginWith}
use Rattle.switched_call_laws.specs.SwitchRecords.Tied.{IsTied, happened, restarted, gone_out, sent_out}
use Rattle.switched_call_laws.specs.JoinedCalls.Calls.{JoinedCall, AreCalls}
pub use Rattle.switched_call_laws.specs.JoinedCalls.JoinLaws.{calls_in, join_of_call, IsWritten}
use Rattle.record_laws.specs.CallPaths.World.{Origin, World, Plan, AreAddressed, AreBetween, all_traced, after_event}
use Rattle.record_laws.specs.CallPaths.World.{made_world, calling_on}
use Rattle.record_laws.specs.CallPaths.World.Event.{Writes}
use Rattle.record_laws.specs.CallPaths.Tree.{IsTree}
use Rattle.record_laws.specs.CallPaths.Lines.{free_book}
use Rattle.record_laws.specs.CallPaths.PathPromise.{PathsHold}
use Rattle.switched_call_laws.specs.SwitchPaths.Sight.{Switched, Switches, OwnLines, Lines, Standing, role_at, network_line}
use Rattle.switched_call_laws.specs.SwitchPaths.Sight.{standing_with, IsInSight, all_seen, all_after}
use Rattle.switched_call_laws.specs.SwitchPaths.Network.{IsOther, IsPlanned, IsAtSwitch, PlacedCall, placed_at, of_switch, IsNetwork}
use Rattle.switched_call_laws.specs.SwitchPaths.Network.{all_handed}

-- ---- the making

-- the switch at a place as it is made, which joined no call, with the lines of the network in its sight
pub record IsMadeAt (plan : Plan) (place : ℕ) (at : List ℕ) (x : Switched) (lines : Lines) (books : List Book)
    : Type 0 where
  pub planned : IsPlanned plan place at (role_at x) x.switch
  pub tied : IsTied x.switch x.histories
  pub calls : AreCalls x.switch.lines x.histories.books []
  pub sight : (own : ℕ) → own < length at → IsInSight x own (network_line at own) lines books

-- a tree of switches, as it is made on free lines; there may be no switch at all
pub record IsMade (plan : Plan) (ats : OwnLines) (xs : Switches) (lines : Lines) (plans : List LinePlan) : Type 0 where
  pub alike : AreAddressed plan
  pub switches : List ℕ
  pub tree : IsTree plan switches
  pub between : AreBetween plan 0 plans
  pub each : (place : ℕ) (x : Switched) → xs place ≡ Some x
      → IsMadeAt plan place (ats place) x lines (map free_book plans)
  pub ends : (line : ℕ) (role : Role) → line < length plans → plan.has_user line role ≡ false
      → IsAtSwitch ats xs (plan.node line role) line role

-- of it the register has nothing yet
abbrev pub BeginLaw : Type 0
BeginLaw = (plan : Plan) (ats : OwnLines) (xs : Switches) (lines : Lines) (plans : List LinePlan)
    → IsMade plan ats xs lines plans
    → IsNetwork plan ats xs [] lines (map free_book plans) (made_world plans) (map (λ line. []) plans)

-- ---- events of a switch

-- the lines are as many, and those that are not the switch's are the same
pub record OthersStay (at : List ℕ) (old_lines lines : Lines) (old books : List Book)
    (old_traces traces : List (List Origin)) : Type 0 where
  pub count : length books ≡ length old
  pub same_line : (line : ℕ) → IsOther at line → lines line ≡ old_lines line
  pub same : (line : ℕ) → IsOther at line → slice_get books line ≡ slice_get old line
  pub same_trace : (line : ℕ) → IsOther at line → slice_get traces line ≡ slice_get old_traces line

-- the network after the switch at a place has become this one: the other switches are as they were, with what happened
-- at the other ends of their lines in their sight
pub record NetworkAfter (plan : Plan) (ats : OwnLines) (xs : Switches) (place : ℕ) (y : Switched) (cs : List PlacedCall)
    (register : Register) (old_lines : Lines) (old : List Book) (old_traces : List (List Origin)) : Type 0 where
  pub lines : Lines
  pub books : List Book
  pub world : World
  pub traces : List (List Origin)
  pub network : IsNetwork plan ats (all_after place y ats lines books xs) cs lines books world traces
  pub same : world.register ≡ register
  pub own : (n : ℕ) (l : SwitchLine) → n < length (ats place) → slice_get y.switch.lines n ≡ Some l
      → lines (network_line (ats place) n) ≡ standing_with (y.histories.partners n) l.end
  pub others : OthersStay (ats place) old_lines lines old books old_traces traces

-- so it is where nothing is written
pub record NetworkStays (plan : Plan) (ats : OwnLines) (xs : Switches) (place : ℕ) (y : Switched) (cs : List PlacedCall)
    (old_lines : Lines) (books : List Book) (w : World) (traces : List (List Origin)) : Type 0 where
  pub lines : Lines
  pub network : IsNetwork plan ats (all_after place y ats lines books xs) cs lines books w traces
  pub own : (n : ℕ) (l : SwitchLine) → n < length (ats place) → slice_get y.switch.lines n ≡ Some l
      → lines (network_line (ats place) n) ≡ standing_with (y.histories.partners n) l.end
  pub same_line : (line : ℕ) → IsOther (ats place) line → lines line ≡ old_lines line

-- the calls that it joins in an event are handed on in the register, in order, and nothing else is written there
abbrev pub FrameLaw : Type 0
FrameLaw = (plan : Plan) (ats : OwnLines) (xs : Switches) (cs : List PlacedCall) (lines : Lines) (books : List Book)
    (w : World) (traces : List (List Origin)) (place : ℕ) (x : Switched) (n : ℕ) (octets : Octets)
    → xs place ≡ Some x → AreOctets octets → BeginWith octets (x.histories.partners n).up
    → IsNetwork plan ats xs cs lines books w traces
    → NetworkAfter plan ats xs place
    (record { switch = on_frame n octets x.switch; histories = happened n (Brings octets) x.switch x.histories })
    (cs ++ placed_at place (calls_in n (Brings octets) x.switch x.histories))
    (all_handed (ats place) (role_at x) (calls_in n (Brings octets) x.switch x.histories) w.register) lines books traces

abbrev pub TimerLaw : Type 0
TimerLaw = (plan : Plan) (ats : OwnLines) (xs : Switches) (cs : List PlacedCall) (lines : Lines) (books : List Book)
    (w : World) (traces : List (List Origin)) (place : ℕ) (x : Switched) (n : ℕ) (id : TimerId)
    → xs place ≡ Some x → IsNetwork plan ats xs cs lines books w traces
    → NetworkAfter plan ats xs place
    (record { switch = on_expiry n id x.switch; histories = happened n (RunsOut id) x.switch x.histories })
    (cs ++ placed_at place (calls_in n (RunsOut id) x.switch x.histories))
    (all_handed (ats place) (role_at x) (calls_in n (RunsOut id) x.switch x.histories) w.register) lines books traces

-- a link is set up anew
abbrev pub RelinkLaw : Type 0
RelinkLaw = (plan : Plan) (ats : OwnLines) (xs : Switches) (cs : List PlacedCall) (lines : Lines) (books : List Book)
    (w : World) (traces : List (List Origin)) (place : ℕ) (x : Switched) (n : ℕ)
    → xs place ≡ Some x → IsNetwork plan ats xs cs lines books w traces
    → NetworkAfter plan ats xs place
    (record { switch = relink n x.switch; histories = happened n Relinks x.switch x.histories })
    (cs ++ placed_at place (calls_in n Relinks x.switch x.histories))
    (all_handed (ats place) (role_at x) (calls_in n Relinks x.switch x.histories) w.register) lines books traces

-- where ticks pass, and where the frames of a line go out, nothing is written
abbrev pub ElapseLaw : Type 0
ElapseLaw = (plan : Plan) (ats : OwnLines) (xs : Switches) (cs : List PlacedCall) (lines : Lines) (books : List Book)
    (w : World) (traces : List (List Origin)) (place : ℕ) (x : Switched) (ticks : ℕ)
    → xs place ≡ Some x → IsNetwork plan ats xs cs lines books w traces
    → NetworkStays plan ats xs place (record { switch = elapse ticks x.switch; histories = x.histories }) cs
    lines books w traces

abbrev pub OutLaw : Type 0
OutLaw = (plan : Plan) (ats : OwnLines) (xs : Switches) (cs : List PlacedCall) (lines : Lines) (books : List Book)
    (w : World) (traces : List (List Origin)) (place : ℕ) (x : Switched) (n : ℕ) (l : SwitchLine) (kept : List Bool)
    → xs place ≡ Some x → slice_get x.switch.lines n ≡ Some l → IsNetwork plan ats xs cs lines books w traces
    → NetworkStays plan ats xs place
    (record { switch = gone_out n x.switch; histories = sent_out n l kept x.histories }) cs lines books w traces

-- a restart writes nothing in the register. It loses the frames that wait at the other ends of the lines too, so none
-- may wait there
abbrev pub RestartLaw : Type 0
RestartLaw = (plan : Plan) (ats : OwnLines) (xs : Switches) (cs : List PlacedCall) (lines : Lines) (books : List Book)
    (w : World) (traces : List (List Origin)) (place : ℕ) (x : Switched) → xs place ≡ Some x
    → ((n : ℕ) → n < length (ats place)
    → other_after Restarts (x.histories.partners n).other ≡ (x.histories.partners n).other)
    → IsNetwork plan ats xs cs lines books w traces
    → NetworkAfter plan ats xs place
    (record { switch = restart x.switch; histories = restarted x.switch x.histories }) cs w.register lines books traces

-- ---- events at an end with a user

abbrev pub with_line : (line : ℕ) → Standing → Lines → Lines
with_line line l lines = λ k. if k == line then l else lines k

-- the line is then as it is at the other end, and its book is kept with it
pub record StaysKept (role : Role) (old l : Standing) (b : Book) : Type 0 where
  pub end : end_at role l.line ≡ end_at role old.line
  pub kept : Kept l.setting b l.line

-- whatever is written there: it is written in the register, in the whole one and in the line's book alike. Where a
-- switch is at the other end, nothing happens there, and the line is kept
abbrev pub UserLaw : Type 0
UserLaw = (plan : Plan) (ats : OwnLines) (xs : Switches) (cs : List PlacedCall) (lines : Lines) (books : List Book)
    (w : World) (traces : List (List Origin)) (line : ℕ) (role : Role) (ws : List Write) (b : Book)
    (own : List Origin) (l : Standing) → plan.has_user line role ≡ true
    → slice_get books line ≡ Some b → slice_get traces line ≡ Some own
    → (plan.has_user line (other_of role) ≡ false
    → StaysKept (other_of role) (lines line) l (all_written role ws b))
    → IsNetwork plan ats xs cs lines books w traces
    → IsNetwork plan ats (all_seen ats (with_line line l lines) (set books line (all_written role ws b)) xs) cs
    (with_line line l lines) (set books line (all_written role ws b)) (after_event (Writes line role ws) w)
    (set traces line (all_traced line role ws b own))

-- ---- what changes on a line

-- frames on the way are lost, or what a user has at an end changes: nothing is written, and where a switch is at an end,
-- nothing happens there, and the line is kept
abbrev pub ChangeLaw : Type 0
ChangeLaw = (plan : Plan) (ats : OwnLines) (xs : Switches) (cs : List PlacedCall) (lines : Lines) (books : List Book)
    (w : World) (traces : List (List Origin)) (line : ℕ) (b : Book) (l : Standing) → slice_get books line ≡ Some b
    → ((role : Role) → plan.has_user line role ≡ false → StaysKept role (lines line) l b)
    → IsNetwork plan ats xs cs lines books w traces
    → IsNetwork plan ats (all_seen ats (with_line line l lines) books xs) cs (with_line line l lines) books w traces

-- ---- the addresses of joined calls

-- the call goes on with the address that was called, as calling one with that of the line that it came on, or on a line
-- without an address with the one that it has, and on the line of its route
pub record HasAddresses (plan : Plan) (at : List ℕ) (bs : Books) (c : JoinedCall) : Type 0 where
  pub near_record : RecordValue
  pub far_record : RecordValue
  pub near_there : slice_get (bs c.near.line).records c.came_in ≡ Some near_record
  pub far_there : slice_get (bs c.far.line).records c.placed ≡ Some far_record
  pub called : far_record.far ≡ near_record.own
  pub calling : far_record.own ≡ calling_on (plan.address (network_line at c.near.line)) near_record.far
  pub routed : plan.route far_record.node near_record.own ≡ Some (network_line at c.far.line)

-- so it is of each call that a switch joined, whether it stands or is over
abbrev pub AddressLaw : Type 0
AddressLaw = (plan : Plan) (ats : OwnLines) (xs : Switches) (cs : List PlacedCall) (lines : Lines) (books : List Book)
    (w : World) (traces : List (List Origin)) → IsNetwork plan ats xs cs lines books w traces → (place : ℕ)
    (x : Switched) → xs place ≡ Some x → (i : ℕ) (c : JoinedCall) → slice_get (of_switch place cs) i ≡ Some c
    → HasAddresses plan (ats place) x.histories.books c

-- ---- the promise

-- users are at both ends of a line
abbrev pub IsOfUsers : Plan → (line : ℕ) → Type 0
IsOfUsers plan line = (role : Role) → plan.has_user line role ≡ true

-- some moves at the two ends of a line lead to this book
pub record IsKept (b : Book) : Type 0 where
  pub setting : Setting
  pub line : Line
  pub kept : Kept setting b line

-- where the lines between users are kept, as those of the switches are, the register promises of each pair what one of
-- paths does: caller and callee match both ways, over the line between them or over any number of switches, and what is
-- confirmed was taken
abbrev pub PromiseLaw : Type 0
PromiseLaw = (plan : Plan) (ats : OwnLines) (xs : Switches) (cs : List PlacedCall) (lines : Lines) (books : List Book)
    (w : World) (traces : List (List Origin)) → IsNetwork plan ats xs cs lines books w traces
    → ((line : ℕ) (b : Book) → IsOfUsers plan line → slice_get books line ≡ Some b → IsKept b)
    → PathsHold plan w.register

-- ---- calls that were placed

-- at an end with a user, where the line's book has the present call as the last one placed there and in a pair, so it
-- is in the register: also of a call that was placed through switches, since each accepts it where it was accepted
-- beyond
abbrev pub PlacedLaw : Type 0
PlacedLaw = (plan : Plan) (ats : OwnLines) (xs : Switches) (cs : List PlacedCall) (lines : Lines) (books : List Book)
    (w : World) (traces : List (List Origin)) → IsNetwork plan ats xs cs lines books w traces → (line : ℕ) (b : Book)
    (role : Role) (channel : ℕ) → slice_get books line ≡ Some b → plan.has_user line role ≡ true
    → HasCallee b role channel → HasCallee (book_at line w.register) role channel

-- ---- at rest

-- of what was taken on the channels of a switch nothing is gathered
abbrev pub GathersNothing : List SwitchLine → Type 0
GathersNothing ls = (p : SwitchChannel) (j : Joined) → joined_at ls p ≡ Some j → length j.kept.gathered.octets ≡ 0

-- both ends of a line are at rest, and nothing is gathered at the switch at this end
pub record RestsAt (plan : Plan) (xs : Switches) (lines : Lines) (line : ℕ) (role : Role) : Type 0 where
  pub ends : AreAtRest (lines line).line.dte (lines line).line.dce
  pub gathered : (x : Switched) → xs (plan.node line role) ≡ Some x → GathersNothing x.switch.lines

-- so it is of each line of a switch
abbrev pub SwitchesRest : Plan → Switches → Lines → List Book → Type 0
SwitchesRest plan xs lines books = (line : ℕ) (role : Role) → line < length books → plan.has_user line role ≡ false
    → RestsAt plan xs lines line role

-- then, where nothing is missing on the lines between users, nothing is missing in the register: of each call that is
-- open at both ends, over one line or over any number of switches, each end took all that the other one sent since the
-- last reset
abbrev pub RestLaw : Type 0
RestLaw = (plan : Plan) (ats : OwnLines) (xs : Switches) (cs : List PlacedCall) (lines : Lines) (books : List Book)
    (w : World) (traces : List (List Origin)) → IsNetwork plan ats xs cs lines books w traces
    → SwitchesRest plan xs lines books
    → ((line : ℕ) (b : Book) → IsOfUsers plan line → slice_get books line ≡ Some b → NothingMissing b.records b.pairs)
    → NothingMissing w.register.records w.register.pairs

pub record SwitchPathLaw : Type 0 where
  pub begins : BeginLaw
  pub frames : FrameLaw
  pub timers : TimerLaw
  pub relinks : RelinkLaw
  pub elapses : ElapseLaw
  pub out : OutLaw
  pub restarts : RestartLaw
  pub users : UserLaw
  pub changes : ChangeLaw
  pub addresses : AddressLaw
  pub promise : PromiseLaw
  pub placed : PlacedLaw
  pub rest : RestLaw
