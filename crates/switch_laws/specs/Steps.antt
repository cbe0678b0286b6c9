-- The steps of an event of a switch: what is done at the ends of its lines, and the acts of their packet layers that
-- each step is.
use Rattle.std.specs.Prelude.{ℕ, zero, suc, if◌then◌else◌, List, [], ◌∷◌, ◌++◌, map, slice_get, Option, Some, None}
use Rattle.std.specs.Prelude.{is_some}
use Rattle.link_timers.specs.declared.timers.TimerId.{TimerId}
use Rattle.link_timers.specs.declared.timers.TimerId.TheVariants.{T1}
use Rattle.lapb.specs.declared.note.Note as link_note
use Rattle.lapb.specs.declared.note.Note.TheVariants.{Nothing, Up, Down}
use Rattle.lapb.specs.Machine.{Octets, on_t1, can_offer}
use Rattle.lapb.specs.Octets.{on_octets}
use Rattle.data_transfer.specs.declared.flow.Flow.{Flow}
use Rattle.data_transfer.specs.Packets.{CallParts, Received}
use Rattle.data_transfer.specs.Octets.{heard}
use Rattle.packet_channel.specs.Channel.{Request}
use Rattle.packet_layer.specs.Layer.{Timer, next_packet}
use Rattle.packet_layer.specs.Events.{timer_named}
use Rattle.packet_end.specs.PacketEnd as end
use Rattle.packet_end.specs.PacketEnd.{PacketEnd, runs_at, with_next, all_offered, begun, settled, elapsed}
use Rattle.switch_joins.specs.declared.channels.SwitchChannel.{SwitchChannel}
use Rattle.switch_lines.specs.Lines.{Joined, SwitchLine, changed, with_joined, ask}
use Rattle.switch_lines.specs.Switch.{with_end, quieted, without_notes, place_call}
use Rattle.switch_laws.specs.World.{Act}

-- ---- what happens at the end of one line: a frame comes, a timer runs out, the link is set up anew

pub data Happening : Type 0 where
  Brings : Octets → Happening
  RunsOut : TimerId → Happening
  Relinks : Happening

abbrev pub does : Happening → PacketEnd → PacketEnd
does (Brings octets) e = end.received e octets
does (RunsOut id) e = end.after_timer e id
does Relinks e = end.relinked e

-- ---- steps

pub data Step : Type 0 where
  -- a request on a channel; a call is placed on a line; what is kept of a joined channel changes
  Asks : SwitchChannel → Request → Step
  Places : (line : ℕ) → CallParts → Step
  Keeps : SwitchChannel → Option Joined → Step
  -- something happens at the end of a line, and the notes of it are taken
  Happens : (line : ℕ) → Happening → Step
  -- packets of a line go to its link
  Offers : (line : ℕ) → Step
  -- an event begins, and ends; ticks pass
  Begins : Step
  Settles : Step
  Elapses : (ticks : ℕ) → Step

abbrev pub lines_after : Step → List SwitchLine → List SwitchLine
lines_after (Asks p q) ls = ask p q ls
lines_after (Places n parts) ls = place_call n parts ls
lines_after (Keeps p o) ls = with_joined p o ls
lines_after (Happens n what) ls =
    changed n (with_end without_notes) (changed n (with_end (λ e. does what (quieted e))) ls)
lines_after (Offers n) ls = changed n (with_end all_offered) ls
lines_after Begins ls = map (with_end begun) ls
lines_after Settles ls = map (with_end settled) ls
lines_after (Elapses ticks) ls = map (with_end (λ e. elapsed e ticks)) ls

abbrev pub lines_after_all : List Step → List SwitchLine → List SwitchLine
lines_after_all [] ls = ls
lines_after_all (s ∷ more) ls = lines_after_all more (lines_after s ls)

-- ---- the acts of the packet layer of line n

abbrev pub note_acts : (line : ℕ) → link_note.Note → List Act
note_acts n Nothing = []
note_acts n Up = Act.GoesUp n ∷ []
note_acts n Down = Act.GoesDown n ∷ []

abbrev pub heard_acts : (line : ℕ) → Option Received → List Act
heard_acts n None = []
heard_acts n (Some r) = Act.Comes n r ∷ []

abbrev pub packet_acts : (line : ℕ) → Flow → Option Octets → List Act
packet_acts n flow None = []
packet_acts n flow (Some octets) = heard_acts n (heard flow octets)

abbrev pub timer_acts : (line : ℕ) → Option Timer → List Act
timer_acts n None = []
timer_acts n (Some t) = Act.Expires n t ∷ []

abbrev pub expiry_acts : (line : ℕ) → TimerId → PacketEnd → List Act
expiry_acts n T1 e = note_acts n (on_t1 e.line.link).note
expiry_acts n id e = timer_acts n (timer_named e.layer.role id)

abbrev pub happening_acts : (line : ℕ) → Happening → PacketEnd → List Act
happening_acts n (Brings octets) e =
    note_acts n (on_octets e.line.link octets).note ++ packet_acts n e.layer.flow (on_octets e.line.link octets).accepted
happening_acts n (RunsOut id) e = if runs_at e id then expiry_acts n id e else []
happening_acts n Relinks e = Act.GoesDown n ∷ []

-- as many packets as go to the link
abbrev pub offer_acts : (most line : ℕ) → PacketEnd → List Act
offer_acts zero n e = []
offer_acts (suc most) n e =
    if can_offer e.line.link
    then (if is_some (next_packet e.layer).packet
    then Act.Gives n ∷ offer_acts most n (with_next e (next_packet e.layer))
    else [])
    else []

abbrev pub on_line : (PacketEnd → List Act) → Option SwitchLine → List Act
on_line f None = []
on_line f (Some l) = f l.end

abbrev pub acts_of : Step → List SwitchLine → List Act
acts_of (Asks p q) ls = Act.Asks p q ∷ []
acts_of (Places n parts) ls = Act.Calls n parts ∷ []
acts_of (Keeps p o) ls = []
acts_of (Happens n what) ls = Act.Reads n ∷ on_line (λ e. happening_acts n what e) (slice_get ls n)
acts_of (Offers n) ls = on_line (λ e. offer_acts 7 n e) (slice_get ls n)
acts_of Begins ls = []
acts_of Settles ls = []
acts_of (Elapses ticks) ls = []

abbrev pub acts_of_all : List Step → List SwitchLine → List Act
acts_of_all [] ls = []
acts_of_all (s ∷ more) ls = acts_of s ls ++ acts_of_all more (lines_after s ls)
