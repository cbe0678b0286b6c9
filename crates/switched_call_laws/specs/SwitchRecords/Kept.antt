-- What is kept of all lines of a switch, and of the books of these lines.
use Rattle.std.specs.Prelude.{◌≡◌, ℕ, ◌==◌, if◌then◌else◌, Bool, List, [], ◌∷◌, ◌++◌, drop, slice_get, Some}
use Rattle.link_timers.specs.declared.role.Role.{Role}
use Rattle.link_timers.specs.declared.role.Role.TheVariants.{Dte, Dce}
use Rattle.link_timers.specs.declared.timers.TimerId.{TimerId}
use Rattle.lapb.specs.LinkLine.{chosen}
use Rattle.line_end.specs.End.{without_frames}
use Rattle.packet_codec.specs.Address.{MayBeDigits}
use Rattle.packet_codec.specs.Digits.{digits_or_none}
use Rattle.lapb.specs.Machine.{Octets}
use Rattle.packet_laws.specs.Readable.{CanBePlaced, Every, AreOctets}
use Rattle.packet_end.specs.PacketEnd.{PacketEnd}
use Rattle.call_records.specs.Book.{Book}
use Rattle.node_laws.specs.Lines.NodeLine.{Line, Restarts, other_after}
pub use Rattle.node_laws.specs.LineRecords.Kept.{Setting, Kept, beginning, end_at}
use Rattle.switch_lines.specs.Lines.{SwitchLine, changed}
use Rattle.switch_lines.specs.Switch.{Switch, on_frame, on_expiry, relink, elapse, restart, finished, acted, all_begun}
use Rattle.switch_laws.specs.World.{World, IsWorld, MayHappen, layers_of, after_acts, world_after_all}
use Rattle.switched_call_laws.specs.SwitchRecords.Turned.{sight}
use Rattle.switched_call_laws.specs.SwitchRecords.Written.{Books, books_after_all, restarted_books, HaveRecords}
use Rattle.switch_laws.specs.Steps.{Happening, does, Step, lines_after_all, acts_of_all}
use Rattle.switch_laws.specs.EventSteps.{event_steps, event_acts}
use Rattle.switch_laws.specs.Steps.Happening.{Brings, RunsOut, Relinks}
use Rattle.switch_laws.specs.Steps.Step.{Places, Happens}

-- how a line is made, the switch's role on it, what is at the other end of it, and the frames on the way to the switch
-- and from it
pub record Partner : Type 0 where
  pub setting : Setting
  pub role : Role
  pub other : PacketEnd
  pub up : List Octets
  pub down : List Octets

abbrev pub Partners : Type 0
Partners = ℕ → Partner

-- the line of an end of this role and of the other one, with the frames on the way to that end and from it
abbrev pub line_of_ends : Role → (own other : PacketEnd) → (coming going : List Octets) → Line
line_of_ends Dte own other coming going = record { dte = own; dce = other; up = going; down = coming }
line_of_ends Dce own other coming going = record { dte = other; dce = own; up = coming; down = going }

abbrev pub line_with : Partner → PacketEnd → Line
line_with p e = line_of_ends p.role e p.other p.up p.down

-- the switch has the book of each line in its own sight
abbrev pub KeptWith : Partner → Book → PacketEnd → Type 0
KeptWith p b e = Kept p.setting (sight p.role b) (line_with p e)

abbrev pub AreKept : Partners → Books → List SwitchLine → Type 0
AreKept ps bs ls = (n : ℕ) (l : SwitchLine) → slice_get ls n ≡ Some l → KeptWith (ps n) (bs n) l.end

-- ---- over a step

-- a frame that comes is no more on the way
abbrev pub without_first : Partner → Partner
without_first p = record p { up = drop 1 p.up }

abbrev pub partners_after : Step → Partners → Partners
partners_after (Happens n (Brings octets)) ps = λ k. if k == n then without_first (ps k) else ps k
partners_after s ps = ps

abbrev pub partners_after_all : List Step → Partners → Partners
partners_after_all [] ps = ps
partners_after_all (s ∷ more) ps = partners_after_all more (partners_after s ps)

-- a frame that comes is the first on the way, and a call that is placed can be
abbrev pub BeginWith : Octets → List Octets → Type 0
BeginWith octets frames = (later : List Octets) × (frames ≡ octets ∷ later)

abbrev pub IsFit : Step → Partners → Type 0
IsFit (Happens n (Brings octets)) ps = BeginWith octets (ps n).up
IsFit (Places n parts) ps = CanBePlaced parts
IsFit s ps = Unit {0}

abbrev pub AreFit : List Step → Partners → Type 0
AreFit [] ps = Unit {0}
AreFit (s ∷ more) ps = IsFit s ps × AreFit more (partners_after s ps)

-- over steps each line is kept, with the book that their acts write
abbrev pub StepsLaw : Type 0
StepsLaw = (steps : List Step) (ps : Partners) (bs : Books) (ls : List SwitchLine) → AreFit steps ps → AreKept ps bs ls
    → AreKept (partners_after_all steps ps) (books_after_all (acts_of_all steps ls) (layers_of ls) bs)
    (lines_after_all steps ls)

-- ---- whole events

-- the address of each line is one, or none
abbrev pub HaveAddresses : List SwitchLine → Type 0
HaveAddresses ls = (n : ℕ) (l : SwitchLine) → slice_get ls n ≡ Some l → MayBeDigits (digits_or_none l.address)

-- something happens on line n
abbrev pub EventIsKept : (line : ℕ) → Happening → Switch → Partners → Books → List SwitchLine → Type 0
EventIsKept n what s ps bs ms =
    AreKept (partners_after (Happens n what) ps)
    (books_after_all (event_acts s.routes n what s.lines) (layers_of s.lines) bs) ms

-- after each event of a switch each of its lines is kept with the book that the acts of the event write: the first
-- frame on the way to it on a line comes; a timer runs out; the link of a line is set up anew; ticks pass
abbrev pub FrameKeptLaw : Type 0
FrameKeptLaw = (n : ℕ) (octets : Octets) (s : Switch) (ps : Partners) (bs : Books) → AreOctets octets
    → HaveAddresses s.lines → BeginWith octets (ps n).up → AreKept ps bs s.lines
    → EventIsKept n (Brings octets) s ps bs (on_frame n octets s).lines

abbrev pub TimerKeptLaw : Type 0
TimerKeptLaw = (n : ℕ) (id : TimerId) (s : Switch) (ps : Partners) (bs : Books) → HaveAddresses s.lines
    → AreKept ps bs s.lines → EventIsKept n (RunsOut id) s ps bs (on_expiry n id s).lines

abbrev pub RelinkKeptLaw : Type 0
RelinkKeptLaw = (n : ℕ) (s : Switch) (ps : Partners) (bs : Books) → HaveAddresses s.lines → AreKept ps bs s.lines
    → EventIsKept n Relinks s ps bs (relink n s).lines

abbrev pub ElapseKeptLaw : Type 0
ElapseKeptLaw = (ticks : ℕ) (s : Switch) (ps : Partners) (bs : Books) → AreKept ps bs s.lines
    → AreKept ps bs (elapse ticks s).lines

-- the switch restarts: all frames on its lines are lost, also those that waited at the other ends
abbrev pub restarted_partner : Partner → Partner
restarted_partner p = record p { other = other_after Restarts p.other; up = []; down = [] }

abbrev pub RestartKeptLaw : Type 0
RestartKeptLaw = (s : Switch) (ps : Partners) (bs : Books) → AreKept ps bs s.lines
    → AreKept (λ n. restarted_partner (ps n)) (restarted_books (layers_of s.lines) bs) (restart s).lines

-- the frames of a line go out, in order; those that `kept` drops are lost
abbrev pub sent_on : SwitchLine → (kept : List Bool) → Partner → Partner
sent_on l kept p = record p { down = p.down ++ chosen kept l.end.line.frames }

abbrev pub with_sent : (line : ℕ) → SwitchLine → (kept : List Bool) → Partners → Partners
with_sent n l kept ps = λ k. if k == n then sent_on l kept (ps k) else ps k

abbrev pub all_frames_out : SwitchLine → SwitchLine
all_frames_out l = record l { end = record l.end { line = without_frames l.end.line } }

abbrev pub OutLaw : Type 0
OutLaw = (n : ℕ) (l : SwitchLine) (kept : List Bool) (ps : Partners) (bs : Books) (ls : List SwitchLine)
    → slice_get ls n ≡ Some l → AreKept ps bs ls → AreKept (with_sent n l kept ps) bs (changed n all_frames_out ls)

-- the steps lead to what the event makes of the lines, and their acts to the packet layers
abbrev pub LeadsLaw : Type 0
LeadsLaw = (n : ℕ) (what : Happening) (s : Switch)
    → (lines_after_all (event_steps s.routes n what s.lines) s.lines
    ≡ finished s.routes n (acted s.routes n (does what) (all_begun s.lines)))
    × (layers_of (lines_after_all (event_steps s.routes n what s.lines) s.lines)
    ≡ after_acts (event_acts s.routes n what s.lines) (layers_of s.lines))

-- and the same acts move the legs, which are the present records of the books
pub record LegsMove (n : ℕ) (what : Happening) (s : Switch) (w : World) (bs : Books) : Type 0 where
  pub may : Every MayHappen (event_acts s.routes n what s.lines)
  pub world : IsWorld (after_acts (event_acts s.routes n what s.lines) (layers_of s.lines))
      (world_after_all (event_acts s.routes n what s.lines) (layers_of s.lines) w)
  pub records : HaveRecords
      (after_acts (event_acts s.routes n what s.lines) (layers_of s.lines))
      (world_after_all (event_acts s.routes n what s.lines) (layers_of s.lines) w)
      (books_after_all (event_acts s.routes n what s.lines) (layers_of s.lines) bs)

abbrev pub ReadsOctets : Happening → Type 0
ReadsOctets (Brings octets) = AreOctets octets
ReadsOctets what = Unit {0}

abbrev pub LegsLaw : Type 0
LegsLaw = (n : ℕ) (what : Happening) (s : Switch) (w : World) (bs : Books) → ReadsOctets what → HaveAddresses s.lines
    → IsWorld (layers_of s.lines) w → HaveRecords (layers_of s.lines) w bs → LegsMove n what s w bs
