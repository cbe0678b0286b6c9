-- Lines in the sight of switches. Each line of a network is there once, with the two ends and the frames on the way, so
-- that two switches at the ends of a trunk cannot disagree on it.
use Rattle.std.specs.Prelude.{◌≡◌, ℕ, ◌<◌, List, length, slice_get, Option, Some, None, option_and_then, option_map}
use Rattle.std.specs.Prelude.{◌==◌, if◌then◌else◌}
use Rattle.link_timers.specs.declared.role.Role.{Role}
use Rattle.link_timers.specs.declared.role.Role.TheVariants.{Dte, Dce}
use Rattle.link_timers.specs.Role.{other_of}
use Rattle.lapb.specs.Machine.{Octets}
use Rattle.call_records.specs.Book.{Book}
use Rattle.node_laws.specs.Lines.NodeLine.{Line}
use Rattle.node_laws.specs.LineRecords.Kept.{Setting, end_at}
use Rattle.packet_end.specs.PacketEnd.{PacketEnd}
use Rattle.switch_lines.specs.Lines.{SwitchLine}
use Rattle.switch_lines.specs.Switch.{Switch}
use Rattle.switched_call_laws.specs.SwitchRecords.Turned.{sight}
use Rattle.switched_call_laws.specs.SwitchRecords.Kept.{Partner, line_with}
use Rattle.switched_call_laws.specs.SwitchRecords.Tied.{Histories, IsTied}
use Rattle.switched_call_laws.specs.JoinedCalls.Calls.{JoinedCall, AreCalls}

-- ---- switches

pub record Switched : Type 0 where
  pub switch : Switch
  pub histories : Histories

-- by place
abbrev pub Switches : Type 0
Switches = ℕ → Option Switched

-- one switch, and no other
abbrev pub only_at : (place : ℕ) → Switched → Switches
only_at place x = λ k. if k == place then Some x else None

-- the role of a switch on one of its own lines
abbrev pub role_at : Switched → (own : ℕ) → Role
role_at x own = (x.histories.partners own).role

-- the lines of the network that the own lines of the switch at each place are, in order
abbrev pub OwnLines : Type 0
OwnLines = ℕ → List ℕ

abbrev pub found_line : Option ℕ → ℕ
found_line (Some line) = line
found_line None = 0

-- the line of the network that is this own line; `at` has one for each of them
abbrev pub network_line : (at : List ℕ) → (own : ℕ) → ℕ
network_line at own = found_line (slice_get at own)

-- ---- lines

-- how a line of the network was made, what is at its ends, and the frames on the way
pub record Standing : Type 0 where
  pub setting : Setting
  pub line : Line

-- all lines of the network
abbrev pub Lines : Type 0
Lines = ℕ → Standing

-- as a switch with this end of it has the line
abbrev pub standing_with : Partner → PacketEnd → Standing
standing_with p e = record { setting = p.setting; line = line_with p e }

abbrev pub coming_to : Role → Line → List Octets
coming_to Dte l = l.down
coming_to Dce l = l.up

-- what is at the other end, for an end of this role
abbrev pub partner_of : Role → Standing → Partner
partner_of role l = record {
  setting = l.setting;
  role = role;
  other = end_at (other_of role) l.line;
  up = coming_to role l.line;
  down = coming_to (other_of role) l.line;
}

-- ---- in the sight of a switch

-- its own line is this one of the network: with this book, and with these two ends
pub record IsInSight (x : Switched) (own line : ℕ) (lines : Lines) (books : List Book) : Type 0 where
  pub book : slice_get books line ≡ Some (sight (role_at x own) (x.histories.books own))
  pub line_is : (l : SwitchLine) → slice_get x.switch.lines own ≡ Some l
      → standing_with (x.histories.partners own) l.end ≡ lines line

-- so is each of its own lines, and all is right with it
pub record StaysInSight (at : List ℕ) (x : Switched) (cs : List JoinedCall) (lines : Lines) (books : List Book)
    : Type 0 where
  pub tied : IsTied x.switch x.histories
  pub calls : AreCalls x.switch.lines x.histories.books cs
  pub sight : (own : ℕ) → own < length at → IsInSight x own (network_line at own) lines books

-- the books and the other ends of its lines as they are then, where nothing happened at the switch
abbrev pub seen_book : Option Book → Role → (old : Book) → Book
seen_book None role old = old
seen_book (Some b) role old = sight role b

abbrev pub seen_then : (at : List ℕ) → Lines → List Book → Switched → Switched
seen_then at lines books x = record {
  switch = x.switch;
  histories = record {
    legs = x.histories.legs;
    books = λ own. seen_book (option_and_then (λ line. slice_get books line) (slice_get at own)) (role_at x own)
        (x.histories.books own);
    partners = λ own. partner_of (role_at x own) (lines (network_line at own));
  };
}

-- the switches after something happened at the one of this place, and after something that happened at none
abbrev pub all_seen : OwnLines → Lines → List Book → Switches → Switches
all_seen ats lines books xs = λ place. option_map (λ x. seen_then (ats place) lines books x) (xs place)

abbrev pub all_after : (place : ℕ) → Switched → OwnLines → Lines → List Book → Switches → Switches
all_after place y ats lines books xs = λ k. if k == place then Some y else all_seen ats lines books xs k
