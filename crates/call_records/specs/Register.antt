-- The register of a network of lines: the records and the pairs of the whole network in the order of making, and for
-- each line the two ends with their channels. What is written at a line is what is written into a book, which has the
-- records and pairs of all lines and the ends of this one.
use Rattle.std.specs.Prelude.{◌≡◌, ℕ, Bool, if◌then◌else◌, List, [], ◌∷◌, ◌++◌, length, replicate, set, slice_get}
use Rattle.std.specs.Prelude.{Option, Some, None, is_some}
use Rattle.link_timers.specs.declared.role.Role.{Role}
use Rattle.link_timers.specs.declared.role.Role.TheVariants.{Dte, Dce}
use Rattle.data_transfer.specs.Packets.{CallParts}
use Rattle.data_transfer.specs.Packets.Note.{Incoming}
use Rattle.packet_channel.specs.Channel.Request.{Accept}
use Rattle.call_records.specs.Records.{RecordValue, PairValue, with_hop}
use Rattle.call_records.specs.Book.{Book, Side, side_of, slot_at, with_slot, with_change, free_slot, made_book}
use Rattle.call_records.specs.Writes.{Write, all_written}
use Rattle.call_records.specs.Writes.Write.{Placed, Told, Asked}

-- the two ends of a line
pub record LineEnds : Type 0 where
  pub dte : Side
  pub dce : Side

pub record Register : Type 0 where
  pub records : List RecordValue
  pub pairs : List PairValue
  pub lines : List LineEnds

-- no record and no pair
pub record HasNoRecords (g : Register) : Type 0 where
  pub records : g.records ≡ []
  pub pairs : g.pairs ≡ []

-- all records and pairs are forgotten
abbrev pub forgotten : Register → Register
forgotten g = record g { records = []; pairs = [] }

-- a line that is not there has no channels
abbrev pub no_side : Side
no_side = record { node = 0; address = []; slots = [] }

abbrev pub found_ends : Option LineEnds → LineEnds
found_ends (Some ends) = ends
found_ends None = record { dte = no_side; dce = no_side }

-- what the register has of a line: the records and pairs of the whole network, and the line's own ends
abbrev pub book_at : (line : ℕ) → Register → Book
book_at line g = record {
  records = g.records;
  pairs = g.pairs;
  dte = (found_ends (slice_get g.lines line)).dte;
  dce = (found_ends (slice_get g.lines line)).dce;
}

abbrev pub with_book : (line : ℕ) → Book → Register → Register
with_book line b g = record {
  records = b.records;
  pairs = b.pairs;
  lines = set g.lines line (record { dte = b.dte; dce = b.dce });
}

-- what is written at a line
abbrev pub written_at : (line : ℕ) → (Book → Book) → Register → Register
written_at line write g = with_book line (write (book_at line g)) g

abbrev pub all_written_at : (line : ℕ) → Role → List Write → Register → Register
all_written_at line role writes g = written_at line (all_written role writes) g

-- ---- a call goes on to another line

-- a channel holds the record of the end that placed the call, as if the channel's end had placed it
abbrev pub holds : Role → (channel : ℕ) → Option ℕ → Book → Book
holds role channel holder b = with_slot role channel (record (slot_at role channel b) { placed = holder }) b

-- a channel at an end of a line
pub record ChannelEnd : Type 0 where
  pub line : ℕ
  pub role : Role
  pub channel : ℕ

-- the record that it holds: that of the call whose path came to end there last
abbrev pub holder_at : ChannelEnd → Register → Option ℕ
holder_at end g = (slot_at end.role end.channel (book_at end.line g)).placed

-- a call goes on to a channel: the path of its record, if it has one, gets this hop, and the channel holds the record
abbrev pub goes_on : (to : ChannelEnd) → (holder : Option ℕ) → Book → Book
goes_on to holder b =
    with_change holder (with_hop (record { switch = (side_of to.role b).node; line = to.line; channel = to.channel }))
    (holds to.role to.channel holder b)

-- so it does from a channel to another one, if the line onward is there
abbrev pub handed_on : (from to : ChannelEnd) → Register → Register
handed_on from to g =
    if is_some (slice_get g.lines to.line) then written_at to.line (goes_on to (holder_at from g)) g else g

-- ---- making

-- a line between two nodes, with an address if it has any digits, with channels from 1 on, and whether a call stands on
-- the first of them
pub record LinePlan : Type 0 where
  pub dte_node : ℕ
  pub dce_node : ℕ
  pub address : List ℕ
  pub channels : ℕ
  pub standing : Bool

-- the book of the line alone, where it has no address
abbrev pub planned_book : LinePlan → Book
planned_book plan = made_book plan.dte_node plan.dce_node plan.channels plan.standing

-- the line's address is the DTE's
abbrev pub free_ends : LinePlan → LineEnds
free_ends plan = record {
  dte = record { node = plan.dte_node; address = plan.address; slots = replicate plan.channels free_slot };
  dce = record { node = plan.dce_node; address = []; slots = replicate plan.channels free_slot };
}

-- a call between two ends without an address
abbrev pub no_parts : CallParts
no_parts = record { called = []; calling = []; facilities = []; user_part = [] }

-- a call stands on the first channel of a line: the DTE placed it, it came in at the DCE, and the DCE accepted it
abbrev pub with_standing_call : (line : ℕ) → Register → Register
with_standing_call line g =
    all_written_at line Dce (Told (Incoming 1 no_parts ∷ []) ∷ Asked None 1 Accept None ∷ [])
    (all_written_at line Dte (Placed (Some 1) no_parts ∷ []) g)

abbrev pub with_free_line : LinePlan → Register → Register
with_free_line plan g = record g { lines = g.lines ++ free_ends plan ∷ [] }

abbrev pub with_line : LinePlan → Register → Register
with_line plan g =
    if plan.standing then with_standing_call (length g.lines) (with_free_line plan g) else with_free_line plan g

abbrev pub with_lines : List LinePlan → Register → Register
with_lines [] g = g
with_lines (plan ∷ plans) g = with_lines plans (with_line plan g)

abbrev pub empty_register : Register
empty_register = record { records = []; pairs = []; lines = [] }

abbrev pub made_register : List LinePlan → Register
made_register plans = with_lines plans empty_register
