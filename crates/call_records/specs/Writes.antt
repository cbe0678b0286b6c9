-- What may be written into the book of a line, as values: the book that an event leaves is the one before it with a
-- list of these written.
use Rattle.std.specs.Prelude.{ℕ, List, [], ◌∷◌, Option, Some}
use Rattle.link_timers.specs.declared.role.Role.{Role}
use Rattle.pad_editing.specs.Edited.{Step}
use Rattle.data_transfer.specs.Packets.{CallParts, Datum, Note}
use Rattle.data_transfer.specs.Traffic.{Taken}
use Rattle.data_transfer.specs.Traffic.Taken.{TakenInterrupt, TakenPacket}
use Rattle.packet_channel.specs.Channel.{Request, Refusal}
use Rattle.call_records.specs.Book.{Book, closes, sends, takes, releases, edits, all_told}
use Rattle.call_records.specs.Closing.{all_closed}
use Rattle.call_records.specs.Carried.{carried, unless_refused, placed_on}

-- ---- what an end's user asks, where it was not refused, and what its packet layer tells

pub data Write : Type 0 where
  -- the notes of the packet layer
  Told : List Note → Write
  -- a call that was placed, on this channel if there was one
  Placed : Option ℕ → CallParts → Write
  -- what was asked of a call, and what was at the front of the channel then
  Asked : Option Refusal → (channel : ℕ) → Request → Option Taken → Write
  -- packets that were accepted to be sent
  Said : Option Refusal → (channel : ℕ) → List Datum → Write
  -- what was taken, and released at once if it was a packet
  Took : (channel : ℕ) → Taken → Write
  -- a call that was cleared
  Cleared : Option Refusal → (channel : ℕ) → Write
  -- a step of editing at a PAD
  Edited : (channel : ℕ) → Step → Write
  -- the calls on all channels are over
  AllClosed : Write

-- packets that were accepted to be sent, one by one
abbrev pub all_sent : Role → (channel : ℕ) → List Datum → Book → Book
all_sent role channel [] b = b
all_sent role channel (d ∷ ds) b = all_sent role channel ds (sends role channel d b)

-- a packet that was taken is released at once; an interrupt was confirmed as it was taken
abbrev pub let_go : Taken → Role → (channel : ℕ) → Book → Book
let_go (TakenInterrupt octets) role channel b = b
let_go (TakenPacket d) role channel b = releases role channel 1 b

-- ---- a write at an end of the line, and a list of them in order

abbrev pub written_by : Role → Write → Book → Book
written_by role (Told notes) b = all_told role notes b
written_by role (Placed channel parts) b = placed_on role channel parts b
written_by role (Asked refusal channel r front) b = unless_refused refusal (carried role channel r front b) b
written_by role (Said refusal channel data_) b = unless_refused refusal (all_sent role channel data_ b) b
written_by role (Took channel x) b = let_go x role channel (takes role channel (Some x) b)
written_by role (Cleared refusal channel) b = unless_refused refusal (closes role channel b) b
written_by role (Edited channel step) b = edits role channel step b
written_by role AllClosed b = all_closed role b

abbrev pub all_written : Role → List Write → Book → Book
all_written role [] b = b
all_written role (write ∷ writes) b = all_written role writes (written_by role write b)
