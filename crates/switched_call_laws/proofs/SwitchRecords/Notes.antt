-- Whatever a packet layer tells, what is written of it touches one channel of its end.
use Rattle.std.specs.Prelude.{ℕ, List, [], ◌∷◌}
use Rattle.std.proofs.Common.{refl}
use Rattle.link_timers.specs.declared.role.Role.{Role}
use Rattle.data_transfer.specs.Packets.{Note}
use Rattle.data_transfer.specs.Packets.Note.{Incoming, Connected, Closed, WasReset, InterruptConfirmed, Covered}
use Rattle.call_records.specs.Records.{with_covered, with_epoch}
use Rattle.call_records.specs.Book.{Book, told, all_told}
use Rattle.switched_call_laws.specs.SwitchRecords.Records.{AreApart}
use Rattle.switched_call_laws.proofs.SwitchRecords.Cells.{Touches, touches_none, touches_closed, touches_new, changes, apart_after}

-- a channel on which all of it is written
pub record TouchesOne (x : Role) (b b' : Book) : Type 0 where
  pub channel : ℕ
  pub touches : Touches x channel b b'

pub told_touches : (x : Role) (note : Note) (b : Book) → TouchesOne x b (told x note b)
told_touches x (Incoming c parts) b = record { channel = c; touches = touches_new x c _ _ b refl }
told_touches x (Connected c) b = record { channel = c; touches = touches_none x c b }
told_touches x (Closed c cause diagnostic reason) b = record { channel = c; touches = touches_closed x c b }
told_touches x (WasReset c cause diagnostic reason) b = record { channel = c; touches = changes x c with_epoch b }
told_touches x (InterruptConfirmed c) b = record { channel = c; touches = touches_none x c b }
told_touches x (Covered c n) b = record { channel = c; touches = changes x c (with_covered n) b }

pub all_apart : (x : Role) (notes : List Note) (b : Book) → AreApart b → AreApart (all_told x notes b)
all_apart x [] b a = a
all_apart x (note ∷ notes) b a = let t = told_touches x note b in all_apart x notes (told x note b) (apart_after x t.channel b (told x note b) t.touches a)
