-- What the book has of that which a user asked, where it was not refused.
use Rattle.std.specs.Prelude.{ℕ, Option, Some, None}
use Rattle.link_timers.specs.declared.role.Role.{Role}
use Rattle.data_transfer.specs.Packets.{CallParts}
use Rattle.data_transfer.specs.Traffic.{Taken}
use Rattle.packet_channel.specs.Channel.{Request, Refusal}
use Rattle.packet_channel.specs.Channel.Request.{Accept, Clearing, Resetting, Sending, Interrupting, Taking, Releasing}
use Rattle.call_records.specs.Book.{Book, places_from, answers, closes, renews, sends, interrupts, takes, releases}

-- what the user asked, where it was not refused; what is taken is what was at the front before
abbrev pub carried : Role → (channel : ℕ) → Request → Option Taken → Book → Book
carried role channel Accept front b = answers role channel b
carried role channel (Clearing cause diagnostic) front b = closes role channel b
carried role channel (Resetting cause diagnostic) front b = renews role channel b
carried role channel (Sending d) front b = sends role channel d b
carried role channel (Interrupting octets) front b = interrupts role channel octets b
carried role channel Taking front b = takes role channel front b
carried role channel (Releasing count) front b = releases role channel count b
carried role channel _ front b = b

abbrev pub unless_refused : Option Refusal → (done old : Book) → Book
unless_refused None done old = done
unless_refused (Some r) done old = old

abbrev pub placed_on : Role → Option ℕ → CallParts → Book → Book
placed_on role None parts b = b
placed_on role (Some channel) parts b = places_from role channel parts.calling parts.called b
