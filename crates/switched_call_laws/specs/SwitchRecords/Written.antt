-- What the acts of a switch at the ends of its lines write in the books of these lines.
use Rattle.std.specs.Prelude.{◌≡◌, ℕ, Bool, true, ◌==◌, if◌then◌else◌, List, [], ◌∷◌, slice_get, Option, Some, None}
use Rattle.link_timers.specs.declared.role.Role.{Role}
use Rattle.link_timers.specs.declared.role.Role.TheVariants.{Dce}
use Rattle.data_transfer.specs.Traffic.{may_release}
use Rattle.packet_channel.specs.Channel.{Channel, Request}
use Rattle.packet_channel.specs.Channel.Request.{Releasing}
use Rattle.packet_layer.specs.Layer.{Layer, channel_of, channel_given, request_refusal, front_at, link_down}
use Rattle.call_records.specs.Book.{Book, all_told}
use Rattle.call_records.specs.Carried.{carried, unless_refused, placed_on}
use Rattle.call_records.specs.Writes.{Write}
use Rattle.call_records.specs.Writes.Write.{Told, Placed, Asked}
use Rattle.switch_laws.specs.World.{World, Act, line_of, after_act}
use Rattle.switch_laws.specs.World.Act.{Asks, Calls}
use Rattle.switch_laws.specs.Joined.{notes_made}
use Rattle.switched_call_laws.specs.SwitchRecords.Records.{AreRecords}

-- whether so many packets that were taken on a channel can be released
abbrev pub may_release_on : Option Channel → ℕ → Bool
may_release_on None n = true
may_release_on (Some ch) n = may_release n ch.traffic

-- a request that is not refused is written; and no more is released than was taken
abbrev pub request_writes : Role → (channel : ℕ) → Request → Option Channel → Book → Book
request_writes role c (Releasing n) o b =
    if may_release_on o n then carried role c (Releasing n) (front_at o) b else b
request_writes role c q o b = carried role c q (front_at o) b

-- what an act writes at an end with this layer: a request, a call that is placed, or what the layer tells
abbrev pub writes : Role → Act → Layer → Book → Book
writes role (Asks p q) l b =
    unless_refused (request_refusal l p.channel q) (request_writes role p.channel q (channel_of l p.channel) b) b
writes role (Calls n parts) l b = placed_on role (channel_given l l.phase) parts b
writes role act l b = all_told role (notes_made act (Some l)) b

-- the same as a list of writes
abbrev pub asked_writes : (channel : ℕ) → Request → Layer → List Write
asked_writes c (Releasing n) l =
    if may_release_on (channel_of l c) n
    then Asked (request_refusal l c (Releasing n)) c (Releasing n) (front_at (channel_of l c)) ∷ []
    else []
asked_writes c q l = Asked (request_refusal l c q) c q (front_at (channel_of l c)) ∷ []

abbrev pub act_writes : Act → Layer → List Write
act_writes (Asks p q) l = asked_writes p.channel q l
act_writes (Calls n parts) l = Placed (channel_given l l.phase) parts ∷ []
act_writes act l = Told (notes_made act (Some l)) ∷ []

-- ---- the books of all lines of a switch, as it sees them: its own side is the DCE's

abbrev pub Books : Type 0
Books = ℕ → Book

abbrev pub writes_at : Act → Option Layer → Book → Book
writes_at act None b = b
writes_at act (Some l) b = writes Dce act l b

abbrev pub books_after : Act → List Layer → Books → Books
books_after act ys bs = λ n. if n == line_of act then writes_at act (slice_get ys n) (bs n) else bs n

abbrev pub books_after_all : List Act → List Layer → Books → Books
books_after_all [] ys bs = bs
books_after_all (a ∷ more) ys bs = books_after_all more (after_act a ys) (books_after a ys bs)

-- the switch restarts: all links are down
abbrev pub restart_writes : Option Layer → Book → Book
restart_writes None b = b
restart_writes (Some l) b = all_told Dce (link_down l).notes b

abbrev pub restarted_books : List Layer → Books → Books
restarted_books ys bs = λ n. restart_writes (slice_get ys n) (bs n)

-- the present records of each line's book at the switch's side are the legs of the line's channels
abbrev pub HaveRecords : List Layer → World → Books → Type 0
HaveRecords ys w bs = (n : ℕ) (l : Layer) → slice_get ys n ≡ Some l
    → AreRecords Dce l (λ c. w (record { line = n; channel = c })) (bs n)
