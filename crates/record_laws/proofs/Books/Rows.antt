-- A worked run of a line and its book, by computation: a call, data on it, a reset, and data again.
use Rattle.std.specs.Prelude.{is_some}
use Rattle.std.proofs.Common.{◌≡◌, ℕ, ◌<◌, ◌≤◌, true, false, List, [], ◌∷◌, Some, None, refl, arith}
use Rattle.epochs.specs.Epoch.{nothing_sent, nothing_taken}
use Rattle.data_transfer.specs.Flow.{modulo_8}
use Rattle.data_transfer.specs.Packets.{CallParts, Datum}
use Rattle.packet_channel.specs.Channel.Request.{Accept, Resetting, Sending, Taking, Releasing}
use Rattle.packet_laws.specs.LayerLine.Happening.{Here, There}
use Rattle.packet_laws.specs.LayerLine.Event.{Up, Calls, Requests, Offers, Arrives}
use Rattle.call_records.specs.Records.{RecordValue, new_record}
use Rattle.link_timers.specs.declared.role.Role.TheVariants.{Dte, Dce}
use Rattle.call_records.specs.Book.{packet_of, slot_at}
use Rattle.record_laws.specs.Books.Told.{World, Move, after_all, all_callers, start, AreAllowed}
use Rattle.record_laws.specs.Books.Told.Move.{Happens}
use Rattle.record_laws.specs.Books.Headline.{IsPaired, HasCallee, HaveRecords, PairHolds, BookHolds}
use Rattle.record_laws.proofs.Books.Answered.{are_answered}
use Rattle.record_laws.proofs.Books.Having.{have_records}
use Rattle.record_laws.proofs.Books.BookHolds.{book_holds, calls_hold}

abbrev pub parts : CallParts
parts = record { called = 5 ∷ 7 ∷ []; calling = []; facilities = []; user_part = [] }

abbrev pub said : ℕ → Datum
said octet = record { octets = octet ∷ []; more = false; qualified = false; delivery = false }

-- the link comes up, and both ends restart
abbrev pub set_up : List Move → List Move
set_up ms = Happens (Here (Up 1)) ∷ Happens (There (Up 1)) ∷ Happens (Here Offers) ∷ Happens (There Offers) ∷ Happens (Here Arrives) ∷ Happens (There Arrives) ∷ ms

-- a packet goes from one end to the other
abbrev onward : List Move → List Move
onward ms = Happens (Here Offers) ∷ Happens (There Arrives) ∷ ms

abbrev backward : List Move → List Move
backward ms = Happens (There Offers) ∷ Happens (Here Arrives) ∷ ms

-- the DTE calls, the DCE accepts
abbrev pub called : List Move → List Move
called ms = Happens (Here (Calls parts)) ∷ onward (Happens (There (Requests 1 Accept)) ∷ backward ms)

-- the DTE says something, and the DCE takes it
abbrev pub says : ℕ → List Move → List Move
says octet ms = Happens (Here (Requests 1 (Sending (said octet)))) ∷ onward (Happens (There (Requests 1 Taking)) ∷ ms)

-- what was taken is released, and so covered; then the DTE resets
abbrev resets : List Move → List Move
resets ms = Happens (There (Requests 1 (Releasing 1))) ∷ backward (Happens (Here (Requests 1 (Resetting 0 0))) ∷ onward (backward ms))

abbrev whole : List Move
whole = set_up (called (says 72 (resets (says 73 []))))

abbrev pub made : World
made = start 3 4 1 (modulo_8 2) false

abbrev caller : RecordValue
caller = record {
  number = 0;
  node = 3;
  own = None;
  far = Some (5 ∷ 7 ∷ []);
  caller = None;
  sent_before = record { packets = packet_of (said 72) ∷ []; interrupts = []; covered = 1 } ∷ [];
  sent = record { packets = packet_of (said 73) ∷ []; interrupts = []; covered = 0 };
  taken_before = nothing_taken ∷ [];
  taken = nothing_taken;
  closed = false;
  path = [];
  steps = [];
}

abbrev callee : RecordValue
callee = record {
  number = 1;
  node = 4;
  own = Some (5 ∷ 7 ∷ []);
  far = None;
  caller = Some 0;
  sent_before = nothing_sent ∷ [];
  sent = nothing_sent;
  taken_before = record { packets = packet_of (said 72) ∷ []; interrupts = []; released = 1 } ∷ [];
  taken = record { packets = packet_of (said 73) ∷ []; interrupts = []; released = 0 };
  closed = false;
  path = [];
  steps = [];
}

records_are : (after_all whole made).book.records ≡ caller ∷ callee ∷ []
records_are = refl

pairs_are : (after_all whole made).book.pairs ≡ record { caller = 0; callee = 1 } ∷ []
pairs_are = refl

-- a line whose sessions rise may run so
pub zero_one : 0 ≤ 1
zero_one = omega arith

pub one_one : 1 ≤ 1
one_one = omega arith

is_allowed : AreAllowed whole made
is_allowed =
    (zero_one, (zero_one, (tt, (tt, (one_one, (one_one, (tt, (tt, (one_one, (tt, (tt, (one_one, (tt, (tt, (one_one, (tt, (tt, (tt, (one_one, (tt, (tt, (one_one, (tt, (one_one, (tt, (tt, (one_one, (tt, tt))))))))))))))))))))))))))))

-- the call that came in is in the pair, in data transfer
pub small : 2 < 8
small = omega arith

is_paired : IsPaired (slot_at Dce 1 (after_all whole made).book) (after_all whole made).book.pairs
is_paired = (are_answered 3 4 1 (modulo_8 2) false one_one small whole is_allowed).paired Dce 1 _ refl refl refl

-- and so is the call at the end that placed it
has_callee : HasCallee (after_all whole made).book Dte 1
has_callee = (are_answered 3 4 1 (modulo_8 2) false one_one small whole is_allowed).placed Dte 1 _ refl refl refl

-- both records are open and present
has_records : HaveRecords (after_all whole made).book
has_records = have_records 3 4 1 (modulo_8 2) false one_one small whole is_allowed

-- before it is accepted, the book has it as one that came in
abbrev pub incoming : List Move
incoming = set_up (Happens (Here (Calls parts)) ∷ onward [])

pub incoming_allowed : AreAllowed incoming made
incoming_allowed = (zero_one, (zero_one, (tt, (tt, (one_one, (one_one, (tt, (tt, (one_one, tt)))))))))

came_in : is_some (slot_at Dce 1 (after_all incoming made).book).caller ≡ true
came_in = (are_answered 3 4 1 (modulo_8 2) false one_one small incoming incoming_allowed).came Dce 1 _ refl refl

-- and its record holds with the caller's as a pair does, though there is no pair yet
callers_are : all_callers incoming made [] ≡ None ∷ Some 0 ∷ []
callers_are = refl

no_pair_yet : (after_all incoming made).book.pairs ≡ []
no_pair_yet = refl

call_holds : PairHolds (after_all incoming made).book (record { caller = 0; callee = 1 })
call_holds = (calls_hold 3 4 1 (modulo_8 2) false one_one small incoming incoming_allowed).came 1 0 refl

-- ---- a call that gives a calling address, as a switch does

abbrev naming : CallParts
naming = record { called = 5 ∷ 7 ∷ []; calling = 9 ∷ []; facilities = []; user_part = [] }

abbrev named : List Move
named = set_up (Happens (Here (Calls naming)) ∷ onward (Happens (There (Requests 1 Accept)) ∷ []))

named_allowed : AreAllowed named made
named_allowed = (zero_one, (zero_one, (tt, (tt, (one_one, (one_one, (tt, (tt, (one_one, (tt, tt))))))))))

named_records : (after_all named made).book.records
    ≡ new_record 0 3 (Some (9 ∷ [])) (Some (5 ∷ 7 ∷ [])) None ∷ new_record 1 4 (Some (5 ∷ 7 ∷ [])) (Some (9 ∷ [])) (Some 0) ∷ []
named_records = refl

named_holds : BookHolds (after_all named made).book
named_holds = book_holds 3 4 1 (modulo_8 2) false one_one small named named_allowed
