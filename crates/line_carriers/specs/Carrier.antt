-- One end of a line over a connection.
use Rattle.std.specs.Prelude.{ℕ, Bool, true, false, not, ◌&&◌, ◌+◌, ◌-◌, ◌/◌, ◌==◌, List, [], ◌++◌, length, take, drop, min, Option, Some, None, Result, Ok, Err, if◌then◌else◌, nat_lt, nat_le}
use Rattle.octet_rings.specs.Places.{most_octets}
use Rattle.link_timers.specs.Timers.{lowered, is_due}
use Rattle.line_carriers.specs.declared.fault.CarrierFault.{CarrierFault}
use Rattle.line_carriers.specs.declared.fault.CarrierFault.TheVariants.{OtherProtocol, OutOfTurn, NoRoom}
use Rattle.line_carriers.specs.declared.sign.Sign.{Sign}
use Rattle.line_carriers.specs.declared.sign.Sign.TheVariants.{StillHere, Starting, Ready, Open}
use Rattle.line_carriers.specs.declared.hello.Hello.{Hello}
use Rattle.line_carriers.specs.declared.carrier.Carrier.{Carrier}
use Rattle.line_carriers.specs.declared.carrier.Partner.{Partner}
use Rattle.line_carriers.specs.declared.carrier.Connection.{Connection}
use Rattle.line_carriers.specs.declared.carrier.Connection.TheVariants.{Away, Greeting, Met}
use Rattle.line_carriers.specs.declared.carrier.Expiry.{Expiry}
use Rattle.line_carriers.specs.declared.carrier.Expiry.TheVariants.{Silence, Hold}
use Rattle.line_carriers.specs.declared.carrier.Heard.{Heard}
use Rattle.line_carriers.specs.declared.carrier.Heard.TheVariants as heard
use Rattle.line_carriers.specs.Wire.{sign_form, is_frame}
use Rattle.line_carriers.specs.declared.wire.Item.{Item}
use Rattle.line_carriers.specs.declared.wire.Item.TheVariants as item
use Rattle.line_carriers.specs.Reading.{first_item, answer_of, frame_after, rest_after}
use Rattle.line_carriers.specs.Hello.{hello_form, hello_read}

abbrev pub new_carrier : Hello → (hold silence : ℕ) → Carrier
new_carrier hello hold silence = record {
  hello = hello;
  hold = hold;
  silence = silence;
  started = false;
  connection = Away;
  left = None;
  absence = Some hold;
  pulse = None;
  input = [];
  output = [];
}

-- ---- the connection

-- what an end says after its hello
abbrev pub first_sign : Carrier → Sign
first_sign c = if c.started then Open else Starting

-- Once a connection is over, the partner has `hold` ticks to come again. If its hello was not read, the time that it had
-- goes on.
abbrev pub absence_after : Connection → Carrier → Option ℕ
absence_after (Met partner) c = Some c.hold
absence_after _ c = c.absence

-- a new one stands: the end says hello, and that it is open or starts
abbrev pub connected : Carrier → Carrier
connected c = record c {
  connection = Greeting;
  left = Some c.silence;
  absence = absence_after c.connection c;
  pulse = Some (c.silence / 3);
  input = [];
  output = hello_form c.hello ++ sign_form (first_sign c);
}

-- it is closed, and what it had is dropped
abbrev pub cut : Carrier → Carrier
cut c = record c {
  connection = Away;
  left = None;
  absence = absence_after c.connection c;
  pulse = None;
  input = [];
  output = [];
}

abbrev pub is_connection : Connection → Bool
is_connection Away = false
is_connection _ = true

abbrev pub stands : Carrier → Bool
stands c = is_connection c.connection

abbrev pub lost : Carrier → Carrier
lost c = if stands c then cut c else c

abbrev pub says_ready : Connection → Bool
says_ready (Met partner) = partner.ready
says_ready _ = false

abbrev pub is_ready : Carrier → Bool
is_ready c = says_ready c.connection

abbrev pub says_open : Connection → Bool
says_open (Met partner) = partner.opened
says_open _ = false

-- both ends have opened the line
abbrev pub is_open : Carrier → Bool
is_open c = c.started && says_open c.connection

-- ---- octets and frames

abbrev pub takes_octets : Carrier → (count : ℕ) → ℕ
takes_octets c count = if stands c then min count (most_octets - length c.input) else 0

abbrev pub with_octets : Carrier → List ℕ → Carrier
with_octets c octets =
    if stands c then record c { input = c.input ++ octets; left = Some c.silence } else c

-- what an end makes of the first octets over a connection: the number of the partner's start, or the first thing that
-- differs from the hello of a partner
abbrev pub meets : Carrier → List ℕ → Result ℕ CarrierFault
meets c octets = if nat_le 48 (length octets) then hello_read c.hello (take 48 octets) else Err OtherProtocol

abbrev pub takes_frame : Carrier → List ℕ → Bool
takes_frame c octets = is_frame octets && (is_open c && nat_le (length c.output + (2 + length octets)) most_octets)

abbrev pub has_sign_room : Carrier → Bool
has_sign_room c = nat_le (length c.output + 3) most_octets

abbrev pub with_sign : Carrier → Sign → Carrier
with_sign c it = record c { output = c.output ++ sign_form it }

-- ---- the end here opens

pub record Started : Type 0 where
  pub carrier : Carrier
  pub answer : Result (Unit {0}) CarrierFault

abbrev pub with_start : Carrier → Started
with_start c =
    if not (stands c) then record { carrier = c; answer = Ok tt }
    else if has_sign_room c then record { carrier = with_sign c Open; answer = Ok tt }
    else record { carrier = cut c; answer = Err NoRoom }

abbrev pub after_start : Carrier → Started
after_start c = if c.started then record { carrier = c; answer = Ok tt } else with_start (record c { started = true })

-- ---- what comes next is read

-- an end after it, what is answered, and the frame in the buffer
pub record Step : Type 0 where
  pub carrier : Carrier
  pub answer : Result Heard CarrierFault
  pub frame : List ℕ

pub record Told : Type 0 where
  pub carrier : Carrier
  pub answer : Result Heard CarrierFault

abbrev pub told : Carrier → Result Heard CarrierFault → Told
told c answer = record { carrier = c; answer = answer }

abbrev pub met_after : Carrier → Result ℕ CarrierFault → Told
met_after c (Ok start) =
    told (record c { connection = Met (record { ready = false; opened = false }); absence = None }) (Ok (heard.Hello start))
met_after c (Err fault) = told c (Err fault)

-- the hello, as soon as its 48 octets came
abbrev pub after_hello : Carrier → Told
after_hello c =
    if nat_lt (length c.input) 48 then told c (Ok heard.Nothing)
    else met_after (record c { input = drop 48 c.input }) (hello_read c.hello (take 48 c.input))

-- a sign of a partner that said so much
abbrev pub after_sign : Carrier → Partner → Sign → Told
after_sign c partner StillHere = told c (Ok (heard.Sign StillHere))
after_sign c partner Starting =
    if partner.opened then told c (Err OutOfTurn)
    else if has_sign_room c then told (with_sign c Ready) (Ok (heard.Sign Starting))
    else told c (Err NoRoom)
after_sign c partner Ready =
    told (record c { connection = Met (record partner { ready = true }) }) (Ok (heard.Sign Ready))
after_sign c partner Open =
    told (record c { connection = Met (record partner { opened = true }) }) (Ok (heard.Sign Open))

abbrev pub step_of : Told → (frame : List ℕ) → Step
step_of t octets = record { carrier = t.carrier; answer = t.answer; frame = octets }

-- what an item that was taken from the octets comes to
abbrev pub with_item : Carrier → Partner → Result (Option Item) CarrierFault → Told
with_item c partner (Ok None) = told c (Ok heard.Nothing)
with_item c partner (Ok (Some (item.Sign it))) = after_sign c partner it
with_item c partner (Ok (Some item.Frame)) = told c (Ok (if is_open c then heard.Frame else heard.Lost))
with_item c partner (Err fault) = told c (Err fault)

-- the first item, if the whole of it came
abbrev pub after_item : Carrier → Partner → (frame : List ℕ) → Step
after_item c partner old =
    let first = first_item c.input in
    step_of (with_item (record c { input = rest_after c.input first }) partner (answer_of first)) (frame_after old first)

abbrev pub read_by : Connection → Carrier → (frame : List ℕ) → Step
read_by Away c old = step_of (told c (Ok heard.Nothing)) old
read_by Greeting c old = step_of (after_hello c) old
read_by (Met partner) c old = after_item c partner old

abbrev pub closed_by : Result Heard CarrierFault → Carrier → Carrier
closed_by (Ok _) c = c
closed_by (Err _) c = cut c

-- a fault closes the connection
abbrev pub after_next : Carrier → (frame : List ℕ) → Step
after_next c old =
    let read = read_by c.connection c old in record read { carrier = closed_by read.answer read.carrier }

-- ---- time

pub record Elapsed : Type 0 where
  pub carrier : Carrier
  pub expiry : Option Expiry

abbrev pub after_beat : Carrier → Carrier
after_beat c = record c {
  pulse = Some (c.silence / 3);
  output = if length c.output == 0 then c.output ++ sign_form StillHere else c.output;
}

abbrev pub expired : Carrier → Elapsed
expired c =
    if is_due c.left then record { carrier = cut c; expiry = Some Silence }
    else if is_due c.absence then record { carrier = record c { absence = None }; expiry = Some Hold }
    else record { carrier = if is_due c.pulse then after_beat c else c; expiry = None }

abbrev pub after_ticks : Carrier → (ticks : ℕ) → Elapsed
after_ticks c ticks = expired (record c {
  left = lowered ticks c.left;
  absence = lowered ticks c.absence;
  pulse = lowered ticks c.pulse;
})
