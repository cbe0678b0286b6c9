-- A line whose other end is in another process.
use Rattle.std.specs.Prelude.{ℕ, Bool, true, false, not, ◌||◌, ◌-◌, ◌*◌, ◌==◌, List, Option, Some, None, Result, Ok, Err, if◌then◌else◌}
use Rattle.line_carriers.specs.declared.fault.CarrierFault.{CarrierFault}
use Rattle.line_carriers.specs.declared.hello.Hello.{Hello}
use Rattle.line_carriers.specs.declared.carrier.Expiry.{Expiry}
use Rattle.line_carriers.specs.declared.carrier.Expiry.TheVariants as expiry
use Rattle.line_carriers.specs.declared.carrier.Heard.{Heard}
use Rattle.line_carriers.specs.declared.carrier.Heard.TheVariants as heard
use Rattle.line_carriers.specs.Carrier as carrier
use Rattle.line_carriers.specs.Carrier.{new_carrier, is_ready, is_open, after_start, after_next, after_ticks}
use Rattle.remote_lines.specs.declared.order.Ending.{Ending}
use Rattle.remote_lines.specs.declared.order.Ending.TheVariants.{Fault, Silence}
use Rattle.remote_lines.specs.declared.order.LineOrder.{LineOrder}
use Rattle.remote_lines.specs.declared.order.LineOrder.TheVariants.{Close, TellOpen, TellClosed}
use Rattle.remote_lines.specs.declared.line.LineEnd.{LineEnd}
use Rattle.remote_lines.specs.declared.line.LineState.{LineState}
use Rattle.remote_lines.specs.declared.line.LineState.TheVariants.{Starting, Ready, Closed, Open}
use Rattle.remote_lines.specs.declared.line.Reading.{Reading}
use Rattle.remote_lines.specs.declared.line.Reading.TheVariants.{Nothing, OfLine, Frame}
use Rattle.remote_lines.specs.declared.line.RemoteLine.{RemoteLine}

abbrev pub new_line : LineEnd → Hello → (hold silence : ℕ) → RemoteLine
new_line end hello hold silence = record {
  end = end;
  carrier = new_carrier hello hold silence;
  wait = 2 * silence;
  gives_up = false;
  ending = None;
  told_open = false;
}

-- whether the node here has started, and what both ends say then
abbrev pub state_of : RemoteLine → LineState
state_of r =
    if r.carrier.started then (if is_open r.carrier then Open else Closed)
    else if is_ready r.carrier then Ready
    else Starting

-- ---- the connection

abbrev pub connected : RemoteLine → RemoteLine
connected r = record r { carrier = carrier.connected r.carrier; ending = None }

abbrev pub lost : RemoteLine → RemoteLine
lost r = record r { carrier = carrier.lost r.carrier; ending = None }

-- ---- what comes next is read

abbrev pub reading_of : Result Heard CarrierFault → Reading
reading_of (Ok heard.Nothing) = Nothing
reading_of (Ok heard.Frame) = Frame
reading_of (Ok _) = OfLine
reading_of (Err fault) = OfLine

abbrev pub with_heard : RemoteLine → Result Heard CarrierFault → RemoteLine
with_heard r (Ok _) = r
with_heard r (Err fault) = record r { ending = Some (Fault fault) }

-- a fault closes the connection
abbrev pub after_read : RemoteLine → (frame : List ℕ) → RemoteLine
after_read r old =
    with_heard (record r { carrier = (after_next r.carrier old).carrier }) (after_next r.carrier old).answer

-- ---- the node here starts

-- the partner is ready, or the wait is over
abbrev pub may_start : RemoteLine → Bool
may_start r = is_ready r.carrier || r.wait == 0

-- a line that ends at the node of this place lets it start
abbrev pub lets_start : (node : ℕ) → RemoteLine → Bool
lets_start node r = not (r.end.node == node) || may_start r

abbrev pub with_answer : RemoteLine → Result (Unit {0}) CarrierFault → RemoteLine
with_answer r (Ok _) = r
with_answer r (Err fault) = record r { ending = Some (Fault fault) }

abbrev pub started : RemoteLine → RemoteLine
started r = with_answer (record r { carrier = (after_start r.carrier).carrier }) (after_start r.carrier).answer

-- ---- time

-- a connection that was silent is to be closed; without the partner for long enough the link is to be given up
abbrev pub with_expiry : RemoteLine → Option Expiry → RemoteLine
with_expiry r None = r
with_expiry r (Some expiry.Silence) = record r { ending = Some Silence }
with_expiry r (Some expiry.Hold) = record r { gives_up = r.carrier.started }

abbrev pub elapsed : RemoteLine → (ticks : ℕ) → RemoteLine
elapsed r ticks =
    with_expiry (record r { carrier = (after_ticks r.carrier ticks).carrier; wait = r.wait - ticks })
    (after_ticks r.carrier ticks).expiry

-- ---- orders

-- the log is told what it has otherwise
abbrev pub news : (told is : Bool) → Option LineOrder
news false true = Some TellOpen
news true false = Some TellClosed
news _ _ = None

abbrev pub order_by : Option Ending → RemoteLine → Option LineOrder
order_by (Some ending) r = Some (Close ending)
order_by None r = news r.told_open (is_open r.carrier)

abbrev pub first_order : RemoteLine → Option LineOrder
first_order r = order_by r.ending r

abbrev pub after_order_by : Option Ending → RemoteLine → RemoteLine
after_order_by (Some ending) r = record r { ending = None }
after_order_by None r = record r { told_open = is_open r.carrier }

abbrev pub after_order : RemoteLine → RemoteLine
after_order r = after_order_by r.ending r
