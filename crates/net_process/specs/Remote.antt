-- The calls of whoever has the connections of remote lines.
use Rattle.std.specs.Prelude.{◌≡◌, ◌⊎◌, ℕ, Bool, true, false, List, [], drop, set, slice_get, Option, Some, None, Result}
use Rattle.std.specs.List.{position}
use Rattle.link_timers.specs.declared.role.Role.{Role}
use Rattle.link_timers.specs.declared.role.Role.TheVariants.{Dte, Dce}
use Rattle.frame_lines.specs.Lines.{LineService}
use Rattle.line_carriers.specs.declared.fault.CarrierFault.{CarrierFault}
use Rattle.line_carriers.specs.Carrier.{meets, takes_octets, with_octets, after_next}
use Rattle.net_events.specs.declared.event.Event.{Event}
use Rattle.net_events.specs.declared.event.Event.TheVariants.{Relink, GivesUp}
use Rattle.net_events.specs.Network.{NetLine, Network}
use Rattle.net_events.specs.OneLine.{direction_to}
use Rattle.net_nodes.specs.Carrying.{PutAt}
use Rattle.remote_lines.specs.declared.line.LineEnd.{LineEnd}
use Rattle.remote_lines.specs.declared.line.LineState.{LineState}
use Rattle.remote_lines.specs.declared.line.Reading.{Reading}
use Rattle.remote_lines.specs.declared.line.Reading.TheVariants.{Nothing, OfLine, Frame}
use Rattle.remote_lines.specs.declared.line.RemoteLine.{RemoteLine}
use Rattle.remote_lines.specs.declared.order.LineOrder.{LineOrder}
use Rattle.remote_lines.specs.RemoteLine as remote
use Rattle.remote_lines.specs.RemoteLine.{state_of, first_order, after_order, reading_of, after_read}
use Rattle.net_process.specs.Process.{ProcessState}
use Rattle.net_process.specs.Carrying.{settled}

abbrev pub changed_by : Option RemoteLine → (place : ℕ) → (RemoteLine → RemoteLine) → ProcessState → ProcessState
changed_by None place change p = p
changed_by (Some r) place change p = record p { lines = set p.lines place (change r) }

-- the remote line of this place changes, if there is one
abbrev pub changed : (place : ℕ) → (RemoteLine → RemoteLine) → ProcessState → ProcessState
changed place change p = changed_by (slice_get p.lines place) place change p

abbrev pub line_by : Option RemoteLine → Option (LineEnd × LineState)
line_by None = None
line_by (Some r) = Some (r.end, state_of r)

-- the end here of the remote line of this place, and how far the line is
abbrev pub line_at : (place : ℕ) → ProcessState → Option (LineEnd × LineState)
line_at place p = line_by (slice_get p.lines place)

-- what the first octets over a connection say of its partner
abbrev pub meets_by : Option RemoteLine → List ℕ → Option (Result ℕ CarrierFault)
meets_by None octets = None
meets_by (Some r) octets = Some (meets r.carrier octets)

abbrev pub meets_at : (place : ℕ) → ProcessState → List ℕ → Option (Result ℕ CarrierFault)
meets_at place p octets = meets_by (slice_get p.lines place) octets

-- ---- connections

-- a new one stands, or the old one broke; then nothing that it brought is in flight here
abbrev pub made : (place : ℕ) → ProcessState → ProcessState
made place p = settled place (changed place remote.connected p)

abbrev pub lost : (place : ℕ) → ProcessState → ProcessState
lost place p = settled place (changed place remote.lost p)

-- ---- octets

abbrev pub takes_by : Option RemoteLine → (count : ℕ) → ℕ
takes_by None count = 0
takes_by (Some r) count = takes_octets r.carrier count

abbrev pub takes : (place : ℕ) → ProcessState → (count : ℕ) → ℕ
takes place p count = takes_by (slice_get p.lines place) count

abbrev pub with_came : (place : ℕ) → List ℕ → ProcessState → ProcessState
with_came place octets = changed place (λ r. record r { carrier = with_octets r.carrier octets })

abbrev pub output_by : Option RemoteLine → List ℕ
output_by None = []
output_by (Some r) = r.carrier.output

abbrev pub output_at : (place : ℕ) → ProcessState → List ℕ
output_at place p = output_by (slice_get p.lines place)

abbrev pub with_written : (place count : ℕ) → ProcessState → ProcessState
with_written place count =
    changed place (λ r. record r { carrier = record r.carrier { output = drop count r.carrier.output } })

-- ---- what comes next is read

-- a frame is put on the line for the node here; what concerns the line may have closed it
abbrev pub WithReading : LineService → Reading → (place : ℕ) → LineEnd → (frame : List ℕ) → (p q : ProcessState) → Type 0
WithReading L Nothing place end frame p q = q ≡ p
WithReading L OfLine place end frame p q = q ≡ settled place p
WithReading L Frame place end frame p q =
    (part : Network) × (q ≡ record p { part = part })
    × ((l : NetLine) → slice_get p.part.lines end.line ≡ Some l
    → PutAt L end.line (direction_to end.role) frame l p.part part)
    × (slice_get p.part.lines end.line ≡ None → part ≡ p.part)

-- what comes next on a remote line was read, into a buffer that held this
pub record HasReadOn (L : LineService) (r : RemoteLine) (place : ℕ) (old : List ℕ) (p : ProcessState) (answer : Reading)
    (frame : List ℕ) (q : ProcessState) : Type 0 where
  pub answer_is : answer ≡ reading_of (after_next r.carrier old).answer
  pub frame_is : frame ≡ (after_next r.carrier old).frame
  pub reading : WithReading L (reading_of (after_next r.carrier old).answer) place r.end (after_next r.carrier old).frame
      (changed place (λ r. after_read r old) p) q

-- or nothing was read
abbrev pub HasRead : LineService → (place : ℕ) → (old : List ℕ) → (p : ProcessState) → Reading → (frame : List ℕ)
    → (q : ProcessState) → Type 0
HasRead L place old p answer frame q =
    (answer ≡ Nothing) × (frame ≡ old) × (q ≡ p)
    ⊎ (r : RemoteLine) × (slice_get p.lines place ≡ Some r) × HasReadOn L r place old p answer frame q

-- ---- orders

abbrev pub order_by : Option RemoteLine → Option LineOrder
order_by None = None
order_by (Some r) = first_order r

abbrev pub order_at : (place : ℕ) → ProcessState → Option LineOrder
order_at place p = order_by (slice_get p.lines place)

abbrev pub after_order_at : (place : ℕ) → ProcessState → ProcessState
after_order_at place = changed place after_order

-- ---- links that are given up

-- the DTE sets its link up again, the DCE waits for that
abbrev pub given_up_by : Role → (line : ℕ) → Event
given_up_by Dte line = Relink line
given_up_by Dce line = GivesUp line

abbrev pub given_up_at : LineEnd → Event
given_up_at end = given_up_by end.role end.line

abbrev pub is_given_up : RemoteLine → Bool
is_given_up r = r.gives_up

abbrev pub given_up_on : Option RemoteLine → Option Event
given_up_on None = None
given_up_on (Some r) = Some (given_up_at r.end)

abbrev pub event_at : Option ℕ → ProcessState → Option Event
event_at None p = None
event_at (Some place) p = given_up_on (slice_get p.lines place)

-- the first remote line on which a link is to be given up
abbrev pub given_up : ProcessState → Option Event
given_up p = event_at (position is_given_up p.lines) p

abbrev pub given_up_once : Option ℕ → ProcessState → ProcessState
given_up_once None p = p
given_up_once (Some place) p = changed place (λ r. record r { gives_up = false }) p

abbrev pub after_given_up : ProcessState → ProcessState
after_given_up p = given_up_once (position is_given_up p.lines) p
