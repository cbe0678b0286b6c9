-- What contracts see of the code's traffic, and what always holds of it.
use Rattle.std.specs.Prelude.{◌≡◌, ◌+◌, ◌++◌, ◌%◌, ◌<◌, ◌≤◌, length}
use Rattle.data_transfer.specs.Traffic.{Traffic, distance}
use Rattle.data_transfer.specs.Held as held
use Rattle.data_transfer.specs.declared.traffic.Traffic.TheInside.{Inside}

abbrev pub traffic_of : Inside → Traffic
traffic_of a = record {
  waiting = a.waiting.packets;
  send_number = (a.send.oldest + a.send.next) % 128;
  covered = a.send.oldest;
  undelivered = a.undelivered;
  arrived = a.arrived.packets;
  receive_number = a.expected;
  released = a.released;
  untold = a.untold;
  partner_busy = a.partner_busy;
  stopped = a.stopped;
  told_stopped = a.told_stopped;
  interrupt_waiting = a.interrupt_waiting;
  interrupt_unconfirmed = a.interrupt_unconfirmed;
  interrupt_arrived = a.interrupt_arrived;
  interrupt_taken = a.interrupt_taken;
  confirmation_due = a.confirmation_due;
}

abbrev pub holding : Inside → held.Traffic
holding a = record { traffic = traffic_of a; held = a.waiting.held ++ a.arrived.held }

-- each packet of both queues has its buffer; at most 8 wait to be sent; at most 32 to be taken; numbers are modulo 128
-- and none is sent again;
-- what waits to be taken is not released
pub record IsTraffic (a : Inside) : Type 0 where
  pub waiting_held : length a.waiting.held ≡ length a.waiting.packets
  pub arrived_held : length a.arrived.held ≡ length a.arrived.packets
  pub waiting : length a.waiting.packets ≤ 8
  pub waiting_places : a.waiting.places ≡ 8
  pub arrived_places : a.arrived.places ≡ 32
  pub size : a.send.size ≡ 127
  pub oldest : a.send.oldest < 128
  pub next : a.send.next ≤ 127
  pub top : a.send.top ≡ a.send.next
  pub expected : a.expected < 128
  pub released : a.released < 128
  pub arrived : length a.arrived.packets ≤ distance a.released a.expected
