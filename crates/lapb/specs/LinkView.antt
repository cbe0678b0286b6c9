-- What contracts see of the code's link, and what always holds of it.
use Rattle.std.specs.Prelude.{◌<◌, ◌≤◌, length}
use Rattle.frame_codec.specs.declared.frame.Rejection.{Rejection}
use Rattle.frame_codec.specs.Views.{report_of}
use Rattle.lapb.specs.declared.link.Link.TheInside.{Inside}
use Rattle.lapb.specs.Machine as machine
use Rattle.lapb.specs.Held as held

abbrev pub link_of : Inside → machine.Link
link_of a = record {
  role = a.role;
  phase = a.phase;
  k = a.window.size;
  n2 = a.n2;
  info = a.info;
  oldest = a.window.oldest;
  next = a.window.next;
  top = a.window.top;
  expected = a.receive;
  queue = a.queue.packets;
  heard = a.heard;
  owed = a.owed;
  rejecting = a.rejecting;
  busy = a.busy;
  polling = a.polling;
  polls = a.polls;
  bit = a.bit;
  repeats = a.repeats;
  report = report_of a.report;
}

abbrev pub holding : Inside → held.Link
holding a = record { link = link_of a; held = a.queue.held }

-- the report repeats an octet and two numbers modulo 8
pub record IsReport (report : Rejection) : Type 0 where
  pub control : report.control < 256
  pub vs : report.vs < 8
  pub vr : report.vr < 8

pub record IsLink (a : Inside) : Type 0 where
  pub sent : a.window.top ≤ length a.queue.packets
  pub unacknowledged : length a.queue.packets ≤ a.window.size
  pub held : length a.queue.held ≤ a.window.size
  pub k_least : 1 ≤ a.window.size
  pub k_most : a.window.size ≤ 7
  pub polls : a.polls ≤ a.n2
  pub n2_least : 1 ≤ a.n2
  pub n2_most : a.n2 ≤ 20
  pub report : IsReport a.report
