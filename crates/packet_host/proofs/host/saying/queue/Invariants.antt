use Rattle.std.proofs.Common.{◌≡◌, ◌-◌}
use Rattle.data_transfer.specs.Cutting.{full_packets, cut}
use Rattle.packet_host.specs.Saying.{message, queued}
use Rattle.packet_host.proofs.host.saying.queue.Given as goal

abbrev pub invariant-loop : goal.invariant-loop
invariant-loop l = record {
  left : l.end - l.counter ≡ full_packets l.size l.rest;
  queued : queued l.channel (cut l.size (message l.rest l.qualified l.delivery)) l.end-2
      ≡ queued l.channel (cut l.size (message l.fn.octets l.qualified l.delivery)) l.fn.end;
}
