use Rattle.std.proofs.Common.{◌≡◌, ◌≤◌, ◌<◌, true, length}
use Rattle.flow_window.specs.Pool.{Balances}
use Rattle.packet_end.specs.PacketEnd.{all_offered}
use Rattle.packet_end.proofs.Offering.{left_after, may_offer}
use Rattle.packet_end.proofs.pooled.PooledEnd.offer_packets.Given as goal

-- what is left to offer makes the same end as all did at the beginning, and each packet that was offered is queued
abbrev pub invariant-loop-count : goal.invariant-loop-count
invariant-loop-count l = record {
  left : left_after l.count l.self.end ≡ all_offered l.fn.self.end;
  queued : l.count ≤ length l.self.end.line.link.queue;
  notes : l.self.end.notes ≡ l.fn.self.end.notes;
  begins : l.count ≡ 0 → l.self.end ≡ l.fn.self.end;
  some : 1 ≤ l.count → may_offer l.fn.self.end ≡ true;
  most : 1 ≤ l.count → l.self.end.line.link.k ≤ 7;
  pool : Balances l.fn.pool l.fn.self.held l.pool l.self.held;
  share : l.self.share ≡ l.fn.self.share;
  info : l.self.info ≡ l.fn.self.info;
  within : 1 ≤ l.count → length l.self.held < l.self.share;
}
