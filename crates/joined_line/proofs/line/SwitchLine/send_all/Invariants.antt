-- What is left to ask makes the same line as all of it did at the beginning.
use Rattle.std.proofs.Common.{◌≡◌, ◌<◌, map, drop, length}
use Rattle.flow_window.specs.Pool.{Balances}
use Rattle.packet_channel.specs.Channel.{Request}
use Rattle.packet_end.specs.Pooled.{Serves}
use Rattle.joined_line.specs.OfLine.{asked_on}
use Rattle.joined_line.proofs.line.SwitchLine.send_all.Given as goal

abbrev pub invariant-loop-n : goal.invariant-loop-n
invariant-loop-n l = record {
  line : asked_on l.channel (drop l.n (map Request.Sending l.due.made)) l.self.line ≡ asked_on l.channel (map Request.Sending l.due.made) l.fn.self.line;
  claim : l.self.claim ≡ l.fn.self.claim;
  serves : Serves l.pool l.self.held l.self.claim.share l.self.claim.info;
  within : length l.self.held < l.self.claim.share;
  pool : Balances l.fn.pool l.fn.self.held l.pool l.self.held;
}
