use Rattle.std.proofs.Common.{◌≡◌, length}
use Rattle.net_player.proofs.program.socket_lines.Given as goal

abbrev pub invariant-loop : goal.invariant-loop
invariant-loop g l = length l.lines.items ≡ l.counter
