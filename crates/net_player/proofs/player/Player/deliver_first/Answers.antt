use Rattle.std.proofs.Common.{arith, rules}
use Rattle.net_player.proofs.Deliveries.{delivers_one, delivers_none}
use Rattle.octet_streams.proofs.Written.{writes_as}
use Rattle.net_player.proofs.player.Player.deliver_first.Goals as goal

pub returns-then-branch : goal.returns-then-branch
returns-then-branch g c = record {
  delivers = writes_as (λ text tells. delivers_one c.args.left c.requires tells) (rw c.if-branch.true at c.in_ok-play_event.ensures.tells);
  at_most = omega arith;
  stops = search rules;
  faults = search rules;
}

pub returns : goal.returns
returns g c = record {
  delivers = writes_as (λ text tells. delivers_none c.args.left c.requires tells) (rw c.if-branch.false at c.in_ok-play_event.ensures.tells);
  at_most = omega arith;
  stops = search rules;
  faults = search rules;
}
