use Rattle.std.proofs.Common.{◌<◌, subst, arith, rules}
use Rattle.std.proofs.lemmas.Bool.{OnTrue_at}
use Rattle.net_nodes.specs.Happening.{FindsNoFrame}
use Rattle.net_player.proofs.Deliveries.{delivers_at_limit, delivers_none, none_found}
use Rattle.octet_streams.proofs.Written.{writes_nothing}
use Rattle.net_player.proofs.player.Player.deliver.Goals as goal

pub returns-then-left-eq0 : goal.returns-then-left-eq0
returns-then-left-eq0 g c = record {
  delivers = writes_nothing _ (delivers_at_limit _ (omega arith));
  at_most = omega arith;
  stops = search rules;
  faults = search rules;
}

pub returns-then-finds_none : goal.returns-then-finds_none
returns-then-finds_none g c =
    let some : 0 < c.args.left = omega arith in
    let found = subst (FindsNoFrame g.L.Line.service c.args.delivery.line c.args.delivery.direction) c.deref.ensures
    (OnTrue_at c.if-finds_none.true c.finds_none.ensures) in
    record {
      delivers = writes_nothing _
          (delivers_none c.args.left some (none_found found));
      at_most = omega arith;
      stops = search rules;
      faults = search rules;
    }
