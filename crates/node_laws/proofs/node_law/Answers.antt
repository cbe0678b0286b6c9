use Rattle.node_laws.proofs.Hearing.{hears_keeps, expires_keeps, relinks_keeps, restarts_keeps, terminals_keep}
use Rattle.node_laws.proofs.Asking.{calls_keeps, asks_keeps, refuses_keeps, says_keeps, takes_keeps}
use Rattle.node_laws.proofs.Making.{elapses_keeps, making_keeps, made_nodes}
use Rattle.node_laws.proofs.node_law.Goals as goal

pub returns : goal.returns
returns c = record {
  hears = hears_keeps;
  expires = expires_keeps;
  relinks = relinks_keeps;
  restarts = restarts_keeps;
  calls = calls_keeps;
  asks = asks_keeps;
  refuses = refuses_keeps;
  says = says_keeps;
  takes = takes_keeps;
  terminals = terminals_keep;
  elapses = elapses_keeps;
  made = making_keeps;
  nodes = made_nodes;
}
