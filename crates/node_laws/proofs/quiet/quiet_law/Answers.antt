use Rattle.node_laws.proofs.quiet.quiet_law.Goals as goal
use Rattle.node_laws.proofs.QuietTurns.{quiet-hears, quiet-expires, quiet-relinks, quiet-restarts, quiet-calls, quiet-asks, quiet-refuses, quiet-says, quiet-takes, quiet-terminals, quiet-elapses, quiet-made-pad, quiet-made-host}
use Rattle.node_laws.proofs.QuietOpens.{opens-hears, nothing-expires, nothing-relinks, opens-restarts, opens-calls, opens-asks, opens-refuses, opens-says, opens-takes, opens-terminals}

pub returns : goal.returns
returns c = record {
  hears = λ role n octets b q. (quiet-hears role n octets b q, opens-hears role n octets b);
  expires = λ role n id b q. record { leaves = quiet-expires role n id b q; opens = nothing-expires role n id b q };
  relinks = λ role n b q. record { leaves = quiet-relinks role n b q; opens = nothing-relinks role n b };
  restarts = λ role n b q. record { leaves = quiet-restarts role n b q; opens = opens-restarts role n b };
  calls = λ role e parts b q. record { leaves = quiet-calls role e parts b q; opens = opens-calls role e parts b q };
  asks = λ role e channel r b q. record { leaves = quiet-asks role e channel r b q; opens = opens-asks role e channel r b q };
  refuses = λ role e channel b q. record { leaves = quiet-refuses role e channel b q; opens = opens-refuses role e channel b q };
  says = λ role e channel octets qualified delivery b q. record {
    leaves = quiet-says role e channel octets qualified delivery b q;
    opens = opens-says role e channel octets qualified delivery b q;
  };
  takes = λ role e channel b q. record { leaves = quiet-takes role e channel b q; opens = opens-takes role e channel b q };
  terminals = λ role n terminal event b q. record { leaves = quiet-terminals role n terminal event b q; opens = opens-terminals role n terminal event b };
  elapses = quiet-elapses;
  made = (quiet-made-pad, quiet-made-host);
}
