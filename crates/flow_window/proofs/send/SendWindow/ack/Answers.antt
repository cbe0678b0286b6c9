use Rattle.std.proofs.Common.{rules, tests}
use Rattle.std.specs.Prelude.{Ok}
use Rattle.flow_window.proofs.CountSteps.{ack_named, ack_refused}
use Rattle.flow_window.proofs.send.SendWindow.ack.Goals as goal

pub returns-clause-window : goal.returns-clause-window
returns-clause-window g c = search (rules, tests)

pub returns-clause-named : goal.returns-clause-named
returns-clause-named g c =
    ack_named g.M.Modulus.modulus c.args.self.now _ c.args.nr _ (search rules) (returns-clause-window g c)

pub returns-clause-refused : goal.returns-clause-refused
returns-clause-refused g c =
    ack_refused g.M.Modulus.modulus c.args.self.now _ c.args.nr (Ok c.ahead_of-newly.result) (returns-clause-window g c)

pub returns-then-newly-top-clause-window : goal.returns-then-newly-top-clause-window
returns-then-newly-top-clause-window g c = search (rules, tests)

pub returns-then-newly-top-clause-named : goal.returns-then-newly-top-clause-named
returns-then-newly-top-clause-named g c =
    ack_named g.M.Modulus.modulus c.args.self.now _ c.args.nr _ (search rules) (returns-then-newly-top-clause-window g c)
