use Rattle.std.proofs.Common.{rules}
use Rattle.flow_window.proofs.CountSteps.{shows_gone_back}
use Rattle.flow_window.proofs.send.SendWindow.go_back.Goals as goal

pub returns-clause-counts : goal.returns-clause-counts
returns-clause-counts g c = shows_gone_back g.M.Modulus.modulus c.args.self.now _ c.args.nr (search rules) (search
    rules)
