use Rattle.std.proofs.Common.{rules}
use Rattle.flow_window.proofs.CountSteps.{shows_taken}
use Rattle.flow_window.proofs.send.SendWindow.take_number.Goals as goal

pub returns-clause-counts : goal.returns-clause-counts
returns-clause-counts g c = shows_taken g.M.Modulus.modulus c.args.self.now _ _ (search rules) (search rules) c.requires
