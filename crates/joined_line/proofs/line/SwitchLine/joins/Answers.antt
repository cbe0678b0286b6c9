use Rattle.joined_line.proofs.Sharing.{joins_hold}
use Rattle.joined_line.proofs.line.SwitchLine.joins.Goals as goal

pub returns-clause-held : goal.returns-clause-held
returns-clause-held c pool h = joins_hold c.self.inside c.args.self.now pool c.self.view_is h
