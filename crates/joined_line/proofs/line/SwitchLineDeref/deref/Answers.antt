use Rattle.joined_line.proofs.Sharing.{end_holds}
use Rattle.joined_line.proofs.line.SwitchLineDeref.deref.Goals as goal

pub returns-clause-held : goal.returns-clause-held
returns-clause-held c pool h = end_holds c.self.inside c.args.self.now pool c.self.view_is h
