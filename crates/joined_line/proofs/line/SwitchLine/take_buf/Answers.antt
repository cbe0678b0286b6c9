use Rattle.joined_line.proofs.Sharing.{end_loses}
use Rattle.data_transfer.specs.TakenView.{maybe_buffers_in}
use Rattle.joined_line.proofs.line.SwitchLine.take_buf.Goals as goal

pub returns-clause-held : goal.returns-clause-held
returns-clause-held c =
    end_loses c.self.inside c.args.self.now (maybe_buffers_in c.take_buf.result) c.take_buf.new.self c.self.view_is c.take_buf.ensures.held
