use Rattle.std.proofs.Common.{rules}
use Rattle.frame_codec.specs.Views.{value_of}
use Rattle.frame_codec.proofs.Grammar.{spelled_form}
use Rattle.frame_codec.proofs.writing.write_frame.Goals as goal

pub returns-in-I-clause-reads_back : goal.returns-in-I-clause-reads_back
returns-in-I-clause-reads_back c info spelt =
    spelled_form c.args.from info (value_of c.args.frame.now) _ spelt (search rules)

pub returns-in-Frmr-clause-reads_back : goal.returns-in-Frmr-clause-reads_back
returns-in-Frmr-clause-reads_back c info spelt =
    spelled_form c.args.from info (value_of c.args.frame.now) _ spelt (search rules)
