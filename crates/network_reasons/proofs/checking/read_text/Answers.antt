use Rattle.network_reasons.proofs.Reading.{read_so}
use Rattle.network_reasons.proofs.checking.read_text.Goals as goal

pub returns-in-Ok : goal.returns-in-Ok
returns-in-Ok c =
    read_so c.args.text.now c.in-Ok.config c.served.result c.in-Ok.ensures.spelled c.served.ensures
