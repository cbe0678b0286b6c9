use Rattle.net_player.specs.Programs.{fault_line}
use Rattle.net_player.proofs.Parts.{told_line}
use Rattle.net_player.proofs.program.tell_fault.Goals as goal

pub returns-clause-told : goal.returns-clause-told
returns-clause-told g c =
    told_line (fault_line c.args.fault) c.write_fault.result c.write_fault.ensures.writes c.write_fault.ensures.refused
