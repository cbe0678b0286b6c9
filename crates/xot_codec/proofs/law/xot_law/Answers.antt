use Rattle.xot_codec.proofs.ReadBack.{reads_written, waits_for_whole}
use Rattle.xot_codec.proofs.Own.{own_are_taken}
use Rattle.xot_codec.proofs.law.xot_law.Goals as goal

pub returns-clause-whole : goal.returns-clause-whole
returns-clause-whole c = reads_written

pub returns-clause-part : goal.returns-clause-part
returns-clause-part c = waits_for_whole

pub returns-clause-own : goal.returns-clause-own
returns-clause-own c = own_are_taken
