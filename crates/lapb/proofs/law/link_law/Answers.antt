use Rattle.lapb.proofs.LinkLaw.{in_order, comes_up, begins_fresh}
use Rattle.lapb.proofs.Rising.{sessions_rise, calls_tell}
use Rattle.lapb.proofs.Calls.{session_law}
use Rattle.lapb.proofs.Rows.{may_carry}
use Rattle.lapb.proofs.law.link_law.Goals as goal

pub returns-clause-in_order : goal.returns-clause-in_order
returns-clause-in_order c = in_order

pub returns-clause-comes_up : goal.returns-clause-comes_up
returns-clause-comes_up c = comes_up

pub returns-clause-begins_fresh : goal.returns-clause-begins_fresh
returns-clause-begins_fresh c = begins_fresh

pub returns-clause-sessions_rise : goal.returns-clause-sessions_rise
returns-clause-sessions_rise c = sessions_rise

pub returns-clause-calls_tell : goal.returns-clause-calls_tell
returns-clause-calls_tell c = calls_tell

pub returns-clause-sessions_count : goal.returns-clause-sessions_count
returns-clause-sessions_count c = session_law

pub returns-clause-may_carry : goal.returns-clause-may_carry
returns-clause-may_carry c = may_carry
