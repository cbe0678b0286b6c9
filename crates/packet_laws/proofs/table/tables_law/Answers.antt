use Rattle.packet_laws.proofs.Tables.Holds.{call_packets, data_packets, calls_placed, call_acts, reset_packets, reset_acts, restart_packets, restart_unreadable}
use Rattle.packet_laws.proofs.Tables.Notes.{session_notes, expiry_notes}
use Rattle.packet_laws.proofs.table.tables_law.Goals as goal

pub returns-clause-reset_packets : goal.returns-clause-reset_packets
returns-clause-reset_packets c = reset_packets

pub returns-clause-call_packets : goal.returns-clause-call_packets
returns-clause-call_packets c = call_packets

pub returns-clause-data_packets : goal.returns-clause-data_packets
returns-clause-data_packets c = data_packets

pub returns-clause-calls_placed : goal.returns-clause-calls_placed
returns-clause-calls_placed c = calls_placed

pub returns-clause-call_acts : goal.returns-clause-call_acts
returns-clause-call_acts c = call_acts

pub returns-clause-reset_acts : goal.returns-clause-reset_acts
returns-clause-reset_acts c = reset_acts

pub returns-clause-restart_packets : goal.returns-clause-restart_packets
returns-clause-restart_packets c = restart_packets

pub returns-clause-restart_unreadable : goal.returns-clause-restart_unreadable
returns-clause-restart_unreadable c = restart_unreadable

pub returns-clause-session_notes : goal.returns-clause-session_notes
returns-clause-session_notes c = session_notes

pub returns-clause-expiry_notes : goal.returns-clause-expiry_notes
returns-clause-expiry_notes c = expiry_notes
