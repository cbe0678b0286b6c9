use Rattle.switched_call_laws.proofs.SwitchRecords.Making.{made_records}
use Rattle.switched_call_laws.proofs.SwitchRecords.Acts.{acts_write}
use Rattle.switched_call_laws.proofs.SwitchRecords.Partner.{partner_leaves}
use Rattle.switched_call_laws.proofs.SwitchRecords.Resting.{event_rests, acts_rest, act_writes_are}
use Rattle.switched_call_laws.proofs.SwitchRecords.Heads.{comes_opens, places_opens, event_head, acts_head}
use Rattle.switched_call_laws.proofs.switch_record.leg_record_law.Goals as goal

pub returns : goal.returns
returns c = record {
  made = made_records;
  acts = acts_write;
  writes = act_writes_are;
  partner = partner_leaves;
  rest = event_rests;
  rests = acts_rest;
  comes = comes_opens;
  places = places_opens;
  head = event_head;
  heads = acts_head;
}
