use Rattle.node_laws.proofs.Opening.{hearing_opens, expiry_opens_none, relink_opens_none, call_opens, asking_opens, refusal_opens, saying_opens, taking_opens}
use Rattle.node_laws.proofs.turn_opening_law.Goals as goal

pub returns : goal.returns
returns c = record {
  hearing = hearing_opens;
  expiry = expiry_opens_none;
  relink = relink_opens_none;
  call = call_opens;
  asking = asking_opens;
  refusal = refusal_opens;
  saying = saying_opens;
  taking = taking_opens;
}
