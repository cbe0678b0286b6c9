-- The law of a terminal that leaves and arrives.
use Rattle.node_laws.proofs.Pads.Presence.{leaves, stays_absent, is_cut_off, arrives_new, present_stays, calls_begin, shown_since}
use Rattle.node_laws.proofs.pad.presence.presence_law.Goals as goal

pub returns : goal.returns
returns c = record {
  leaves = leaves;
  stays = stays_absent;
  absent = is_cut_off;
  arrives = arrives_new;
  present = present_stays;
  calls = calls_begin;
  shown = shown_since;
}
