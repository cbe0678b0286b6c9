use Rattle.epochs.proofs.Confirms.{confirms_itself, confirms_onward, confirms_in_turn, aligned_confirms, nothing_confirms, confirmed_taken, confirms_match}
use Rattle.epochs.proofs.Confirming.{relay_confirms}
use Rattle.epochs.proofs.laws.confirmation_laws.Goals as goal

pub returns : goal.returns
returns c = record {
  itself = confirms_itself;
  onward = confirms_onward;
  in_turn = confirms_in_turn;
  aligned = aligned_confirms;
  none = nothing_confirms;
  taken = confirmed_taken;
  is_match = confirms_match;
  relay = relay_confirms;
}
