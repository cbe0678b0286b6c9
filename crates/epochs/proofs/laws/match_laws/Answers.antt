use Rattle.epochs.proofs.MatchedLists.{match-refl, match-trans, match-grows, match-opens, match-both_open, aligned-match}
use Rattle.epochs.proofs.Rising.{match-rising}
use Rattle.epochs.proofs.Placing.{rising-match}
use Rattle.epochs.proofs.laws.match_laws.Goals as goal

pub returns : goal.returns
returns c = record {
  reflexive = match-refl;
  transitive = λ xs ys zs m n. match-trans n xs m;
  grows = match-grows;
  opens = match-opens;
  both_open = match-both_open;
  aligned = aligned-match;
  rising = λ taken sent. (match-rising taken sent, λ p. rising-match taken p.0 sent p.1);
}
