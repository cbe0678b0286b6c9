use Rattle.std.proofs.Common.{◌≡◌, ℕ, List, ◌++◌, length}
use Rattle.net_files.specs.Texts.{octets_of}
use Rattle.net_files.proofs.Spelling.{with_front}
use Rattle.net_files.proofs.words.add_text.Given as goal

-- the octets so far, and then those that the rest spells, are those before and then those that the text spells
abbrev pub invariant-loop-escape : goal.invariant-loop-escape
invariant-loop-escape l = record {
  spelled : with_front l.octets.items (octets_of l.rest) ≡ with_front l.initial.octets.items (octets_of l.text);
  behind : (more : List ℕ) × (l.octets.items ≡ l.initial.octets.items ++ more);
}

-- what is left gets shorter
abbrev pub decreases-loop-escape : goal.decreases-loop-escape
decreases-loop-escape l = length l.rest
