use Rattle.std.proofs.Common.{◌+◌, ◌≤◌, length, map}
use Rattle.std.specs.Option.{option_map}
use Rattle.net_files.specs.Cuts.{length_left}
use Rattle.net_files.specs.Scripts.{lines_of}
use Rattle.net_files.specs.Values.{command_value}
use Rattle.net_files.proofs.ScriptLines.{IsReadTo}
use Rattle.net_files.proofs.script.read_lines.Given as goal

-- the lines read so far are no more than the octets behind which the rest stands, and their commands are read
abbrev pub invariant-loop-rest : goal.invariant-loop-rest
invariant-loop-rest l = record {
  counted : l.number + length_left (option_map (λ s. s.now) l.rest) ≤ length l.text + 1;
  read : IsReadTo l.names (lines_of l.text) l.number (option_map (λ s. s.now) l.rest)
      (map command_value l.commands);
}

-- what is left gets shorter
abbrev pub decreases-loop-rest : goal.decreases-loop-rest
decreases-loop-rest l = length_left (option_map (λ s. s.now) l.rest)
