use Rattle.std.proofs.Common.{◌≡◌, ◌++◌, ℕ, List, length}
use Rattle.std.specs.List.{flat_map}
use Rattle.trace_capture.specs.Trace.{spaced, AreOctets}
use Rattle.trace_capture.proofs.Octets.{Left}
use Rattle.trace_capture.proofs.frame.read_octets.Given as goal

abbrev pub invariant-loop-rest : goal.invariant-loop-rest
invariant-loop-rest l = record {
  read : l.fn.text ≡ flat_map spaced l.frame ++ l.rest;
  left : (octets : List ℕ) → AreOctets octets → l.fn.text ≡ flat_map spaced octets → Left l.rest (length l.frame);
}

abbrev pub decreases-loop-rest : goal.decreases-loop-rest
decreases-loop-rest l = length l.rest
