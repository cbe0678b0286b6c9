use Rattle.std.proofs.Common.{◌≡◌, ℕ, List, []}
use Rattle.gateway_end.specs.Gives.{Gives, served}
use Rattle.gateway_end.proofs.asking.serve_among.Given as goal

-- the connections that were asked gave nothing
abbrev pub invariant-loop-number : goal.invariant-loop-number
invariant-loop-number l = record {
  gives : Gives l.fn.calls [] l.calls;
  quiet : (packet : List ℕ) → served l.work packet ≡ [];
  line : l.calls.line ≡ l.fn.calls.line;
}
