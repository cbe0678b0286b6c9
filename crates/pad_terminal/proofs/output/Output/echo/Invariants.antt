-- What is left to echo makes the same output as all did at the beginning.
use Rattle.std.proofs.Common.{◌≡◌, ◌≤◌, drop, length}
use Rattle.pad_terminal.specs.Output.{with_echo}
use Rattle.pad_terminal.specs.OutputView.{output_of}
use Rattle.pad_terminal.proofs.output.Output.echo.Given as goal

abbrev pub invariant-loop-octet : goal.invariant-loop-octet
invariant-loop-octet l = record {
  capacity : l.self-inside.text.capacity ≡ 1024;
  within : length l.self-inside.text.items ≤ 1024;
  left : with_echo (drop l.octet-index l.octets) l.params (output_of l.self-inside) ≡ with_echo l.octets l.params l.fn.self;
}
