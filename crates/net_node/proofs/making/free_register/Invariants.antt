-- What is left to add makes the register of all lines.
use Rattle.std.proofs.Common.{◌≡◌, map, drop}
use Rattle.call_records.specs.Register.{with_lines, made_register}
use Rattle.call_records.specs.RegisterView.{register_of, IsClosed}
use Rattle.net_events.specs.Opening.{line_plan}
use Rattle.net_node.proofs.making.free_register.Given as goal

abbrev pub invariant-loop-line : goal.invariant-loop-line
invariant-loop-line l = record {
  value : with_lines (map line_plan (drop l.line-index l.lines)) (register_of l.register) ≡ made_register (map line_plan l.lines);
  closed : IsClosed l.register;
}
