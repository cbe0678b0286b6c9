-- The ports so far are changed.
use Rattle.std.proofs.Common.{◌≡◌, ◌++◌, map, take, drop}
use Rattle.pad_ports.specs.Ports.{restarted}
use Rattle.x25_pad.proofs.pad.Pad.restart_terminals.Given as goal

abbrev pub invariant-loop-port : goal.invariant-loop-port
invariant-loop-port l =
    l.port-items ≡ map restarted (take l.port-index l.initial.port-items) ++ drop l.port-index l.initial.port-items
