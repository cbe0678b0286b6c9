use Rattle.std.proofs.Common.{◌≡◌, ◌++◌, List, ℕ, false}
use Rattle.net_files.specs.Commands.{CommandView}
use Rattle.net_player.specs.InTurn.{InTurn}
use Rattle.octet_streams.specs.Written.{Writes}
use Rattle.net_player.specs.Playing.{DoesCommand, Played}
use Rattle.net_player.proofs.player.play.Given as goal

-- the commands before those that are left are done
abbrev pub invariant-loop-command : goal.invariant-loop-command
invariant-loop-command g l = record {
  can : (goal.iterator-loop-command g).can_next l.command-iterator;
  finite : (goal.iterator-loop-command g).is_finite l.command-iterator;
  done : (before : List CommandView) × (l.script.commands ≡ before ++ l.command-iterator)
      × Writes (g.W.Write.contents l.initial.out) (g.W.Write.contents l.out)
      (λ (text : List ℕ). InTurn CommandView Played (DoesCommand g.L.Line.service l.script.names.items l.script.lines)
      before (record { net = l.initial.net; traces = false }) text (record { net = l.net; traces = l.player.traces }));
  names : l.player.names.now ≡ l.script.names.items;
  lines : l.player.lines ≡ l.script.lines;
}
