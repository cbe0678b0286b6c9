-- What is laid out so far, with the layout of what is left, is the layout of all octets.
use Rattle.std.proofs.Common.{◌≤◌, ◌+◌, ◌*◌, length, drop}
use Rattle.pad_editing.specs.Shown.{shown}
use Rattle.pad_editing.proofs.LaidOut.{LaysOut}
use Rattle.pad_editing.proofs.display.Display.text.Given as goal

abbrev pub invariant-loop-octet : goal.invariant-loop-octet
invariant-loop-octet g l =
    LaysOut l.fn.out.items l.out.items (shown (drop l.octet-index l.octets) l.echo l.params l.at) (shown l.octets l.echo l.params l.column)
    × (length l.out.items ≤ length l.fn.out.items + 17 * l.octet-index)
