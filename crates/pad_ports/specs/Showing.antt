-- Whether a terminal has anything to show.
use Rattle.std.specs.Prelude.{Bool, not, ◌||◌, ◌==◌, length, is_some}
use Rattle.pad_ports.specs.Ports.{AtLine, taken_of}

-- text waits, or something is to be taken
abbrev pub shows : AtLine → Bool
shows a = not (length a.port.terminal.output.text == 0) || is_some (taken_of a)
