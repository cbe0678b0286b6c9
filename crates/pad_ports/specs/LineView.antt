-- What contracts see of the code's line of a PAD.
use Rattle.pad_ports.specs.PadLine.{PadLine}
use Rattle.pad_ports.specs.declared.line.PadLine.TheInside.{Inside}

abbrev pub line_of : Inside → PadLine
line_of l = record {
  end = l.end;
  notes = l.notes.notes;
  noted_at = l.notes.terminals;
  terminal = l.terminal;
}
