use Rattle.network_laws.proofs.line.one_line_law.Goals as goal
use Rattle.network_laws.proofs.Lines.{happened_line, lost_line, elapsed_lines}
use Rattle.network_laws.proofs.Made.{made_lines, book_line, typed_line}

pub returns : goal.returns
returns g c = record {
  made = made_lines g.L.Line.service;
  event = happened_line g.L.Line.service;
  loss = lost_line g.L.Line.service;
  time = elapsed_lines g.L.Line.service;
  book = book_line g.L.Line.service;
  typed = typed_line g.L.Line.service;
}
