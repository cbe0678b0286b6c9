-- What was told so far, with what the remaining notes tell, is what all notes tell.
use Rattle.std.proofs.Common.{◌≡◌, ◌≤◌, ◌+◌, None, length}
use Rattle.pad_ports.specs.PadLine.{last_incoming}
use Rattle.pad_ports.specs.declared.note.TheConstants.{MOST_NOTES}
use Rattle.x25_pad.specs.Pad.{told}
use Rattle.x25_pad.proofs.pad.Pad.hear_notes.Given as goal

abbrev pub invariant-loop : goal.invariant-loop
invariant-loop l = record {
  told : told l.self ≡ told l.fn.self;
  incoming : last_incoming l.incoming l.self.line.end.notes ≡ last_incoming None l.fn.self.line.end.notes;
  left : length l.self.line.end.notes + l.counter ≡ l.end;
  room : length l.self.line.notes + length l.self.line.end.notes ≤ MOST_NOTES;
}
