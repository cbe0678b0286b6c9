use Rattle.std.proofs.Common.{ap, ◌∙◌}
use Rattle.pad_ports.specs.Notes.{without_first}
use Rattle.pad_ports.specs.NoteView.{pad_note_of}
use Rattle.pad_ports.specs.declared.note.PadNote.{PadNote}
use Rattle.pad_ports.proofs.Reading.{one_read}
use Rattle.pad_ports.proofs.note.PadNotes.drop_first.Goals as goal

pub returns-then-self-len : goal.returns-then-self-len
returns-then-self-len c =
    let items = c.self.inside.notes.items in
    let read = c.self.inside.read in
    (λ i. record {
      notes = one_read (λ (n : PadNote). pad_note_of n.note) items read i;
      terminals = one_read (λ (n : PadNote). n.terminal) items read i;
    })
    ∙ ap without_first c.self.view_is
