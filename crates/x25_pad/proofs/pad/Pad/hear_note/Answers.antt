-- One note is told.
use Rattle.std.specs.Prelude.{◌≡◌}
use Rattle.std.proofs.Common.{sym, ap, ◌∙◌, arith}
use Rattle.std.proofs.lemmas.Grind.{common_steps}
use Rattle.packet_channel.specs.NoteView.{note_of}
use Rattle.pad_ports.specs.LineView.{line_of}
use Rattle.x25_pad.specs.Pad.{PadState}
use Rattle.x25_pad.specs.PadView.{pad_of}
use Rattle.x25_pad.specs.declared.pad.Pad.TheInside.{Inside}
use Rattle.x25_pad.proofs.Hearing.{told_first}
use Rattle.x25_pad.proofs.pad.Pad.hear_note.Goals as goal

pub returns-clause-pad : goal.returns-clause-pad
returns-clause-pad c =
    let x = c.self-inside.inside in
    let p : PadState = record { line = line_of x.0.0; ports = x.0.1.0.items } in
    let opened : p ≡ pad_of c.self.inside = ap (λ (a : Inside). pad_of a) c.self-inside.view_is in
    let seen : p ≡ c.args.self.now = opened ∙ c.self.view_is in
    rw (← seen, c.notes.ensures.end, c.add.ensures, c.terminal_with-terminal.ensures, c.about.ensures, c.as_slice.ensures.value, c.tell.ensures.ports)
    (told_first p (note_of c.in-Some.note) (sym c.in-Some.ensures.note))

pub returns-clause-room : goal.returns-clause-room
returns-clause-room c = grind (arith, common_steps)
