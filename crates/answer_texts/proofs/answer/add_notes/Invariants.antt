use Rattle.std.proofs.Common.{◌≡◌, ◌++◌, take}
use Rattle.std.specs.List.{flat_map}
use Rattle.answer_texts.specs.Answers.{note_text}
use Rattle.answer_texts.proofs.answer.add_notes.Given as goal

-- the lines so far are added
abbrev pub invariant-loop-note : goal.invariant-loop-note
invariant-loop-note l = l.text.items ≡ l.initial.text.items ++ flat_map (note_text l.names) (take l.note-index l.notes)
