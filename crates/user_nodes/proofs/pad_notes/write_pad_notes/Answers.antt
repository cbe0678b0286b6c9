-- The first note has room and a place, and where there is none all are written and told.
use Rattle.std.proofs.Common.{◌≡◌, ℕ, List, [], ◌∷◌, ◌++◌, length, Some, None, Option, drop, slice_get, subst, sym, ap, ◌∙◌, rules, tests, arith, append-nil}
use Rattle.pad_ports.specs.Notes.{ChannelNote}
use Rattle.pad_ports.specs.NoteView.{named_note_of, pad_note_of}
use Rattle.x25_pad.specs.Pad.{PadState, first_note}
use Rattle.call_records.specs.Writes.{all_written}
use Rattle.user_nodes.specs.Notes.{told_by_pad, at_pad, user_notes}
use Rattle.user_nodes.specs.PadWriting.{writes_of, without_notes}
use Rattle.user_nodes.specs.PadRoom.{HasRoom, HaveRoom}
use Rattle.user_nodes.proofs.FirstPadNote.{pad_first_is, first_is, none_is, one_waits, listed_then, places_then}
use Rattle.user_nodes.proofs.pad_notes.write_pad_notes.Goals as goal

first_has_room : (notes : List ChannelNote) (note : ChannelNote) (room pairs : ℕ) → Some note ≡ slice_get notes 0 →
    HaveRoom notes room pairs → HasRoom note room pairs
first_has_room notes note room pairs is have =
    let P : List ChannelNote → Type 0 = λ found. HaveRoom found room pairs in
    let there : HaveRoom (note ∷ drop 1 notes) room pairs = subst P (sym (pad_first_is notes note is)) have in
    there.0

all_read : (p : PadState) → None ≡ first_note p → p ≡ without_notes p
all_read p is =
    let none : p.line.notes ≡ [] = none_is p.line.noted_at p.line.notes is in
    let terminals : p.line.noted_at ≡ drop (length p.line.notes) p.line.noted_at = sym (ap (λ (notes : List ChannelNote). drop (length notes) p.line.noted_at) none) in
    λ i. record p { line = record p.line { notes = none i; noted_at = terminals i } }

pub write_pad_note-requires : goal.write_pad_note-requires
write_pad_note-requires c =
    let line = c.loop-note.pad.line in
    first_has_room _ _ _ _ (first_is line.noted_at line.notes (named_note_of c.in-Some.note.now) c.in-Some.ensures).0 c.loop-note.invariant.room

pub list_pad_note-requires : goal.list_pad_note-requires
list_pad_note-requires c =
    let line = c.loop-note.pad.line in
    let first = (first_is line.noted_at line.notes (named_note_of c.in-Some.note.now) c.in-Some.ensures).0 in
    let waits = one_waits line.notes (pad_note_of c.in-Some.note.now.note) first in
    omega (arith, waits, c.loop-note.invariant.places)

pub returns-clause-pad : goal.returns-clause-pad
returns-clause-pad c = all_read c.loop-note.pad c.in_default.ensures ∙ c.loop-note.invariant.pad

pub returns-clause-book : goal.returns-clause-book
returns-clause-book c =
    ap (λ notes. all_written c.args.at.role (writes_of notes) c.loop-note.book.book)
    (sym (none_is c.loop-note.pad.line.noted_at c.loop-note.pad.line.notes c.in_default.ensures))
    ∙ c.loop-note.invariant.book

pub returns-clause-notes : goal.returns-clause-notes
returns-clause-notes c =
    sym (append-nil c.loop-note.notes.items)
    ∙ ap (λ (notes : List ChannelNote). c.loop-note.notes.items ++ user_notes c.args.at.node (at_pad c.loop-note.pad.line.noted_at notes))
    (sym (none_is c.loop-note.pad.line.noted_at c.loop-note.pad.line.notes c.in_default.ensures))
    ∙ c.loop-note.invariant.listed

pub loop-note-preserved : goal.loop-note-preserved
loop-note-preserved c =
    let notes = c.loop-note.pad.line.notes in
    let note = pad_note_of c.in-Some.note.now.note in
    let terminals = c.loop-note.pad.line.noted_at in
    let is = first_is terminals notes (named_note_of c.in-Some.note.now) c.in-Some.ensures in
    let first = is.0 in
    let listed = c.list_pad_note.ensures.listed
    ∙ ap (λ (terminal : Option ℕ). c.loop-note.notes.items ++ told_by_pad c.args.at.node terminal note) is.1 in
    let rest : c.drop_note.new.self.line.notes ≡ drop 1 notes = ap (λ (p : PadState). p.line.notes) c.drop_note.ensures in
    let fewer = places_then c.args.at.node _ notes note c.loop-note.notes.items c.list_pad_note.new.notes.items first listed in
    record {
      pad = search (rules, tests);
      book = search (rules, tests);
      room = search (rules, tests);
      listed =
          ap (λ (p : PadState). c.list_pad_note.new.notes.items ++ user_notes c.args.at.node (at_pad p.line.noted_at p.line.notes)) c.drop_note.ensures
          ∙ listed_then c.args.at.node terminals notes note c.loop-note.notes.items c.list_pad_note.new.notes.items first listed
          ∙ c.loop-note.invariant.listed;
      places =
          let count = ap (λ (ns : List ChannelNote). length ns) rest in
          omega (arith, count, fewer, c.loop-note.invariant.places, c.list_pad_note.ensures.capacity, c.list_pad_note.new.notes.ok, c.loop-note.notes.ok);
      kept = c.list_pad_note.ensures.capacity ∙ c.loop-note.invariant.kept;
    }
