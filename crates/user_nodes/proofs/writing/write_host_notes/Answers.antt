use Rattle.std.proofs.lemmas.Grind.{common_steps, elements}
use Rattle.std.proofs.Common.{◌≡◌, ◌∙◌, ◌++◌, ◌≤◌, ap, ap₂, drop, List, length, arith, subst, sym}
use Rattle.std.specs.Prelude.{slice_get}
use Rattle.data_transfer.specs.Packets.{Note}
use Rattle.packet_channel.specs.NoteView.{note_of}
use Rattle.packet_end.specs.PacketEnd.{PacketEnd}
use Rattle.call_records.specs.Book.{all_told}
use Rattle.call_records.specs.Room.{BookState, opening_notes}
use Rattle.user_nodes.specs.Node.{all_read}
use Rattle.user_nodes.specs.Notes.{at_host, user_notes}
use Rattle.user_nodes.proofs.FirstNote.{first_is, may_tell, room_left, listed_then, one_less}
use Rattle.user_nodes.proofs.writing.write_host_notes.Goals as goal

pub tell-requires : goal.tell-requires
tell-requires c =
    let first = ap (λ (e : PacketEnd). slice_get e.notes 0) (sym (c.deref-in-loop-2.ensures ∙ c.deref-in-loop.ensures)) ∙ c.in-Some.ensures in
    may_tell c.loop.host.notes (note_of c.in-Some.note.now) c.loop.book.room first c.loop.invariant.room

pub loop-preserved : goal.loop-preserved
loop-preserved c =
    let notes = c.loop.host.notes in
    let note = note_of c.in-Some.note.now in
    let first = ap (λ (e : PacketEnd). slice_get e.notes 0) (sym (c.deref-in-loop-2.ensures ∙ c.deref-in-loop.ensures)) ∙ c.in-Some.ensures in
    let invariant = c.loop.invariant in
    let host = c.notes.ensures.host in
    let rest : c.notes.new.self.notes ≡ drop 1 notes = ap (λ (e : PacketEnd). e.notes) host in
    let told = c.tell.ensures in
    let listed = c.list_layer_note.ensures.listed in
    let left = room_left notes note c.loop.book.room first invariant.opening invariant.room in
    let fewer = one_less c.args.at.node notes note c.loop.notes.items c.list_layer_note.new.notes.items first listed in
    let back = sym rest in
    record {
      host = ap (λ (e : PacketEnd). all_read e) host ∙ invariant.host;
      book =
          ap₂ (λ (ns : List Note) (b : BookState). all_told c.args.at.role ns b.book) rest told
          ∙ ap (λ (ns : List Note). all_told c.args.at.role ns c.loop.book.book) (first_is notes note first)
          ∙ invariant.book;
      opening = subst (λ (ns : List Note). opening_notes ns ≤ 1) back left.opening;
      room = subst (λ (ns : List Note). opening_notes ns ≤ c.tell.new.self.room) back
          (subst (λ (b : BookState). opening_notes (drop 1 notes) ≤ b.room) (sym told) left.left);
      listed =
          ap (λ (ns : List Note). c.list_layer_note.new.notes.items ++ user_notes c.args.at.node (at_host ns)) rest
          ∙ listed_then c.args.at.node notes note c.loop.notes.items c.list_layer_note.new.notes.items first listed
          ∙ invariant.listed;
      left = let count = ap (λ (ns : List Note). length ns) rest in omega (arith, count, fewer.rest, invariant.left);
      places =
          let count = ap (λ (ns : List Note). length ns) rest in
          omega (arith, count, fewer.places, invariant.places, c.list_layer_note.ensures.capacity, c.list_layer_note.new.notes.ok, c.loop.notes.ok);
    }

pub returns-clause-book : goal.returns-clause-book
returns-clause-book c = grind (arith, common_steps)

pub returns-clause-host : goal.returns-clause-host
returns-clause-host c = grind (arith, common_steps)

pub returns-clause-notes : goal.returns-clause-notes
returns-clause-notes c = grind (arith, common_steps)

pub returns-in_default-clause-book : goal.returns-in_default-clause-book
returns-in_default-clause-book c = grind (arith, elements)

pub returns-in_default-clause-host : goal.returns-in_default-clause-host
returns-in_default-clause-host c = grind (arith, elements)

pub returns-in_default-clause-notes : goal.returns-in_default-clause-notes
returns-in_default-clause-notes c = grind (arith, elements)
