use Rattle.std.proofs.Common.{◌≡◌, ap, ap₂, ◌∙◌, sym, arith, length, length-drop, List, Option}
use Rattle.std.specs.Prelude.{slice_get}
use Rattle.std.specs.Option.{option_or}
use Rattle.data_transfer.specs.Packets.{Note}
use Rattle.packet_channel.specs.NoteView.{note_of}
use Rattle.packet_end.specs.PacketEnd.{without_first_note}
use Rattle.switch_lines.specs.Lines.{SwitchLine, changed}
use Rattle.switch_lines.specs.NewJoins.{NewJoin, joins_of_note, joins_heeded}
use Rattle.switch_lines.specs.ByPlace.{notes_on}
use Rattle.switch_lines.specs.Switch.{heed, notes_heeded, with_end}
use Rattle.switch_lines.proofs.Heeding.{one_heeded, heeded_length, notes_left, no_first, empty_notes, none_heeded}
use Rattle.switch_lines.proofs.Changing.{length_changed}
use Rattle.switch_lines.proofs.Heeding.{one_joined, none_joined, first_joined, or_none}
use Rattle.switch_lines.proofs.lines.Lines.heed_line.Goals as goal
use Rattle.switch_lines.proofs.lines.Lines.heed_line.Goals.{in-Some, in_default}

pub loop-preserved : goal.loop-preserved
loop-preserved c =
    let routes = c.args.routes.now in
    let n = c.args.line in
    elim c.match-notes.branch [
      | in-Some w ↦
          let x = note_of w.in-Some.note in
          let taken = c.notes.ensures.lines in
          let now = w.self-is ∙ w.heed-join.ensures.lines ∙ ap (λ (ls : List SwitchLine). heed routes n x ls) taken in
          let left = ap (λ (ls : List SwitchLine). length (notes_on ls n)) now ∙ ap (λ (xs : List Note). length xs) (notes_left routes n x c.loop.self) in
          record {
            left = ap (λ (ls : List SwitchLine). notes_heeded routes n ls) now ∙ one_heeded routes n x c.loop.self w.in-Some.ensures.note ∙ c.loop.invariant.left;
            first = ap₂ (λ (o : Option NewJoin) (ls : List SwitchLine). option_or o (slice_get (joins_heeded routes n ls) 0)) (w.joined-is ∙ w.or-joined.ensures) now
                ∙ first_joined c.loop.joined w.heed-join.result (joins_of_note routes n x (changed n (with_end without_first_note) c.loop.self))
                (joins_heeded routes n (heed routes n x (changed n (with_end without_first_note) c.loop.self))) (joins_heeded routes n c.loop.self)
                (w.heed-join.ensures.join ∙ ap (λ (ls : List SwitchLine). joins_of_note routes n x ls) taken) (one_joined routes n x c.loop.self w.in-Some.ensures.note)
                ∙ c.loop.invariant.first;
            there =
                let same = ap (λ (ls : List SwitchLine). length ls) now in
                let long = heeded_length routes n x (changed n (with_end without_first_note) c.loop.self) in
                let all = length_changed n (with_end without_first_note) c.loop.self in
                omega (arith, same, long, all, c.loop.invariant.there);
            count = omega (arith, left, length-drop 1 (notes_on c.loop.self n), c.loop.invariant.count, c.loop-test.true);
          }
      | in_default w ↦
          let none = no_first (notes_on c.loop.self n) w.in_default.ensures.note in
          absurd (omega (arith, none, c.loop.invariant.count, c.loop-test.true))
    ]

pub heed-join-requires : goal.heed-join-requires
heed-join-requires c =
    let n = c.args.line in
    let same = ap (λ (ls : List SwitchLine). length ls) c.notes.ensures.lines in
    let all = length_changed n (with_end without_first_note) c.loop.self in
    omega (arith, same, all, c.loop.invariant.there)

pub returns-clause-lines : goal.returns-clause-lines
returns-clause-lines c =
    let notes = notes_on c.loop.self c.args.line in
    let none : length notes ≡ 0 = omega (arith, c.loop.invariant.count, c.loop-test.false) in
    none_heeded c.args.routes.now c.args.line c.loop.self (empty_notes notes none) ∙ c.loop.invariant.left

pub returns-clause-join : goal.returns-clause-join
returns-clause-join c =
    let notes = notes_on c.loop.self c.args.line in
    let none : length notes ≡ 0 = omega (arith, c.loop.invariant.count, c.loop-test.false) in
    let no_more = none_joined c.args.routes.now c.args.line c.loop.self (empty_notes notes none) in
    sym (or_none c.loop.joined)
    ∙ ap (λ (js : List NewJoin). option_or c.loop.joined (slice_get js 0)) (sym no_more)
    ∙ c.loop.invariant.first
