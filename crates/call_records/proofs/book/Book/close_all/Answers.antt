use Rattle.std.proofs.Common.{◌∙◌, ◌+◌, ◌-◌, ap, sym, rules, tests}
use Rattle.call_records.specs.Book.{Book}
use Rattle.call_records.specs.Closing.{closed_from}
use Rattle.call_records.specs.Room.{BookState}
use Rattle.call_records.proofs.Ending.{closed_next, close_some, close_none}
use Rattle.call_records.proofs.book.Book.close_all.Goals as goal
use Rattle.call_records.proofs.book.Book.close_all.Goals.{then-is_some, else-is_some}

pub loop-place-preserved : goal.loop-place-preserved
loop-place-preserved c =
    let n = c.channels-channels.result in
    let i = c.loop-place.place in
    let b = c.loop-place.self.book in
    let role = c.args.role in
    let rest = closed_next n i role b c.loop-place-test.true ∙ c.loop-place.invariant.closed in
    elim c.if-is_some.branch [
      | then-is_some w ↦ record {
        closed = ap (λ (s : BookState). closed_from (n - (i + 1)) (i + 1 + 1) role s.book) (w.self-is ∙ w.close.ensures)
            ∙ ap (λ (x : Book). closed_from (n - (i + 1)) (i + 1 + 1) role x) (close_some role (i + 1) b c.present.result c.present.ensures (sym c.is_some.ensures ∙ w.if-is_some.true)) ∙ rest;
        room = ap (λ (s : BookState). s.room) (w.self-is ∙ w.close.ensures) ∙ c.loop-place.invariant.room;
        pairs = ap (λ (s : BookState). s.pairs) (w.self-is ∙ w.close.ensures) ∙ c.loop-place.invariant.pairs;
      }
      | else-is_some w ↦ record {
        closed = ap (λ (s : BookState). closed_from (n - (i + 1)) (i + 1 + 1) role s.book) w.self-is
            ∙ ap (λ (x : Book). closed_from (n - (i + 1)) (i + 1 + 1) role x) (close_none role (i + 1) b c.present.result c.present.ensures (sym c.is_some.ensures ∙ w.if-is_some.false)) ∙ rest;
        room = ap (λ (s : BookState). s.room) w.self-is ∙ c.loop-place.invariant.room;
        pairs = ap (λ (s : BookState). s.pairs) w.self-is ∙ c.loop-place.invariant.pairs;
      }
    ]

pub loop-place-init : goal.loop-place-init
loop-place-init c = search (rules, tests)
