use Rattle.std.proofs.Common.{List, [], ◌∷◌, ◌++◌, Some, ap, ◌∙◌}
use Rattle.call_records.specs.Book.{Book}
use Rattle.call_records.specs.RegisterView.{lines_of, register_with}
use Rattle.call_records.specs.Room.{BookState}
use Rattle.call_records.specs.declared.ends.Ends.{Ends}
use Rattle.call_records.proofs.Opening.{alone, stands_alone}
use Rattle.call_records.proofs.register.Register.standing.Goals as goal

pub returns : goal.returns
returns c =
    let book : Book = c.in_ok-book.book.book in
    ap (λ (ls : List Ends). register_with (Some 0) book (lines_of ls)) (c.in_ok-push.ensures.items ∙ ap (λ (ls : List Ends). ls ++ c.in_ok-new.field-0 ∷ []) c.new-lines.ensures.items)
    ∙ ap (λ (s : BookState). alone s.book) c.in_ok-book.ensures
    ∙ stands_alone c.args.dte_node c.args.dce_node c.args.channels c.requires
