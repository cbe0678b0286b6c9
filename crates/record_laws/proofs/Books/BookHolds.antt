-- The law of the book of a line.
use Rattle.record_laws.specs.Books.Told.{after_all, start, made_callers}
use Rattle.record_laws.specs.Books.Headline.{BookLaw, CallsLaw, CallersLaw}
use Rattle.packet_laws.proofs.Line.LineHolds.{line_holds}
use Rattle.record_laws.proofs.Books.Lines.{all_kept, kept_holds, kept_calls, kept_callers, start_counts}
use Rattle.record_laws.proofs.Books.Starting.{start_kept}

pub book_holds : BookLaw
book_holds dte_node dce_node channels flow standing some small ms allowed =
    let v = all_kept channels ms (start dte_node dce_node channels flow standing) (made_callers standing) (start_kept dte_node dce_node channels flow standing some)
    (λ hs. (line_holds channels flow standing some small hs).0) (start_counts channels flow standing some small) allowed in
    kept_holds channels (after_all ms (start dte_node dce_node channels flow standing)) _ v.0 v.1

pub calls_hold : CallsLaw
calls_hold dte_node dce_node channels flow standing some small ms allowed =
    let v = all_kept channels ms (start dte_node dce_node channels flow standing) (made_callers standing) (start_kept dte_node dce_node channels flow standing some)
    (λ hs. (line_holds channels flow standing some small hs).0) (start_counts channels flow standing some small) allowed in
    kept_calls channels (after_all ms (start dte_node dce_node channels flow standing)) _ v.0 v.1

pub callers_recorded : CallersLaw
callers_recorded dte_node dce_node channels flow standing some small ms allowed =
    let v = all_kept channels ms (start dte_node dce_node channels flow standing) (made_callers standing) (start_kept dte_node dce_node channels flow standing some)
    (λ hs. (line_holds channels flow standing some small hs).0) (start_counts channels flow standing some small) allowed in
    kept_callers channels (after_all ms (start dte_node dce_node channels flow standing)) _ v.0
