-- Present records are open and of the node at their end, and open records are present.
use Rattle.std.specs.Prelude.{◌≡◌, ℕ, List, Some}
use Rattle.std.proofs.Common.{ap, ◌∙◌, arith}
use Rattle.std.proofs.lemmas.Option.{slice_get_within}
use Rattle.link_timers.specs.declared.role.Role.{Role}
use Rattle.packet_laws.proofs.Line.LineHolds.{line_holds}
use Rattle.call_records.specs.Book.{Book, slot_at, side_of}
use Rattle.record_laws.specs.Books.Told.{World, after_all, all_callers, start, made_callers}
use Rattle.record_laws.specs.Books.Headline.{IsOpenHere, HaveRecords, RecordsLaw}
use Rattle.record_laws.proofs.Books.Basics.{get_there}
use Rattle.record_laws.proofs.Books.Invariant.{EndView, Tag, IsRight, book_parts}
use Rattle.record_laws.proofs.Books.Presence.{present_in}
use Rattle.record_laws.proofs.Books.Lines.{KeptIn, all_kept, start_counts}
use Rattle.record_laws.proofs.Books.Starting.{start_kept}

module _ (views : Role → EndView) (b : Book) (tags : List Tag) (w : IsRight views (book_parts b) tags) where
  open_here : (role : Role) (channel number : ℕ) → (slot_at role channel b).present ≡ Some number → IsOpenHere b role number
  open_here role channel number e =
      let p = present_in ((views role).status channel) (views role) tags role channel (slot_at role channel b) number (w.slot role channel) e in
      let r = get_there b.records number (let h = slice_get_within tags number p.0.tag p.1 in let c = w.count in omega arith) in
      record {
        value = r.0;
        there = r.1;
        node = (w.fits number p.0.tag r.0 p.1 r.1).node_is ∙ ap (λ (y : Role). (side_of y b).node) p.0.role;
        is_open = w.opened.is_open role channel number r.0 e r.1;
      }

  pub right_records : HaveRecords b
  right_records = record {
    present = open_here;
    one_place = w.opened.one_place;
    are_present = λ number r there op. let s = w.opened.somewhere number r there op in record { role = s.0; channel = s.1; present = s.2 };
  }

pub have_records : RecordsLaw
have_records dte_node dce_node channels flow standing some small ms allowed =
    let w : World = after_all ms (start dte_node dce_node channels flow standing) in
    let k : KeptIn channels w (all_callers ms (start dte_node dce_node channels flow standing) (made_callers standing)) =
    (all_kept channels ms (start dte_node dce_node channels flow standing) (made_callers standing) (start_kept dte_node dce_node channels flow standing some)
    (λ hs. (line_holds channels flow standing some small hs).0) (start_counts channels flow standing some small) allowed).0 in
    right_records _ w.book k.tags k.right
