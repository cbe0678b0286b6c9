-- The pairs of a book are the calls that were accepted.
use Rattle.std.specs.Prelude.{◌≡◌, ℕ, true, List, length, map, option_map, slice_get, Option, Some, None}
use Rattle.std.proofs.Common.{refl, sym, ap, ap₂, subst, ◌∙◌, arith}
use Rattle.std.proofs.lemmas.Option.{same_Some, slice_get-map, slice_get_within}
use Rattle.std.proofs.lemmas.List.{length-map}
use Rattle.link_timers.specs.declared.role.Role.{Role}
use Rattle.link_timers.specs.declared.role.Role.TheVariants.{Dte, Dce}
use Rattle.link_timers.specs.Role.{other_of}
use Rattle.packet_laws.proofs.Line.LineHolds.{line_holds}
use Rattle.call_records.specs.Records.{RecordValue, PairValue}
use Rattle.call_records.specs.Book.{side_of}
use Rattle.record_laws.specs.Books.Told.{World, after_all, all_callers, start, made_callers}
use Rattle.record_laws.specs.Books.Counts as counts
use Rattle.record_laws.specs.Books.AcceptedCalls.{CallUse, epochs_at, was_accepted, IsOfAccepted, PairsAreAccepted, AcceptedLaw, AcceptedRun}
use Rattle.record_laws.proofs.Books.Basics.{get_there, map_at}
use Rattle.record_laws.proofs.Books.Invariant.{EndView, ChannelUse, Kind, Tag, IsLive, IsRight, book_parts, answered_at}
use Rattle.record_laws.proofs.Books.Cancelling.{caller_not_cancelled, callee_not_cancelled}
use Rattle.record_laws.proofs.Books.Counting.{use_of, use_epochs}
use Rattle.record_laws.proofs.Books.EndSteps.{views_of}
use Rattle.record_laws.proofs.Books.Lines.{KeptIn, Laws, all_kept, start_counts}
use Rattle.record_laws.proofs.Books.Starting.{start_kept}

abbrev channel_use : CallUse → ChannelUse
channel_use u = record { session = u.session; channel = u.channel; restart = u.restart; use_ = u.use_ }

abbrev found_use : Option Tag → CallUse
found_use (Some t) = use_of t.role t.channel_use
found_use None = record { role = Dte; session = 0; channel = 0; restart = 0; use_ = 0 }

module _ (n : ℕ) (v : World) (tags : List Tag) (right : IsRight (views_of Dte v.line.me v.line.you v.top_me v.top_you) (book_parts v.book) tags)
    (here : length v.line.me.layer.channels ≡ n) (there : length v.line.you.layer.channels ≡ n) (law : Laws n v.line) where
  abbrev view_at : Role → EndView
  view_at x = views_of Dte v.line.me v.line.you v.top_me v.top_you x

  abbrev pair_use : PairValue → CallUse
  pair_use p = found_use (slice_get tags p.callee)

  abbrev uses : List CallUse
  uses = map pair_use v.book.pairs

  same_answer : (x : Role) (k : ChannelUse) → answered_at (view_at x) k ≡ was_accepted (use_of x k) v.line
  same_answer Dte k = refl
  same_answer Dce k = refl

  -- the record of a tag, with its epochs
  record HasRecord (i : ℕ) (role : Role) (k : ChannelUse) : Type 0 where
    value : RecordValue
    value_there : slice_get v.book.records i ≡ Some value
    node : value.node ≡ (side_of role v.book).node
    epochs : counts.HasEpochs (epochs_at role (use_of role k) v.line) value

  record_of : (i : ℕ) (t : Tag) → slice_get tags i ≡ Some t → IsLive t.kind → HasRecord i t.role t.channel_use
  record_of i t at live =
      let r = get_there v.book.records i (let h = slice_get_within tags i t at in let c = right.count in omega arith) in
      let fits = right.fits i t r.0 at r.1 in
      record {
        value = r.0;
        value_there = r.1;
        node = fits.node_is;
        epochs = use_epochs n v tags right here there law i t r.0 at (fits.tells live);
      }

  of_pair : (i : ℕ) (p : PairValue) → slice_get v.book.pairs i ≡ Some p → (t : Tag) × (slice_get tags p.callee ≡ Some t) × (pair_use p ≡ use_of t.role t.channel_use)
      × (t.kind ≡ Kind.Callee p.caller) × (was_accepted (use_of t.role t.channel_use) v.line ≡ true)
  of_pair i p e =
      let o = right.pairs i p e in
      (o.tag, o.there, ap found_use o.there, o.kind, sym (same_answer o.tag.role o.tag.channel_use) ∙ o.answered)

  is_accepted : (p : PairValue) (t : Tag) → slice_get tags p.callee ≡ Some t → t.kind ≡ Kind.Callee p.caller → IsOfAccepted v (use_of t.role t.channel_use) p
  is_accepted p t at kind =
      let m = (right.means p.callee t at).callee p.caller kind in
      let mine = record_of p.callee t at (λ h. callee_not_cancelled p.caller (sym kind ∙ h)) in
      let yours : HasRecord p.caller (other_of t.role) t.channel_use =
      subst (λ (x : Role). HasRecord p.caller x t.channel_use) m.role
      (subst (λ (k : ChannelUse). HasRecord p.caller m.mate.role k) m.channel_use
      (record_of p.caller m.mate m.there (λ h. caller_not_cancelled (sym m.calls ∙ h)))) in
      record {
        caller = yours.value;
        callee = mine.value;
        caller_there = yours.value_there;
        callee_there = mine.value_there;
        caller_node = yours.node;
        callee_node = mine.node;
        caller_epochs = yours.epochs;
        callee_epochs = mine.epochs;
      }

  accepted_use : (i : ℕ) (u : CallUse) → slice_get uses i ≡ Some u → was_accepted u v.line ≡ true
  accepted_use i u e =
      let p = map_at pair_use v.book.pairs i u e in
      let o = of_pair i p.0 p.1 in
      ap (λ (z : CallUse). was_accepted z v.line) (sym p.2 ∙ o.2) ∙ o.4

  use_pair : (i : ℕ) (u : CallUse) (p : PairValue) → slice_get uses i ≡ Some u → slice_get v.book.pairs i ≡ Some p → IsOfAccepted v u p
  use_pair i u p e at =
      let o = of_pair i p at in
      let same : pair_use p ≡ u = same_Some (pair_use p) u (sym (slice_get-map pair_use v.book.pairs i ∙ ap (option_map pair_use) at) ∙ e) in
      subst (λ (z : CallUse). IsOfAccepted v z p) (sym o.2 ∙ same) (is_accepted p o.0 o.1 o.3)

  one_pair : (i j : ℕ) (u : CallUse) → slice_get uses i ≡ Some u → slice_get uses j ≡ Some u → i ≡ j
  one_pair i j u e h =
      let p = map_at pair_use v.book.pairs i u e in
      let q = map_at pair_use v.book.pairs j u h in
      let o = of_pair i p.0 p.1 in
      let k = of_pair j q.0 q.1 in
      let same : use_of o.0.role o.0.channel_use ≡ use_of k.0.role k.0.channel_use = sym o.2 ∙ p.2 ∙ sym q.2 ∙ k.2 in
      right.once i j p.0 q.0 p.1 q.1 (right.alone p.0.callee q.0.callee o.0 k.0 o.1 k.1
      (λ z. callee_not_cancelled p.0.caller (sym o.3 ∙ z)) (λ z. callee_not_cancelled q.0.caller (sym k.3 ∙ z))
      (ap (λ (z : CallUse). z.role) same) (ap channel_use same))

  some_pair : (u : CallUse) → was_accepted u v.line ≡ true → (i : ℕ) × (slice_get uses i ≡ Some u)
  some_pair u e =
      let c = right.accepted u.role (channel_use u) (same_answer u.role (channel_use u) ∙ e) in
      let m = (right.means c.number c.tag c.there).callee c.caller c.kind in
      let answered : answered_at (view_at c.tag.role) c.tag.channel_use ≡ true =
      ap₂ (λ (x : Role) (k : ChannelUse). answered_at (view_at x) k) c.role c.channel_use ∙ same_answer u.role (channel_use u) ∙ e in
      let p = m.paired answered in
      let at : slice_get tags p.1.callee ≡ Some c.tag = ap (λ (i : ℕ). slice_get tags i) p.3 ∙ c.there in
      let is : pair_use p.1 ≡ u = ap found_use at ∙ ap₂ use_of c.role c.channel_use in
      (p.0, slice_get-map pair_use v.book.pairs p.0 ∙ ap (option_map pair_use) p.2 ∙ ap (λ (z : CallUse). Some z) is)

  pub all_accepted : PairsAreAccepted v
  all_accepted = (
    uses,
    record {
      count = length-map v.book.pairs pair_use;
      accepted = accepted_use;
      pairs = use_pair;
      once = one_pair;
      all = some_pair;
    },
  )

pub pairs_accepted : AcceptedLaw
pairs_accepted dte_node dce_node channels flow standing some small ms allowed =
    let w : World = after_all ms (start dte_node dce_node channels flow standing) in
    let k : KeptIn channels w (all_callers ms (start dte_node dce_node channels flow standing) (made_callers standing)) × Laws channels w.line =
    all_kept channels ms (start dte_node dce_node channels flow standing) (made_callers standing) (start_kept dte_node dce_node channels flow standing some)
    (λ hs. (line_holds channels flow standing some small hs).0) (start_counts channels flow standing some small) allowed in
    all_accepted channels w k.0.tags k.0.right k.0.here.count k.0.there.count k.1

pub accepted_run : AcceptedRun
accepted_run = record { allowed = (tt, tt); accepted = refl; caller = _; there = refl; over = refl; took_nothing = (record { items = refl; interrupts = refl }, tt); pairs = refl }
