-- The epochs of each record are those that its packet layer counted.
use Rattle.std.specs.Prelude.{◌≡◌, ℕ, zero, suc, ◌≤◌, ◌⊎◌, true, List, [], ◌∷◌, length, map, slice_get, Option, Some, None}
use Rattle.std.proofs.Common.{inl, inr, refl, sym, ap, subst, ◌∙◌, arith}
use Rattle.std.proofs.lemmas.Option.{none-some, same_Some, slice_get_within}
use Rattle.std.proofs.lemmas.List.{length-map}
use Rattle.link_timers.specs.declared.role.Role.{Role}
use Rattle.link_timers.specs.declared.role.Role.TheVariants.{Dte, Dce}
use Rattle.epochs.specs.Item.{DataPacket}
use Rattle.epochs.specs.Epoch.{SentEpoch, TakenEpoch, nothing_sent, nothing_taken}
use Rattle.packet_laws.specs.History.{Epoch, History, empty_epoch}
use Rattle.packet_laws.proofs.Line.LineHolds.{line_holds}
use Rattle.call_records.specs.Records.{RecordValue}
use Rattle.call_records.specs.Book.{packet_of}
use Rattle.record_laws.specs.Books.Told.{World, after_all, all_callers, start, made_callers}
use Rattle.record_laws.specs.Books.Open.{layers_at}
use Rattle.record_laws.specs.Books.Counts as counts
use Rattle.record_laws.specs.Books.Counts.{IsSentIn, IsTakenIn, IsCountedAt, CountsLaw}
use Rattle.record_laws.specs.Books.AcceptedCalls.{CallUse}
use Rattle.record_laws.specs.Books.Uses.{IsOf, AreOf, UsesLaw}
use Rattle.record_laws.proofs.Books.Basics.{get_there}
use Rattle.record_laws.proofs.Books.Invariant.{EndView, ChannelUse, Kind, Tag, Passed, Tells, IsLive, IsRight, book_parts, epoch_at, sent_of, taken_of, nth_sent, nth_taken, all_sent, all_taken, passed_sent, passed_taken, HasSent, HasTaken}
use Rattle.record_laws.proofs.Books.Cancelling.{caller_not_cancelled, callee_not_cancelled}
use Rattle.record_laws.proofs.Books.Concluding.{kind_cases}
use Rattle.record_laws.proofs.Books.EndSteps.{views_of}
use Rattle.record_laws.proofs.Books.Lines.{KeptIn, Laws, all_kept, covered_within, in_line, start_counts}
use Rattle.record_laws.proofs.Books.Starting.{start_kept}

get_mapped : {X Y : Type 0} {f : X → Y} (xs : List X) (i : ℕ) (y : Y) → slice_get (map f xs) i ≡ Some y
    → (x : X) × (slice_get xs i ≡ Some x) × (f x ≡ y)
get_mapped [] i y e = absurd (none-some y e)
get_mapped {f = f} (x ∷ xs) zero y e = (x, refl, same_Some (f x) y e)
get_mapped (x ∷ xs) (suc i) y e = get_mapped xs i y e

-- ---- one epoch

sent_there : (es : List SentEpoch) (g : ℕ) (s : SentEpoch) → slice_get es g ≡ Some s → nth_sent es g ≡ passed_sent s
sent_there [] g s e = absurd (none-some s e)
sent_there (x ∷ es) zero s e = ap passed_sent (same_Some x s e)
sent_there (x ∷ es) (suc g) s e = sent_there es g s e

taken_there : (es : List TakenEpoch) (g : ℕ) (t : TakenEpoch) → slice_get es g ≡ Some t → nth_taken es g ≡ passed_taken t
taken_there [] g t e = absurd (none-some t e)
taken_there (x ∷ es) zero t e = ap passed_taken (same_Some x t e)
taken_there (x ∷ es) (suc g) t e = taken_there es g t e

-- an epoch that a list does not have is empty
no_sent : (es : List SentEpoch) (g : ℕ) → length es ≤ g → nth_sent es g ≡ passed_sent nothing_sent
no_sent [] g beyond = refl
no_sent (x ∷ es) zero beyond = absurd (omega (arith, beyond))
no_sent (x ∷ es) (suc g) beyond = no_sent es g (omega (arith, beyond))

no_taken : (es : List TakenEpoch) (g : ℕ) → length es ≤ g → nth_taken es g ≡ passed_taken nothing_taken
no_taken [] g beyond = refl
no_taken (x ∷ es) zero beyond = absurd (omega (arith, beyond))
no_taken (x ∷ es) (suc g) beyond = no_taken es g (omega (arith, beyond))

sent_in : (e : Epoch) (s : SentEpoch) (p : Passed) → p ≡ passed_sent s → HasSent p (sent_of e) → e.covered ≤ length e.sent → IsSentIn e s
sent_in e s p is h w =
    let own : HasSent (passed_sent s) (sent_of e) = subst (λ (q : Passed). HasSent q (sent_of e)) is h in
    let many = ap (λ (l : List DataPacket). length l) own.packets in
    let same = length-map e.sent packet_of in
    let count = own.count in
    record { packets = own.packets; interrupts = own.interrupts; covered = own.count; within = omega arith }

taken_in : (e : Epoch) (t : TakenEpoch) (p : Passed) → p ≡ passed_taken t → HasTaken p (taken_of e) → e.released ≤ length e.taken → IsTakenIn e t
taken_in e t p is h w =
    let own : HasTaken (passed_taken t) (taken_of e) = subst (λ (q : Passed). HasTaken q (taken_of e)) is h in
    let many = ap (λ (l : List DataPacket). length l) own.packets in
    let same = length-map e.taken packet_of in
    let count = own.count in
    record { packets = own.packets; interrupts = own.interrupts; released = own.count; within = omega arith }

-- ---- one record

-- no more is released than taken, and no more covered than sent
record AreWithin (epochs : ℕ → Epoch) : Type 0 where
  sent : (g : ℕ) → (epochs g).covered ≤ length (epochs g).sent
  taken : (g : ℕ) → (epochs g).released ≤ length (epochs g).taken

epochs_of : (epochs : ℕ → Epoch) (r : RecordValue) → AreWithin epochs → ((g : ℕ) → HasSent (nth_sent (all_sent r) g) (sent_of (epochs g))) → ((g : ℕ) → HasTaken (nth_taken (all_taken r) g) (taken_of (epochs g)))
    → counts.HasEpochs epochs r
epochs_of epochs r w sent taken = record {
  sent = λ g s e. sent_in (epochs g) s (nth_sent (all_sent r) g) (sent_there (all_sent r) g s e) (sent g) (w.sent g);
  taken = λ g t e. taken_in (epochs g) t (nth_taken (all_taken r) g) (taken_there (all_taken r) g t e) (taken g) (w.taken g);
  all_sent = λ g beyond.
      sent_in (epochs g) nothing_sent (nth_sent (all_sent r) g) (no_sent (all_sent r) g beyond) (sent g) (w.sent g);
  all_taken = λ g beyond.
      taken_in (epochs g) nothing_taken (nth_taken (all_taken r) g) (no_taken (all_taken r) g beyond) (taken g) (w.taken g);
}

none_within : AreWithin (λ g. empty_epoch)
none_within = record { sent = λ g. omega arith; taken = λ g. omega arith }

live_kind : (k : Kind) → IsLive k ⊎ (k ≡ Kind.Cancelled)
live_kind k = elim (kind_cases k) [
  | inl h ↦ inl (λ e. caller_not_cancelled (sym h ∙ e))
  | inr (inl h) ↦ inl (λ e. callee_not_cancelled h.0 (sym h.1 ∙ e))
  | inr (inr h) ↦ inr h
]

-- ---- all records

module _ (n : ℕ) (v : World) (tags : List Tag) (right : IsRight (views_of Dte v.line.me v.line.you v.top_me v.top_you) (book_parts v.book) tags)
    (here : length v.line.me.layer.channels ≡ n) (there : length v.line.you.layer.channels ≡ n) (law : Laws n v.line) where
  abbrev view_at : Role → EndView
  view_at x = views_of Dte v.line.me v.line.you v.top_me v.top_you x

  within : (x : Role) (k : ChannelUse) → (view_at x).begun k ≡ true → AreWithin (λ g. epoch_at (view_at x) k g)
  within Dte k begun =
      let c = in_line n Dte v.line.me v.top_me k here begun in
      let w = law [] k.session k.channel c.0 c.1 in
      record { sent = λ g. covered_within _ _ (w.forth k.restart k.use_ g); taken = λ g. (w.back k.restart k.use_ g).released_is_taken }
  within Dce k begun =
      let c = in_line n Dce v.line.you v.top_you k there begun in
      let w = law [] k.session k.channel c.0 c.1 in
      record { sent = λ g. covered_within _ _ (w.back k.restart k.use_ g); taken = λ g. (w.forth k.restart k.use_ g).released_is_taken }

  same_histories : (x : Role) → (view_at x).histories ≡ (layers_at x v.line).histories
  same_histories Dte = refl
  same_histories Dce = refl

  pub use_epochs : (i : ℕ) (t : Tag) (r : RecordValue) → slice_get tags i ≡ Some t → Tells (view_at t.role) t.channel_use r
      → counts.HasEpochs (λ g. ((layers_at t.role v.line).histories t.channel_use.session t.channel_use.channel).epochs t.channel_use.restart t.channel_use.use_ g) r
  use_epochs i t r at tells =
      let k = t.channel_use in
      subst (λ (h : ℕ → ℕ → History). counts.HasEpochs (λ g. (h k.session k.channel).epochs k.restart k.use_ g) r) (same_histories t.role)
      (epochs_of (λ g. epoch_at (view_at t.role) k g) r (within t.role k (right.stands i t at).begun) tells.sent tells.taken)

  of_use : (i : ℕ) (t : Tag) (r : RecordValue) → slice_get tags i ≡ Some t → Tells (view_at t.role) t.channel_use r → counts.IsOfUse (layers_at t.role v.line) r
  of_use i t r at tells =
      let k = t.channel_use in
      record { session = k.session; channel = k.channel; restart = k.restart; use_ = k.use_; epochs = use_epochs i t r at tells }

  pub counted : (i : ℕ) (r : RecordValue) → slice_get v.book.records i ≡ Some r → IsCountedAt v r
  counted i r e =
      let t = get_there tags i (let h = slice_get_within v.book.records i r e in let c = right.count in omega arith) in
      let fits = right.fits i t.0 r t.1 e in
      record {
        role = t.0.role;
        node = fits.node_is;
        counts = elim (live_kind t.0.kind) [
          | inl live ↦ inl (of_use i t.0 r t.1 (fits.tells live))
          | inr gone ↦ inr (epochs_of (λ g. empty_epoch) r none_within (fits.none gone).sent (fits.none gone).taken)
        ];
      }

-- ---- the use of each record

abbrev pub use_of : Role → ChannelUse → CallUse
use_of role k = record { role = role; session = k.session; channel = k.channel; restart = k.restart; use_ = k.use_ }

-- of a call that a collision cancelled there is none
abbrev use_by : Kind → Role → ChannelUse → Option CallUse
use_by Kind.Caller role k = Some (use_of role k)
use_by (Kind.Callee a) role k = Some (use_of role k)
use_by Kind.Cancelled role k = None

abbrev use_by_tag : Tag → Option CallUse
use_by_tag t = use_by t.kind t.role t.channel_use

live_use : (kind : Kind) (role : Role) (k : ChannelUse) (u : CallUse) → use_by kind role k ≡ Some u
    → IsLive kind × (use_of role k ≡ u)
live_use Kind.Caller role k u is = (λ gone. caller_not_cancelled gone, same_Some (use_of role k) u is)
live_use (Kind.Callee a) role k u is = (λ gone. callee_not_cancelled a gone, same_Some (use_of role k) u is)
live_use Kind.Cancelled role k u is = absurd (none-some u is)

-- a use is of one end and one channel
same_role : (x y : Role) (k l : ChannelUse) → use_of x k ≡ use_of y l → (x ≡ y) × (k ≡ l)
same_role x y k l e = (
  ap (λ (u : CallUse). u.role) e,
  ap (λ (u : CallUse). record { session = u.session; channel = u.channel; restart = u.restart; use_ = u.use_ }) e,
)

module _ (n : ℕ) (v : World) (tags : List Tag) (right : IsRight (views_of Dte v.line.me v.line.you v.top_me v.top_you) (book_parts v.book) tags)
    (here : length v.line.me.layer.channels ≡ n) (there : length v.line.you.layer.channels ≡ n) (law : Laws n v.line) where
  is_of : (kind : Kind) (i : ℕ) (t : Tag) (r : RecordValue) → t.kind ≡ kind → slice_get tags i ≡ Some t
      → slice_get v.book.records i ≡ Some r → IsOf v r (use_by kind t.role t.channel_use)
  is_of Kind.Caller i t r is at e =
      let fits = right.fits i t r at e in
      (fits.node_is, use_epochs n v tags right here there law i t r at (fits.tells (λ gone. caller_not_cancelled (sym is ∙ gone))))
  is_of (Kind.Callee a) i t r is at e =
      let fits = right.fits i t r at e in
      (fits.node_is, use_epochs n v tags right here there law i t r at (fits.tells (λ gone. callee_not_cancelled a (sym is ∙ gone))))
  is_of Kind.Cancelled i t r is at e =
      let none = (right.fits i t r at e).none is in
      epochs_of (λ g. empty_epoch) r none_within none.sent none.taken

  tag_there : (i : ℕ) (o : Option CallUse) → slice_get (map use_by_tag tags) i ≡ Some o
      → (t : Tag) × (slice_get tags i ≡ Some t) × (use_by_tag t ≡ o)
  tag_there i o e = get_mapped tags i o e

  are_of : AreOf v (map use_by_tag tags)
  are_of = record {
    count = length-map tags use_by_tag ∙ right.count;
    records = λ i o r at e.
        let t = tag_there i o at in
        subst (λ (p : Option CallUse). IsOf v r p) t.2 (is_of t.0.kind i t.0 r refl t.1 e);
    once = λ i j u at bt.
        let t = tag_there i (Some u) at in
        let s = tag_there j (Some u) bt in
        let a = live_use t.0.kind t.0.role t.0.channel_use u t.2 in
        let b = live_use s.0.kind s.0.role s.0.channel_use u s.2 in
        let is = same_role t.0.role s.0.role t.0.channel_use s.0.channel_use (a.1 ∙ sym b.1) in
        right.alone i j t.0 s.0 t.1 s.1 a.0 b.0 is.0 is.1;
  }

pub records_counted : CountsLaw
records_counted dte_node dce_node channels flow standing some small ms allowed =
    let w : World = after_all ms (start dte_node dce_node channels flow standing) in
    let k : KeptIn channels w (all_callers ms (start dte_node dce_node channels flow standing) (made_callers standing)) × Laws channels w.line =
    all_kept channels ms (start dte_node dce_node channels flow standing) (made_callers standing) (start_kept dte_node dce_node channels flow standing some)
    (λ hs. (line_holds channels flow standing some small hs).0) (start_counts channels flow standing some small) allowed in
    counted channels w k.0.tags k.0.right k.0.here.count k.0.there.count k.1

pub records_used : UsesLaw
records_used dte_node dce_node channels flow standing some small ms allowed =
    let w : World = after_all ms (start dte_node dce_node channels flow standing) in
    let k : KeptIn channels w (all_callers ms (start dte_node dce_node channels flow standing) (made_callers standing)) × Laws channels w.line =
    all_kept channels ms (start dte_node dce_node channels flow standing) (made_callers standing) (start_kept dte_node dce_node channels flow standing some)
    (λ hs. (line_holds channels flow standing some small hs).0) (start_counts channels flow standing some small) allowed in
    (map use_by_tag k.0.tags, are_of channels w k.0.tags k.0.right k.0.here.count k.0.there.count k.1)
