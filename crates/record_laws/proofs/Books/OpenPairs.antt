-- The last epochs of present records are the present ones of their channels; two open records of a pair share a channel.
use Rattle.std.specs.Prelude.{◌≡◌, ℕ, zero, suc, ◌<◌, ◌≤◌, Bool, List, [], ◌∷◌, length, slice_get, Option, Some, None}
use Rattle.std.proofs.Common.{refl, sym, ap, subst, ◌∙◌, arith}
use Rattle.std.proofs.lemmas.Option.{none-some, slice_get_within}
use Rattle.link_timers.specs.declared.role.Role.{Role}
use Rattle.link_timers.specs.declared.role.Role.TheVariants.{Dte, Dce}
use Rattle.link_timers.specs.Role.{other_of}
use Rattle.data_transfer.specs.Flow.{modulus}
use Rattle.data_transfer.specs.declared.flow.Flow.{Flow}
use Rattle.packet_laws.specs.History.{History}
use Rattle.packet_laws.specs.LayerLineLaw.{Holds, epoch_now}
use Rattle.packet_laws.specs.Counted.{IsCounted}
use Rattle.packet_laws.specs.LayerLine.{Line, Happening, start_line, after}
use Rattle.packet_laws.specs.LayerLine.Happening.{Here, There}
use Rattle.packet_laws.proofs.Line.LineHolds.{line_holds}
use Rattle.packet_laws.proofs.Line.Counted.{line_counts}
use Rattle.call_records.specs.Records.{RecordValue}
use Rattle.call_records.specs.Book.{Slot, side_of, slot_at, nth_slot, found_slot}
use Rattle.record_laws.specs.Books.Told.{World, Move, after_move, after_all, all_callers, AreAllowed, start, made_callers}
use Rattle.record_laws.specs.Books.Told.Move.{Happens, Edits}
use Rattle.record_laws.specs.Books.Open.{HasLast, IsInEpoch, PresentInEpoch, OpenPairsShare, OpenHold, OpenLaw, layers_at}
use Rattle.record_laws.proofs.Books.Basics.{twice}
use Rattle.record_laws.proofs.Books.Invariant.{EndView, ChannelUse, Tag, Tells, HasEpochs, Fits, Present, IsRight, book_parts, now, sent_of, taken_of, nth_sent, nth_taken, all_sent, all_taken, passed_sent, passed_taken, HasSent, HasTaken, own_sent, own_taken}
use Rattle.record_laws.proofs.Books.Carrying.{same_tag}
use Rattle.record_laws.proofs.Books.Presence.{present_in}
use Rattle.record_laws.proofs.Books.EndSteps.{views_of}
use Rattle.record_laws.proofs.Books.Outcomes.{nth_at, nth_at_taken}
use Rattle.record_laws.proofs.Books.Lines.{KeptIn, Laws, all_kept, start_counts}
use Rattle.record_laws.proofs.Books.Starting.{start_kept}

-- ---- one record

-- in its present use a record has as many epochs as the channel
epochs_now : (f : EndView) (k : ChannelUse) (s c : ℕ) (r : RecordValue) → k ≡ now f s c → f.session ≡ Some s
    → (f.session ≡ Some k.session → k ≡ now f k.session k.channel → HasEpochs r (f.histories k.session k.channel).epoch)
    → HasEpochs r (f.histories s c).epoch
epochs_now f k s c r same up =
    subst (λ (u : ChannelUse). (f.session ≡ Some u.session → u ≡ now f u.session u.channel → HasEpochs r (f.histories u.session u.channel).epoch) → HasEpochs r (f.histories s c).epoch)
    (sym same) (λ h. h up refl)

has_last : (f : EndView) (s c : ℕ) (r : RecordValue) → Tells f (now f s c) r → HasEpochs r (f.histories s c).epoch → HasLast r (epoch_now (f.histories s c))
has_last f s c r t n =
    let g : ℕ = (f.histories s c).epoch in
    let sent_at : passed_sent r.sent ≡ nth_sent (all_sent r) g = sym (nth_at r.sent_before r.sent) ∙ ap (λ (i : ℕ). nth_sent (all_sent r) i) n.sent in
    let taken_at : passed_taken r.taken ≡ nth_taken (all_taken r) g = sym (nth_at_taken r.taken_before r.taken) ∙ ap (λ (i : ℕ). nth_taken (all_taken r) i) n.taken in
    let sent : HasSent (passed_sent r.sent) (sent_of (epoch_now (f.histories s c))) = own_sent _ _ _ sent_at (t.sent g) in
    let taken : HasTaken (passed_taken r.taken) (taken_of (epoch_now (f.histories s c))) = own_taken _ _ _ taken_at (t.taken g) in
    record {
      sent = sent.packets;
      interrupts_sent = sent.interrupts;
      covered = sent.count;
      taken = taken.packets;
      interrupts_taken = taken.interrupts;
      released = taken.count;
    }

-- ---- both ends

module _ (v : World) (tags : List Tag) (w : IsRight (views_of Dte v.line.me v.line.you v.top_me v.top_you) (book_parts v.book) tags) where
  abbrev view_at : Role → EndView
  view_at x = views_of Dte v.line.me v.line.you v.top_me v.top_you x

  same_session : (x : Role) → (layers_at x v.line).session ≡ (view_at x).session
  same_session Dte = refl
  same_session Dce = refl

  same_histories : (x : Role) → (view_at x).histories ≡ (layers_at x v.line).histories
  same_histories Dte = refl
  same_histories Dce = refl

  in_epoch : (x : Role) (c n : ℕ) (r : RecordValue) (p : Present (view_at x) tags x c (slot_at x c v.book)) → slice_get tags n ≡ Some p.tag
      → (slot_at x c v.book).present ≡ Some n → slice_get v.book.records n ≡ Some r → IsInEpoch v x p.session c n r
  in_epoch x c n r p there present got =
      let f : EndView = view_at x in
      let fits : Fits f ((book_parts v.book).nodes x) n p.tag r =
      subst (λ (z : Role). Fits (view_at z) ((book_parts v.book).nodes z) n p.tag r) p.role (w.fits n p.tag r there got) in
      let tells : Tells f (now f p.session c) r = subst (λ (k : ChannelUse). Tells f k r) p.channel_use (fits.tells p.live) in
      let epochs : HasEpochs r (f.histories p.session c).epoch = epochs_now f p.tag.channel_use p.session c r p.channel_use p.up (λ up same. fits.epochs up same p.live) in
      record {
        present = present;
        up = same_session x ∙ p.up;
        last = subst (λ (h : ℕ → ℕ → History). HasLast r (epoch_now (h p.session c))) (same_histories x) (has_last f p.session c r tells epochs);
      }

  present : PresentInEpoch v
  present x c n r at there =
      let p = present_in ((view_at x).status c) (view_at x) tags x c (slot_at x c v.book) n (w.slot x c) at in
      (p.0.session, in_epoch x c n r p.0 p.1 at there)

  share : OpenPairsShare v
  share i pair caller callee at caller_there callee_there caller_open callee_open =
      let o = w.pairs i pair at in
      let m = (w.means pair.callee o.tag o.there).callee pair.caller o.kind in
      let x = w.opened.somewhere pair.caller caller caller_there caller_open in
      let z = w.opened.somewhere pair.callee callee callee_there callee_open in
      let p = present_in ((view_at x.0).status x.1) (view_at x.0) tags x.0 x.1 (slot_at x.0 x.1 v.book) pair.caller (w.slot x.0 x.1) x.2 in
      let q = present_in ((view_at z.0).status z.1) (view_at z.0) tags z.0 z.1 (slot_at z.0 z.1 v.book) pair.callee (w.slot z.0 z.1) z.2 in
      let mate : p.0.tag ≡ m.mate = same_tag tags pair.caller p.0.tag m.mate p.1 m.there in
      let own : o.tag ≡ q.0.tag = same_tag tags pair.callee o.tag q.0.tag o.there q.1 in
      let role : z.0 ≡ other_of x.0 =
      sym (twice z.0) ∙ ap other_of (ap other_of (sym q.0.role ∙ ap (λ (t : Tag). t.role) (sym own)) ∙ sym m.role ∙ ap (λ (t : Tag). t.role) (sym mate) ∙ p.0.role) in
      let uses : now (view_at z.0) q.0.session z.1 ≡ now (view_at x.0) p.0.session x.1 =
      sym q.0.channel_use ∙ ap (λ (t : Tag). t.channel_use) (sym own) ∙ sym m.channel_use ∙ ap (λ (t : Tag). t.channel_use) (sym mate) ∙ p.0.channel_use in
      let session : q.0.session ≡ p.0.session = ap (λ (k : ChannelUse). k.session) uses in
      let channel : z.1 ≡ x.1 = ap (λ (k : ChannelUse). k.channel) uses in
      record {
        role = x.0;
        session = p.0.session;
        channel = x.1;
        at_caller = in_epoch x.0 x.1 pair.caller caller p.0 p.1 x.2 caller_there;
        at_callee =
            subst (λ (y : Role). IsInEpoch v y p.0.session x.1 pair.callee callee) role
            (subst (λ (s : ℕ). IsInEpoch v z.0 s x.1 pair.callee callee) session
            (subst (λ (c : ℕ). IsInEpoch v z.0 q.0.session c pair.callee callee) channel (in_epoch z.0 z.1 pair.callee callee q.0 q.1 z.2 callee_there)));
      }

-- ---- the law

-- a channel that has a present record is one of the line
pub in_slots : (slots : List Slot) (c n : ℕ) → (nth_slot slots c).present ≡ Some n → (1 ≤ c) × (c ≤ length slots)
in_slots slots zero n e = absurd (none-some n e)
in_slots slots (suc i) n e = let h = found (slice_get slots i) refl e in (omega arith, omega arith)
  where
    found : (o : Option Slot) → slice_get slots i ≡ o → (found_slot o).present ≡ Some n → suc i ≤ length slots
    found (Some slot) at e = slice_get_within slots i slot at
    found None at e = absurd (none-some n e)

-- the layers went through what happened to them
happened : (ms : List Move) (v : World) → (hs : List Happening) × ((after_all ms v).line ≡ after hs v.line)
happened [] v = ([], refl)
happened (Happens (Here event) ∷ ms) v = let h = happened ms (after_move (Happens (Here event)) v) in (Here event ∷ h.0, h.1)
happened (Happens (There event) ∷ ms) v = let h = happened ms (after_move (Happens (There event)) v) in (There event ∷ h.0, h.1)
happened (Edits role channel step ∷ ms) v = happened ms (after_move (Edits role channel step) v)

both_ends : (flow : Flow) (l : Line) (s c : ℕ) (role : Role) → IsCounted flow l.me s c × IsCounted flow l.you s c → IsCounted flow (layers_at role l) s c
both_ends flow l s c Dte h = h.0
both_ends flow l s c Dce h = h.1

module _ (dte_node dce_node channels : ℕ) (flow : Flow) (standing : Bool) (some : 1 ≤ channels) (small : flow.window < modulus flow.numbering) (ms : List Move)
    (allowed : AreAllowed ms (start dte_node dce_node channels flow standing)) where
  abbrev world : World
  world = after_all ms (start dte_node dce_node channels flow standing)

  all : KeptIn channels world (all_callers ms (start dte_node dce_node channels flow standing) (made_callers standing)) × Laws channels world.line
  all = all_kept channels ms (start dte_node dce_node channels flow standing) (made_callers standing) (start_kept dte_node dce_node channels flow standing some)
      (λ hs. (line_holds channels flow standing some small hs).0) (start_counts channels flow standing some small) allowed

  -- the law of the line on a channel that has a present record
  pub holds_there : (role : Role) (c n : ℕ) → (slot_at role c world.book).present ≡ Some n → (s : ℕ) → Holds world.line s c
  holds_there role c n e s =
      let h = in_slots (side_of role world.book).slots c n e in
      let size = all.0.sizes.size role in
      all.1 [] s c h.0 (omega arith)

  -- and the numbers of such a channel name the counts of its epoch
  pub counted_there : (role : Role) (c n : ℕ) → (slot_at role c world.book).present ≡ Some n → (s : ℕ) → IsCounted flow (layers_at role world.line) s c
  counted_there role c n e s =
      let h = in_slots (side_of role world.book).slots c n e in
      let size = all.0.sizes.size role in
      let ran = happened ms (start dte_node dce_node channels flow standing) in
      let both = line_counts channels flow standing some small ran.0 s c h.0 (omega arith) in
      subst (λ (l : Line). IsCounted flow (layers_at role l) s c) (sym ran.1) (both_ends flow (after ran.0 (start_line channels flow standing)) s c role both)

  pub opened : OpenHold world
  opened = record { present = present world all.0.tags all.0.right; pairs = share world all.0.tags all.0.right }

pub open_pairs : OpenLaw
open_pairs dte_node dce_node channels flow standing some small ms allowed = opened dte_node dce_node channels flow standing some small ms allowed
