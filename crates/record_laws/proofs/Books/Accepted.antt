-- An open record of a call that came in and was accepted: its end is in data transfer, and where the other end stands
-- in the same use of the channel, the present record there is that of the end that placed the call.
use Rattle.std.specs.Prelude.{◌≡◌, ℕ, zero, suc, ◌<◌, ◌≤◌, Bool, true, false, List, length, slice_get, Option, Some, None}
use Rattle.std.proofs.Common.{refl, sym, ap, ap₂, subst, ◌∙◌, arith, true≢false}
use Rattle.std.proofs.lemmas.Option.{same_Some}
use Rattle.link_timers.specs.declared.role.Role.{Role}
use Rattle.link_timers.specs.declared.role.Role.TheVariants.{Dte, Dce}
use Rattle.link_timers.specs.Role.{other_of}
use Rattle.data_transfer.specs.Flow.{modulus}
use Rattle.data_transfer.specs.declared.flow.Flow.{Flow}
use Rattle.packet_channel.specs.Channel.{ChannelState, Channel}
use Rattle.packet_channel.specs.Channel.ChannelState.{Ready, OwnWaiting, FarWaiting, Transfer, Collision, OwnClear}
use Rattle.packet_layer.specs.Layer.{nth_channel, channel_of}
use Rattle.packet_laws.specs.History.{Epoch, History}
use Rattle.packet_laws.specs.LayerLineLaw.{Holds, InUse}
use Rattle.packet_laws.proofs.Line.LineHolds.{line_holds}
use Rattle.call_records.specs.Records.{RecordValue, PairValue}
use Rattle.call_records.specs.Book.{Slot, side_of, slot_at}
use Rattle.record_laws.specs.Books.Told.{World, Move, after_all, all_callers, AreAllowed, start, made_callers}
use Rattle.record_laws.specs.Books.Headline.{layer_at}
use Rattle.record_laws.specs.Books.Open.{layers_at}
use Rattle.record_laws.proofs.Books.Basics.{get_there}
use Rattle.record_laws.proofs.Books.Invariant.{EndView, CallStatus, ChannelUse, Kind, Tag, SlotIs, IsRight, book_parts, answered_at, now}
use Rattle.record_laws.proofs.Books.Invariant.CallStatus.{Open}
use Rattle.record_laws.proofs.Books.Invariant.Kind.{Caller, Callee, Cancelled}
use Rattle.record_laws.proofs.Books.Carrying.{same_tag}
use Rattle.record_laws.proofs.Books.EndSteps.{status_at, views_of}
use Rattle.record_laws.proofs.Books.Presence.{present_in}
use Rattle.record_laws.proofs.Books.Lines.{KeptIn, Laws, all_kept, start_counts}
use Rattle.record_laws.proofs.Books.OpenPairs.{in_slots, holds_there}
use Rattle.record_laws.proofs.Books.Starting.{start_kept}

-- ---- one use of a channel

-- in any state but data transfer no call was accepted in the present use
accepted_in : (role : Role) (state : ChannelState) (st : History) → InUse role state st → (st.epochs st.restart st.use_ 0).answered ≡ true → state ≡ Transfer
accepted_in role Transfer st h e = refl
accepted_in role Ready st h e = absurd (true≢false (sym e ∙ ap (λ (x : Epoch). x.answered) (h.empty 0)))
accepted_in role OwnWaiting st h e = absurd (true≢false (sym e ∙ ap (λ (x : Epoch). x.answered) (h.placed 0)))
accepted_in role FarWaiting st h e = absurd (true≢false (sym e ∙ ap (λ (x : Epoch). x.answered) (h.empty 0)))
accepted_in role Collision st h e = absurd (true≢false (sym e ∙ ap (λ (x : Epoch). x.answered) (h.placed 0)))
accepted_in role OwnClear st h e = absurd (true≢false (sym e ∙ ap (λ (x : Epoch). x.answered) (h.empty 0)))

channel_there : (chs : List Channel) (c : ℕ) → 1 ≤ c → c ≤ length chs → (ch : Channel) × (nth_channel chs c ≡ Some ch)
channel_there chs zero some less = absurd (omega arith)
channel_there chs (suc i) some less = get_there chs i (omega arith)

-- ---- kinds

abbrev is_callee : Kind → Bool
is_callee Caller = false
is_callee (Callee a) = true
is_callee Cancelled = false

abbrev is_cancelled : Kind → Bool
is_cancelled Caller = false
is_cancelled (Callee a) = false
is_cancelled Cancelled = true

abbrev callee_of : Kind → ℕ
callee_of Caller = 0
callee_of (Callee a) = a
callee_of Cancelled = 0

live_caller : (k : Kind) → k ≡ Caller → k ≡ Cancelled → ⊥
live_caller k e f = true≢false (ap is_cancelled (sym f ∙ e))

-- the caller of an open call that came from this one
caller_is : (f : EndView) (tags : List Tag) (x : Role) (c a n : ℕ) (slot : Slot) → SlotIs Open f tags x c slot → (t : Tag) → slot.present ≡ Some n → slice_get tags n ≡ Some t
    → t.kind ≡ Callee a → slot.caller ≡ Some a
caller_is f tags x c a n slot w t present there kind = by_caller slot.caller refl
  where
    own : w.0.tag ≡ t
    own = same_tag tags n w.0.tag t (ap (λ (k : ℕ). slice_get tags k) (same_Some n w.0.number (sym present ∙ w.0.is_present)) ∙ w.0.there) there

    by_caller : (o : Option ℕ) → slot.caller ≡ o → slot.caller ≡ Some a
    by_caller None e = absurd (true≢false (ap is_callee (sym kind ∙ ap (λ (u : Tag). u.kind) (sym own) ∙ w.2 e)))
    by_caller (Some d) e =
        let same : d ≡ a = ap callee_of (sym (w.1 d e).0 ∙ ap (λ (u : Tag). u.kind) own ∙ kind) in
        e ∙ ap (λ (k : ℕ). Some k) same

-- ---- the law

-- the record is present on a channel in data transfer, which says from whom the call came; and where the other end
-- stands in the same use, its present record is that one's
pub record IsInTransfer (w : World) (pair : PairValue) : Type 0 where
  pub role : Role
  pub channel : ℕ
  pub session : ℕ
  pub present : (slot_at role channel w.book).present ≡ Some pair.callee
  pub came : (slot_at role channel w.book).caller ≡ Some pair.caller
  pub up : (layers_at role w.line).session ≡ Some session
  pub mine : Channel
  pub mine_there : channel_of (layer_at role w) channel ≡ Some mine
  pub in_call : mine.state ≡ Transfer
  pub yours : Channel
  pub yours_there : channel_of (layer_at (other_of role) w) channel ≡ Some yours
  pub other : (m : ℕ) → (slot_at (other_of role) channel w.book).present ≡ Some m → (layers_at (other_of role) w.line).session ≡ Some session
      → ((layers_at (other_of role) w.line).histories session channel).restart ≡ ((layers_at role w.line).histories session channel).restart
      → ((layers_at (other_of role) w.line).histories session channel).use_ ≡ ((layers_at role w.line).histories session channel).use_
      → m ≡ pair.caller

module _ (dte_node dce_node channels : ℕ) (flow : Flow) (standing : Bool) (some : 1 ≤ channels) (small : flow.window < modulus flow.numbering) (ms : List Move)
    (allowed : AreAllowed ms (start dte_node dce_node channels flow standing)) where
  abbrev world : World
  world = after_all ms (start dte_node dce_node channels flow standing)

  all : KeptIn channels world (all_callers ms (start dte_node dce_node channels flow standing) (made_callers standing)) × Laws channels world.line
  all = all_kept channels ms (start dte_node dce_node channels flow standing) (made_callers standing) (start_kept dte_node dce_node channels flow standing some)
      (λ hs. (line_holds channels flow standing some small hs).0) (start_counts channels flow standing some small) allowed

  abbrev view_at : Role → EndView
  view_at x = views_of Dte world.line.me world.line.you world.top_me world.top_you x

  right : IsRight view_at (book_parts world.book) all.0.tags
  right = all.0.right

  there_at : (x : Role) (c : ℕ) → 1 ≤ c → c ≤ channels → (ch : Channel) × (channel_of (layer_at x world) c ≡ Some ch)
  there_at Dte c least most = channel_there world.line.me.layer.channels c least (subst (λ (k : ℕ). c ≤ k) (sym all.0.here.count) most)
  there_at Dce c least most = channel_there world.line.you.layer.channels c least (subst (λ (k : ℕ). c ≤ k) (sym all.0.there.count) most)

  used_at : (x : Role) (s c : ℕ) (ch : Channel) → Holds world.line s c → (view_at x).session ≡ Some s → channel_of (layer_at x world) c ≡ Some ch
      → answered_at (view_at x) (now (view_at x) s c) ≡ true → ch.state ≡ Transfer
  used_at Dte s c ch h up at e = accepted_in world.line.me.layer.role ch.state (world.line.me.histories s c) (h.here.in_use ch up at) e
  used_at Dce s c ch h up at e = accepted_in world.line.you.layer.role ch.state (world.line.you.histories s c) (h.there.in_use ch up at) e

  same_session : (x : Role) → (layers_at x world.line).session ≡ (view_at x).session
  same_session Dte = refl
  same_session Dce = refl

  status_is : (x : Role) (c : ℕ) → (view_at x).status c ≡ status_at x (channel_of (layer_at x world) c)
  status_is Dte c = refl
  status_is Dce c = refl

  use_is : (x : Role) (s c : ℕ) → now (view_at x) s c ≡ record { session = s; channel = c; restart = ((layers_at x world.line).histories s c).restart; use_ = ((layers_at x world.line).histories s c).use_ }
  use_is Dte s c = refl
  use_is Dce s c = refl

  open_status : (x : Role) (c : ℕ) (ch : Channel) → channel_of (layer_at x world) c ≡ Some ch → ch.state ≡ Transfer → (view_at x).status c ≡ Open
  open_status x c ch at e = status_is x c ∙ ap (λ (o : Option Channel). status_at x o) at ∙ ap (λ (st : ChannelState). status_at x (Some (record ch { state = st }))) e

  pub accepted : (i : ℕ) (pair : PairValue) (callee : RecordValue) → slice_get world.book.pairs i ≡ Some pair → slice_get world.book.records pair.callee ≡ Some callee
      → callee.closed ≡ false → IsInTransfer world pair
  accepted i pair callee at there open_ =
      let o = right.pairs i pair at in
      let z = right.opened.somewhere pair.callee callee there open_ in
      let x = z.0 in
      let c = z.1 in
      let q = present_in ((view_at x).status c) (view_at x) all.0.tags x c (slot_at x c world.book) pair.callee (right.slot x c) z.2 in
      let own : o.tag ≡ q.0.tag = same_tag all.0.tags pair.callee o.tag q.0.tag o.there q.1 in
      let role : o.tag.role ≡ x = ap (λ (t : Tag). t.role) own ∙ q.0.role in
      let use_ : o.tag.channel_use ≡ now (view_at x) q.0.session c = ap (λ (t : Tag). t.channel_use) own ∙ q.0.channel_use in
      let answered : answered_at (view_at x) (now (view_at x) q.0.session c) ≡ true =
      ap₂ (λ (y : Role) (k : ChannelUse). answered_at (view_at y) k) (sym role) (sym use_) ∙ o.answered in
      let range = in_slots (side_of x world.book).slots c pair.callee z.2 in
      let most : c ≤ channels = subst (λ (k : ℕ). c ≤ k) (all.0.sizes.size x) range.1 in
      let mine = there_at x c range.0 most in
      let yours = there_at (other_of x) c range.0 most in
      let law : Holds world.line q.0.session c = holds_there dte_node dce_node channels flow standing some small ms allowed x c pair.callee z.2 q.0.session in
      let in_call : mine.0.state ≡ Transfer = used_at x q.0.session c mine.0 law q.0.up mine.1 answered in
      let slot : SlotIs Open (view_at x) all.0.tags x c (slot_at x c world.book) =
      subst (λ (m : CallStatus). SlotIs m (view_at x) all.0.tags x c (slot_at x c world.book)) (open_status x c mine.0 mine.1 in_call) (right.slot x c) in
      let m = (right.means pair.callee o.tag o.there).callee pair.caller o.kind in
      record {
        role = x;
        channel = c;
        session = q.0.session;
        present = z.2;
        came = caller_is (view_at x) all.0.tags x c pair.caller pair.callee (slot_at x c world.book) slot o.tag z.2 o.there o.kind;
        up = same_session x ∙ q.0.up;
        mine = mine.0;
        mine_there = mine.1;
        in_call = in_call;
        yours = yours.0;
        yours_there = yours.1;
        other = λ n present up restart use_same.
            let p = present_in ((view_at (other_of x)).status c) (view_at (other_of x)) all.0.tags (other_of x) c (slot_at (other_of x) c world.book) n (right.slot (other_of x) c) present in
            let session : p.0.session ≡ q.0.session = same_Some p.0.session q.0.session (sym p.0.up ∙ sym (same_session (other_of x)) ∙ up) in
            let uses : p.0.tag.channel_use ≡ m.mate.channel_use =
            p.0.channel_use ∙ ap (λ (s : ℕ). now (view_at (other_of x)) s c) session ∙ use_is (other_of x) q.0.session c
            ∙ ap₂ (λ (r u : ℕ). record { session = q.0.session; channel = c; restart = r; use_ = u }) restart use_same
            ∙ sym (use_is x q.0.session c) ∙ sym use_ ∙ sym m.channel_use in
            right.alone n pair.caller p.0.tag m.mate p.1 m.there p.0.live (live_caller m.mate.kind m.calls) (p.0.role ∙ ap other_of (sym role) ∙ sym m.role) uses;
      }
