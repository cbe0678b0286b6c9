-- Calls that came in: what the book has of them until they are accepted, and in data transfer.
use Rattle.std.specs.Prelude.{◌≡◌, ℕ, ◌≤◌, Bool, true, false, ◌||◌, List, [], is_some, slice_get, Option, Some, None}
use Rattle.std.proofs.Common.{refl, sym, ap, subst, ◌∙◌, arith, true≢false}
use Rattle.link_timers.specs.declared.role.Role.{Role}
use Rattle.link_timers.specs.declared.role.Role.TheVariants.{Dte, Dce}
use Rattle.link_timers.specs.Role.{other_of}
use Rattle.packet_channel.specs.Channel.{ChannelState, Channel, may_accept, in_transfer}
use Rattle.packet_channel.specs.Channel.ChannelState.{Ready, OwnWaiting, FarWaiting, Transfer, Collision, OwnClear}
use Rattle.packet_layer.specs.Layer.{channel_of}
use Rattle.call_records.specs.Records.{PairValue}
use Rattle.call_records.specs.Book.{Book, Slot, slot_at}
use Rattle.packet_laws.specs.LayerLineLaw.{Holds}
use Rattle.packet_laws.specs.LayerLine.{End}
use Rattle.packet_laws.proofs.Line.LineHolds.{line_holds}
use Rattle.record_laws.specs.Books.Told.{World, after_all, start, made_callers}
use Rattle.record_laws.specs.Books.Headline.{IsPaired, HasCallee, AreAnswered, AnsweredLaw, layer_at}
use Rattle.record_laws.proofs.Books.Invariant.{EndView, CallStatus, ChannelUse, Kind, Tag, SlotIs, IsRight, book_parts, answered_at, now}
use Rattle.record_laws.proofs.Books.Invariant.CallStatus.{FarCall, Open}
use Rattle.record_laws.proofs.Books.Invariant.Kind.{Caller, Callee, Cancelled}
use Rattle.record_laws.proofs.Books.Carrying.{same_tag}
use Rattle.record_laws.proofs.Books.EndSteps.{status_of, status_at, view_of, views_of}
use Rattle.record_laws.proofs.Books.Layers.{in_range}
use Rattle.record_laws.proofs.Books.ChannelSteps.{IsEnd}
use Rattle.record_laws.proofs.Books.Placed.{pair_is, has_callee}
use Rattle.record_laws.proofs.Books.Lines.{KeptIn, all_kept, start_counts}
use Rattle.record_laws.proofs.Books.Starting.{start_kept}

far_call : (x : Role) (s : ChannelState) → may_accept x s ≡ true → status_of x s ≡ FarCall
far_call x FarWaiting e = refl
far_call Dce Collision e = refl
far_call Dte Collision e = absurd (true≢false (sym e))
far_call x Ready e = absurd (true≢false (sym e))
far_call x OwnWaiting e = absurd (true≢false (sym e))
far_call x Transfer e = absurd (true≢false (sym e))
far_call x OwnClear e = absurd (true≢false (sym e))

open_call : (x : Role) (s : ChannelState) → in_transfer s ≡ true → status_of x s ≡ Open
open_call x Transfer e = refl
open_call x Ready e = absurd (true≢false (sym e))
open_call x OwnWaiting e = absurd (true≢false (sym e))
open_call x FarWaiting e = absurd (true≢false (sym e))
open_call x Collision e = absurd (true≢false (sym e))
open_call x OwnClear e = absurd (true≢false (sym e))

some_of : (o : Option ℕ) → is_some o ≡ true → (n : ℕ) × (o ≡ Some n)
some_of (Some n) e = (n, refl)
some_of None e = absurd (true≢false (sym e))

abbrev callee_number : Kind → ℕ
callee_number Caller = 0
callee_number (Callee a) = a
callee_number Cancelled = 0

came_in : (f : EndView) (tags : List Tag) (x : Role) (c : ℕ) (slot : Slot) → SlotIs FarCall f tags x c slot → is_some slot.caller ≡ true
came_in f tags x c slot w = ap (λ (o : Option ℕ). is_some o) w.3

paired : (views : Role → EndView) (b : Book) (tags : List Tag) (x : Role) (c : ℕ) → IsRight views (book_parts b) tags → SlotIs Open (views x) tags x c (slot_at x c b)
    → is_some (slot_at x c b).caller ≡ true → IsPaired (slot_at x c b) b.pairs
paired views b tags x c r w some =
    let a = some_of (slot_at x c b).caller some in
    let k = w.1 a.0 a.1 in
    let t : Tag = w.0.tag in
    let found = ((r.means w.0.number t w.0.there).callee a.0 k.0).paired (subst (λ (z : Role). answered_at (views z) t.channel_use ≡ true) (sym w.0.role) k.1) in
    let pair = r.pairs found.0 found.1 found.2 in
    let same : pair.tag ≡ t = same_tag tags w.0.number pair.tag t (subst (λ (n : ℕ). slice_get tags n ≡ Some pair.tag) found.3 pair.there) w.0.there in
    let caller : found.1.caller ≡ a.0 = ap callee_number (sym pair.kind ∙ ap (λ (u : Tag). u.kind) same ∙ k.0) in
    record {
      caller = a.0;
      callee = w.0.number;
      present = w.0.is_present;
      came = a.1;
      place = found.0;
      there = found.2 ∙ ap (λ (q : PairValue). Some q) (pair_is found.1 a.0 w.0.number caller found.3);
    }

-- in data transfer one of the two ends accepted; where an end placed the call, it was the other one
accepted_there : (a b : Bool) → a ≡ false → (a || b) ≡ true → b ≡ true
accepted_there false b e h = h
accepted_there true b e h = absurd (true≢false e)

no_caller : (o : Option ℕ) → is_some o ≡ false → o ≡ None
no_caller None e = refl
no_caller (Some n) e = absurd (true≢false e)

transfer_state : (s : ChannelState) → in_transfer s ≡ true → s ≡ Transfer
transfer_state Transfer e = refl
transfer_state Ready e = absurd (true≢false (sym e))
transfer_state OwnWaiting e = absurd (true≢false (sym e))
transfer_state FarWaiting e = absurd (true≢false (sym e))
transfer_state Collision e = absurd (true≢false (sym e))
transfer_state OwnClear e = absurd (true≢false (sym e))

-- a call that an end placed
placed_in : (views : Role → EndView) (b : Book) (tags : List Tag) (x : Role) (c : ℕ) → IsRight views (book_parts b) tags → SlotIs Open (views x) tags x c (slot_at x c b)
    → is_some (slot_at x c b).caller ≡ false
    → ((s : ℕ) → (views x).session ≡ Some s → (answered_at (views x) (now (views x) s c) || answered_at (views (other_of x)) (now (views x) s c)) ≡ true)
    → HasCallee b x c
placed_in views b tags x c r w none accepted =
    let p = w.0 in
    let own : p.tag.kind ≡ Caller = w.2 (no_caller (slot_at x c b).caller none) in
    let not_here : answered_at (views x) p.tag.channel_use ≡ false =
    subst (λ (y : Role). answered_at (views y) p.tag.channel_use ≡ false) p.role ((r.means p.number p.tag p.there).caller own).not_answered in
    has_callee views b tags r x c p own (accepted_there (answered_at (views x) p.tag.channel_use) (answered_at (views (other_of x)) p.tag.channel_use) not_here
    (subst (λ (k : ChannelUse). (answered_at (views x) k || answered_at (views (other_of x)) k) ≡ true) (sym p.channel_use) (accepted p.session p.up)))

kept_answered : (n : ℕ) (w : World) (cs : List (Option ℕ)) → KeptIn n w cs → ((s c : ℕ) → 1 ≤ c → c ≤ n → Holds w.line s c) → AreAnswered w
kept_answered n w cs k law = record { came = came; paired = found; placed = placed }
  where
    came : (role : Role) (c : ℕ) (ch : Channel) → channel_of (layer_at role w) c ≡ Some ch → may_accept role ch.state ≡ true → is_some (slot_at role c w.book).caller ≡ true
    came Dte c ch at may = came_in (view_of Dte w.line.me w.top_me) k.tags Dte c (slot_at Dte c w.book) (subst (λ (m : CallStatus). SlotIs m (view_of Dte w.line.me w.top_me) k.tags Dte c (slot_at Dte c w.book)) (ap (status_at Dte) at ∙ far_call Dte ch.state may) (k.right.slot Dte c))
    came Dce c ch at may = came_in (view_of Dce w.line.you w.top_you) k.tags Dce c (slot_at Dce c w.book) (subst (λ (m : CallStatus). SlotIs m (view_of Dce w.line.you w.top_you) k.tags Dce c (slot_at Dce c w.book)) (ap (status_at Dce) at ∙ far_call Dce ch.state may) (k.right.slot Dce c))

    found : (role : Role) (c : ℕ) (ch : Channel) → channel_of (layer_at role w) c ≡ Some ch → in_transfer ch.state ≡ true → is_some (slot_at role c w.book).caller ≡ true → IsPaired (slot_at role c w.book) w.book.pairs
    found Dte c ch at open_ some =
        paired (views_of Dte w.line.me w.line.you w.top_me w.top_you) w.book k.tags Dte c k.right (subst (λ (m : CallStatus). SlotIs m (view_of Dte w.line.me w.top_me) k.tags Dte c (slot_at Dte c w.book)) (ap (status_at Dte) at ∙ open_call Dte ch.state open_) (k.right.slot Dte c)) some
    found Dce c ch at open_ some =
        paired (views_of Dte w.line.me w.line.you w.top_me w.top_you) w.book k.tags Dce c k.right (subst (λ (m : CallStatus). SlotIs m (view_of Dce w.line.you w.top_you) k.tags Dce c (slot_at Dce c w.book)) (ap (status_at Dce) at ∙ open_call Dce ch.state open_) (k.right.slot Dce c)) some

    -- an end's channel is one of the line
    range_of : (x : Role) (e : End) (c : ℕ) (ch : Channel) → IsEnd n x e → channel_of e.layer c ≡ Some ch → (1 ≤ c) × (c ≤ n)
    range_of x e c ch end at = let h = in_range e.layer.channels c ch at in (h.0, let a = h.1 in let b = end.count in omega arith)

    placed : (role : Role) (c : ℕ) (ch : Channel) → channel_of (layer_at role w) c ≡ Some ch → in_transfer ch.state ≡ true → is_some (slot_at role c w.book).caller ≡ false → HasCallee w.book role c
    placed Dte c ch at open_ none =
        let h = range_of Dte w.line.me c ch k.here at in
        placed_in (views_of Dte w.line.me w.line.you w.top_me w.top_you) w.book k.tags Dte c k.right (subst (λ (m : CallStatus). SlotIs m (view_of Dte w.line.me w.top_me) k.tags Dte c (slot_at Dte c w.book)) (ap (status_at Dte) at ∙ open_call Dte ch.state open_) (k.right.slot Dte c)) none
        (λ s up. (law s c h.0 h.1).accepted_here ch 0 up at (transfer_state ch.state open_))
    placed Dce c ch at open_ none =
        let h = range_of Dce w.line.you c ch k.there at in
        placed_in (views_of Dte w.line.me w.line.you w.top_me w.top_you) w.book k.tags Dce c k.right (subst (λ (m : CallStatus). SlotIs m (view_of Dce w.line.you w.top_you) k.tags Dce c (slot_at Dce c w.book)) (ap (status_at Dce) at ∙ open_call Dce ch.state open_) (k.right.slot Dce c)) none
        (λ s up. (law s c h.0 h.1).accepted_there ch 0 up at (transfer_state ch.state open_))

pub are_answered : AnsweredLaw
are_answered dte_node dce_node channels flow standing some small ms allowed =
    let w : World = after_all ms (start dte_node dce_node channels flow standing) in
    let k = all_kept channels ms (start dte_node dce_node channels flow standing) (made_callers standing) (start_kept dte_node dce_node channels flow standing some)
    (λ hs. (line_holds channels flow standing some small hs).0) (start_counts channels flow standing some small) allowed in
    kept_answered channels w _ k.0 (λ s c least most. k.1 [] s c least most)
