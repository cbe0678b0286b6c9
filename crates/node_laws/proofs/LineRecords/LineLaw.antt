-- The law of a line of a network and of its book.
use Rattle.std.specs.Prelude.{◌≡◌, ℕ, suc, not, ◌+◌, Bool, true, false, cond, List, [], ◌∷◌, ◌++◌, drop, length, slice_get, Option, Some, None, is_some}
use Rattle.std.proofs.Common.{refl, sym, ap, subst, ◌∙◌, arith, true≢false}
use Rattle.link_timers.specs.declared.role.Role.{Role}
use Rattle.link_timers.specs.declared.role.Role.TheVariants.{Dte, Dce}
use Rattle.data_transfer.specs.declared.flow.Flow.{Flow}
use Rattle.link_timers.specs.Role.{other_of}
use Rattle.lapb.specs.Machine.{Octets, Link}
use Rattle.lapb.specs.World as links
use Rattle.packet_layer.specs.LayerTimers.{none_running}
use Rattle.data_transfer.proofs.Windows.{window_below}
use Rattle.line_end.specs.End as line
use Rattle.data_transfer.specs.Packets.{Note}
use Rattle.data_transfer.specs.Packets.Note.{Closed}
use Rattle.data_transfer.specs.Packets.Reason.{LinkLost}
use Rattle.packet_channel.specs.Channel.{ChannelState, Channel, Request, Refusal, refusal, refused_if, in_transfer, entered}
use Rattle.packet_channel.specs.Channel.ChannelState.{Ready, OwnWaiting, FarWaiting, Transfer, Collision, OwnClear}
use Rattle.packet_channel.specs.Channel.Request.{Accept, Clearing, Resetting, Sending, Interrupting, Stopping, Taking, Releasing, Confirming}
use Rattle.packet_layer.specs.Layer as machine
use Rattle.packet_layer.specs.Layer.{Layer, channel_of, link_down, channel_given, had_call, closing_notes, flow_refusal_at, refusal_at}
use Rattle.packet_laws.specs.Readable.{IsReadable}
use Rattle.packet_laws.specs.LayerLine as layers
use Rattle.packet_end.specs.PacketEnd.{PacketEnd}
use Rattle.packet_end.specs.Params.{info_of}
use Rattle.node_laws.specs.Lines.NodeLine as acts
use Rattle.node_laws.specs.Lines.NodeLine.{Line, Act, Begins, Hears, Expires, Relinks, RelinksIfDue, Restarts, Calls, Requests, Offers, Settles, Elapses, Sends, At, does, other_after, going_after, coming_after, made}
use Rattle.node_laws.specs.Lines.Joint.{Joint, Stands, side, Follows}
use Rattle.node_laws.proofs.Lines.Holding.{new_joint}
use Rattle.call_records.specs.Book.{Book, Slot, side_of, slot_at, closes, edits, all_told}
use Rattle.call_records.specs.Closing.{closes_if, closed_from}
use Rattle.record_laws.proofs.Books.Writing.{closed_else}
use Rattle.record_laws.specs.Books.Told.{after_all, placed_on}
use Rattle.record_laws.specs.Books.Headline.{BookHolds, IsBeside, has_call}
use Rattle.record_laws.proofs.Books.BookHolds.{book_holds}
use Rattle.record_laws.proofs.Books.Beside.{is_beside}
use Rattle.node_laws.specs.LineRecords.Kept.{Setting, Kept, IsLike, beginning, end_at, coming_to}
use Rattle.node_laws.specs.LineRecords.LineRecordClauses.{MadeLaw, Tells, TellsLaw, SilentLaw, RestartLaw, CallLaw, requested_at, RequestLaw, LossLaw, EditLaw, LikeLaw, HoldsLaw, PresentLaw, IsInTransfer, TransferLaw, AskedLaw, FrontLaw, ChannelsLaw, ClosingLaw}
use Rattle.node_laws.proofs.LineRecords.WaitsInTransfer.{found_open}
use Rattle.node_laws.proofs.LineRecords.Views.{kept_waits, KeptAt, seen, unseen}
use Rattle.node_laws.proofs.LineRecords.KeptAfterActs.{hears_at, expires_at, relinks_at, relinks_if_due_at, begins_at, settles_at, elapses_at, sends_at, offers_at, restarts_at, calls_at, requests_at, loses_at, edits_at, kept_happens, end_is}

-- ---- the making

pub made_kept : MadeLaw
made_kept s is =
    let n = new_joint s.dte.channels s.dte.flow s.dte.k s.dte.n2 s.dce.k s.dce.n2 s.dte.standing is.dte.link.k_most is.dce.link.k_most is.dte.layer.channels_most in
    let j : Joint (made s.dte s.dce) n.0 (beginning s).line =
    subst (λ (e : PacketEnd). Joint (record (made s.dte s.dce) { dce = e }) n.0 (beginning s).line)
    (λ i. record {
      line = line.made Dce (record { k = s.dce.k; n2 = s.dce.n2; info = info_of (sym is.alike.flow i); standing = sym is.alike.standing i });
      layer = machine.made Dce (sym is.alike.channels i) (sym is.alike.flow i) (sym is.alike.standing i);
      timers = none_running;
      notes = [];
    }) n.1 in
    record {
      setting = is;
      world = n.0;
      moves = [];
      allowed = tt;
      joint = j;
      book = refl;
      dte_top = omega arith;
      dce_top = omega arith;
    }

-- ---- acts that no user asks for

-- with its notes behind those that the end had
telling : (s : Setting) (b : Book) (l : Line) (role : Role) (act : Act) (given : List Note) → (does act (coming_to role l) (end_at role l)).notes ≡ (end_at role l).notes ++ given →
    KeptAt s (all_told role given b) role (does act (coming_to role l) (end_at role l)) (other_after act (end_at (other_of role) l)) (going_after act (end_at role l) (coming_to (other_of role) l)) (coming_after act (coming_to role l)) →
    Tells s b role l (acts.happens (At role act) l)
telling s b l role act given notes k = record {
  given = given;
  notes = sym (ap (λ (e : PacketEnd). e.notes) (end_is role act l)) ∙ notes;
  kept = kept_happens s (all_told role given b) role act l k;
}

pub tells_kept : TellsLaw
tells_kept s b l role Hears may k =
    let t = hears_at s b role (end_at role l) (end_at (other_of role) l) (coming_to (other_of role) l) (coming_to role l) (seen s b role l k) in telling s b l role Hears t.given t.notes t.kept
tells_kept s b l role (Expires id) may k =
    let t = expires_at s b role (end_at role l) (end_at (other_of role) l) (coming_to (other_of role) l) (coming_to role l) (seen s b role l k) id in telling s b l role (Expires id) t.given t.notes t.kept
tells_kept s b l role Relinks may k =
    let t = relinks_at s b role (end_at role l) (end_at (other_of role) l) (coming_to (other_of role) l) (coming_to role l) (seen s b role l k) in telling s b l role Relinks t.given t.notes t.kept
tells_kept s b l role RelinksIfDue may k =
    let t = relinks_if_due_at s b role (end_at role l) (end_at (other_of role) l) (coming_to (other_of role) l) (coming_to role l) (seen s b role l k) in telling s b l role RelinksIfDue t.given t.notes t.kept
tells_kept s b l role Begins may k = absurd may
tells_kept s b l role Restarts may k = absurd may
tells_kept s b l role (Calls parts) may k = absurd may
tells_kept s b l role (Requests channel r) may k = absurd may
tells_kept s b l role Offers may k = absurd may
tells_kept s b l role Settles may k = absurd may
tells_kept s b l role (Elapses ticks) may k = absurd may
tells_kept s b l role (Sends kept) may k = absurd may

pub silent_kept : SilentLaw
silent_kept s b l role Begins is k =
    kept_happens s b role Begins l (begins_at s b role (end_at role l) (end_at (other_of role) l) (coming_to (other_of role) l) (coming_to role l) (seen s b role l k))
silent_kept s b l role Offers is k =
    kept_happens s b role Offers l (offers_at s b role (end_at role l) (end_at (other_of role) l) (coming_to (other_of role) l) (coming_to role l) (seen s b role l k))
silent_kept s b l role Settles is k =
    kept_happens s b role Settles l (settles_at s b role (end_at role l) (end_at (other_of role) l) (coming_to (other_of role) l) (coming_to role l) (seen s b role l k))
silent_kept s b l role (Elapses ticks) is k =
    kept_happens s b role (Elapses ticks) l (elapses_at s b role (end_at role l) (end_at (other_of role) l) (coming_to (other_of role) l) (coming_to role l) (seen s b role l k) ticks)
silent_kept s b l role (Sends kept) is k =
    kept_happens s b role (Sends kept) l (sends_at s b role (end_at role l) (end_at (other_of role) l) (coming_to (other_of role) l) (coming_to role l) (seen s b role l k) kept)
silent_kept s b l role Hears is k = absurd is
silent_kept s b l role (Expires id) is k = absurd is
silent_kept s b l role Relinks is k = absurd is
silent_kept s b l role RelinksIfDue is k = absurd is
silent_kept s b l role Restarts is k = absurd is
silent_kept s b l role (Calls parts) is k = absurd is
silent_kept s b l role (Requests channel r) is k = absurd is

-- ---- acts of a user

pub call_kept : CallLaw
call_kept s b l role parts fits k =
    kept_happens s (placed_on role (channel_given (end_at role l).layer (end_at role l).layer.phase) parts b) role (Calls parts) l
    (calls_at s b role (end_at role l) (end_at (other_of role) l) (coming_to (other_of role) l) (coming_to role l) (seen s b role l k) parts fits)

pub request_kept : RequestLaw
request_kept s b l role channel r k =
    kept_happens s (requested_at role channel r (end_at role l) b) role (Requests channel r) l
    (requests_at s b role (end_at role l) (end_at (other_of role) l) (coming_to (other_of role) l) (coming_to role l) (seen s b role l k) channel r)

-- ---- what is no act of an end

pub loss_kept : LossLaw
loss_kept s b l Dte k = unseen s b Dte l.dte l.dce l.up (drop 1 l.down) (loses_at s b Dte l.dte l.dce l.up l.down (seen s b Dte l k))
loss_kept s b l Dce k = unseen s b Dce l.dce l.dte l.down (drop 1 l.up) (loses_at s b Dce l.dce l.dte l.down l.up (seen s b Dce l k))

pub edit_kept : EditLaw
edit_kept s b l role channel step k =
    unseen s (edits role channel step b) Dte l.dte l.dce l.up l.down (edits_at s b Dte l.dte l.dce l.up l.down (seen s b Dte l k) role channel step)

like_joint : (w : links.World) (v : layers.Line) (l m : Line) → IsLike l m → Joint l w v → Joint m w v
like_joint w v l m h j = record {
  stands =
      subst (λ (x : Link). Stands Dte w x m.dce.line.link (m.up ++ m.dte.line.frames) (m.down ++ m.dce.line.frames)) (sym h.dte_link)
      (subst (λ (x : Link). Stands Dte w l.dte.line.link x (m.up ++ m.dte.line.frames) (m.down ++ m.dce.line.frames)) (sym h.dce_link)
      (subst (λ (x : List Octets). Stands Dte w l.dte.line.link l.dce.line.link x (m.down ++ m.dce.line.frames)) (sym h.up)
      (subst (λ (x : List Octets). Stands Dte w l.dte.line.link l.dce.line.link (l.up ++ l.dte.line.frames) x) (sym h.down) j.stands)));
  mine =
      subst (λ (x : Link). Follows (side Dte w x) m.dte.layer v.me) (sym h.dte_link)
      (subst (λ (x : Layer). Follows (side Dte w l.dte.line.link) x v.me) (sym h.dte_layer) j.mine);
  yours =
      subst (λ (x : Link). Follows (side Dce w x) m.dce.layer v.you) (sym h.dce_link)
      (subst (λ (x : Layer). Follows (side Dce w l.dce.line.link) x v.you) (sym h.dce_layer) j.yours);
  readable_here = subst (λ (x : Layer). IsReadable x) (sym h.dte_layer) j.readable_here;
  readable_there = subst (λ (x : Layer). IsReadable x) (sym h.dce_layer) j.readable_there;
  same_flow =
      ap (λ (x : Layer). x.flow) h.dce_layer ∙ j.same_flow ∙ ap (λ (x : Layer). x.flow) (sym h.dte_layer);
  info = ap (λ (x : Link). x.info) h.dce_link ∙ j.info ∙ ap (λ (x : Layer). info_of x.flow) (sym h.dce_layer);
}

pub like_kept : LikeLaw
like_kept s b l m h k = record {
  setting = k.setting;
  world = k.world;
  moves = k.moves;
  allowed = k.allowed;
  joint = like_joint k.world (after_all k.moves (beginning s)).line l m h k.joint;
  book = k.book;
  dte_top = k.dte_top;
  dce_top = k.dce_top;
}

-- ---- what the book is then

pub holds_kept : HoldsLaw
holds_kept s b l k =
    subst (λ (x : Book). BookHolds x) k.book
    (book_holds s.dte_node s.dce_node s.dte.channels s.dte.flow s.dte.standing k.setting.dte.layer.channels_least (window_below _ k.setting.dte.layer.flow_is) k.moves k.allowed)

pub beside : (s : Setting) (b : Book) (l : Line) → (k : Kept s b l) → IsBeside (after_all k.moves (beginning s))
beside s b l k = is_beside s.dte_node s.dce_node s.dte.channels s.dte.flow s.dte.standing k.setting.dte.layer.channels_least (window_below _ k.setting.dte.layer.flow_is) k.moves k.allowed

pub present_kept : PresentLaw
present_kept s b l Dte channel k =
    ap (λ (x : Book). is_some (slot_at Dte channel x).present) (sym k.book) ∙ (beside s b l k).present Dte channel
    ∙ ap (λ (x : Layer). has_call (channel_of x channel)) k.joint.mine.layer
present_kept s b l Dce channel k =
    ap (λ (x : Book). is_some (slot_at Dce channel x).present) (sym k.book) ∙ (beside s b l k).present Dce channel
    ∙ ap (λ (x : Layer). has_call (channel_of x channel)) k.joint.yours.layer

-- a call in data transfer, and one of which a request is not refused, is a call
abbrev refusal_number : Option Refusal → ℕ
refusal_number None = 0
refusal_number (Some Refusal.NoCall) = 1
refusal_number (Some r) = 2

transfer_call : (state : ChannelState) (resetting : Bool) → IsInTransfer (refused_if (not (in_transfer state)) Refusal.NoCall (refused_if resetting Refusal.IsResetting None)) → had_call state ≡ true
transfer_call Ready resetting h = absurd h
transfer_call OwnClear resetting h = absurd h
transfer_call OwnWaiting resetting h = refl
transfer_call FarWaiting resetting h = refl
transfer_call Transfer resetting h = refl
transfer_call Collision resetting h = refl

found_transfer : (o : Option Channel) → IsInTransfer (flow_refusal_at o) → has_call o ≡ true
found_transfer None h = absurd h
found_transfer (Some ch) h = transfer_call ch.state ch.resetting h

no_call : (o : Option Refusal) → o ≡ Some Refusal.NoCall → o ≡ None → ⊥
no_call o e f = let h : ◌≡◌ {A = ℕ} 1 0 = ap refusal_number (sym e ∙ f) in omega arith

ready_refused : (role : Role) (flow : Flow) (ch : Channel) (r : Request) → refusal role flow (entered Ready ch) r ≡ Some Refusal.NoCall
ready_refused role flow ch Accept = refl
ready_refused role flow ch (Clearing cause diagnostic) = refl
ready_refused role flow ch (Resetting cause diagnostic) = refl
ready_refused role flow ch (Sending d) = refl
ready_refused role flow ch (Interrupting octets) = refl
ready_refused role flow ch (Stopping v) = refl
ready_refused role flow ch Taking = refl
ready_refused role flow ch (Releasing n) = refl
ready_refused role flow ch Confirming = refl

clear_refused : (role : Role) (flow : Flow) (ch : Channel) (r : Request) → refusal role flow (entered OwnClear ch) r ≡ Some Refusal.NoCall
clear_refused role flow ch Accept = refl
clear_refused role flow ch (Clearing cause diagnostic) = refl
clear_refused role flow ch (Resetting cause diagnostic) = refl
clear_refused role flow ch (Sending d) = refl
clear_refused role flow ch (Interrupting octets) = refl
clear_refused role flow ch (Stopping v) = refl
clear_refused role flow ch Taking = refl
clear_refused role flow ch (Releasing n) = refl
clear_refused role flow ch Confirming = refl

request_call : (role : Role) (flow : Flow) (state : ChannelState) (ch : Channel) (r : Request) → refusal role flow (entered state ch) r ≡ None → had_call state ≡ true
request_call role flow Ready ch r h = absurd (no_call (refusal role flow (entered Ready ch) r) (ready_refused role flow ch r) h)
request_call role flow OwnClear ch r h = absurd (no_call (refusal role flow (entered OwnClear ch) r) (clear_refused role flow ch r) h)
request_call role flow OwnWaiting ch r h = refl
request_call role flow FarWaiting ch r h = refl
request_call role flow Transfer ch r h = refl
request_call role flow Collision ch r h = refl

found_request : (role : Role) (flow : Flow) (r : Request) (o : Option Channel) → refusal_at role flow r o ≡ None → has_call o ≡ true
found_request role flow r None h = absurd (no_call (Some Refusal.NoCall) refl h)
found_request role flow r (Some ch) h = request_call role flow ch.state ch r h

pub transfer_kept : TransferLaw
transfer_kept s b l role channel k h = present_kept s b l role channel k ∙ found_transfer (channel_of (end_at role l).layer channel) h

pub asked_kept : AskedLaw
asked_kept s b l role channel r k h = present_kept s b l role channel k ∙ found_request (end_at role l).layer.role (end_at role l).layer.flow r (channel_of (end_at role l).layer channel) h

pub front_kept : FrontLaw
front_kept s b l role channel x k is =
    let e : PacketEnd = end_at role l in
    let waits = kept_waits s b role e (end_at (other_of role) l) (coming_to (other_of role) l) (coming_to role l) (seen s b role l k) in
    let f = found_open e.layer channel x (channel_of e.layer channel) refl waits is in
    ap (λ (o : Option Channel). refusal_at e.layer.role e.layer.flow Taking o) f.1 ∙ ap (λ (v : Bool). refused_if (not v) Refusal.NoCall None) f.2

pub channels_kept : ChannelsLaw
channels_kept s b l Dte k =
    ap (λ (x : Book). length (side_of Dte x).slots) (sym k.book) ∙ (beside s b l k).channels Dte ∙ ap (λ (x : Layer). length x.channels) k.joint.mine.layer
channels_kept s b l Dce k =
    ap (λ (x : Book). length (side_of Dce x).slots) (sym k.book) ∙ (beside s b l k).channels Dce ∙ ap (λ (x : Layer). length x.channels) k.joint.yours.layer

-- ---- a restart

-- the notes of some channels from `c` on, with a present record exactly where there is a call
closing_told : (chs : List Channel) (c : ℕ) (role : Role) (b : Book) → ((n i : ℕ) → n ≡ c + i → is_some (slot_at role n b).present ≡ has_call (slice_get chs i)) →
    all_told role (closing_notes c LinkLost chs) b ≡ closed_from (length chs) c role b
closing_told [] c role b h = refl
closing_told (ch ∷ chs) c role b h = one (had_call ch.state) (slot_at role c b).present refl (h c 0 (omega arith)) (λ x g. closing_told chs (suc c) role x g)
  where
    further : (n i : ℕ) → n ≡ suc c + i → is_some (slot_at role n b).present ≡ has_call (slice_get chs i)
    further n i e = h n (suc i) (omega arith)

    one : (v : Bool) (o : Option ℕ) → (slot_at role c b).present ≡ o → is_some o ≡ v →
        ((x : Book) → ((n i : ℕ) → n ≡ suc c + i → is_some (slot_at role n x).present ≡ has_call (slice_get chs i)) → all_told role (closing_notes (suc c) LinkLost chs) x ≡ closed_from (length chs) (suc c) role x) →
        all_told role (cond v (Closed c 9 0 LinkLost ∷ closing_notes (suc c) LinkLost chs) (closing_notes (suc c) LinkLost chs)) b ≡ closed_from (length chs) (suc c) role (closes_if o role c b)
    one true (Some number) e f others =
        others (closes role c b) (λ n i g. ap (λ (z : Slot). is_some z.present) (closed_else role c b n (λ k. absurd (omega arith))) ∙ further n i g)
    one true None e f others = absurd (true≢false (sym f))
    one false (Some number) e f others = absurd (true≢false f)
    one false None e f others = others b further

pub closing_kept : ClosingLaw
closing_kept s b l role k =
    let e : PacketEnd = end_at role l in
    closing_told e.layer.channels 1 role b (λ n i g. subst (λ (m : ℕ). is_some (slot_at role m b).present ≡ has_call (channel_of e.layer (suc i))) (sym (first_place n i g)) (present_kept s b l role (suc i) k))
    ∙ ap (λ (m : ℕ). closed_from m 1 role b) (sym (channels_kept s b l role k))
  where
    first_place : (n i : ℕ) → n ≡ 1 + i → n ≡ suc i
    first_place n i g = omega arith

pub restart_kept : RestartLaw
restart_kept s b l role k =
    let r = kept_happens s (all_told role (link_down (end_at role l).layer).notes b) role Restarts l
    (restarts_at s b role (end_at role l) (end_at (other_of role) l) (coming_to (other_of role) l) (coming_to role l) (seen s b role l k)) in
    (r, subst (λ (x : Book). Kept s x (acts.happens (At role Restarts) l)) (closing_kept s b l role k) r)
