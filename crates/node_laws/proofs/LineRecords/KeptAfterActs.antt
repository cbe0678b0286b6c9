-- What each act at an end, and all else that may happen on a line, makes of what is kept.
use Rattle.std.specs.Prelude.{◌≡◌, ℕ, zero, suc, ◌≤◌, Bool, true, false, cond, List, [], ◌∷◌, drop, Option, Some, is_some}
use Rattle.std.proofs.Common.{refl, sym, ap, subst, ◌∙◌}
use Rattle.std.proofs.lemmas.Option.{none-some, same_Some}
use Rattle.link_timers.specs.declared.role.Role.{Role}
use Rattle.link_timers.specs.declared.role.Role.TheVariants.{Dte, Dce}
use Rattle.link_timers.specs.declared.timers.TimerId.{TimerId}
use Rattle.link_timers.specs.Role.{other_of}
use Rattle.lapb.specs.Machine.{Octets, is_up, can_offer}
use Rattle.pad_editing.specs.Edited.{Step}
use Rattle.data_transfer.specs.Packets.{CallParts, Note}
use Rattle.packet_channel.specs.Channel.{Request}
use Rattle.packet_layer.specs.Layer.{Layer, Phase, unread, next_packet, link_down, channel_given, request_refusal, front_on}
use Rattle.packet_layer.specs.Layer.Phase.{NoSession, OwnRestart, PacketReady}
use Rattle.packet_laws.specs.LayerLine as layers
use Rattle.packet_laws.specs.LayerLine.{Event, happens}
use Rattle.packet_laws.specs.Readable.{CanBePlaced}
use Rattle.packet_end.specs.PacketEnd.{PacketEnd, with_next}
use Rattle.node_laws.specs.Lines.NodeLine as acts
use Rattle.node_laws.specs.Lines.NodeLine.{Line, Act, Begins, Hears, Expires, Relinks, RelinksIfDue, Restarts, Calls, Requests, Offers, Settles, Elapses, Sends, At, does, other_after, going_after, coming_after}
use Rattle.node_laws.specs.Lines.Events.{offer_events, after_here, notes_of}
use Rattle.node_laws.specs.Lines.Fit.{IsFit}
use Rattle.node_laws.specs.Lines.Joint.{session_of, coming_session, session_now}
use Rattle.node_laws.specs.Lines.Steps.{events_at, session_after, AreNotes}
use Rattle.node_laws.specs.Lines.Steps as steps
use Rattle.node_laws.proofs.Lines.Holding.{act_steps, loses_joint}
use Rattle.call_records.specs.Book.{Book, edits, all_told}
use Rattle.record_laws.specs.Books.Told.{carried, unless_refused, placed_on, InOrder}
use Rattle.node_laws.specs.LineRecords.Kept.{Setting, Kept, beginning, end_at, coming_to}
use Rattle.node_laws.specs.LineRecords.LineRecordClauses.{requested_at}
use Rattle.node_laws.proofs.LineRecords.MovesFromOneEnd.{one_edit, all_events, written_all, tops_after, AllInOrder}
use Rattle.node_laws.proofs.LineRecords.ActEvents.{IsPlain, plain_frame, plain_if, plain_expires, plain_offers, in_order, tops_rise, plain_written}
use Rattle.node_laws.proofs.LineRecords.Views.{KeptAt, unseen}

-- ---- small things

-- the notes that were not read make no difference to what channel a call is given
given_unread : (phase : Phase) (l : Layer) → channel_given (unread l) phase ≡ channel_given l phase
given_unread NoSession l = refl
given_unread OwnRestart l = refl
given_unread PacketReady l = refl

-- packets that go to the link write nothing
offer_written : (room says : Bool) (role : Role) (events : List Event) (v : layers.Line) (b : Book) → written_all role events (happens Event.Offers v) b ≡ b →
    written_all role (cond room (cond says (Event.Offers ∷ events) []) []) v b ≡ b
offer_written true true role events v b e = e
offer_written true false role events v b e = refl
offer_written false says role events v b e = refl

offers_written : (most : ℕ) (role : Role) (e : PacketEnd) (v : layers.Line) (b : Book) → written_all role (offer_events most e) v b ≡ b
offers_written zero role e v b = refl
offers_written (suc most) role e v b =
    offer_written (can_offer e.line.link) (is_some (next_packet e.layer).packet) role (offer_events most (with_next e (next_packet e.layer))) v b
    (offers_written most role (with_next e (next_packet e.layer)) (happens Event.Offers v) b)

-- ---- an act, by its events

session_is : (up : Bool) (k : ℕ) (o : Option ℕ) (s : ℕ) → o ≡ session_now up k → o ≡ Some s → s ≡ k
session_is true k o s e f = same_Some s k (sym f ∙ e)
session_is false k o s e f = absurd (none-some s (sym e ∙ f))

module _ (s : Setting) (b : Book) (role : Role) (me you : PacketEnd) (going coming : List Octets) (k : KeptAt s b role me you going coming) where
  abbrev AfterAct : Act → Book → Type 0
  AfterAct act x = KeptAt s x role (does act coming me) (other_after act you) (going_after act me going) (coming_after act coming)

  -- an act whose events are allowed
  allowed_act : (act : Act) → IsFit act → AllInOrder (events_at role k.world act coming me) k.line k.top_mine k.top_yours →
      tops_after (events_at role k.world act coming me) k.line k.top_mine ≤ session_after (events_at role k.world act coming me) (session_of role k.world) →
      AfterAct act (written_all role (events_at role k.world act coming me) k.line b)
  allowed_act act fits order top =
      let t : steps.Step role act k.world k.line me you going coming = act_steps role act k.world k.line me you going coming fits k.joint in
      let events : List Event = events_at role k.world act coming me in
      record {
        setting = k.setting;
        world = t.world;
        line = after_here events k.line;
        top_mine = tops_after events k.line k.top_mine;
        top_yours = k.top_yours;
        reaches = all_events (beginning s) role events k.line b k.top_mine k.top_yours k.reaches order;
        joint = t.joint;
        mine = subst (λ (n : ℕ). tops_after events k.line k.top_mine ≤ n) (sym t.mine) top;
        yours = subst (λ (n : ℕ). k.top_yours ≤ n) (sym t.yours) k.yours;
      }

  -- one that is no user's
  plain_act : (act : Act) → IsFit act → IsPlain (events_at role k.world act coming me) → AfterAct act (written_all role (events_at role k.world act coming me) k.line b)
  plain_act act fits plain =
      let t : steps.Step role act k.world k.line me you going coming = act_steps role act k.world k.line me you going coming fits k.joint in
      let events : List Event = events_at role k.world act coming me in
      let m : ℕ = session_of role k.world in
      let y : ℕ = session_of (other_of role) k.world in
      let v : layers.Line = after_here events k.line in
      let session : (n : ℕ) → v.me.session ≡ Some n → n ≡ session_after events m =
      λ n e. session_is (is_up (does act coming me).line.link.phase) (session_of role t.world) v.me.session n t.joint.mine.session e ∙ t.mine in
      allowed_act act fits (in_order events k.line k.top_mine k.top_yours m y plain t.rises k.mine k.yours session)
      (tops_rise events k.line k.top_mine m y t.rises k.mine)

  pub record Told (act : Act) : Type 0 where
    pub given : List Note
    pub notes : AreNotes act me.notes given (does act coming me).notes
    pub kept : AfterAct act (all_told role given b)

  telling_act : (act : Act) → IsFit act → IsPlain (events_at role k.world act coming me) → Told act
  telling_act act fits plain =
      let t : steps.Step role act k.world k.line me you going coming = act_steps role act k.world k.line me you going coming fits k.joint in
      record {
        given = notes_of (events_at role k.world act coming me) k.line;
        notes = t.notes;
        kept = subst (λ (x : Book). AfterAct act x) (plain_written role (events_at role k.world act coming me) k.line b plain) (plain_act act fits plain);
      }

  pub hears_at : Told Hears
  hears_at = telling_act Hears tt (plain_frame (coming_session role k.world) coming me)

  pub expires_at : (id : TimerId) → Told (Expires id)
  expires_at id = telling_act (Expires id) tt (plain_expires (coming_session role k.world) id me)

  pub relinks_at : Told Relinks
  relinks_at = telling_act Relinks tt tt

  pub relinks_if_due_at : Told RelinksIfDue
  relinks_if_due_at = telling_act RelinksIfDue tt (plain_if me.layer.relink (Event.Down ∷ []) tt)

  pub begins_at : AfterAct Begins b
  begins_at = plain_act Begins tt tt

  pub settles_at : AfterAct Settles b
  settles_at = plain_act Settles tt tt

  pub elapses_at : (ticks : ℕ) → AfterAct (Elapses ticks) b
  elapses_at ticks = plain_act (Elapses ticks) tt tt

  pub sends_at : (kept : List Bool) → AfterAct (Sends kept) b
  sends_at kept = plain_act (Sends kept) tt tt

  pub offers_at : AfterAct Offers b
  offers_at = subst (λ (x : Book). AfterAct Offers x) (offers_written 7 role me k.line b) (plain_act Offers tt (plain_offers 7 me))

  pub restarts_at : AfterAct Restarts (all_told role (link_down me.layer).notes b)
  restarts_at =
      subst (λ (x : Book). AfterAct Restarts x) (ap (λ (l : Layer). all_told role (link_down l).notes b) k.joint.mine.layer) (plain_act Restarts tt tt)

  -- ---- a user's

  pub calls_at : (parts : CallParts) → CanBePlaced parts → AfterAct (Calls parts) (placed_on role (channel_given me.layer me.layer.phase) parts b)
  calls_at parts fits =
      subst (λ (x : Book). AfterAct (Calls parts) x)
      (ap (λ (o : Option ℕ). placed_on role o parts b) (sym (given_unread k.line.me.layer.phase k.line.me.layer) ∙ ap (λ (l : Layer). channel_given l l.phase) k.joint.mine.layer))
      (allowed_act (Calls parts) fits (tt, tt) k.mine)

  pub requests_at : (channel : ℕ) (r : Request) → AfterAct (Requests channel r) (requested_at role channel r me b)
  requests_at channel r =
      subst (λ (x : Book). AfterAct (Requests channel r) x)
      (ap (λ (l : Layer). unless_refused (request_refusal l channel r) (carried role channel r (front_on l channel) b) b) k.joint.mine.layer)
      (allowed_act (Requests channel r) tt (may_request r, tt) k.mine)
    where
      may_request : (r : Request) → InOrder (Event.Requests channel r) k.line.me.session k.top_mine k.top_yours
      may_request r = tt

  -- ---- no act of an end

  pub loses_at : KeptAt s b role me you going (drop 1 coming)
  loses_at =
      let t = loses_joint role k.world k.line me you going coming k.joint in
      record {
        setting = k.setting;
        world = t.0;
        line = k.line;
        top_mine = k.top_mine;
        top_yours = k.top_yours;
        reaches = k.reaches;
        joint = t.1;
        mine = subst (λ (n : ℕ). k.top_mine ≤ n) (sym t.2) k.mine;
        yours = subst (λ (n : ℕ). k.top_yours ≤ n) (sym t.3) k.yours;
      }

  pub edits_at : (at : Role) (channel : ℕ) (step : Step) → KeptAt s (edits at channel step b) role me you going coming
  edits_at at channel step = record {
    setting = k.setting;
    world = k.world;
    line = k.line;
    top_mine = k.top_mine;
    top_yours = k.top_yours;
    reaches = one_edit (beginning s) role k.line b k.top_mine k.top_yours at channel step k.reaches;
    joint = k.joint;
    mine = k.mine;
    yours = k.yours;
  }

-- ---- on a line

pub kept_happens : (s : Setting) (b : Book) (role : Role) (act : Act) (l : Line) →
    KeptAt s b role (does act (coming_to role l) (end_at role l)) (other_after act (end_at (other_of role) l)) (going_after act (end_at role l) (coming_to (other_of role) l)) (coming_after act (coming_to role l)) →
    Kept s b (acts.happens (At role act) l)
kept_happens s b Dte act l k = unseen s b Dte (does act l.down l.dte) (other_after act l.dce) (going_after act l.dte l.up) (coming_after act l.down) k
kept_happens s b Dce act l k = unseen s b Dce (does act l.up l.dce) (other_after act l.dte) (going_after act l.dce l.down) (coming_after act l.up) k

-- the end after an act
pub end_is : (role : Role) (act : Act) (l : Line) → does act (coming_to role l) (end_at role l) ≡ end_at role (acts.happens (At role act) l)
end_is Dte act l = refl
end_is Dce act l = refl
