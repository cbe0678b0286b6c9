-- Whole events of a node keep what is kept of its line and of the book.
use Rattle.std.specs.Prelude.{◌≡◌, ℕ, zero, suc, Bool, true, false, cond, List, [], ◌∷◌, ◌++◌, is_some}
use Rattle.std.proofs.Common.{refl, sym, ap, subst, ◌∙◌}
use Rattle.link_timers.specs.declared.role.Role.{Role}
use Rattle.link_timers.specs.declared.role.Role.TheVariants.{Dte, Dce}
use Rattle.link_timers.specs.declared.timers.TimerId.{TimerId}
use Rattle.link_timers.specs.Role.{other_of}
use Rattle.lapb.specs.Machine.{Octets, can_offer}
use Rattle.lapb.specs.LinkLine.{chosen}
use Rattle.data_transfer.specs.Packets.{CallParts, Note}
use Rattle.packet_channel.specs.Channel.{Request}
use Rattle.packet_layer.specs.Layer.{channel_given, link_down, next_packet}
use Rattle.packet_laws.specs.Readable.{CanBePlaced}
use Rattle.packet_end.specs.PacketEnd as end
use Rattle.packet_end.specs.PacketEnd.{PacketEnd, begun, received, after_timer, relinked, finished, called, asked, offered, all_offered, with_next}
use Rattle.node_laws.specs.Lines.NodeLine.{Line, RelinksIfDue, Offers, Settles, does}
use Rattle.node_laws.proofs.Lines.Finishing.{finished_is}
use Rattle.call_records.specs.Book.{Book, all_told}
use Rattle.record_laws.specs.Books.Told.{placed_on}
use Rattle.node_laws.specs.LineRecords.Kept.{Setting, Kept, end_at, coming_to}
use Rattle.node_laws.specs.LineRecords.LineRecordClauses.{requested_at}
use Rattle.node_laws.specs.LineRecords.Happens.{sent, with_event, with_restart, FrameLaw, ExpiryLaw, RelinkLaw, RestartedLaw, CalledLaw, asked_all, requested_all, RequestedLaw}
use Rattle.node_laws.proofs.LineRecords.ActEvents.{told_append}
use Rattle.node_laws.proofs.LineRecords.Views.{KeptAt, seen, unseen}
use Rattle.node_laws.proofs.LineRecords.KeptAfterActs.{hears_at, expires_at, relinks_at, relinks_if_due_at, begins_at, settles_at, sends_at, offers_at, restarts_at, calls_at, requests_at}
use Rattle.node_laws.proofs.LineRecords.LineLaw.{closing_kept}

-- ---- packets that go to the link tell nothing

offered_notes : (most : ℕ) (e : PacketEnd) → (offered most e).notes ≡ e.notes
offered_notes zero e = refl
offered_notes (suc most) e = by (can_offer e.line.link) (is_some (next_packet e.layer).packet) (offered_notes most (with_next e (next_packet e.layer)))
  where
    by : (room says : Bool) → (offered most (with_next e (next_packet e.layer))).notes ≡ e.notes →
        (cond room (cond says (offered most (with_next e (next_packet e.layer))) e) e).notes ≡ e.notes
    by true true h = h
    by true false h = refl
    by false says h = refl

pub all_offered_notes : (e : PacketEnd) → (all_offered e).notes ≡ e.notes
unfolding all_offered
all_offered_notes e = offered_notes 7 e

-- ---- the end of an event

abbrev Sent : Setting → Book → Role → (e you : PacketEnd) → (going coming : List Octets) → (kept : List Bool) → Type 0
Sent s b role e you going coming kept = KeptAt s b role (sent e) you (going ++ chosen kept e.line.frames) coming

-- `e` told its notes in this event, and the book has them
module _ (s : Setting) (b : Book) (role : Role) (e you : PacketEnd) (going coming : List Octets) (kept : List Bool) where
  pub finishes : KeptAt s (all_told role e.notes b) role e you going coming → Sent s (all_told role (finished e).notes b) role (finished e) you going coming kept
  finishes k =
      let told : Book = all_told role e.notes b in
      let r = relinks_if_due_at s told role e you going coming k in
      let x : PacketEnd = does RelinksIfDue coming e in
      let o = offers_at s (all_told role r.given told) role x you going coming r.kept in
      let y : PacketEnd = does Offers coming x in
      let t = settles_at s (all_told role r.given told) role y you going coming o in
      let z : PacketEnd = does Settles coming y in
      let n = sends_at s (all_told role r.given told) role z you going coming t kept in
      let notes : z.notes ≡ e.notes ++ r.given = all_offered_notes x ∙ r.notes in
      let book : all_told role r.given told ≡ all_told role z.notes b = sym (ap (λ (ns : List Note). all_told role ns b) notes ∙ told_append role e.notes r.given b) in
      subst (λ (w : PacketEnd). Sent s (all_told role w.notes b) role w you going coming kept) (sym (finished_is coming e))
      (subst (λ (w : Book). Sent s w role z you going coming kept) book n)

-- ---- as a line

pub on_line : (s : Setting) (b : Book) (role : Role) (e : PacketEnd) (l : Line) (coming : List Octets) (kept : List Bool) → Sent s b role e (end_at (other_of role) l) (coming_to (other_of role) l) coming kept →
    Kept s b (with_event role e kept coming l)
on_line s b Dte e l coming kept k = unseen s b Dte (sent e) l.dce (l.up ++ chosen kept e.line.frames) coming k
on_line s b Dce e l coming kept k = unseen s b Dce (sent e) l.dte (l.down ++ chosen kept e.line.frames) coming k

-- an event that told the notes of `e`, from a line of which this was kept
pub ends_on : (s : Setting) (b : Book) (role : Role) (e : PacketEnd) (l : Line) (coming : List Octets) (kept : List Bool) → KeptAt s (all_told role e.notes b) role e (end_at (other_of role) l) (coming_to (other_of role) l) coming →
    Kept s (all_told role (finished e).notes b) (with_event role (finished e) kept coming l)
ends_on s b role e l coming kept k =
    on_line s (all_told role (finished e).notes b) role (finished e) l coming kept
    (finishes s b role e (end_at (other_of role) l) (coming_to (other_of role) l) coming kept k)

module _ (s : Setting) (b : Book) (l : Line) (role : Role) where
  abbrev me : PacketEnd
  me = end_at role l

  abbrev you : PacketEnd
  you = end_at (other_of role) l

  abbrev going : List Octets
  going = coming_to (other_of role) l

  -- the event told `given`, which are the notes
  told_by : (e : PacketEnd) (coming : List Octets) (given : List Note) → e.notes ≡ given → KeptAt s (all_told role given b) role e you going coming → KeptAt s (all_told role e.notes b) role e you going coming
  told_by e coming given is k = subst (λ (ns : List Note). KeptAt s (all_told role ns b) role e you going coming) (sym is) k

  pub frame_on : (octets : Octets) (coming : List Octets) (kept : List Bool) → coming_to role l ≡ octets ∷ coming → Kept s b l →
      Kept s (all_told role (finished (received (begun me) octets)).notes b) (with_event role (finished (received (begun me) octets)) kept coming l)
  frame_on octets coming kept is k =
      let a : KeptAt s b role me you going (octets ∷ coming) = subst (λ (x : List Octets). KeptAt s b role me you going x) is (seen s b role l k) in
      let c = begins_at s b role me you going (octets ∷ coming) a in
      let t = hears_at s b role (begun me) you going (octets ∷ coming) c in
      ends_on s b role (received (begun me) octets) l coming kept (told_by (received (begun me) octets) coming t.given t.notes t.kept)

  pub expiry_on : (id : TimerId) (kept : List Bool) → Kept s b l →
      Kept s (all_told role (finished (after_timer (begun me) id)).notes b) (with_event role (finished (after_timer (begun me) id)) kept (coming_to role l) l)
  expiry_on id kept k =
      let c = begins_at s b role me you going (coming_to role l) (seen s b role l k) in
      let t = expires_at s b role (begun me) you going (coming_to role l) c id in
      ends_on s b role (after_timer (begun me) id) l (coming_to role l) kept (told_by (after_timer (begun me) id) (coming_to role l) t.given t.notes t.kept)

  pub relink_on : (kept : List Bool) → Kept s b l →
      Kept s (all_told role (finished (relinked (begun me))).notes b) (with_event role (finished (relinked (begun me))) kept (coming_to role l) l)
  relink_on kept k =
      let c = begins_at s b role me you going (coming_to role l) (seen s b role l k) in
      let t = relinks_at s b role (begun me) you going (coming_to role l) c in
      ends_on s b role (relinked (begun me)) l (coming_to role l) kept (told_by (relinked (begun me)) (coming_to role l) t.given t.notes t.kept)

  -- ---- a user's event, of which `e` is what was asked, and `x` the book with it
  pub asked_on : (e : PacketEnd) (x : Book) (kept : List Bool) → KeptAt s x role e you going (coming_to role l) →
      Kept s (all_told role (finished (begun e)).notes x) (with_event role (finished (begun e)) kept (coming_to role l) l)
  asked_on e x kept k = ends_on s x role (begun e) l (coming_to role l) kept (begins_at s x role e you going (coming_to role l) k)

  pub called_on : (parts : CallParts) (kept : List Bool) → CanBePlaced parts → Kept s b l →
      Kept s (all_told role (finished (begun (called me parts))).notes (placed_on role (channel_given me.layer me.layer.phase) parts b)) (with_event role (finished (begun (called me parts))) kept (coming_to role l) l)
  called_on parts kept fits k =
      asked_on (called me parts) (placed_on role (channel_given me.layer me.layer.phase) parts b) kept
      (calls_at s b role me you going (coming_to role l) (seen s b role l k) parts fits)

  all_asked : (channel : ℕ) (rs : List Request) (e : PacketEnd) (x : Book) → KeptAt s x role e you going (coming_to role l) →
      KeptAt s (requested_all role channel rs e x) role (asked_all channel rs e) you going (coming_to role l)
  all_asked channel [] e x k = k
  all_asked channel (r ∷ rs) e x k = all_asked channel rs (asked e channel r) (requested_at role channel r e x) (requests_at s x role e you going (coming_to role l) k channel r)

  pub requests_on : (channel : ℕ) (rs : List Request) (kept : List Bool) → Kept s b l →
      Kept s (all_told role (finished (begun (asked_all channel rs me))).notes (requested_all role channel rs me b)) (with_event role (finished (begun (asked_all channel rs me))) kept (coming_to role l) l)
  requests_on channel rs kept k = asked_on (asked_all channel rs me) (requested_all role channel rs me b) kept (all_asked channel rs me b (seen s b role l k))

-- ---- the laws

pub frame_kept : FrameLaw
frame_kept s b l role octets coming kept is k = frame_on s b l role octets coming kept is k

pub expiry_kept : ExpiryLaw
expiry_kept s b l role id kept k = expiry_on s b l role id kept k

pub relink_kept : RelinkLaw
relink_kept s b l role kept k = relink_on s b l role kept k

pub called_kept : CalledLaw
called_kept s b l role parts kept fits k = called_on s b l role parts kept fits k

pub requested_kept : RequestedLaw
requested_kept s b l role channel rs kept k = requests_on s b l role channel rs kept k

restart_as : (s : Setting) (b : Book) (role : Role) (l : Line) (kept : List Bool) →
    KeptAt s b role (sent (end.restarted (end_at role l))) (sent (end_at (other_of role) l)) (chosen kept (end.restarted (end_at role l)).line.frames) [] → Kept s b (with_restart role kept l)
restart_as s b Dte l kept k = unseen s b Dte (sent (end.restarted l.dte)) (sent l.dce) (chosen kept (end.restarted l.dte).line.frames) [] k
restart_as s b Dce l kept k = unseen s b Dce (sent (end.restarted l.dce)) (sent l.dte) (chosen kept (end.restarted l.dce).line.frames) [] k

pub restarted_kept : RestartedLaw
restarted_kept s b l role kept k =
    let e : PacketEnd = end.restarted (end_at role l) in
    let told : Book = all_told role (link_down (end_at role l).layer).notes b in
    let r = restarts_at s b role (end_at role l) (end_at (other_of role) l) (coming_to (other_of role) l) (coming_to role l) (seen s b role l k) in
    let n = sends_at s told role e (sent (end_at (other_of role) l)) [] [] r kept in
    subst (λ (x : Book). Kept s x (with_restart role kept l)) (closing_kept s b l role k) (restart_as s told role l kept n)
