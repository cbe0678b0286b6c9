-- The events of a host.
use Rattle.std.specs.Prelude.{◌≡◌, ℕ, Bool, true, false, cond, not, List, [], ◌∷◌, Option, Some, None, is_some}
use Rattle.std.proofs.Common.{refl, sym, ap, subst, ◌∙◌}
use Rattle.std.proofs.lemmas.Option.{none-some}
use Rattle.link_timers.specs.declared.role.Role.{Role}
use Rattle.data_transfer.specs.declared.flow.Flow.{Flow}
use Rattle.link_timers.specs.declared.timers.TimerId.{TimerId}
use Rattle.link_timers.specs.Role.{other_of}
use Rattle.lapb.specs.Machine.{Octets}
use Rattle.data_transfer.specs.Packets.{CallParts, Datum}
use Rattle.data_transfer.specs.Packets.{Note}
use Rattle.data_transfer.specs.Traffic.{Taken}
use Rattle.data_transfer.specs.Traffic.Taken.{TakenInterrupt, TakenPacket}
use Rattle.packet_channel.specs.Channel.{Channel, Step, Request, Refusal, refusal, refused_if, in_transfer, unless, carried_out, requested}
use Rattle.packet_channel.specs.Channel.Request.{Clearing, Sending, Taking, Releasing, Confirming}
use Rattle.packet_layer.specs.Layer.{Phase, Layer, channel_of, channel_given, free_channel, call_refusal, request_refusal, refusal_at, can_accept, front_on, request, on_found, after_step, owing}
use Rattle.packet_layer.specs.Layer.Phase.{NoSession, OwnRestart, PacketReady}
use Rattle.packet_laws.specs.Readable.{CanBePlaced}
use Rattle.packet_end.specs.PacketEnd.{PacketEnd, begun, finished, asked, called, runs_at, after_timer}
use Rattle.node_laws.specs.Lines.NodeLine.{Line}
use Rattle.packet_host.specs.Host as host
use Rattle.packet_host.specs.Host.{ended, after_call, after_request, after_refuse, after_say, after_take, after_expiry, let_go, taken_as}
use Rattle.data_transfer.specs.Flow.{is_size}
use Rattle.data_transfer.specs.Cutting.{cut}
use Rattle.packet_host.specs.Saying.{message, queued, say_refusal, AllTaken}
use Rattle.packet_host.proofs.Refused.{accepted_clears}
use Rattle.packet_host.proofs.Taken.{all_said}
use Rattle.call_records.specs.Book.{Book, sends, closes, takes, all_told}
use Rattle.record_laws.specs.Books.Told.{unless_refused, carried, placed_on}
use Rattle.record_laws.proofs.Books.Layers.{put_here}
use Rattle.node_laws.specs.LineRecords.Kept.{Setting, Kept, end_at, coming_to}
use Rattle.node_laws.specs.LineRecords.LineRecordClauses.{requested_at}
use Rattle.node_laws.specs.LineRecords.Happens.{with_event}
use Rattle.node_laws.specs.LineRecords.Hosts.{sends_all, says, refuses, lets_go, takes_any, IsKeptAfter, HostExpiryLaw, HostCallLaw, HostRequestLaw, HostSayLaw, HostRefuseLaw, HostTakeLaw}
use Rattle.node_laws.proofs.LineRecords.WaitsInTransfer.{found_open}
use Rattle.node_laws.proofs.LineRecords.Views.{KeptAt, seen, kept_waits}
use Rattle.node_laws.proofs.LineRecords.Flows.{kept_flow}
use Rattle.node_laws.proofs.LineRecords.KeptAfterActs.{sends_at, requests_at}
use Rattle.node_laws.proofs.LineRecords.LineLaw.{front_kept}
use Rattle.node_laws.proofs.LineRecords.WholeEvents.{on_line, asked_on, called_on, expiry_on}

-- ---- small things

unless_same : (o : Option Refusal) (b : Book) → unless_refused o b b ≡ b
unless_same None b = refl
unless_same (Some r) b = refl

-- no channel is given to a call that is refused
none_given : (o : Option ℕ) (x : Refusal) → cond (is_some o) None (Some Refusal.NoChannel) ≡ Some x → o ≡ None
none_given None x e = refl
none_given (Some c) x e = absurd (none-some x e)

refused_given : (phase : Phase) (l : Layer) (x : Refusal) → call_refusal l phase ≡ Some x → channel_given l phase ≡ None
refused_given NoSession l x e = refl
refused_given OwnRestart l x e = refl
refused_given PacketReady l x e = none_given (free_channel l.role l.channels) x e

-- a channel in data transfer still is when something was taken
taken_state : (ch : Channel) (o : Option Refusal) → in_transfer (unless o (carried_out ch Taking) ch).channel.state ≡ in_transfer ch.state
taken_state ch None = refl
taken_state ch (Some r) = refl

may_release : (role : Role) (flow : Flow) (found : Option Channel) (ch : Channel) → found ≡ Some ch → in_transfer ch.state ≡ true → refusal_at role flow (Releasing 1) found ≡ None
may_release role flow found ch e h = ap (λ (o : Option Channel). refusal_at role flow (Releasing 1) o) e ∙ ap (λ (v : Bool). refused_if (not v) Refusal.NoCall None) h

may_release_after : (l : Layer) (c : ℕ) (ch : Channel) → channel_of l c ≡ Some ch → in_transfer ch.state ≡ true → request_refusal (request l c Taking) c (Releasing 1) ≡ None
may_release_after l c ch e h =
    let st : Step = requested l.role l.flow ch Taking in
    let is : request l c Taking ≡ after_step l c st = ap (λ (o : Option Channel). on_found l c (λ z. requested l.role l.flow z Taking) o) e in
    ap (λ (z : Layer). request_refusal z c (Releasing 1)) is
    ∙ may_release l.role l.flow (channel_of (after_step l c st) c) (owing st) (put_here l.channels c ch (owing st) e) (taken_state ch (refusal l.role l.flow ch Taking) ∙ h)

-- ---- the events

module _ (s : Setting) (b : Book) (l : Line) (role : Role) (kept : List Bool) (none : (end_at role l).notes ≡ []) (k : Kept s b l) where
  abbrev me : PacketEnd
  me = end_at role l

  abbrev you : PacketEnd
  you = end_at (other_of role) l

  abbrev going : List Octets
  going = coming_to (other_of role) l

  abbrev coming : List Octets
  coming = coming_to role l

  -- nothing happens
  unchanged : IsKeptAfter s role me b kept l
  unchanged =
      subst (λ (ns : List Note). Kept s (all_told role ns b) (with_event role me kept coming l)) (sym none)
      (on_line s b role me l coming kept (sends_at s b role me you going coming (seen s b role l k) kept))

  pub expiry_after : (id : TimerId) → IsKeptAfter s role (after_expiry me id) b kept l
  expiry_after id = by (runs_at me id)
    where
      by : (v : Bool) → IsKeptAfter s role (cond v (finished (after_timer (begun me) id)) me) b kept l
      by true = expiry_on s b l role id kept k
      by false = unchanged

  pub call_after : (parts : CallParts) → CanBePlaced parts → IsKeptAfter s role (after_call me parts) (placed_on role (channel_given me.layer me.layer.phase) parts b) kept l
  call_after parts fits = by (call_refusal me.layer me.layer.phase) refl
    where
      by : (o : Option Refusal) → call_refusal me.layer me.layer.phase ≡ o →
          IsKeptAfter s role (host.unless_refused o (ended (called me parts)) me) (placed_on role (channel_given me.layer me.layer.phase) parts b) kept l
      by None e = called_on s b l role parts kept fits k
      by (Some x) e = subst (λ (o : Option ℕ). IsKeptAfter s role me (placed_on role o parts b) kept l) (sym (refused_given me.layer.phase me.layer x e)) unchanged

  -- a request, and what is written of it
  asked_one : (e : PacketEnd) (x : Book) (channel : ℕ) (r : Request) → KeptAt s x role e you going coming → request_refusal e.layer channel r ≡ None →
      KeptAt s (carried role channel r (front_on e.layer channel) x) role (asked e channel r) you going coming
  asked_one e x channel r at is =
      subst (λ (o : Option Refusal). KeptAt s (unless_refused o (carried role channel r (front_on e.layer channel) x) x) role (asked e channel r) you going coming) is
      (requests_at s x role e you going coming at channel r)

  pub request_after : (channel : ℕ) (r : Request) → IsKeptAfter s role (after_request me channel r) (requested_at role channel r me b) kept l
  request_after channel r = by (request_refusal me.layer channel r) refl
    where
      by : (o : Option Refusal) → request_refusal me.layer channel r ≡ o →
          IsKeptAfter s role (host.unless_refused o (ended (asked me channel r)) me) (unless_refused o (carried role channel r (front_on me.layer channel) b) b) kept l
      by None e = asked_on s b l role (asked me channel r) (carried role channel r (front_on me.layer channel) b) kept (asked_one me b channel r (seen s b role l k) e)
      by (Some x) e = unchanged

  pub refuse_after : (channel : ℕ) → IsKeptAfter s role (after_refuse me channel) (refuses role channel me b) kept l
  refuse_after channel = by (can_accept me.layer channel) refl
    where
      by : (v : Bool) → can_accept me.layer channel ≡ v →
          IsKeptAfter s role (host.unless_refused (refused_if (not v) Refusal.NoCall None) (ended (asked me channel (Clearing 0 0))) me)
          (unless_refused (refused_if (not v) Refusal.NoCall None) (closes role channel b) b) kept l
      by true e =
          asked_on s b l role (asked me channel (Clearing 0 0)) (closes role channel b) kept
          (asked_one me b channel (Clearing 0 0) (seen s b role l k) (accepted_clears me.layer channel e))
      by false e = unchanged

  -- ---- messages

  all_queued : (channel : ℕ) (ds : List Datum) (e : PacketEnd) (x : Book) → AllTaken channel ds e → KeptAt s x role e you going coming →
      KeptAt s (sends_all role channel ds x) role (queued channel ds e) you going coming
  all_queued channel [] e x fits at = at
  all_queued channel (d ∷ ds) e x fits at = all_queued channel ds (asked e channel (Sending d)) (sends role channel d x) fits.1 (asked_one e x channel (Sending d) at fits.0)

  pub say_after : (channel : ℕ) (octets : List ℕ) (qualified delivery : Bool) →
      IsKeptAfter s role (after_say me channel octets qualified delivery) (says role channel octets qualified delivery me b) kept l
  say_after channel octets qualified delivery = by (say_refusal me.layer channel octets qualified) refl
    where
      packets : List Datum
      packets = cut me.layer.flow.size (message octets qualified delivery)

      is : is_size me.layer.flow.size ≡ true
      is = ap (λ (f : Flow). is_size f.size) (kept_flow s b l role k) ∙ k.setting.dte.layer.flow_is.size_is

      by : (o : Option Refusal) → say_refusal me.layer channel octets qualified ≡ o →
          IsKeptAfter s role (host.unless_refused o (ended (queued channel packets me)) me) (unless_refused o (sends_all role channel packets b) b) kept l
      by None e =
          asked_on s b l role (queued channel packets me) (sends_all role channel packets b) kept
          (all_queued channel packets me b (all_said me channel octets qualified delivery is e) (seen s b role l k))
      by (Some x) e = unchanged

  -- ---- what is taken

  -- the packet or interrupt in front is taken
  took : (channel : ℕ) (x : Taken) → front_on me.layer channel ≡ Some x → KeptAt s (takes role channel (Some x) b) role (asked me channel Taking) you going coming
  took channel x is =
      subst (λ (o : Option Taken). KeptAt s (takes role channel o b) role (asked me channel Taking) you going coming) is
      (asked_one me b channel Taking (seen s b role l k) (front_kept s b l role channel x k is))

  released : (channel : ℕ) (x : Taken) → front_on me.layer channel ≡ Some x → request_refusal (asked me channel Taking).layer channel (Releasing 1) ≡ None
  released channel x is =
      let f = found_open me.layer channel x (channel_of me.layer channel) refl (kept_waits s b role me you going coming (seen s b role l k)) is in
      may_release_after me.layer channel f.0 f.1 f.2

  let_go_at : (channel : ℕ) (x : Taken) → front_on me.layer channel ≡ Some x →
      KeptAt s (lets_go role channel x (takes role channel (Some x) b)) role (let_go x channel (asked me channel Taking)) you going coming
  let_go_at channel (TakenInterrupt octets) is =
      let e : PacketEnd = asked me channel Taking in
      let t : Book = takes role channel (Some (TakenInterrupt octets)) b in
      subst (λ (z : Book). KeptAt s z role (asked e channel Confirming) you going coming) (unless_same (request_refusal e.layer channel Confirming) t)
      (requests_at s t role e you going coming (took channel (TakenInterrupt octets) is) channel Confirming)
  let_go_at channel (TakenPacket d) is =
      asked_one (asked me channel Taking) (takes role channel (Some (TakenPacket d)) b) channel (Releasing 1) (took channel (TakenPacket d) is) (released channel (TakenPacket d) is)

  pub take_after : (channel : ℕ) → IsKeptAfter s role (after_take me channel) (takes_any role channel (front_on me.layer channel) b) kept l
  take_after channel = by (front_on me.layer channel) refl
    where
      by : (o : Option Taken) → front_on me.layer channel ≡ o → IsKeptAfter s role (taken_as o channel me) (takes_any role channel o b) kept l
      by None e = unchanged
      by (Some x) e =
          asked_on s b l role (let_go x channel (asked me channel Taking)) (lets_go role channel x (takes role channel (Some x) b)) kept (let_go_at channel x e)

-- ---- the laws

pub expiry_kept : HostExpiryLaw
expiry_kept s b l role id kept none k = expiry_after s b l role kept none k id

pub call_kept : HostCallLaw
call_kept s b l role parts kept fits none k = call_after s b l role kept none k parts fits

pub request_kept : HostRequestLaw
request_kept s b l role channel r kept none k = request_after s b l role kept none k channel r

pub say_kept : HostSayLaw
say_kept s b l role channel octets qualified delivery kept none k = say_after s b l role kept none k channel octets qualified delivery

pub refuse_kept : HostRefuseLaw
refuse_kept s b l role channel kept none k = refuse_after s b l role kept none k channel

pub take_kept : HostTakeLaw
take_kept s b l role channel kept none k = take_after s b l role kept none k channel
