-- What a PAD asks at its end of the line, and what its notes write of it.
use Rattle.std.specs.Prelude.{◌≡◌, ℕ, Bool, true, false, not, List, [], ◌∷◌, ◌++◌, Option, Some, None}
use Rattle.std.proofs.Common.{refl, sym, ap, subst, ◌∙◌}
use Rattle.std.proofs.lemmas.List.{map-append}
use Rattle.std.proofs.lemmas.Option.{none-some}
use Rattle.link_timers.specs.declared.role.Role.{Role}
use Rattle.link_timers.specs.declared.role.Role.TheVariants.{Dte, Dce}
use Rattle.data_transfer.specs.declared.flow.Flow.{Flow}
use Rattle.lapb.specs.Machine.{Octets}
use Rattle.pad_editing.specs.Edited.{Step}
use Rattle.data_transfer.specs.Packets.{Note}
use Rattle.data_transfer.specs.Traffic.{Taken}
use Rattle.data_transfer.specs.Traffic.Taken.{TakenInterrupt, TakenPacket}
use Rattle.packet_channel.specs.Channel.{Channel, Request, Refusal, Step as ChannelStep, in_transfer, refusal, refused_if, unless, carried_out, requested}
use Rattle.packet_channel.specs.Channel.Request.{Accept, Clearing, Resetting, Sending, Interrupting, Taking, Releasing, Confirming}
use Rattle.packet_layer.specs.Layer.{Layer, channel_of, channel_given, request_refusal, refusal_at, front_on, request, on_found, after_step, owing}
use Rattle.packet_end.specs.PacketEnd as end
use Rattle.packet_end.specs.PacketEnd.{PacketEnd}
use Rattle.call_records.specs.Book.{Book, takes, all_told}
use Rattle.call_records.specs.Carried as book
use Rattle.call_records.specs.Carried.{carried}
use Rattle.call_records.specs.Writes.{Write, written_by, all_written, let_go}
use Rattle.record_laws.proofs.Books.Layers.{put_here}
use Rattle.record_laws.proofs.Books.Writing.{written_append}
use Rattle.node_laws.specs.LineRecords.Kept.{Setting}
use Rattle.node_laws.proofs.LineRecords.Views.{KeptAt, line_of, unseen}
use Rattle.node_laws.proofs.LineRecords.LineLaw.{front_kept}
use Rattle.node_laws.proofs.LineRecords.KeptAfterActs.{requests_at, calls_at, edits_at}
use Rattle.x28_commands.specs.declared.command.Selection.{Selection}
use Rattle.pad_ports.specs.Notes as notes
use Rattle.pad_ports.specs.Notes.{ChannelNote}
use Rattle.pad_ports.specs.PadLine as line
use Rattle.pad_ports.specs.PadLine.{asked, gathered, call_parts}
use Rattle.pad_ports.specs.PadLine.{PadLine}
use Rattle.user_nodes.specs.PadWriting.{write_of, writes_of}
use Rattle.node_laws.proofs.Pads.Selecting.{IsSelection, may_be_placed}

-- ---- notes that are written, one after the other

abbrev pub noted : Role → List ChannelNote → Book → Book
noted role ns b = all_written role (writes_of ns) b

pub noted_append : (role : Role) (xs ys : List ChannelNote) (b : Book) → noted role (xs ++ ys) b ≡ noted role ys (noted role xs b)
noted_append role xs ys b =
    ap (λ (ws : List Write). all_written role ws b) (map-append write_of xs ys) ∙ written_append role (writes_of xs) (writes_of ys) b

pub noted_told : (role : Role) (ns : List Note) (b : Book) → noted role (notes.all_told ns) b ≡ all_told role ns b
noted_told role [] b = refl
noted_told role (n ∷ ns) b = noted_told role ns (all_told role (n ∷ []) b)

-- ---- a packet that was taken may be released

taken_state : (ch : Channel) (o : Option Refusal) → in_transfer (unless o (carried_out ch Taking) ch).channel.state ≡ in_transfer ch.state
taken_state ch None = refl
taken_state ch (Some r) = refl

may_release : (role : Role) (flow : Flow) (found : Option Channel) (ch : Channel) → found ≡ Some ch → in_transfer ch.state ≡ true → refusal_at role flow (Releasing 1) found ≡ None
may_release role flow found ch e h = ap (λ (o : Option Channel). refusal_at role flow (Releasing 1) o) e ∙ ap (λ (v : Bool). refused_if (not v) Refusal.NoCall None) h

may_release_after : (l : Layer) (c : ℕ) (ch : Channel) → channel_of l c ≡ Some ch → in_transfer ch.state ≡ true → request_refusal (request l c Taking) c (Releasing 1) ≡ None
may_release_after l c ch e h =
    let st : ChannelStep = requested l.role l.flow ch Taking in
    let is : request l c Taking ≡ after_step l c st = ap (λ (o : Option Channel). on_found l c (λ z. requested l.role l.flow z Taking) o) e in
    ap (λ (z : Layer). request_refusal z c (Releasing 1)) is
    ∙ may_release l.role l.flow (channel_of (after_step l c st) c) (owing st) (put_here l.channels c ch (owing st) e) (taken_state ch (refusal l.role l.flow ch Taking) ∙ h)

-- what waits may be taken, since its channel is in data transfer
front_at : (s : Setting) (x : Book) (role : Role) (e you : PacketEnd) (going coming : List Octets) (channel : ℕ) (taken : Taken) → KeptAt s x role e you going coming → front_on e.layer channel ≡ Some taken
    → request_refusal e.layer channel Taking ≡ None
front_at s x Dte e you going coming channel taken k is =
    front_kept s x (line_of Dte e you going coming) Dte channel taken (unseen s x Dte e you going coming k) is
front_at s x Dce e you going coming channel taken k is =
    front_kept s x (line_of Dce e you going coming) Dce channel taken (unseen s x Dce e you going coming k) is

by_transfer : (v : Bool) → refused_if (not v) Refusal.NoCall None ≡ None → v ≡ true
by_transfer true h = refl
by_transfer false h = absurd (none-some Refusal.NoCall (sym h))

in_transfer_at : (role : Role) (flow : Flow) (found : Option Channel) → refusal_at role flow Taking found ≡ None → (ch : Channel) × (found ≡ Some ch) × (in_transfer ch.state ≡ true)
in_transfer_at role flow None h = absurd (none-some Refusal.NoCall (sym h))
in_transfer_at role flow (Some ch) h = (ch, refl, by_transfer (in_transfer ch.state) h)

-- ---- what is kept during an event

-- the book that was written so far
module _ (s : Setting) (b : Book) (role : Role) (you : PacketEnd) (going coming : List Octets) where
  abbrev pub KeptIn : Book → PacketEnd → Type 0
  KeptIn x e = KeptAt s x role e you going coming

  -- what the packet layer told was read, and what is kept is kept with the book that the notes write
  pub record Runs (l : PadLine) : Type 0 where
    pub read : l.end.notes ≡ []
    pub kept : KeptIn (noted role l.notes b) l.end

  -- what happens next happens at this terminal
  pub named_runs : (terminal : Option ℕ) (l : PadLine) → Runs l → Runs (line.at_terminal terminal l)
  named_runs terminal l h = record { read = h.read; kept = h.kept }

  pub gathered_runs : (terminals : List (Option ℕ)) (l : PadLine) → KeptIn (all_told role l.end.notes (noted role l.notes b)) l.end → Runs (gathered terminals l)
  gathered_runs terminals l k = record {
    read = refl;
    kept =
        let t = subst (λ (x : Book). KeptIn x l.end) (sym (noted_append role l.notes (notes.all_told l.end.notes) b ∙ noted_told role l.end.notes (noted role l.notes b))) k in
        record {
          setting = t.setting;
          world = t.world;
          line = t.line;
          top_mine = t.top_mine;
          top_yours = t.top_yours;
          reaches = t.reaches;
          joint = t.joint;
          mine = t.mine;
          yours = t.yours;
        };
  }

  -- ---- requests

  unless_noted : (o : Option Refusal) (note : ChannelNote) (ns : List ChannelNote) (done : Book) → written_by role (write_of note) (noted role ns b) ≡ done →
      noted role (ns ++ notes.unless_refused o note) b ≡ book.unless_refused o done (noted role ns b)
  unless_noted None note ns done e = noted_append role ns (note ∷ []) b ∙ e
  unless_noted (Some r) note ns done e = noted_append role ns [] b

  pub asked_runs : (channel : ℕ) (r : Request) (note : ChannelNote) (l : PadLine)
      → ((x : Book) → written_by role (write_of note) x ≡ carried role channel r (front_on l.end.layer channel) x) → Runs l → Runs (asked channel r note l)
  asked_runs channel r note l writes h = record {
    read = h.read;
    kept =
        let x : Book = noted role l.notes b in
        let o : Option Refusal = request_refusal l.end.layer channel r in
        let done : Book = carried role channel r (front_on l.end.layer channel) x in
        subst (λ (z : Book). KeptIn z (end.asked l.end channel r)) (sym (unless_noted o note l.notes done (writes x)))
        (requests_at s x role l.end you going coming h.kept channel r);
  }

  pub sent_runs : (channel : ℕ) (octets : List ℕ) (qualified : Bool) (l : PadLine) → Runs l → Runs (line.sent channel octets qualified l)
  sent_runs channel octets qualified l h =
      asked_runs channel (Sending (line.datum octets qualified)) (notes.Sent channel (line.datum octets qualified)) l (λ x. refl) h

  pub accepted_runs : (channel : ℕ) (l : PadLine) → Runs l → Runs (line.accepted channel l)
  accepted_runs channel l h = asked_runs channel Accept (notes.Accepted channel) l (λ x. refl) h

  pub cleared_runs : (channel : ℕ) (l : PadLine) → Runs l → Runs (line.cleared channel l)
  cleared_runs channel l h = asked_runs channel (Clearing 0 0) (notes.Cleared channel) l (λ x. refl) h

  pub reset_runs : (channel : ℕ) (l : PadLine) → Runs l → Runs (line.reset channel l)
  reset_runs channel l h = asked_runs channel (Resetting 0 0) (notes.WasReset channel) l (λ x. refl) h

  pub interrupted_runs : (channel : ℕ) (l : PadLine) → Runs l → Runs (line.interrupted channel l)
  interrupted_runs channel l h =
      asked_runs channel (Interrupting (line.interrupt_octet ∷ [])) (notes.Interrupted channel (line.interrupt_octet ∷ [])) l (λ x. refl) h

  -- ---- a call that is placed

  placed_noted : (o : Option ℕ) (address user_data : List ℕ) (ns : List ChannelNote)
      → noted role (ns ++ line.placed_note o address) b ≡ book.placed_on role o (call_parts address user_data) (noted role ns b)
  placed_noted None address user_data ns = noted_append role ns [] b
  placed_noted (Some channel) address user_data ns = noted_append role ns (notes.Placed channel address ∷ []) b

  pub placed_runs : (selection : Selection) (l : PadLine) → IsSelection selection → Runs l → Runs (line.placed selection.address selection.user_data.items l)
  placed_runs selection l fits h = record {
    read = h.read;
    kept =
        let parts = call_parts selection.address selection.user_data.items in
        subst (λ (z : Book). KeptIn z (end.called l.end parts))
        (sym (placed_noted (channel_given l.end.layer l.end.layer.phase) selection.address selection.user_data.items l.notes))
        (calls_at s (noted role l.notes b) role l.end you going coming h.kept parts (may_be_placed selection fits));
  }

  -- ---- a step of editing

  pub edited_runs : (channel : ℕ) (step : Step) (l : PadLine) → Runs l → Runs (line.noting (notes.Edited channel step ∷ []) l)
  edited_runs channel step l h = record {
    read = h.read;
    kept =
        subst (λ (z : Book). KeptIn z l.end) (sym (noted_append role l.notes (notes.Edited channel step ∷ []) b))
        (edits_at s (noted role l.notes b) role l.end you going coming h.kept role channel step);
  }

  -- ---- what waits first is taken, and let go

  unless_same : (o : Option Refusal) (x : Book) → book.unless_refused o x x ≡ x
  unless_same None x = refl
  unless_same (Some r) x = refl

  asked_one : (e : PacketEnd) (x : Book) (channel : ℕ) (r : Request) → KeptIn x e → request_refusal e.layer channel r ≡ None →
      KeptIn (carried role channel r (front_on e.layer channel) x) (end.asked e channel r)
  asked_one e x channel r at is =
      subst (λ (o : Option Refusal). KeptIn (book.unless_refused o (carried role channel r (front_on e.layer channel) x) x) (end.asked e channel r)) is
      (requests_at s x role e you going coming at channel r)

  module _ (e : PacketEnd) (x : Book) (channel : ℕ) (taken : Taken) (k : KeptIn x e) (is : front_on e.layer channel ≡ Some taken) where
    open_ : (ch : Channel) × (channel_of e.layer channel ≡ Some ch) × (in_transfer ch.state ≡ true)
    open_ = in_transfer_at e.layer.role e.layer.flow (channel_of e.layer channel) (front_at s x role e you going coming channel taken k is)

    took : KeptIn (takes role channel (Some taken) x) (end.asked e channel Taking)
    took =
        subst (λ (o : Option Taken). KeptIn (takes role channel o x) (end.asked e channel Taking)) is
        (asked_one e x channel Taking k (front_at s x role e you going coming channel taken k is))

    released : request_refusal (end.asked e channel Taking).layer channel (Releasing 1) ≡ None
    released = may_release_after e.layer channel open_.0 open_.1 open_.2

  -- the request with which it is let go
  abbrev pub lets_go : Taken → Request
  lets_go (TakenInterrupt octets) = Confirming
  lets_go (TakenPacket d) = Releasing 1

  abbrev pub let_go_on : Taken → (channel : ℕ) → PadLine → PadLine
  let_go_on x channel l = record l { end = end.asked l.end channel (lets_go x) }

  let_go_at : (e : PacketEnd) (x : Book) (channel : ℕ) (taken : Taken) → KeptIn x e → front_on e.layer channel ≡ Some taken →
      KeptIn (let_go taken role channel (takes role channel (Some taken) x)) (end.asked (end.asked e channel Taking) channel (lets_go taken))
  let_go_at e x channel (TakenInterrupt octets) k is =
      let f : PacketEnd = end.asked e channel Taking in
      let t : Book = takes role channel (Some (TakenInterrupt octets)) x in
      subst (λ (z : Book). KeptIn z (end.asked f channel Confirming)) (unless_same (request_refusal f.layer channel Confirming) t)
      (requests_at s t role f you going coming (took e x channel (TakenInterrupt octets) k is) channel Confirming)
  let_go_at e x channel (TakenPacket d) k is =
      asked_one (end.asked e channel Taking) (takes role channel (Some (TakenPacket d)) x) channel (Releasing 1) (took e x channel (TakenPacket d) k is)
      (released e x channel (TakenPacket d) k is)

  pub taken_runs : (channel : ℕ) (taken : Taken) (l : PadLine) → front_on l.end.layer channel ≡ Some taken → Runs l
      → Runs (let_go_on taken channel (line.taken channel (Some taken) l))
  taken_runs channel taken l is h = record {
    read = h.read;
    kept =
        subst (λ (z : Book). KeptIn z (end.asked (end.asked l.end channel Taking) channel (lets_go taken))) (sym (noted_append role l.notes (notes.Took channel taken ∷ []) b))
        (let_go_at l.end (noted role l.notes b) channel taken h.kept is);
  }
