-- The events of a PAD keep what holds of it and of the book.
use Rattle.std.specs.Prelude.{◌≡◌, ℕ, ◌⊎◌, Bool, true, false, ◌&&◌, cond, if◌then◌else◌, List, [], ◌∷◌, ◌++◌, map, slice_get, slice_set, is_none, Option, Some, None}
use Rattle.std.specs.Option.{option_map, option_map_or}
use Rattle.std.proofs.Common.{inl, inr, refl, sym, ap, subst, ◌∙◌, true≢false, arith}
use Rattle.std.proofs.lemmas.Option.{none-some, same_Some, slice_get-map}
use Rattle.link_timers.specs.declared.role.Role.{Role}
use Rattle.link_timers.specs.declared.timers.TimerId.{TimerId}
use Rattle.link_timers.specs.declared.timers.TimerId.TheVariants.{Idle}
use Rattle.data_transfer.specs.Packets.{Note}
use Rattle.packet_channel.specs.Channel.{Refusal}
use Rattle.packet_channel.specs.Channel.Request.{Accept, Clearing}
use Rattle.packet_layer.specs.Layer.{request, request_refusal, link_down, unread}
use Rattle.packet_end.specs.PacketEnd.{PacketEnd, begun, received, after_timer, relinked, relinked_if_due, finished, runs_at}
use Rattle.packet_end.proofs.Sizes.{asked_same, received_same, timer_same, finished_same}
use Rattle.record_laws.proofs.Books.Basics.{get_set}
use Rattle.call_records.specs.Book.{Book}
use Rattle.node_laws.proofs.LineRecords.WholeEvents.{all_offered_notes}
use Rattle.pad_terminal.specs.Terminal.{is_present}
use Rattle.pad_ports.specs.Notes as notes
use Rattle.pad_ports.specs.Notes.{ChannelNote}
use Rattle.pad_ports.specs.PadLine as line
use Rattle.pad_ports.specs.PadLine.{all_learnt, last_incoming}
use Rattle.pad_ports.specs.Ports as port
use Rattle.pad_ports.specs.Ports.{PortState, AtLine, has_channel}
use Rattle.pad_ports.specs.PadLine.{PadLine}
use Rattle.x25_pad.specs.Pad as pad
use Rattle.x25_pad.specs.Pad.{PadState, all_heard, changed_at, at_port, acted}
use Rattle.node_laws.specs.Pads.Holds.{BookHolds, IsPort, IsOn, TextOf, PadTypes}
use Rattle.user_nodes.specs.PadWriting.{writes_of}
use Rattle.call_records.specs.Writes.{Write, all_written}
use Rattle.call_records.specs.Writes.Write.{AllClosed}
use Rattle.link_timers.specs.Role.{other_of}
use Rattle.node_laws.specs.Pads.Standing.{drained}
use Rattle.lapb.specs.Machine.{Octets}
use Rattle.node_laws.proofs.Pads.Asking.{noted, noted_append, noted_told}
use Rattle.node_laws.proofs.Pads.Channels.{Tells, IncomingLast, NoneComes, none_last, none_append}
use Rattle.node_laws.proofs.Pads.Layers.{call_at, request_notes, request_other, down_none}
use Rattle.node_laws.proofs.Pads.Ends.{EndTells, received_tells, received_last, timer_tells, timer_last, relinked_tells, relinked_last, finished_tells}
use Rattle.node_laws.proofs.Pads.Books.{narrowed, answers_holds, closes_holds, all_closed_holds, far_written}
use Rattle.node_laws.proofs.Pads.Modes.{Same, resumed_same}
use Rattle.node_laws.proofs.Pads.Typing.{AtHolds, Joined, port_same, same_channel, request_keeps}
use Rattle.node_laws.proofs.Pads.Printing.{key_holds, break_holds, idle_holds, print_holds, leaving_holds, arrival_holds}
use Rattle.node_laws.proofs.Pads.Ports.{AreAlone, Back, on_back, alone_back, text_back, changed_port, found_at, HeardHolds, TextOrNew, all_are_heard}

-- what it noted is written
abbrev pub TypesAfter : Role → Book → PadState → Type 0
TypesAfter role b p = PadTypes role p (all_written role (writes_of p.line.notes) b)

-- ---- during an event, with nothing unread

module _ (role : Role) (b : Book) where
  record MidHolds (l : PadLine) (ports : List PortState) : Type 0 where
    size : l.end.layer.flow.size ≡ 128
    read : l.end.notes ≡ []
    unread_ : l.end.layer.notes ≡ []
    each : (j : ℕ) (q : PortState) → slice_get ports j ≡ Some q → IsPort q
    alone : AreAlone ports
    calls : (i c : ℕ) (q : PortState) → IsOn ports i c q → call_at l.end.layer c ≡ true
    book : BookHolds role (TextOf ports) (noted role l.notes b)

  mid_holds : (p : PadState) → MidHolds p.line p.ports → TypesAfter role b p
  mid_holds p h = record {
    size = h.size;
    book = h.book;
    read = h.read;
    unread = h.unread_;
    ports = h.each;
    alone = h.alone;
    calls = h.calls;
  }

  -- ports that come of those before
  ports_change : (l : PadLine) (ports after : List PortState) → Back ports after → MidHolds l ports → MidHolds l after
  ports_change l ports after back h = record {
    size = h.size;
    read = h.read;
    unread_ = h.unread_;
    each = λ j q at. (back.from j q at).0;
    alone = alone_back ports after back h.alone;
    calls = λ i c q on. (let p = on_back ports after back i c q on in h.calls i c p.0 p.1);
    book = narrowed role (TextOf ports) (TextOf after) (noted role l.notes b) (text_back ports after back) h.book;
  }

  -- ---- something happens at a terminal

  abbrev Others : List PortState → (number : ℕ) → ℕ → List ℕ → Type 0
  Others ports i c t = (j : ℕ) × (q : PortState) × (j ≡ i → ⊥) × (slice_get ports j ≡ Some q) × (has_channel q.call c ≡ true) × (q.terminal.held ≡ t)

  at_holds : (terminal : Option ℕ) (l : PadLine) (ports : List PortState) (i : ℕ) (p : PortState) → slice_get ports i ≡ Some p → MidHolds l ports → AtHolds role b (Others ports i) (record { port = p; line = line.at_terminal terminal l })
  at_holds terminal l ports i p at h = record {
    size = h.size;
    port = h.each i p at;
    read = h.read;
    unread = h.unread_;
    others = λ c t o. h.calls o.0 c o.1 (o.3, o.4);
    own = λ c e. h.calls i c p (at, e);
    alone = λ c t o e. o.2 (h.alone o.0 i c o.1 p (o.3, o.4) (at, e));
    book =
        narrowed role (TextOf ports) (Joined role b (Others ports i) p.call p.terminal.held) (noted role l.notes b)
        (λ c t y. elim y [
          | inl o ↦ (o.0, o.1, o.3, o.4, o.5)
          | inr m ↦ (i, p, at, m.0, m.1)
        ]) h.book;
  }

  from_at : (l : PadLine) (ports : List PortState) (i : ℕ) (a : AtLine) → MidHolds l ports → AtHolds role b (Others ports i) a → MidHolds a.line (slice_set ports i a.port)
  from_at l ports i a before h = record {
    size = h.size;
    read = h.read;
    unread_ = h.unread;
    each = λ j q at.
        elim (get_set ports i a.port j q at) [
          | inl m ↦ subst (λ (z : PortState). IsPort z) (sym m.1) h.port
          | inr m ↦ before.each j q m.1
        ];
    alone = λ j k c q r e f.
        elim (get_set ports i a.port j q e.0) [
          | inl m ↦
              elim (get_set ports i a.port k r f.0) [
                | inl n ↦ m.0 ∙ sym n.0
                | inr n ↦ absurd (h.alone c r.terminal.held (k, r, n.0, n.1, f.1, refl) (ap (λ (z : PortState). has_channel z.call c) (sym m.1) ∙ e.1))
              ]
          | inr m ↦
              elim (get_set ports i a.port k r f.0) [
                | inl n ↦ absurd (h.alone c q.terminal.held (j, q, m.0, m.1, e.1, refl) (ap (λ (z : PortState). has_channel z.call c) (sym n.1) ∙ f.1))
                | inr n ↦ before.alone j k c q r (m.1, e.1) (n.1, f.1)
              ]
        ];
    calls = λ j c q on.
        elim (get_set ports i a.port j q on.0) [
          | inl m ↦ h.own c (ap (λ (z : PortState). has_channel z.call c) (sym m.1) ∙ on.1)
          | inr m ↦ h.others c q.terminal.held (j, q, m.0, m.1, on.1, refl)
        ];
    book =
        narrowed role (Joined role b (Others ports i) a.port.call a.port.terminal.held) (TextOf (slice_set ports i a.port)) (noted role a.line.notes b)
        (λ c t x. elim (get_set ports i a.port x.0 x.1 x.2) [
          | inl m ↦ inr (ap (λ (z : PortState). has_channel z.call c) (sym m.1) ∙ x.3, ap (λ (z : PortState). z.terminal.held) (sym m.1) ∙ x.4)
          | inr m ↦ inl (x.0, x.1, m.0, m.1, x.3, x.4)
        ]) h.book;
  }

  port_holds : (number : ℕ) (act : AtLine → AtLine) (p : PadState) → ((X : ℕ → List ℕ → Type 0) (a : AtLine) → AtHolds role b X a → AtHolds role b X (act a)) → MidHolds p.line p.ports
      → MidHolds (at_port number act p).line (at_port number act p).ports
  port_holds number act p f h = by (slice_get p.ports number) refl
    where
      by : (o : Option PortState) → slice_get p.ports number ≡ o →
          let q : PadState = option_map_or (λ found. acted number p (act (pad.with_line number found p))) o p in
          MidHolds q.line q.ports
      by None e = h
      by (Some found) e =
          from_at p.line p.ports number (act (pad.with_line number found p)) h
          (f (Others p.ports number) (pad.with_line number found p) (at_holds (Some number) p.line p.ports number found e h))

  -- ---- what the packet layer told

  told_starts : (had : ℕ → Bool) (e : PacketEnd) (ports : List PortState) (x : Book) → ((j : ℕ) (q : PortState) → slice_get ports j ≡ Some q → IsPort q) → AreAlone ports
      → ((i c : ℕ) (q : PortState) → IsOn ports i c q → had c ≡ true) → BookHolds role (TextOf ports) x → EndTells had e → IncomingLast e.notes → HeardHolds role e.layer e.notes None ports x
  told_starts had e ports x each alone calls book h last = record {
    each = each;
    alone = alone;
    tells = λ c. (had c, h.tells c, λ i q on. calls i c q on);
    came = λ c n. absurd (none-some c n);
    last = last;
    book =
        narrowed role (TextOf ports) (TextOrNew None ports) x
        (λ c t y. elim y [
          | inl o ↦ o
          | inr m ↦ absurd (none-some c m.0)
        ]) book;
  }

  -- all was heard
  abbrev Heard : PadLine → Option ℕ → List PortState → Type 0
  Heard l incoming ports = HeardHolds role l.end.layer [] incoming ports (noted role l.notes b)

  heard_calls : (l : PadLine) (incoming : Option ℕ) (ports : List PortState) → Heard l incoming ports → (i c : ℕ) (q : PortState) → IsOn ports i c q → call_at l.end.layer c ≡ true
  heard_calls l incoming ports h i c q on = (h.tells c).1 ((h.tells c).2 i q on)

  heard_book : (l : PadLine) (incoming : Option ℕ) (ports : List PortState) → Heard l incoming ports → BookHolds role (TextOf ports) (noted role l.notes b)
  heard_book l incoming ports h = narrowed role (TextOrNew incoming ports) (TextOf ports) (noted role l.notes b) (λ c t o. inl o) h.book

  heard_mid : (l : PadLine) (incoming : Option ℕ) (ports : List PortState) → l.end.layer.flow.size ≡ 128 → l.end.notes ≡ [] → l.end.layer.notes ≡ [] → Heard l incoming ports → MidHolds l ports
  heard_mid l incoming ports size read unread h = record {
    size = size;
    read = read;
    unread_ = unread;
    each = h.each;
    alone = h.alone;
    calls = heard_calls l incoming ports h;
    book = heard_book l incoming ports h;
  }

  told_heard : (had : ℕ → Bool) (p : PadState) → ((j : ℕ) (q : PortState) → slice_get p.ports j ≡ Some q → IsPort q) → AreAlone p.ports
      → ((i c : ℕ) (q : PortState) → IsOn p.ports i c q → had c ≡ true) → BookHolds role (TextOf p.ports) (noted role p.line.notes b) → EndTells had p.line.end → IncomingLast p.line.end.notes
      → Heard (pad.told p).line (last_incoming None p.line.end.notes) (pad.told p).ports
  told_heard had p each alone calls book h last =
      subst (λ (x : Book). HeardHolds role p.line.end.layer [] (last_incoming None p.line.end.notes) (all_heard (all_learnt p.line.end.notes) p.ports) x)
      (sym (noted_append role p.line.notes (notes.all_told p.line.end.notes) b ∙ noted_told role p.line.end.notes (noted role p.line.notes b)))
      (all_are_heard role p.line.end.layer p.line.end.notes None p.ports (noted role p.line.notes b)
      (told_starts had p.line.end p.ports (noted role p.line.notes b) each alone calls book h last))

  -- ---- a call that came in is answered

  unless_noted : (X : ℕ → List ℕ → Type 0) (o : Option Refusal) (note : ChannelNote) (ns : List ChannelNote) → BookHolds role X (noted role (note ∷ []) (noted role ns b)) → BookHolds role X (noted role ns b)
      → BookHolds role X (noted role (ns ++ notes.unless_refused o note) b)
  unless_noted X None note ns h k = subst (λ (z : Book). BookHolds role X z) (sym (noted_append role ns (note ∷ []) b)) h
  unless_noted X (Some r) note ns h k = subst (λ (z : Book). BookHolds role X z) (sym (noted_append role ns [] b)) k

  clears_it : (channel : ℕ) (p : PadState) → p.line.end.layer.flow.size ≡ 128 → p.line.end.notes ≡ [] → p.line.end.layer.notes ≡ [] → Heard p.line (Some channel) p.ports → MidHolds (line.cleared channel p.line) p.ports
  clears_it channel p size read unread h = record {
    size = asked_same p.line.end channel (Clearing 0 0) ∙ size;
    read = read;
    unread_ = request_notes p.line.end.layer channel (Clearing 0 0) unread;
    each = h.each;
    alone = h.alone;
    calls = λ i c q on.
        request_other p.line.end.layer channel c (Clearing 0 0) (λ e. (h.came channel refl).2 i q (subst (λ (k : ℕ). IsOn p.ports i k q) e on)) ∙ heard_calls p.line (Some channel) p.ports h i c q on;
    book =
        unless_noted (TextOf p.ports) (request_refusal p.line.end.layer channel (Clearing 0 0)) (notes.Cleared channel) p.line.notes
        (closes_holds role (TextOf p.ports) role channel (noted role p.line.notes b) (heard_book p.line (Some channel) p.ports h)) (heard_book p.line (Some channel) p.ports h);
  }

  is_free : (present : Bool) (o : Option ℕ) → (present && is_none o) ≡ true → o ≡ None
  is_free present None h = refl
  is_free true (Some call) h = absurd (true≢false (sym h))
  is_free false (Some call) h = absurd (true≢false (sym h))

  accepts_it : (channel number : ℕ) (p : PadState) → pad.first_free p.ports ≡ Some number → p.line.end.layer.flow.size ≡ 128 → p.line.end.notes ≡ [] → p.line.end.layer.notes ≡ [] → Heard p.line (Some channel) p.ports
      → MidHolds (line.accepted channel p.line) (changed_at number (port.connects channel) p.ports)
  accepts_it channel number p free size read unread h = record {
    size = asked_same p.line.end channel Accept ∙ size;
    read = read;
    unread_ = request_notes p.line.end.layer channel Accept unread;
    each = λ j q at.
        elim (cases j q at) [
          | inl m ↦ subst (λ (z : PortState). IsPort z) (sym m.1) connects_port
          | inr m ↦ h.each j q m.1
        ];
    alone = λ j k c q r e f.
        elim (cases j q e.0) [
          | inl m ↦
              elim (cases k r f.0) [
                | inl n ↦ m.0 ∙ sym n.0
                | inr n ↦ absurd (unheld c k r (channel_is c q m.1 e.1) (n.1, f.1))
              ]
          | inr m ↦
              elim (cases k r f.0) [
                | inl n ↦ absurd (unheld c j q (channel_is c r n.1 f.1) (m.1, e.1))
                | inr n ↦ h.alone j k c q r (m.1, e.1) (n.1, f.1)
              ]
        ];
    calls = λ j c q on.
        elim (cases j q on.0) [
          | inl m ↦ keeps c (subst (λ (k : ℕ). call_at p.line.end.layer k ≡ true) (channel_is c q m.1 on.1) (h.came channel refl).1)
          | inr m ↦ keeps c (heard_calls p.line (Some channel) p.ports h j c q (m.1, on.1))
        ];
    book = narrowed role (TextOrNew (Some channel) p.ports) (TextOf (changed_at number (port.connects channel) p.ports)) _ texts accepted;
  }
    where
      found : (x : PortState) × (slice_get p.ports number ≡ Some x) × (port.is_free x ≡ true)
      found = found_at port.is_free p.ports number free

      cases : (j : ℕ) (q : PortState) → slice_get (changed_at number (port.connects channel) p.ports) j ≡ Some q → ((j ≡ number) × (q ≡ port.connects channel found.0)) ⊎ ((j ≡ number → ⊥) × (slice_get p.ports j ≡ Some q))
      cases j q at = changed_port p.ports number found.0 (port.connects channel) j q found.1 at

      connects_port : IsPort (port.connects channel found.0)
      connects_port = record {
        free = λ e. absurd (none-some channel (sym e));
        bare = λ e. absurd (true≢false e);
        empty = λ e. absurd (true≢false e);
        short = (h.each number found.0 found.1).short;
      }

      channel_is : (c : ℕ) (q : PortState) → q ≡ port.connects channel found.0 → has_channel q.call c ≡ true → channel ≡ c
      channel_is c q is on = same_channel channel c (ap (λ (z : PortState). has_channel z.call c) (sym is) ∙ on)

      unheld : (c j : ℕ) (q : PortState) → channel ≡ c → IsOn p.ports j c q → ⊥
      unheld c j q is on = (h.came channel refl).2 j q (subst (λ (k : ℕ). IsOn p.ports j k q) (sym is) on)

      keeps : (c : ℕ) → call_at p.line.end.layer c ≡ true → call_at (request p.line.end.layer channel Accept) c ≡ true
      keeps c e = request_keeps role b (λ d t. ⊥) p.line.end.layer channel c Accept (λ cause diagnostic x. absurd cc) e

      nothing_held : found.0.terminal.held ≡ []
      nothing_held = (let q = h.each number found.0 found.1 in q.empty (q.free (is_free (is_present found.0.terminal.mode) found.0.call found.2)))

      texts : (c : ℕ) (t : List ℕ) → TextOf (changed_at number (port.connects channel) p.ports) c t → TextOrNew (Some channel) p.ports c t
      texts c t x =
          elim (cases x.0 x.1 x.2) [
            | inl m ↦ inr (ap (λ (k : ℕ). Some k) (channel_is c x.1 m.1 x.3), sym x.4 ∙ ap (λ (z : PortState). z.terminal.held) m.1 ∙ nothing_held)
            | inr m ↦ inl (x.0, x.1, m.1, x.3, x.4)
          ]

      accepted : BookHolds role (TextOrNew (Some channel) p.ports) (noted role (line.accepted channel p.line).notes b)
      accepted =
          unless_noted (TextOrNew (Some channel) p.ports) (request_refusal p.line.end.layer channel Accept) (notes.Accepted channel) p.line.notes
          (answers_holds role (TextOrNew (Some channel) p.ports) role channel (noted role p.line.notes b) h.book) h.book

  answered_holds : (o : Option ℕ) (p : PadState) → p.line.end.layer.flow.size ≡ 128 → p.line.end.notes ≡ [] → p.line.end.layer.notes ≡ [] → Heard p.line o p.ports → MidHolds (pad.answered o p).line (pad.answered o p).ports
  answered_holds None p size read unread h = heard_mid p.line None p.ports size read unread h
  answered_holds (Some channel) p size read unread h = by (pad.first_free p.ports) refl
    where
      by : (o : Option ℕ) → pad.first_free p.ports ≡ o → MidHolds (pad.answered_at o channel p).line (pad.answered_at o channel p).ports
      by None e = clears_it channel (record p { line = line.at_terminal None p.line }) size read unread h
      by (Some number) e = accepts_it channel number (record p { line = line.at_terminal (Some number) p.line }) e size read unread h

  -- ---- the end of an event

  if_none : (v : Bool) (e f : PacketEnd) → NoneComes e.notes → NoneComes f.notes → NoneComes (cond v e f).notes
  if_none true e f h k = h
  if_none false e f h k = k

  finished_last : (e : PacketEnd) → e.notes ≡ [] → IncomingLast (finished e).notes
  unfolding finished
  finished_last e none =
      subst (λ (ns : List Note). IncomingLast ns) (sym (all_offered_notes (relinked_if_due e)))
      (none_last (relinked_if_due e).notes
      (if_none e.layer.relink (relinked e) e
      (none_append e.notes (link_down e.layer).notes (subst (λ (ns : List Note). NoneComes ns) (sym none) tt) (down_none e.layer)) (subst (λ (ns : List Note). NoneComes ns) (sym none) tt)))

  settled_back : (l : PadLine) (ports : List PortState) → ((j : ℕ) (q : PortState) → slice_get ports j ≡ Some q → IsPort q) → Back ports (map (port.settled l) ports)
  settled_back l ports each = record { from = λ j q at. from j q (slice_get ports j) refl (sym (slice_get-map (port.settled l) ports j) ∙ at) }
    where
      from : (j : ℕ) (q : PortState) (o : Option PortState) → slice_get ports j ≡ o → option_map (port.settled l) o ≡ Some q
          → IsPort q × (p : PortState) × (slice_get ports j ≡ Some p) × ((c : ℕ) → has_channel q.call c ≡ true → (has_channel p.call c ≡ true) × (q.terminal.held ≡ p.terminal.held))
      from j q None e f = absurd (none-some q f)
      from j q (Some p) e f =
          let same : port.settled l p ≡ q = same_Some (port.settled l p) q f in
          let s : Same p.terminal (port.settled l p).terminal = resumed_same (line.condition p.call l).queue_full p.terminal in
          let is : IsPort (port.settled l p) = port_same p (port.settled l p).terminal p.call (port.settled l p).idle_left s (λ n. n) (λ n. n) (each j p e) in
          (subst (λ (z : PortState). IsPort z) same is, p, e, λ c on. (ap (λ (z : PortState). has_channel z.call c) same ∙ on, ap (λ (z : PortState). z.terminal.held) (sym same) ∙ s.0))

  ended_holds : (p : PadState) → MidHolds p.line p.ports → TypesAfter role b (pad.ended p)
  ended_holds p h =
      let had : ℕ → Bool = λ c. call_at p.line.end.layer c in
      let before : EndTells had p.line.end = record { read = h.unread_; tells = λ c. subst (λ (ns : List Note). Tells c (had c) ns (had c)) (sym h.read) (λ e. e) } in
      let after : EndTells had (finished p.line.end) = finished_tells had p.line.end before in
      let q : PadState = pad.told (pad.with_end (finished p.line.end) p) in
      let heard = told_heard had (pad.with_end (finished p.line.end) p) h.each h.alone h.calls h.book after (finished_last p.line.end h.read) in
      let mid : MidHolds q.line q.ports = heard_mid q.line (last_incoming None (finished p.line.end).notes) q.ports (finished_same p.line.end ∙ h.size) refl after.read heard in
      mid_holds (pad.ended p) (ports_change q.line q.ports (map (port.settled q.line) q.ports) (settled_back q.line q.ports mid.each) mid)

  -- an event that came from the line
  line_holds : (had : ℕ → Bool) (p : PadState) → p.line.end.layer.flow.size ≡ 128 → p.line.notes ≡ [] → ((j : ℕ) (q : PortState) → slice_get p.ports j ≡ Some q → IsPort q) → AreAlone p.ports
      → ((i c : ℕ) (q : PortState) → IsOn p.ports i c q → had c ≡ true) → BookHolds role (TextOf p.ports) b → EndTells had p.line.end → IncomingLast p.line.end.notes → TypesAfter role b (pad.line_event p)
  line_holds had p size none each alone calls book h last =
      let heard = told_heard had p each alone calls (subst (λ (ns : List ChannelNote). BookHolds role (TextOf p.ports) (noted role ns b)) (sym none) book) h last in
      ended_holds (pad.answered (last_incoming None p.line.end.notes) (pad.told p)) (answered_holds (last_incoming None p.line.end.notes) (pad.told p) size refl h.read heard)

-- ---- events that begin

begun_holds : (role : Role) (p : PadState) (b : Book) → PadTypes role p b → MidHolds role b (pad.begun p).line (pad.begun p).ports
begun_holds role p b h = record { size = h.size; read = refl; unread_ = h.unread; each = h.ports; alone = h.alone; calls = h.calls; book = h.book }

abbrev had_in : PadState → ℕ → Bool
had_in p c = call_at p.line.end.layer c

begun_tells : (role : Role) (p : PadState) (b : Book) → PadTypes role p b → EndTells (had_in p) (begun p.line.end)
begun_tells role p b h = record { read = h.unread; tells = λ c e. e }

terminal_holds : (role : Role) (p : PadState) (b : Book) (number : ℕ) (act : AtLine → AtLine) → ((X : ℕ → List ℕ → Type 0) (a : AtLine) → AtHolds role b X a → AtHolds role b X (act a)) → PadTypes role p b
    → TypesAfter role b (pad.terminal_event number act p)
terminal_holds role p b number act f h =
    ended_holds role b (pad.at_port number act (pad.begun p)) (port_holds role b number act (pad.begun p) f (begun_holds role p b h))

-- nothing happens, and nothing is left to be written
nothing_holds : (role : Role) (p : PadState) (b : Book) → p.line.notes ≡ [] → PadTypes role p b → TypesAfter role b p
nothing_holds role p b none h = subst (λ (ns : List ChannelNote). PadTypes role p (noted role ns b)) (sym none) h

-- ---- the laws

pub key_types : (role : Role) (p : PadState) (number octet : ℕ) (b : Book) → PadTypes role p b → TypesAfter role b (pad.terminal_event number (port.after_key octet) p)
key_types role p number octet b h = terminal_holds role p b number (port.after_key octet) (λ X a k. key_holds role b X octet a k) h

pub break_types : (role : Role) (p : PadState) (number : ℕ) (b : Book) → PadTypes role p b → TypesAfter role b (pad.terminal_event number port.after_break p)
break_types role p number b h = terminal_holds role p b number port.after_break (λ X a k. break_holds role b X a k) h

pub print_types : (role : Role) (p : PadState) (number : ℕ) (b : Book) → PadTypes role p b → TypesAfter role b (pad.terminal_event number port.after_print p)
print_types role p number b h = terminal_holds role p b number port.after_print (λ X a k. print_holds role b X a k) h

pub leaving_types : (role : Role) (p : PadState) (number : ℕ) (b : Book) → PadTypes role p b → TypesAfter role b (pad.terminal_event number port.after_leaving p)
leaving_types role p number b h = terminal_holds role p b number port.after_leaving (λ X a k. leaving_holds role b X a k) h

pub arrival_types : (role : Role) (p : PadState) (number : ℕ) (b : Book) → PadTypes role p b → TypesAfter role b (pad.terminal_event number port.after_arrival p)
arrival_types role p number b h = terminal_holds role p b number port.after_arrival (λ X a k. arrival_holds role b X a k) h

pub frame_types : (role : Role) (p : PadState) (octets : Octets) (b : Book) → PadTypes role p b → TypesAfter role b (pad.after_frame p octets)
frame_types role p octets b h =
    line_holds role b (had_in p) (pad.with_end (received (begun p.line.end) octets) (pad.begun p)) (received_same (begun p.line.end) octets ∙ h.size) refl h.ports h.alone h.calls h.book
    (received_tells (had_in p) (begun p.line.end) octets (begun_tells role p b h)) (received_last (begun p.line.end) octets tt)

pub relink_types : (role : Role) (p : PadState) (b : Book) → PadTypes role p b → TypesAfter role b (pad.after_relink p)
relink_types role p b h =
    line_holds role b (had_in p) (pad.with_end (relinked (begun p.line.end)) (pad.begun p)) h.size refl h.ports h.alone h.calls h.book
    (relinked_tells (had_in p) (begun p.line.end) (begun_tells role p b h)) (relinked_last (begun p.line.end) tt)

pub idle_types : (role : Role) (p : PadState) (number : ℕ) (b : Book) → p.line.notes ≡ [] → PadTypes role p b → TypesAfter role b (pad.after_idle number p)
idle_types role p number b none h = by (pad.runs_idle_timer number p)
  where
    by : (v : Bool) → TypesAfter role b (if v then pad.terminal_event number port.after_idle p else p)
    by true = terminal_holds role p b number port.after_idle (λ X a k. idle_holds role b X a k) h
    by false = nothing_holds role p b none h

expiry_types : (role : Role) (p : PadState) (id : TimerId) (b : Book) → p.line.notes ≡ [] → PadTypes role p b → TypesAfter role b (pad.after_expiry p id)
expiry_types role p id b none h = by (runs_at p.line.end id)
  where
    by : (v : Bool) → TypesAfter role b (if v then pad.line_event (pad.with_end (after_timer (begun p.line.end) id) (pad.begun p)) else p)
    by true =
        line_holds role b (had_in p) (pad.with_end (after_timer (begun p.line.end) id) (pad.begun p)) (timer_same (begun p.line.end) id ∙ h.size) refl h.ports h.alone h.calls h.book
        (timer_tells (had_in p) (begun p.line.end) id (begun_tells role p b h)) (timer_last (begun p.line.end) id h.unread tt)
    by false = nothing_holds role p b none h

pub timer_types : (role : Role) (p : PadState) (id : TimerId) (b : Book) → p.line.notes ≡ [] → PadTypes role p b → TypesAfter role b (pad.after_timer p id)
timer_types role p (Idle number) b none h = idle_types role p number b none h
timer_types role p id b none h = expiry_types role p id b none h

-- ---- a restart, time, what is read, and the other end

restarted_port : (ports : List PortState) (j : ℕ) (q : PortState) → slice_get (map port.restarted ports) j ≡ Some q → (p : PortState) × (port.restarted p ≡ q)
restarted_port ports j q at = from (slice_get ports j) (sym (slice_get-map port.restarted ports j) ∙ at)
  where
    from : (o : Option PortState) → option_map port.restarted o ≡ Some q → (p : PortState) × (port.restarted p ≡ q)
    from None f = absurd (none-some q f)
    from (Some p) f = (p, same_Some (port.restarted p) q f)

none_on : (ports : List PortState) (j c : ℕ) (q : PortState) (P : Type 0) → IsOn (map port.restarted ports) j c q → P
none_on ports j c q P on =
    let r = restarted_port ports j q on.0 in
    absurd (true≢false (sym (ap (λ (z : PortState). has_channel z.call c) r.1 ∙ on.1)))

pub restart_types : (role : Role) (p : PadState) (b : Book) → PadTypes role p b → PadTypes role (pad.restarted p) (all_written role (AllClosed ∷ []) b)
restart_types role p b h = record {
  size = h.size;
  book = narrowed role (TextOf p.ports) (TextOf (map port.restarted p.ports)) _ (λ c t x. none_on p.ports x.0 c x.1 (TextOf p.ports c t) (x.2, x.3)) (all_closed_holds role (TextOf p.ports) role b h.book);
  read = refl;
  unread = refl;
  ports = λ j q at. (let r = restarted_port p.ports j q at in subst (λ (z : PortState). IsPort z) r.1 (restarted_is r.0));
  alone = λ i j c q r e f. none_on p.ports i c q (i ≡ j) e;
  calls = λ i c q on. none_on p.ports i c q _ on;
}
  where
    restarted_is : (q : PortState) → IsPort (port.restarted q)
    restarted_is q = record { free = λ e. refl; bare = λ e. refl; empty = λ e. refl; short = omega arith }

elapsed_back : (ticks : ℕ) (ports : List PortState) → ((j : ℕ) (q : PortState) → slice_get ports j ≡ Some q → IsPort q) → Back ports (map (port.elapsed ticks) ports)
elapsed_back ticks ports each = record { from = λ j q at. from j q (slice_get ports j) refl (sym (slice_get-map (port.elapsed ticks) ports j) ∙ at) }
  where
    from : (j : ℕ) (q : PortState) (o : Option PortState) → slice_get ports j ≡ o → option_map (port.elapsed ticks) o ≡ Some q
        → IsPort q × (p : PortState) × (slice_get ports j ≡ Some p) × ((c : ℕ) → has_channel q.call c ≡ true → (has_channel p.call c ≡ true) × (q.terminal.held ≡ p.terminal.held))
    from j q None e f = absurd (none-some q f)
    from j q (Some p) e f =
        let same : port.elapsed ticks p ≡ q = same_Some (port.elapsed ticks p) q f in
        let is : IsPort (port.elapsed ticks p) = port_same p p.terminal p.call (port.elapsed ticks p).idle_left (refl, refl) (λ n. n) (λ n. n) (each j p e) in
        (subst (λ (z : PortState). IsPort z) same is, p, e, λ c on. (ap (λ (z : PortState). has_channel z.call c) same ∙ on, ap (λ (z : PortState). z.terminal.held) (sym same)))

pub time_types : (role : Role) (p : PadState) (ticks : ℕ) (b : Book) → PadTypes role p b → PadTypes role (pad.elapsed ticks p) b
time_types role p ticks b h =
    let back = elapsed_back ticks p.ports h.ports in
    let after : List PortState = map (port.elapsed ticks) p.ports in
    record {
      size = h.size;
      book = narrowed role (TextOf p.ports) (TextOf after) b (text_back p.ports after back) h.book;
      read = h.read;
      unread = h.unread;
      ports = λ j q at. (back.from j q at).0;
      alone = alone_back p.ports after back h.alone;
      calls = λ i c q on. (let r = on_back p.ports after back i c q on in h.calls i c r.0 r.1);
    }

pub drained_types : (role : Role) (p : PadState) (b : Book) → PadTypes role p b → PadTypes role (drained p) b
drained_types role p b h = record { size = h.size; book = h.book; read = h.read; unread = h.unread; ports = h.ports; alone = h.alone; calls = h.calls }

pub far_types : (role : Role) (p : PadState) (writes : List Write) (b : Book) → PadTypes role p b → PadTypes role p (all_written (other_of role) writes b)
far_types role p writes b h = record {
  size = h.size;
  book = far_written role (TextOf p.ports) writes b h.book;
  read = h.read;
  unread = h.unread;
  ports = h.ports;
  alone = h.alone;
  calls = h.calls;
}
